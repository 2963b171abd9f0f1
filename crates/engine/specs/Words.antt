-- Bytes as words.
use Rattle.std.specs.Prelude.{ℕ, ◌/◌, List, map, length}
use Rattle.std.specs.Int.{from_le_bytes, w32}
use Rattle.std.specs.Simd.{first_chunks}

-- four bytes are a word, the lowest first; a shorter rest is dropped
abbrev pub words_of : List ℕ → List ℕ
words_of bytes = map (from_le_bytes w32) (first_chunks 4 (length bytes / 4) bytes)
