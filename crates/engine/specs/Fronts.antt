-- Two words at the front of a buffer.
use Rattle.std.specs.Prelude.{ℕ, List, slice_index, slice_set}

-- the rest stays as it was
abbrev pub fronted : List ℕ → List ℕ → List ℕ
fronted out words = slice_set (slice_set out 0 (slice_index words 0)) 1 (slice_index words 1)
