use Rattle.std.specs.Prelude.{ℕ, ◌+◌, ◌*◌, ◌/◌, ◌%◌, ◌^◌, cond, ◌&&◌, List, [], ◌∷◌, nat_lt}
use Rattle.participants.specs.declared.rows.Listed.{Listed}
use Rattle.messages.specs.declared.rows.OpenRow.{OpenRow}
use Rattle.messages.specs.declared.lent.Lent.{Lent}
use Rattle.messages.specs.Lent.{lent_of}

-- the row of two figures: a participant's kind × 65,536 and carrier, and its free millions of fen
abbrev pub row_of : ℕ → ℕ → OpenRow
row_of p m = record { kind = p / 65536; carrier = p % 65536; millions = m }

-- what stands past the end of the rows
abbrev pub blank_row : OpenRow
blank_row = row_of 0 0

-- a participant as one figure; one with a kind over 12 bits or a carrier over 16 has none, and 2 ^ 28, which no word holds, stands for it
abbrev pub participant_figure : OpenRow → ℕ
participant_figure r = cond (nat_lt r.kind 4096 && nat_lt r.carrier 65536) (r.kind * 65536 + r.carrier) (2 ^ 28)

-- figures read two by two
abbrev pub paired : List ℕ → List OpenRow
paired [] = []
paired (x ∷ []) = []
paired (x ∷ y ∷ r) = row_of x y ∷ paired r

-- and rows as figures, two each
abbrev pub flat : List OpenRow → List ℕ
flat [] = []
flat (r ∷ rs) = participant_figure r ∷ r.millions ∷ flat rs

-- the rows, wherever they lie
abbrev pub rows_of : Lent OpenRow → List OpenRow
rows_of rs = lent_of paired rs

-- a row as the session takes it
abbrev pub listed_of : OpenRow → Listed
listed_of r = record { kind = r.kind; carrier = r.carrier }
