-- The line table, and what is entered in it.
use Rattle.std.specs.Prelude.{◌≡◌, ℕ, Bool, cond, ◌&&◌, ◌||◌, List, length, Some, None, Ok, Err, vec_items, Option, nat_le, nat_lt, slice_index_or}
use Rattle.rounds.specs.Gates.{Check}
use Rattle.rounds.specs.declared.faults.SessionFault.TheVariants.{LineLimit}
use Rattle.lines.specs.Lines.{lawful_line, no_line}
use Rattle.lines.specs.declared.line.Line.{Line}
use Rattle.lines.specs.declared.table.LineTable.{LineTable}

abbrev pub lines_of : LineTable → List Line
lines_of t = vec_items t.lines

abbrev pub limit_of : LineTable → ℕ
limit_of t = t.limit

-- how many participants the lines belong to
abbrev pub width_of : LineTable → ℕ
width_of t = t.rows

-- the room of a table stays: its limit, and how many participants its lines belong to
abbrev pub SameRoom : LineTable → LineTable → Type 0
SameRoom t u = (limit_of u ≡ limit_of t) × (width_of u ≡ width_of t)

-- a line table has room for 1 to 4,096 lines
abbrev pub limit_fits : ℕ → Check
limit_fits limit = cond (nat_lt limit 1 || nat_lt 4096 limit) (Err LineLimit) (Ok tt)

-- it is used up when the accepted tenders equal its limit
abbrev pub used_up : LineTable → Bool
used_up t = nat_le (limit_of t) (length (lines_of t))

-- a line can be entered where there is room for it and it keeps to its bounds
abbrev pub holds : LineTable → Line → Bool
holds t l = nat_lt (length (lines_of t)) (limit_of t) && lawful_line (width_of t) l

-- the line of a number, if it was made
abbrev pub line_at : List Line → ℕ → Option Line
line_at ls i = cond (nat_lt i (length ls)) (Some (slice_index_or ls i no_line)) None
