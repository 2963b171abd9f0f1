use Rattle.std.proofs.Common.{◌≡◌, ℕ, ◌<◌, length, get_or, take}
use Rattle.lines.specs.Lines.{lots_on, of_row}
use Rattle.lines.specs.Fills.{no_fill, filled_on}
use Rattle.rounds.specs.declared.sides.Side.{Side}
use Rattle.lines.proofs.filling.fill_lines.Given as goal

abbrev pub invariant-loop-line : goal.invariant-loop-line
invariant-loop-line l = (length l.fills ≡ 256) × ((side : Side) (k : ℕ) → k < length l.fills → filled_on side (get_or l.fills k no_fill) ≡ of_row (lots_on side) (take l.line-index l.lines) k)
