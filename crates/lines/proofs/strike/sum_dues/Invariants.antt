use Rattle.std.proofs.Common.{◌≡◌, ℕ, ◌<◌, length, take}
use Rattle.lines.specs.Striking.{due_in}
use Rattle.lines.specs.Lines.{due_to}
use Rattle.lines.proofs.strike.sum_dues.Given as goal

abbrev pub invariant-loop-line : goal.invariant-loop-line
invariant-loop-line g l = (length l.dues ≡ 256) × ((k : ℕ) → k < length l.dues → due_in l.dues k ≡ due_to g.C.QuotedContract.MARGIN.0 l.which (take l.line-index l.lines) k)
