use Rattle.std.proofs.Common.{◌≡◌}
use Rattle.lines.specs.Striking.{due_in}
use Rattle.lines.specs.Striking.{released_all}
use Rattle.lines.proofs.strike.release_dues.Given as goal

abbrev pub invariant-loop-row : goal.invariant-loop-row
invariant-loop-row g l = g.B.MarginBook.means l.book ≡ released_all (g.B.MarginBook.means l.initial.book) (due_in l.dues) l.row
