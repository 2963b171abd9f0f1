use Rattle.std.proofs.Common.{◌≡◌, Ok}
use Rattle.lines.specs.Striking.{due_in}
use Rattle.lines.specs.Striking.{covers_all}
use Rattle.lines.proofs.strike.check_dues.Given as goal

abbrev pub invariant-loop-row : goal.invariant-loop-row
invariant-loop-row g l = covers_all (g.B.MarginBook.means l.book) (due_in l.dues) l.row ≡ Ok tt
