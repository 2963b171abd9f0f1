use Rattle.std.proofs.Common.{◌≡◌, Ok}
use Rattle.participants.specs.Rosters.{rows_fit}
use Rattle.participants.proofs.enrolment.check_rows.Given as goal

abbrev pub invariant-loop-row : goal.invariant-loop-row
invariant-loop-row g l = rows_fit (g.R.Roster.listed l.roster) l.row ≡ Ok tt
