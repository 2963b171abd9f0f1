use Rattle.std.proofs.Common.{◌≡◌, ◌≤◌}
use Rattle.participants.specs.Rosters.{copied}
use Rattle.participants.specs.Participants.{member_count, seat_count}
use Rattle.participants.proofs.enrolment.head_count.Given as goal

abbrev pub invariant-loop-row : goal.invariant-loop-row
invariant-loop-row g l =
    (l.members ≡ member_count (copied (g.R.Roster.listed l.roster) l.row)) × (l.members ≤ l.row)
    × (l.seats ≡ seat_count (copied (g.R.Roster.listed l.roster) l.row)) × (l.seats ≤ l.row)
