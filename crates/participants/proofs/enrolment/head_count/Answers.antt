use Rattle.std.proofs.Common.{rules}
use Rattle.participants.proofs.Seated.{count-more}
use Rattle.participants.specs.Participants.{is_fixing, is_seat}
use Rattle.participants.proofs.enrolment.head_count.Goals as goal

pub loop-row-preserved : goal.loop-row-preserved
loop-row-preserved g c = search (rules, count-more is_fixing, count-more is_seat)
