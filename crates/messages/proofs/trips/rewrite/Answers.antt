use Rattle.messages.proofs.Trip.{reads-back, writes-back}
use Rattle.messages.proofs.Cuts.{rejoins}
use Rattle.messages.proofs.trips.rewrite.Goals as goal

pub returns-clause-reads : goal.returns-clause-reads
returns-clause-reads c = reads-back

pub returns-clause-writes : goal.returns-clause-writes
returns-clause-writes c = writes-back

pub returns-clause-rejoins : goal.returns-clause-rejoins
returns-clause-rejoins c = rejoins

pub returns-in_err-call-clause-reads : goal.returns-in_err-call-clause-reads
returns-in_err-call-clause-reads c = reads-back

pub returns-in_err-call-clause-writes : goal.returns-in_err-call-clause-writes
returns-in_err-call-clause-writes c = writes-back

pub returns-in_err-call-clause-rejoins : goal.returns-in_err-call-clause-rejoins
returns-in_err-call-clause-rejoins c = rejoins
