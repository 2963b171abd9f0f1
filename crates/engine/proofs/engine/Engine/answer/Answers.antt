use Rattle.std.proofs.Common.{◌≡◌, Ok, Err, Result, IsErrAnd, ap}
use Rattle.rounds.specs.declared.faults.SessionFault.{SessionFault}
use Rattle.messages.specs.declared.answers.Answer.{Answer}
use Rattle.messages.specs.declared.faults.MessageFault.{MessageFault}
use Rattle.messages.specs.declared.faults.MessageFault.TheVariants.{Session}
use Rattle.engine.proofs.engine.Engine.answer.Goals as goal

-- what `?` makes of a refusal of the session
refusal : (r : Result Answer MessageFault) (f : SessionFault) → IsErrAnd r (λ e. e ≡ Session f) → r ≡ Err (Session f)
refusal (Ok a) f h = absurd h
refusal (Err e) f h = ap Err h

pub returns-in_ok-announce-in-Announce-clause-outcome : goal.returns-in_ok-announce-in-Announce-clause-outcome
returns-in_ok-announce-in-Announce-clause-outcome g c = rw c.in-Announce.is c.in_ok-announce-in-Announce.ensures.outcome

pub returns-in_err-announce-in-Announce-clause-outcome : goal.returns-in_err-announce-in-Announce-clause-outcome
returns-in_err-announce-in-Announce-clause-outcome g c =
    let e = refusal c.from_residual-in_err-announce-in-Announce.result c.in_err-announce-in-Announce.field-0.0 c.from_residual-in_err-announce-in-Announce.ensures.1 in
    rw (c.in-Announce.is, e) c.in_err-announce-in-Announce.ensures.outcome

pub returns-in_err-reissue-in-Reissue-clause-outcome : goal.returns-in_err-reissue-in-Reissue-clause-outcome
returns-in_err-reissue-in-Reissue-clause-outcome g c =
    let e = refusal c.from_residual-in_err-reissue-in-Reissue.result c.in_err-reissue-in-Reissue.field-0.0 c.from_residual-in_err-reissue-in-Reissue.ensures.1 in
    rw (c.in-Reissue.is, e) c.in_err-reissue-in-Reissue.ensures.outcome
