-- A call that the stage never takes.
use Rattle.std.specs.Prelude.{ℕ, cond, nat_lt}
use Rattle.rounds.specs.declared.faults.SessionFault.{SessionFault}
use Rattle.rounds.specs.declared.faults.SessionFault.TheVariants.{Time, WrongStage}

-- its time is looked at first
abbrev pub misplaced_at : ℕ → SessionFault
misplaced_at time = cond (nat_lt 86399999 time) Time WrongStage
