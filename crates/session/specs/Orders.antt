-- What a suspension and a measure answer, without the order.
use Rattle.std.specs.Prelude.{Ok, Err, Result}
use Rattle.rounds.specs.declared.answers.Standing.{Standing}
use Rattle.rounds.specs.declared.faults.SessionFault.{SessionFault}
use Rattle.session.specs.declared.orders.RefusedMeasure.{RefusedMeasure}
use Rattle.session.specs.declared.orders.SuspensionOrder.{SuspensionOrder}

-- a suspension hands the order out
abbrev pub without_order : Result (Standing × SuspensionOrder) SessionFault → Result Standing SessionFault
without_order (Ok p) = Ok p.0
without_order (Err f) = Err f

-- a refused measure hands it back
abbrev pub with_order : Result Standing RefusedMeasure → Result Standing SessionFault
with_order (Ok s) = Ok s
with_order (Err e) = Err e.fault
