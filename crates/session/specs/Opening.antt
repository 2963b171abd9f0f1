-- The opening of a session.
use Rattle.std.specs.Prelude.{◌≡◌, ℕ, List, [], length, replicate, None, Ok, Err, Result}
use Rattle.measures.specs.declared.Ticks.{Ticks}
use Rattle.sharing.specs.declared.table_order.TableOrder.{TableOrder}
use Rattle.rounds.specs.Gates.{Check, then_ok, time_fits, price_fits}
use Rattle.rounds.specs.declared.faults.SessionFault.{SessionFault}
use Rattle.participants.specs.Rosters.{enrolled, roster_check}
use Rattle.participants.specs.declared.rows.Listed.{Listed}
use Rattle.lines.specs.Entries.{limit_fits}
use Rattle.lines.specs.Fills.{no_fill}
use Rattle.session.specs.Periods.{opened_period}
use Rattle.session.specs.State.{State}
use Rattle.session.specs.declared.open.RefusedOpening.{RefusedOpening}

-- want of memory is one more refusal, and comes after these
abbrev pub open_check : List Listed → ℕ → ℕ → ℕ → Check
open_check ls time previous limit =
    then_ok (time_fits time)
    (then_ok (price_fits 0 previous)
    (then_ok (limit_fits limit)
    (roster_check ls)))

-- a session just opened: no quote, no line, nothing filled
abbrev pub opened : {P : Type 0} → List Listed → ℕ → Ticks → ℕ → P → State P
opened ls time previous limit policy = record {
  rows = enrolled ls;
  quotes = replicate (length (enrolled ls)) None;
  lines = [];
  limit = limit;
  fills = replicate 256 no_fill;
  period = opened_period previous time;
  policy = policy;
}

-- an opening with no policy named takes table order
abbrev pub in_table_order : TableOrder
in_table_order = record {}

-- a refused opening hands the policy back; its fault alone
abbrev pub fault_of : {S P : Type 0} → Result S (RefusedOpening P) → Result S SessionFault
fault_of (Ok s) = Ok s
fault_of (Err e) = Err e.fault
