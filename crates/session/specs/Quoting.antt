-- A quote.
use Rattle.std.specs.Prelude.{ℕ, cond, Some, Ok, Err, slice_set}
use Rattle.books.specs.Accounts.{Accounts}
use Rattle.rounds.specs.Gates.{Check, then_ok, given, admitted, in_time, price_fits}
use Rattle.rounds.specs.Stages.{is_quoting}
use Rattle.rounds.specs.declared.answers.Standing.{Standing}
use Rattle.rounds.specs.declared.faults.SessionFault.TheVariants.{WrongKind}
use Rattle.participants.specs.Participants.{is_seat}
use Rattle.participants.specs.Rosters.{kind_at}
use Rattle.participants.specs.declared.kinds.Kind.{Kind}
use Rattle.session.specs.Periods.{clocked}
use Rattle.session.specs.State.{State, Outcome, after, with_period, with_quotes, turned}

-- only quoting seats quote
abbrev pub seat_may : Kind → Check
seat_may kind = cond (is_seat kind) (Ok tt) (Err WrongKind)

module _ {P : Type 0} where
  abbrev pub seat_check : State P → ℕ → ℕ → Check
  seat_check s time row =
      then_ok (admitted (is_quoting s.period.stage) s.period time)
      (then_ok (in_time s.period.ends time)
      (given (kind_at s.rows row) seat_may))

  abbrev pub quote_check : State P → ℕ → ℕ → ℕ → Check
  quote_check s time row price = then_ok (seat_check s time row) (price_fits 0 price)

  -- a seat's later quote replaces its earlier one
  abbrev pub quote_outcome : State P → Accounts → ℕ → ℕ → ℕ → Outcome P Standing
  quote_outcome s m time row price =
      after (quote_check s time row price) s m
      (turned (with_period (with_quotes s (slice_set s.quotes row (Some (record { 0 = price })))) (clocked s.period time)) m)
