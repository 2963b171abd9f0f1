-- The beginning of round 1.
use Rattle.std.specs.Prelude.{ℕ, ◌+◌, List}
use Rattle.books.specs.Accounts.{Accounts}
use Rattle.rounds.specs.Gates.{Check, then_ok, admitted, ended}
use Rattle.rounds.specs.Stages.{is_quoting}
use Rattle.rounds.specs.declared.answers.Standing.{Standing}
use Rattle.participants.specs.Participants.{seat_count}
use Rattle.session.specs.Initial.{count_fits, prices_fit, initial_price}
use Rattle.session.specs.Periods.{begun}
use Rattle.session.specs.State.{State, Outcome, after, with_period, turned}

module _ {P : Type 0} where
  -- trading begins 60,000 ms after quoting is over: 360,000 after a morning opening, 300,000 after an afternoon one
  abbrev pub begin_check : State P → ℕ → List ℕ → Check
  begin_check s time ps =
      then_ok (count_fits ps)
      (then_ok (admitted (is_quoting s.period.stage) s.period time)
      (then_ok (ended (s.period.ends + 60000) time)
      (prices_fit 0 ps)))

  abbrev pub begin_outcome : State P → Accounts → ℕ → List ℕ → Outcome P Standing
  begin_outcome s m time ps =
      after (begin_check s time ps) s m
      (turned (with_period s (begun s.period (initial_price (seat_count s.rows) s.quotes ps s.period.previous.0) time)) m)
