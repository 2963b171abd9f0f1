-- Suspension, and the two measures that end it.
use Rattle.std.specs.Prelude.{ℕ, cond, ◌||◌, Ok, Err, nat_lt}
use Rattle.measures.specs.declared.Ticks.{Ticks}
use Rattle.books.specs.Accounts.{Accounts}
use Rattle.rounds.specs.Gates.{Check, then_ok, admitted, price_fits}
use Rattle.rounds.specs.Stages.{is_market, is_supplementary, is_halted, is_suspended}
use Rattle.rounds.specs.declared.answers.Standing.{Standing}
use Rattle.rounds.specs.declared.faults.SessionFault.TheVariants.{LastRound}
use Rattle.rounds.specs.declared.sides.Struck.TheVariants.{All}
use Rattle.rounds.specs.declared.stages.Stage.TheVariants.{Suspended}
use Rattle.session.specs.Periods.{entered, reissued, announced}
use Rattle.session.specs.State.{State, Outcome, after, with_period, turned}
use Rattle.session.specs.Striking.{strike_into}

module _ {P : Type 0} where
  abbrev pub suspend_check : State P → ℕ → Check
  suspend_check s time = admitted (is_market s.period.stage || (is_supplementary s.period.stage || is_halted s.period.stage)) s.period time

  abbrev pub suspend_outcome : State P → Accounts → ℕ → Outcome P Standing
  suspend_outcome s m time = after (suspend_check s time) s m (turned (with_period s (entered s.period Suspended time)) m)

  abbrev pub measure_check : State P → ℕ → ℕ → Check
  measure_check s time price = then_ok (admitted (is_suspended s.period.stage) s.period time) (price_fits 0 price)

  -- there is no round after the sixty-fourth
  abbrev pub round_left : State P → Check
  round_left s = cond (nat_lt s.period.round 64) (Ok tt) (Err LastRound)

  -- a measure strikes all lines
  abbrev pub reissue_outcome : ℕ → State P → Accounts → ℕ → Ticks → Outcome P Standing
  reissue_outcome margin s m time price =
      after (then_ok (measure_check s time price.0) (round_left s)) s m (strike_into margin s m All (reissued s.period price time))

  abbrev pub announce_outcome : ℕ → State P → Accounts → ℕ → Ticks → Outcome P Standing
  announce_outcome margin s m time price =
      after (measure_check s time price.0) s m (strike_into margin s m All (announced s.period price time))
