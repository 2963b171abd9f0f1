-- The end of a period.
use Rattle.std.specs.Prelude.{ℕ, cond, ◌||◌, Some, None, Option, ◌==◌, nat_le, nat_lt}
use Rattle.measures.specs.declared.Ticks.{Ticks}
use Rattle.books.specs.Accounts.{Accounts}
use Rattle.rounds.specs.Gates.{Check, then_ok, admitted, ended}
use Rattle.rounds.specs.Moves.{up_for, move_for, moved_price, struck_by}
use Rattle.rounds.specs.Stages.{is_market, is_supplementary}
use Rattle.rounds.specs.declared.answers.Standing.{Standing}
use Rattle.rounds.specs.declared.periods.Move.{Move}
use Rattle.rounds.specs.declared.stages.Stage.TheVariants.{Halted}
use Rattle.lines.specs.Lines.{imbalance, excess}
use Rattle.session.specs.Fixing.{fixed}
use Rattle.session.specs.Periods.{entered, supplemented, next_round}
use Rattle.session.specs.State.{State, Outcome, after, with_period, turned}
use Rattle.session.specs.Striking.{strike_into}

module _ {P : Type 0} where
  abbrev pub close_check : State P → ℕ → Check
  close_check s time =
      then_ok (admitted (is_market s.period.stage || is_supplementary s.period.stage) s.period time)
      (ended s.period.ends time)

  -- the move for the imbalance that remains, up for a buying excess
  abbrev pub close_move : (ℕ → ℕ) → State P → Move
  close_move step s = move_for (step (imbalance s.lines)) (up_for (excess s.lines)) s.period.last

  -- a market period that ends level fixes the price
  abbrev pub market_outcome : (P → ℕ → ℕ → ℕ → ℕ) → (P → ℕ → ℕ → P) → State P → Accounts → ℕ → Outcome P Standing
  market_outcome share told s m time =
      cond (imbalance s.lines == 0)
      (turned (fixed share told s time) m)
      (turned (with_period s (supplemented s.period (excess s.lines) (imbalance s.lines) time)) m)

  -- a move strikes the side of the excess and opens the next round; a price out of its bounds, or a round after the last, halts the session
  abbrev pub move_outcome : ℕ → State P → Accounts → ℕ → Move → Option Ticks → Outcome P Standing
  move_outcome margin s m time by None = turned (with_period s (entered s.period Halted time)) m
  move_outcome margin s m time by (Some price) =
      cond (nat_lt s.period.round 64)
      (strike_into margin s m (struck_by by.up) (next_round s.period by price time))
      (turned (with_period s (entered s.period Halted time)) m)

  -- an imbalance within the threshold fixes the price; any other moves it
  abbrev pub supplementary_outcome : ℕ → ℕ → (ℕ → ℕ) → (P → ℕ → ℕ → ℕ → ℕ) → (P → ℕ → ℕ → P) → State P → Accounts → ℕ → Outcome P Standing
  supplementary_outcome margin threshold step share told s m time =
      cond (nat_le (imbalance s.lines) threshold)
      (turned (fixed share told s time) m)
      (move_outcome margin s m time (close_move step s) (moved_price s.period.price.0 (close_move step s)))

  abbrev pub close_outcome : ℕ → ℕ → (ℕ → ℕ) → (P → ℕ → ℕ → ℕ → ℕ) → (P → ℕ → ℕ → P) → State P → Accounts → ℕ → Outcome P Standing
  close_outcome margin threshold step share told s m time =
      after (close_check s time) s m
      (cond (is_market s.period.stage) (market_outcome share told s m time) (supplementary_outcome margin threshold step share told s m time))
