-- The fix.
use Rattle.std.specs.Prelude.{ℕ}
use Rattle.rounds.specs.declared.stages.Stage.TheVariants.{Fixed}
use Rattle.participants.specs.Participants.{member_count}
use Rattle.lines.specs.Fills.{shares_of, fills_of}
use Rattle.lines.specs.Lines.{imbalance}
use Rattle.session.specs.Periods.{entered}
use Rattle.session.specs.State.{State, with_period, with_fills}

-- the fills are kept, with the shares that the policy gives as it stands, and then it is told of members and excess
abbrev pub fixed : {P : Type 0} → (P → ℕ → ℕ → ℕ → ℕ) → (P → ℕ → ℕ → P) → State P → ℕ → State P
fixed share told s time =
    with_period (with_fills s (fills_of (shares_of share s.policy s.rows s.lines) s.rows s.lines) (told s.policy (member_count s.rows) (imbalance s.lines))) (entered s.period Fixed time)
