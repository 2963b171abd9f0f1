-- The periods of a session: when each ends, and what comes after it.
use Rattle.std.specs.Prelude.{◌≡◌, ℕ, ◌+◌, ◌≤◌, true, cond, ◌||◌, Some, None, nat_le, nat_lt}
use Rattle.measures.specs.declared.Ticks.{Ticks}
use Rattle.rounds.specs.Moves.{of_ticks}
use Rattle.rounds.specs.Stages.{is_quoting}
use Rattle.rounds.specs.declared.periods.Move.{Move}
use Rattle.rounds.specs.declared.periods.Period.{Period}
use Rattle.rounds.specs.declared.sides.Side.{Side}
use Rattle.rounds.specs.declared.sides.Side.TheVariants.{Buy}
use Rattle.rounds.specs.declared.stages.Stage.{Stage}
use Rattle.rounds.specs.declared.stages.Stage.TheVariants.{Quoting, Market, Supplementary, Announced}

-- what the period of a session keeps to: the benchmark before it is a price and, once quoting is over, so is the Offered Price;
-- a round is at most the sixty-fourth, times are of one day, and a last move was of a tick or more
abbrev pub Lawful : Period → Type 0
Lawful p =
    (p.price.0 ≤ 10000000)
    × ((is_quoting p.stage || nat_le 1 p.price.0) ≡ true)
    × (1 ≤ p.previous.0) × (p.previous.0 ≤ 10000000)
    × (p.round ≤ 64)
    × (p.clock ≤ 86399999) × (p.ends ≤ 86700000)
    × (of_ticks p.last ≡ true)

-- quoting lasts 300,000 ms when opened before noon, else 240,000
abbrev pub quoting_ends : ℕ → ℕ
quoting_ends time = time + cond (nat_lt time 43200000) 300000 240000

abbrev pub opened_period : Ticks → ℕ → Period
opened_period previous time = record { stage = Quoting; round = 0; price = record { 0 = 0 }; previous = previous; clock = time; ends = quoting_ends time; last = None; excess = record { side = Buy; lots = record { 0 = 0 } } }

-- an accepted call sets the clock
abbrev pub clocked : Period → ℕ → Period
clocked p time = record { stage = p.stage; round = p.round; price = p.price; previous = p.previous; clock = time; ends = p.ends; last = p.last; excess = p.excess }

-- round 1 starts in a market period of 60,000 ms
abbrev pub begun : Period → ℕ → ℕ → Period
begun p price time = record { stage = Market; round = 1; price = record { 0 = price }; previous = p.previous; clock = time; ends = time + 60000; last = None; excess = p.excess }

-- the supplementary period lasts 10,000 ms, against the excess of the market period
abbrev pub supplemented : Period → Side → ℕ → ℕ → Period
supplemented p side lots time = record { stage = Supplementary; round = p.round; price = p.price; previous = p.previous; clock = time; ends = time + 10000; last = p.last; excess = record { side = side; lots = record { 0 = lots } } }

-- the next round starts in a market period of 30,000 ms
abbrev pub next_round : Period → Move → Ticks → ℕ → Period
next_round p by price time = record { stage = Market; round = p.round + 1; price = price; previous = p.previous; clock = time; ends = time + 30000; last = Some by; excess = p.excess }

-- another stage of the same round, at the same price
abbrev pub entered : Period → Stage → ℕ → Period
entered p stage time = record { stage = stage; round = p.round; price = p.price; previous = p.previous; clock = time; ends = p.ends; last = p.last; excess = p.excess }

-- a new round starts at the price that is set, in a market period of 60,000 ms, with no last move
abbrev pub reissued : Period → Ticks → ℕ → Period
reissued p price time = record { stage = Market; round = p.round + 1; price = price; previous = p.previous; clock = time; ends = time + 60000; last = None; excess = p.excess }

-- the benchmark is set, and nothing is filled
abbrev pub announced : Period → Ticks → ℕ → Period
announced p price time = record { stage = Announced; round = p.round; price = price; previous = p.previous; clock = time; ends = p.ends; last = p.last; excess = p.excess }
