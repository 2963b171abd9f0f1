-- How far the price moves, and whither.
use Rattle.std.specs.Prelude.{ℕ, ◌+◌, ◌-◌, ◌/◌, ◌<◌, Bool, true, false, cond, ◌&&◌, Some, None, Option, nat_le}
use Rattle.measures.specs.declared.Ticks.{Ticks}
use Rattle.rounds.specs.declared.sides.Side.{Side}
use Rattle.rounds.specs.declared.sides.Side.TheVariants.{Buy, Sell}
use Rattle.rounds.specs.declared.sides.Struck.{Struck}
use Rattle.rounds.specs.declared.sides.Struck.TheVariants.{Only}
use Rattle.rounds.specs.declared.periods.Move.{Move}

abbrev pub same_way : Bool → Bool → Bool
same_way true b = b
same_way false true = false
same_way false false = true

-- up for a buying excess
abbrev pub up_for : Side → Bool
up_for Buy = true
up_for Sell = false

-- a move against the last one is half its size, rounded up
abbrev pub move_size : ℕ → Bool → Option Move → ℕ
move_size step up None = step
move_size step up (Some last) = cond (same_way last.up up) step ((last.size.0 + 1) / 2)

abbrev pub move_for : ℕ → Bool → Option Move → Move
move_for step up last = record { up = up; size = record { 0 = move_size step up last } }

-- a number as a price, if it is 1 to 10,000,000 ticks
abbrev pub as_price : ℕ → Option Ticks
as_price n = cond (nat_le 1 n && nat_le n 10000000) (Some (record { 0 = n })) None

-- the price after a move, if it is still one
abbrev pub moved_price : ℕ → Move → Option Ticks
moved_price p by = as_price (cond by.up (p + by.size.0) (p - by.size.0))

-- a rise strikes the buy lines, a fall the sell lines
abbrev pub struck_by : Bool → Struck
struck_by true = Only Buy
struck_by false = Only Sell

-- a last move, if there is one, is of a tick or more
abbrev pub of_ticks : Option Move → Bool
of_ticks None = true
of_ticks (Some last) = nat_le 1 last.size.0

-- a price above or below another, as a move goes
abbrev pub Beyond : Bool → ℕ → ℕ → Type 0
Beyond true p q = p < q
Beyond false p q = q < p
