-- Lines: what stands, and what striking leaves and releases.
use Rattle.std.specs.Prelude.{ℕ, ◌-◌, Bool, true, cond, ◌&&◌, List, [], ◌∷◌, sum_by, ◌==◌, nat_le, nat_lt}
use Rattle.measures.specs.Amounts.{amount, apart}
use Rattle.rounds.specs.Sides.{same_side, hits}
use Rattle.rounds.specs.declared.sides.Side.{Side}
use Rattle.rounds.specs.declared.sides.Side.TheVariants.{Buy, Sell}
use Rattle.rounds.specs.declared.sides.Struck.{Struck}
use Rattle.lines.specs.declared.line.Line.{Line}

-- the lots of a line that stand on a side
abbrev pub lots_on : Side → Line → ℕ
lots_on s l = cond (same_side l.side s) l.lots.0 0

-- all lots that stand on a side
abbrev pub standing : Side → List Line → ℕ
standing s ls = sum_by (lots_on s) ls

-- the difference between all standing buy and all standing sell lots
abbrev pub imbalance : List Line → ℕ
imbalance ls = apart (standing Buy ls) (standing Sell ls)

-- the side of the excess
abbrev pub excess : List Line → Side
excess ls = cond (nat_lt (standing Sell ls) (standing Buy ls)) Buy Sell

-- what every line in a table of n rows keeps to
abbrev pub lawful_line : ℕ → Line → Bool
lawful_line n l = nat_le l.lots.0 40000 && (nat_le l.price.0 10000000 && nat_lt l.row n)

abbrev pub lawful : ℕ → List Line → Bool
lawful n [] = true
lawful n (l ∷ ls) = lawful_line n l && lawful n ls

-- a line once it is struck
abbrev pub struck : Struck → Line → Line
struck k l = record { row = l.row; side = l.side; lots = record { 0 = cond (hits k l.side) 0 l.lots.0 }; price = l.price; round = l.round }

-- the lots of a line that are struck
abbrev pub lots_hit : Struck → Line → ℕ
lots_hit k l = cond (hits k l.side) l.lots.0 0

-- what a row has of a line: a figure of its own, nothing of another's
abbrev pub own : (Line → ℕ) → ℕ → Line → ℕ
own f row l = cond (l.row == row) (f l) 0

-- a figure summed over the lines of a row
abbrev pub of_row : (Line → ℕ) → List Line → ℕ → ℕ
of_row f ls row = sum_by (own f row) ls

-- what striking releases of one line: the margin of its lots at the price they were tendered at
abbrev pub line_due : ℕ → Struck → Line → ℕ
line_due margin k l = amount margin (lots_hit k l) l.price.0

-- what striking releases to an account
abbrev pub due_to : ℕ → Struck → List Line → ℕ → ℕ
due_to margin k ls account = of_row (line_due margin k) ls account

abbrev pub no_line : Line
no_line = record { row = 0; side = Buy; lots = record { 0 = 0 }; price = record { 0 = 0 }; round = 0 }

-- a line with some lots taken off
abbrev pub reduced : Line → ℕ → Line
reduced l n = record { row = l.row; side = l.side; lots = record { 0 = l.lots.0 - n }; price = l.price; round = l.round }
