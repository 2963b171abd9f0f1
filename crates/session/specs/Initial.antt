-- The Initial Price.
use Rattle.std.specs.Prelude.{ℕ, ◌+◌, ◌<◌, ◌≤◌, cond, List, [], ◌∷◌, length, Some, None, Ok, Err, sum_by, Option, ◌==◌, nat_lt, slice_index}
use Rattle.measures.specs.declared.Ticks.{Ticks}
use Rattle.rounds.specs.Gates.{Check, then_ok, price_fits}
use Rattle.rounds.specs.declared.faults.SessionFault.TheVariants.{TooManyPrices}
use Rattle.participants.specs.Means.{nearest, from_quotes}

-- at most 10,000 executed prices
abbrev pub count_fits : List ℕ → Check
count_fits ps = cond (nat_lt 10000 (length ps)) (Err TooManyPrices) (Ok tt)

-- prices, the first at place i: refused at the first that is none
abbrev pub prices_fit : ℕ → List ℕ → Check
prices_fit i [] = Ok tt
prices_fit i (p ∷ ps) = then_ok (price_fits i p) (prices_fit (i + 1) ps)

-- each of some numbers is a price
abbrev pub Prices : List ℕ → Type 0
Prices ps = (k : ℕ) → k < length ps → (1 ≤ slice_index ps k) × (slice_index ps k ≤ 10000000)

-- executed prices count once each
abbrev pub executed_mean : List ℕ → ℕ
executed_mean ps = nearest (sum_by (λ p. p) ps) (length ps)

-- with no executed price the previous benchmark serves
abbrev pub from_trade : List ℕ → ℕ → ℕ
from_trade ps previous = cond (length ps == 0) previous (executed_mean ps)

abbrev pub price_or : Option Ticks → ℕ → ℕ
price_or None p = p
price_or (Some q) p = q.0

-- from the quotes, else from the executed prices, else the previous benchmark
abbrev pub initial_price : ℕ → List (Option Ticks) → List ℕ → ℕ → ℕ
initial_price seats qs ps previous = price_or (from_quotes seats qs) (from_trade ps previous)
