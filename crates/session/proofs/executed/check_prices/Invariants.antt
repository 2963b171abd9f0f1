use Rattle.std.proofs.Common.{◌≡◌, ℕ, ◌<◌, ◌≤◌, get_or, drop}
use Rattle.session.specs.Initial.{prices_fit}
use Rattle.session.proofs.executed.check_prices.Given as goal

abbrev pub invariant-loop-place : goal.invariant-loop-place
invariant-loop-place g l = (prices_fit 0 (g.L.PriceList.prices l.executed) ≡ prices_fit l.place (drop l.place (g.L.PriceList.prices l.executed)))
    × ((k : ℕ) → k < l.place → (1 ≤ get_or (g.L.PriceList.prices l.executed) k 0) × (get_or (g.L.PriceList.prices l.executed) k 0 ≤ 10000000))
