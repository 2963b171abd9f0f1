use Rattle.std.proofs.Common.{◌≡◌, ◌*◌, ◌≤◌, take, sum_by}
use Rattle.session.proofs.executed.executed_mean.Given as goal

abbrev pub invariant-loop-place : goal.invariant-loop-place
invariant-loop-place g l = (l.sum ≡ sum_by (λ p. p) (take l.place (g.L.PriceList.prices l.executed))) × (l.place ≤ l.sum) × (l.sum ≤ 10000000 * l.place)
