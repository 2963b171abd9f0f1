use Rattle.std.proofs.Common.{◌-◌, ◌≤◌, vec_items, ap, ◌∙◌, arith, rules}
use Rattle.participants.specs.Means.{tallied}
use Rattle.participants.specs.declared.tally.Tally.{Tally}
use Rattle.participants.proofs.Averages.{nearest-le, nearest-ge, kept_at}
use Rattle.participants.proofs.Tallied.{tallies}
use Rattle.participants.proofs.quotes.Quotes.mean.Goals as goal

pub overflow_sub-rest : goal.overflow_sub-rest
overflow_sub-rest c = let k = kept_at (vec_items c.args.self.now.prices) c.tally-tally.result (c.tally-tally.ensures.value ∙ ap tallied c.as_slice.ensures.value) c.args.self.now.named in let l = k.low (omega arith) in omega arith

pub overflow_sub-rest-2 : goal.overflow_sub-rest-2
overflow_sub-rest-2 c = let k = kept_at (vec_items c.args.self.now.prices) c.tally-tally.result (c.tally-tally.ensures.value ∙ ap tallied c.as_slice.ensures.value) c.args.self.now.named in let l = k.low (omega arith) in omega arith

within : (c : goal.After-nearest_mean) → (1 ≤ c.nearest_mean.result) × (c.nearest_mean.result ≤ 10000000)
within c =
    let t : Tally = c.tally-tally.result in
    let k = kept_at (vec_items c.args.self.now.prices) t (c.tally-tally.ensures.value ∙ ap tallied c.as_slice.ensures.value) c.args.self.now.named in
    let l = k.low (omega arith) in
    let h = k.high (omega arith) in (
      omega (arith, nearest-ge 1 ((t.sum - t.highest) - t.lowest) (t.count - 2) (omega arith) (omega arith)),
      omega (arith, nearest-le 10000000 ((t.sum - t.highest) - t.lowest) (t.count - 2) (omega arith) (omega arith)),
    )

pub overflow_cast-result : goal.overflow_cast-result
overflow_cast-result c = let b = within c in search rules

pub returns : goal.returns
returns c = let e = c.tally-tally.ensures.value ∙ ap tallied c.as_slice.ensures.value in record { value = search rules; tallied = tallies (vec_items c.args.self.now.prices) c.args.self.now.named; within = within c }

pub returns-then-tally-lt3 : goal.returns-then-tally-lt3
returns-then-tally-lt3 c = let e = c.tally-tally.ensures.value ∙ ap tallied c.as_slice.ensures.value in record { value = search rules; tallied = tallies (vec_items c.args.self.now.prices) c.args.self.now.named; within = tt }
