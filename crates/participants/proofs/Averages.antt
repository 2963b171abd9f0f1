use Rattle.std.proofs.Common.{◌≡◌, ℕ, ◌+◌, ◌-◌, ◌*◌, ◌/◌, ◌%◌, ◌<◌, ◌≤◌, Bool, true, false, cond, eqb, ltb, leb, List, [], ◌∷◌, Some, None, fold, Option, sym, refl, ap, ◌∙◌, subst, ⊎_elim, mod-lt, add-mul, lt_of_mul-lt-mul_right, one-mul, div-add-mod', arith}
use Rattle.std.proofs.lemmas.Bool.{and_parts}
use Rattle.std.proofs.lemmas.Bool.Decides.{nat_tests, eqb_tells, leb_tells}
use Rattle.measures.specs.declared.Ticks.{Ticks}
use Rattle.participants.specs.Means.{nearest, Nearest, noted, no_quotes, tallied}
use Rattle.participants.specs.Quotes.{lawful_quote, lawful_quotes}
use Rattle.participants.specs.declared.tally.Tally.{Tally}

next : (q n : ℕ) → (q + 1) * n ≡ q * n + n
next q n = add-mul q 1 n ∙ ap (λ x. q * n + x) (one-mul n)

rounded : (s n : ℕ) → 1 ≤ n → Nearest s n (cond (ltb (2 * (s % n)) n) (s / n) (s / n + 1))
rounded s n h =
    let whole = div-add-mod' s n in
    let rest : s % n < n = mod-lt s h in
    let more = next (s / n) n in
    ⊎_elim
    (λ (p : (leb (2 * (s % n) + 1) n ≡ true) × (2 * (s % n) + 1 ≤ n)).
    let less = p.1 in
    let t : ltb (2 * (s % n)) n ≡ true = grind (arith, nat_tests) in
    subst (λ (b : Bool). Nearest s n (cond b (s / n) (s / n + 1))) (sym t) (omega arith, omega arith))
    (λ (p : (leb (2 * (s % n) + 1) n ≡ false) × (n < 2 * (s % n) + 1)).
    let less = p.1 in
    let t : ltb (2 * (s % n)) n ≡ false = grind (arith, nat_tests) in
    subst (λ (b : Bool). Nearest s n (cond b (s / n) (s / n + 1))) (sym t) (omega arith, omega arith))
    (leb_tells (2 * (s % n) + 1) n)

-- the mean is the nearest whole number
pub nearest-near : (s n : ℕ) → 1 ≤ n → Nearest s n (nearest s n)
nearest-near s n h = let some : eqb n 0 ≡ false = grind (arith, nat_tests) in
    subst (λ (b : Bool). Nearest s n (cond b 0 (cond (ltb (2 * (s % n)) n) (s / n) (s / n + 1)))) (sym some) (rounded s n h)

-- a mean is at most what every number is at most
pub nearest-le : (b s n : ℕ) → 1 ≤ n → s ≤ b * n → nearest s n ≤ b
nearest-le b s n h k =
    let near = nearest-near s n h in
    let more = next b n in
    let below : nearest s n * n < (b + 1) * n = omega arith in
    let r : nearest s n < b + 1 = lt_of_mul-lt-mul_right n below in omega (arith, r)

-- and at least what every number is at least
pub nearest-ge : (b s n : ℕ) → 1 ≤ n → b * n ≤ s → b ≤ nearest s n
nearest-ge b s n h k =
    let near = nearest-near s n h in
    let more = next (nearest s n) n in
    let below : b * n < (nearest s n + 1) * n = omega arith in
    let r : b < nearest s n + 1 = lt_of_mul-lt-mul_right n below in omega (arith, r)

-- what a tally keeps to: without one highest and one lowest the sum is at least one tick, and at most the highest price, for each of the rest
pub record Kept (t : Tally) : Type 0 where
  pub none : t.count ≡ 0 → (t.sum ≡ 0) × (t.highest ≡ 0) × (t.lowest ≡ 4294967295)
  pub one : t.count ≡ 1 → (t.sum ≡ t.highest) × (t.sum ≡ t.lowest)
  pub order : 1 ≤ t.count → (1 ≤ t.lowest) × (t.lowest ≤ t.highest)
  pub top : t.highest ≤ 10000000
  pub low : 2 ≤ t.count → t.highest + t.lowest + (t.count - 2) ≤ t.sum
  pub high : 2 ≤ t.count → t.sum ≤ t.highest + t.lowest + 10000000 * (t.count - 2)

kept-noted : (t : Tally) (q : Option Ticks) → Kept t → lawful_quote q ≡ true → Kept (noted t q)
kept-noted t None k h = k
kept-noted t (Some p) k h =
    let b : p.0 ≤ 10000000 = grind (arith, nat_tests) in
    let a : 1 ≤ p.0 = grind (arith, nat_tests) in
    let top = k.top in
    record {
      none = λ c. absurd (omega arith);
      one = λ c. let z = k.none (omega arith) in (omega arith, omega arith);
      order = λ c. ⊎_elim
          (λ (q : (eqb t.count 0 ≡ true) × (t.count ≡ 0)). let z = k.none q.1 in (omega arith, omega arith))
          (λ (q : (eqb t.count 0 ≡ false) × (t.count ≡ 0 → ⊥)). let n = q.1 in let o = k.order (omega arith) in (omega arith, omega arith))
          (eqb_tells t.count 0);
      top = omega arith;
      low = λ c. ⊎_elim
          (λ (q : (eqb t.count 1 ≡ true) × (t.count ≡ 1)). let o = k.one q.1 in omega arith)
          (λ (q : (eqb t.count 1 ≡ false) × (t.count ≡ 1 → ⊥)). let n = q.1 in let l = k.low (omega arith) in let o = k.order (omega arith) in omega arith)
          (eqb_tells t.count 1);
      high = λ c. ⊎_elim
          (λ (q : (eqb t.count 1 ≡ true) × (t.count ≡ 1)). let o = k.one q.1 in omega arith)
          (λ (q : (eqb t.count 1 ≡ false) × (t.count ≡ 1 → ⊥)). let n = q.1 in let l = k.high (omega arith) in let o = k.order (omega arith) in omega arith)
          (eqb_tells t.count 1);
    }

kept-folded : (qs : List (Option Ticks)) (t : Tally) → Kept t → lawful_quotes qs ≡ true → Kept (fold noted t qs)
kept-folded [] t k h = k
kept-folded (q ∷ qs) t k h = let p = and_parts (lawful_quote q) (lawful_quotes qs) h in kept-folded qs (noted t q) (kept-noted t q k p.0) p.1

kept-all : (qs : List (Option Ticks)) → lawful_quotes qs ≡ true → Kept (tallied qs)
kept-all qs h = kept-folded qs no_quotes (record { none = λ c. (refl, refl, refl); one = λ c. absurd (omega arith); order = λ c. absurd (omega arith); top = omega arith; low = λ c. absurd (omega arith); high = λ c. absurd (omega arith) }) h

pub kept_at : (qs : List (Option Ticks)) (t : Tally) → t ≡ tallied qs → lawful_quotes qs ≡ true → Kept t
kept_at qs t e h = let P : Tally → Type 0 = λ x. Kept x in subst P (sym e) (kept-all qs h)
