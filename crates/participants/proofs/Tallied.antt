-- What is kept of the quotes is their sum and count, and a highest and a lowest of them.
use Rattle.std.proofs.Common.{◌≡◌, ℕ, zero, suc, ◌+◌, ◌<◌, ◌≤◌, min, max, true, ◌⊎◌, List, [], ◌∷◌, length, get_or, Some, None, fold, sum_by, Option, sym, refl, ◌∙◌, inl, inr, ⊎_elim, arith}
use Rattle.std.proofs.lemmas.List.Sums.{sum_by-cons}
use Rattle.std.proofs.lemmas.Bool.{and_parts}
use Rattle.std.proofs.lemmas.Bool.Decides.{nat_tests}
use Rattle.measures.specs.declared.Ticks.{Ticks}
use Rattle.participants.specs.Means.{no_quotes, noted, tallied, named, Tallies}
use Rattle.participants.specs.Quotes.{lawful_quote, lawful_quotes}
use Rattle.participants.specs.declared.tally.Tally.{Tally}

summed : (qs : List (Option Ticks)) (t : Tally) → (fold noted t qs).sum ≡ t.sum + sum_by (λ p. p) (named qs)
summed [] t = omega arith
summed (None ∷ qs) t = summed qs t
summed (Some p ∷ qs) t = omega (arith, summed qs (noted t (Some p)), sum_by-cons (λ n. n) p.0 (named qs))

counted : (qs : List (Option Ticks)) (t : Tally) → (fold noted t qs).count ≡ t.count + length (named qs)
counted [] t = omega arith
counted (None ∷ qs) t = counted qs t
counted (Some p ∷ qs) t = omega (arith, counted qs (noted t (Some p)))

-- one of some prices is this
abbrev Among : List ℕ → ℕ → Type 0
Among ps h = (k : ℕ) × ((k < length ps) × (get_or ps k 0 ≡ h))

later : (h p : ℕ) (ps : List ℕ) → Among ps h → Among (p ∷ ps) h
later h p ps f = (suc f.0, (omega (arith, f.1.0), f.1.1))

-- h is the highest of m and some prices, and l the lowest
record Top (m h : ℕ) (ps : List ℕ) : Type 0 where
  first : m ≤ h
  each : (k : ℕ) → k < length ps → get_or ps k 0 ≤ h
  met : (h ≡ m) ⊎ Among ps h

record Bottom (m l : ℕ) (ps : List ℕ) : Type 0 where
  first : l ≤ m
  each : (k : ℕ) → k < length ps → l ≤ get_or ps k 0
  met : (l ≡ m) ⊎ Among ps l

either-max : (m n : ℕ) → (max m n ≡ m) ⊎ (max m n ≡ n)
either-max m n = grind (arith, nat_tests)

either-min : (m n : ℕ) → (min m n ≡ m) ⊎ (min m n ≡ n)
either-min m n = grind (arith, nat_tests)

top-more : (m p h : ℕ) (ps : List ℕ) → Top (max m p) h ps → Top m h (p ∷ ps)
top-more m p h ps t = let f = t.first in record {
  first = omega arith;
  each = at (omega arith) t.each;
  met = ⊎_elim
      (λ (e : h ≡ max m p). ⊎_elim (λ (x : max m p ≡ m). inl (e ∙ x)) (λ (x : max m p ≡ p). inr (zero, (omega arith, sym (e ∙ x)))) (either-max m p))
      (λ (a : Among ps h). inr (later h p ps a))
      t.met;
}
  where
    at : p ≤ h → ((k : ℕ) → k < length ps → get_or ps k 0 ≤ h) → (k : ℕ) → k < length (p ∷ ps) → get_or (p ∷ ps) k 0 ≤ h
    at a b zero l = a
    at a b (suc k) l = b k (omega arith)

bottom-more : (m p h : ℕ) (ps : List ℕ) → Bottom (min m p) h ps → Bottom m h (p ∷ ps)
bottom-more m p h ps t = let f = t.first in record {
  first = omega arith;
  each = at (omega arith) t.each;
  met = ⊎_elim
      (λ (e : h ≡ min m p). ⊎_elim (λ (x : min m p ≡ m). inl (e ∙ x)) (λ (x : min m p ≡ p). inr (zero, (omega arith, sym (e ∙ x)))) (either-min m p))
      (λ (a : Among ps h). inr (later h p ps a))
      t.met;
}
  where
    at : h ≤ p → ((k : ℕ) → k < length ps → h ≤ get_or ps k 0) → (k : ℕ) → k < length (p ∷ ps) → h ≤ get_or (p ∷ ps) k 0
    at a b zero l = a
    at a b (suc k) l = b k (omega arith)

top_of : (qs : List (Option Ticks)) (t : Tally) → Top t.highest (fold noted t qs).highest (named qs)
top_of [] t = record { first = omega arith; each = λ k h. absurd (omega arith); met = inl refl }
top_of (None ∷ qs) t = top_of qs t
top_of (Some p ∷ qs) t = top-more t.highest p.0 _ (named qs) (top_of qs (noted t (Some p)))

bottom-of : (qs : List (Option Ticks)) (t : Tally) → Bottom t.lowest (fold noted t qs).lowest (named qs)
bottom-of [] t = record { first = omega arith; each = λ k h. absurd (omega arith); met = inl refl }
bottom-of (None ∷ qs) t = bottom-of qs t
bottom-of (Some p ∷ qs) t = bottom-more t.lowest p.0 _ (named qs) (bottom-of qs (noted t (Some p)))

-- the first price that was named is one
first-named : (qs : List (Option Ticks)) → lawful_quotes qs ≡ true → 1 ≤ length (named qs) → (1 ≤ get_or (named qs) 0 0) × (get_or (named qs) 0 0 ≤ 10000000)
first-named [] h k = absurd (omega arith)
first-named (None ∷ qs) h k = first-named qs h k
first-named (Some p ∷ qs) h k = price p.0 (and_parts (lawful_quote (Some p)) (lawful_quotes qs) h).0
  where
    price : (n : ℕ) → lawful_quote (Some (record { 0 = n })) ≡ true → (1 ≤ n) × (n ≤ 10000000)
    price n e = (grind (arith, nat_tests), grind (arith, nat_tests))

pub tallies : (qs : List (Option Ticks)) → lawful_quotes qs ≡ true → Tallies (named qs) (tallied qs)
tallies qs h =
    let top = top_of qs no_quotes in
    let bottom = bottom-of qs no_quotes in
    record {
      sum = omega (arith, summed qs no_quotes);
      count = omega (arith, counted qs no_quotes);
      above = top.each;
      below = bottom.each;
      highest = λ some. ⊎_elim (λ (e : (tallied qs).highest ≡ 0). absurd (omega (arith, e, first-named qs h some, top.each 0 some))) (λ (a : Among (named qs) (tallied qs).highest). a) top.met;
      lowest = λ some. ⊎_elim (λ (e : (tallied qs).lowest ≡ 4294967295). absurd (omega (arith, e, first-named qs h some, bottom.each 0 some))) (λ (a : Among (named qs) (tallied qs).lowest). a) bottom.met;
    }
