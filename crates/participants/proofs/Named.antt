use Rattle.std.proofs.Common.{◌≡◌, ℕ, zero, suc, ◌≤◌, true, ◌&&◌, leb, List, [], ◌∷◌, set, replicate, Some, None, Option, refl, ap, ◌∙◌, arith}
use Rattle.std.proofs.lemmas.Bool.{and_parts, and_from}
use Rattle.std.proofs.lemmas.Bool.Decides.{nat_tests}
use Rattle.measures.specs.declared.Ticks.{Ticks}
use Rattle.participants.specs.Quotes.{lawful_quote, lawful_quotes}

quotes-set : (qs : List (Option Ticks)) (i : ℕ) (q : Option Ticks) → lawful_quotes qs ≡ true → lawful_quote q ≡ true → lawful_quotes (set qs i q) ≡ true
quotes-set [] i q h k = refl
quotes-set (x ∷ xs) zero q h k = let p = and_parts (lawful_quote x) (lawful_quotes xs) h in and_from (lawful_quote q) (lawful_quotes xs) k p.1
quotes-set (x ∷ xs) (suc i) q h k = let p = and_parts (lawful_quote x) (lawful_quotes xs) h in and_from (lawful_quote x) (lawful_quotes (set xs i q)) p.0 (quotes-set xs i q p.1 k)

price : (n : ℕ) → 1 ≤ n → n ≤ 10000000 → (leb 1 n && leb n 10000000) ≡ true
price n l h = grind (arith, nat_tests)

-- quotes stay prices when one of them is replaced
pub quotes-named : (qs : List (Option Ticks)) (i : ℕ) (p : Ticks) → lawful_quotes qs ≡ true → 1 ≤ p.0 → p.0 ≤ 10000000 → lawful_quotes (set qs i (Some p)) ≡ true
quotes-named qs i p h l k = quotes-set qs i (Some p) h (price p.0 l k)

none_named : (n : ℕ) → lawful_quotes (replicate n None) ≡ true
none_named zero = refl
none_named (suc n) = none_named n

-- where nobody has quoted, every quote keeps to the rules
pub quotes-none : (qs : List (Option Ticks)) (n : ℕ) → qs ≡ replicate n None → lawful_quotes qs ≡ true
quotes-none qs n e = ap lawful_quotes e ∙ none_named n
