use Rattle.std.proofs.Common.{◌≡◌, ℕ, zero, suc, ◌+◌, Bool, true, false, cond, ltb, List, [], ◌∷◌, map, sum_by, sym, refl, ap, ◌∙◌, add-one, arith}
use Rattle.std.specs.List.{range_with_len}
use Rattle.std.proofs.lemmas.List.FromFn.{sum_by-map-range_with_len_more}
use Rattle.std.proofs.lemmas.List.Sums.{sum_by-cons}
use Rattle.std.proofs.lemmas.Bool.{and_parts}
use Rattle.std.proofs.lemmas.Bool.Decides.{nat_tests}
use Rattle.sharing.specs.Shares.{below}
use Rattle.lines.specs.Lines.{own, of_row, lawful_line, lawful}
use Rattle.lines.specs.declared.line.Line.{Line}

-- sums over the places below n
below-same : (n : ℕ) (a b : ℕ → ℕ) → ((k : ℕ) → a k ≡ b k) → below n a ≡ below n b
below-same zero a b h = refl
below-same (suc n) a b h = omega (arith, below-same n a b h, h n)

pub below-add : (n : ℕ) (a b : ℕ → ℕ) → below n (λ k. a k + b k) ≡ below n a + below n b
below-add zero a b = refl
below-add (suc n) a b = omega (arith, below-add n a b)

below_none : (n : ℕ) → below n (λ _. 0) ≡ 0
below_none zero = refl
below_none (suc n) = omega (arith, below_none n)

pub below-when : (n : ℕ) (b : Bool) (a : ℕ → ℕ) → below n (λ k. cond b (a k) 0) ≡ cond b (below n a) 0
below-when n true a = refl
below-when n false a = below_none n

pub below-listed : {X : Type 0} (g : X → ℕ) (f : ℕ → X) (n : ℕ) → sum_by g (map f (range_with_len 0 n)) ≡ below n (λ k. g (f k))
below-listed g f zero = refl
below-listed g f (suc n) = ap (λ m. sum_by g (map f (range_with_len 0 m))) (sym (add-one n)) ∙ omega (arith, sum_by-map-range_with_len_more g f 0 n n (omega arith), below-listed g f n)

-- a line counts for one row, and only once
below-own : (f : Line → ℕ) (l : Line) (n : ℕ) → below n (λ k. own f k l) ≡ cond (ltb l.row n) (f l) 0
below-own f l zero = grind (arith, nat_tests)
below-own f l (suc n) = let before = below-own f l n in grind (arith, nat_tests)

row_within : (n : ℕ) (l : Line) → lawful_line n l ≡ true → ltb l.row n ≡ true
row_within n l h = grind (arith, nat_tests)

-- what the rows have of lines is what the lines have
pub below_rows : (n : ℕ) (f : Line → ℕ) (ls : List Line) → lawful n ls ≡ true → below n (λ k. of_row f ls k) ≡ sum_by f ls
below_rows n f [] h = below_none n
below_rows n f (l ∷ ls) h =
    let p = and_parts (lawful_line n l) (lawful n ls) h in
    let here : below n (λ k. own f k l) ≡ f l = below-own f l n ∙ ap (λ b. cond b (f l) 0) (row_within n l p.0) in
    below-same n (λ k. of_row f (l ∷ ls) k) (λ k. own f k l + of_row f ls k) (λ k. sum_by-cons (own f k) l ls)
    ∙ (below-add n (λ k. own f k l) (λ k. of_row f ls k) ∙ omega (arith, here, below_rows n f ls p.1, sum_by-cons f l ls))
