use Rattle.std.proofs.Common.{◌≡◌, ℕ, ◌+◌, ◌*◌, ◌<◌, ◌≤◌, true, false, cond, eqb, ◌≢◌, List, [], ◌∷◌, length, get_or, take, set, sym, ap, ◌∙◌, subst, ⊎_elim, arith, length-set, get_or-set_other, get_or-set_same}
use Rattle.std.specs.List.{AllByRecursion as Each}
use Rattle.std.proofs.lemmas.List.Sums.{sum_by_more, sum_by-take-le}
use Rattle.std.proofs.ByRecursion.{sum_by_le}
use Rattle.std.proofs.lemmas.Bool.Decides.{nat_tests, eqb_tells}
use Rattle.lines.specs.Lines.{own, of_row}
use Rattle.lines.specs.declared.line.Line.{Line}

-- a line counts for its own row
pub own-here : (f : Line → ℕ) (l : Line) → own f l.row l ≡ f l
own-here f l = grind (arith, nat_tests)

-- one line more is counted at its row, and nowhere else
pub row_more : {X : Type 0} (out : X → ℕ) (none : X) (f : Line → ℕ) (ls : List Line) (i : ℕ) (d : Line) (xs : List X) (v : X)
    → i < length ls → (get_or ls i d).row < length xs → out v ≡ out (get_or xs (get_or ls i d).row none) + f (get_or ls i d)
    → ((k : ℕ) → k < length xs → out (get_or xs k none) ≡ of_row f (take i ls) k)
    → (k : ℕ) → k < length (set xs (get_or ls i d).row v) → out (get_or (set xs (get_or ls i d).row v) k none) ≡ of_row f (take (i + 1) ls) k
row_more out none f ls i d xs v h w s inv k b' =
    let b : k < length xs = omega (arith, length-set xs (get_or ls i d).row v) in
    let l : Line = get_or ls i d in
    ⊎_elim
    (λ (p : (eqb l.row k ≡ true) × (l.row ≡ k)).
    let P : ℕ → Type 0 = λ j. out (get_or (set xs l.row v) j none) ≡ of_row f (take (i + 1) ls) j in
    subst P p.1 (ap out (get_or-set_same xs l.row v none w) ∙ omega (arith, s, inv l.row w, own-here f l, sum_by_more (own f l.row) ls i d h)))
    (λ (p : (eqb l.row k ≡ false) × (l.row ≡ k → ⊥)).
    let ne : k ≢ l.row = λ q. p.1 (sym q) in
    let z : own f k l ≡ 0 = ap (λ b. cond b (f l) 0) p.0 in
    ap out (get_or-set_other xs l.row k v none ne) ∙ omega (arith, inv k b, z, sum_by_more (own f k) ls i d h))
    (eqb_tells l.row k)

own-all : (f : Line → ℕ) (m row : ℕ) (ls : List Line) → Each (λ l. f l ≤ m) ls → Each (λ l. own f row l ≤ m) ls
own-all f m row [] h = tt
own-all f m row (l ∷ ls) h = let k : f l ≤ m = h.0 in
    (elim (eqb l.row row) as (λ b. cond b (f l) 0 ≤ m) [ true ↦ k | false ↦ omega arith ], own-all f m row ls h.1)

-- a row has at most what all lines could have
pub row-le : (f : Line → ℕ) (m : ℕ) (ls : List Line) (row : ℕ) → Each (λ l. f l ≤ m) ls → of_row f ls row ≤ length ls * m
row-le f m ls row h = sum_by_le (own f row) m ls (own-all f m row ls h)

pub row-front-le : (f : Line → ℕ) (m : ℕ) (ls : List Line) (row i : ℕ) → Each (λ l. f l ≤ m) ls → of_row f (take i ls) row ≤ length ls * m
row-front-le f m ls row i h = omega (arith, sum_by-take-le (own f row) ls i, row-le f m ls row h)

-- with one line more, too
pub row-next-le : (f : Line → ℕ) (m : ℕ) (ls : List Line) (i : ℕ) (d : Line) → Each (λ l. f l ≤ m) ls → i < length ls → of_row f (take i ls) (get_or ls i d).row + f (get_or ls i d) ≤ length ls * m
row-next-le f m ls i d h k = let row : ℕ = (get_or ls i d).row in
    omega (arith, own-here f (get_or ls i d), sum_by_more (own f row) ls i d k, sum_by-take-le (own f row) ls (i + 1), row-le f m ls row h)
