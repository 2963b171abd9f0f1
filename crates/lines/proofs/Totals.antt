use Rattle.std.proofs.Common.{◌≡◌, ℕ, zero, suc, ◌+◌, ◌-◌, ◌*◌, ◌<◌, ◌≤◌, true, false, cond, ◌&&◌, ltb, leb, List, [], ◌∷◌, ◌++◌, map, length, get_or, set, sum_by, sym, refl, ◌∙◌, subst, arith}
use Rattle.std.specs.List.{AllByRecursion as Each}
use Rattle.std.proofs.lemmas.List.Sums.{sum_by_push, sum_by-cons, sum_by-set, get_or-le-sum_by}
use Rattle.std.proofs.ByRecursion.{sum_by_le, All-get_or}
use Rattle.std.proofs.lemmas.Nat.{mul-le}
use Rattle.std.proofs.lemmas.Bool.{and_parts, and_from}
use Rattle.std.proofs.lemmas.Bool.Decides.{nat_tests}
use Rattle.rounds.specs.Sides.{same_side, hits}
use Rattle.rounds.specs.declared.sides.Side.{Side}
use Rattle.rounds.specs.declared.sides.Side.TheVariants.{Buy, Sell}
use Rattle.rounds.specs.declared.sides.Struck.{Struck}
use Rattle.rounds.specs.declared.sides.Struck.TheVariants.{Only, All}
use Rattle.lines.specs.declared.line.Line.{Line}
use Rattle.lines.specs.Lines.{lots_on, lots_hit, standing, lawful_line, lawful, struck, line_due, reduced}

pub line-lots : (n : ℕ) (l : Line) → lawful_line n l ≡ true → l.lots.0 ≤ 40000
line-lots n l h = grind (arith, nat_tests)

pub lots-on-le : (n : ℕ) (s : Side) (l : Line) → lawful_line n l ≡ true → lots_on s l ≤ 40000
lots-on-le n s l h = let k : l.lots.0 ≤ 40000 = line-lots n l h in
    elim (same_side l.side s) as (λ b. cond b l.lots.0 0 ≤ 40000) [ true ↦ k | false ↦ omega arith ]

pub lots-all : (n : ℕ) (s : Side) (ls : List Line) → lawful n ls ≡ true → Each (λ l. lots_on s l ≤ 40000) ls
lots-all n s [] h = tt
lots-all n s (l ∷ ls) h = let p = and_parts (lawful_line n l) (lawful n ls) h in (lots-on-le n s l p.0, lots-all n s ls p.1)

pub standing-le : (n : ℕ) (s : Side) (ls : List Line) → lawful n ls ≡ true → standing s ls ≤ length ls * 40000
standing-le n s ls h = sum_by_le (lots_on s) 40000 ls (lots-all n s ls h)

pub lawful-push : (n : ℕ) (ls : List Line) (l : Line) → lawful n ls ≡ true → lawful_line n l ≡ true → lawful n (ls ++ l ∷ []) ≡ true
lawful-push n [] l h k = and_from (lawful_line n l) true k refl
lawful-push n (x ∷ xs) l h k = let p = and_parts (lawful_line n x) (lawful n xs) h in
    and_from (lawful_line n x) (lawful n (xs ++ l ∷ [])) p.0 (lawful-push n xs l p.1 k)

pub standing-push : (s : Side) (ls : List Line) (l : Line) → standing s (ls ++ l ∷ []) ≡ standing s ls + lots_on s l
standing-push s ls l = sum_by_push (lots_on s) ls l

sum_by-map : (f g : Line → ℕ) (h : Line → Line) → ((l : Line) → f (h l) ≡ g l) → (ls : List Line) → sum_by f (map h ls) ≡ sum_by g ls
sum_by-map f g h e [] = refl
sum_by-map f g h e (l ∷ ls) = let a = sum_by-cons f (h l) (map h ls) in let b = sum_by-cons g l ls in let r = sum_by-map f g h e ls in let q = e l in cc

nothing : (ls : List Line) → sum_by (λ _. 0) ls ≡ 0
nothing [] = refl
nothing (l ∷ ls) = nothing ls

struck-lots : (k : Struck) (s : Side) (l : Line) → lots_on s (struck k l) ≡ cond (hits k s) 0 (lots_on s l)
struck-lots (Only Buy) Buy l = elim l.side as (λ x. cond (same_side x Buy) (cond (same_side Buy x) 0 l.lots.0) 0 ≡ cond (same_side Buy Buy) 0 (cond (same_side x Buy) l.lots.0 0)) [ Buy ↦ refl | Sell ↦ refl ]
struck-lots (Only Buy) Sell l = elim l.side as (λ x. cond (same_side x Sell) (cond (same_side Buy x) 0 l.lots.0) 0 ≡ cond (same_side Buy Sell) 0 (cond (same_side x Sell) l.lots.0 0)) [ Buy ↦ refl | Sell ↦ refl ]
struck-lots (Only Sell) Buy l = elim l.side as (λ x. cond (same_side x Buy) (cond (same_side Sell x) 0 l.lots.0) 0 ≡ cond (same_side Sell Buy) 0 (cond (same_side x Buy) l.lots.0 0)) [ Buy ↦ refl | Sell ↦ refl ]
struck-lots (Only Sell) Sell l = elim l.side as (λ x. cond (same_side x Sell) (cond (same_side Sell x) 0 l.lots.0) 0 ≡ cond (same_side Sell Sell) 0 (cond (same_side x Sell) l.lots.0 0)) [ Buy ↦ refl | Sell ↦ refl ]
struck-lots All s l = elim (same_side l.side s) as (λ b. ◌≡◌ {A = ℕ} (cond b 0 0) 0) [ true ↦ refl | false ↦ refl ]

pub standing-struck : (k : Struck) (s : Side) (ls : List Line) → standing s (map (struck k) ls) ≡ cond (hits k s) 0 (standing s ls)
standing-struck k s ls = sum_by-map (lots_on s) (λ l. cond (hits k s) 0 (lots_on s l)) (struck k) (struck-lots k s) ls
    ∙ elim (hits k s) as (λ b. sum_by (λ l. cond b 0 (lots_on s l)) ls ≡ cond b 0 (standing s ls)) [ true ↦ nothing ls | false ↦ refl ]

line-struck : (n : ℕ) (k : Struck) (l : Line) → lawful_line n l ≡ true → lawful_line n (struck k l) ≡ true
line-struck n k l h = elim (hits k l.side) as (λ b. (leb (cond b 0 l.lots.0) 40000 && (leb l.price.0 10000000 && ltb l.row n)) ≡ true) [ true ↦ (and_parts (leb l.lots.0 40000) _ h).1 | false ↦ h ]

pub lawful-struck : (n : ℕ) (s : Struck) (ls : List Line) → lawful n ls ≡ true → lawful n (map (struck s) ls) ≡ true
lawful-struck n s [] h = refl
lawful-struck n s (l ∷ ls) h = let p = and_parts (lawful_line n l) (lawful n ls) h in
    and_from (lawful_line n (struck s l)) (lawful n (map (struck s) ls)) (line-struck n s l p.0) (lawful-struck n s ls p.1)

all-lawful : (n : ℕ) (ls : List Line) → lawful n ls ≡ true → Each (λ l. lawful_line n l ≡ true) ls
all-lawful n [] h = tt
all-lawful n (l ∷ ls) h = let p = and_parts (lawful_line n l) (lawful n ls) h in (p.0, all-lawful n ls p.1)

pub lawful-at : (n : ℕ) (ls : List Line) (i : ℕ) (d : Line) → lawful n ls ≡ true → i < length ls → lawful_line n (get_or ls i d) ≡ true
lawful-at n ls i d h k = All-get_or (λ l. lawful_line n l ≡ true) ls i d k (all-lawful n ls h)

pub line-price : (n : ℕ) (l : Line) → lawful_line n l ≡ true → l.price.0 ≤ 10000000
line-price n l h = grind (arith, nat_tests)

lots-hit-le : (n : ℕ) (k : Struck) (l : Line) → lawful_line n l ≡ true → lots_hit k l ≤ 40000
lots-hit-le n k l h = let e : l.lots.0 ≤ 40000 = line-lots n l h in
    elim (hits k l.side) as (λ b. cond b l.lots.0 0 ≤ 40000) [ true ↦ e | false ↦ omega arith ]

line-due-le : (n margin : ℕ) (s : Struck) (l : Line) → margin ≤ 1500 → lawful_line n l ≡ true → line_due margin s l ≤ 600000000000000
line-due-le n margin s l m h =
    let x : lots_hit s l * l.price.0 ≤ 40000 * 10000000 = mul-le (lots_hit s l) l.price.0 40000 10000000 (lots-hit-le n s l h) (line-price n l h) in
    mul-le margin (lots_hit s l * l.price.0) 1500 400000000000 m x

pub dues-all : (n margin : ℕ) (s : Struck) → margin ≤ 1500 → (ls : List Line) → lawful n ls ≡ true → Each (λ l. line_due margin s l ≤ 600000000000000) ls
dues-all n margin s m [] h = tt
dues-all n margin s m (l ∷ ls) h = let p = and_parts (lawful_line n l) (lawful n ls) h in (line-due-le n margin s l m p.0, dues-all n margin s m ls p.1)

pub lots-at : (n : ℕ) (ls : List Line) (i : ℕ) (d : Line) → lawful n ls ≡ true → i < length ls → (get_or ls i d).lots.0 ≤ 40000
lots-at n ls i d h k = line-lots n (get_or ls i d) (lawful-at n ls i d h k)

pub price-at : (n : ℕ) (ls : List Line) (i : ℕ) (d : Line) → lawful n ls ≡ true → i < length ls → (get_or ls i d).price.0 ≤ 10000000
price-at n ls i d h k = line-price n (get_or ls i d) (lawful-at n ls i d h k)

pub standing-set : (s : Side) (ls : List Line) (i : ℕ) (l d : Line) → i < length ls → standing s (set ls i l) ≡ (standing s ls - lots_on s (get_or ls i d)) + lots_on s l
standing-set s ls i l d h = omega (arith, sum_by-set (lots_on s) ls i l d h, get_or-le-sum_by (lots_on s) ls i d h)

pub lots-le-standing : (s : Side) (ls : List Line) (i : ℕ) (d : Line) → i < length ls → lots_on s (get_or ls i d) ≤ standing s ls
lots-le-standing s ls i d h = get_or-le-sum_by (lots_on s) ls i d h

pub lawful-set : (n : ℕ) (ls : List Line) (i : ℕ) (l : Line) → lawful n ls ≡ true → lawful_line n l ≡ true → lawful n (set ls i l) ≡ true
lawful-set n [] i l h k = refl
lawful-set n (x ∷ xs) zero l h k = let p = and_parts (lawful_line n x) (lawful n xs) h in and_from (lawful_line n l) (lawful n xs) k p.1
lawful-set n (x ∷ xs) (suc i) l h k = let p = and_parts (lawful_line n x) (lawful n xs) h in and_from (lawful_line n x) (lawful n (set xs i l)) p.0 (lawful-set n xs i l p.1 k)

pub line-reduced : (n : ℕ) (l : Line) (m : ℕ) → lawful_line n l ≡ true → lawful_line n (reduced l m) ≡ true
line-reduced n l m h = grind (arith, nat_tests)

pub lots-le-read : (s : Side) (ls : List Line) (i : ℕ) (x : Line) → i < length ls → x ≡ get_or ls i x → lots_on s x ≤ standing s ls
lots-le-read s ls i x h e = let P : Line → Type 0 = λ y. lots_on s y ≤ standing s ls in subst P (sym e) (lots-le-standing s ls i x h)

pub standing-read : (s : Side) (ls : List Line) (i : ℕ) (x l : Line) → i < length ls → x ≡ get_or ls i x → standing s (set ls i l) ≡ (standing s ls - lots_on s x) + lots_on s l
standing-read s ls i x l h e = let P : Line → Type 0 = λ y. standing s (set ls i l) ≡ (standing s ls - lots_on s y) + lots_on s l in subst P (sym e) (standing-set s ls i l x h)

pub lawful-reduced : (n : ℕ) (ls : List Line) (i : ℕ) (x : Line) (m : ℕ) → lawful n ls ≡ true → i < length ls → x ≡ get_or ls i x → lawful n (set ls i (reduced x m)) ≡ true
lawful-reduced n ls i x m h k e = let P : Line → Type 0 = λ y. lawful_line n y ≡ true in lawful-set n ls i (reduced x m) h (line-reduced n x m (subst P (sym e) (lawful-at n ls i x h k)))

lots-reduced : (s : Side) (x : Line) (m : ℕ) → lots_on s (reduced x m) ≤ lots_on s x
lots-reduced s x m = elim (same_side x.side s) as (λ b. cond b (x.lots.0 - m) 0 ≤ cond b x.lots.0 0) [ true ↦ omega arith | false ↦ omega arith ]

pub reduced-fits : (n : ℕ) (s : Side) (ls : List Line) (i : ℕ) (x : Line) (m : ℕ) → lawful n ls ≡ true → length ls ≤ 4096 → i < length ls → x ≡ get_or ls i x → (standing s ls - lots_on s x) + lots_on s (reduced x m) ≤ 163840000
reduced-fits n s ls i x m h k l e = omega (arith, standing-le n s ls h, lots-le-read s ls i x l e, lots-reduced s x m)

line_row : (n : ℕ) (l : Line) → lawful_line n l ≡ true → l.row < n
line_row n l h = grind (arith, nat_tests)

pub row_at : (n : ℕ) (ls : List Line) (i : ℕ) (d : Line) → lawful n ls ≡ true → i < length ls → (get_or ls i d).row < n
row_at n ls i d h k = line_row n (get_or ls i d) (lawful-at n ls i d h k)

line-wider : (n m : ℕ) (l : Line) → n ≤ m → lawful_line n l ≡ true → lawful_line m l ≡ true
line-wider n m l e h = grind (arith, nat_tests)

pub lawful-wider : (n m : ℕ) (ls : List Line) → n ≤ m → lawful n ls ≡ true → lawful m ls ≡ true
lawful-wider n m [] e h = refl
lawful-wider n m (l ∷ ls) e h = let p = and_parts (lawful_line n l) (lawful n ls) h in and_from (lawful_line m l) (lawful m ls) (line-wider n m l e p.0) (lawful-wider n m ls e p.1)
