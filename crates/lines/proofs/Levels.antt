use Rattle.std.proofs.Common.{◌≡◌, ℕ, zero, suc, ◌+◌, ◌<◌, ◌≤◌, Bool, true, false, cond, ltb, List, [], ◌∷◌, map, length, get_or, take, replicate, sym, refl, ap, ◌∙◌, subst, ⊎_elim, add-one, arith}
use Rattle.std.specs.List.{range_with_len}
use Rattle.std.proofs.lemmas.List.FromFn.{take-map-range_with_len}
use Rattle.std.proofs.lemmas.List.{take_all}
use Rattle.std.proofs.lemmas.List.Sums.{sum_by-cons, count_by_more_yes, count_by_more_no}
use Rattle.std.proofs.lemmas.Bool.Decides.{nat_tests}
use Rattle.measures.specs.Amounts.{apart}
use Rattle.rounds.specs.Sides.{same_side, other}
use Rattle.rounds.specs.declared.sides.Side.{Side}
use Rattle.rounds.specs.declared.sides.Side.TheVariants.{Buy, Sell}
use Rattle.sharing.specs.Shares.{in_bounds, below}
use Rattle.lines.specs.Fills.{no_fill, filled_on, place_of, share_of, Shared, lots_filled, fill_of, fills_of, Level}
use Rattle.lines.specs.Lines.{lots_on, of_row, standing, imbalance, excess, lawful}
use Rattle.participants.specs.Participants.{nobody, is_fixing, member_count}
use Rattle.lines.specs.declared.line.Line.{Line}
use Rattle.participants.specs.declared.rows.Participant.{Participant}
use Rattle.lines.proofs.Below.{below-add, below-when, below-listed, below_rows}
use Rattle.lines.proofs.Shared.{share-past, either, sides}

-- the shares of the rows are those of the places
below-shares : (share : ℕ → ℕ) (rows : List Participant) (n : ℕ) → below n (λ k. share_of share rows k) ≡ below (member_count (take n rows)) share
below-shares share rows zero = refl
below-shares share rows (suc n) =
    let before = below-shares share rows n in
    ⊎_elim
    (λ (l : n < length rows).
    ⊎_elim
    (λ (yes : is_fixing (get_or rows n nobody).kind ≡ true).
    let more : member_count (take (suc n) rows) ≡ suc (place_of rows n) = ap (λ m. member_count (take m rows)) (sym (add-one n)) ∙ (count_by_more_yes (λ (p : Participant). is_fixing p.kind) rows n nobody l yes ∙ add-one (place_of rows n)) in
    let here : share_of share rows n ≡ share (place_of rows n) = ap (λ b. cond b (share (place_of rows n)) 0) yes in
    omega (arith, before, here) ∙ ap (λ m. below m share) (sym more))
    (λ (no : is_fixing (get_or rows n nobody).kind ≡ false).
    let same : member_count (take (suc n) rows) ≡ place_of rows n = ap (λ m. member_count (take m rows)) (sym (add-one n)) ∙ count_by_more_no (λ (p : Participant). is_fixing p.kind) rows n nobody l no in
    let here : share_of share rows n ≡ 0 = ap (λ b. cond b (share (place_of rows n)) 0) no in
    omega (arith, before, here) ∙ ap (λ m. below m share) (sym same))
    (either (is_fixing (get_or rows n nobody).kind)))
    (λ (l : length rows ≤ n).
    let same : member_count (take (suc n) rows) ≡ place_of rows n = ap member_count (take_all (suc n) rows (omega arith) ∙ sym (take_all n rows l)) in
    omega (arith, before, share-past share rows n l) ∙ ap (λ m. below m share) (sym same))
    (sides n (length rows))

-- all lots filled on a side: those that stand, and on the side that takes it the excess
total_of : (n : ℕ) (share : ℕ → ℕ) (rows : List Participant) (ls : List Line) (side : Side) → length rows ≤ n → lawful n ls ≡ true → below (member_count rows) share ≡ imbalance ls
    → below n (λ k. lots_filled share rows ls side k) ≡ standing side ls + cond (same_side (other (excess ls)) side) (imbalance ls) 0
total_of n share rows ls side few sound whole =
    let b : Bool = same_side (other (excess ls)) side in
    let shares : below n (λ k. share_of share rows k) ≡ imbalance ls = below-shares share rows n ∙ (ap (λ (rs : List Participant). below (member_count rs) share) (take_all n rows few) ∙ whole) in
    below-add n (λ k. of_row (lots_on side) ls k) (λ k. cond b (share_of share rows k) 0)
    ∙ (ap (λ x. x + below n (λ k. cond b (share_of share rows k) 0)) (below_rows n (lots_on side) ls sound)
    ∙ ap (λ x. standing side ls + x) (below-when n b (λ k. share_of share rows k) ∙ ap (λ x. cond b x 0) shares))

-- what falls short on one side is the excess of the other
balance : (b : Bool) (buys sells : ℕ) → (b ≡ true → sells < buys) → (b ≡ false → buys ≤ sells)
    → buys + cond (same_side (other (cond b Buy Sell)) Buy) (apart buys sells) 0 ≡ sells + cond (same_side (other (cond b Buy Sell)) Sell) (apart buys sells) 0
balance true buys sells more less = let h = more refl in omega arith
balance false buys sells more less = let h = less refl in omega arith

level-of : (n : ℕ) (share : ℕ → ℕ) (rows : List Participant) (ls : List Line) → length rows ≤ n → lawful n ls ≡ true → below (member_count rows) share ≡ imbalance ls
    → Level (map (fill_of share rows ls) (range_with_len 0 n))
level-of n share rows ls few sound whole =
    below-listed (filled_on Buy) (fill_of share rows ls) n ∙ (total_of n share rows ls Buy few sound whole
    ∙ (balance (ltb (standing Sell ls) (standing Buy ls)) (standing Buy ls) (standing Sell ls) (more (standing Sell ls) (standing Buy ls)) (less (standing Sell ls) (standing Buy ls))
    ∙ sym (below-listed (filled_on Sell) (fill_of share rows ls) n ∙ total_of n share rows ls Sell few sound whole)))
  where
    more : (x y : ℕ) → ltb x y ≡ true → x < y
    more x y h = grind (arith, nat_tests)

    less : (x y : ℕ) → ltb x y ≡ false → y ≤ x
    less x y h = grind (arith, nat_tests)

-- a sheet is level
pub sheet-level : (n : ℕ) (share : ℕ → ℕ) (rows : List Participant) (ls : List Line) → n ≤ 256 → length rows ≤ n → lawful n ls ≡ true → below (member_count rows) share ≡ imbalance ls
    → Level (take n (fills_of share rows ls))
unfolding fills_of
sheet-level n share rows ls most few sound whole = subst Level (sym (take-map-range_with_len (fill_of share rows ls) 0 256 n most)) (level-of n share rows ls few sound whole)

-- no fills are level
pub level-none : (m n : ℕ) → Level (take m (replicate n no_fill))
level-none zero n = refl
level-none (suc m) zero = refl
level-none (suc m) (suc n) = level-none m n

pub in_bounds_lem : (n q : ℕ) → 1 ≤ n → n ≤ 32 → q ≤ 163840000 → in_bounds n q ≡ true
in_bounds_lem n q a b c = grind (arith, nat_tests)

-- a Fixing Member's place is one of those that share
place-below : (rows : List Participant) (row : ℕ) → is_fixing (get_or rows row nobody).kind ≡ true → place_of rows row < member_count rows
place-below [] row h = absurd (let z : ◌≡◌ {A = ℕ} 0 1 = cc in omega arith)
place-below (p ∷ ps) zero h =
    let one : ◌≡◌ {A = ℕ} (cond (is_fixing p.kind) 1 0) 1 = ap (λ (b : Bool). cond b 1 0) h in
    omega (arith, one, sum_by-cons (λ (q : Participant). cond (is_fixing q.kind) 1 0) p ps)
place-below (p ∷ ps) (suc row) h = omega (arith, place-below ps row h, sum_by-cons (λ (q : Participant). cond (is_fixing q.kind) 1 0) p ps, sum_by-cons (λ (q : Participant). cond (is_fixing q.kind) 1 0) p (take row ps))

-- the shares of the rows, where a policy keeps its two laws
pub shared-out : (share : ℕ → ℕ) (rows : List Participant) (q : ℕ) → below (member_count rows) share ≡ q → ((i j : ℕ) → i < member_count rows → j < member_count rows → share i ≤ share j + 1) → Shared share rows q
shared-out share rows q whole level = record {
  whole = below-shares share rows (length rows) ∙ (ap (λ (rs : List Participant). below (member_count rs) share) (take_all (length rows) rows (omega arith)) ∙ whole);
  even = λ i j f g.
      let a : share_of share rows i ≡ share (place_of rows i) = ap (λ (b : Bool). cond b (share (place_of rows i)) 0) f in
      let b : share_of share rows j ≡ share (place_of rows j) = ap (λ (b : Bool). cond b (share (place_of rows j)) 0) g in
      omega (arith, a, b, level (place_of rows i) (place_of rows j) (place-below rows i f) (place-below rows j g));
}
