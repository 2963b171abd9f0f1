use Rattle.std.proofs.Common.{◌≡◌, ℕ, zero, suc, ◌+◌, ◌<◌, ◌≤◌, Bool, true, false, cond, eqb, ltb, ◌≢◌, ◌⊎◌, List, length, get_or, set, sym, refl, ap, ◌∙◌, subst, inl, inr, ⊎_elim, arith, get_or-set_other, get_or-set_same}
use Rattle.std.proofs.lemmas.List.FromFn.{fill_by_all}
use Rattle.std.proofs.lemmas.List.{get_or_past}
use Rattle.std.proofs.lemmas.Bool.Decides.{nat_tests, eqb_tells}
use Rattle.sharing.specs.Shares.{in_bounds, below}
use Rattle.rounds.specs.Sides.{same_side, other}
use Rattle.lines.specs.Lines.{excess, imbalance, lots_on, of_row}
use Rattle.participants.specs.Participants.{nobody, is_fixing, member_count}
use Rattle.lines.specs.Fills.{no_fill, filled_on, filled, place_of, share_of, shares_of, lots_filled, fill_of, fills_of}
use Rattle.lines.specs.declared.fills.Fill.{Fill}
use Rattle.lines.specs.declared.line.Line.{Line}
use Rattle.rounds.specs.declared.sides.Side.{Side}
use Rattle.rounds.specs.declared.sides.Side.TheVariants.{Buy, Sell}
use Rattle.participants.specs.declared.rows.Participant.{Participant}

pub filled_none : (side : Side) → filled_on side no_fill ≡ 0
filled_none Buy = refl
filled_none Sell = refl

pub filled_more : (side to : Side) (f : Fill) (n : ℕ) → filled_on side (filled f to n) ≡ filled_on side f + cond (same_side to side) n 0
filled_more Buy Buy f n = refl
filled_more Buy Sell f n = omega arith
filled_more Sell Buy f n = omega arith
filled_more Sell Sell f n = refl

-- one place has no more than all together
part : (f : ℕ → ℕ) (n i : ℕ) → i < n → f i ≤ below n f
part f zero i h = absurd (omega arith)
part f (suc n) i h =
    ⊎_elim
    (λ (p : (eqb i n ≡ true) × (i ≡ n)). let e = ap f p.1 in omega arith)
    (λ (p : (eqb i n ≡ false) × (i ≡ n → ⊥)). let q = p.1 in let k : i < n = omega arith in omega (arith, part f n i k))
    (eqb_tells i n)

pub either : (b : Bool) → (b ≡ true) ⊎ (b ≡ false)
either true = inl refl
either false = inr refl

pub sides : (a b : ℕ) → (a < b) ⊎ (b ≤ a)
sides a b = grind (arith, nat_tests)

-- a share is no more than what is shared
pub share-le : (f : ℕ → ℕ) (n q i : ℕ) → (in_bounds n q ≡ true → below n f ≡ q) → (in_bounds n q ≡ false → f i ≡ 0) → (n ≤ i → f i ≡ 0) → f i ≤ q
share-le f n q i whole outside beyond =
    ⊎_elim
    (λ (b : in_bounds n q ≡ true).
    ⊎_elim
    (λ (l : i < n). omega (arith, whole b, part f n i l))
    (λ (l : n ≤ i). omega (arith, beyond l))
    (sides i n))
    (λ (b : in_bounds n q ≡ false). omega (arith, outside b))
    (either (in_bounds n q))

-- what a row is filled with, once the rows before one have their shares
abbrev pub shared_to : Side → Side → (ℕ → ℕ) → List Participant → List Fill → ℕ → ℕ → ℕ
shared_to side taker share rows fs row k = filled_on side (get_or fs k no_fill) + cond (same_side taker side) (cond (ltb k row) (share_of share rows k) 0) 0

-- before the first row has its share, none has
pub shared-none : (side taker : Side) (share : ℕ → ℕ) (rows : List Participant) (fs : List Fill) (k : ℕ) → filled_on side (get_or fs k no_fill) ≡ shared_to side taker share rows fs 0 k
shared-none side taker share rows fs k = nothing (filled_on side (get_or fs k no_fill)) (same_side taker side) (share_of share rows k)
  where
    nothing : (n : ℕ) (b : Bool) (m : ℕ) → n ≡ n + cond b (cond (ltb k 0) m 0) 0
    nothing n b m = grind (arith, nat_tests)

-- a row that has yet to come has no share
pub shared-here : (side taker : Side) (share : ℕ → ℕ) (rows : List Participant) (fs : List Fill) (row : ℕ) → shared_to side taker share rows fs row row ≡ filled_on side (get_or fs row no_fill)
shared-here side taker share rows fs row = nothing (filled_on side (get_or fs row no_fill)) (same_side taker side) (share_of share rows row)
  where
    nothing : (n : ℕ) (b : Bool) (m : ℕ) → n + cond b (cond (ltb row row) m 0) 0 ≡ n
    nothing n b m = grind (arith, nat_tests)

-- a row has its share once it is passed
shared-passed : (side taker : Side) (share : ℕ → ℕ) (rows : List Participant) (fs : List Fill) (row k : ℕ) → k < row → shared_to side taker share rows fs row k ≡ filled_on side (get_or fs k no_fill) + cond (same_side taker side) (share_of share rows k) 0
shared-passed side taker share rows fs row k h = all (filled_on side (get_or fs k no_fill)) (same_side taker side) (share_of share rows k)
  where
    all : (n : ℕ) (b : Bool) (m : ℕ) → n + cond b (cond (ltb k row) m 0) 0 ≡ n + cond b m 0
    all n b m = grind (arith, nat_tests)

-- no other row changes
shared-other : (side taker : Side) (share : ℕ → ℕ) (rows : List Participant) (fs : List Fill) (row k : ℕ) → (row ≡ k → ⊥) → shared_to side taker share rows fs row k ≡ shared_to side taker share rows fs (row + 1) k
shared-other side taker share rows fs row k h = same (filled_on side (get_or fs k no_fill)) (same_side taker side) (share_of share rows k)
  where
    same : (n : ℕ) (b : Bool) (m : ℕ) → n + cond b (cond (ltb k row) m 0) 0 ≡ n + cond b (cond (ltb k (row + 1)) m 0) 0
    same n b m = grind (arith, nat_tests)

-- a Fixing Member's row has the share of its place
pub shared-more : (side taker : Side) (share : ℕ → ℕ) (rows : List Participant) (fs₀ fs : List Fill) (row : ℕ) (v : Fill)
    → row < length fs → is_fixing (get_or rows row nobody).kind ≡ true
    → filled_on side v ≡ filled_on side (get_or fs row no_fill) + cond (same_side taker side) (share (place_of rows row)) 0
    → ((k : ℕ) → k < 256 → filled_on side (get_or fs k no_fill) ≡ shared_to side taker share rows fs₀ row k)
    → (k : ℕ) → k < 256 → filled_on side (get_or (set fs row v) k no_fill) ≡ shared_to side taker share rows fs₀ (row + 1) k
shared-more side taker share rows fs₀ fs row v h fixing s inv k b =
    ⊎_elim
    (λ (p : (eqb row k ≡ true) × (row ≡ k)).
    let P : ℕ → Type 0 = λ j. j < 256 → filled_on side (get_or (set fs row v) j no_fill) ≡ shared_to side taker share rows fs₀ (row + 1) j in
    subst P p.1
    (λ w.
    let e : share_of share rows row ≡ share (place_of rows row) = ap (λ x. cond x (share (place_of rows row)) 0) fixing in
    let f : cond (same_side taker side) (share_of share rows row) 0 ≡ cond (same_side taker side) (share (place_of rows row)) 0 = ap (λ n. cond (same_side taker side) n 0) e in
    ap (filled_on side) (get_or-set_same fs row v no_fill h) ∙ omega (arith, s, f, inv row w, shared-here side taker share rows fs₀ row, shared-passed side taker share rows fs₀ (row + 1) row (omega arith)))
    b)
    (λ (p : (eqb row k ≡ false) × (row ≡ k → ⊥)).
    let ne : k ≢ row = λ q. p.1 (sym q) in
    ap (filled_on side) (get_or-set_other fs row k v no_fill ne) ∙ (inv k b ∙ shared-other side taker share rows fs₀ row k p.1))
    (eqb_tells row k)

-- nobody else's row changes
pub shared-skip : (side taker : Side) (share : ℕ → ℕ) (rows : List Participant) (fs₀ fs : List Fill) (row : ℕ)
    → is_fixing (get_or rows row nobody).kind ≡ false
    → ((k : ℕ) → k < 256 → filled_on side (get_or fs k no_fill) ≡ shared_to side taker share rows fs₀ row k)
    → (k : ℕ) → k < 256 → filled_on side (get_or fs k no_fill) ≡ shared_to side taker share rows fs₀ (row + 1) k
shared-skip side taker share rows fs₀ fs row none inv k b =
    ⊎_elim
    (λ (p : (eqb row k ≡ true) × (row ≡ k)).
    let P : ℕ → Type 0 = λ j. j < 256 → filled_on side (get_or fs j no_fill) ≡ shared_to side taker share rows fs₀ (row + 1) j in
    subst P p.1
    (λ w.
    let e : share_of share rows row ≡ 0 = ap (λ x. cond x (share (place_of rows row)) 0) none in
    let f : cond (same_side taker side) (share_of share rows row) 0 ≡ cond (same_side taker side) 0 0 = ap (λ n. cond (same_side taker side) n 0) e in
    omega (arith, f, nought (same_side taker side), inv row w, shared-here side taker share rows fs₀ row, shared-passed side taker share rows fs₀ (row + 1) row (omega arith)))
    b)
    (λ (p : (eqb row k ≡ false) × (row ≡ k → ⊥)). inv k b ∙ shared-other side taker share rows fs₀ row k p.1)
    (eqb_tells row k)
  where
    nought : (x : Bool) → ◌≡◌ {A = ℕ} (cond x 0 0) 0
    nought true = refl
    nought false = refl

-- a row beyond the table has no share
pub share-past : (share : ℕ → ℕ) (rows : List Participant) (k : ℕ) → length rows ≤ k → share_of share rows k ≡ 0
share-past share rows k h = ap (λ (p : Participant). cond (is_fixing p.kind) (share (place_of rows k)) 0) (get_or_past rows k nobody h)

-- once all rows are passed, each has its share
pub shared-all : (side taker : Side) (share : ℕ → ℕ) (rows : List Participant) (fs : List Fill) (n k : ℕ) → length rows ≤ n → shared_to side taker share rows fs n k ≡ filled_on side (get_or fs k no_fill) + cond (same_side taker side) (share_of share rows k) 0
shared-all side taker share rows fs n k h =
    ⊎_elim
    (λ (l : k < n). shared-passed side taker share rows fs n k l)
    (λ (l : n ≤ k). idle (filled_on side (get_or fs k no_fill)) (same_side taker side) (ltb k n) (share_of share rows k) (share-past share rows k (omega arith)))
    (sides k n)
  where
    idle : (n : ℕ) (b x : Bool) (m : ℕ) → m ≡ 0 → n + cond b (cond x m 0) 0 ≡ n + cond b m 0
    idle n b true m e = refl
    idle n b false m e = ap (λ z. n + cond b z 0) (sym e)

fill-same : (f g : Fill) → filled_on Buy f ≡ filled_on Buy g → filled_on Sell f ≡ filled_on Sell g → f ≡ g
fill-same f g p q =
    let made : ℕ → ℕ → Fill = λ b s. record { bought = record { 0 = b }; sold = record { 0 = s } } in
    ap (λ n. made n f.sold.0) p ∙ ap (made g.bought.0) q

-- standing lots first and shares after make the sheet
sheet-made : (share : ℕ → ℕ) (rows : List Participant) (ls : List Line) (fs₀ fs : List Fill)
    → length fs ≡ 256
    → ((side : Side) (k : ℕ) → k < 256 → filled_on side (get_or fs₀ k no_fill) ≡ of_row (lots_on side) ls k)
    → ((side : Side) (k : ℕ) → k < 256 → filled_on side (get_or fs k no_fill) ≡ filled_on side (get_or fs₀ k no_fill) + cond (same_side (other (excess ls)) side) (share_of share rows k) 0)
    → fs ≡ fills_of share rows ls
unfolding fills_of
sheet-made share rows ls fs₀ fs h stood shared =
    let at : (side : Side) (k : ℕ) → k < 256 → filled_on side (get_or fs k no_fill) ≡ lots_filled share rows ls side k = λ side k b. shared side k b ∙ ap (λ n. n + cond (same_side (other (excess ls)) side) (share_of share rows k) 0) (stood side k b) in
    fill_by_all (fill_of share rows ls) fs 256 no_fill h (λ k b. fill-same (get_or fs k no_fill) (fill_of share rows ls k) (at Buy k b) (at Sell k b))

-- the same, by what the parts are known to be
pub fills-from : {P : Type 0} (share : P → ℕ → ℕ → ℕ → ℕ) (p : P) (rows₀ rows : List Participant) (ls₀ ls : List Line) (n q : ℕ) (taker : Side) (fs₀ fs : List Fill)
    → ls ≡ ls₀ → rows ≡ rows₀ → n ≡ member_count rows₀ → q ≡ imbalance ls₀ → taker ≡ other (excess ls₀)
    → length fs ≡ 256
    → ((side : Side) (k : ℕ) → k < 256 → filled_on side (get_or fs₀ k no_fill) ≡ of_row (lots_on side) ls k)
    → ((side : Side) (k : ℕ) → k < 256 → filled_on side (get_or fs k no_fill) ≡ filled_on side (get_or fs₀ k no_fill) + cond (same_side taker side) (share_of (share p n q) rows k) 0)
    → fs ≡ fills_of (shares_of share p rows₀ ls₀) rows₀ ls₀
fills-from share p rows₀ rows ls₀ ls n q taker fs₀ fs l r m e t h stood shared =
    let F : Side → (ℕ → ℕ) → List Participant → Side → ℕ → ℕ = λ to f rs side k. filled_on side (get_or fs₀ k no_fill) + cond (same_side to side) (share_of f rs k) 0 in
    let f : ℕ → ℕ → ℕ → ℕ = share p in
    let shares : f n q ≡ shares_of share p rows₀ ls₀ = ap (λ x. f x q) m ∙ ap (f (member_count rows₀)) e in
    sheet-made (shares_of share p rows₀ ls₀) rows₀ ls₀ fs₀ fs h
    (λ side k b. stood side k b ∙ ap (λ (x : List Line). of_row (lots_on side) x k) l)
    (λ side k b. shared side k b
    ∙ (ap (λ x. F x (f n q) rows side k) t
    ∙ (ap (λ x. F (other (excess ls₀)) x rows side k) shares
    ∙ ap (λ x. F (other (excess ls₀)) (shares_of share p rows₀ ls₀) x side k) r)))
