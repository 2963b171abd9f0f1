use Rattle.std.specs.Prelude.{◌≡◌, ℕ, zero, suc, ◌+◌, ◌-◌, ◌*◌, ◌/◌, ◌%◌, ◌<◌, ◌≤◌, min, Bool, true, cond, nat_lt}
use Rattle.std.proofs.Common.{⊎_elim, ◌∙◌, ap, suc-mul, mod-lt, mod-eq_of_lt, arith}
use Rattle.std.proofs.Math.Nat.{div-add-mod, add-mod_right}
use Rattle.std.proofs.lemmas.Bool.{cases_lt}
use Rattle.std.proofs.lemmas.Bool.Decides.{nat_tests}
use Rattle.sharing.specs.Shares.{in_bounds, below, shared_out, table_extra, table_share, start_of, turn_extra, turn_share}

-- how many places below k are marked
abbrev pub marked : (ℕ → Bool) → ℕ → ℕ
marked extra k = below k (λ i. cond (extra i) 1 0)

-- the places below k have q / n lots each, and one more for each mark
front : (extra : ℕ → Bool) (n q k : ℕ) → in_bounds n q ≡ true → k ≤ n → below k (shared_out extra n q) ≡ k * (q / n) + marked extra k
front extra n q zero h l = omega arith
front extra n q (suc k) h l =
    let before = front extra n q k h (omega arith) in
    let here : shared_out extra n q k ≡ q / n + cond (extra k) 1 0 = grind (arith, nat_tests) in
    let more = suc-mul k (q / n) in
    omega arith

-- where the marks number q mod n, the shares are whole
pub whole : (extra : ℕ → Bool) (n q : ℕ) → in_bounds n q ≡ true → marked extra n ≡ q % n → below n (shared_out extra n q) ≡ q
whole extra n q h m =
    let all = front extra n q n h (omega arith) in
    let split = div-add-mod q n in
    omega arith

pub level : (extra : ℕ → Bool) (n q i j : ℕ) → in_bounds n q ≡ true → i < n → j < n → shared_out extra n q i ≤ shared_out extra n q j + 1
level extra n q i j h k l = grind (arith, nat_tests)

-- there is a member within the bounds
pub some : (n q : ℕ) → in_bounds n q ≡ true → 0 < n
some n q h = grind (arith, nat_tests)

-- the first r places number r
first : (r k : ℕ) → marked (λ i. nat_lt i r) k ≡ min k r
first r zero = omega arith
first r (suc k) = let before = first r k in grind (arith, nat_tests)

pub table : (n q : ℕ) → in_bounds n q ≡ true → marked (table_extra n q) n ≡ q % n
table n q h =
    let count = first (q % n) n in
    let low = mod-lt q (some n q h) in
    omega arith

-- a place below the start s waits until the turn has gone around
pub around : (n s i : ℕ) → s < n → i < s → (i + n - s) % n ≡ i + n - s
around n s i h l = mod-eq_of_lt (omega arith)

-- a place from the start on is as many places away
pub ahead : (n s i : ℕ) → s ≤ i → i < n → (i + n - s) % n ≡ i - s
ahead n s i h l =
    let far : i + n - s ≡ (i - s) + n = omega arith in
    let low : i - s < n = omega arith in
    ap (λ m. m % n) far ∙ add-mod_right (i - s) n ∙ mod-eq_of_lt low

-- table order is by turn from the first place on
pub turn_from_first : (n q i : ℕ) → turn_share 0 n q i ≡ table_share n q i
turn_from_first n q i = ⊎_elim
    (λ (p : i < n). let here = ahead n 0 i (omega arith) p in grind (arith, nat_tests))
    (λ (p : n ≤ i). grind (arith, nat_tests))
    (cases_lt i n)

-- of the r places from s on, around the table, min k (r + s - n) stand before s and below k, and min (k - s) r from s on
turned : (n s r k : ℕ) → s < n → r < n → k ≤ n → marked (λ i. nat_lt ((i + n - s) % n) r) k ≡ min k (r + s - n) + min (k - s) r
turned n s r zero h l m = omega arith
turned n s r (suc k) h l m =
    let before = turned n s r k h l (omega arith) in
    ⊎_elim
    (λ (p : k < s). let here = around n s k h p in grind (arith, nat_tests))
    (λ (p : s ≤ k). let here = ahead n s k p m in grind (arith, nat_tests))
    (cases_lt k s)

pub turn : (s n q : ℕ) → in_bounds n q ≡ true → marked (turn_extra s n q) n ≡ q % n
turn s n q h =
    let low = mod-lt q (some n q h) in
    let start = mod-lt (start_of s) (some n q h) in
    let count = turned n (start_of s % n) (q % n) n start low (omega arith) in
    omega arith

-- the shares by turn are whole, from any start
pub turn_whole : (s n q : ℕ) → in_bounds n q ≡ true → below n (turn_share s n q) ≡ q
turn_whole s n q h = whole (turn_extra s n q) n q h (turn s n q h)

-- and so they are in table order
pub table_whole : (n q : ℕ) → in_bounds n q ≡ true → below n (table_share n q) ≡ q
table_whole n q h = whole (table_extra n q) n q h (table n q h)
