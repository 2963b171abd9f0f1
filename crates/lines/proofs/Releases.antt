use Rattle.std.proofs.Common.{◌≡◌, ℕ, zero, suc, ◌+◌, ◌<◌, ◌≤◌, true, false, cond, eqb, leb, List, length, take, length-take, Some, None, Ok, Err, Option, Result, sym, refl, ap, ◌∙◌, subst, ⊎_elim, add-one, arith}
use mathlib.Core.Path.{fun_ext}
use Rattle.std.proofs.lemmas.Bool.Decides.{nat_tests, eqb_tells, leb_tells}
use Rattle.std.proofs.lemmas.List.{get_or-take}
use Rattle.measures.specs.declared.Fen.{Fen}
use Rattle.books.specs.declared.balance.Balance.{Balance}
use Rattle.books.specs.declared.faults.BookFault.{BookFault}
use Rattle.books.specs.Accounts.{Accounts, released_of, released_at}
use Rattle.lines.specs.Striking.{covers, covers_all, due_in, next, no_fen, released_all}

pub covers_more : (m : Accounts) (due : ℕ → ℕ) (k : ℕ) → covers_all m due k ≡ Ok tt → covers (m k) (due k) ≡ Ok tt → covers_all m due (k + 1) ≡ Ok tt
covers_more m due k h e = rw add-one (ap (λ r. next r (covers (m k) (due k))) h ∙ e)

next-err : (r s : Result (Unit {0}) BookFault) (e : BookFault) → r ≡ Err e → next r s ≡ Err e
next-err r s e h = ap (λ x. next x s) h

pub covers-stop : (m : Accounts) (due : ℕ → ℕ) (k n : ℕ) (e : BookFault) → k < n → covers_all m due k ≡ Ok tt → covers (m k) (due k) ≡ Err e → covers_all m due n ≡ Err e
covers-stop m due k zero e lt h f = absurd (omega arith)
covers-stop m due k (suc n) e lt h f =
    ⊎_elim
    (λ (p : (eqb k n ≡ true) × (k ≡ n)). let P : ℕ → Type 0 = λ j. next (covers_all m due j) (covers (m j) (due j)) ≡ Err e in subst P p.1 (ap (λ r. next r (covers (m k) (due k))) h ∙ f))
    (λ (p : (eqb k n ≡ false) × (k ≡ n → ⊥)). let q = p.1 in let l : k < n = omega arith in next-err (covers_all m due n) _ e (covers-stop m due k n e l h f))
    (eqb_tells k n)

next-ok : (r s : Result (Unit {0}) BookFault) → next r s ≡ Ok tt → (r ≡ Ok tt) × (s ≡ Ok tt)
next-ok (Ok u) s h = (refl, h)
next-ok (Err e) s h = absurd (let z : ◌≡◌ {A = ℕ} 0 1 = cc in omega arith)

-- a book that covers all that is due covers what is due to each account
pub covers_at : (m : Accounts) (due : ℕ → ℕ) (k n : ℕ) → k < n → covers_all m due n ≡ Ok tt → covers (m k) (due k) ≡ Ok tt
covers_at m due k zero lt h = absurd (omega arith)
covers_at m due k (suc n) lt h = let p = next-ok (covers_all m due n) (covers (m n) (due n)) h in
    ⊎_elim
    (λ (q : (eqb k n ≡ true) × (k ≡ n)). let P : ℕ → Type 0 = λ j. covers (m j) (due j) ≡ Ok tt in subst P (sym q.1) p.1)
    (λ (q : (eqb k n ≡ false) × (k ≡ n → ⊥)). let r = q.1 in let l : k < n = omega arith in covers_at m due k n l p.0)
    (eqb_tells k n)

-- a release to the accounts below k leaves account k
pub untouched : (m : Accounts) (due : ℕ → ℕ) (k : ℕ) → released_all m due k k ≡ m k
untouched m due k = grind (arith, nat_tests)

-- dues that are the same below n cover and release the same
pub covers-same : (m : Accounts) (f g : ℕ → ℕ) (n : ℕ) → ((k : ℕ) → k < n → f k ≡ g k) → covers_all m f n ≡ covers_all m g n
covers-same m f g zero h = refl
covers-same m f g (suc n) h = let r = covers-same m f g n (λ k l. h k (omega arith)) in let e = h n (omega arith) in cc

pub released-same : (m : Accounts) (f g : ℕ → ℕ) (n : ℕ) → ((k : ℕ) → k < n → f k ≡ g k) → released_all m f n ≡ released_all m g n
released-same m f g n h = fun_ext (λ a. ⊎_elim
    (λ (p : (leb (suc a) n ≡ true) × (suc a ≤ n)). let e = h a p.1 in let t = p.0 in cc)
    (λ (p : (leb (suc a) n ≡ false) × (n < suc a)). let t = p.0 in cc)
    (leb_tells (suc a) n))

-- the first n of some sums cover and release what the dues do that they are below n
first : (sums : List Fen) (n : ℕ) → n ≤ length sums → length (take n sums) ≡ n
first sums n l = omega (arith, length-take n sums)

due-first : (sums : List Fen) (due : ℕ → ℕ) (n : ℕ) → ((k : ℕ) → k < n → due_in sums k ≡ due k) → (k : ℕ) → k < n → due_in (take n sums) k ≡ due k
due-first sums due n h k b = ap (λ (f : Fen). f.0) (get_or-take n sums k no_fen b) ∙ h k b

pub covers-first : (m : Accounts) (sums : List Fen) (due : ℕ → ℕ) (n : ℕ) → n ≤ length sums → ((k : ℕ) → k < n → due_in sums k ≡ due k) → covers_all m (due_in (take n sums)) (length (take n sums)) ≡ covers_all m due n
covers-first m sums due n l h = ap (covers_all m (due_in (take n sums))) (first sums n l) ∙ covers-same m (due_in (take n sums)) due n (due-first sums due n h)

pub released-first : (m : Accounts) (sums : List Fen) (due : ℕ → ℕ) (n : ℕ) → n ≤ length sums → ((k : ℕ) → k < n → due_in sums k ≡ due k) → released_all m (due_in (take n sums)) (length (take n sums)) ≡ released_all m due n
released-first m sums due n l h = ap (released_all m (due_in (take n sums))) (first sums n l) ∙ released-same m (due_in (take n sums)) due n (due-first sums due n h)
