use Rattle.std.proofs.Common.{◌≡◌, ℕ, zero, suc, ◌+◌, ◌<◌, Bool, true, false, cond, eqb, List, [], ◌∷◌, ◌++◌, Ok, Err, count_by, ap, ◌∙◌, subst, ⊎_elim, add-one, arith}
use Rattle.std.proofs.lemmas.List.FromFn.{map-range_with_len_more}
use Rattle.std.proofs.lemmas.List.Sums.{sum_by_push}
use Rattle.std.proofs.lemmas.Bool.Decides.{eqb_tells}
use Rattle.rounds.specs.Gates.{Check}
use Rattle.participants.specs.Rosters.{participant_at, row_fits, rows_fit, copied}
use Rattle.participants.specs.declared.kinds.Kind.{Kind}
use Rattle.rounds.specs.Gates.{then_ok}
use Rattle.rounds.specs.declared.faults.SessionFault.{SessionFault}
use Rattle.participants.specs.declared.rows.Listed.{Listed}

pub rows_more : (ls : List Listed) (k : ℕ) → rows_fit ls k ≡ Ok tt → row_fits ls k ≡ Ok tt → rows_fit ls (k + 1) ≡ Ok tt
rows_more ls k h e = rw add-one (ap (λ (c : Check). then_ok c (row_fits ls k)) h ∙ e)

then-err : (r s : Check) (e : SessionFault) → r ≡ Err e → then_ok r s ≡ Err e
then-err r s e h = ap (λ (c : Check). then_ok c s) h

pub rows-stop : (ls : List Listed) (k n : ℕ) (e : SessionFault) → k < n → rows_fit ls k ≡ Ok tt → row_fits ls k ≡ Err e → rows_fit ls n ≡ Err e
rows-stop ls k zero e lt h f = absurd (omega arith)
rows-stop ls k (suc n) e lt h f =
    ⊎_elim
    (λ (p : (eqb k n ≡ true) × (k ≡ n)). let P : ℕ → Type 0 = λ j. then_ok (rows_fit ls j) (row_fits ls j) ≡ Err e in subst P p.1 (ap (λ (c : Check). then_ok c (row_fits ls k)) h ∙ f))
    (λ (p : (eqb k n ≡ false) × (k ≡ n → ⊥)). let q = p.1 in let l : k < n = omega arith in then-err (rows_fit ls n) _ e (rows-stop ls k n e l h f))
    (eqb_tells k n)

pub copied_more : (ls : List Listed) (k : ℕ) → copied ls (k + 1) ≡ copied ls k ++ participant_at ls k ∷ []
copied_more ls k = map-range_with_len_more (participant_at ls) 0 k k (omega arith)

count-push : {X : Type 0} (p : X → Bool) (xs : List X) (x : X) → count_by p (xs ++ x ∷ []) ≡ count_by p xs + cond (p x) 1 0
count-push p xs x = sum_by_push (λ y. cond (p y) 1 0) xs x

pub count-more : (p : Kind → Bool) (ls : List Listed) (k : ℕ) → count_by (λ r. p r.kind) (copied ls (k + 1)) ≡ count_by (λ r. p r.kind) (copied ls k) + cond (p (participant_at ls k).kind) 1 0
count-more p ls k = ap (count_by (λ r. p r.kind)) (copied_more ls k) ∙ count-push (λ r. p r.kind) (copied ls k) (participant_at ls k)
