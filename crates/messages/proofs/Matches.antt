-- A step of the words against the kinds that have to come.
use Rattle.std.proofs.Common.{◌≡◌, ℕ, suc, ◌+◌, ◌<◌, Bool, true, false, cond, List, [], ◌∷◌, length, get_or, drop, Ok, Err, Result, sym, refl, ap, ◌∙◌, arith}
use Rattle.std.proofs.lemmas.Bool.{eqb-true, eq-eqb, leb-true, le-leb}
use Rattle.std.proofs.lemmas.List.{at_drop_more}
use Rattle.messages.specs.declared.kinds.Kind.{Kind}
use Rattle.messages.specs.declared.faults.MessageFault.{MessageFault}
use Rattle.messages.specs.declared.faults.MessageFault.TheVariants.{Misfit}
use Rattle.messages.specs.declared.verbs.Verb.{Verb}
use Rattle.messages.specs.Kinds.{is_kind}
use Rattle.messages.specs.Verbs.{first, again}
use Rattle.messages.specs.Reading.{coming, leads, matched, fills}

-- a test whose failure refuses was passed
pub then-from-cond : {X Y : Type 0} {x : X} (t : Bool) (r : Result X Y) (y : Y) → cond t r (Err y) ≡ Ok x → r ≡ Ok x
then-from-cond true r y e = e
then-from-cond false r y e = absurd (grind arith)

pub test-from-cond : {X Y : Type 0} {x : X} (t : Bool) (r : Result X Y) (y : Y) → cond t r (Err y) ≡ Ok x → t ≡ true
test-from-cond true r y e = refl
test-from-cond false r y e = absurd (grind arith)

pub leads-none : (ks : List Kind) (w : ℕ) → length ks < 1 → leads ks w ≡ false
leads-none [] w h = refl
leads-none (k ∷ ks) w h = absurd (omega arith)

-- place i, where `left` still has to come, and the words before it have matched
module _ (more left : List Kind) (ws : List ℕ) (i : ℕ) (X : Result (Unit {0}) MessageFault) (so_far : matched more left i (drop i ws) ≡ X) where
  pub refused-here : (ks : List Kind) → ks ≡ coming more left → i < length ws → leads ks (get_or ws i 0) ≡ false → Err (Misfit i) ≡ X
  refused-here ks e lt h =
      let m = at_drop_more (matched more left i) ws i 0 lt in
      let f : leads (coming more left) (get_or ws i 0) ≡ false = rw e at h in
      simp f at (sym m ∙ so_far)

-- words that match are as many as their verb asks
pub fills-from-matched : (more left : List Kind) (i : ℕ) (ws : List ℕ) → matched more left i ws ≡ Ok tt → fills more left (length ws) ≡ true
fills-from-matched [] [] i [] e = refl
fills-from-matched (m ∷ ms) [] i [] e = refl
fills-from-matched more (k ∷ ks) i [] e = absurd (grind arith)
fills-from-matched [] [] i (w ∷ ws) e = absurd (grind arith)
fills-from-matched (m ∷ ms) [] i (w ∷ ws) e = le-leb 0 (suc (length ws)) (omega arith)
fills-from-matched [] (k ∷ ks) i (w ∷ ws) e =
    let h = fills-from-matched [] ks (i + 1) ws (then-from-cond (is_kind k w) _ _ e) in eq-eqb _ _ (ap suc (eqb-true _ _ h))
fills-from-matched (m ∷ ms) (k ∷ ks) i (w ∷ ws) e =
    let h = fills-from-matched (m ∷ ms) ks (i + 1) ws (then-from-cond (is_kind k w) _ _ e) in le-leb _ _ (omega (arith, leb-true _ _ h))

pub fills-at : (v : Verb) (more kinds : List Kind) (m : List ℕ) → more ≡ again v → kinds ≡ first v → Ok tt ≡ matched more kinds 0 m → fills (again v) (first v) (length m) ≡ true
fills-at v more kinds m p q e =
    fills-from-matched (again v) (first v) 0 m (ap (λ x. matched x (first v) 0 m) (sym p) ∙ ap (λ x. matched more x 0 m) (sym q) ∙ sym e)
