-- Figures written one by one as the words of a message.
use Rattle.std.proofs.Common.{◌≡◌, ℕ, zero, suc, ◌+◌, ◌-◌, ◌^◌, ◌<◌, ◌≤◌, Bool, true, false, cond, List, [], ◌∷◌, ◌++◌, length, get_or, take, drop, set, Some, None, Option, MatchOption, sym, refl, ap, ◌∙◌, arith}
use Rattle.std.specs.List.{AllByRecursion}
use Rattle.std.specs.Option.{option_map}
use Rattle.std.proofs.lemmas.List.{at_drop_more, drop_more, take_more, take_rest, length-drop, length-take-le, set_at, append_assoc}
use Rattle.std.proofs.lemmas.Bool.{false≢true}
use Rattle.std.proofs.lemmas.Bool.Decides.{nat_tests}
use Rattle.messages.specs.declared.verbs.Verb.{Verb}
use Rattle.messages.specs.declared.kinds.Kind.{Kind}
use Rattle.messages.specs.declared.kinds.Kind.TheVariants as kind
use Rattle.messages.specs.declared.rows.OpenRow.{OpenRow}
use Rattle.messages.specs.declared.calls.Metal.{Metal}
use Rattle.messages.specs.declared.calls.Metal.TheVariants.{Gold, Silver}
use Rattle.messages.specs.Kinds.{word_of}
use Rattle.messages.specs.Verbs.{first, again}
use Rattle.messages.specs.Reading.{coming}
use Rattle.messages.specs.Writing.{opens, stamp, stamped, counted, writable, first_over}
use Rattle.messages.specs.Rows.{flat}

-- after i figures: what was written, and what is still to be stamped
pub record Filled (more kinds left : List Kind) (fs : List ℕ) (i : ℕ) (was now : List ℕ) : Type 0 where
  pub front : now ≡ take i (stamped more kinds fs) ++ drop i was
  pub rest : drop i (stamped more kinds fs) ≡ stamped more left (drop i fs)
  pub count : counted more left (drop i fs) ≡ true

fits-here : (i : ℕ) (r : Option ℕ) (t : Bool) → cond t r (Some i) ≡ None → (t ≡ true) × (r ≡ None)
fits-here i r true e = (refl, e)
fits-here i r false e = absurd (grind arith)

-- what can be written has at most 28 bits
writable-fits : (i f : ℕ) → writable i f ≡ true → f < 2 ^ 28
writable-fits i f e = grind (arith, nat_tests)

pub fits-from-over : (fs : List ℕ) (i : ℕ) → first_over i fs ≡ None → AllByRecursion (λ f. f < 2 ^ 28) fs
fits-from-over [] i e = tt
fits-from-over (f ∷ fs) i e = let h = fits-here i (first_over (i + 1) fs) (writable i f) e in (writable-fits i f h.0, fits-from-over fs (i + 1) h.1)

pub length-stamped : (more left : List Kind) (fs : List ℕ) → length (stamped more left fs) ≡ length fs
length-stamped more left [] = refl
length-stamped more left (f ∷ fs) = ap suc (length-stamped more (drop 1 (coming more left)) fs)

stamp-some : (ks : List Kind) (d : Kind) (f : ℕ) → 1 ≤ length ks → stamp ks f ≡ word_of (get_or ks 0 d) f
stamp-some [] d f h = absurd (omega arith)
stamp-some (k ∷ ks) d f h = refl

counted-some : (more left : List Kind) (f : ℕ) (fs : List ℕ) → counted more left (f ∷ fs) ≡ true → (1 ≤ length (coming more left)) × (counted more (drop 1 (coming more left)) fs ≡ true)
counted-some [] [] f fs c = absurd (false≢true c)
counted-some (m ∷ ms) [] f fs c = (omega arith, c)
counted-some [] (k ∷ ks) f fs c = (omega arith, c)
counted-some (m ∷ ms) (k ∷ ks) f fs c = (omega arith, c)

-- one more element of a list
cut : (W : List ℕ) (i v : ℕ) (t : List ℕ) → drop i W ≡ v ∷ t → (i ≤ length W) × (take (i + 1) W ≡ take i W ++ v ∷ []) × (drop (i + 1) W ≡ t)
cut W i v t e =
    let n : length W - i ≡ suc (length t) = sym (length-drop i W) ∙ ap length e in
    let lt : i < length W = omega arith in
    let d = drop_more W i 0 lt in
    let m = take_more W i 0 lt in
    (omega arith, (cc), (cc))

module _ {more kinds left : List Kind} {fs : List ℕ} {i : ℕ} {was now : List ℕ} (F : Filled more kinds left fs i was now) where
  next-counted : i < length fs → (1 ≤ length (coming more left)) × (counted more (drop 1 (coming more left)) (drop (i + 1) fs) ≡ true)
  next-counted h = counted-some more left (get_or fs i 0) (drop (i + 1) fs) (sym (at_drop_more (counted more left) fs i 0 h) ∙ F.count)

  pub comes : (ks : List Kind) → ks ≡ coming more left → i < length fs → 1 ≤ length ks
  comes ks e h = rw e (next-counted h).0

  pub fill_more : (ks : List Kind) (d : Kind) (v : ℕ) → ks ≡ coming more left → v ≡ word_of (get_or ks 0 d) (get_or fs i 0) → i < length fs → i < length was
      → Filled more kinds (take (length ks - 1) (drop 1 ks)) fs (i + 1) was (set now i v)
  fill_more ks d v e q h r =
      let s : stamp (coming more left) (get_or fs i 0) ≡ v =
      ap (λ x. stamp x (get_or fs i 0)) (sym e) ∙ stamp-some ks d (get_or fs i 0) (comes ks e h) ∙ sym q in
      let t : List ℕ = stamped more (drop 1 (coming more left)) (drop (i + 1) fs) in
      let p = cut (stamped more kinds fs) i v t (F.rest ∙ at_drop_more (stamped more left) fs i 0 h ∙ ap (λ x. x ∷ t) s) in
      let at_i = set_at (take i (stamped more kinds fs)) (get_or was i 0) (drop (i + 1) was) v i (length-take-le i (stamped more kinds fs) p.0) in
      rw (take_rest ks 1, e) (record {
        front = ap (λ x. set x i v) (F.front ∙ ap (λ x. take i (stamped more kinds fs) ++ x) (drop_more was i 0 r))
            ∙ at_i ∙ sym (append_assoc (take i (stamped more kinds fs)) (v ∷ []) (drop (i + 1) was)) ∙ ap (λ x. x ++ drop (i + 1) was) (sym p.1);
        rest = p.2;
        count = (next-counted h).1;
      })

-- r is the first of these places, the first of which is s, that cannot be written
abbrev OverAt : List ℕ → ℕ → Option ℕ → Type 0
OverAt fs s r =
    MatchOption r ((k : ℕ) → k < length fs → writable (s + k) (get_or fs k 0) ≡ true)
    (λ i. (i < length fs) × (writable (s + i) (get_or fs i 0) ≡ false) × ((k : ℕ) → k < i → writable (s + k) (get_or fs k 0) ≡ true))

writable_at : (m n f : ℕ) (b : Bool) → m ≡ n → writable m f ≡ b → writable n f ≡ b
writable_at m n f b e h = ap (λ k. writable k f) (sym e) ∙ h

over_more : (f : ℕ) (fs : List ℕ) (s : ℕ) (x : Option ℕ) → writable (s + 0) f ≡ true → x ≡ first_over (s + 1) fs → x ≡ first_over s (f ∷ fs)
over_more f fs s x t e = e ∙ sym (ap (λ b. cond b (first_over (s + 1) fs) (Some s)) (writable_at (s + 0) s f true (omega arith) t))

over_from : (fs : List ℕ) (s : ℕ) (r : Option ℕ) → OverAt fs s r → option_map (λ i. s + i) r ≡ first_over s fs
over_from [] s None h = refl
over_from [] s (Some i) h = absurd (omega (arith, h.0))
over_from (f ∷ fs) s None h =
    over_more f fs s None (h 0 (omega arith)) (over_from fs (s + 1) None (λ k p. writable_at (s + suc k) (s + 1 + k) _ true (omega arith) (h (suc k) (omega arith))))
over_from (f ∷ fs) s (Some zero) h =
    ap Some (omega arith) ∙ sym (ap (λ b. cond b (first_over (s + 1) fs) (Some s)) (writable_at (s + 0) s f false (omega arith) h.1))
over_from (f ∷ fs) s (Some (suc i)) h =
    ap Some (omega arith)
    ∙ over_more f fs s (Some (s + 1 + i)) (h.2 0 (omega arith))
    (over_from fs (s + 1) (Some i)
    (omega (arith, h.0), writable_at (s + suc i) (s + 1 + i) _ false (omega arith) h.1, λ k p. writable_at (s + suc k) (s + 1 + k) _ true (omega arith) (h.2 (suc k) (omega arith))))

-- the first place whose figure cannot be written, as a search of all places finds it
pub over_first : (fs : List ℕ) (r : Option ℕ) (n : ℕ) → n ≡ length fs
    → MatchOption r ((k : ℕ) → 0 ≤ k → k < n → writable k (get_or fs k 0) ≡ true) (λ i. (0 ≤ i) × (i < n) × (writable i (get_or fs i 0) ≡ false) × ((k : ℕ) → 0 ≤ k → k < i → writable k (get_or fs k 0) ≡ true))
    → r ≡ first_over 0 fs
over_first fs None n e h = over_from fs 0 None (λ k p. writable_at k (0 + k) _ true (omega arith) (h k (omega arith) (omega arith)))
over_first fs (Some i) n e h =
    ap Some (omega arith) ∙ over_from fs 0 (Some i) (omega (arith, h.1), writable_at i (0 + i) _ false (omega arith) h.2, λ k p. writable_at k (0 + k) _ true (omega arith) (h.3 k (omega arith) p))

-- the figures of begin and open are as many as may come
pub counted-prices : (ps : List ℕ) → counted (kind.Price ∷ []) [] ps ≡ true
counted-prices [] = refl
counted-prices (p ∷ ps) = counted-prices ps

pub counted-rows : (rows : List OpenRow) → counted (kind.Participant ∷ kind.Millions ∷ []) [] (flat rows) ≡ true
counted-rows [] = refl
counted-rows (r ∷ rs) = counted-rows rs

counted-open : (m : Metal) (n t p : ℕ) (rows : List OpenRow) → counted (again (opens m)) (first (opens m)) (n ∷ t ∷ p ∷ flat rows) ≡ true
counted-open Gold n t p rows = counted-rows rows
counted-open Silver n t p rows = counted-rows rows

pub counted-opened : (m : Metal) (v : Verb) (n t p : ℕ) (rows : List OpenRow) → v ≡ opens m → counted (again v) (first v) (n ∷ t ∷ p ∷ flat rows) ≡ true
counted-opened m v n t p rows e = rw e (counted-open m n t p rows)
