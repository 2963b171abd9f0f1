-- The round trips between calls and messages.
use Rattle.std.proofs.Common.{◌≡◌, ℕ, zero, suc, ◌+◌, ◌*◌, ◌/◌, ◌%◌, ◌^◌, ◌<◌, ◌≤◌, Bool, true, false, cond, eqb, ltb, ◌⊎◌, List, [], ◌∷◌, ◌++◌, map, length, get_or, take, drop, IfOk, Some, None, Ok, Err, Option, Result, sym, refl, ap, ◌∙◌, subst, inl, inr, ⊎_elim, arith}
use Rattle.std.specs.List.{AllByRecursion}
use Rattle.std.proofs.lemmas.Bool.{false≢true, eqb-true, eq-eqb, leb-true}
use Rattle.std.proofs.lemmas.Bool.Decides.{nat_tests}
use Rattle.std.proofs.lemmas.List.{drop_more, drop_all, take_at}
use Rattle.messages.specs.declared.kinds.Kind.{Kind}
use Rattle.messages.specs.declared.kinds.Kind.TheVariants as kind
use Rattle.messages.specs.declared.rows.OpenRow.{OpenRow}
use Rattle.messages.specs.declared.calls.Metal.TheVariants.{Gold, Silver}
use Rattle.messages.specs.declared.verbs.Verb.{Verb}
use Rattle.messages.specs.declared.verbs.Verb.TheVariants.{Quote, Begin, Buy, Sell, Reduce, Close, Suspend, Reissue, Announce, OpenGold, OpenSilver}
use Rattle.messages.specs.declared.faults.MessageFault.{MessageFault}
use Rattle.messages.specs.declared.faults.MessageFault.TheVariants.{Short}
use Rattle.messages.specs.Kinds.{kind_number, is_kind, figure_of, word_of}
use Rattle.messages.specs.Verbs.{verb_number, named, verbs, verb_of, first, again}
use Rattle.messages.specs.Calls.{Said, quote, begin, buy, sell, reduce, close, suspend, reissue, announce, opened}
use Rattle.messages.specs.Rows.{row_of, participant_figure, paired}
use Rattle.messages.specs.Reading.{matched, fills, call_of, answered, reading_as, verb_named, reading}
use Rattle.messages.specs.Writing.{verb_in, figures, stamped, counted, words_of, Fits, first_over, written_unless, writing}
use Rattle.messages.specs.Rows.{flat}
use Rattle.messages.proofs.Stamps.{fits-from-over, length-stamped, counted-prices, counted-rows}
use Rattle.messages.proofs.Matches.{then-from-cond, test-from-cond, fills-from-matched}

-- ---- a word and its parts

kind-word : (k : Kind) (f : ℕ) → is_kind k (word_of k f) ≡ true
kind-word k f = eq-eqb _ _ (omega arith)

figure-word : (k : Kind) (f : ℕ) → f < 2 ^ 28 → figure_of (word_of k f) ≡ f
figure-word k f h = omega arith

word-figure : (k : Kind) (w : ℕ) → is_kind k w ≡ true → word_of k (figure_of w) ≡ w
word-figure k w h = omega (arith, eqb-true (w / 2 ^ 28) (kind_number k) h)

-- ---- a participant and its figure

abbrev row : ℕ → ℕ → ℕ → OpenRow
row k c m = record { kind = k; carrier = c; millions = m }

row_back : (r : OpenRow) → participant_figure r < 2 ^ 28 → row_of (participant_figure r) r.millions ≡ r
row_back r h =
    let small : r.carrier < 65536 = grind (arith, nat_tests) in
    let e : participant_figure r ≡ r.kind * 65536 + r.carrier = grind (arith, nat_tests) in
    let k : participant_figure r / 65536 ≡ r.kind = rw e (omega arith) in
    let c : participant_figure r % 65536 ≡ r.carrier = rw e (omega arith) in
    ap (λ x. row x (participant_figure r % 65536) r.millions) k ∙ ap (λ x. row r.kind x r.millions) c

figure-back : (x y : ℕ) → x < 2 ^ 28 → participant_figure (row_of x y) ≡ x
figure-back x y h = grind (arith, nat_tests)

-- ---- words that match are the stamped figures

stamped-figures : (more left : List Kind) (i : ℕ) (ws : List ℕ) → matched more left i ws ≡ Ok tt → stamped more left (map figure_of ws) ≡ ws
stamped-figures more left i [] e = refl
stamped-figures [] [] i (w ∷ ws) e = absurd (grind arith)
stamped-figures (m ∷ ms) [] i (w ∷ ws) e =
    cc (word-figure m w (test-from-cond (is_kind m w) _ _ e), stamped-figures (m ∷ ms) ms (i + 1) ws (then-from-cond (is_kind m w) _ _ e))
stamped-figures more (k ∷ ks) i (w ∷ ws) e =
    cc (word-figure k w (test-from-cond (is_kind k w) _ _ e), stamped-figures more ks (i + 1) ws (then-from-cond (is_kind k w) _ _ e))

-- ---- the figures of a call, stamped, match

matched-stamped : (more left : List Kind) (i : ℕ) (fs : List ℕ) → counted more left fs ≡ true → AllByRecursion (λ f. f < 2 ^ 28) fs → matched more left i (stamped more left fs) ≡ Ok tt
matched-stamped more [] i [] c h = refl
matched-stamped more (k ∷ ks) i [] c h = absurd (false≢true c)
matched-stamped [] [] i (f ∷ fs) c h = absurd (false≢true c)
matched-stamped (m ∷ ms) [] i (f ∷ fs) c h = simp (kind-word m f) (matched-stamped (m ∷ ms) ms (i + 1) fs c h.1)
matched-stamped more (k ∷ ks) i (f ∷ fs) c h = simp (kind-word k f) (matched-stamped more ks (i + 1) fs c h.1)

figures-stamped : (more left : List Kind) (fs : List ℕ) → AllByRecursion (λ f. f < 2 ^ 28) fs → counted more left fs ≡ true → map figure_of (stamped more left fs) ≡ fs
figures-stamped more left [] h c = refl
figures-stamped [] [] (f ∷ fs) h c = absurd (false≢true c)
figures-stamped (m ∷ ms) [] (f ∷ fs) h c = cc (figure-word m f h.0, figures-stamped (m ∷ ms) ms fs h.1 c)
figures-stamped more (k ∷ ks) (f ∷ fs) h c = cc (figure-word k f h.0, figures-stamped more ks fs h.1 c)

counted-call : (c : Said) → counted (again (verb_in c)) (first (verb_in c)) (figures c) ≡ true
counted-call (quote time row price) = refl
counted-call (begin time prices) = counted-prices prices
counted-call (buy time row lots) = refl
counted-call (sell time row lots) = refl
counted-call (reduce time row line lots) = refl
counted-call (close time) = refl
counted-call (suspend time) = refl
counted-call (reissue time price) = refl
counted-call (announce time price) = refl
counted-call (opened Gold time price rows) = counted-rows rows
counted-call (opened Silver time price rows) = counted-rows rows

verb-word : (v : Verb) → verb_of (word_of kind.Verb (verb_number v)) ≡ Some v
verb-word Quote = refl
verb-word Begin = refl
verb-word Buy = refl
verb-word Sell = refl
verb-word Reduce = refl
verb-word Close = refl
verb-word Suspend = refl
verb-word Reissue = refl
verb-word Announce = refl
verb-word OpenGold = refl
verb-word OpenSilver = refl

-- ---- a call that is written and read

paired-flat : (rows : List OpenRow) → AllByRecursion (λ f. f < 2 ^ 28) (flat rows) → paired (flat rows) ≡ rows
paired-flat [] h = refl
paired-flat (r ∷ rs) h = cc (row_back r h.0, paired-flat rs h.1.1)

rows_back : (rows : List OpenRow) → AllByRecursion (λ f. f < 2 ^ 28) (flat rows) → paired (map figure_of (stamped (kind.Participant ∷ kind.Millions ∷ []) [] (flat rows))) ≡ rows
rows_back rows h = ap paired (figures-stamped _ [] (flat rows) h (counted-rows rows)) ∙ paired-flat rows h

call_back : (c : Said) → Fits c → call_of (verb_in c) (words_of c) ≡ c
call_back (quote time row price) h = cc (figure-word kind.Time time h.1.0, figure-word kind.Row row h.1.1.0, figure-word kind.Price price h.1.1.1.0)
call_back (begin time prices) h = cc (figure-word kind.Time time h.1.0, figures-stamped (kind.Price ∷ []) [] prices h.1.1 (counted-prices prices))
call_back (buy time row lots) h = cc (figure-word kind.Time time h.1.0, figure-word kind.Row row h.1.1.0, figure-word kind.Lots lots h.1.1.1.0)
call_back (sell time row lots) h = cc (figure-word kind.Time time h.1.0, figure-word kind.Row row h.1.1.0, figure-word kind.Lots lots h.1.1.1.0)
call_back (reduce time row line lots) h = cc (figure-word kind.Time time h.1.0, figure-word kind.Row row h.1.1.0, figure-word kind.Line line h.1.1.1.0, figure-word kind.Lots lots h.1.1.1.1.0)
call_back (close time) h = cc (figure-word kind.Time time h.1.0)
call_back (suspend time) h = cc (figure-word kind.Time time h.1.0)
call_back (reissue time price) h = cc (figure-word kind.Time time h.1.0, figure-word kind.Price price h.1.1.0)
call_back (announce time price) h = cc (figure-word kind.Time time h.1.0, figure-word kind.Price price h.1.1.0)
call_back (opened Gold time price rows) h = cc (figure-word kind.Time time h.1.0, figure-word kind.Price price h.1.1.0, rows_back rows h.1.1.1)
call_back (opened Silver time price rows) h = cc (figure-word kind.Time time h.1.0, figure-word kind.Price price h.1.1.0, rows_back rows h.1.1.1)

pub reads-back : (c : Said) → Fits c → reading (words_of c) ≡ Ok c
unfolding reading verb_named
reads-back c h =
    ap (λ v. reading_as v (words_of c)) (verb-word (verb_in c))
    ∙ ap (λ r. answered r (call_of (verb_in c) (words_of c))) (matched-stamped (again (verb_in c)) (first (verb_in c)) 0 (figures c) (counted-call c) h)
    ∙ ap Ok (call_back c h)

-- ---- a message that is read and written

named_here : (t : Bool) (u v : Verb) (r : Option Verb) → cond t (Some u) r ≡ Some v → ((t ≡ true) × (u ≡ v)) ⊎ (r ≡ Some v)
named_here true u v r e = inl (refl, cc)
named_here false u v r e = inr e

verb-from-named : (w : ℕ) (vs : List Verb) (v : Verb) → named w vs ≡ Some v → w ≡ word_of kind.Verb (verb_number v)
verb-from-named w [] v e = absurd (grind arith)
verb-from-named w (u ∷ vs) v e =
    ⊎_elim
    (λ p. eqb-true _ _ p.0 ∙ ap (λ x. word_of kind.Verb (verb_number x)) p.1)
    (verb-from-named w vs v)
    (named_here (eqb w (word_of kind.Verb (verb_number u))) u v (named w vs) e)

-- the first n words of a message, one by one, and the rest
abbrev listed : ℕ → ℕ → List ℕ → List ℕ
listed zero i m = drop i m
listed (suc n) i m = get_or m i 0 ∷ listed n (i + 1) m

listed-all : (n i : ℕ) (m : List ℕ) → n + i ≤ length m → listed n i m ≡ drop i m
listed-all zero i m h = refl
listed-all (suc n) i m h = ap (λ t. get_or m i 0 ∷ t) (listed-all n (i + 1) m (omega arith)) ∙ sym (drop_more m i 0 (omega arith))

least-from-fills : (more left : List Kind) (n : ℕ) → fills more left n ≡ true → length left ≤ n
least-from-fills [] left n h = omega (arith, eqb-true n (length left) h)
least-from-fills (m ∷ ms) left n h = leb-true (length left) n h

module _ (left : List Kind) (m : List ℕ) where
  figures-listed : (more : List Kind) → matched more left 0 m ≡ Ok tt → map figure_of (listed (length left) 0 m) ≡ map figure_of m
  figures-listed more q =
      let h = least-from-fills more left (length m) (fills-from-matched more left 0 m q) in
      ap (map figure_of) (listed-all (length left) 0 m (omega arith))

  none_left : matched [] left 0 m ≡ Ok tt → map figure_of (drop (length left) m) ≡ []
  none_left q = ap (map figure_of) (drop_all (length left) m (omega (arith, eqb-true (length m) (length left) (fills-from-matched [] left 0 m q))))

rest-matched : (more ks : List Kind) (i : ℕ) (ws : List ℕ) → matched more ks i ws ≡ Ok tt → (j : ℕ) × (matched more [] j (drop (length ks) ws) ≡ Ok tt)
rest-matched more [] i ws e = (i, e)
rest-matched more (k ∷ ks) i [] e = absurd (grind arith)
rest-matched more (k ∷ ks) i (w ∷ ws) e = rest-matched more ks (i + 1) ws (then-from-cond (is_kind k w) _ _ e)

flat-paired : (i : ℕ) (ws : List ℕ) → matched (kind.Participant ∷ kind.Millions ∷ []) [] i ws ≡ Ok tt → flat (paired (map figure_of ws)) ≡ map figure_of ws
flat-paired i [] e = refl
flat-paired i (w ∷ []) e = absurd (let z = then-from-cond (is_kind kind.Participant w) _ _ e in grind arith)
flat-paired i (w ∷ x ∷ ws) e =
    let t = then-from-cond (is_kind kind.Millions x) _ _ (then-from-cond (is_kind kind.Participant w) _ _ e) in
    cc (figure-back (figure_of w) (figure_of x) (omega arith), flat-paired (i + 1 + 1) ws t)

figures-back : (v : Verb) (m : List ℕ) → get_or m 0 0 ≡ word_of kind.Verb (verb_number v) → matched (again v) (first v) 0 m ≡ Ok tt → figures (call_of v m) ≡ map figure_of m
figures-back Quote m e q = cc (ap figure_of e, figures-listed (first Quote) m [] q, none_left (first Quote) m q)
figures-back Begin m e q = cc (ap figure_of e, figures-listed (first Begin) m (again Begin) q)
figures-back Buy m e q = cc (ap figure_of e, figures-listed (first Buy) m [] q, none_left (first Buy) m q)
figures-back Sell m e q = cc (ap figure_of e, figures-listed (first Sell) m [] q, none_left (first Sell) m q)
figures-back Reduce m e q = cc (ap figure_of e, figures-listed (first Reduce) m [] q, none_left (first Reduce) m q)
figures-back Close m e q = cc (ap figure_of e, figures-listed (first Close) m [] q, none_left (first Close) m q)
figures-back Suspend m e q = cc (ap figure_of e, figures-listed (first Suspend) m [] q, none_left (first Suspend) m q)
figures-back Reissue m e q = cc (ap figure_of e, figures-listed (first Reissue) m [] q, none_left (first Reissue) m q)
figures-back Announce m e q = cc (ap figure_of e, figures-listed (first Announce) m [] q, none_left (first Announce) m q)
figures-back OpenGold m e q =
    let r = rest-matched (again OpenGold) (first OpenGold) 0 m q in
    cc (ap figure_of e, figures-listed (first OpenGold) m (again OpenGold) q, flat-paired r.0 (drop 3 m) r.1)
figures-back OpenSilver m e q =
    let r = rest-matched (again OpenSilver) (first OpenSilver) 0 m q in
    cc (ap figure_of e, figures-listed (first OpenSilver) m (again OpenSilver) q, flat-paired r.0 (drop 3 m) r.1)

verb-back : (v : Verb) (m : List ℕ) → verb_in (call_of v m) ≡ v
verb-back Quote m = refl
verb-back Begin m = refl
verb-back Buy m = refl
verb-back Sell m = refl
verb-back Reduce m = refl
verb-back Close m = refl
verb-back Suspend m = refl
verb-back Reissue m = refl
verb-back Announce m = refl
verb-back OpenGold m = refl
verb-back OpenSilver m = refl

words_back : (v : Verb) (m : List ℕ) → get_or m 0 0 ≡ word_of kind.Verb (verb_number v) → matched (again v) (first v) 0 m ≡ Ok tt → words_of (call_of v m) ≡ m
words_back v m e q =
    ap (λ u. stamped (again u) (first u) (figures (call_of v m))) (verb-back v m)
    ∙ ap (stamped (again v) (first v)) (figures-back v m e q)
    ∙ stamped-figures (again v) (first v) 0 m q

from-answered : (v : Verb) (m : List ℕ) (c : Said) (r : Result (Unit {0}) MessageFault) → answered r (call_of v m) ≡ Ok c → (r ≡ Ok tt) × (call_of v m ≡ c)
from-answered v m c (Ok u) e = (refl, cc)
from-answered v m c (Err f) e = absurd (grind arith)

from-verb : (o : Option Verb) (m : List ℕ) (c : Said) → verb_of (get_or m 0 0) ≡ o → reading_as o m ≡ Ok c → words_of c ≡ m
from-verb None m c n e = absurd (grind arith)
from-verb (Some v) m c n e =
    let p = from-answered v m c (matched (again v) (first v) 0 m) e in
    ap words_of (sym p.1) ∙ words_back v m (verb-from-named (get_or m 0 0) verbs v n) p.0

pub writes-back : (m : List ℕ) (c : Said) → reading m ≡ Ok c → words_of c ≡ m
unfolding reading verb_named
writes-back m c e = from-verb (verb_of (get_or m 0 0)) m c refl e

-- ---- a call that is written at the front of a list

ReadBack : Said → Result ℕ MessageFault × List ℕ → Type 0
ReadBack c p = IfOk p.0 (λ n. reading (take n p.1) ≡ Ok c)

read_back : (c : Said) (out : List ℕ) (t : Bool) (o : Option ℕ) → first_over 0 (figures c) ≡ o
    → ReadBack c (cond t (Err Short, out) (written_unless o (verb_in c) (figures c) out))
unfolding ReadBack
read_back c out true o e = tt
read_back c out false (Some i) e = tt
read_back c out false None e =
    let front : take (length (figures c)) (words_of c ++ drop (length (figures c)) out) ≡ words_of c =
    take_at (words_of c) _ (length (figures c)) (length-stamped (again (verb_in c)) (first (verb_in c)) (figures c)) in
    ap reading front ∙ reads-back c (fits-from-over (figures c) 0 e)

pub written_back : (c : Said) (out new : List ℕ) (r : Result ℕ MessageFault) → (r, new) ≡ writing c out → IfOk r (λ n. reading (take n new) ≡ Ok c)
unfolding ReadBack
written_back c out new r e = subst (ReadBack c) (sym e) (read_back c out (ltb (length out) (length (figures c))) (first_over 0 (figures c)) refl)
