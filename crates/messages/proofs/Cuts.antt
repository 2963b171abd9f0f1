-- The first message of a list of words.
use Rattle.std.proofs.Common.{◌≡◌, ℕ, suc, ◌+◌, ◌≤◌, true, false, cond, List, [], ◌∷◌, length, take, drop, Some, None, Option, unwrap_or, nat_lt, refl, ap, ◌∙◌, arith}
use Rattle.std.specs.List.{flat_map, position, position_or_len}
use Rattle.std.proofs.lemmas.Bool.Decides.{nat_tests}
use Rattle.std.proofs.lemmas.List.Recursion.{is_position_or_len}
use Rattle.messages.specs.declared.kinds.Kind.TheVariants.{Verb}
use Rattle.messages.specs.Kinds.{is_kind}
use Rattle.messages.specs.Messages.{span, onto, messages}

pub messages-first : (w : ℕ) (ws : List ℕ) → messages (w ∷ ws) ≡ (w ∷ take (span ws) ws) ∷ messages (drop (span ws) ws)
messages-first w [] = refl
messages-first w (x ∷ ws) =
    elim (is_kind Verb x) as (λ t. cond t ((w ∷ []) ∷ messages (x ∷ ws)) (onto w (messages (x ∷ ws))) ≡ (w ∷ take (cond t 0 (suc (span ws))) (x ∷ ws)) ∷ messages (drop (cond t 0 (suc (span ws))) (x ∷ ws)))
    [ true ↦ refl | false ↦ ap (onto w) (messages-first x ws) ]

span_is_position : (ws : List ℕ) → span ws ≡ position_or_len (is_kind Verb) ws
span_is_position ws = is_position_or_len span (is_kind Verb) refl (λ x xs. ap (λ n. cond (is_kind Verb x) 0 n) (omega arith)) ws

span_within : (ws : List ℕ) → span ws ≤ length ws
span_within [] = omega arith
span_within (w ∷ ws) =
    let h = span_within ws in
    elim (is_kind Verb w) as (λ t. cond t 0 (suc (span ws)) ≤ length (w ∷ ws)) [ true ↦ omega arith | false ↦ omega arith ]

cut_at : (n m : ℕ) → n ≤ m → unwrap_or (cond (nat_lt n m) (Some n) None) m ≡ n
cut_at n m h = grind (arith, nat_tests)

-- the place of the next verb, or the end
abbrev pub verb_or_end : List ℕ → ℕ
verb_or_end ws = unwrap_or (position (is_kind Verb) ws) (length ws)

span-verb : (ws : List ℕ) → verb_or_end ws ≡ span ws
span-verb ws = rw (← span_is_position ws) (cut_at (span ws) (length ws) (span_within ws))

-- a list that is not empty is cut at the next verb into its first message and the rest
pub messages-cut : (ws : List ℕ) (w : ℕ) (behind : List ℕ) (verb : Option ℕ) (n : ℕ) (message rest : List ℕ)
    → ws ≡ w ∷ behind → verb ≡ position (is_kind Verb) behind → n ≡ unwrap_or verb (length behind)
    → message ≡ take (1 + n) ws → rest ≡ drop (1 + n) ws
    → messages ws ≡ message ∷ messages rest
messages-cut ws w behind verb n message rest e v u m r =
    let s : 1 + n ≡ suc (span behind) = omega (arith, span-verb behind, u ∙ ap (λ o. unwrap_or o (length behind)) v) in
    rw (m, r, s, e) (messages-first w behind)

joined-onto : (w : ℕ) (ms : List (List ℕ)) → flat_map (λ m. m) (onto w ms) ≡ w ∷ flat_map (λ m. m) ms
joined-onto w [] = refl
joined-onto w (m ∷ ms) = refl

pub rejoins : (ws : List ℕ) → flat_map (λ m. m) (messages ws) ≡ ws
rejoins [] = refl
rejoins (w ∷ []) = refl
rejoins (w ∷ x ∷ ws) =
    elim (is_kind Verb x) as (λ t. flat_map (λ m. m) (cond t ((w ∷ []) ∷ messages (x ∷ ws)) (onto w (messages (x ∷ ws)))) ≡ w ∷ x ∷ ws)
    [ true ↦ ap (λ t. w ∷ t) (rejoins (x ∷ ws)) | false ↦ joined-onto w (messages (x ∷ ws)) ∙ ap (λ t. w ∷ t) (rejoins (x ∷ ws)) ]

length-onto : (w : ℕ) (ms : List (List ℕ)) → length (onto w ms) ≤ suc (length ms)
length-onto w [] = omega arith
length-onto w (m ∷ ms) = omega arith

pub messages-few : (ws : List ℕ) → length (messages ws) ≤ length ws
messages-few [] = omega arith
messages-few (w ∷ []) = omega arith
messages-few (w ∷ x ∷ ws) =
    let few = messages-few (x ∷ ws) in
    let on = length-onto w (messages (x ∷ ws)) in
    elim (is_kind Verb x) as (λ t. length (cond t ((w ∷ []) ∷ messages (x ∷ ws)) (onto w (messages (x ∷ ws)))) ≤ length (w ∷ x ∷ ws))
    [ true ↦ omega arith | false ↦ omega arith ]
