use Rattle.std.specs.Prelude.{ℕ, suc, cond, List, [], ◌∷◌}
use Rattle.messages.specs.declared.kinds.Kind.TheVariants.{Verb}
use Rattle.messages.specs.declared.reader.Reader.{Reader}
use Rattle.messages.specs.Kinds.{is_kind}

-- how many words stand before the next verb
abbrev pub span : List ℕ → ℕ
span [] = 0
span (w ∷ ws) = cond (is_kind Verb w) 0 (suc (span ws))

abbrev pub onto : ℕ → List (List ℕ) → List (List ℕ)
onto w [] = (w ∷ []) ∷ []
onto w (m ∷ ms) = (w ∷ m) ∷ ms

-- the messages of a list of words: each goes up to the next verb
abbrev pub messages : List ℕ → List (List ℕ)
messages [] = []
messages (w ∷ []) = (w ∷ []) ∷ []
messages (w ∷ x ∷ ws) = cond (is_kind Verb x) ((w ∷ []) ∷ messages (x ∷ ws)) (onto w (messages (x ∷ ws)))

-- what a reader has still to give
abbrev pub unread : Reader → List ℕ
unread s = s.rest.now
