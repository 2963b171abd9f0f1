use Rattle.std.specs.Prelude.{ℕ, ◌+◌, cond, List, [], ◌∷◌, length, Some, None, Option, ◌==◌}
use Rattle.messages.specs.declared.kinds.Kind.{Kind}
use Rattle.messages.specs.declared.kinds.Kind.TheVariants.{Time, Row, Lots, Price, Line, Participant, Millions}
use Rattle.messages.specs.declared.kinds.Kind.TheVariants.{Verb as VerbWord}
use Rattle.messages.specs.Kinds.{kind_number, word_of}
use Rattle.messages.specs.declared.verbs.Verb.{Verb}
use Rattle.messages.specs.declared.verbs.Verb.TheVariants.{Quote, Begin, Buy, Sell, Reduce, Close, Suspend, Reissue, Announce, OpenGold, OpenSilver}

-- the number of a verb
abbrev pub verb_number : Verb → ℕ
verb_number Quote = 1
verb_number Begin = 2
verb_number Buy = 3
verb_number Sell = 4
verb_number Reduce = 5
verb_number Close = 6
verb_number Suspend = 7
verb_number Reissue = 8
verb_number Announce = 9
verb_number OpenGold = 10
verb_number OpenSilver = 11

abbrev pub verbs : List Verb
verbs = Quote ∷ Begin ∷ Buy ∷ Sell ∷ Reduce ∷ Close ∷ Suspend ∷ Reissue ∷ Announce ∷ OpenGold ∷ OpenSilver ∷ []

abbrev pub named : ℕ → List Verb → Option Verb
named w [] = None
named w (v ∷ vs) = cond (w == word_of VerbWord (verb_number v)) (Some v) (named w vs)

-- the verb that a word names
abbrev pub verb_of : ℕ → Option Verb
verb_of w = named w verbs

-- the words that a message has after its verb and its time
abbrev pub fields : Verb → List Kind
fields Quote = Row ∷ Price ∷ []
fields Begin = []
fields Buy = Row ∷ Lots ∷ []
fields Sell = Row ∷ Lots ∷ []
fields Reduce = Row ∷ Line ∷ Lots ∷ []
fields Close = []
fields Suspend = []
fields Reissue = Price ∷ []
fields Announce = Price ∷ []
fields OpenGold = Price ∷ []
fields OpenSilver = Price ∷ []

abbrev pub first : Verb → List Kind
first v = VerbWord ∷ Time ∷ fields v

-- and those that may follow any number of times
abbrev pub again : Verb → List Kind
again Quote = []
again Begin = Price ∷ []
again Buy = []
again Sell = []
again Reduce = []
again Close = []
again Suspend = []
again Reissue = []
again Announce = []
again OpenGold = Participant ∷ Millions ∷ []
again OpenSilver = Participant ∷ Millions ∷ []

-- where a kind first stands among these, the first of which has place i
abbrev pub found : Kind → ℕ → List Kind → Option ℕ
found k i [] = None
found k i (x ∷ xs) = cond (kind_number x == kind_number k) (Some i) (found k (i + 1) xs)

abbrev pub or_else : Option ℕ → ℕ → ℕ
or_else (Some i) j = i
or_else None j = j

-- where the first word of a kind stands in a message of a verb; 0, at the verb, if it has none
abbrev pub place_of : Kind → Verb → ℕ
place_of k v = or_else (found k 0 (first v)) (or_else (found k (length (first v)) (again v)) 0)
