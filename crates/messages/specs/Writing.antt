use Rattle.std.specs.Prelude.{ℕ, ◌+◌, ◌^◌, ◌<◌, Bool, true, false, cond, ◌&&◌, List, [], ◌∷◌, ◌++◌, length, drop, Some, None, Ok, Err, Option, Result, nat_lt}
use Rattle.std.specs.List.{AllByRecursion}
use Rattle.messages.specs.declared.calls.Metal.{Metal}
use Rattle.messages.specs.declared.calls.Metal.TheVariants.{Gold, Silver}
use Rattle.messages.specs.declared.faults.MessageFault.{MessageFault}
use Rattle.messages.specs.declared.faults.MessageFault.TheVariants.{Misfit, Short}
use Rattle.messages.specs.declared.kinds.Kind.{Kind}
use Rattle.messages.specs.declared.verbs.Verb.{Verb}
use Rattle.messages.specs.declared.verbs.Verb.TheVariants as verb
use Rattle.messages.specs.declared.writing.Draft.{Draft}
use Rattle.messages.specs.declared.writing.Tail.{Tail}
use Rattle.messages.specs.declared.writing.Tail.TheVariants as tail
use Rattle.messages.specs.Kinds.{word_of}
use Rattle.messages.specs.Verbs.{verb_number, first, again}
use Rattle.messages.specs.Calls.{Said, quote, begin, buy, sell, reduce, close, suspend, reissue, announce, opened}
use Rattle.messages.specs.Prices.{prices_of}
use Rattle.messages.specs.Rows.{flat, rows_of}
use Rattle.messages.specs.Reading.{coming}

-- the verb of a call
abbrev pub opens : Metal → Verb
opens Gold = verb.OpenGold
opens Silver = verb.OpenSilver

abbrev pub verb_in : Said → Verb
verb_in (quote time row price) = verb.Quote
verb_in (begin time prices) = verb.Begin
verb_in (buy time row lots) = verb.Buy
verb_in (sell time row lots) = verb.Sell
verb_in (reduce time row line lots) = verb.Reduce
verb_in (close time) = verb.Close
verb_in (suspend time) = verb.Suspend
verb_in (reissue time price) = verb.Reissue
verb_in (announce time price) = verb.Announce
verb_in (opened metal time price rows) = opens metal

-- the figures of a call behind its verb, in the order of its message
abbrev pub fields_of : Said → List ℕ
fields_of (quote time row price) = time ∷ row ∷ price ∷ []
fields_of (begin time prices) = time ∷ prices
fields_of (buy time row lots) = time ∷ row ∷ lots ∷ []
fields_of (sell time row lots) = time ∷ row ∷ lots ∷ []
fields_of (reduce time row line lots) = time ∷ row ∷ line ∷ lots ∷ []
fields_of (close time) = time ∷ []
fields_of (suspend time) = time ∷ []
fields_of (reissue time price) = time ∷ price ∷ []
fields_of (announce time price) = time ∷ price ∷ []
fields_of (opened metal time price rows) = time ∷ price ∷ flat rows

abbrev pub figures : Said → List ℕ
figures c = verb_number (verb_in c) ∷ fields_of c

-- the figures that may follow the fixed fields of a message
abbrev pub tail_figures : Tail → List ℕ
tail_figures (tail.Prices p) = prices_of p
tail_figures (tail.Rows r) = flat (rows_of r)

-- the figures of a draft
abbrev pub draft_figures : Draft → List ℕ
draft_figures d = verb_number d.verb ∷ (d.fields.now ++ tail_figures d.tail)

-- a figure as a word of the first of these kinds
abbrev pub stamp : List Kind → ℕ → ℕ
stamp [] f = f
stamp (k ∷ ks) f = word_of k f

-- figures as words of the kinds that have to come
abbrev pub stamped : List Kind → List Kind → List ℕ → List ℕ
stamped more left [] = []
stamped more left (f ∷ fs) = stamp (coming more left) f ∷ stamped more (drop 1 (coming more left)) fs

-- figures for each kind that has to come, and no more than may come
abbrev pub counted : List Kind → List Kind → List ℕ → Bool
counted more [] [] = true
counted more (k ∷ ks) [] = false
counted [] [] (f ∷ fs) = false
counted (m ∷ ms) [] (f ∷ fs) = counted (m ∷ ms) ms fs
counted more (k ∷ ks) (f ∷ fs) = counted more ks fs

-- a call as a message
abbrev pub words_of : Said → List ℕ
words_of c = stamped (again (verb_in c)) (first (verb_in c)) (figures c)

-- the figures of a call have at most 28 bits
abbrev pub Fits : Said → Type 0
Fits c = AllByRecursion (λ f. f < 2 ^ 28) (figures c)

-- a word holds a figure of 28 bits, and a list of words has places below 16,384
abbrev pub writable : ℕ → ℕ → Bool
writable place f = nat_lt f (2 ^ 28) && nat_lt place 16384

-- the first place, counted from i, whose figure cannot be written there
abbrev pub first_over : ℕ → List ℕ → Option ℕ
first_over i [] = None
first_over i (f ∷ fs) = cond (writable i f) (first_over (i + 1) fs) (Some i)

abbrev pub written_unless : Option ℕ → Verb → List ℕ → List ℕ → Result ℕ MessageFault × List ℕ
written_unless (Some i) v fs out = (Err (Misfit i), out)
written_unless None v fs out = (Ok (length fs), stamped (again v) (first v) fs ++ drop (length fs) out)

abbrev pub writing_figures : Verb → List ℕ → List ℕ → Result ℕ MessageFault × List ℕ
writing_figures v fs out = cond (nat_lt (length out) (length fs)) (Err Short, out) (written_unless (first_over 0 fs) v fs out)

-- a call written at the front of a list of words: the answer, and the list afterwards
abbrev pub writing : Said → List ℕ → Result ℕ MessageFault × List ℕ
writing c out = writing_figures (verb_in c) (figures c) out
