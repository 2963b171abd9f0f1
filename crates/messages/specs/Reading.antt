use Rattle.std.specs.Prelude.{ℕ, ◌+◌, Bool, false, cond, List, [], ◌∷◌, map, length, drop, Some, None, Ok, Err, Option, Result, ◌==◌, nat_le, slice_index}
use Rattle.messages.specs.declared.kinds.Kind.{Kind}
use Rattle.messages.specs.declared.faults.MessageFault.{MessageFault}
use Rattle.messages.specs.declared.faults.MessageFault.TheVariants.{Misfit}
use Rattle.messages.specs.declared.calls.Call.{Call}
use Rattle.messages.specs.declared.calls.Metal.{Metal}
use Rattle.messages.specs.declared.calls.Metal.TheVariants.{Gold, Silver}
use Rattle.messages.specs.declared.verbs.Verb.{Verb}
use Rattle.messages.specs.declared.verbs.Verb.TheVariants as verb
use Rattle.messages.specs.Kinds.{is_kind, figure_of}
use Rattle.messages.specs.Verbs.{verb_of, first, again}
use Rattle.messages.specs.Calls.{Said, quote, begin, buy, sell, reduce, close, suspend, reissue, announce, opened, said}
use Rattle.messages.specs.Rows.{paired}

-- what may come next, where `left` still has to and `more` may follow again
abbrev pub coming : List Kind → List Kind → List Kind
coming more [] = more
coming more (k ∷ ks) = k ∷ ks

-- whether a word is of the first of these kinds
abbrev pub leads : List Kind → ℕ → Bool
leads [] w = false
leads (k ∷ ks) w = is_kind k w

abbrev pub ended : List Kind → ℕ → Result (Unit {0}) MessageFault
ended [] i = Ok tt
ended (k ∷ ks) i = Err (Misfit i)

-- words, the first at place i, against the kinds that have to come:
-- refused at the first that does not fit, or at the end where one is missing
abbrev pub matched : List Kind → List Kind → ℕ → List ℕ → Result (Unit {0}) MessageFault
matched more left i [] = ended left i
matched more left i (w ∷ ws) = cond (leads (coming more left) w) (matched more (drop 1 (coming more left)) (i + 1) ws) (Err (Misfit i))

-- how many words a message may have
abbrev pub fills : List Kind → List Kind → ℕ → Bool
fills [] left n = n == length left
fills (k ∷ ks) left n = nat_le (length left) n

-- the figure of the word at a place
abbrev pub figure_at : List ℕ → ℕ → ℕ
figure_at m i = figure_of (slice_index m i)

abbrev pub opening : Metal → List ℕ → Said
opening metal m = opened metal (figure_at m 1) (figure_at m 2) (paired (map figure_of (drop 3 m)))

-- the call that a message of a verb makes
abbrev pub call_of : Verb → List ℕ → Said
call_of verb.Quote m = quote (figure_at m 1) (figure_at m 2) (figure_at m 3)
call_of verb.Begin m = begin (figure_at m 1) (map figure_of (drop 2 m))
call_of verb.Buy m = buy (figure_at m 1) (figure_at m 2) (figure_at m 3)
call_of verb.Sell m = sell (figure_at m 1) (figure_at m 2) (figure_at m 3)
call_of verb.Reduce m = reduce (figure_at m 1) (figure_at m 2) (figure_at m 3) (figure_at m 4)
call_of verb.Close m = close (figure_at m 1)
call_of verb.Suspend m = suspend (figure_at m 1)
call_of verb.Reissue m = reissue (figure_at m 1) (figure_at m 2)
call_of verb.Announce m = announce (figure_at m 1) (figure_at m 2)
call_of verb.OpenGold m = opening Gold m
call_of verb.OpenSilver m = opening Silver m

abbrev pub answered : {A B : Type 0} → Result A MessageFault → B → Result B MessageFault
answered (Ok u) s = Ok s
answered (Err e) s = Err e

abbrev pub reading_as : Option Verb → List ℕ → Result Said MessageFault
reading_as None m = Err (Misfit 0)
reading_as (Some v) m = answered (matched (again v) (first v) 0 m) (call_of v m)

-- the verb of a message is the one that its first word names
unfoldable pub verb_named : List ℕ → Option Verb
verb_named m = verb_of (slice_index m 0)

-- what a message says; one that names no verb is refused at its first word
unfoldable pub reading : List ℕ → Result Said MessageFault
reading m = reading_as (verb_named m) m

abbrev pub told : Result Call MessageFault → Result Said MessageFault
told (Ok c) = Ok (said c)
told (Err e) = Err e
