use Rattle.std.specs.Prelude.{ℕ, ◌+◌, ◌*◌, Some, None, Option}
use Rattle.rounds.specs.Faults as session
use Rattle.rounds.specs.declared.faults.SessionFault.{SessionFault}
use Rattle.rounds.specs.declared.faults.SessionFault.TheVariants.{Time, Row, Amount, Price, Participant, Participants, LineLimit, TooManyPrices, Memory, WrongStage, Early, Over, NotOver, WrongKind, WrongSide, NothingRemains, NoSuchLine, EarlierRound, FewerLots, LinesUsedUp, Book, LastRound}
use Rattle.messages.specs.declared.faults.Layer.{Layer}
use Rattle.messages.specs.declared.faults.Layer.TheVariants as layer
use Rattle.messages.specs.declared.faults.MessageFault.{MessageFault}
use Rattle.messages.specs.declared.faults.MessageFault.TheVariants.{Misfit, Short, Session}
use Rattle.messages.specs.declared.kinds.Kind.TheVariants as kind
use Rattle.messages.specs.declared.verbs.Verb.{Verb}
use Rattle.messages.specs.Verbs.{place_of}

-- the number of a refusal
abbrev pub number_of : MessageFault → ℕ
number_of (Misfit i) = 1
number_of Short = 9
number_of (Session f) = session.number_of f

-- who refuses: the session passes on what the book refuses
abbrev pub refuser : SessionFault → Layer
refuser Time = layer.Session
refuser Row = layer.Session
refuser Amount = layer.Session
refuser (Price i) = layer.Session
refuser (Participant i) = layer.Session
refuser Participants = layer.Session
refuser LineLimit = layer.Session
refuser TooManyPrices = layer.Session
refuser Memory = layer.Session
refuser WrongStage = layer.Session
refuser Early = layer.Session
refuser Over = layer.Session
refuser NotOver = layer.Session
refuser WrongKind = layer.Session
refuser WrongSide = layer.Session
refuser NothingRemains = layer.Session
refuser NoSuchLine = layer.Session
refuser EarlierRound = layer.Session
refuser FewerLots = layer.Session
refuser LinesUsedUp = layer.Session
refuser (Book f) = layer.Book
refuser LastRound = layer.Session

abbrev pub layer_of : MessageFault → Layer
layer_of (Misfit i) = layer.Message
layer_of Short = layer.Message
layer_of (Session f) = refuser f

-- where in a message of a verb the session's refusal is placed: at the word at fault, else at the verb
abbrev pub word_at_fault : Verb → SessionFault → ℕ
word_at_fault v Time = place_of kind.Time v
word_at_fault v Row = place_of kind.Row v
word_at_fault v Amount = place_of kind.Lots v
word_at_fault v (Price i) = place_of kind.Price v + i
word_at_fault v (Participant i) = place_of kind.Participant v + 2 * i
word_at_fault v Participants = 0
word_at_fault v LineLimit = 0
word_at_fault v TooManyPrices = place_of kind.Price v + 10000
word_at_fault v Memory = 0
word_at_fault v WrongStage = 0
word_at_fault v Early = 0
word_at_fault v Over = 0
word_at_fault v NotOver = 0
word_at_fault v WrongKind = 0
word_at_fault v WrongSide = 0
word_at_fault v NothingRemains = 0
word_at_fault v NoSuchLine = 0
word_at_fault v EarlierRound = 0
word_at_fault v FewerLots = 0
word_at_fault v LinesUsedUp = 0
word_at_fault v (Book f) = 0
word_at_fault v LastRound = 0

-- where a refusal is placed in a message of a verb; a call that came without words has place 0
abbrev pub placed_at : Option Verb → MessageFault → ℕ
placed_at v (Misfit i) = i
placed_at v Short = 0
placed_at None (Session f) = 0
placed_at (Some v) (Session f) = word_at_fault v f
