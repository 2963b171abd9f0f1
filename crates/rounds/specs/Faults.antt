use Rattle.std.specs.Prelude.{ℕ}
use Rattle.books.specs.Faults as book
use Rattle.rounds.specs.declared.faults.SessionFault.{SessionFault}
use Rattle.rounds.specs.declared.faults.SessionFault.TheVariants.{Time, Row, Amount, Price, Participant, Participants, LineLimit, TooManyPrices, Memory, WrongStage, Early, Over, NotOver, WrongKind, WrongSide, NothingRemains, NoSuchLine, EarlierRound, FewerLots, LinesUsedUp, Book, LastRound}

-- the number of a refusal
abbrev pub number_of : SessionFault → ℕ
number_of Time = 2
number_of Row = 3
number_of Amount = 4
number_of (Price i) = 5
number_of (Participant i) = 6
number_of Participants = 6
number_of LineLimit = 7
number_of TooManyPrices = 8
number_of Memory = 10
number_of WrongStage = 20
number_of Early = 21
number_of Over = 22
number_of NotOver = 23
number_of WrongKind = 24
number_of WrongSide = 25
number_of NothingRemains = 26
number_of NoSuchLine = 27
number_of EarlierRound = 28
number_of FewerLots = 29
number_of LinesUsedUp = 30
number_of (Book f) = book.number_of f
number_of LastRound = 33
