use Rattle.std.specs.Prelude.{ℕ, ◌+◌, ◌*◌, ◌/◌, ◌%◌, ◌^◌, Bool, ◌==◌}
use Rattle.messages.specs.declared.kinds.Kind.{Kind}
use Rattle.messages.specs.declared.kinds.Kind.TheVariants.{Time, Row, Lots, Price, Line, Verb, Participant, Stage, Number, Bought, Sold, Place, Millions}

-- the number of a kind
abbrev pub kind_number : Kind → ℕ
kind_number Time = 1
kind_number Row = 2
kind_number Lots = 3
kind_number Price = 4
kind_number Line = 5
kind_number Verb = 6
kind_number Participant = 7
kind_number Stage = 8
kind_number Number = 9
kind_number Bought = 10
kind_number Sold = 11
kind_number Place = 12
kind_number Millions = 13

-- the top four bits of a word are its kind, the rest is its figure
abbrev pub is_kind : Kind → ℕ → Bool
is_kind k w = w / 2 ^ 28 == kind_number k

abbrev pub figure_of : ℕ → ℕ
figure_of w = w % 2 ^ 28

-- the word of a kind that holds a figure; of a longer number it holds the low 28 bits
abbrev pub word_of : Kind → ℕ → ℕ
word_of k n = kind_number k * 2 ^ 28 + figure_of n
