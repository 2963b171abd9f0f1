-- The sheet in words.
use Rattle.std.specs.Prelude.{◌≡◌, ℕ, zero, suc, ◌+◌, ◌*◌, List, [], ◌∷◌, ◌++◌, length, drop, Ok, Err, Result, slice_index_or}
use Rattle.rounds.specs.declared.faults.SessionFault.{SessionFault}
use Rattle.lines.specs.Fills.{no_fill}
use Rattle.lines.specs.declared.fills.Fill.{Fill}
use Rattle.session.specs.Sheets.{Said}
use Rattle.messages.specs.Kinds.{word_of}
use Rattle.messages.specs.declared.kinds.Kind.TheVariants.{Price, Row, Bought, Sold}
use Rattle.messages.specs.declared.faults.MessageFault.{MessageFault}
use Rattle.messages.specs.declared.faults.MessageFault.TheVariants.{Session}

-- a row's number, the lots it bought and the lots it sold
abbrev pub row_words : ℕ → Fill → List ℕ
row_words row f = word_of Row row ∷ word_of Bought f.bought.0 ∷ word_of Sold f.sold.0 ∷ []

-- the words of the first n rows
abbrev pub rows_words : List Fill → ℕ → List ℕ
rows_words fs zero = []
rows_words fs (suc n) = rows_words fs n ++ row_words n (slice_index_or fs n no_fill)

-- the price, and then three words a row
abbrev pub sheet_words : ℕ → List Fill → List ℕ
sheet_words price fs = word_of Price price ∷ rows_words fs (length fs)

-- the words at the front of a buffer, and their count; of a session that is not fixed its refusal, and the buffer as it was
abbrev pub WrittenAs : Result Said SessionFault → Result ℕ MessageFault → List ℕ → List ℕ → Type 0
WrittenAs (Ok s) r before after = (r ≡ Ok (1 + 3 * length s.fills)) × (after ≡ sheet_words s.price.0 s.fills ++ drop (1 + 3 * length s.fills) before)
WrittenAs (Err f) r before after = (r ≡ Err (Session f)) × (after ≡ before)
