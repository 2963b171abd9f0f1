-- What the two books store, and what that means.
use Rattle.std.specs.Prelude.{◌+◌, ◌-◌, cond, ◌&&◌, List, Some, None, vec_items, Option, nat_le, option_and_then, slice_get}
use Rattle.books.specs.declared.balance.Balance.{Balance}
use Rattle.books.specs.declared.bank_line.BankLine.{BankLine}
use Rattle.books.specs.declared.record_book.RecordBook.{RecordBook}
use Rattle.books.specs.Accounts.{Accounts, balanced, most_held}

-- an account means what the record at its place means; where no record stands it is unknown
abbrev pub placed : {R : Type 0} → (R → Option Balance) → List R → Accounts
placed meaning rs a = option_and_then meaning (slice_get rs a)

-- the accounts of a book that stores records of such a meaning
abbrev pub stored_accounts : {R : Type 0} → (R → Option Balance) → RecordBook R → Accounts
stored_accounts meaning b = placed meaning (vec_items b.accounts)

-- an account stored with more than the most is unknown
abbrev pub known : Balance → Option Balance
known b = cond (nat_le (b.free.0 + b.frozen.0) most_held) (Some b) None

abbrev pub cash_means : List Balance → Accounts
cash_means = placed known

abbrev pub cash_accounts : RecordBook Balance → Accounts
cash_accounts b = cash_means (vec_items b.accounts)

-- free is the line less what is drawn, frozen is what is drawn; a line above the most, or drawn beyond, is unknown
abbrev pub credited : BankLine → Option Balance
credited l = cond (nat_le l.line.0 most_held && nat_le l.drawn.0 l.line.0) (Some (balanced (l.line.0 - l.drawn.0) l.drawn.0)) None

abbrev pub line_means : List BankLine → Accounts
line_means = placed credited

abbrev pub line_accounts : RecordBook BankLine → Accounts
line_accounts b = line_means (vec_items b.accounts)
