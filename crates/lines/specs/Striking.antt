-- Striking: what is released, and when the book stands in the way.
use Rattle.std.specs.Prelude.{ℕ, zero, suc, cond, List, Ok, Err, sum_by, Option, Result, ◌==◌, nat_lt, slice_index_or}
use Rattle.measures.specs.declared.Fen.{Fen}
use Rattle.books.specs.Accounts.{Accounts, releasing, released_of}
use Rattle.books.specs.declared.balance.Balance.{Balance}
use Rattle.books.specs.declared.faults.BookFault.{BookFault}
use Rattle.rounds.specs.declared.sides.Struck.{Struck}
use Rattle.lines.specs.Lines.{line_due, due_to}
use Rattle.lines.specs.declared.line.Line.{Line}

abbrev pub next : Result (Unit {0}) BookFault → Result (Unit {0}) BookFault → Result (Unit {0}) BookFault
next (Ok u) r = r
next (Err e) r = Err e

-- what stands in the way of a release; a row with nothing to release is not asked
abbrev pub covers : Option Balance → ℕ → Result (Unit {0}) BookFault
covers o n = cond (n == 0) (Ok tt) (releasing o n)

-- the first of n rows whose account is unknown or has too little frozen for what it is due
abbrev pub covers_all : Accounts → (ℕ → ℕ) → ℕ → Result (Unit {0}) BookFault
covers_all m due zero = Ok tt
covers_all m due (suc n) = next (covers_all m due n) (covers (m n) (due n))

-- the accounts of n rows, each with what it is due released
abbrev pub released_all : Accounts → (ℕ → ℕ) → ℕ → Accounts
released_all m due n a = cond (nat_lt a n) (released_of (m a) (due a)) (m a)

-- whether the lines of n rows can be struck
abbrev pub strike_check : ℕ → ℕ → List Line → Accounts → Struck → Result (Unit {0}) BookFault
strike_check margin n ls m which = covers_all m (due_to margin which ls) n

abbrev pub struck_accounts : ℕ → ℕ → List Line → Accounts → Struck → Accounts
struck_accounts margin n ls m which = released_all m (due_to margin which ls) n

-- the margin of all that is struck
abbrev pub struck_margin : ℕ → List Line → Struck → ℕ
struck_margin margin ls which = sum_by (line_due margin which) ls

-- what a list of sums has for a row
abbrev pub no_fen : Fen
no_fen = record { 0 = 0 }

abbrev pub due_in : List Fen → ℕ → ℕ
due_in ds k = (slice_index_or ds k no_fen).0
