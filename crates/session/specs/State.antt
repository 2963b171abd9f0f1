-- A session as its rules see it, and what a call does to it.
use Rattle.std.specs.Prelude.{◌≡◌, ℕ, List, Ok, Err, Option, Result}
use Rattle.measures.specs.declared.Ticks.{Ticks}
use Rattle.books.specs.Accounts.{Accounts}
use Rattle.books.specs.declared.faults.BookFault.{BookFault}
use Rattle.rounds.specs.Gates.{Check}
use Rattle.rounds.specs.declared.answers.Standing.{Standing}
use Rattle.rounds.specs.declared.faults.SessionFault.{SessionFault}
use Rattle.rounds.specs.declared.faults.SessionFault.TheVariants.{Book}
use Rattle.rounds.specs.declared.periods.Period.{Period}
use Rattle.participants.specs.Named.{prices_of}
use Rattle.participants.specs.Rosters.{rows_of}
use Rattle.participants.specs.declared.rows.Participant.{Participant}
use Rattle.lines.specs.Entries.{lines_of, limit_of}
use Rattle.lines.specs.declared.fills.Fill.{Fill}
use Rattle.lines.specs.declared.line.Line.{Line}
use Rattle.session.specs.declared.session.Session.{Session}

pub record State (P : Type 0) : Type 0 where
  pub rows : List Participant
  pub quotes : List (Option Ticks)
  pub lines : List Line
  pub limit : ℕ
  pub fills : List Fill
  pub period : Period
  pub policy : P

abbrev pub view : {C P : Type 0} → Session C P → State P
view s = record { rows = rows_of s.participants; quotes = prices_of s.quotes; lines = lines_of s.table; limit = limit_of s.table; fills = s.fills; period = s.period; policy = s.policy }

-- what a refusal leaves: the session and, by what the book means, all accounts are as before
abbrev pub Unchanged : {C P B : Type 0} → (B → Accounts) → Session C P → Session C P → B → B → Type 0
Unchanged means before after book_before book_after = (view after ≡ view before) × (means book_after ≡ means book_before)

-- what a call does: its answer, and the session and the accounts afterwards
pub record Outcome (P T : Type 0) : Type 0 where
  pub answer : Result T SessionFault
  pub state : State P
  pub accounts : Accounts

abbrev pub came : {P T : Type 0} → Result T SessionFault → State P → Accounts → Outcome P T
came r s m = record { answer = r; state = s; accounts = m }

-- a call that is refused changes nothing
abbrev pub after : {P T : Type 0} → Check → State P → Accounts → Outcome P T → Outcome P T
after (Ok u) s m done = done
after (Err e) s m done = record { answer = Err e; state = s; accounts = m }

-- a refusal of the book is one of the session
abbrev pub of_book : Result (Unit {0}) BookFault → Check
of_book (Ok u) = Ok u
of_book (Err e) = Err (Book e)

-- what an accepted call answers, but for a tender
abbrev pub standing_at : Period → Standing
standing_at p = record { stage = p.stage; price = p.price }

module _ {P : Type 0} where
  abbrev pub with_period : State P → Period → State P
  with_period s p = record { rows = s.rows; quotes = s.quotes; lines = s.lines; limit = s.limit; fills = s.fills; period = p; policy = s.policy }

  abbrev pub with_lines : State P → List Line → State P
  with_lines s ls = record { rows = s.rows; quotes = s.quotes; lines = ls; limit = s.limit; fills = s.fills; period = s.period; policy = s.policy }

  abbrev pub with_quotes : State P → List (Option Ticks) → State P
  with_quotes s qs = record { rows = s.rows; quotes = qs; lines = s.lines; limit = s.limit; fills = s.fills; period = s.period; policy = s.policy }

  abbrev pub with_fills : State P → List Fill → P → State P
  with_fills s fs p = record { rows = s.rows; quotes = s.quotes; lines = s.lines; limit = s.limit; fills = fs; period = s.period; policy = p }

  -- a call that leaves the accounts as they are, and answers where the session then stands
  abbrev pub turned : State P → Accounts → Outcome P Standing
  turned s m = record { answer = Ok (standing_at s.period); state = s; accounts = m }
