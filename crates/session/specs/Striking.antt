-- Striking the lines of a session.
use Rattle.std.specs.Prelude.{ℕ, map, length}
use Rattle.books.specs.Accounts.{Accounts}
use Rattle.rounds.specs.declared.answers.Standing.{Standing}
use Rattle.rounds.specs.declared.periods.Period.{Period}
use Rattle.rounds.specs.declared.sides.Struck.{Struck}
use Rattle.lines.specs.Lines.{struck}
use Rattle.lines.specs.Striking.{strike_check, struck_accounts}
use Rattle.session.specs.State.{State, Outcome, after, of_book, with_lines, with_period, turned}

-- lines are struck and another period is entered, unless the book stands in the way
abbrev pub strike_into : {P : Type 0} → ℕ → State P → Accounts → Struck → Period → Outcome P Standing
strike_into margin s m which p =
    after (of_book (strike_check margin (length s.rows) s.lines m which)) s m
    (turned (with_period (with_lines s (map (struck which) s.lines)) p) (struck_accounts margin (length s.rows) s.lines m which))
