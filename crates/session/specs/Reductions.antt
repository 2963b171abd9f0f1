-- Taking lots off a line.
use Rattle.std.specs.Prelude.{ℕ, cond, Some, None, Ok, Err, Option, Result, ◌==◌, nat_lt, slice_index_or, slice_set}
use Rattle.measures.specs.Amounts.{amount}
use Rattle.books.specs.Accounts.{Accounts, releasing, released_at}
use Rattle.rounds.specs.Gates.{Check, then_ok, given, admitted, in_time, lots_fit}
use Rattle.rounds.specs.Stages.{is_market}
use Rattle.rounds.specs.declared.answers.Standing.{Standing}
use Rattle.rounds.specs.declared.faults.SessionFault.{SessionFault}
use Rattle.rounds.specs.declared.faults.SessionFault.TheVariants.{NoSuchLine, EarlierRound, FewerLots}
use Rattle.participants.specs.Rosters.{kind_at}
use Rattle.lines.specs.Entries.{line_at}
use Rattle.lines.specs.Lines.{no_line, reduced}
use Rattle.lines.specs.declared.line.Line.{Line}
use Rattle.session.specs.Periods.{clocked}
use Rattle.session.specs.State.{State, Outcome, after, of_book, with_period, with_lines, turned}

module _ {P : Type 0} where
  -- a line can be reduced by its own row, in its own round, by lots that it has
  abbrev pub line_off : State P → ℕ → ℕ → Option Line → Result Line SessionFault
  line_off s row lots None = Err NoSuchLine
  line_off s row lots (Some l) =
      cond (l.row == row)
      (cond (l.round == s.period.round)
      (cond (nat_lt l.lots.0 lots) (Err FewerLots)
      (Ok l))
      (Err EarlierRound))
      (Err NoSuchLine)

  abbrev pub own_line : State P → ℕ → ℕ → ℕ → Result Line SessionFault
  own_line s row line lots = line_off s row lots (line_at s.lines line)

  -- whether lots can be taken off lines
  abbrev pub may_reduce : State P → ℕ → Check
  may_reduce s time =
      then_ok (admitted (is_market s.period.stage) s.period time)
      (in_time s.period.ends time)

  -- the line that a row's lots come off, while they can
  abbrev pub row_line : ℕ → State P → ℕ → ℕ → ℕ → Result Line SessionFault
  row_line largest s row line lots =
      given (kind_at s.rows row) (λ _.
      then_ok (lots_fit largest lots)
      (own_line s row line lots))

  -- the line that the lots come off, or the first of the session's own reasons to refuse
  abbrev pub reducible : ℕ → State P → ℕ → ℕ → ℕ → ℕ → Result Line SessionFault
  reducible largest s time row line lots = then_ok (may_reduce s time) (row_line largest s row line lots)

  abbrev pub reduced_state : State P → ℕ → ℕ → ℕ → State P
  reduced_state s time line lots = with_period (with_lines s (slice_set s.lines line (reduced (slice_index_or s.lines line no_line) lots))) (clocked s.period time)

  -- what is taken off is released at the price it was tendered at
  abbrev pub reduced_outcome : ℕ → State P → Accounts → ℕ → ℕ → ℕ → ℕ → Result Line SessionFault → Outcome P Standing
  reduced_outcome margin s m time row line lots (Err e) = record { answer = Err e; state = s; accounts = m }
  reduced_outcome margin s m time row line lots (Ok l) =
      after (of_book (releasing (m row) (amount margin lots l.price.0))) s m
      (turned (reduced_state s time line lots) (released_at m row (amount margin lots l.price.0)))

  abbrev pub reduce_outcome : ℕ → ℕ → State P → Accounts → ℕ → ℕ → ℕ → ℕ → Outcome P Standing
  reduce_outcome margin largest s m time row line lots = reduced_outcome margin s m time row line lots (reducible largest s time row line lots)
