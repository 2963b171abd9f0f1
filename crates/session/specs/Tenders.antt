-- Tenders.
use Rattle.std.specs.Prelude.{ℕ, min, cond, ◌||◌, [], ◌∷◌, ◌++◌, length, Ok, Err, Result, ◌==◌, nat_le}
use Rattle.measures.specs.Amounts.{amount}
use Rattle.measures.specs.declared.Lots.{Lots}
use Rattle.books.specs.Accounts.{Accounts, freezing, frozen_at}
use Rattle.rounds.specs.Gates.{Check, then_ok, given, admitted, in_time, lots_fit}
use Rattle.rounds.specs.Sides.{same_side, other}
use Rattle.rounds.specs.Stages.{is_market, is_supplementary}
use Rattle.rounds.specs.declared.answers.Tendered.{Tendered}
use Rattle.rounds.specs.declared.faults.SessionFault.{SessionFault}
use Rattle.rounds.specs.declared.faults.SessionFault.TheVariants.{WrongKind, WrongSide, NothingRemains, LinesUsedUp}
use Rattle.rounds.specs.declared.sides.Side.{Side}
use Rattle.participants.specs.Participants.{is_fixing}
use Rattle.participants.specs.Rosters.{kind_at}
use Rattle.participants.specs.declared.kinds.Kind.{Kind}
use Rattle.lines.specs.Lines.{imbalance}
use Rattle.lines.specs.declared.line.Line.{Line}
use Rattle.session.specs.Periods.{clocked}
use Rattle.session.specs.State.{State, Outcome, after, of_book, with_period, with_lines}

-- only Fixing Members supplement
abbrev pub fixing_may : Kind → Check
fixing_may kind = cond (is_fixing kind) (Ok tt) (Err WrongKind)

-- in the market period a tender is taken whole
abbrev pub market_lots : ℕ → ℕ → Result Lots SessionFault
market_lots largest lots = then_ok (lots_fit largest lots) (Ok (record { 0 = lots }))

module _ {P : Type 0} where
  -- whether tenders are taken
  abbrev pub may_tender : State P → ℕ → Check
  may_tender s time =
      then_ok (admitted (is_market s.period.stage || is_supplementary s.period.stage) s.period time)
      (in_time s.period.ends time)

  -- a line table is used up when the accepted tenders equal its limit
  abbrev pub room_check : State P → Check
  room_check s = cond (nat_le s.limit (length s.lines)) (Err LinesUsedUp) (Ok tt)

  -- in the supplementary period it stands against the excess, and is cut to what remains
  abbrev pub remaining_lots : State P → ℕ → Result Lots SessionFault
  remaining_lots s lots = cond (imbalance s.lines == 0) (Err NothingRemains) (Ok (record { 0 = min lots (imbalance s.lines) }))

  abbrev pub excess_lots : State P → Side → ℕ → Result Lots SessionFault
  excess_lots s side lots = cond (same_side side (other s.period.excess.side)) (remaining_lots s lots) (Err WrongSide)

  abbrev pub supplementary_lots : ℕ → State P → Kind → Side → ℕ → Result Lots SessionFault
  supplementary_lots largest s kind side lots =
      then_ok (fixing_may kind)
      (then_ok (lots_fit largest lots)
      (excess_lots s side lots))

  -- the lots taken of a row's tender, while tenders are taken
  abbrev pub row_lots : ℕ → State P → ℕ → Side → ℕ → Result Lots SessionFault
  row_lots largest s row side lots =
      given (kind_at s.rows row) (λ kind.
      cond (is_market s.period.stage) (market_lots largest lots) (supplementary_lots largest s kind side lots))

  -- the lots taken, or the first of the session's own reasons to refuse: want of room for a line is the last
  abbrev pub lots_taken : ℕ → State P → ℕ → ℕ → Side → ℕ → Result Lots SessionFault
  lots_taken largest s time row side lots =
      then_ok (may_tender s time)
      (given (row_lots largest s row side lots) (λ n.
      then_ok (room_check s) (Ok n)))

  -- the line of an accepted tender
  abbrev pub line_of : State P → ℕ → Side → ℕ → Line
  line_of s row side lots = record { row = row; side = side; lots = record { 0 = lots }; price = s.period.price; round = s.period.round }

  abbrev pub tendered : State P → ℕ → ℕ → Side → ℕ → State P
  tendered s time row side lots = with_period (with_lines s (s.lines ++ line_of s row side lots ∷ [])) (clocked s.period time)

  -- only the lots taken freeze margin, and the line is numbered by the tenders accepted so far
  abbrev pub taken_outcome : ℕ → State P → Accounts → ℕ → ℕ → Side → Result Lots SessionFault → Outcome P Tendered
  taken_outcome margin s m time row side (Err e) = record { answer = Err e; state = s; accounts = m }
  taken_outcome margin s m time row side (Ok n) =
      after (of_book (freezing (m row) (amount margin n.0 s.period.price.0))) s m (record {
        answer = Ok (record { line = length s.lines; lots = n });
        state = tendered s time row side n.0;
        accounts = frozen_at m row (amount margin n.0 s.period.price.0);
      })

  abbrev pub tender_outcome : ℕ → ℕ → State P → Accounts → ℕ → ℕ → Side → ℕ → Outcome P Tendered
  tender_outcome margin largest s m time row side lots = taken_outcome margin s m time row side (lots_taken largest s time row side lots)
