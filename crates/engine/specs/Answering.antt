-- What a call comes to.
use Rattle.std.specs.Prelude.{◌≡◌, ℕ, List, Ok, Err, Some, None, Option, Result}
use Rattle.measures.specs.declared.Ticks.{Ticks}
use Rattle.books.specs.Accounts.{Accounts}
use Rattle.rounds.specs.declared.answers.Standing.{Standing}
use Rattle.rounds.specs.declared.answers.Tendered.{Tendered}
use Rattle.rounds.specs.declared.faults.SessionFault.{SessionFault}
use Rattle.rounds.specs.declared.sides.Side.TheVariants.{Buy, Sell}
use Rattle.session.specs.State.{State, Outcome}
use Rattle.session.specs.Quoting.{quote_outcome}
use Rattle.session.specs.Beginning.{begin_outcome}
use Rattle.session.specs.Tenders.{tender_outcome}
use Rattle.session.specs.Reductions.{reduce_outcome}
use Rattle.session.specs.Closing.{close_outcome}
use Rattle.session.specs.Measures.{suspend_outcome, reissue_outcome, announce_outcome}
use Rattle.messages.specs.declared.answers.Answer.{Answer}
use Rattle.messages.specs.declared.answers.Answer.TheVariants as answer
use Rattle.messages.specs.declared.faults.MessageFault.{MessageFault}
use Rattle.messages.specs.declared.faults.MessageFault.TheVariants.{Session}
use Rattle.messages.specs.Calls.{Said, quote, begin, buy, sell, reduce, close, suspend, reissue, announce, opened}
use Rattle.engine.specs.Misplaced.{misplaced_at}

-- the answer of the session as one of the engine
abbrev pub said_by : {T : Type 0} → (T → Answer) → Result T SessionFault → Result Answer MessageFault
said_by put (Ok x) = Ok (put x)
said_by put (Err f) = Err (Session f)

-- where the session stands, or why it refuses
abbrev pub said_standing : Result Standing SessionFault → Result Answer MessageFault
said_standing r = said_by answer.Standing r

module _ {P : Type 0} where
  -- that a call came to an outcome of the session
  abbrev pub Came : {T : Type 0} → (T → Answer) → Outcome P T → Result Answer MessageFault → State P → Accounts → Type 0
  Came put o r s m = (r ≡ said_by put o.answer) × (s ≡ o.state) × (m ≡ o.accounts)

  -- that the session never took it
  abbrev pub Misplaced : ℕ → State P → Accounts → Result Answer MessageFault → State P → Accounts → Type 0
  Misplaced time s m r s' m' = (r ≡ Err (Session (misplaced_at time))) × (s' ≡ s) × (m' ≡ m)

  -- that a measure was taken with an order in hand, and never without one
  abbrev pub MeasuredAs : {O : Type 0} → Option O → ℕ → State P → Accounts → Outcome P Standing → Result Answer MessageFault → State P → Accounts → Type 0
  MeasuredAs None time s m o = Misplaced time s m
  MeasuredAs (Some x) time s m o = Came answer.Standing o

  -- what each call comes to, with an order in hand or without one
  abbrev pub AnsweredAs : {O : Type 0} → ℕ → ℕ → ℕ → (ℕ → ℕ) → (P → ℕ → ℕ → ℕ → ℕ) → (P → ℕ → ℕ → P) → Option O → State P → Accounts → Said → Result Answer MessageFault → State P → Accounts → Type 0
  AnsweredAs margin largest threshold step share told o s m (quote time row price) = Came answer.Standing (quote_outcome s m time row price)
  AnsweredAs margin largest threshold step share told o s m (begin time prices) = Came answer.Standing (begin_outcome s m time prices)
  AnsweredAs margin largest threshold step share told o s m (buy time row lots) = Came answer.Tendered (tender_outcome margin largest s m time row Buy lots)
  AnsweredAs margin largest threshold step share told o s m (sell time row lots) = Came answer.Tendered (tender_outcome margin largest s m time row Sell lots)
  AnsweredAs margin largest threshold step share told o s m (reduce time row line lots) = Came answer.Standing (reduce_outcome margin largest s m time row line lots)
  AnsweredAs margin largest threshold step share told o s m (close time) = Came answer.Standing (close_outcome margin threshold step share told s m time)
  AnsweredAs margin largest threshold step share told None s m (suspend time) = Came answer.Standing (suspend_outcome s m time)
  AnsweredAs margin largest threshold step share told (Some x) s m (suspend time) = Misplaced time s m
  AnsweredAs margin largest threshold step share told o s m (reissue time price) = MeasuredAs o time s m (reissue_outcome margin s m time (record { 0 = price }))
  AnsweredAs margin largest threshold step share told o s m (announce time price) = MeasuredAs o time s m (announce_outcome margin s m time (record { 0 = price }))
  AnsweredAs margin largest threshold step share told o s m (opened metal time price rows) = Misplaced time s m

  -- what a message comes to: one that does not read is refused where it was read
  abbrev pub HeardAs : {O : Type 0} → ℕ → ℕ → ℕ → (ℕ → ℕ) → (P → ℕ → ℕ → ℕ → ℕ) → (P → ℕ → ℕ → P) → Option O → State P → Accounts → Result Said MessageFault → Result Answer MessageFault → State P → Accounts → Type 0
  HeardAs margin largest threshold step share told o s m (Err f) r s' m' = (r ≡ Err f) × (s' ≡ s) × (m' ≡ m)
  HeardAs margin largest threshold step share told o s m (Ok c) r s' m' = AnsweredAs margin largest threshold step share told o s m c r s' m'
