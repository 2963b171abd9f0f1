-- The checks of a call, each with the refusal it gives.
use Rattle.std.specs.Prelude.{ℕ, Bool, cond, ◌||◌, Ok, Err, Result, nat_le, nat_lt}
use Rattle.rounds.specs.declared.faults.SessionFault.{SessionFault}
use Rattle.rounds.specs.declared.faults.SessionFault.TheVariants.{Time, WrongStage, Early, Over, NotOver, Price, Amount}
use Rattle.rounds.specs.declared.periods.Period.{Period}

abbrev pub Check : Type 0
Check = Result (Unit {0}) SessionFault

-- what a check says, whatever it hands on
abbrev pub said : {X : Type 0} → Result X SessionFault → Check
said (Ok x) = Ok tt
said (Err e) = Err e

-- what comes after a check that passed; the refusal of one that did not
abbrev pub then_ok : {X : Type 0} → Check → Result X SessionFault → Result X SessionFault
then_ok (Ok u) r = r
then_ok (Err e) r = Err e

-- what comes of a thing that was found; the refusal where it was not
abbrev pub given : {X Y : Type 0} → Result X SessionFault → (X → Result Y SessionFault) → Result Y SessionFault
given (Ok x) f = f x
given (Err e) f = Err e

-- a day has 86,400,000 milliseconds
abbrev pub time_fits : ℕ → Check
time_fits time = cond (nat_lt 86399999 time) (Err Time) (Ok tt)

-- the time is one of the day, the call belongs to the stage, and no later call was accepted
abbrev pub admitted : Bool → Period → ℕ → Check
admitted belongs p time =
    then_ok (time_fits time)
    (cond belongs
    (cond (nat_lt time p.clock) (Err Early)
    (Ok tt))
    (Err WrongStage))

-- a call at the very end of a period is late
abbrev pub in_time : ℕ → ℕ → Check
in_time ends time = cond (nat_le ends time) (Err Over) (Ok tt)

-- what ends a period comes at its end or later
abbrev pub ended : ℕ → ℕ → Check
ended ends time = cond (nat_lt time ends) (Err NotOver) (Ok tt)

-- a price is 1 to 10,000,000 ticks
abbrev pub price_fits : ℕ → ℕ → Check
price_fits at price = cond (nat_lt price 1 || nat_lt 10000000 price) (Err (Price at)) (Ok tt)

-- lots are at least one, and at most the largest tender
abbrev pub lots_fit : ℕ → ℕ → Check
lots_fit largest lots = cond (nat_lt lots 1 || nat_lt largest lots) (Err Amount) (Ok tt)
