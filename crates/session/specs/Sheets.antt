-- The sheet: the benchmark, and what each row bought and sold at it.
use Rattle.std.specs.Prelude.{cond, List, length, take, Ok, Err, Result}
use Rattle.measures.specs.declared.Ticks.{Ticks}
use Rattle.rounds.specs.Stages.{is_fixed}
use Rattle.rounds.specs.declared.faults.SessionFault.{SessionFault}
use Rattle.rounds.specs.declared.faults.SessionFault.TheVariants.{WrongStage}
use Rattle.lines.specs.declared.fills.Fill.{Fill}
use Rattle.session.specs.State.{State}
use Rattle.session.specs.declared.sheet.Sheet.{Sheet}

-- what a sheet says
pub record Said : Type 0 where
  pub price : Ticks
  pub fills : List Fill

abbrev pub said : Result Sheet SessionFault → Result Said SessionFault
said (Ok s) = Ok (record { price = s.price; fills = s.fills.now })
said (Err f) = Err f

-- of a fixed session, the Offered Price and a fill for each row
abbrev pub sheet_outcome : {P : Type 0} → State P → Result Said SessionFault
sheet_outcome s = cond (is_fixed s.period.stage) (Ok (record { price = s.period.price; fills = take (length s.rows) s.fills })) (Err WrongStage)
