-- What is made is refused by the first check that fails, and else only for want of memory.
use Rattle.std.specs.Prelude.{◌≡◌, Ok, Err, Result}
use Rattle.rounds.specs.Gates.{Check}
use Rattle.rounds.specs.declared.faults.SessionFault.{SessionFault}
use Rattle.rounds.specs.declared.faults.SessionFault.TheVariants.{Memory}

abbrev pub blamed : Check → SessionFault
blamed (Ok u) = Memory
blamed (Err f) = f

abbrev pub Refuses : {X : Type 0} → Check → Result X SessionFault → Type 0
Refuses check (Ok x) = check ≡ Ok tt
Refuses check (Err f) = f ≡ blamed check
