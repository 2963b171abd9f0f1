use Rattle.std.specs.Prelude.{ℕ, Bool, ◌==◌}
use Rattle.rounds.specs.declared.stages.Stage.{Stage}
use Rattle.rounds.specs.declared.stages.Stage.TheVariants.{Quoting, Market, Supplementary, Fixed, Announced, Suspended, Halted}

-- the number of a stage
abbrev pub number_of : Stage → ℕ
number_of Quoting = 0
number_of Market = 1
number_of Supplementary = 2
number_of Fixed = 3
number_of Announced = 4
number_of Suspended = 5
number_of Halted = 6

abbrev pub is_quoting : Stage → Bool
is_quoting s = number_of s == 0

abbrev pub is_market : Stage → Bool
is_market s = number_of s == 1

abbrev pub is_supplementary : Stage → Bool
is_supplementary s = number_of s == 2

abbrev pub is_suspended : Stage → Bool
is_suspended s = number_of s == 5

abbrev pub is_halted : Stage → Bool
is_halted s = number_of s == 6

abbrev pub is_fixed : Stage → Bool
is_fixed s = number_of s == 3
