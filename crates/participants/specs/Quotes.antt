-- What every quote keeps to.
use Rattle.std.specs.Prelude.{Bool, true, ◌&&◌, List, [], ◌∷◌, Some, None, Option, nat_le}
use Rattle.measures.specs.declared.Ticks.{Ticks}

-- a quote that was named is a price
abbrev pub lawful_quote : Option Ticks → Bool
lawful_quote None = true
lawful_quote (Some p) = nat_le 1 p.0 && nat_le p.0 10000000

abbrev pub lawful_quotes : List (Option Ticks) → Bool
lawful_quotes [] = true
lawful_quotes (q ∷ qs) = lawful_quote q && lawful_quotes qs
