-- The quotes of a table.
use Rattle.std.specs.Prelude.{List, vec_items, Option}
use Rattle.measures.specs.declared.Ticks.{Ticks}
use Rattle.participants.specs.declared.quotes.Quotes.{Quotes}

abbrev pub prices_of : Quotes → List (Option Ticks)
prices_of q = vec_items q.prices
