-- The two sides of the market, and which of them is struck.
use Rattle.std.specs.Prelude.{Bool, true, false}
use Rattle.rounds.specs.declared.sides.Side.{Side}
use Rattle.rounds.specs.declared.sides.Side.TheVariants.{Buy, Sell}
use Rattle.rounds.specs.declared.sides.Struck.{Struck}
use Rattle.rounds.specs.declared.sides.Struck.TheVariants.{Only, All}

abbrev pub other : Side → Side
other Buy = Sell
other Sell = Buy

abbrev pub same_side : Side → Side → Bool
same_side Buy Buy = true
same_side Buy Sell = false
same_side Sell Buy = false
same_side Sell Sell = true

abbrev pub hits : Struck → Side → Bool
hits (Only s) t = same_side s t
hits All t = true
