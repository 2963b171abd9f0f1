use Rattle.std.specs.Prelude.{ℕ, List, map}
use Rattle.measures.specs.declared.Ticks.{Ticks}
use Rattle.messages.specs.declared.lent.Lent.{Lent}
use Rattle.messages.specs.declared.lent.Lent.TheVariants.{Words, Typed}
use Rattle.messages.specs.Kinds.{figure_of}

abbrev pub ticks : Ticks → ℕ
ticks t = t.0

-- figures as prices
abbrev pub priced : List ℕ → List Ticks
priced fs = map (λ n. record { 0 = n }) fs

-- the prices, wherever they lie
abbrev pub prices_of : Lent Ticks → List ℕ
prices_of (Words ws) = map figure_of ws.now
prices_of (Typed ps) = map ticks ps.now
