use Rattle.std.specs.Prelude.{ℕ, List, map}
use Rattle.messages.specs.declared.lent.Lent.{Lent}
use Rattle.messages.specs.declared.lent.Lent.TheVariants.{Words, Typed}
use Rattle.messages.specs.Kinds.{figure_of}

-- the items of a list, wherever they lie: read of the figures of its words, or as they are
abbrev pub lent_of : {T : Type 0} → (List ℕ → List T) → Lent T → List T
lent_of read (Words ws) = read (map figure_of ws.now)
lent_of read (Typed ts) = ts.now
