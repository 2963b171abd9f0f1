use Rattle.std.proofs.lemmas.List.{length-map}
use Rattle.messages.proofs.Figures.{length-paired}
use Rattle.messages.proofs.rows.OpenRowWorded.count.Goals as goal

pub returns : goal.returns
returns c = simp (length-paired, length-map)
