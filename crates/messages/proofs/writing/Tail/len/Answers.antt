use Rattle.std.proofs.Common.{rules}
use Rattle.std.proofs.lemmas.List.{length-map}
use Rattle.messages.proofs.Figures.{length-flat}
use Rattle.messages.proofs.writing.Tail.len.Goals as goal

pub returns-in-Rows : goal.returns-in-Rows
returns-in-Rows c = search (rules, length-flat, length-map)
