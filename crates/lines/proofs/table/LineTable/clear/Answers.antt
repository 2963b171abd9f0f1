use Rattle.std.proofs.Common.{rules}
use Rattle.std.proofs.lemmas.List.{length-map}
use Rattle.lines.proofs.Totals.{standing-struck, lawful-struck}
use Rattle.lines.proofs.table.LineTable.clear.Goals as goal

pub invariant_of-self : goal.invariant_of-self
invariant_of-self c = search (rules, standing-struck, lawful-struck, length-map)
