use Rattle.std.proofs.Common.{rules}
use Rattle.lines.proofs.Totals.{standing-le}
use Rattle.lines.proofs.table.LineTable.imbalance.Goals as goal

pub returns : goal.returns
returns c = search (rules, standing-le)
