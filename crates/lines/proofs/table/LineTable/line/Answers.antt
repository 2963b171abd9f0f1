use Rattle.std.proofs.Common.{rules}
use Rattle.std.proofs.lemmas.List.{get_or_read}
use Rattle.lines.proofs.Totals.{lots-at, price-at}
use Rattle.lines.proofs.table.LineTable.line.Goals as goal

pub returns : goal.returns
returns c = search (rules, get_or_read, lots-at, price-at)
