use Rattle.std.proofs.Common.{List, ap, ◌∙◌, arith, rules}
use Rattle.lines.specs.Lines.{due_to}
use Rattle.lines.specs.declared.line.Line.{Line}
use Rattle.lines.proofs.Totals.{lawful-wider}
use Rattle.lines.proofs.table.LineTable.dues.Goals as goal

pub sum_dues-requires : goal.sum_dues-requires
sum_dues-requires g c = search (rules, lawful-wider)

pub returns : goal.returns
returns g c = λ k h. c.sum_dues.ensures k (omega arith) ∙ ap (λ (ls : List Line). due_to g.C.QuotedContract.MARGIN.0 c.args.which ls k) c.as_slice.ensures.value
