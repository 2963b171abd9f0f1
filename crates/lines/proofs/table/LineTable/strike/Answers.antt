use Rattle.std.proofs.Common.{Bool, cond, List, ap, ◌∙◌}
use Rattle.lines.specs.Entries.{lines_of}
use Rattle.lines.specs.Lines.{line_due, standing}
use Rattle.lines.specs.declared.line.Line.{Line}
use Rattle.lines.proofs.Below.{below_rows}
use Rattle.lines.proofs.Totals.{standing-struck}
use Rattle.lines.proofs.table.LineTable.strike.Goals as goal

pub returns-clause-none : goal.returns-clause-none
returns-clause-none g c = let ls : List Line = lines_of c.args.self.now in λ side h. ap (standing side) c.clear.ensures.lines ∙ (standing-struck c.args.which side ls ∙ ap (λ (b : Bool). cond b 0 (standing side ls)) h)

pub returns-clause-rest : goal.returns-clause-rest
returns-clause-rest g c = let ls : List Line = lines_of c.args.self.now in λ side h. ap (standing side) c.clear.ensures.lines ∙ (standing-struck c.args.which side ls ∙ ap (λ (b : Bool). cond b 0 (standing side ls)) h)

pub returns-clause-whole : goal.returns-clause-whole
returns-clause-whole g c = below_rows c.args.self.now.rows (line_due g.C.QuotedContract.MARGIN.0 c.args.which) (lines_of c.args.self.now) c.args.self.now.sound

pub returns-in_err-release-clause-whole : goal.returns-in_err-release-clause-whole
returns-in_err-release-clause-whole g c = below_rows c.args.self.now.rows (line_due g.C.QuotedContract.MARGIN.0 c.args.which) (lines_of c.args.self.now) c.args.self.now.sound
