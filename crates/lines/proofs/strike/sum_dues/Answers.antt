use Rattle.std.proofs.Common.{◌+◌, ◌<◌, ◌≤◌, List, length, get_or, refl, ap, ◌∙◌, arith, length-set, rules}
use Rattle.std.proofs.lemmas.List.{take_all, get_or-replicate}
use Rattle.measures.specs.declared.Fen.{Fen}
use Rattle.lines.specs.Striking.{due_in, no_fen}
use Rattle.lines.specs.Lines.{no_line, line_due, due_to}
use Rattle.lines.specs.declared.line.Line.{Line}
use Rattle.lines.proofs.Owed.{row_more, row-next-le}
use Rattle.lines.proofs.Totals.{lots-at, price-at, dues-all, row_at}
use Rattle.lines.proofs.strike.sum_dues.Given as given
use Rattle.lines.proofs.strike.sum_dues.Goals as goal

high : (g : given.Over) → g.C.QuotedContract.MARGIN.0 ≤ 1500
high g = omega (arith, g.C.QuotedContract.margin_high, g.C.QuotedContract.worth_high)

pub due-due-requires : goal.due-due-requires
due-due-requires g c = search (rules, lots-at, price-at)

pub bounds-dues-row : goal.bounds-dues-row
bounds-dues-row g c = omega (arith, row_at 256 c.args.lines.now c.loop-line.line-index no_line c.requires.sound (omega arith))

pub overflow_add-dues : goal.overflow_add-dues
overflow_add-dues g c =
    let l : Line = get_or c.args.lines.now c.loop-line.line-index no_line in
    let w : l.row < length c.loop-line.dues = omega (arith, row_at 256 c.args.lines.now c.loop-line.line-index no_line c.requires.sound (omega arith)) in
    omega (arith, c.loop-line.invariant.1 l.row w, c.due-due.ensures, row-next-le (line_due g.C.QuotedContract.MARGIN.0 c.args.which) 600000000000000 c.args.lines.now c.loop-line.line-index no_line (dues-all 256 g.C.QuotedContract.MARGIN.0 c.args.which (high g) c.args.lines.now c.requires.sound) (omega arith))

pub bounds-dues-row-in-loop-line : goal.bounds-dues-row-in-loop-line
bounds-dues-row-in-loop-line g c = omega (arith, row_at 256 c.args.lines.now c.loop-line.line-index no_line c.requires.sound (omega arith))

pub loop-line-init : goal.loop-line-init
loop-line-init g c = (refl, λ k h. ap (λ (f : Fen). f.0) (get_or-replicate 256 k no_fen no_fen h))
