use Rattle.std.proofs.Common.{◌<◌, List, length, get_or, refl, ap, ◌∙◌, arith, length-set}
use Rattle.std.proofs.lemmas.List.{take_all, get_or-replicate}
use Rattle.lines.specs.Lines.{no_line, lots_on, of_row}
use Rattle.lines.specs.Fills.{no_fill, filled_on}
use Rattle.lines.specs.declared.line.Line.{Line}
use Rattle.rounds.specs.declared.sides.Side.TheVariants.{Buy, Sell}
use Rattle.lines.proofs.Owed.{row_more, row-front-le}
use Rattle.lines.proofs.Shared.{filled_none, filled_more}
use Rattle.lines.proofs.Totals.{row_at, lots-at, lots-all}
use Rattle.lines.proofs.filling.fill_lines.Goals as goal

pub bounds-fills-row : goal.bounds-fills-row
bounds-fills-row c = omega (arith, row_at 256 c.args.lines.now c.loop-line.line-index no_line c.requires.sound (omega arith))

pub bounds-fills-row-in-loop-line : goal.bounds-fills-row-in-loop-line
bounds-fills-row-in-loop-line c = omega (arith, row_at 256 c.args.lines.now c.loop-line.line-index no_line c.requires.sound (omega arith))

pub with-requires : goal.with-requires
with-requires c =
    let l : Line = get_or c.args.lines.now c.loop-line.line-index no_line in
    let w : l.row < length c.loop-line.fills = omega (arith, row_at 256 c.args.lines.now c.loop-line.line-index no_line c.requires.sound (omega arith)) in
    record {
      bought = omega (arith, c.loop-line.invariant.1 Buy l.row w, row-front-le (lots_on Buy) 40000 c.args.lines.now l.row c.loop-line.line-index (lots-all 256 Buy c.args.lines.now c.requires.sound));
      sold = omega (arith, c.loop-line.invariant.1 Sell l.row w, row-front-le (lots_on Sell) 40000 c.args.lines.now l.row c.loop-line.line-index (lots-all 256 Sell c.args.lines.now c.requires.sound));
      lots = omega (arith, lots-at 256 c.args.lines.now c.loop-line.line-index no_line c.requires.sound (omega arith));
    }

pub loop-line-preserved : goal.loop-line-preserved
loop-line-preserved c =
    let l : Line = get_or c.args.lines.now c.loop-line.line-index no_line in
    let w : l.row < length c.loop-line.fills = omega (arith, row_at 256 c.args.lines.now c.loop-line.line-index no_line c.requires.sound (omega arith)) in (
      simp length-set c.loop-line.invariant.0,
      λ side k b. row_more (filled_on side) no_fill (lots_on side) c.args.lines.now c.loop-line.line-index no_line c.loop-line.fills c.with.result
          (omega arith) w (ap (filled_on side) c.with.ensures ∙ filled_more side l.side (get_or c.loop-line.fills l.row no_fill) l.lots.0) (c.loop-line.invariant.1 side) k b,
    )

pub loop-line-init : goal.loop-line-init
loop-line-init c = (refl, λ side k h. ap (filled_on side) (get_or-replicate 256 k no_fill no_fill h) ∙ filled_none side)
