use Rattle.std.proofs.Common.{◌<◌, List, length, vec_items, ap, arith, rules}
use Rattle.rounds.specs.declared.sides.Side.TheVariants.{Buy, Sell}
use Rattle.lines.specs.Lines.{reduced, lots_on}
use Rattle.lines.specs.declared.line.Line.{Line}
use Rattle.lines.proofs.Totals.{lots-le-read, standing-read, lawful-reduced, reduced-fits}
use Rattle.lines.proofs.table.LineTable.take_off.Goals as goal

pub overflow_add-self-2 : goal.overflow_add-self-2
overflow_add-self-2 c = let lt : c.args.line < length (vec_items c.args.self.now.lines) = omega arith in
    omega (arith, ap (lots_on Sell) c.less-new.ensures, reduced-fits c.args.self.now.rows Sell (vec_items c.args.self.now.lines) c.args.line c.index.result.now c.args.lots.0 c.args.self.now.sound (omega arith) lt c.index.ensures)

pub invariant_of-self : goal.invariant_of-self
invariant_of-self c =
    let ls : List Line = vec_items c.args.self.now.lines in
    let x : Line = c.index.result.now in
    let lt : c.args.line < length ls = omega arith in
    let b = standing-read Buy ls c.args.line x (reduced x c.args.lots.0) lt c.index.ensures in
    let s = standing-read Sell ls c.args.line x (reduced x c.args.lots.0) lt c.index.ensures in
    let l = lawful-reduced c.args.self.now.rows ls c.args.line x c.args.lots.0 c.args.self.now.sound lt c.index.ensures in
    search rules
