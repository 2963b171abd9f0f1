use Rattle.std.proofs.Common.{vec_items, arith, rules}
use Rattle.rounds.specs.declared.sides.Side.TheVariants.{Buy, Sell}
use Rattle.lines.proofs.Totals.{standing-le, lots-on-le, lawful-push, standing-push}
use Rattle.lines.proofs.table.LineTable.add.Goals as goal

pub overflow_add-self : goal.overflow_add-self
overflow_add-self c = omega (arith, standing-le c.args.self.now.rows Buy (vec_items c.args.self.now.lines) c.args.self.now.sound, lots-on-le c.args.self.now.rows Buy c.args.line c.requires.sound, c.args.self.now.lines.ok.0)

pub overflow_add-self-2 : goal.overflow_add-self-2
overflow_add-self-2 c = omega (arith, standing-le c.args.self.now.rows Sell (vec_items c.args.self.now.lines) c.args.self.now.sound, lots-on-le c.args.self.now.rows Sell c.args.line c.requires.sound, c.args.self.now.lines.ok.0)

pub invariant_of-self : goal.invariant_of-self
invariant_of-self c = search (rules, lawful-push, standing-push)
