use Rattle.std.proofs.Common.{rules}
use Rattle.session.proofs.session.Session.close.Goals as goal

pub returns-in-Market-stage : goal.returns-in-Market-stage
returns-in-Market-stage g c = let e = c.close_market.ensures (g.B.MarginBook.means c.args.book.now) in search rules
