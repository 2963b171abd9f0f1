use Rattle.std.proofs.Common.{◌≡◌, ◌<◌, length, Err, sym, ap, ◌∙◌, arith}
use Rattle.std.proofs.lemmas.Result.{err_from_is_err_and}
use Rattle.books.specs.Accounts.{Accounts}
use Rattle.lines.specs.Striking.{due_in}
use Rattle.lines.specs.Striking.{covers}
use Rattle.lines.proofs.Releases.{covers_more, covers-stop}
use Rattle.lines.proofs.strike.check_dues.Goals as goal

pub returns-in_err-check_due : goal.returns-in_err-check_due
returns-in_err-check_due g c =
    let p = err_from_is_err_and c.from_residual.result c.from_residual.ensures.1 in
    let m : Accounts = g.B.MarginBook.means c.args.book.now in
    let lt : c.loop-row.row < length c.args.dues.now = omega arith in
    let f : covers (m c.loop-row.row) (due_in c.args.dues.now c.loop-row.row) ≡ Err c.in_err-check_due.field-0.0 = sym c.in_err-check_due.ensures in
    p.1 ∙ ap Err p.2 ∙ sym (covers-stop m (due_in c.args.dues.now) c.loop-row.row (length c.args.dues.now) c.in_err-check_due.field-0.0 lt c.loop-row.invariant f)
