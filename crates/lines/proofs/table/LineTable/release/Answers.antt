use Rattle.std.proofs.Common.{Err, ap, ◌∙◌, arith}
use Rattle.std.proofs.lemmas.Result.{err_from_is_err_and}
use Rattle.lines.proofs.Releases.{covers-first, released-first}
use Rattle.lines.proofs.table.LineTable.release.Goals as goal

pub returns-clause-answer : goal.returns-clause-answer
returns-clause-answer g c = c.in_ok-check_dues.ensures ∙ covers-first _ c.dues-sums.result _ c.args.self.now.rows (omega arith) c.dues-sums.ensures

pub returns-clause-after : goal.returns-clause-after
returns-clause-after g c = c.release_dues.ensures ∙ released-first _ c.dues-sums.result _ c.args.self.now.rows (omega arith) c.dues-sums.ensures

pub returns-in_err-check_dues-clause-answer : goal.returns-in_err-check_dues-clause-answer
returns-in_err-check_dues-clause-answer g c =
    let p = err_from_is_err_and c.from_residual.result c.from_residual.ensures.1 in
    p.1 ∙ ap Err p.2 ∙ (c.in_err-check_dues.ensures ∙ covers-first _ c.dues-sums.result _ c.args.self.now.rows (omega arith) c.dues-sums.ensures)
