use Rattle.std.proofs.Common.{◌<◌, List, length, Err, sym, ap, ◌∙◌, arith, rules}
use Rattle.std.proofs.lemmas.Result.{err_from_is_err_and}
use Rattle.participants.specs.declared.rows.Listed.{Listed}
use Rattle.participants.proofs.Seated.{rows_more, rows-stop}
use Rattle.participants.proofs.enrolment.check_rows.Goals as goal

pub returns-in_err-check_participant : goal.returns-in_err-check_participant
returns-in_err-check_participant g c =
    let ls : List Listed = g.R.Roster.listed c.args.roster.now in
    let lt : c.loop-row.row < length ls = omega arith in
    let p = err_from_is_err_and c.from_residual.result c.from_residual.ensures.1 in
    p.1 ∙ ap Err p.2 ∙ sym (rows-stop ls c.loop-row.row (length ls) c.in_err-check_participant.field-0.0 lt c.loop-row.invariant (sym c.in_err-check_participant.ensures))
