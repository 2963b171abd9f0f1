use Rattle.std.proofs.Common.{sym, ap, ◌∙◌, arith}
use Rattle.messages.specs.Rows.{rows_of, participant_figure}
use Rattle.messages.proofs.Figures.{flat-first, flat-second}
use Rattle.messages.proofs.writing.Tail.at.Goals as goal

pub returns-then-place-eq0 : goal.returns-then-place-eq0
returns-then-place-eq0 c =
    let f = flat-first (rows_of c.in-Rows.rows) _ c.args.place (omega arith) in
    simp c.in-Rows.is (c.participant.ensures ∙ ap participant_figure c.at-row.ensures ∙ sym f)

pub returns-else-place-eq0 : goal.returns-else-place-eq0
returns-else-place-eq0 c =
    let f = flat-second (rows_of c.in-Rows.rows) _ c.args.place (omega arith) in
    simp c.in-Rows.is (simp c.at-row.ensures (sym f))
