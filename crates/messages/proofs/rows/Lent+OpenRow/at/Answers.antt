use Rattle.std.proofs.Common.{slice_get, ap, ◌∙◌}
use Rattle.std.specs.Option.{unwrap_or}
use Rattle.std.proofs.lemmas.Option.{unwrap_or-slice_get}
use Rattle.messages.specs.Rows.{blank_row, rows_of}
use Rattle.messages.proofs.rows.Lent+OpenRow.at.Goals as goal

pub returns : goal.returns
returns c =
    c.unwrap_or.ensures ∙ ap (λ o. unwrap_or o c.of.result) c.get.ensures
    ∙ ap (λ r. unwrap_or (slice_get (rows_of c.args.self.now) c.args.row) r) c.of.ensures
    ∙ unwrap_or-slice_get (rows_of c.args.self.now) c.args.row blank_row
