use Rattle.std.proofs.Common.{ap, ◌∙◌, rules}
use Rattle.messages.specs.Rows.{rows_of, listed_of}
use Rattle.messages.proofs.Figures.{get_or-listed}
use Rattle.messages.proofs.rows.LentOpenRowRoster.participant.Goals as goal

pub returns : goal.returns
returns c = let e = ap listed_of c.at.ensures ∙ get_or-listed (rows_of c.args.self.now) c.args.row in search rules
