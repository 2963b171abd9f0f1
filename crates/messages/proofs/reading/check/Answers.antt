use Rattle.std.proofs.Common.{rules}
use Rattle.messages.proofs.Matches.{refused-here, leads-none}
use Rattle.messages.proofs.reading.check.Goals as goal

pub returns-in_default : goal.returns-in_default
returns-in_default c = search (rules, refused-here, leads-none)
