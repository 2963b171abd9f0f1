use Rattle.std.proofs.Common.{rules}
use Rattle.participants.proofs.Named.{quotes-named}
use Rattle.participants.proofs.quotes.Quotes.name.Goals as goal

pub invariant_of-self : goal.invariant_of-self
invariant_of-self c = search (rules, quotes-named)
