use Rattle.std.proofs.Common.{rules}
use Rattle.participants.proofs.Named.{quotes-none}
use Rattle.participants.proofs.quotes.Quotes.new.Goals as goal

pub invariant_of-result : goal.invariant_of-result
invariant_of-result c = search (rules, quotes-none)
