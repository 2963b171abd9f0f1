use Rattle.std.proofs.Common.{◌≡◌, ◌*◌, ◌≤◌, take}
use Rattle.participants.specs.Means.{tallied}
use Rattle.participants.proofs.means.tally.Given as goal

abbrev pub invariant-loop-quote : goal.invariant-loop-quote
invariant-loop-quote l = (l.tally ≡ tallied (take l.quote-index l.quotes)) × (l.tally.sum ≤ 4294967295 * l.quote-index) × (l.tally.count ≤ l.quote-index)
