use Rattle.std.proofs.Common.{◌≡◌, drop}
use Rattle.messages.specs.Reading.{matched}
use Rattle.messages.proofs.reading.check.Given as goal

-- what is left of the words is to be matched as the whole was
abbrev pub invariant-loop-place : goal.invariant-loop-place
invariant-loop-place l = matched l.more l.left l.place (drop l.place l.message) ≡ matched l.more l.kinds 0 l.message
