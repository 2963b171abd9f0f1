use Rattle.std.proofs.Common.{◌≡◌, Ok, sym, rules}
use Rattle.messages.specs.Calls.{said}
use Rattle.messages.specs.Reading.{reading}
use Rattle.messages.proofs.Matches.{fills-at}
use Rattle.messages.proofs.Trip.{writes-back}
use Rattle.messages.proofs.reading.read.Goals as goal

pub call_of-requires : goal.call_of-requires
call_of-requires c =
    fills-at c.in_ok-verb.verb c.again.result.now c.first.result.now c.args.message.now
    c.again.ensures c.first.ensures c.in_ok-check.ensures

pub returns : goal.returns
unfolding reading
returns c =
    let a : Ok (said c.call_of.result) ≡ reading c.args.message.now = search rules in
    record { answer = a; back = writes-back c.args.message.now (said c.call_of.result) (sym a) }
