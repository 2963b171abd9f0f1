use Rattle.messages.specs.Calls.{said}
use Rattle.messages.proofs.Trip.{written_back}
use Rattle.messages.proofs.writing.write.Goals as goal

pub returns-clause-back : goal.returns-clause-back
returns-clause-back c =
    written_back (said c.args.call.now) c.args.out.now c.put_call.new.out c.put_call.result c.put_call.ensures
