use Rattle.std.proofs.Common.{ap, length, rules}
use Rattle.messages.proofs.Cuts.{messages-cut}
use Rattle.messages.proofs.reader.ReaderIterator.next.Goals as goal

pub returns-clause-steps : goal.returns-clause-steps
returns-clause-steps c =
    messages-cut c.args.self.now.rest.now c.in_ok-behind.field-0-0.now c.in_ok-behind.behind.now c.next_verb.result c.unwrap_or-end.result _ _
    c.in_ok-behind.ensures.cases.0 c.next_verb.ensures c.unwrap_or-end.ensures c.split_at.ensures.front c.split_at.ensures.back

pub returns-clause-goes : goal.returns-clause-goes
returns-clause-goes c =
    let cut = messages-cut c.args.self.now.rest.now c.in_ok-behind.field-0-0.now c.in_ok-behind.behind.now c.next_verb.result c.unwrap_or-end.result _ _
    c.in_ok-behind.ensures.cases.0 c.next_verb.ensures c.unwrap_or-end.ensures c.split_at.ensures.front c.split_at.ensures.back in
    let fewer = ap length cut in search rules
