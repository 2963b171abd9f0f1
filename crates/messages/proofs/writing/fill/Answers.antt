use Rattle.std.proofs.Common.{ap, ◌∙◌, arith}
use Rattle.messages.specs.Kinds.{word_of}
use Rattle.messages.proofs.Stamps.{fill_more}
use Rattle.messages.proofs.writing.fill.Goals as goal

pub loop-place-preserved : goal.loop-place-preserved
loop-place-preserved c =
    fill_more c.loop-place.invariant c.coming.result.now _ c.word.result c.coming.ensures
    (c.word.ensures ∙ ap (word_of _) c.at.ensures) (omega arith) (omega arith)
