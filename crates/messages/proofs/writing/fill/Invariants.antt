use Rattle.messages.specs.Writing.{draft_figures}
use Rattle.messages.proofs.Stamps.{Filled}
use Rattle.messages.proofs.writing.fill.Given as goal

abbrev pub invariant-loop-place : goal.invariant-loop-place
invariant-loop-place l = Filled l.more l.initial.left l.left (draft_figures l.draft) l.place l.initial.out l.out
