use Rattle.std.proofs.Common.{◌≡◌, true, false, get_or, rules}
use Rattle.std.proofs.lemmas.Iterator.{first_from_Range}
use Rattle.messages.specs.Writing.{draft_figures, writable}
use Rattle.messages.proofs.Stamps.{over_first}
use Rattle.messages.proofs.writing.first_over.Goals as goal

pub returns : goal.returns
returns c =
    over_first (draft_figures c.args.draft) c.find.result c.args.len c.requires
    (first_from_Range _ _ _ c.find.result (λ i. writable i (get_or (draft_figures c.args.draft) i 0) ≡ false) (λ i. writable i (get_or (draft_figures c.args.draft) i 0) ≡ true)
    c.find.ensures.ran (λ x q k. search rules) (λ x q k. search rules))
