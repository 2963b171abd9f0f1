use Rattle.std.proofs.Common.{◌≡◌, ◌+◌, ◌*◌, ◌∷◌, ◌++◌, drop}
use Rattle.messages.specs.Kinds.{word_of}
use Rattle.messages.specs.declared.kinds.Kind.TheVariants.{Price}
use Rattle.engine.specs.Sheets.{rows_words}
use Rattle.engine.proofs.sheet.write_words.Given as goal

abbrev pub invariant-loop-row : goal.invariant-loop-row
invariant-loop-row l = l.out ≡ (word_of Price l.fn.price.0 ∷ rows_words l.fills l.row) ++ drop (1 + 3 * l.row) l.fn.out
