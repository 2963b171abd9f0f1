use Rattle.std.proofs.Common.{ℕ, ◌+◌, ◌-◌, ◌*◌, List, ◌∷◌, refl, ap, ◌∙◌, arith, rules}
use Rattle.messages.specs.Kinds.{word_of}
use Rattle.messages.specs.declared.kinds.Kind.TheVariants.{Price}
use Rattle.engine.specs.Sheets.{rows_words}
use Rattle.engine.proofs.SheetWords.{length-rows, put-row}
use Rattle.engine.proofs.sheet.write_words.Goals as goal

pub loop-row-preserved : goal.loop-row-preserved
loop-row-preserved c =
    let row : ℕ = c.loop-row.row in
    let front : List ℕ = word_of Price c.args.price.0 ∷ rows_words c.args.fills.now row in
    let long = length-rows c.args.fills.now row in
    let put = put-row (3 * row + 1) (3 * row + 1 + 3 - (3 * row + 1)) front c.args.out.now c.copy_from_slice.new.self c.loop-row.out (omega arith) (omega arith) (omega arith) (omega arith) (search rules) in
    search rules
