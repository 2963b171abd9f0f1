use Rattle.std.proofs.Common.{◌≡◌, Some, None, refl, sym, ap, ◌∙◌, rules}
use Rattle.std.proofs.lemmas.Option.{slice_get_read, slice_get_past}
use Rattle.messages.proofs.Figures.{row_of_pair, get-paired}
use Rattle.messages.proofs.rows.OpenRowWorded.pick.Goals as goal

pub returns : goal.returns
returns c =
    let found = c.in_ok-participant.ensures.lookup in
    let pair = slice_get_read c.as_chunks.result.0.now _ c.args.row c.in_ok-participant.field-0.now refl found.3.0 found.1 in
    let row : c.of.result ≡ row_of_pair c.in_ok-participant.field-0.now = rw (c.of.ensures, c.figure.ensures, c.figure-2.ensures) refl in
    ap Some row ∙ sym (get-paired c.args.words.now c.as_chunks.result.0.now c.args.row (Some c.in_ok-participant.field-0.now) c.as_chunks.ensures.front pair)

pub returns-in_err-participant : goal.returns-in_err-participant
returns-in_err-participant c =
    let past = slice_get_past c.as_chunks.result.0.now c.args.row c.in_err-participant.ensures.lookup.3 in
    let none = get-paired c.args.words.now c.as_chunks.result.0.now c.args.row None c.as_chunks.ensures.front past in
    search rules
