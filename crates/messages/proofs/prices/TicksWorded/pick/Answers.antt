use Rattle.std.proofs.Common.{ℕ, Some, refl, ap}
use Rattle.std.proofs.lemmas.Option.{slice_get-map, slice_get_read}
use Rattle.measures.specs.declared.Ticks.{Ticks}
use Rattle.messages.proofs.prices.TicksWorded.pick.Goals as goal

pub returns : goal.returns
returns c =
    let found = c.in_ok-word.ensures.lookup in
    let e = slice_get_read c.args.words.now _ c.args.place c.in_ok-word.word.now refl found.3.0 found.1 in
    let tick : ℕ → Ticks = λ n. record { 0 = n } in
    simp (slice_get-map, e) (ap (λ n. Some (tick n)) c.figure.ensures)
