use Rattle.std.proofs.Common.{refl, ap, ◌∙◌}
use Rattle.std.specs.Option.{unwrap_or}
use Rattle.measures.specs.declared.Ticks.{Ticks}
use Rattle.messages.proofs.Figures.{price-lent}
use Rattle.messages.proofs.prices.LentTicksPriceList.price.Goals as goal

pub returns : goal.returns
returns c =
    let none : Ticks = record { 0 = 0 } in
    ap (λ (t : Ticks). t.0) (c.unwrap_or.ensures ∙ ap (λ o. unwrap_or o none) c.get.ensures) ∙ price-lent c.args.self.now c.args.place none refl
