use Rattle.std.proofs.Common.{◌≡◌, ℕ, ◌+◌, ◌<◌, true, false, cond, List, length, get_or, take, sym, refl, ap, ◌∙◌, arith, length-take}
use Rattle.std.proofs.lemmas.List.{get_or_default}
use Rattle.std.proofs.lemmas.List.Sums.{count_by-le-length, count_by_more_yes, count_by_more_no}
use Rattle.rounds.specs.Sides.{same_side}
use Rattle.participants.specs.Participants.{nobody, is_fixing}
use Rattle.lines.specs.Fills.{no_fill, filled_on}
use Rattle.lines.specs.declared.fills.Fill.{Fill}
use Rattle.rounds.specs.declared.sides.Side.TheVariants.{Buy, Sell}
use Rattle.participants.specs.declared.rows.Participant.{Participant}
use Rattle.lines.proofs.Shared.{share-le, shared-none, shared-here, shared-more, shared-skip, shared-all, filled_more}
use Rattle.lines.proofs.filling.share_out.Goals as goal
use Rattle.lines.proofs.filling.share_out.Goals.{then-is_fixing, else-is_fixing}

pub with-requires : goal.with-requires
with-requires g c =
    let share : ℕ → ℕ = g.P.SharingPolicy.share c.args.policy.now c.args.members c.args.excess.0 in
    let w : c.loop-row.row < 256 = omega arith in
    record {
      bought = omega (arith, c.loop-row.invariant.1 Buy c.loop-row.row w, shared-here Buy c.args.taker share c.args.rows.now c.args.fills.now c.loop-row.row, c.requires.stood Buy c.loop-row.row w);
      sold = omega (arith, c.loop-row.invariant.1 Sell c.loop-row.row w, shared-here Sell c.args.taker share c.args.rows.now c.args.fills.now c.loop-row.row, c.requires.stood Sell c.loop-row.row w);
      lots = omega (
        arith,
        c.share_of.ensures,
        share-le share c.args.members c.args.excess.0 c.loop-row.place
            (g.met.P.SharingPolicy.whole c.args.policy.now c.args.members c.args.excess.0)
            (g.met.P.SharingPolicy.outside c.args.policy.now c.args.members c.args.excess.0 c.loop-row.place)
            (g.met.P.SharingPolicy.beyond c.args.policy.now c.args.members c.args.excess.0 c.loop-row.place),
      );
    }

pub overflow_add-place : goal.overflow_add-place
overflow_add-place g c = omega (arith, c.loop-row.invariant.0, count_by-le-length (λ (p : Participant). is_fixing p.kind) (take c.loop-row.row c.args.rows.now), length-take c.loop-row.row c.args.rows.now)

pub loop-row-init : goal.loop-row-init
loop-row-init g c = (refl, λ side k h. shared-none side c.args.taker (g.P.SharingPolicy.share c.args.policy.now c.args.members c.args.excess.0) c.args.rows.now c.args.fills.now k)

pub loop-row-preserved : goal.loop-row-preserved
loop-row-preserved g c =
    let share : ℕ → ℕ = g.P.SharingPolicy.share c.args.policy.now c.args.members c.args.excess.0 in
    let rows : List Participant = c.args.rows.now in
    let row : ℕ = c.loop-row.row in
    let lt : row < length rows = omega arith in
    let room : row < length c.loop-row.fills = omega arith in
    let kind : (d : Participant) → is_fixing (get_or rows row d).kind ≡ is_fixing (get_or rows row nobody).kind = λ d. ap (λ (p : Participant). is_fixing p.kind) (get_or_default rows row d nobody lt) in
    elim c.if-is_fixing.branch [
      | then-is_fixing w ↦
          let yes : is_fixing (get_or rows row nobody).kind ≡ true = sym (kind _) ∙ sym w.if-is_fixing.ensures in (
            w.place-is ∙ omega (arith, c.loop-row.invariant.0, count_by_more_yes (λ (p : Participant). is_fixing p.kind) rows row nobody lt yes),
            λ side k h. ap (λ (fs : List Fill). filled_on side (get_or fs k no_fill)) w.fills-is
                ∙ shared-more side c.args.taker share rows c.args.fills.now c.loop-row.fills row w.with.result room yes
                (ap (filled_on side) w.with.ensures ∙ filled_more side c.args.taker (get_or c.loop-row.fills row no_fill) w.share_of.result.0 ∙ ap (λ n. filled_on side (get_or c.loop-row.fills row no_fill) + cond (same_side c.args.taker side) n 0) (w.share_of.ensures ∙ ap share c.loop-row.invariant.0))
                (c.loop-row.invariant.1 side) k h,
          )
      | else-is_fixing w ↦
          let no : is_fixing (get_or rows row nobody).kind ≡ false = sym (kind _) ∙ sym w.if-is_fixing.ensures in (
            w.place-is ∙ omega (arith, c.loop-row.invariant.0, count_by_more_no (λ (p : Participant). is_fixing p.kind) rows row nobody lt no),
            λ side k h. ap (λ (fs : List Fill). filled_on side (get_or fs k no_fill)) w.fills-is ∙ shared-skip side c.args.taker share rows c.args.fills.now c.loop-row.fills row no (c.loop-row.invariant.1 side) k h,
          )
    ]

pub returns : goal.returns
returns g c = λ side k h. c.loop-row.invariant.1 side k h ∙ shared-all side c.args.taker (g.P.SharingPolicy.share c.args.policy.now c.args.members c.args.excess.0) c.args.rows.now c.args.fills.now c.loop-row.row k (omega arith)
