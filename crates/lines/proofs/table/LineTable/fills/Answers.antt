use Rattle.std.proofs.Common.{◌≡◌, ℕ, true, List, length, take, sym, ap, ◌∙◌, subst, arith, rules}
use Rattle.rounds.specs.Sides.{other}
use Rattle.sharing.specs.Shares.{in_bounds, below}
use Rattle.lines.specs.Entries.{lines_of}
use Rattle.lines.specs.Fills.{shares_of, fills_of, Level}
use Rattle.lines.specs.Lines.{lawful, lots_on, of_row, imbalance, excess}
use Rattle.participants.specs.Participants.{member_count}
use Rattle.participants.specs.Rosters.{rows_of}
use Rattle.lines.specs.declared.fills.Fill.{Fill}
use Rattle.lines.specs.declared.line.Line.{Line}
use Rattle.participants.specs.declared.rows.Participant.{Participant}
use Rattle.lines.proofs.Levels.{sheet-level, shared-out, in_bounds_lem}
use Rattle.lines.proofs.Owed.{row-le}
use Rattle.lines.proofs.Shared.{fills-from}
use Rattle.lines.proofs.Totals.{lawful-wider, lots-all}
use Rattle.lines.proofs.table.LineTable.fills.Goals as goal

pub fill_lines-fills-requires : goal.fill_lines-fills-requires
fill_lines-fills-requires g c = search (rules, lawful-wider)

pub share_out-requires : goal.share_out-requires
share_out-requires g c =
    let ls : List Line = lines_of c.args.self.now in
    let sound : lawful 256 ls ≡ true = search (rules, lawful-wider) in
    record {
      few = search rules;
      room = search rules;
      excess = search rules;
      stood = λ side k h. omega (arith, c.fill_lines-fills.ensures side k h, ap (λ (x : List Line). of_row (lots_on side) x k) c.as_slice.ensures.value, row-le (lots_on side) 40000 ls k (lots-all 256 side ls sound));
    }

pub returns : goal.returns
returns g c =
    let ls : List Line = lines_of c.args.self.now in
    let rows : List Participant = rows_of c.args.participants.now in
    let n : ℕ = c.args.self.now.rows in
    let share : ℕ → ℕ = shares_of g.P.SharingPolicy.share c.args.policy.now rows ls in
    let wide : lawful 256 ls ≡ true = search (rules, lawful-wider) in
    let within : in_bounds (member_count rows) (imbalance ls) ≡ true = in_bounds_lem (member_count rows) (imbalance ls) (omega (arith, c.members.ensures.value)) (omega (arith, c.members.ensures.value)) (omega (arith, c.imbalance.ensures.value)) in
    let whole : below (member_count rows) share ≡ imbalance ls = g.met.P.SharingPolicy.whole c.args.policy.now (member_count rows) (imbalance ls) within in
    let taker : c.other.result ≡ other (excess ls) = c.other.ensures ∙ ap other c.excess.ensures in
    let sheet : c.share_out.new.fills ≡ fills_of share rows ls =
    fills-from g.P.SharingPolicy.share c.args.policy.now rows c.rows.result.now ls c.as_slice.result.now c.members.result c.imbalance.result.0 c.other.result c.fill_lines-fills.result c.share_out.new.fills
    c.as_slice.ensures.value c.rows.ensures.value c.members.ensures.value c.imbalance.ensures.value taker (search rules) c.fill_lines-fills.ensures c.share_out.ensures in
    record {
      value = sheet;
      shared = shared-out share rows (imbalance ls) whole (λ i j a b. g.met.P.SharingPolicy.level c.args.policy.now (member_count rows) (imbalance ls) i j within a b);
      level = λ tied. subst (λ (fs : List Fill). Level (take (length rows) fs)) (sym sheet)
          (sheet-level (length rows) share rows ls (omega (arith, ap length c.rows.ensures.value, c.rows.ensures.few)) (omega arith) (subst (λ m. lawful m ls ≡ true) tied c.args.self.now.sound) whole);
    }
