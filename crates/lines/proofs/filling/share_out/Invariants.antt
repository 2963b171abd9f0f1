use Rattle.std.proofs.Common.{◌≡◌, ℕ, ◌<◌, get_or}
use Rattle.lines.specs.Fills.{no_fill, filled_on, place_of}
use Rattle.rounds.specs.declared.sides.Side.{Side}
use Rattle.lines.proofs.Shared.{shared_to}
use Rattle.lines.proofs.filling.share_out.Given as goal

abbrev pub invariant-loop-row : goal.invariant-loop-row
invariant-loop-row g l = (l.place ≡ place_of l.rows l.row) × ((side : Side) (k : ℕ) → k < 256 → filled_on side (get_or l.fills k no_fill) ≡ shared_to side l.taker (g.P.SharingPolicy.share l.policy l.members l.excess.0) l.rows l.initial.fills l.row k)
