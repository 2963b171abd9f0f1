-- What a fix gives each row.
use Rattle.std.specs.Prelude.{◌≡◌, ℕ, ◌+◌, ◌≤◌, true, cond, List, map, length, take, sum_by, slice_index_or}
use Rattle.std.specs.List.{range_with_len}
use Rattle.rounds.specs.Sides.{same_side, other}
use Rattle.rounds.specs.declared.sides.Side.{Side}
use Rattle.rounds.specs.declared.sides.Side.TheVariants.{Buy, Sell}
use Rattle.sharing.specs.Shares.{below}
use Rattle.lines.specs.Lines.{lots_on, of_row, excess, imbalance}
use Rattle.participants.specs.Participants.{nobody, is_fixing, member_count}
use Rattle.lines.specs.declared.fills.Fill.{Fill}
use Rattle.lines.specs.declared.line.Line.{Line}
use Rattle.participants.specs.declared.rows.Participant.{Participant}

abbrev pub no_fill : Fill
no_fill = record { bought = record { 0 = 0 }; sold = record { 0 = 0 } }

-- the lots of a fill on a side
abbrev pub filled_on : Side → Fill → ℕ
filled_on Buy f = f.bought.0
filled_on Sell f = f.sold.0

-- a fill with more lots on a side
abbrev pub filled : Fill → Side → ℕ → Fill
filled f Buy n = record { bought = record { 0 = f.bought.0 + n }; sold = f.sold }
filled f Sell n = record { bought = f.bought; sold = record { 0 = f.sold.0 + n } }

-- the place of a row among the Fixing Members
abbrev pub place_of : List Participant → ℕ → ℕ
place_of rows row = member_count (take row rows)

-- a Fixing Member has the share of its place, and nobody else has one
abbrev pub share_of : (ℕ → ℕ) → List Participant → ℕ → ℕ
share_of share rows row = cond (is_fixing (slice_index_or rows row nobody).kind) (share (place_of rows row)) 0

-- the shares of the places: a policy, as it stands, shares the excess among the Fixing Members
abbrev pub shares_of : {P : Type 0} → (P → ℕ → ℕ → ℕ → ℕ) → P → List Participant → List Line → ℕ → ℕ
shares_of share p rows ls = share p (member_count rows) (imbalance ls)

-- the shares of the rows sum to what is shared, and those of any two Fixing Members differ by one lot at most
pub record Shared (share : ℕ → ℕ) (rows : List Participant) (q : ℕ) : Type 0 where
  pub whole : below (length rows) (share_of share rows) ≡ q
  pub even : (i j : ℕ) → is_fixing (slice_index_or rows i nobody).kind ≡ true → is_fixing (slice_index_or rows j nobody).kind ≡ true → share_of share rows i ≤ share_of share rows j + 1

-- a row's standing lots on a side are filled whole; the excess is shared on the other side
abbrev pub lots_filled : (ℕ → ℕ) → List Participant → List Line → Side → ℕ → ℕ
lots_filled share rows ls side row = of_row (lots_on side) ls row + cond (same_side (other (excess ls)) side) (share_of share rows row) 0

abbrev pub fill_of : (ℕ → ℕ) → List Participant → List Line → ℕ → Fill
fill_of share rows ls row = record { bought = record { 0 = lots_filled share rows ls Buy row }; sold = record { 0 = lots_filled share rows ls Sell row } }

-- a fill for each of 256 rows: one beyond the table has neither lines nor a share
unfoldable pub fills_of : (ℕ → ℕ) → List Participant → List Line → List Fill
fills_of share rows ls = map (fill_of share rows ls) (range_with_len 0 256)

-- all lots of some fills on a side
abbrev pub total_on : Side → List Fill → ℕ
total_on side fs = sum_by (filled_on side) fs

-- as many lots are bought as sold
abbrev pub Level : List Fill → Type 0
Level fs = total_on Buy fs ≡ total_on Sell fs
