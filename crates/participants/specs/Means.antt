-- Means to the nearest whole number, and the mean of the quotes.
use Rattle.std.specs.Prelude.{◌≡◌, ℕ, ◌+◌, ◌-◌, ◌*◌, ◌/◌, ◌%◌, ◌^◌, ◌<◌, ◌≤◌, min, max, Bool, cond, ◌&&◌, List, [], ◌∷◌, length, Some, None, fold, sum_by, Option, ◌==◌, nat_le, nat_lt, slice_index}
use Rattle.measures.specs.declared.Ticks.{Ticks}
use Rattle.participants.specs.declared.tally.Tally.{Tally}

-- a mean to the nearest whole number, a half up; 0 of nothing
abbrev pub nearest : ℕ → ℕ → ℕ
nearest sum count = cond (count == 0) 0 (cond (nat_lt (2 * (sum % count)) count) (sum / count) (sum / count + 1))

-- a number is nearest to a mean: it is at most a half above it, and less than a half below
abbrev pub Nearest : ℕ → ℕ → ℕ → Type 0
Nearest sum count r = (2 * (r * count) ≤ 2 * sum + count) × (2 * sum < 2 * (r * count) + count)

-- what is kept of the quotes that were named: sum, count, highest and lowest
abbrev pub no_quotes : Tally
no_quotes = record { sum = 0; count = 0; highest = 0; lowest = 2 ^ 32 - 1 }

abbrev pub noted : Tally → Option Ticks → Tally
noted t None = t
noted t (Some p) = record { sum = t.sum + p.0; count = t.count + 1; highest = max t.highest p.0; lowest = min t.lowest p.0 }

abbrev pub tallied : List (Option Ticks) → Tally
tallied qs = fold noted no_quotes qs

-- the prices that were named
abbrev pub onto : Option Ticks → List ℕ → List ℕ
onto None ps = ps
onto (Some p) ps = p.0 ∷ ps

abbrev pub named : List (Option Ticks) → List ℕ
named [] = []
named (q ∷ qs) = onto q (named qs)

-- a tally of prices has their sum and count, and of those prices a highest and a lowest
pub record Tallies (ps : List ℕ) (t : Tally) : Type 0 where
  pub sum : t.sum ≡ sum_by (λ p. p) ps
  pub count : t.count ≡ length ps
  pub above : (k : ℕ) → k < length ps → slice_index ps k ≤ t.highest
  pub below : (k : ℕ) → k < length ps → t.lowest ≤ slice_index ps k
  pub highest : 1 ≤ length ps → (k : ℕ) × ((k < length ps) × (slice_index ps k ≡ t.highest))
  pub lowest : 1 ≤ length ps → (k : ℕ) × ((k < length ps) × (slice_index ps k ≡ t.lowest))

-- the quotes decide when at least half the quoting seats named one, and at least three did
abbrev pub decides : ℕ → Tally → Bool
decides seats t = nat_le seats (2 * t.count) && nat_le 3 t.count

-- one highest and one lowest are discarded, and the rest averaged
abbrev pub trimmed_mean : Tally → ℕ
trimmed_mean t = nearest ((t.sum - t.highest) - t.lowest) (t.count - 2)

abbrev pub from_quotes : ℕ → List (Option Ticks) → Option Ticks
from_quotes seats qs = cond (decides seats (tallied qs)) (Some (record { 0 = trimmed_mean (tallied qs) })) None
