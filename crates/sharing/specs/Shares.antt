use Rattle.std.specs.Prelude.{ℕ, zero, suc, ◌+◌, ◌-◌, ◌/◌, ◌%◌, Bool, cond, ◌&&◌, nat_le, nat_lt}
use Rattle.sharing.specs.declared.by_turn.ByTurn.{ByTurn}

-- 1 to 32 members share 0 to 163,840,000 lots: what 4,096 lines of 40,000 lots hold
abbrev pub in_bounds : ℕ → ℕ → Bool
in_bounds n q = nat_le 1 n && (nat_le n 32 && nat_le q 163840000)

-- the sum of f over the places below n
abbrev pub below : ℕ → (ℕ → ℕ) → ℕ
below zero f = 0
below (suc n) f = below n f + f n

-- every place has q / n lots, and the places that are marked one lot more
abbrev pub shared_out : (ℕ → Bool) → ℕ → ℕ → ℕ → ℕ
shared_out extra n q i = cond (in_bounds n q && nat_lt i n) (q / n + cond (extra i) 1 0) 0

-- in table order the first places have the q mod n extra lots
abbrev pub table_extra : ℕ → ℕ → ℕ → Bool
table_extra n q i = nat_lt i (q % n)

abbrev pub table_share : ℕ → ℕ → ℕ → ℕ
table_share n q = shared_out (table_extra n q) n q

-- the place where a turn starts: one that cannot be a place counts as the first
abbrev pub start_of : ℕ → ℕ
start_of s = cond (nat_lt s 32) s 0

-- by turn the q mod n extra lots go to the start and the places after it, around the table
abbrev pub turn_extra : ℕ → ℕ → ℕ → ℕ → Bool
turn_extra s n q i = nat_lt ((i + n - start_of s % n) % n) (q % n)

abbrev pub turn_share : ℕ → ℕ → ℕ → ℕ → ℕ
turn_share s n q = shared_out (turn_extra s n q) n q

-- the next turn starts after the last extra lot
abbrev pub turn_told : ByTurn → ℕ → ℕ → ByTurn
turn_told t n q = cond (in_bounds n q) (record { start = (start_of t.start % n + q % n) % n }) t
