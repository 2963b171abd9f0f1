use Rattle.std.specs.Prelude.{ℕ, ◌+◌, ◌-◌, ◌*◌, ◌^◌, cond, Some, None, Option, nat_lt}
use Rattle.measures.specs.declared.Fen.{Fen}

-- how far two numbers are apart
abbrev pub apart : ℕ → ℕ → ℕ
apart m n = (m - n) + (n - m)

-- the money of lots at a price in ticks, at so many fen for each tick of each lot
abbrev pub amount : ℕ → ℕ → ℕ → ℕ
amount figure lots price = figure * (lots * price)

-- a sum of money, if 64 bits hold it
abbrev pub fitting : ℕ → Option Fen
fitting n = cond (nat_lt n (2 ^ 64)) (Some (record { 0 = n })) None
