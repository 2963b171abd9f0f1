use Rattle.std.specs.Prelude.{ℕ, cond, leb}

-- how many ticks the price of gold moves at an imbalance in lots
abbrev pub shau_step : ℕ → ℕ
shau_step n = cond (leb n 400) 0 (cond (leb n 3499) 10 (cond (leb n 5999) 20 (cond (leb n 9999) 30 40)))

-- and the price of silver
abbrev pub shag_step : ℕ → ℕ
shag_step n = cond (leb n 600) 0 (cond (leb n 2999) 2 (cond (leb n 4999) 4 (cond (leb n 7999) 8 16)))
