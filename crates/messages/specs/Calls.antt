use Rattle.std.specs.Prelude.{ℕ, List}
use Rattle.messages.specs.declared.calls.Call.{Call}
use Rattle.messages.specs.declared.calls.Call.TheVariants.{Quote, Begin, Buy, Sell, Reduce, Close, Suspend, Reissue, Announce, Open}
use Rattle.messages.specs.declared.calls.Metal.{Metal}
use Rattle.messages.specs.declared.rows.OpenRow.{OpenRow}
use Rattle.messages.specs.Prices.{prices_of}
use Rattle.messages.specs.Rows.{rows_of}

-- what a call says: its figures, wherever they lie in memory
pub data Said : Type 0 where
  quote : (time row price : ℕ) → Said
  begin : (time : ℕ) (prices : List ℕ) → Said
  buy : (time row lots : ℕ) → Said
  sell : (time row lots : ℕ) → Said
  reduce : (time row line lots : ℕ) → Said
  close : (time : ℕ) → Said
  suspend : (time : ℕ) → Said
  reissue : (time price : ℕ) → Said
  announce : (time price : ℕ) → Said
  opened : (metal : Metal) (time price : ℕ) (rows : List OpenRow) → Said

abbrev pub said : Call → Said
said (Quote time row price) = quote time row price.0
said (Begin time prices) = begin time (prices_of prices)
said (Buy time row lots) = buy time row lots.0
said (Sell time row lots) = sell time row lots.0
said (Reduce time row line lots) = reduce time row line lots.0
said (Close time) = close time
said (Suspend time) = suspend time
said (Reissue time price) = reissue time price.0
said (Announce time price) = announce time price.0
said (Open time metal price rows) = opened metal time price.0 (rows_of rows)

-- when a call is made
abbrev pub time_of : Said → ℕ
time_of (quote time row price) = time
time_of (begin time prices) = time
time_of (buy time row lots) = time
time_of (sell time row lots) = time
time_of (reduce time row line lots) = time
time_of (close time) = time
time_of (suspend time) = time
time_of (reissue time price) = time
time_of (announce time price) = time
time_of (opened metal time price rows) = time
