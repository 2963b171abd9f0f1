use Rattle.messages.specs.Prices.{prices_of}
use Rattle.messages.specs.Rows.{rows_of}
use Rattle.messages.proofs.Stamps.{counted-prices, counted-opened}
use Rattle.messages.proofs.writing.put_call.Goals as goal

pub put-requires : goal.put-requires
put-requires c = counted-prices (prices_of c.in-Begin.prices)

pub put-requires-in-Open : goal.put-requires-in-Open
put-requires-in-Open c =
    counted-opened c.in-Open.metal c.from.result 0 c.in-Open.time c.in-Open.price.0 (rows_of c.in-Open.rows) c.from.ensures
