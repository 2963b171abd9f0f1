use Rattle.std.proofs.Common.{◌∙◌, rules}
use Rattle.books.proofs.Stored.{replaced-frozen}
use Rattle.books.proofs.record_book.RecordBookMarginBook.freeze.Goals as goal

pub returns-clause-after : goal.returns-clause-after
returns-clause-after g c = c.store.ensures ∙ search (rules, replaced-frozen)
