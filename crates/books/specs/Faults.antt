use Rattle.std.specs.Prelude.{ℕ}
use Rattle.books.specs.declared.faults.BookFault.{BookFault}
use Rattle.books.specs.declared.faults.BookFault.TheVariants.{Unknown, Short}

-- the number of a refusal
abbrev pub number_of : BookFault → ℕ
number_of Unknown = 31
number_of Short = 32
