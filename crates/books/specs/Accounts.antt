-- What freezing and releasing mean, for every book.
use Rattle.std.specs.Prelude.{◌≡◌, ℕ, ◌+◌, ◌-◌, ◌*◌, ◌^◌, ◌≤◌, cond, Some, None, Ok, Err, Option, Result, ◌==◌, nat_lt}
use Rattle.books.specs.declared.balance.Balance.{Balance}
use Rattle.books.specs.declared.faults.BookFault.{BookFault}
use Rattle.books.specs.declared.faults.BookFault.TheVariants.{Unknown, Short}

-- a book means a balance for each account, or nothing for an unknown one
abbrev pub Accounts : Type 0
Accounts = ℕ → Option Balance

abbrev pub balanced : ℕ → ℕ → Balance
balanced free frozen = record { free = record { 0 = free }; frozen = record { 0 = frozen } }

-- the most that an account holds, free and frozen together
abbrev pub most_held : ℕ
most_held = 4 * 10 ^ 18

abbrev pub Within : Option Balance → Type 0
Within None = Unit {0}
Within (Some b) = b.free.0 + b.frozen.0 ≤ most_held

-- an account holds as much as a balance, free and frozen together
abbrev pub SameSum : Option Balance → Balance → Type 0
SameSum None s = ⊥
SameSum (Some b) s = b.free.0 + b.frozen.0 ≡ s.free.0 + s.frozen.0

-- freezing is refused exactly when the account is unknown or has too little free
abbrev pub freezing : Option Balance → ℕ → Result (Unit {0}) BookFault
freezing None n = Err Unknown
freezing (Some b) n = cond (nat_lt b.free.0 n) (Err Short) (Ok tt)

-- releasing, when the account is unknown or has too little frozen
abbrev pub releasing : Option Balance → ℕ → Result (Unit {0}) BookFault
releasing None n = Err Unknown
releasing (Some b) n = cond (nat_lt b.frozen.0 n) (Err Short) (Ok tt)

-- a balance after a request to freeze: the amount has passed from free to frozen, unless it was refused
abbrev pub frozen_of : Option Balance → ℕ → Option Balance
frozen_of None n = None
frozen_of (Some b) n = cond (nat_lt b.free.0 n) (Some b) (Some (balanced (b.free.0 - n) (b.frozen.0 + n)))

abbrev pub released_of : Option Balance → ℕ → Option Balance
released_of None n = None
released_of (Some b) n = cond (nat_lt b.frozen.0 n) (Some b) (Some (balanced (b.free.0 + n) (b.frozen.0 - n)))

-- the accounts after a request to freeze; no other account changes
abbrev pub frozen_at : Accounts → ℕ → ℕ → Accounts
frozen_at m account n a = cond (a == account) (frozen_of (m a) n) (m a)

abbrev pub released_at : Accounts → ℕ → ℕ → Accounts
released_at m account n a = cond (a == account) (released_of (m a) n) (m a)

-- the accounts with another balance for one of them
abbrev pub replaced_at : Accounts → ℕ → Option Balance → Accounts
replaced_at m account b a = cond (a == account) b (m a)
