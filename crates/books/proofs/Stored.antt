use Rattle.std.proofs.Common.{◌≡◌, ℕ, ◌+◌, ◌-◌, ◌≤◌, Some, arith}
use mathlib.Core.Path.{fun_ext}
use Rattle.std.proofs.lemmas.Bool.Decides.{nat_tests}
use Rattle.books.specs.declared.balance.Balance.{Balance}
use Rattle.books.specs.Accounts.{Accounts, replaced_at, frozen_at, released_at}

-- to freeze is to put a balance at the one account
pub replaced-frozen : (m : Accounts) (i n : ℕ) (b s : Balance) → m i ≡ Some b → n ≤ b.free.0 → s.free.0 ≡ b.free.0 - n → s.frozen.0 ≡ b.frozen.0 + n → replaced_at m i (Some s) ≡ frozen_at m i n
replaced-frozen m i n b s h k l r = fun_ext (λ a. grind (arith, nat_tests))

pub replaced-released : (m : Accounts) (i n : ℕ) (b s : Balance) → m i ≡ Some b → n ≤ b.frozen.0 → s.frozen.0 ≡ b.frozen.0 - n → s.free.0 ≡ b.free.0 + n → replaced_at m i (Some s) ≡ released_at m i n
replaced-released m i n b s h k l r = fun_ext (λ a. grind (arith, nat_tests))
