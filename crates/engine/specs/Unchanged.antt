-- What a refusal leaves.
use Rattle.books.specs.Accounts.{Accounts}
use Rattle.session.specs.State as session
use Rattle.engine.specs.declared.engine.Engine.{Engine}

-- the session and the accounts of the book are as before, by what the book means
abbrev pub Unchanged : {C P B : Type 0} → (B → Accounts) → Engine C P B → Engine C P B → Type 0
Unchanged means before now = session.Unchanged means before.session now.session before.book now.book
