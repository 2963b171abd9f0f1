-- Who takes part, and as what.
use Rattle.std.specs.Prelude.{ℕ, Bool, true, false, cond, List, Some, None, count_by, Option, ◌==◌}
use Rattle.participants.specs.declared.kinds.Kind.{Kind}
use Rattle.participants.specs.declared.kinds.Kind.TheVariants.{FixingMember, ReferencePriceMember, OtherMember, Customer}
use Rattle.participants.specs.declared.rows.Listed.{Listed}
use Rattle.participants.specs.declared.rows.Participant.{Participant}

-- what stands past the end of a roster: a participant of no kind
abbrev pub unlisted : Listed
unlisted = record { kind = 0; carrier = 0 }

abbrev pub nobody : Participant
nobody = record { kind = Customer; carrier = 0 }

-- the kind that a number names
abbrev pub kind_of : ℕ → Option Kind
kind_of n = cond (n == 1) (Some FixingMember) (cond (n == 2) (Some ReferencePriceMember) (cond (n == 3) (Some OtherMember) (cond (n == 4) (Some Customer) None)))

abbrev pub is_fixing : Kind → Bool
is_fixing FixingMember = true
is_fixing ReferencePriceMember = false
is_fixing OtherMember = false
is_fixing Customer = false

-- the seats that quote reference prices
abbrev pub is_seat : Kind → Bool
is_seat FixingMember = true
is_seat ReferencePriceMember = true
is_seat OtherMember = false
is_seat Customer = false

abbrev pub member_count : List Participant → ℕ
member_count rows = count_by (λ p. is_fixing p.kind) rows

abbrev pub seat_count : List Participant → ℕ
seat_count rows = count_by (λ p. is_seat p.kind) rows
