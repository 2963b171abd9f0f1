-- How a list of participants becomes a table.
use Rattle.std.specs.Prelude.{ℕ, zero, suc, Bool, true, false, cond, ◌||◌, List, map, length, get_or, is_some, Some, None, Ok, Err, vec_items, Option, Result, ◌==◌, nat_le, nat_lt, slice_index_or}
use Rattle.std.specs.List.{range_with_len}
use Rattle.std.specs.Option.{unwrap_or}
use Rattle.rounds.specs.Gates.{Check, then_ok}
use Rattle.rounds.specs.declared.faults.SessionFault.{SessionFault}
use Rattle.rounds.specs.declared.faults.SessionFault.TheVariants.{Row, Participant as FaultyRow, Participants as FaultyTable}
use Rattle.participants.specs.Participants.{unlisted, nobody, kind_of, member_count}
use Rattle.participants.specs.declared.kinds.Kind.{Kind}
use Rattle.participants.specs.declared.kinds.Kind.TheVariants.{FixingMember, ReferencePriceMember, OtherMember, Customer}
use Rattle.participants.specs.declared.table.Participants.{Participants}
use Rattle.participants.specs.declared.rows.Listed.{Listed}
use Rattle.participants.specs.declared.rows.Participant.{Participant}

-- the rows of a participant table
abbrev pub rows_of : Participants → List Participant
rows_of p = vec_items p.rows

abbrev pub is_member : Option Kind → Bool
is_member None = false
is_member (Some FixingMember) = true
is_member (Some ReferencePriceMember) = true
is_member (Some OtherMember) = true
is_member (Some Customer) = false

-- a customer is carried by a member, and a member by itself
abbrev pub carried : List Listed → ℕ → Listed → Kind → Bool
carried ls row l FixingMember = l.carrier == row
carried ls row l ReferencePriceMember = l.carrier == row
carried ls row l OtherMember = l.carrier == row
carried ls row l Customer = is_member (kind_of (get_or ls l.carrier unlisted).kind)

abbrev pub as_kind : List Listed → ℕ → Listed → Option Kind → Option Participant
as_kind ls row l None = None
as_kind ls row l (Some k) = cond (carried ls row l k) (Some (record { kind = k; carrier = l.carrier })) None

-- the participant of a row, if nothing is wrong with it
abbrev pub participant_of : List Listed → ℕ → Option Participant
participant_of ls row = as_kind ls row (slice_index_or ls row unlisted) (kind_of (get_or ls row unlisted).kind)

abbrev pub row_fits : List Listed → ℕ → Check
row_fits ls row = cond (is_some (participant_of ls row)) (Ok tt) (Err (FaultyRow row))

-- the first of n rows that something is wrong with
abbrev pub rows_fit : List Listed → ℕ → Check
rows_fit ls zero = Ok tt
rows_fit ls (suc n) = then_ok (rows_fit ls n) (row_fits ls n)

abbrev pub participant_at : List Listed → ℕ → Participant
participant_at ls row = unwrap_or (participant_of ls row) nobody

-- the first n participants of a roster
abbrev pub copied : List Listed → ℕ → List Participant
copied ls n = map (participant_at ls) (range_with_len 0 n)

-- all of them
abbrev pub enrolled : List Listed → List Participant
enrolled ls = copied ls (length ls)

-- 1 to 256 rows, of which 1 to 32 are Fixing Members
abbrev pub counts_fit : List Listed → Check
counts_fit ls =
    cond (nat_lt (length ls) 1 || nat_lt 256 (length ls)) (Err FaultyTable)
    (cond (nat_lt (member_count (enrolled ls)) 1 || nat_lt 32 (member_count (enrolled ls))) (Err FaultyTable)
    (Ok tt))

-- the first row at fault, else the table as a whole
abbrev pub roster_check : List Listed → Check
roster_check ls = then_ok (rows_fit ls (length ls)) (counts_fit ls)

-- the kind of a row that there is
abbrev pub kind_at : List Participant → ℕ → Result Kind SessionFault
kind_at rows row = cond (nat_le (length rows) row) (Err Row) (Ok (get_or rows row nobody).kind)
