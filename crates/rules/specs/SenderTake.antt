-- A sender takes an ACK.
use Rattle.std.specs.Prelude.{ℕ, Bool, true, false, cond, ◌&&◌, List, [], ◌∷◌, is_some, Some, None, Ok, Err, Option, Result, ◌==◌, nat_lt, slice_index_or, slice_set}
use Rattle.std.specs.Option.{option_or}
use Rattle.protocol.specs.Causes.{Cause}
use Rattle.pdu.specs.declared.Accepts.TheVariants.{Sender}
use Rattle.pdu.specs.Read.{read_of}
use Rattle.pdu.specs.Said.{Ack, Entry, Said, said_data, said_address, said_discard, said_ack}
use Rattle.parts.specs.Numbers.{none, set_of}
use Rattle.parts.specs.Places.{first_place}
use Rattle.rules.specs.declared.answers.Standing.TheVariants.{Complete}
use Rattle.rules.specs.declared.answers.Taken.{Taken}
use Rattle.rules.specs.declared.answers.Taken.TheVariants.{Noted, PassedOver}
use Rattle.rules.specs.declared.sender.Destination.{Destination}
use Rattle.rules.specs.declared.sender.Message.{Message}
use Rattle.rules.specs.declared.sender.SenderRow.{SenderRow}
use Rattle.rules.specs.declared.sender.SenderRow.TheVariants.{Vacant, Draft, Sending, Waiting, Ending, Closing, Ended}
use Rattle.rules.specs.declared.sender.SenderTable.{SenderTable}
use Rattle.rules.specs.Lists.{any_of, all_of}
use Rattle.rules.specs.Marks.{marked}
use Rattle.rules.specs.Outcomes.{Outcome, refuse, accept}
use Rattle.rules.specs.Refusals.{by_wire, against}
use Rattle.rules.specs.SenderState.{SenderModel, with_roster, with_rows, with_table, place_of, switched_at, underway, destinations_of, with_each, with_standing, is_complete_at, names}

-- whether this is the message of an identity, with that destination
abbrev pub is_for : (sender identity : ℕ) → Option Message → Bool
is_for sender identity None = false
is_for sender identity (Some m) = m.identity == identity && any_of (names sender) (destinations_of m)

-- The row for which an entry counts: its Source_ID is ours, the row is underway, the ACK's sender is its destination.
unfoldable pub counted_row : SenderTable → (sender : ℕ) → Entry → Option ℕ
counted_row t sender e =
    cond (e.source == t.source) (first_place (λ row. is_for sender e.message (underway row)) t.rows) None

-- the total of a message, if there is one
abbrev pub total_of : Option Message → ℕ
total_of None = 0
total_of (Some m) = m.total

-- whether an entry that counts for a row lists a number above its total
abbrev pub over_total : SenderTable → Entry → Option ℕ → Option ℕ
over_total t e None = None
over_total t e (Some i) = cond (any_of (nat_lt (total_of (underway (slice_index_or t.rows i Vacant)))) e.numbers) (Some i) None

-- A whole ACK is checked before it acts: the row of the first entry that counts and lists a number above the total.
unfoldable pub over_row : SenderTable → (sender : ℕ) → List Entry → Option ℕ
over_row t sender [] = None
over_row t sender (e ∷ es) = option_or (over_total t e (counted_row t sender e)) (over_row t sender es)

-- An empty list makes a destination complete for good, none missing. Otherwise what is missing is marked by the list,
-- unless the destination is complete.
unfoldable pub heard_at : (total : ℕ) → List ℕ → Destination → Destination
heard_at total [] d = with_standing Complete (set_of none) d
heard_at total (n ∷ ns) d = cond (is_complete_at d) d (with_standing d.standing (marked d.missing total (n ∷ ns)) d)

-- A list is for the destination that sent it.
unfoldable pub heard : (sender : ℕ) → List ℕ → Message → Message
heard sender ns m = with_each (λ d. cond (names sender d) (heard_at m.total ns d) d) m

-- When all are complete the row is ending: Address due, no Data due.
abbrev pub ending_if_complete : Message → SenderRow → SenderRow
ending_if_complete m row = cond (all_of is_complete_at (destinations_of m)) (Ending m None true) row

-- a row after an entry that counts for it
unfoldable pub row_heard : (sender : ℕ) → List ℕ → SenderRow → SenderRow
row_heard sender ns Vacant = Vacant
row_heard sender ns (Draft i n) = Draft i n
row_heard sender ns (Sending m address due wait rounds) = ending_if_complete (heard sender ns m) (Sending (heard sender ns m) address due wait rounds)
row_heard sender ns (Waiting m deadline wait rounds) = ending_if_complete (heard sender ns m) (Waiting (heard sender ns m) deadline wait rounds)
row_heard sender ns (Ending m deadline counted) = Ending (heard sender ns m) deadline true
row_heard sender ns (Closing m) = Closing m
row_heard sender ns (Ended m) = Ended m

-- the table after an entry, which counts for this row or for none
abbrev pub table_heard : SenderTable → (sender : ℕ) → List ℕ → Option ℕ → SenderTable
table_heard t sender ns None = t
table_heard t sender ns (Some i) = with_rows t (slice_set t.rows i (row_heard sender ns (slice_index_or t.rows i Vacant)))

-- entry by entry; those that do not count are passed over
unfoldable pub all_heard : SenderTable → (sender : ℕ) → List Entry → SenderTable
all_heard t sender [] = t
all_heard t sender (e ∷ es) = all_heard (table_heard t sender e.numbers (counted_row t sender e)) sender es

-- An enrolled ACK sender becomes answering, whether an entry counts or not.
abbrev pub answers : SenderTable → (sender : ℕ) → SenderTable
answers t sender = with_roster t (switched_at t.roster true (place_of t.roster sender))

-- An ACK with an entry that counts is noted, any other passed over.
abbrev pub noted_if : Bool → Taken
noted_if counts = cond counts Noted PassedOver

-- An ACK that is against a row is refused whole. Else its sender is answering, and each entry acts.
abbrev pub take_ack : SenderModel → Ack → Option ℕ → Outcome SenderModel Taken
take_ack s ack (Some i) = refuse s (against i)
take_ack s ack None =
    accept (with_table s (all_heard (answers s.table ack.sender) ack.sender ack.entries))
    (noted_if (any_of (λ e. is_some (counted_row s.table ack.sender e)) ack.entries))

-- What could not be read is refused as the wire refuses it. A sender reads nothing but ACKs.
abbrev pub take_read : SenderModel → Result Said Cause → Outcome SenderModel Taken
take_read s (Err c) = refuse s (by_wire c)
take_read s (Ok (said_ack ack)) = take_ack s ack (over_row s.table ack.sender ack.entries)
take_read s (Ok (said_data d)) = accept s PassedOver
take_read s (Ok (said_address a)) = accept s PassedOver
take_read s (Ok (said_discard d)) = accept s PassedOver

-- Take reads an ACK.
unfoldable pub sender_take : SenderModel → List ℕ → Outcome SenderModel Taken
sender_take s octets = take_read s (read_of Sender octets)
