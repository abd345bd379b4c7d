-- A receiver takes Data, an Address or a Discard.
use Rattle.std.specs.Prelude.{ℕ, ◌+◌, Bool, false, cond, not, ◌||◌, List, map, replicate, Some, None, Ok, Err, Option, Result, ◌==◌, nat_le, nat_lt}
use Rattle.protocol.specs.Causes.{Cause}
use Rattle.protocol.specs.Limits.{row_count, record_count, last_identity}
use Rattle.protocol.specs.Times.{loose_time}
use Rattle.pdu.specs.declared.Accepts.TheVariants.{Receiver}
use Rattle.pdu.specs.Read.{read_of}
use Rattle.pdu.specs.Said as Said
use Rattle.pdu.specs.Said.{said_data, said_address, said_discard, said_ack}
use Rattle.parts.specs.Numbers.{has, including, none, set_of}
use Rattle.contents.specs.Contents.{empty_store, with_string}
use Rattle.rules.specs.declared.answers.Taken.{Taken}
use Rattle.rules.specs.declared.answers.Taken.TheVariants.{Kept, Again as Repeated, Noted, PassedOver}
use Rattle.rules.specs.declared.receiver.Arrival.{Arrival}
use Rattle.rules.specs.declared.receiver.Arrival.TheVariants.{New, Again, Listed, LeftOut, OtherPart, Discard}
use Rattle.rules.specs.declared.receiver.Label.{Label}
use Rattle.rules.specs.declared.receiver.ReceiverRow.{ReceiverRow}
use Rattle.rules.specs.declared.receiver.ReceiverRow.TheVariants.{Vacant, Loose, Open, Complete}
use Rattle.rules.specs.declared.receiver.ReceiverTable.{ReceiverTable}
use Rattle.rules.specs.Marks.{listed}
use Rattle.rules.specs.Outcomes.{Outcome, refuse, accept, reached}
use Rattle.rules.specs.ReceiverState.{ReceiverModel, row_at, with_row_at, vacated, with_new_row, with_held, record_at, with_record_at, label_of, row_of, record_of, vacant_row}
use Rattle.rules.specs.ReceiverStep.{record_raised, record_cleared, opened, row_step, step_answer}
use Rattle.rules.specs.Refusals.{by_wire, by_store, expired, no_row, against, bad_identity}
use Rattle.rules.specs.Stores.{no_room}

-- == making ==

-- All rows vacant, no records, not silent, the clock at 0.
unfoldable pub new_table : (identity : ℕ) → ReceiverTable
new_table identity = record { identity = identity; silent = false; now = 0; arrival = 0; rows = replicate row_count Vacant; records = replicate record_count None }

-- A new receiver has an empty store, whatever the store it was made with held.
unfoldable pub new_receiver : (identity width limit : ℕ) → ReceiverModel
new_receiver identity width limit = record { table = new_table identity; held = empty_store width limit }

-- == rows ==

-- A row makes its step. One that is vacated frees its store row.
abbrev pub placed : ReceiverModel → (i : ℕ) → Option Label → ReceiverRow → ReceiverModel
placed r i None row = vacated r i
placed r i (Some l) row = with_row_at r i row

abbrev pub stepped : ReceiverModel → (i : ℕ) → Arrival → Outcome ReceiverModel Taken
stepped r i arrival = accept (placed r i (label_of (row_step r.table (row_at r i) arrival)) (row_step r.table (row_at r i) arrival)) (step_answer (row_at r i) arrival)

-- the label of a new row: arrivals are counted from 1
abbrev pub label_for : ReceiverTable → (source identity priority : ℕ) → Label
label_for t source identity priority = record { source = source; identity = identity; priority = priority; arrival = t.arrival + 1 }

-- == Address ==

-- An Address is against a row of another priority, total or expiry; against a loose row that holds a number above its total.
abbrev pub address_against : Said.Address → ReceiverRow → Bool
address_against a Vacant = false
address_against a (Loose l deadline held) = not (a.priority == l.priority) || nat_lt a.total held.top
address_against a (Open l total expiry ack quiet held) =
    not (a.priority == l.priority) || (not (a.total == total) || not (a.expiry == expiry))
address_against a (Complete l total expiry ack) =
    not (a.priority == l.priority) || (not (a.total == total) || not (a.expiry == expiry))

-- whether we are listed
abbrev pub lists_us : ReceiverTable → Said.Address → Bool
lists_us t a = listed (map (λ d. d.destination) a.destinations) t.identity

-- what an Address means to us: we are listed, or left out of the only part, or not in this part
abbrev pub address_arrival : ReceiverTable → Said.Address → Arrival
address_arrival t a = cond (lists_us t a) (Listed a.total a.expiry) (cond (a.part == 0) LeftOut OtherPart)

-- At a row: what is against it is refused first, whether we are listed or not.
abbrev pub address_at_row : ReceiverModel → ℕ → Said.Address → Outcome ReceiverModel Taken
address_at_row r i a = cond (address_against a (row_at r i)) (refuse r (against i)) (stepped r i (address_arrival r.table a))

-- A finished record's ACK is raised if we are listed, and cleared if we are left out of the only part.
abbrev pub address_at_record : ReceiverModel → ℕ → Said.Address → Outcome ReceiverModel Taken
address_at_record r k a =
    cond (lists_us r.table a) (accept (with_record_at r k (record_raised r.table (record_at r k))) Noted)
    (cond (a.part == 0) (accept (with_record_at r k (record_cleared (record_at r k))) Noted)
    (accept r PassedOver))

-- a new row that opens, in the lowest vacant one
abbrev pub open_at : ReceiverModel → Said.Address → Option ℕ → Outcome ReceiverModel Taken
open_at r a None = refuse r no_row
open_at r a (Some i) =
    cond (r.table.arrival == last_identity) (refuse r (bad_identity last_identity))
    (accept (with_new_row r i (opened r.table (label_for r.table a.source a.message a.priority) a.total a.expiry (set_of none))) Noted)

-- Of a message that has neither row nor record: a new row opens if we are listed.
abbrev pub address_at_none : ReceiverModel → Said.Address → Outcome ReceiverModel Taken
address_at_none r a = cond (lists_us r.table a) (open_at r a (vacant_row r.table)) (accept r PassedOver)

-- A message has a row, a finished record, or neither.
abbrev pub address_at : ReceiverModel → Said.Address → (row finished : Option ℕ) → Outcome ReceiverModel Taken
address_at r a (Some i) finished = address_at_row r i a
address_at r a None (Some k) = address_at_record r k a
address_at r a None None = address_at_none r a

-- Address, and Extra_Address alike. Every one is held against its expiry first.
unfoldable pub take_address : ReceiverModel → Said.Address → Outcome ReceiverModel Taken
take_address r a =
    cond (reached r.table.now a.expiry) (refuse r (expired a.expiry))
    (address_at r a (row_of r.table a.source a.message) (record_of r.table a.source a.message))

-- == Data ==

-- Data is against a row of another priority, or of a lower total.
abbrev pub data_against : Said.Data → ReceiverRow → Bool
data_against d Vacant = false
data_against d (Loose l deadline held) = not (d.priority == l.priority)
data_against d (Open l total expiry ack quiet held) = not (d.priority == l.priority) || nat_lt total d.number
data_against d (Complete l total expiry ack) = not (d.priority == l.priority) || nat_lt total d.number

-- whether a row holds a number; a complete row holds all to its total
abbrev pub holds_number : ReceiverRow → ℕ → Bool
holds_number Vacant n = false
holds_number (Loose l deadline held) n = has held n
holds_number (Open l total expiry ack quiet held) n = has held n
holds_number (Complete l total expiry ack) n = nat_le n total

-- the model with a fragment put into the store
abbrev pub with_fragment : Outcome ReceiverModel Taken → (i : ℕ) → Said.Data → Outcome ReceiverModel Taken
with_fragment o i d = (with_held o.0 (with_string o.0.held i d.number d.fragment), o.1)

-- a fragment into the store and its number into the row, unless the store has no room
abbrev pub keep_at : ReceiverModel → ℕ → Said.Data → Option Cause → Outcome ReceiverModel Taken
keep_at r i d (Some c) = refuse r (by_store c)
keep_at r i d None = with_fragment (stepped r i (New d.number)) i d

-- At a row, in order: it is against the row, its number is held, the store has no room.
abbrev pub data_at_row : ReceiverModel → ℕ → Said.Data → Outcome ReceiverModel Taken
data_at_row r i d =
    cond (data_against d (row_at r i)) (refuse r (against i))
    (cond (holds_number (row_at r i) d.number) (stepped r i (Again d.number))
    (keep_at r i d (no_room r.held d.fragment)))

-- a new loose row with one number
abbrev pub loose_row : ReceiverTable → Said.Data → ReceiverRow
loose_row t d = Loose (label_for t d.source d.message d.priority) (t.now + loose_time) (set_of (including (set_of none) d.number))

-- After want of room in the store, the last arrival is told.
abbrev pub keep_new : ReceiverModel → ℕ → Said.Data → Option Cause → Outcome ReceiverModel Taken
keep_new r i d (Some c) = refuse r (by_store c)
keep_new r i d None =
    cond (r.table.arrival == last_identity) (refuse r (bad_identity last_identity))
    (with_fragment (accept (with_new_row r i (loose_row r.table d)) Kept) i d)

-- Of a message that has no row: a new loose one, the lowest vacant.
abbrev pub data_at_new : ReceiverModel → Said.Data → Option ℕ → Outcome ReceiverModel Taken
data_at_new r d None = refuse r no_row
data_at_new r d (Some i) = keep_new r i d (no_room r.held d.fragment)

-- Data of a finished message comes again, and raises an ACK.
abbrev pub data_at : ReceiverModel → Said.Data → (finished row : Option ℕ) → Outcome ReceiverModel Taken
data_at r d (Some k) row = accept (with_record_at r k (record_raised r.table (record_at r k))) Repeated
data_at r d None (Some i) = data_at_row r i d
data_at r d None None = data_at_new r d (vacant_row r.table)

-- Data. A finished message is looked for first.
unfoldable pub take_data : ReceiverModel → Said.Data → Outcome ReceiverModel Taken
take_data r d = data_at r d (record_of r.table d.source d.message) (row_of r.table d.source d.message)

-- == Discard ==

-- A Discard, whatever its priority, of a message that has a row or none.
abbrev pub discard_at : ReceiverModel → Option ℕ → Outcome ReceiverModel Taken
discard_at r None = accept r PassedOver
discard_at r (Some i) = stepped r i Discard

unfoldable pub take_discard : ReceiverModel → Said.Discard → Outcome ReceiverModel Taken
take_discard r d = discard_at r (row_of r.table d.source d.message)

-- == take ==

-- What could not be read is refused as the wire refuses it. A receiver reads no ACKs.
abbrev pub take_read : ReceiverModel → Result Said.Said Cause → Outcome ReceiverModel Taken
take_read r (Err c) = refuse r (by_wire c)
take_read r (Ok (said_data d)) = take_data r d
take_read r (Ok (said_address a)) = take_address r a
take_read r (Ok (said_discard d)) = take_discard r d
take_read r (Ok (said_ack a)) = accept r PassedOver

unfoldable pub receiver_take : ReceiverModel → List ℕ → Outcome ReceiverModel Taken
receiver_take r octets = take_read r (read_of Receiver octets)
