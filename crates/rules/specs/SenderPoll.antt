-- A sender writes a PDU.
use Rattle.std.specs.Prelude.{ℕ, ◌+◌, Bool, true, false, cond, not, ◌||◌, List, [], ◌∷◌, map, length, Some, None, Option, ◌==◌, nat_lt}
use Rattle.std.specs.Option.{unwrap_or}
use Rattle.protocol.specs.Causes.{cause}
use Rattle.protocol.specs.Times.{silent_wait, ending_wait}
use Rattle.pdu.specs.Write.{data_octets, discard_octets, address_octets}
use Rattle.parts.specs.declared.numbers.Numbers.{Numbers}
use Rattle.parts.specs.Foremost.{foremost_of}
use Rattle.parts.specs.Numbers.{excluding, next_from, set_of}
use Rattle.contents.specs.Contents.{string_at}
use Rattle.rules.specs.declared.sender.Message.{Message}
use Rattle.rules.specs.declared.sender.SenderRow.{SenderRow}
use Rattle.rules.specs.declared.sender.SenderRow.TheVariants.{Vacant, Draft, Sending, Waiting, Ending, Closing, Ended}
use Rattle.rules.specs.Lists.{ranks_before}
use Rattle.rules.specs.Outcomes.{Outcome, refuse, accept}
use Rattle.rules.specs.Refusals.{by_wire, nothing}
use Rattle.rules.specs.SenderState.{Roster, SenderModel, row_at, with_row_at, with_row_freed, message_of, open_of, open_answering}

-- no number is in a set
abbrev pub is_none : Numbers → Bool
is_none s = s.count == 0

-- the lowest number of a set, 0 if there is none
abbrev pub lowest : Numbers → ℕ
lowest s = unwrap_or (next_from s 1) 0

-- What a row has due: a closing row its Discard, an ending one without a deadline its Address.
abbrev pub has_due : SenderRow → Bool
has_due Vacant = false
has_due (Draft i n) = false
has_due (Sending m address due wait rounds) = address || not (is_none due)
has_due (Waiting m d w r) = false
has_due (Ending m None counted) = true
has_due (Ending m (Some deadline) counted) = false
has_due (Closing m) = true
has_due (Ended m) = false

-- Rows rank by priority, then identity; a row without a message ranks as 0 and 0, and has nothing due.
abbrev pub priority_of : Option Message → ℕ
priority_of None = 0
priority_of (Some m) = m.priority

abbrev pub identity_of : Option Message → ℕ
identity_of None = 0
identity_of (Some m) = m.identity

abbrev pub row_ahead : SenderRow → SenderRow → Bool
row_ahead a b = ranks_before (priority_of (message_of a)) (identity_of (message_of a)) (priority_of (message_of b)) (identity_of (message_of b))

-- The Address lists the open destinations, silent ones too, each with its sequence number.
abbrev pub address_for : (source : ℕ) → Message → List ℕ
address_for source m =
    address_octets m.priority m.total source m.identity m.expiry (map (λ d. (d.destination, d.sequence)) (open_of m))

-- one fragment of a message, as its store row has it
abbrev pub data_for : SenderModel → (i : ℕ) → Message → (number : ℕ) → List ℕ
data_for s i m number = data_octets m.priority number s.table.source m.identity (string_at s.held i number)

-- The PDU that row i writes next: Discard, else Address, else the lowest due number.
unfoldable pub pdu_for : SenderModel → ℕ → SenderRow → List ℕ
pdu_for s i Vacant = []
pdu_for s i (Draft n c) = []
pdu_for s i (Sending m true due wait rounds) = address_for s.table.source m
pdu_for s i (Sending m false due wait rounds) = data_for s i m (lowest due)
pdu_for s i (Waiting m d w r) = []
pdu_for s i (Ending m deadline counted) = address_for s.table.source m
pdu_for s i (Closing m) = discard_octets m.priority s.table.source m.identity
pdu_for s i (Ended m) = []

-- how long a row waits when its last due PDU is written
abbrev pub wait_for : Roster → Message → ℕ → ℕ
wait_for roster m wait = cond (nat_lt 0 (length (open_answering roster m))) wait silent_wait

-- A sending row with nothing left due is waiting.
abbrev pub sending_on : Roster → (now : ℕ) → Message → Numbers → (wait rounds : ℕ) → SenderRow
sending_on roster now m due wait rounds =
    cond (is_none due) (Waiting m (now + wait_for roster m wait) wait rounds) (Sending m false due wait rounds)

-- a row after the PDU that it had due was written
unfoldable pub row_polled : Roster → (now : ℕ) → SenderRow → SenderRow
row_polled roster now Vacant = Vacant
row_polled roster now (Draft i n) = Draft i n
row_polled roster now (Sending m true due wait rounds) = sending_on roster now m due wait rounds
row_polled roster now (Sending m false due wait rounds) = sending_on roster now m (set_of (excluding due (lowest due))) wait rounds
row_polled roster now (Waiting m d w r) = Waiting m d w r
row_polled roster now (Ending m deadline counted) = Ending m (Some (now + ending_wait)) false
row_polled roster now (Closing m) = Ended m
row_polled roster now (Ended m) = Ended m

-- whether a Discard is due
abbrev pub is_closing : SenderRow → Bool
is_closing Vacant = false
is_closing (Draft i n) = false
is_closing (Sending m a d w r) = false
is_closing (Waiting m d w r) = false
is_closing (Ending m d c) = false
is_closing (Closing m) = true
is_closing (Ended m) = false

-- After its Discard a row is ended, which frees its store row.
abbrev pub polled : SenderModel → ℕ → SenderModel
polled s i =
    cond (is_closing (row_at s i)) (with_row_freed s i (row_polled s.table.roster s.table.now (row_at s i)))
    (with_row_at s i (row_polled s.table.roster s.table.now (row_at s i)))

-- a PDU into a buffer of so much room
abbrev pub poll_with : SenderModel → (i room : ℕ) → List ℕ → Outcome SenderModel (List ℕ)
poll_with s i room pdu = cond (nat_lt room (length pdu)) (refuse s (by_wire (cause 12 (length pdu ∷ [])))) (accept (polled s i) pdu)

-- Only the foremost row is asked; nothing is skipped for a shorter PDU.
abbrev pub poll_at : SenderModel → (room : ℕ) → Option ℕ → Outcome SenderModel (List ℕ)
poll_at s room None = refuse s nothing
poll_at s room (Some i) = poll_with s i room (pdu_for s i (row_at s i))

-- Poll writes one PDU of the foremost row with something due. The answer is its octets, as they stand at the front of the buffer.
unfoldable pub sender_poll : SenderModel → (room : ℕ) → Outcome SenderModel (List ℕ)
sender_poll s room = poll_at s room (foremost_of has_due row_ahead s.table.rows)
