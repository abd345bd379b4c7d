-- What the writers answer for a buffer with so much room, and what reading gives back.
use Rattle.std.specs.Prelude.{ℕ, List, [], ◌∷◌, map, None, Result}
use Rattle.protocol.specs.Causes.{Cause}
use Rattle.pdu.specs.Said as Said
use Rattle.pdu.specs.Types.{address_type, address_head, ack_head}
use Rattle.pdu.specs.Write.{data_octets, discard_octets, address_octets, ack_octets, data_unfit, address_unfit, ack_unfit, placed, sent}
use Rattle.wire.specs.declared.pdus.Addressee.{Addressee}
use Rattle.wire.specs.declared.pdus.Data.{Data}
use Rattle.wire.specs.declared.pdus.Discard.{Discard}
use Rattle.wire.specs.declared.pdus.NewAck.{NewAck}
use Rattle.wire.specs.declared.pdus.NewAddress.{NewAddress}

-- destinations as pairs of identity and sequence number
abbrev pub pair_of : Addressee → ℕ × ℕ
pair_of d = (d.destination, d.sequence)

abbrev pub pairs_of : List Addressee → List (ℕ × ℕ)
pairs_of ds = map pair_of ds

abbrev pub octets_of_data : Data → List ℕ
octets_of_data d = data_octets d.priority d.number d.source d.message d.fragment.now

abbrev pub octets_of_discard : Discard → List ℕ
octets_of_discard d = discard_octets d.priority d.source d.message

abbrev pub octets_of_address : NewAddress → List ℕ
octets_of_address a = address_octets a.priority a.total a.source a.message a.expiry (pairs_of a.destinations.now)

abbrev pub octets_of_ack : NewAck → List ℕ
octets_of_ack a = ack_octets a.priority a.sender a.source a.message a.numbers.now

abbrev pub data_sent : Data → (room : ℕ) → Result (List ℕ) Cause
data_sent d room = sent (data_unfit d.number d.fragment.now) (octets_of_data d) room

-- A Discard has no field that could break its rule.
abbrev pub discard_sent : Discard → (room : ℕ) → Result (List ℕ) Cause
discard_sent d room = sent None (octets_of_discard d) room

abbrev pub address_sent : NewAddress → (room : ℕ) → Result (List ℕ) Cause
address_sent a room = sent (address_unfit a.total (pairs_of a.destinations.now)) (octets_of_address a) room

abbrev pub ack_sent : NewAck → (room : ℕ) → Result (List ℕ) Cause
ack_sent a room = sent (ack_unfit a.numbers.now) (octets_of_ack a) room

-- The Address that a receiver reads: type 02, the only part, no reserved octets.
abbrev pub new_address_in : NewAddress → Said.Address
new_address_in a = record {
  priority = a.priority;
  type = address_type;
  part = 0;
  total = a.total;
  source = a.source;
  message = a.message;
  expiry = a.expiry;
  reserved = 0;
  destinations = placed address_head (pairs_of a.destinations.now);
}

-- The ACK that a sender reads has one entry.
abbrev pub new_ack_in : NewAck → Said.Ack
new_ack_in a = record {
  priority = a.priority;
  sender = a.sender;
  entries = record { place = ack_head; source = a.source; message = a.message; numbers = a.numbers.now } ∷ [];
}
