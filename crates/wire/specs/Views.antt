-- What the PDUs and the views of their parts mean.
use Rattle.std.specs.Prelude.{ℕ, ◌+◌, List, drop, map, Some, None, Ok, Err, Option, Result}
use Rattle.std.specs.Int.{w16, from_be_bytes}
use Rattle.pdu.specs.Read.{destinations_of, numbers_broken, entries_broken, entries_of}
use Rattle.pdu.specs.Said as Said
use Rattle.pdu.specs.Types.{entry_head}
use Rattle.wire.specs.Kinds.{kind_number}
use Rattle.wire.specs.declared.pdus.Ack.{Ack}
use Rattle.wire.specs.declared.pdus.Address.{Address}
use Rattle.wire.specs.declared.pdus.Data.{Data}
use Rattle.wire.specs.declared.pdus.Discard.{Discard}
use Rattle.wire.specs.declared.views.Destination.{Destination}
use Rattle.wire.specs.declared.views.Destinations.{Destinations}
use Rattle.wire.specs.declared.views.Entry.{Entry}
use Rattle.wire.specs.declared.views.Entries.{Entries}
use Rattle.wire.specs.declared.views.Numbers.{Numbers}

abbrev pub destination_in : Destination → Said.Destination
destination_in d = record { place = d.place; destination = d.destination; sequence = d.sequence }

abbrev pub destinations_in : Destinations → List Said.Destination
destinations_in v = destinations_of v.count v.place v.reserved (drop v.place v.datagram.now)

-- the numbers that pairs of octets are
abbrev pub numbers_in : Numbers → List ℕ
numbers_in v = map (from_be_bytes w16) v.octets.now

abbrev pub entry_in : Entry → Said.Entry
entry_in e = record { place = e.place; source = e.source; message = e.message; numbers = numbers_in e.numbers }

abbrev pub entries_in : Entries → List Said.Entry
entries_in v = entries_of v.count v.place (drop v.place v.datagram.now)

abbrev pub data_in : Data → Said.Data
data_in d = record { priority = d.priority; number = d.number; source = d.source; message = d.message; fragment = d.fragment.now }

abbrev pub address_in : Address → Said.Address
address_in a = record {
  priority = a.priority;
  type = kind_number a.kind;
  part = a.part;
  total = a.total;
  source = a.source;
  message = a.message;
  expiry = a.expiry;
  reserved = a.destinations.reserved;
  destinations = destinations_in a.destinations;
}

abbrev pub discard_in : Discard → Said.Discard
discard_in d = record { priority = d.priority; source = d.source; message = d.message }

abbrev pub ack_in : Ack → Said.Ack
ack_in a = record { priority = a.priority; sender = a.sender; entries = entries_in a.entries }

-- the place of the first of an entry's numbers that is none
abbrev pub entry_broken_in : Entry → Option ℕ
entry_broken_in e = numbers_broken (e.place + entry_head) (numbers_in e.numbers)

-- the lowest broken place of entries and of what stands behind them
abbrev pub broken_in : Entries → Option ℕ
broken_in v = entries_broken v.count v.place (drop v.place v.datagram.now)

-- the broken place, if an entry has one
abbrev pub place_of : Result ℕ ℕ → Option ℕ
place_of (Ok length) = None
place_of (Err place) = Some place
