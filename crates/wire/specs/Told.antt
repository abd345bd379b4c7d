-- What the reader's answer means: the fields of the PDU without their places in memory, and the cause in place of the fault.
use Rattle.std.specs.Prelude.{◌≡◌, length, Ok, Err, Result}
use Rattle.protocol.specs.Causes.{Cause}
use Rattle.pdu.specs.Said.{Said, said_data, said_address, said_discard, said_ack}
use Rattle.wire.specs.declared.fault.WireFault.{WireFault}
use Rattle.wire.specs.declared.kind.Kind.{Kind}
use Rattle.wire.specs.declared.kind.Kind.TheVariants as Kinds
use Rattle.wire.specs.declared.pdus.Pdu.{Pdu}
use Rattle.wire.specs.declared.pdus.Pdu.TheVariants.{Data, Address, Discard, Ack}
use Rattle.wire.specs.Faults.{cause_of}
use Rattle.wire.specs.Views.{destinations_in, entries_in, data_in, address_in, discard_in, ack_in}

abbrev pub said_of : Pdu → Said
said_of (Data d) = said_data (data_in d)
said_of (Address a) = said_address (address_in a)
said_of (Discard d) = said_discard (discard_in d)
said_of (Ack a) = said_ack (ack_in a)

abbrev pub kind_in : Pdu → Kind
kind_in (Data d) = Kinds.Data
kind_in (Address a) = a.kind
kind_in (Discard d) = Kinds.Discard
kind_in (Ack a) = Kinds.Ack

-- There are as many destinations and entries as the counts say.
abbrev pub Counted : Pdu → Type 0
Counted (Data d) = Unit {0}
Counted (Address a) = length (destinations_in a.destinations) ≡ a.destinations.count
Counted (Discard d) = Unit {0}
Counted (Ack a) = length (entries_in a.entries) ≡ a.entries.count

abbrev pub told_of : Result Pdu WireFault → Result Said Cause
told_of (Ok pdu) = Ok (said_of pdu)
told_of (Err fault) = Err (cause_of fault)
