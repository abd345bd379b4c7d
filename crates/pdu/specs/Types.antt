-- The types of PDUs, the sizes of their parts, and which end takes which type.
use Rattle.std.specs.Prelude.{◌≡◌, ◌≢◌, ℕ, ◌+◌, ◌-◌, ◌/◌, Bool, ◌||◌, List, Ok, Err, Result, ◌==◌, codes}
use Rattle.protocol.specs.Limits.{longest}
use Rattle.pdu.specs.declared.Accepts.{Accepts}
use Rattle.pdu.specs.declared.UnknownEnd.{UnknownEnd}
use Rattle.pdu.specs.declared.Accepts.TheVariants.{Sender, Receiver}

abbrev pub data_type : ℕ
data_type = 0x00

abbrev pub ack_type : ℕ
ack_type = 0x01

abbrev pub address_type : ℕ
address_type = 0x02

abbrev pub discard_type : ℕ
discard_type = 0x03

abbrev pub extra_address_type : ℕ
extra_address_type = 0x12

-- A sender takes ACKs; a receiver takes Data, both kinds of Address, and Discards.
abbrev pub takes : Accepts → ℕ → Bool
takes Sender t = t == ack_type
takes Receiver t = t == data_type || (t == address_type || (t == extra_address_type || t == discard_type))

-- so many octets stand before an Address's destinations, an ACK's entries and an entry's numbers
abbrev pub address_head : ℕ
address_head = 24

abbrev pub ack_head : ℕ
ack_head = 14

abbrev pub entry_head : ℕ
entry_head = 10

-- a destination without its reserved octets, and a Time_Option
abbrev pub destination_size : ℕ
destination_size = 8

abbrev pub time_option : ℕ
time_option = 8

-- the places of the counts
abbrev pub address_count : ℕ
address_count = 20

abbrev pub ack_count : ℕ
ack_count = 12

-- so many destinations, and so many numbers of one entry, fit into the longest datagram
abbrev pub most_destinations : ℕ
most_destinations = (longest - address_head) / destination_size

abbrev pub longest_list : ℕ
longest_list = (longest - (ack_head + entry_head)) / 2

-- how an end is called in a text
abbrev pub name_of : Accepts → List ℕ
name_of Sender = codes "sender"
name_of Receiver = codes "receiver"

-- what a text names: an end, or neither
abbrev pub Names : List ℕ → Result Accepts UnknownEnd → Type 0
Names text (Ok end) = text ≡ name_of end
Names text (Err _) = (text ≢ name_of Sender) × (text ≢ name_of Receiver)
