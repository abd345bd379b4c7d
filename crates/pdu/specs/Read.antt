-- What a datagram says to an end, or why the end refuses it.
use Rattle.std.specs.Prelude.{ℕ, zero, suc, ◌+◌, ◌-◌, ◌*◌, ◌/◌, ◌%◌, Bool, cond, not, ◌&&◌, ◌||◌, List, [], ◌∷◌, length, take, drop, Some, None, Ok, Err, Option, Result, ◌==◌, nat_le, nat_lt, slice_index}
use Rattle.std.specs.Option.{option_or}
use Rattle.protocol.specs.Causes.{Cause, cause}
use Rattle.protocol.specs.Limits.{shortest, longest, is_number}
use Rattle.pdu.specs.declared.Accepts.{Accepts}
use Rattle.pdu.specs.declared.Accepts.TheVariants.{Sender, Receiver}
use Rattle.pdu.specs.Octets.{word, quad, words_of}
use Rattle.pdu.specs.Said.{Data, Destination, Address, Discard, Entry, Ack, Said, said_data, said_address, said_discard, said_ack}
use Rattle.pdu.specs.Sum.{checksum_of}
use Rattle.pdu.specs.Types.{takes, data_type, discard_type, address_head, address_count, destination_size, ack_head, ack_count, entry_head, time_option}

-- == the header ==

abbrev pub length_field : List ℕ → ℕ
length_field xs = word xs 0

abbrev pub priority_field : List ℕ → ℕ
priority_field xs = slice_index xs 2

abbrev pub top_bits : List ℕ → ℕ
top_bits xs = slice_index xs 3 / 64

abbrev pub type_field : List ℕ → ℕ
type_field xs = slice_index xs 3 % 64

-- octets 4 and 5: a Data's number, an Address's total, 0 elsewhere
abbrev pub number_field : List ℕ → ℕ
number_field xs = word xs 4

abbrev pub checksum_field : List ℕ → ℕ
checksum_field xs = word xs 6

-- Refusals 1 to 4, in their order; else the type.
abbrev pub head_of : Accepts → List ℕ → Result ℕ Cause
head_of end xs =
    cond (nat_lt (length xs) shortest || nat_lt longest (length xs)) (Err (cause 1 (length xs ∷ [])))
    (cond (not (length_field xs == length xs)) (Err (cause 2 (length_field xs ∷ length xs ∷ [])))
    (cond (not (checksum_field xs == checksum_of xs)) (Err (cause 3 (checksum_field xs ∷ checksum_of xs ∷ [])))
    (cond (not (takes end (type_field xs))) (Err (cause 4 (type_field xs ∷ [])))
    (Ok (type_field xs)))))

-- == fields that break their rules ==
-- Each of these definitions gives the lowest place whose field breaks its rule.

-- the lower of two places
abbrev pub lower : Option ℕ → Option ℕ → Option ℕ
lower None q = q
lower (Some p) None = Some p
lower (Some p) (Some q) = cond (nat_lt q p) (Some q) (Some p)

abbrev pub data_broken : List ℕ → Option ℕ
data_broken xs =
    cond (not (top_bits xs == 0)) (Some 3)
    (cond (not (is_number (number_field xs))) (Some 4)
    None)

-- A Discard has no octet more than the shortest datagram.
abbrev pub discard_broken : List ℕ → Option ℕ
discard_broken xs =
    cond (not (length xs == shortest)) (Some 0)
    (cond (not (top_bits xs == 0)) (Some 3)
    (cond (not (number_field xs == 0)) (Some 4)
    None))

-- A destination is its identity, its sequence number and the reserved octets. These are so many, the first at a place;
-- a list that ends early has no more of them.
unfoldable pub destinations_of : (count place reserved : ℕ) → List ℕ → List Destination
destinations_of zero place reserved xs = []
destinations_of (suc n) place reserved xs =
    cond (nat_lt (length xs) destination_size) []
    (record { place = place; destination = quad xs 0; sequence = quad xs 4 }
    ∷ destinations_of n (place + (destination_size + reserved)) reserved (drop (destination_size + reserved) xs))

abbrev pub address_destinations : List ℕ → List Destination
address_destinations xs = destinations_of (word xs address_count) address_head (word xs 22) (drop address_head xs)

-- the place of the first destination that is not above the one before it
abbrev pub unrisen_after : (before : ℕ) → List Destination → Option ℕ
unrisen_after before [] = None
unrisen_after before (d ∷ ds) = cond (nat_le d.destination before) (Some d.place) (unrisen_after d.destination ds)

abbrev pub unrisen : List Destination → Option ℕ
unrisen [] = None
unrisen (d ∷ ds) = unrisen_after d.destination ds

-- The count times the octets of one destination is what stands behind the head.
abbrev pub address_broken : List ℕ → Option ℕ
address_broken xs =
    cond (nat_lt (length xs) address_head) (Some 0)
    (cond (not (is_number (number_field xs))) (Some 4)
    (cond (not (word xs address_count * (destination_size + word xs 22) == length xs - address_head)) (Some address_count)
    (unrisen (address_destinations xs))))

-- the place of the first of the listed numbers that is none, the first being at a place
abbrev pub numbers_broken : (place : ℕ) → List ℕ → Option ℕ
numbers_broken place [] = None
numbers_broken place (n ∷ ns) = cond (is_number n) (numbers_broken (place + 2) ns) (Some place)

-- An entry's length is 10 and twice the count of its numbers.
abbrev pub is_entry_length : ℕ → Bool
is_entry_length l = nat_le entry_head l && l % 2 == 0

-- Whether no entry stands at the front, which is at a place: fewer octets than an entry has, or an entry that runs past
-- the end, break the count; a length that is none breaks its own place.
abbrev pub entry_broken : (place : ℕ) → List ℕ → Option ℕ
entry_broken place xs =
    cond (nat_lt (length xs) entry_head) (Some ack_count)
    (cond (not (is_entry_length (word xs 0))) (Some place)
    (cond (nat_lt (length xs) (word xs 0)) (Some ack_count)
    None))

-- the numbers of the entry at the front
abbrev pub entry_numbers : List ℕ → List ℕ
entry_numbers xs = words_of (take (word xs 0 - entry_head) (drop entry_head xs))

-- So many entries, the first at a place. The walk ends at an entry that is none; a rest other than 0 or 8 octets breaks the count.
unfoldable pub entries_broken : (count place : ℕ) → List ℕ → Option ℕ
entries_broken zero place xs = cond (length xs == 0 || length xs == time_option) None (Some ack_count)
entries_broken (suc n) place xs =
    option_or (entry_broken place xs)
    (lower (numbers_broken (place + entry_head) (entry_numbers xs)) (entries_broken n (place + word xs 0) (drop (word xs 0) xs)))

-- An ACK has at least one entry.
abbrev pub ack_broken : List ℕ → Option ℕ
ack_broken xs =
    cond (not (top_bits xs == 0)) (Some 3)
    (cond (not (number_field xs == 0)) (Some 4)
    (cond (word xs ack_count == 0) (Some ack_count)
    (entries_broken (word xs ack_count) ack_head (drop ack_head xs))))

-- == what is read ==

abbrev pub data_of : List ℕ → Data
data_of xs = record { priority = priority_field xs; number = number_field xs; source = quad xs 8; message = quad xs 12; fragment = drop 16 xs }

abbrev pub discard_of : List ℕ → Discard
discard_of xs = record { priority = priority_field xs; source = quad xs 8; message = quad xs 12 }

abbrev pub address_of : List ℕ → Address
address_of xs = record {
  priority = priority_field xs;
  type = type_field xs;
  part = top_bits xs;
  total = number_field xs;
  source = quad xs 8;
  message = quad xs 12;
  expiry = quad xs 16;
  reserved = word xs 22;
  destinations = address_destinations xs;
}

-- the entry at the front, which stands at a place
abbrev pub entry_of : (place : ℕ) → List ℕ → Entry
entry_of place xs = record { place = place; source = quad xs 2; message = quad xs 6; numbers = entry_numbers xs }

-- no entry, no list
abbrev pub entries_if : Option ℕ → List Entry → List Entry
entries_if None es = es
entries_if (Some place) es = []

-- so many entries, the first at a place; a list whose front is no entry has no more of them
unfoldable pub entries_of : (count place : ℕ) → List ℕ → List Entry
entries_of zero place xs = []
entries_of (suc n) place xs = entries_if (entry_broken place xs) (entry_of place xs ∷ entries_of n (place + word xs 0) (drop (word xs 0) xs))

abbrev pub ack_of : List ℕ → Ack
ack_of xs = record { priority = priority_field xs; sender = quad xs 8; entries = entries_of (word xs ack_count) ack_head (drop ack_head xs) }

-- A broken place is refusal 5.
abbrev pub unless_broken : Option ℕ → Said → Result Said Cause
unless_broken None said = Ok said
unless_broken (Some place) said = Err (cause 5 (place ∷ []))

-- for each type its rule; what is neither Data nor Discard is an Address to a receiver
abbrev pub body_of : Accepts → ℕ → List ℕ → Result Said Cause
body_of Sender type xs = unless_broken (ack_broken xs) (said_ack (ack_of xs))
body_of Receiver type xs =
    cond (type == data_type) (unless_broken (data_broken xs) (said_data (data_of xs)))
    (cond (type == discard_type) (unless_broken (discard_broken xs) (said_discard (discard_of xs)))
    (unless_broken (address_broken xs) (said_address (address_of xs))))

abbrev pub after_head : Accepts → Result ℕ Cause → List ℕ → Result Said Cause
after_head end (Ok type) xs = body_of end type xs
after_head end (Err e) xs = Err e

-- Refusals 1 to 5 in their order, or what the datagram says.
abbrev pub read_of : Accepts → List ℕ → Result Said Cause
read_of end xs = after_head end (head_of end xs) xs
