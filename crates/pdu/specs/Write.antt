-- The octets of each PDU that we write: the only part, type 02 for an Address, no reserved octets, no Time_Option.
use Rattle.std.specs.Prelude.{ℕ, ◌+◌, ◌*◌, ◌/◌, ◌%◌, ◌^◌, ◌<◌, cond, not, List, [], ◌∷◌, ◌++◌, length, take, drop, Some, None, Ok, Err, Option, Result, nat_lt, slice_index_or, slice_set}
use Rattle.std.specs.List.{flat_map}
use Rattle.protocol.specs.Causes.{Cause, cause}
use Rattle.protocol.specs.Limits.{shortest, longest, is_number}
use Rattle.pdu.specs.Octets.{two_octets, four_octets}
use Rattle.pdu.specs.Read.{unrisen, numbers_broken}
use Rattle.pdu.specs.Said.{Destination}
use Rattle.pdu.specs.Sum.{checksum_of}
use Rattle.pdu.specs.Types.{data_type, ack_type, address_type, discard_type, address_head, destination_size, ack_head, entry_head}

-- == the octets ==

-- the same octets with the right Checksum
abbrev pub sealed : List ℕ → List ℕ
sealed xs = slice_set (slice_set xs 6 (checksum_of xs / 256)) 7 (checksum_of xs % 256)

-- the header, with the Checksum 0
abbrev pub head_octets : (size priority type field : ℕ) → List ℕ
head_octets size p type field = two_octets size ++ (p ∷ type ∷ (two_octets field ++ two_octets 0))

-- a PDU of this priority, type and 2-octet field, with what stands from octet 8 on
abbrev pub pdu_octets : (priority type field : ℕ) → List ℕ → List ℕ
pdu_octets p type field body = sealed (head_octets (8 + length body) p type field ++ body)

abbrev pub data_octets : (priority number source message : ℕ) → List ℕ → List ℕ
data_octets p n s m fragment = pdu_octets p data_type n (four_octets s ++ (four_octets m ++ fragment))

abbrev pub discard_octets : (priority source message : ℕ) → List ℕ
discard_octets p s m = pdu_octets p discard_type 0 (four_octets s ++ four_octets m)

-- destinations, each with its sequence number
abbrev pub pair_octets : ℕ × ℕ → List ℕ
pair_octets d = four_octets d.0 ++ four_octets d.1

abbrev pub destination_octets : List (ℕ × ℕ) → List ℕ
destination_octets ds = flat_map pair_octets ds

-- identities and sequence numbers of 32 bits
abbrev pub Quads : List (ℕ × ℕ) → Type 0
Quads ds = (i : ℕ) → i < length ds → ((slice_index_or ds i (0, 0)).0 < 2 ^ 32) × ((slice_index_or ds i (0, 0)).1 < 2 ^ 32)

abbrev pub address_octets : (priority total source message expiry : ℕ) → List (ℕ × ℕ) → List ℕ
address_octets p t s m e ds =
    pdu_octets p address_type t (four_octets s ++ (four_octets m ++ (four_octets e ++ (two_octets (length ds) ++ (two_octets 0 ++ destination_octets ds)))))

abbrev pub number_octets : List ℕ → List ℕ
number_octets ns = flat_map two_octets ns

-- an ACK of one entry
abbrev pub ack_octets : (priority sender source message : ℕ) → List ℕ → List ℕ
ack_octets p a s m ns =
    pdu_octets p ack_type 0 (four_octets a ++ (two_octets 1 ++ (two_octets (entry_head + 2 * length ns) ++ (four_octets s ++ (four_octets m ++ number_octets ns)))))

-- a buffer with octets written over it from a place on
abbrev pub overlaid : List ℕ → (place : ℕ) → List ℕ → List ℕ
overlaid buffer place octets = take place buffer ++ (octets ++ drop (place + length octets) buffer)

-- == what a writer answers ==
-- Each `..Unfit` is the lowest place whose field would break its rule; a PDU that would be too long breaks Length_of_PDU.

abbrev pub data_unfit : (number : ℕ) → List ℕ → Option ℕ
data_unfit n fragment =
    cond (nat_lt longest (shortest + length fragment)) (Some 0)
    (cond (not (is_number n)) (Some 4)
    None)

-- destinations with their places, the first at a place
abbrev pub placed : (place : ℕ) → List (ℕ × ℕ) → List Destination
placed place [] = []
placed place (d ∷ ds) = record { place = place; destination = d.0; sequence = d.1 } ∷ placed (place + destination_size) ds

abbrev pub address_unfit : (total : ℕ) → List (ℕ × ℕ) → Option ℕ
address_unfit t ds =
    cond (nat_lt longest (address_head + destination_size * length ds)) (Some 0)
    (cond (not (is_number t)) (Some 4)
    (unrisen (placed address_head ds)))

abbrev pub ack_unfit : List ℕ → Option ℕ
ack_unfit ns =
    cond (nat_lt longest (ack_head + entry_head + 2 * length ns)) (Some 0)
    (numbers_broken (ack_head + entry_head) ns)

-- Refusal 5 for a place, else refusal 12 for a buffer with less room than the octets need, else the octets.
abbrev pub sent : Option ℕ → List ℕ → (room : ℕ) → Result (List ℕ) Cause
sent (Some place) octets room = Err (cause 5 (place ∷ []))
sent None octets room = cond (nat_lt room (length octets)) (Err (cause 12 (length octets ∷ []))) (Ok octets)

-- a writer tells how many octets it wrote
abbrev pub counted : Result (List ℕ) Cause → Result ℕ Cause
counted (Ok octets) = Ok (length octets)
counted (Err e) = Err e

-- The octets stand at the front of the buffer, and the rest of it is as it was.
abbrev pub fronted : Result (List ℕ) Cause → List ℕ → List ℕ
fronted (Ok octets) buffer = octets ++ drop (length octets) buffer
fronted (Err e) buffer = buffer
