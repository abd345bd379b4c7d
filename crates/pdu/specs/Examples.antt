-- The Checksums of five PDUs: source 0A000001, message 00002694, priority 0.
use Rattle.std.specs.Prelude.{ℕ, List, [], ◌∷◌, codes}
use Rattle.pdu.specs.Read.{checksum_field}
use Rattle.pdu.specs.Write.{data_octets, discard_octets, address_octets, ack_octets}

-- a Discard; Data 1 with "Hi" and with "H"; an Address of one destination; that destination's empty ACK
abbrev pub example_checksums : List ℕ
example_checksums =
    checksum_field (discard_octets 0 0x0A000001 0x00002694)
    ∷ checksum_field (data_octets 0 1 0x0A000001 0x00002694 (codes "Hi"))
    ∷ checksum_field (data_octets 0 1 0x0A000001 0x00002694 (codes "H"))
    ∷ checksum_field (address_octets 0 1 0x0A000001 0x00002694 1234567890 ((0x0A000002, 1) ∷ []))
    ∷ checksum_field (ack_octets 0 0x0A000002 0x0A000001 0x00002694 [])
    ∷ []
