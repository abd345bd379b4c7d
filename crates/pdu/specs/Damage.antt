-- One changed bit in a PDU.
use Rattle.std.specs.Prelude.{◌≡◌, ℕ, ◌^◌, ◌<◌, ◌⊎◌, List, length, Err, bit_xor, slice_index, slice_set}
use Rattle.protocol.specs.Causes.{Cause}
use Rattle.pdu.specs.declared.Accepts.{Accepts}
use Rattle.pdu.specs.Read.{read_of}

-- Bit b of the octet at a place is the other one.
abbrev pub flipped : List ℕ → (place b : ℕ) → List ℕ
flipped xs i b = slice_set xs i (bit_xor (slice_index xs i) (2 ^ b))

-- Whichever bit is changed, and whichever end reads, refusal 2 or 3 follows.
abbrev pub DamageShows : List ℕ → Type 0
DamageShows xs =
    (end : Accepts) (i b : ℕ) → i < length xs → b < 8
    → (e : Cause) × (read_of end (flipped xs i b) ≡ Err e) × ((e.number ≡ 2) ⊎ (e.number ≡ 3))
