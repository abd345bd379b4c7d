-- Destinations that are to be written, as pairs.
use Rattle.std.proofs.Common.{◌≡◌, ℕ, ◌+◌, ◌*◌, ◌^◌, ◌<◌, List, [], ◌∷◌, ◌++◌, length, map, get_or, sym, refl, ap, subst, arith}
use Rattle.std.proofs.lemmas.List.{length-map, get_or-map}
use Rattle.std.specs.List.{All, enumerate_from, flat_map}
use Rattle.pdu.specs.Said as Said
use Rattle.pdu.specs.Write.{Quads, pair_octets, destination_octets, placed}
use Rattle.wire.specs.declared.pdus.Addressee.{Addressee}
use Rattle.wire.specs.Written.{pair_of, pairs_of}

-- what a read past the end gives
abbrev pub no_addressee : Addressee
no_addressee = record { destination = 0; sequence = 0 }

pub length_pairs : (ds : List Addressee) → length (pairs_of ds) ≡ length ds
length_pairs ds = length-map ds pair_of

pub pair-at : (ds : List Addressee) (i : ℕ) → i < length ds → pair_of (get_or ds i no_addressee) ≡ get_or (pairs_of ds) i (0, 0)
pair-at ds i h = sym (get_or-map pair_of ds i no_addressee (0, 0) h)

-- a destination that is to be written, as it will be read
abbrev pub numbered : ℕ × Addressee → Said.Destination
numbered p = record { place = 24 + 8 * p.0; destination = p.1.destination; sequence = p.1.sequence }

placed_from : (place k : ℕ) (ds : List Addressee) → place ≡ 24 + 8 * k → map numbered (enumerate_from k ds) ≡ placed place (pairs_of ds)
placed_from place k [] e = refl
placed_from place k (d ∷ ds) e = λ i. record { place = sym e i; destination = d.destination; sequence = d.sequence } ∷ placed_from (place + 8) (k + 1) ds (omega arith) i

pub placed_all : (ds : List Addressee) → map numbered (enumerate_from 0 ds) ≡ placed 24 (pairs_of ds)
placed_all ds = placed_from 24 0 ds refl

pub octets_of_pairs : (ds : List Addressee) → flat_map (λ d. pair_octets (pair_of d)) ds ≡ destination_octets (pairs_of ds)
octets_of_pairs [] = refl
octets_of_pairs (d ∷ ds) = ap (λ xs. pair_octets (pair_of d) ++ xs) (octets_of_pairs ds)

pub quads : (ds : List Addressee) → All (λ d. (d.destination < 2 ^ 32) × (d.sequence < 2 ^ 32)) ds → Quads (pairs_of ds)
quads ds fit k h =
    subst (λ (p : ℕ × ℕ). (p.0 < 2 ^ 32) × (p.1 < 2 ^ 32)) (pair-at ds k (omega (arith, length_pairs ds))) (fit k no_addressee (omega (arith, length_pairs ds)))
