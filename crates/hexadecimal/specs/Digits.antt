-- What hexadecimal digits stand for.
use Rattle.std.specs.Prelude.{ℕ, ◌+◌, ◌-◌, ◌*◌, Bool, cond, ◌&&◌, List, [], ◌∷◌, Some, None, Option, nat_le}

abbrev pub is_within : (low high c : ℕ) → Bool
is_within low high c = nat_le low c && nat_le c high

-- `0` to `9` are the codes 48 to 57, `a` to `f` 97 to 102, `A` to `F` 65 to 70
abbrev pub digit_of : ℕ → Option ℕ
digit_of c =
    cond (is_within 48 57 c) (Some (c - 48))
    (cond (is_within 97 102 c) (Some (c - 97 + 10))
    (cond (is_within 65 70 c) (Some (c - 65 + 10))
    None))

-- the octet of two digits
abbrev pub octet_of : (high low : Option ℕ) → Option ℕ
octet_of None low = None
octet_of (Some h) None = None
octet_of (Some h) (Some l) = Some (h * 16 + l)

-- an octet before others, if all are good
abbrev pub octet_before : Option ℕ → Option (List ℕ) → Option (List ℕ)
octet_before None rest = None
octet_before (Some x) None = None
octet_before (Some x) (Some xs) = Some (x ∷ xs)

-- the octets of a text of two digits each; none if a digit is missing or is no digit
abbrev pub octets_of : List ℕ → Option (List ℕ)
octets_of [] = Some []
octets_of (a ∷ []) = None
octets_of (a ∷ b ∷ text) = octet_before (octet_of (digit_of a) (digit_of b)) (octets_of text)
