-- A datagram that passes refusals 1 to 4.
use Rattle.std.proofs.Common.{◌≡◌, ℕ, ◌≤◌, Bool, true, false, cond, not, ◌||◌, eqb, ltb, List, length, Ok, Err, Result, refl, arith}
use Rattle.std.proofs.lemmas.Bool.{or_parts, not-false, ltb-false, eqb-true}
use Rattle.std.proofs.lemmas.Bool.Decides.{nat_tests}
use Rattle.protocol.specs.Causes.{Cause}
use Rattle.protocol.specs.Limits.{shortest, longest}
use Rattle.pdu.specs.declared.Accepts.{Accepts}
use Rattle.pdu.specs.Read.{length_field, checksum_field, type_field, head_of, after_head, read_of}
use Rattle.pdu.specs.Said.{Said}
use Rattle.pdu.specs.Sum.{checksum_of}
use Rattle.pdu.specs.Types.{takes}

-- length and Checksum are right
pub record Framed (xs : List ℕ) : Type 0 where
  pub low : shortest ≤ length xs
  pub high : length xs ≤ longest
  pub len : length_field xs ≡ length xs
  pub sum : checksum_field xs ≡ checksum_of xs

pub passes : (end : Accepts) (xs : List ℕ) → Framed xs → takes end (type_field xs) ≡ true → head_of end xs ≡ Ok (type_field xs)
passes end xs f t = grind (arith, nat_tests)

-- a test that refuses was false where the answer is good
past : {A : Type 0} (b : Bool) (x : A) (e : Cause) (r : Result A Cause) → cond b (Err e) r ≡ Ok x → (b ≡ false) × (r ≡ Ok x)
past true x e r h = let z : ◌≡◌ {A = ℕ} 0 1 = cc in absurd (omega arith)
past false x e r h = (refl, h)

framed_head : (end : Accepts) (xs : List ℕ) (t : ℕ) → head_of end xs ≡ Ok t → Framed xs
framed_head end xs t h =
    let a = past (ltb (length xs) shortest || ltb longest (length xs)) t _ _ h in
    let b = past (not (eqb (length_field xs) (length xs))) t _ _ a.1 in
    let c = past (not (eqb (checksum_field xs) (checksum_of xs))) t _ _ b.1 in
    let s = or_parts (ltb (length xs) shortest) (ltb longest (length xs)) a.0 in
    record {
      low = ltb-false (length xs) shortest s.0;
      high = ltb-false longest (length xs) s.1;
      len = eqb-true (length_field xs) (length xs) (not-false _ b.0);
      sum = eqb-true (checksum_field xs) (checksum_of xs) (not-false _ c.0);
    }

framed_after : (end : Accepts) (xs : List ℕ) (s : Said) (r : Result ℕ Cause) → head_of end xs ≡ r → after_head end r xs ≡ Ok s → Framed xs
framed_after end xs s (Ok t) is h = framed_head end xs t is
framed_after end xs s (Err e) is h = let z : ◌≡◌ {A = ℕ} 0 1 = cc in absurd (omega arith)

-- what is accepted is framed
pub framed_from : (end : Accepts) (xs : List ℕ) (s : Said) → read_of end xs ≡ Ok s → Framed xs
framed_from end xs s h = framed_after end xs s (head_of end xs) refl h
