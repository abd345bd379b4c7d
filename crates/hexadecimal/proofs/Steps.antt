-- Going through a text a pair of digits at a time.
use Rattle.std.proofs.Common.{◌≡◌, ℕ, ◌+◌, ◌%◌, ◌<◌, ◌≤◌, List, [], ◌∷◌, ◌++◌, length, get_or, drop, Some, None, Option, sym, suc, zero, refl, ap, ◌∙◌, append_assoc, arith}
use Rattle.std.proofs.lemmas.List.{append-nil, at_drop_more, at_drop_all}
use Rattle.std.specs.Simd.{first_chunks}
use Rattle.hexadecimal.specs.Digits.{digit_of, octet_of, octet_before, octets_of}

-- octets that were read, before those that are still to come
abbrev pub prefixed : List ℕ → Option (List ℕ) → Option (List ℕ)
prefixed ys None = None
prefixed ys (Some zs) = Some (ys ++ zs)

pub prefixed_none : (r : Option (List ℕ)) → prefixed [] r ≡ r
prefixed_none None = refl
prefixed_none (Some zs) = refl

join : (ys : List ℕ) (x : ℕ) (r : Option (List ℕ)) → prefixed ys (octet_before (Some x) r) ≡ prefixed (ys ++ x ∷ []) r
join ys x None = refl
join ys x (Some zs) = ap Some (sym (append_assoc ys (x ∷ []) zs))

-- the octets of pairs of digits
abbrev pub octets_of_pairs : List (List ℕ) → Option (List ℕ)
octets_of_pairs [] = Some []
octets_of_pairs (p ∷ ps) = octet_before (octet_of (digit_of (get_or p 0 0)) (digit_of (get_or p 1 0))) (octets_of_pairs ps)

-- The pairs of a text of even length are all of it.
pub paired : (k : ℕ) (xs : List ℕ) → length xs ≡ k + k → octets_of_pairs (first_chunks 2 k xs) ≡ octets_of xs
paired zero [] e = refl
paired zero (a ∷ xs) e = absurd (omega (arith, e))
paired (suc k) [] e = absurd (omega (arith, e))
paired (suc k) (a ∷ []) e = absurd (omega (arith, e))
paired (suc k) (a ∷ b ∷ xs) e = ap (octet_before (octet_of (digit_of a) (digit_of b))) (paired k xs (omega (arith, e)))

-- the next pair
module _ (ys : List ℕ) (ps : List (List ℕ)) (i : ℕ) (more : i < length ps) (o : Option ℕ) (is : o ≡ octet_of (digit_of (get_or (get_or ps i []) 0 0)) (digit_of (get_or (get_or ps i []) 1 0))) where
  octets_more : octets_of_pairs (drop i ps) ≡ octet_before o (octets_of_pairs (drop (i + 1) ps))
  octets_more = at_drop_more octets_of_pairs ps i [] more ∙ (λ t. octet_before (sym is t) (octets_of_pairs (drop (i + 1) ps)))

  pub good_octet : (x : ℕ) → o ≡ Some x → prefixed (ys ++ x ∷ []) (octets_of_pairs (drop (i + 1) ps)) ≡ prefixed ys (octets_of_pairs (drop i ps))
  good_octet x e = sym (join ys x (octets_of_pairs (drop (i + 1) ps))) ∙ sym (ap (prefixed ys) (octets_more ∙ ap (λ v. octet_before v (octets_of_pairs (drop (i + 1) ps))) e))

none_before : (o : Option ℕ) → octet_before o None ≡ None
none_before None = refl
none_before (Some x) = refl

pub odd_text : (xs : List ℕ) → (length xs % 2 ≡ 0 → ⊥) → None ≡ octets_of xs
odd_text [] h = absurd (h refl)
odd_text (a ∷ []) h = refl
odd_text (a ∷ b ∷ xs) h = sym (none_before (octet_of (digit_of a) (digit_of b))) ∙ ap (octet_before (octet_of (digit_of a) (digit_of b))) (odd_text xs (λ e. h (omega arith)))
