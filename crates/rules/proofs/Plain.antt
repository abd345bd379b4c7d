-- Sets as they lie in a table: of a plain set only its numbers are used.
use Rattle.std.proofs.Common.{◌≡◌, ℕ, ◌&&◌, sym, ap, ◌∙◌, inl, inr}
use Rattle.std.proofs.lemmas.Bool.{cases_Bool}
use Rattle.protocol.specs.Limits.{is_number}
use Rattle.parts.specs.declared.numbers.Numbers.{Numbers}
use Rattle.parts.specs.Numbers.{has, set_of}
use Rattle.parts.proofs.Sets.{has_outside, set_of_members}

-- the set of a plain set's numbers has its numbers
pub has-set_of : (s : Numbers) (n : ℕ) → has (set_of (has s)) n ≡ has s n
has-set_of s n =
    set_of_members (has s) n
    ∙ elim (cases_Bool (is_number n)) [
      | inl t ↦ ap (λ b. b && has s n) t
      | inr f ↦ ap (λ b. b && has s n) f ∙ sym (has_outside s n f)
    ]
