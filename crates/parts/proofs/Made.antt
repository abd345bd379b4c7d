-- Sets of the words that an operation makes.
use Rattle.std.proofs.Common.{◌≡◌, ℕ, ◌<◌, ◌≤◌, Bool, not, ◌&&◌, ◌||◌, List, sym, ap, ◌∙◌, ap₂}
use Rattle.bitmap.specs.Words.{holds, words_of}
use Rattle.bitmap.proofs.Words.{holds_words_of}
use Rattle.protocol.specs.Limits.{is_number, most_numbers, word_count}
use Rattle.parts.specs.declared.numbers.Numbers.{Numbers}
use Rattle.parts.specs.Joints.{Joins}
use Rattle.parts.specs.Joints.Joint.{And, AndNot, Or}
use Rattle.parts.specs.Numbers.{Holding, IsSetOf, Sound, common, has, lacking, united, up_to, without}
use Rattle.parts.proofs.Sets.{has-holds, held, is_set_of, number, set_of_same}

-- a sound set of words that hold the numbers that pass
set_by : (p : ℕ → Bool) (r : Numbers) → Sound r → ((k : ℕ) → 0 < k → k ≤ most_numbers → holds r.words k ≡ p k) → IsSetOf p r
set_by p r e h = is_set_of r p (e ∙ set_of_same (has r) p (λ k a b. has-holds r k a b ∙ h k a b))

pub up_to_set : (n : ℕ) (r : Numbers) → Sound r → Holding (up_to n) r.words → IsSetOf (up_to n) r
up_to_set n r e h = set_by (up_to n) r e h.at

module _ (s t r : Numbers) (e : Sound r) where
  pub common_set : Joins And s.words t.words r.words → IsSetOf (common s t) r
  common_set j = set_by (common s t) r e (λ k a b. j.at k a b ∙ ap₂ ◌&&◌ (held s k a b) (held t k a b))

  pub united_set : Joins Or s.words t.words r.words → IsSetOf (united s t) r
  united_set j = set_by (united s t) r e (λ k a b. j.at k a b ∙ ap₂ ◌||◌ (held s k a b) (held t k a b))

  pub without_set : Joins AndNot s.words t.words r.words → IsSetOf (without s t) r
  without_set j = set_by (without s t) r e (λ k a b. j.at k a b ∙ ap₂ (λ x y. x && not y) (held s k a b) (held t k a b))

module _ (s r : Numbers) (e : Sound r) where
  pub lacking_set : (total : ℕ) → Joins AndNot (words_of (up_to total) word_count) s.words r.words → IsSetOf (lacking s total) r
  lacking_set total j =
      set_by (lacking s total) r e (λ k a b. j.at k a b ∙ ap₂ (λ x y. x && not y) (holds_words_of (up_to total) word_count k a b) (held s k a b))

  pub within_set : (p : ℕ → Bool) → Joins And s.words (words_of p word_count) r.words → IsSetOf (λ k. has s k && p k) r
  within_set p j =
      set_by (λ k. has s k && p k) r e (λ k a b. j.at k a b ∙ ap₂ ◌&&◌ (held s k a b) (holds_words_of p word_count k a b))

-- the set of all that words hold
pub words_set : (ws : List ℕ) (r : Numbers) → Sound r → r.words ≡ ws → IsSetOf (λ k. is_number k && holds ws k) r
words_set ws r e d =
    set_by (λ k. is_number k && holds ws k) r e (λ k a b. ap (λ us. holds us k) d ∙ sym (ap (λ t. t && holds ws k) (number k a b)))
