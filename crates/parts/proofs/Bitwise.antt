-- Words joined bit by bit.
use Rattle.std.proofs.Common.{◌≡◌, ◌-◌, ◌^◌, ◌<◌, ◌&&◌, ℕ, List, get_or, ap, ◌∙◌}
use lib.Bits.{bit_and, bit_or}
use Rattle.bitmap.specs.Words.{bit_of}
use Rattle.bitmap.proofs.Bits.{bit_and_lem, bit_or_lem, bit_not}
use Rattle.bitmap.proofs.Joins.{joined-holds}
use Rattle.protocol.specs.Limits.{word_count}
use Rattle.parts.specs.Joints.{Joint, Joins, JoinsBits, joins}
use Rattle.parts.specs.Joints.Joint.{And, AndNot, Or}

pub lacks : (w v : ℕ) → v < 2 ^ 64 → JoinsBits AndNot w v (bit_and w (2 ^ 64 - 1 - v))
lacks w v h = record { at = λ b l. bit_and_lem w (2 ^ 64 - 1 - v) b ∙ ap (λ t. bit_of w b && t) (bit_not 64 v b h l) }

pub both : (w v x : ℕ) → x ≡ bit_and w v → JoinsBits And w v x
both w v x e = record { at = λ b l. ap (λ y. bit_of y b) e ∙ bit_and_lem w v b }

pub either : (w v x : ℕ) → x ≡ bit_or w v → JoinsBits Or w v x
either w v x e = record { at = λ b l. ap (λ y. bit_of y b) e ∙ bit_or_lem w v b }

-- words that are joined one by one
pub words_joined : (how : Joint) (us vs ws : List ℕ) → ((j : ℕ) → j < word_count → JoinsBits how (get_or us j 0) (get_or vs j 0) (get_or ws j 0)) → Joins how us vs ws
words_joined how us vs ws each = record { at = joined-holds (joins how) us vs ws word_count (λ j h. (each j h).at) }
