use Rattle.std.proofs.Common.{◌≡◌, refl, arith}
use Rattle.bitmap.specs.Words.{holds}
use Rattle.parts.specs.declared.numbers.Numbers.{Numbers}
use Rattle.parts.specs.Numbers.{set_of}
use Rattle.parts.proofs.Made.{words_set}
use Rattle.parts.proofs.Sets.{set_of_is, sound_kept, sound_of}
use Rattle.parts.proofs.number_set.set_of.Goals as goal
use Rattle.parts.proofs.number_set.set_of.Goals.{After-top-top}

made : (c : After-top-top) → ◌≡◌ {A = Numbers} (record { words = c.args.words.0; count = c.count-count.result; top = c.top-top.result }) (set_of (holds c.args.words.0))
made c = set_of_is (holds c.args.words.0) c.args.words.0 c.count-count.result c.top-top.result (omega arith) c.count-count.ensures.fits (λ k a b. refl) c.count-count.ensures.count c.top-top.ensures.value

pub invariant_of-result : goal.invariant_of-result
invariant_of-result c =
    let k = sound_kept _ (sound_of _ (holds c.args.words.0) (made (goal.at.invariant_of-result c).After-top-top)) in
    record { sound = k.sound; counted = k.counted; topped = k.topped; highest = k.highest; gaps = k.gaps }

pub returns-clause-set : goal.returns-clause-set
returns-clause-set c = words_set c.args.words.0 _ (sound_of _ (holds c.args.words.0) (made (goal.at.returns-clause-set c).After-top-top)) refl
