use Rattle.std.proofs.Common.{◌≡◌, ◌+◌, not, sym, refl, ◌∙◌}
use Rattle.std.proofs.lemmas.Bool.{and_parts, cond-true, not-true}
use Rattle.protocol.specs.Limits.{is_number}
use Rattle.parts.specs.declared.numbers.Numbers.{Numbers}
use Rattle.parts.specs.Numbers.{has, including, set_of}
use Rattle.parts.proofs.Changes.{with_kept, with_new}
use Rattle.parts.proofs.Sets.{is_set_of, number_bounds, sound_kept, sound_of}
use Rattle.parts.proofs.number_set.NumberSet.with.Goals as goal
use Rattle.parts.proofs.number_set.NumberSet.with.Goals.{After-max-top}

pub returns-then-not-lacks-clause-set : goal.returns-then-not-lacks-clause-set
returns-then-not-lacks-clause-set c = with_kept c.args.self.numbers c.args.self.sound c.args.n (sym c.lacks.ensures.value ∙ c.if-not-lacks.true)

made : (c : After-max-top)
    → ◌≡◌ {A = Numbers} (record { words = c.turned.result.0; count = c.args.self.numbers.count + 1; top = c.max-top.result }) (set_of (including c.args.self.numbers c.args.n))
made c =
    let s = c.args.self in
    let n = c.args.n in
    let t = c.turned.ensures in
    let l = and_parts (is_number n) (not (has s.numbers n)) (sym c.lacks.ensures.value ∙ c.if-not-lacks.false) in
    let b = number_bounds n l.0 in
    with_new s.numbers s.sound n b.0 b.1 (not-true (has s.numbers n) l.1) c.turned.result.0 _ _ t.long t.fits (λ m. rw c.words.ensures.value at (t.turns m)) refl c.max-top.ensures

pub invariant_of-result : goal.invariant_of-result
invariant_of-result c = let k = sound_kept _ (sound_of _ (including c.args.self.numbers c.args.n) (made c)) in record { sound = k.sound; counted = k.counted; topped = k.topped; highest = k.highest; gaps = k.gaps }

pub returns : goal.returns
returns c =
    let s = c.args.self in
    let n = c.args.n in
    let l = sym c.lacks.ensures.value ∙ c.if-not-lacks.false in
    record {
      set = is_set_of _ (including s.numbers n) (made (goal.at.returns c).After-max-top);
      count = sym (cond-true _ _ _ l);
      top = c.max-top.ensures ∙ sym (cond-true _ _ _ (and_parts (is_number n) (not (has s.numbers n)) l).0);
    }
