use Rattle.std.proofs.Common.{◌≡◌, ◌-◌, true, cond, eqb, sym, ◌∙◌, arith}
use Rattle.std.proofs.lemmas.Bool.{cond-true}
use Rattle.bitmap.specs.Passing.{greatest}
use Rattle.parts.specs.declared.numbers.Numbers.{Numbers}
use Rattle.parts.specs.Numbers.{excluding, has, set_of}
use Rattle.parts.proofs.Changes.{Turned, turned_top, without_new, without_some}
use Rattle.parts.proofs.Sets.{is_set_of, sound_kept, sound_of}
use Rattle.parts.proofs.number_set.NumberSet.without.Goals as goal
use Rattle.parts.proofs.number_set.NumberSet.without.Goals.{After-top_without-top}

turns : (c : After-top_without-top) → Turned c.args.self.numbers c.args.n c.turned-left.result.0
turns c m = rw c.words.ensures.value at (c.turned-left.ensures.turns m)

topped : (c : After-top_without-top) → c.top_without-top.result ≡ cond (eqb c.args.n c.args.self.numbers.top) (greatest (has c.args.self.numbers) (c.args.n - 1)) c.args.self.numbers.top
topped c =
    let s = c.args.self in
    c.top_without-top.ensures.value ∙ turned_top s.numbers s.sound c.args.n (sym c.contains.ensures.value ∙ c.if-not-contains.false) c.turned-left.result.0 (turns c)

made : (c : After-top_without-top)
    → ◌≡◌ {A = Numbers} (record { words = c.turned-left.result.0; count = c.args.self.numbers.count - 1; top = c.top_without-top.result }) (set_of (excluding c.args.self.numbers c.args.n))
made c =
    let s = c.args.self in
    let n = c.args.n in
    let t = c.turned-left.ensures in
    let held : has s.numbers n ≡ true = sym c.contains.ensures.value ∙ c.if-not-contains.false in
    let some = without_some s.numbers s.sound n held in
    without_new s.numbers s.sound n held c.turned-left.result.0 _ _ t.long t.fits (turns c) (omega arith) (topped c)

pub invariant_of-result : goal.invariant_of-result
invariant_of-result c = let k = sound_kept _ (sound_of _ (excluding c.args.self.numbers c.args.n) (made (goal.at.invariant_of-result c).After-top_without-top)) in record { sound = k.sound; counted = k.counted; topped = k.topped; highest = k.highest; gaps = k.gaps }

pub returns : goal.returns
returns c =
    let s = c.args.self in
    let n = c.args.n in
    let w = made (goal.at.returns c).After-top_without-top in
    record {
      set = is_set_of _ (excluding s.numbers n) w;
      count = sym (cond-true _ _ _ (sym c.contains.ensures.value ∙ c.if-not-contains.false));
      top = topped (goal.at.returns c).After-top_without-top;
    }
