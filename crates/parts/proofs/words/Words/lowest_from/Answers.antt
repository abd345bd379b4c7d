use Rattle.std.proofs.Common.{◌≡◌, ℕ, ◌+◌, ◌-◌, ◌<◌, ◌≤◌, ◌^◌, List, get_or, length, take, drop, sym, ap, ◌∙◌, inl, inr, rules, tests, arith, length-drop}
use Rattle.std.proofs.lemmas.Bool.{cases_lt}
use Rattle.std.proofs.lemmas.Iterator.{IsFirst-from_position, YieldsList-from_slice}
use Rattle.std.proofs.lemmas.List.{get_or-drop, get_or_past, take_rest}
use Rattle.std.specs.Slice.Iter.{iter_rest}
use Rattle.protocol.specs.Limits.{word_count}
use Rattle.bitmap.proofs.Steps.{next-none, next_found}
use Rattle.parts.proofs.words.Words.lowest_from.Goals as goal
use Rattle.parts.proofs.words.Words.lowest_from.Goals.{After-iter}

-- a word of those from one on
word : (ws : List ℕ) (n j : ℕ) → n ≤ j → get_or ws j 0 ≡ get_or (drop n ws) (j - n) 0
word ws n j l = let e : n + (j - n) ≡ j = omega arith in sym (get_or-drop n ws (j - n) 0 ∙ ap (λ i. get_or ws i 0) e)

behind : (c : After-iter) → iter_rest c.iter.result ≡ drop c.args.first c.args.self.now.0
behind c =
    let ws = c.args.self.now.0 in
    let n = c.args.first in
    let e : word_count - n ≡ length ws - n = omega arith in
    c.iter.ensures.rest ∙ ap (λ m. take m (drop n ws)) e ∙ take_rest ws n

pub returns-in_err-i : goal.returns-in_err-i
returns-in_err-i c =
    let ws = c.args.self.now.0 in
    let n = c.args.first in
    let f = IsFirst-from_position _ _ c.position.result (λ w. 0 < w) (λ w. w ≡ 0) c.position.ensures.ran (YieldsList-from_slice (drop n ws) (behind (goal.at.returns-in_err-i c).After-iter)) (λ x q k. search (rules, tests)) (λ x q k. search (rules, tests)) in
    let g = rw c.in_err-i.was at f in
    record {
      next = rw c.from_residual.ensures
          (next-none ws n
          (λ j l.
          elim (cases_lt j (length ws)) [
            | inl s ↦ word ws n j l ∙ g (j - n) 0 (omega arith) (omega (arith, length-drop n ws))
            | inr s ↦ get_or_past ws j 0 s
          ]));
    }

pub returns : goal.returns
returns c =
    let ws = c.args.self.now.0 in
    let n = c.args.first in
    let i = c.in_ok-i.field-0 in
    let f = IsFirst-from_position _ _ c.position.result (λ w. 0 < w) (λ w. w ≡ 0) c.position.ensures.ran (YieldsList-from_slice (drop n ws) (behind (goal.at.returns c).After-iter)) (λ x q k. search (rules, tests)) (λ x q k. search (rules, tests)) in
    let g = rw c.in_ok-i.was at f in
    let fits : get_or ws (n + i) 0 < 2 ^ 64 = omega (arith, c.type_inv.self) in
    let some : 0 < get_or ws (n + i) 0 = rw get_or-drop at (g.1 0) in
    record { next = next_found ws n (n + i) _ fits some (omega arith) (λ j a b. word ws n j a ∙ g.2 (j - n) 0 (omega arith) (omega arith)) (omega arith) }
