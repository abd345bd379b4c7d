-- What a closure that changes nothing it captures makes and finds: an array's elements, and the last of a list that passes.
use Rattle.std.proofs.Common.{◌≡◌, ℕ, zero, suc, ◌+◌, ◌-◌, ◌<◌, ◌≤◌, Bool, true, false, List, [], ◌∷◌, length, get_or, Some, None, Option, MatchOption, Bor, Iter, refl, sym, ap, ◌∙◌, subst, inl, inr, arith, reverse}
use Rattle.std.proofs.lemmas.Iterator.{IsFirst-from_position, YieldsList}
use Rattle.std.proofs.lemmas.Iterator.Consumers.{YieldsList-from_shown}
use Rattle.std.proofs.lemmas.List.{get_or-reverse, length-reverse, reverse-append}
use Rattle.std.specs.Iterator.{FindsPositionBack, YieldsThen}
use Rattle.std.specs.List.{AllWithin, FoldsTo, HoldsAt}
use Rattle.std.specs.Option.{IsSomeAnd}
use Rattle.std.specs.Slice.Iter.{iter_rest, iter_steps_back}
use Rattle.std.proofs.lemmas.Bool.{cases_eq}
use Rattle.std.specs.Array.{IsFromFnResultFrom}
use Rattle.std.specs.Fn.{Called}
use denote.Param.Members.{Mut}

-- what holds of each call holds of each element
pub each_made : {F B : Type 0} (g : Mut F (ℕ × Unit {0}) B) (P : ℕ → B → Type 0) (f : F)
    → ((i : ℕ) (y : B) (q : F) → Called g f (i, tt) y q → (q ≡ f) × P i y)
    → (ys : List B) (i n : ℕ) (d : B) → IsFromFnResultFrom g f ys i n → (j : ℕ) → i ≤ j → j < i + n → P j (get_or ys j d)
each_made g P f step ys i zero d h j a b = absurd (let z : ⊥ = omega arith in z)
each_made g P f step ys i (suc n) d h j a b =
    let s = step i h.1 h.0 h.3 in
    elim (cases_eq j i) [
      | inl e ↦ rw e (subst (P i) (sym (h.2.1 d)) s.1)
      | inr ne ↦ each_made g P f step ys (i + 1) n d (subst (λ q. IsFromFnResultFrom g q ys (i + 1) n) s.0 h.4) j (omega arith) (omega arith)
    ]

-- the last that passes, from the back
abbrev pub IsLast : {A : Type 0} → (A → Type 0) → (A → Type 0) → List A → Option ℕ → Type 0
IsLast Yes No xs r = MatchOption r (AllWithin No xs 0 (length xs)) (λ i. (i < length xs) × HoldsAt Yes xs i × AllWithin No xs (i + 1) (length xs))

-- place k from the back
at_back : {A : Type 0} (xs : List A) (P : A → Type 0) (k : ℕ) (d : A) → k < length xs → P (get_or (reverse xs) (length xs - 1 - k) d) → P (get_or xs k d)
at_back xs P k d l h =
    let e : length xs - 1 - (length xs - 1 - k) ≡ k = omega arith in
    subst (λ j. P (get_or xs j d)) e (rw (get_or-reverse xs (length xs - 1 - k) d (omega arith)) at h)

module _ {A F : Type 0} (g : Mut F (Bor A × Unit {0}) Bool) (s u : Iter A) (f : F) (Yes No : A → Type 0) (xs : List A) (seen : iter_rest s ≡ xs)
    (yes : (x : Bor A) (q : F) → Called g f (x, tt) true q → Yes x.now) (no : (x : Bor A) (q : F) → Called g f (x, tt) false q → (q ≡ f) × No x.now) where
  road : YieldsList iter_steps_back (λ y. y.now) s (reverse xs)
  road = subst (λ k. YieldsList iter_steps_back (λ y. y.now) s (reverse k)) seen
      (YieldsList-from_shown iter_steps_back (λ y. y.now) (λ t. reverse (iter_rest t)) (λ t w p. length-reverse _ ∙ p.0)
      (λ t x w p. ap reverse p ∙ reverse-append (iter_rest w) (x.now ∷ [])) s)

  found : (r : Option ℕ) (zs : List (Bor A)) (o : Option (Bor A)) (j : F) → YieldsThen iter_steps_back s zs o u → FoldsTo (λ p x q. Called g p (x, tt) false q) f zs j
      → MatchOption o (r ≡ None) (λ x. IsSomeAnd r (λ i. i + 1 + length zs ≡ length xs) × ((h : F) × Called g j (x, tt) true h)) → IsLast Yes No xs r
  found r zs None j y k m =
      let a = IsFirst-from_position u f None Yes No (zs, None, j, y, k, refl) road yes no in
      rw m (λ i d b l. at_back xs No i d l (a (length xs - 1 - i) d (omega arith) (omega (arith, length-reverse xs))))
  found None zs (Some x) j y k m = absurd m.0
  found (Some i) zs (Some x) j y k m =
      let a = IsFirst-from_position u f (Some (length zs)) Yes No (zs, Some x, j, y, k, (refl, m.1)) road yes no in
      let e : length xs - 1 - i ≡ length zs = omega (arith, m.0) in (
        omega (arith, m.0),
        (λ d. at_back xs Yes i d (omega (arith, m.0)) (rw e (a.1 d))),
        λ n d b l. at_back xs No n d l (a.2 (length xs - 1 - n) d (omega arith) (omega (arith, m.0))),
      )

pub last-from_rposition : {A F : Type 0} {g : Mut F (Bor A × Unit {0}) Bool} {s : Iter A} (u : Iter A) (f : F) (r : Option ℕ) (Yes No : A → Type 0) (xs : List A) (n : ℕ)
    → FindsPositionBack iter_steps_back g s f n r u → iter_rest s ≡ xs → n ≡ length xs
    → ((x : Bor A) (q : F) → Called g f (x, tt) true q → Yes x.now) → ((x : Bor A) (q : F) → Called g f (x, tt) false q → (q ≡ f) × No x.now) → IsLast Yes No xs r
last-from_rposition {g = g} {s = s} u f r Yes No xs n h seen e hit miss =
    let h' = subst (λ m. FindsPositionBack iter_steps_back g s f m r u) e h in found g s u f Yes No xs seen hit miss r h'.0 h'.1 h'.2 h'.3 h'.4 h'.5
