-- A walk through destinations that have to rise.
use Rattle.std.proofs.Common.{◌≡◌, ℕ, Bool, false, cond, leb, List, [], ◌∷◌, Some, None, Option, sym, refl, ap, ◌∙◌, subst}
use Rattle.std.proofs.lemmas.Iterator.{YieldsList}
use Rattle.std.specs.Iterator.{AlwaysYields}
use Rattle.pdu.specs.Read.{unrisen, unrisen_after}
use Rattle.pdu.specs.Said as Said
use Rattle.wire.specs.declared.views.Destination.{Destination}
use Rattle.wire.specs.Views.{destination_in}

-- the first that is not above the one before it, if one stands before
abbrev pub unrisen_from : Option ℕ → List Said.Destination → Option ℕ
unrisen_from None ds = unrisen ds
unrisen_from (Some before) ds = unrisen_after before ds

abbrev pub is_unrisen : Option ℕ → ℕ → Bool
is_unrisen None d = false
is_unrisen (Some before) d = leb d before

one_more : (before : Option ℕ) (d : Said.Destination) (ds : List Said.Destination) → unrisen_from before (d ∷ ds) ≡ cond (is_unrisen before d.destination) (Some d.place) (unrisen_after d.destination ds)
one_more None d ds = refl
one_more (Some before) d ds = refl

none_left : (before : Option ℕ) → unrisen_from before [] ≡ None
none_left None = refl
none_left (Some before) = refl

-- the destinations behind the one that an iterator gives
pub record Behind {S : Type 0} (steps : S → Option Destination → S → Type 0) (t : S) (x : Destination) (before : Option ℕ) (ds : List Said.Destination) : Type 0 where
  pub rest : List Said.Destination
  pub come : AlwaysYields steps destination_in t rest
  pub goes : unrisen_from before ds ≡ cond (is_unrisen before x.destination) (Some x.place) (unrisen_after x.destination rest)

pub behind : {S : Type 0} (steps : S → Option Destination → S → Type 0) (s t : S) (o : Option Destination) (x : Destination) (before : Option ℕ) (ds : List Said.Destination)
    → o ≡ Some x → steps s o t → AlwaysYields steps destination_in s ds → Behind steps t x before ds
behind steps s t o x before [] is h e = absurd (e x t (subst (λ r. steps s r t) is h))
behind steps s t o x before (d ∷ ds) is h e =
    let now = e.1 x t (subst (λ r. steps s r t) is h) in
    record { rest = ds; come = now.1; goes = ap (λ y. unrisen_from before (y ∷ ds)) (sym now.0) ∙ one_more before (destination_in x) ds }

pub at_end : {S : Type 0} (steps : S → Option Destination → S → Type 0) (s t : S) (o : Option Destination) (before : Option ℕ) (ds : List Said.Destination)
    → o ≡ None → steps s o t → AlwaysYields steps destination_in s ds → unrisen_from before ds ≡ None
at_end steps s t o before [] is h e = none_left before
at_end steps s t o before (d ∷ ds) is h e = absurd (e.0 t (subst (λ r. steps s r t) is h))

pub listed : {S A B : Type 0} {steps : S → Option A → S → Type 0} {v : A → B} {s : S} {ys : List B} → YieldsList steps v s ys → AlwaysYields steps v s ys
listed road = road.runs
