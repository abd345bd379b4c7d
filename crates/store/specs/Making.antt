-- What the making of a store promises. Of memory it says nothing but that, for want of it, nothing is made.
use Rattle.std.specs.Prelude.{◌≡◌, ℕ, true, Ok, Err, Option, Result, MatchOption}
use Rattle.contents.specs.Answers.{making_cause}
use Rattle.contents.specs.Contents.{Contents, empty_store, limit_fits, width_fits}
use Rattle.store.specs.declared.fault.StoreFault.{StoreFault}
use Rattle.store.specs.Faults.{cause_of}

-- an empty store of that width and limit, which are in bounds
abbrev pub Fresh : {S : Type 0} → (S → Contents) → (width limit : ℕ) → S → Type 0
Fresh meaning w l s = (meaning s ≡ empty_store w l) × (width_fits w ≡ true) × (limit_fits l ≡ true)

-- A store is made, or the making is refused.
abbrev pub Making : {S : Type 0} → (S → Contents) → (width limit : ℕ) → Result S StoreFault → Type 0
Making meaning w l (Ok s) = Fresh meaning w l s
Making meaning w l (Err e) = cause_of e ≡ making_cause w l

-- The same for a place that is to be filled. A refusal leaves it as it was.
abbrev pub Filling : {S : Type 0} → (S → Contents) → (width limit : ℕ) → (before after : Option S) → Result (Unit {0}) StoreFault → Type 0
Filling meaning w l before after (Ok u) = MatchOption after ⊥ (Fresh meaning w l)
Filling meaning w l before after (Err e) = (cause_of e ≡ making_cause w l) × (after ≡ before)
