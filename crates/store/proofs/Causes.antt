-- An answer by its cause, and the answer itself.
use Rattle.std.proofs.Common.{◌≡◌, ℕ, is_ok, Ok, Err, Result, refl, arith}
use Rattle.protocol.specs.Causes.{Cause}
use Rattle.store.specs.declared.fault.StoreFault.{StoreFault}
use Rattle.store.specs.Faults.{cause_of, causes}

pub is_ok_causes : {X : Type 0} (r : Result X StoreFault) → is_ok (causes r) ≡ is_ok r
is_ok_causes (Ok x) = refl
is_ok_causes (Err e) = refl

pub causes_ok : {X : Type 0} (r : Result X StoreFault) (x : X) → causes r ≡ Ok x → r ≡ Ok x
causes_ok (Ok y) x p = cc
causes_ok (Err e) x p = cc

pub causes_err : {X : Type 0} (r : Result X StoreFault) (k : Cause) → causes r ≡ Err k → (e : StoreFault) × (r ≡ Err e) × (cause_of e ≡ k)
causes_err (Ok x) k p = absurd (let z : ◌≡◌ {A = ℕ} 0 1 = cc in omega arith)
causes_err (Err e) k p = (e, refl, cc)
