-- The cause of each refusal of a store.
use Rattle.std.specs.Prelude.{[], ◌∷◌, Ok, Err, Result}
use Rattle.protocol.specs.Causes.{Cause, cause}
use Rattle.store.specs.declared.fault.StoreFault.{StoreFault}
use Rattle.store.specs.declared.fault.StoreFault.TheVariants.{Full, Fragment, Buffer, Place, Size}

abbrev pub cause_of : StoreFault → Cause
cause_of (Full limit) = cause 10 (limit ∷ [])
cause_of (Fragment width) = cause 11 (width ∷ [])
cause_of (Buffer needed) = cause 12 (needed ∷ [])
cause_of (Place row number) = cause 20 (row ∷ number ∷ [])
cause_of (Size value) = cause 21 (value ∷ [])

-- an answer with its fault told by the cause
abbrev pub causes : {X : Type 0} → Result X StoreFault → Result X Cause
causes (Ok x) = Ok x
causes (Err e) = Err (cause_of e)
