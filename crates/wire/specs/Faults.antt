-- The number and the values of each fault.
use Rattle.std.specs.Prelude.{[], ◌∷◌, Ok, Err, Result}
use Rattle.protocol.specs.Causes.{Cause, cause}
use Rattle.wire.specs.declared.fault.WireFault.{WireFault}
use Rattle.wire.specs.declared.fault.WireFault.TheVariants.{Size, Length, Checksum, PduType, Field, Buffer}

abbrev pub cause_of : WireFault → Cause
cause_of (Size length) = cause 1 (length ∷ [])
cause_of (Length field length) = cause 2 (field ∷ length ∷ [])
cause_of (Checksum field sum) = cause 3 (field ∷ sum ∷ [])
cause_of (PduType number) = cause 4 (number ∷ [])
cause_of (Field place) = cause 5 (place ∷ [])
cause_of (Buffer needed) = cause 12 (needed ∷ [])

-- an answer with the cause in place of the fault
abbrev pub causes : {X : Type 0} → Result X WireFault → Result X Cause
causes (Ok x) = Ok x
causes (Err fault) = Err (cause_of fault)
