-- A PDU that is read shows any one changed bit.
use Rattle.std.proofs.Common.{◌≡◌, ℕ, List, IfOk, Ok, Err, Result, sym}
use Rattle.pdu.specs.declared.Accepts.{Accepts}
use Rattle.pdu.specs.Damage.{DamageShows}
use Rattle.pdu.specs.Octets.{Octets}
use Rattle.pdu.specs.Read.{read_of}
use Rattle.pdu.proofs.Framed.{framed_from}
use Rattle.pdu.proofs.Shows.{damage_shows}
use Rattle.wire.specs.declared.fault.WireFault.{WireFault}
use Rattle.wire.specs.declared.pdus.Pdu.{Pdu}
use Rattle.wire.specs.Told.{told_of, said_of}

pub shown : (end : Accepts) (xs : List ℕ) (r : Result Pdu WireFault) → Octets xs → told_of r ≡ read_of end xs → IfOk r (λ _. DamageShows xs)
shown end xs (Ok pdu) octets e = damage_shows xs octets (framed_from end xs (said_of pdu) (sym e))
shown end xs (Err fault) octets e = tt
