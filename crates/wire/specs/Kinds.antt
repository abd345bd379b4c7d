-- The numbers and the names of the types of PDUs.
use Rattle.std.specs.Prelude.{ℕ, List, cond, ◌==◌, Ok, Err, Result, codes}
use Rattle.pdu.specs.Types.{data_type, ack_type, address_type, discard_type, extra_address_type}
use Rattle.wire.specs.declared.kind.Kind.{Kind}
use Rattle.wire.specs.declared.kind.Kind.TheVariants.{Data, Ack, Address, Discard, ExtraAddress}
use Rattle.wire.specs.declared.kind.UnknownKind.{UnknownKind}

abbrev pub kind_number : Kind → ℕ
kind_number Data = data_type
kind_number Ack = ack_type
kind_number Address = address_type
kind_number Discard = discard_type
kind_number ExtraAddress = extra_address_type

-- the type with a number, if there is one
abbrev pub kind_of : ℕ → Result Kind UnknownKind
kind_of n =
    cond (n == data_type) (Ok Data)
    (cond (n == ack_type) (Ok Ack)
    (cond (n == address_type) (Ok Address)
    (cond (n == discard_type) (Ok Discard)
    (cond (n == extra_address_type) (Ok ExtraAddress)
    (Err (record { 0 = n }))))))

abbrev pub kind_name : Kind → List ℕ
kind_name Data = codes "Data"
kind_name Ack = codes "ACK"
kind_name Address = codes "Address"
kind_name Discard = codes "Discard"
kind_name ExtraAddress = codes "Extra_Address"
