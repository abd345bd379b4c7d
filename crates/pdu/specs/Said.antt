-- What PDUs say, as plain values.
use Rattle.std.specs.Prelude.{ℕ, List}

pub record Data : Type 0 where
  pub priority : ℕ
  pub number : ℕ
  pub source : ℕ
  pub message : ℕ
  pub fragment : List ℕ

-- one destination of an Address, and the place where it stands
pub record Destination : Type 0 where
  pub place : ℕ
  pub destination : ℕ
  pub sequence : ℕ

-- An Address or an Extra_Address. `part` is 0 if this is the only part; `reserved` octets follow each destination.
pub record Address : Type 0 where
  pub priority : ℕ
  pub type : ℕ
  pub part : ℕ
  pub total : ℕ
  pub source : ℕ
  pub message : ℕ
  pub expiry : ℕ
  pub reserved : ℕ
  pub destinations : List Destination

pub record Discard : Type 0 where
  pub priority : ℕ
  pub source : ℕ
  pub message : ℕ

-- one entry of an ACK: the place where it stands, a message, and the numbers listed for it
pub record Entry : Type 0 where
  pub place : ℕ
  pub source : ℕ
  pub message : ℕ
  pub numbers : List ℕ

pub record Ack : Type 0 where
  pub priority : ℕ
  pub sender : ℕ
  pub entries : List Entry

pub data Said : Type 0 where
  said_data : Data → Said
  said_address : Address → Said
  said_discard : Discard → Said
  said_ack : Ack → Said
