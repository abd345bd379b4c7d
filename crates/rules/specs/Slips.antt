-- Slips that this protocol invites, each as a small law that they cannot happen.
use Rattle.std.specs.Prelude.{◌≡◌, ℕ, ◌<◌, true, List, [], ◌∷◌, is_some, None, slice_index_or}
use Rattle.pdu.specs.Said.{Address}
use Rattle.parts.specs.declared.numbers.Numbers.{Numbers}
use Rattle.parts.specs.Numbers.{has}
use Rattle.rules.specs.declared.sender.Destination.{Destination}
use Rattle.rules.specs.Marks.{missing_after}
use Rattle.rules.specs.ReceiverState.{ReceiverModel}
use Rattle.rules.specs.ReceiverTake.{take_address}
use Rattle.rules.specs.SenderState.{is_complete_at}
use Rattle.rules.specs.SenderTake.{heard_at}

-- Whatever list comes, early or late, a destination that is complete stays complete.
abbrev pub CompleteStays : Type 0
CompleteStays = (total : ℕ) (list : List ℕ) (d : Destination) → is_complete_at d ≡ true → is_complete_at (heard_at total list d) ≡ true

-- Whatever Address comes, an empty one too, every record stays.
abbrev pub RecordsStay : Type 0
RecordsStay = (r : ReceiverModel) (a : Address) (k : ℕ) → is_some (slice_index_or (take_address r a).0.table.records k None) ≡ is_some (slice_index_or r.table.records k None)

-- a list that rises from above a number on
abbrev pub RisesFrom : ℕ → List ℕ → Type 0
RisesFrom a [] = Unit {0}
RisesFrom a (b ∷ xs) = (a < b) × RisesFrom b xs

-- the last of a list that begins with a
abbrev pub last_of : ℕ → List ℕ → ℕ
last_of a [] = a
last_of a (b ∷ xs) = last_of b xs

-- A rising list, which does not end with its lowest number again, says nothing of the numbers above its last.
abbrev pub AboveLastStays : Type 0
AboveLastStays =
    (missing : Numbers) (a : ℕ) (xs : List ℕ) (n : ℕ) → RisesFrom a xs → last_of a xs < n → missing_after missing (a ∷ xs) n ≡ has missing n
