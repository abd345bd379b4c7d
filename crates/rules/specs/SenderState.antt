-- How a sender stands, and the parts of it that its rules speak of.
use Rattle.std.specs.Prelude.{ℕ, Bool, true, false, cond, ◌&&◌, List, ◌++◌, map, take, drop, is_some, Some, None, Option, ◌==◌, slice_index_or, slice_set}
use Rattle.std.specs.Option.{option_map, unwrap_or}
use Rattle.parts.specs.declared.numbers.Numbers.{Numbers}
use Rattle.parts.specs.Numbers.{none, set_of}
use Rattle.parts.specs.Places.{first_place}
use Rattle.contents.specs.Contents.{Contents}
use Rattle.rules.specs.declared.answers.Standing.{Standing}
use Rattle.rules.specs.declared.answers.Standing.TheVariants.{Waiting as Open, Complete, Expired as Lapsed}
use Rattle.rules.specs.declared.sender.Enrolled.{Enrolled}
use Rattle.rules.specs.declared.sender.Destination.{Destination}
use Rattle.rules.specs.declared.sender.Message.{Message}
use Rattle.rules.specs.declared.sender.SenderRow.{SenderRow}
use Rattle.rules.specs.declared.sender.SenderRow.TheVariants.{Vacant, Draft, Sending, Waiting, Ending, Closing, Ended}
use Rattle.rules.specs.declared.sender.SenderTable.{SenderTable}
use Rattle.rules.specs.Lists.{any_of, those}
use Rattle.rules.specs.Stores.{freed}

-- A sender is its table and what its store holds.
pub record SenderModel : Type 0 where
  pub table : SenderTable
  pub held : Contents

-- Each place of a roster is free, or that of an enrolled destination.
abbrev pub Roster : Type 0
Roster = List (Option Enrolled)

-- == values with one part changed ==

abbrev pub with_roster : SenderTable → Roster → SenderTable
with_roster t roster = record { source = t.source; next = t.next; now = t.now; roster = roster; rows = t.rows }

abbrev pub with_rows : SenderTable → List SenderRow → SenderTable
with_rows t rows = record { source = t.source; next = t.next; now = t.now; roster = t.roster; rows = rows }

abbrev pub with_table : SenderModel → SenderTable → SenderModel
with_table s t = record { table = t; held = s.held }

-- the row at a place
abbrev pub row_at : SenderModel → ℕ → SenderRow
row_at s i = slice_index_or s.table.rows i Vacant

abbrev pub with_row_at : SenderModel → ℕ → SenderRow → SenderModel
with_row_at s i row = with_table s (with_rows s.table (slice_set s.table.rows i row))

-- A row vacated or ended frees its store row.
abbrev pub with_row_freed : SenderModel → ℕ → SenderRow → SenderModel
with_row_freed s i row = record { table = with_rows s.table (slice_set s.table.rows i row); held = freed s.held i }

-- == the roster ==

-- a place that is free, and what a read past the end of the roster would give
abbrev pub no_place : Option Enrolled
no_place = None

-- whether a place is that of a destination
abbrev pub is_place_of : ℕ → Option Enrolled → Bool
is_place_of destination None = false
is_place_of destination (Some e) = e.destination == destination

-- the place of an enrolled destination
unfoldable pub place_of : Roster → ℕ → Option ℕ
place_of roster destination = first_place (is_place_of destination) roster

-- whether a destination is enrolled
abbrev pub is_enrolled : Roster → ℕ → Bool
is_enrolled roster destination = is_some (place_of roster destination)

-- whether a place is that of a destination that is answering
abbrev pub answers_as : ℕ → Option Enrolled → Bool
answers_as destination None = false
answers_as destination (Some e) = e.destination == destination && e.answering

-- whether a destination is enrolled and answering
unfoldable pub is_answering : Roster → ℕ → Bool
is_answering roster destination = any_of (answers_as destination) roster

-- a place switched to answering or silent
abbrev pub switched : Bool → Option Enrolled → Option Enrolled
switched answering = option_map (λ e. record { destination = e.destination; answering = answering; submitted = e.submitted })

-- the roster with the place of a destination switched, if it has one
abbrev pub switched_at : Roster → Bool → Option ℕ → Roster
switched_at roster answering None = roster
switched_at roster answering (Some k) = slice_set roster k (switched answering (slice_index_or roster k no_place))

-- == rows ==

-- whether a row is vacant
abbrev pub is_vacant : SenderRow → Bool
is_vacant Vacant = true
is_vacant (Draft i n) = false
is_vacant (Sending m a d w r) = false
is_vacant (Waiting m d w r) = false
is_vacant (Ending m d c) = false
is_vacant (Closing m) = false
is_vacant (Ended m) = false

-- how many fragments the draft of an identity has, where a row is that draft
abbrev pub draft_count : ℕ → SenderRow → Option ℕ
draft_count identity Vacant = None
draft_count identity (Draft i n) = cond (i == identity) (Some n) None
draft_count identity (Sending m a d w r) = None
draft_count identity (Waiting m d w r) = None
draft_count identity (Ending m d c) = None
draft_count identity (Closing m) = None
draft_count identity (Ended m) = None

-- whether a row is the draft of an identity
abbrev pub is_draft_of : ℕ → SenderRow → Bool
is_draft_of identity row = is_some (draft_count identity row)

-- A draft is known by Source_ID and identity.
unfoldable pub draft_row : SenderTable → (source identity : ℕ) → Option ℕ
draft_row t source identity = cond (source == t.source) (first_place (is_draft_of identity) t.rows) None

-- how many fragments the draft in a row has
abbrev pub fragments_at : SenderModel → ℕ → ℕ → ℕ
fragments_at s identity i = unwrap_or (draft_count identity (row_at s i)) 0

-- the message of a row that is sending, waiting or ending
abbrev pub underway : SenderRow → Option Message
underway Vacant = None
underway (Draft i n) = None
underway (Sending m a d w r) = Some m
underway (Waiting m d w r) = Some m
underway (Ending m d c) = Some m
underway (Closing m) = None
underway (Ended m) = None

-- the message of a submitted row
abbrev pub message_of : SenderRow → Option Message
message_of Vacant = None
message_of (Draft i n) = None
message_of (Sending m a d w r) = Some m
message_of (Waiting m d w r) = Some m
message_of (Ending m d c) = Some m
message_of (Closing m) = Some m
message_of (Ended m) = Some m

-- == the destinations of a message ==

-- what a read past the end of the destinations would give
abbrev pub no_destination : Destination
no_destination = record { destination = 0; sequence = 0; standing = Open; missing = set_of none }

-- Of 16 places the first are in use.
abbrev pub destinations_of : Message → List Destination
destinations_of m = take m.count m.destinations

-- each destination of a message changed
abbrev pub with_each : (Destination → Destination) → Message → Message
with_each f m = record {
  identity = m.identity;
  total = m.total;
  priority = m.priority;
  expiry = m.expiry;
  destinations = map f (destinations_of m) ++ drop m.count m.destinations;
  count = m.count;
}

-- a destination with another standing and other numbers missing
abbrev pub with_standing : Standing → Numbers → Destination → Destination
with_standing standing missing d = record { destination = d.destination; sequence = d.sequence; standing = standing; missing = missing }

-- neither complete nor expired
abbrev pub is_waiting : Standing → Bool
is_waiting Open = true
is_waiting Complete = false
is_waiting Lapsed = false

-- complete
abbrev pub is_complete : Standing → Bool
is_complete Open = false
is_complete Complete = true
is_complete Lapsed = false

-- A destination is open until it is complete or expired.
abbrev pub is_open : Destination → Bool
is_open d = is_waiting d.standing

-- whether a destination is complete
abbrev pub is_complete_at : Destination → Bool
is_complete_at d = is_complete d.standing

-- whether this is the destination of an identity
abbrev pub names : ℕ → Destination → Bool
names destination d = d.destination == destination

-- the open destinations of a message
abbrev pub open_of : Message → List Destination
open_of m = those is_open (destinations_of m)

-- the open destinations that are answering
abbrev pub open_answering : Roster → Message → List Destination
open_answering roster m = those (λ d. is_answering roster d.destination) (open_of m)
