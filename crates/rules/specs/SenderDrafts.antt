-- A sender is made, enrols destinations, and fills and submits drafts.
use Rattle.std.specs.Prelude.{ℕ, ◌+◌, ◌-◌, Bool, true, cond, not, ◌||◌, List, [], ◌∷◌, ◌++◌, map, length, replicate, Some, None, Ok, Err, Option, Result, ◌==◌, nat_lt, slice_set}
use Rattle.std.specs.Option.{is_none, option_map, unwrap_or}
use Rattle.protocol.specs.Causes.{Cause}
use Rattle.protocol.specs.Limits.{row_count, roster_count, most_numbers, last_identity}
use Rattle.protocol.specs.Times.{first_wait}
use Rattle.parts.specs.Numbers.{set_of, up_to}
use Rattle.parts.specs.Places.{first_place}
use Rattle.contents.specs.Contents.{empty_store, with_string}
use Rattle.rules.specs.declared.answers.Standing.TheVariants.{Waiting as Open}
use Rattle.rules.specs.declared.sender.Enrolled.{Enrolled}
use Rattle.rules.specs.declared.sender.Destination.{Destination}
use Rattle.rules.specs.declared.sender.Message.{Message}
use Rattle.rules.specs.declared.sender.SenderRow.{SenderRow}
use Rattle.rules.specs.declared.sender.SenderRow.TheVariants.{Vacant, Draft, Sending}
use Rattle.rules.specs.declared.sender.SenderTable.{SenderTable}
use Rattle.rules.specs.Lists.{first_of}
use Rattle.rules.specs.Marks.{listed}
use Rattle.rules.specs.Outcomes.{Outcome, refuse, accept, reached}
use Rattle.rules.specs.Refusals.{Refusal, by_store, expired, no_row, unknown, bad_identity, bad_list, bad_count}
use Rattle.rules.specs.SenderState.{SenderModel, Roster, with_roster, with_rows, with_table, with_row_freed, no_place, is_place_of, place_of, is_enrolled, switched_at, is_vacant, draft_row, fragments_at, no_destination}
use Rattle.rules.specs.Stores.{no_room}

-- == making ==

-- An empty roster, all rows vacant, the clock at 0.
unfoldable pub new_table : (source first : ℕ) → SenderTable
new_table source first = record { source = source; next = first; now = 0; roster = replicate roster_count no_place; rows = replicate row_count Vacant }

-- A new sender has an empty store, whatever the store it was made with held.
unfoldable pub new_sender : (source first width limit : ℕ) → SenderModel
new_sender source first width limit = record { table = new_table source first; held = empty_store width limit }

-- A first identity of 0 is refused.
unfoldable pub make_sender : (source first width limit : ℕ) → Result SenderModel Refusal
make_sender source first width limit = cond (first == 0) (Err (bad_identity 0)) (Ok (new_sender source first width limit))

-- == enrol ==

-- a destination is answering at first, with no message submitted to it
abbrev pub new_place : ℕ → Option Enrolled
new_place destination = Some (record { destination = destination; answering = true; submitted = 0 })

-- into a free place, unless the destination has one already
abbrev pub enrol_at : SenderModel → ℕ → (free taken : Option ℕ) → Outcome SenderModel (Unit {0})
enrol_at s destination None taken = refuse s (bad_list roster_count)
enrol_at s destination (Some k) (Some place) = refuse s (bad_list place)
enrol_at s destination (Some k) None = accept (with_table s (with_roster s.table (slice_set s.table.roster k (new_place destination)))) tt

-- Enrol adds a destination to the roster. A full roster is told first, then the place that the destination has already.
unfoldable pub sender_enrol : SenderModel → ℕ → Outcome SenderModel (Unit {0})
sender_enrol s destination = enrol_at s destination (first_place is_none s.table.roster) (place_of s.table.roster destination)

-- == silence ==

-- Silence sets whether a destination answers. Nothing but the roster changes.
abbrev pub silence_at : SenderModel → ℕ → Bool → Option ℕ → Outcome SenderModel (Unit {0})
silence_at s destination silent None = refuse s (unknown destination)
silence_at s destination silent (Some k) = accept (with_table s (with_roster s.table (switched_at s.table.roster (not silent) (Some k)))) tt

-- The destination must be enrolled.
unfoldable pub sender_silence : SenderModel → ℕ → Bool → Outcome SenderModel (Unit {0})
sender_silence s destination silent = silence_at s destination silent (place_of s.table.roster destination)

-- == begin ==

-- Identities rise by one per draft.
abbrev pub begun : SenderModel → ℕ → SenderModel
begun s i = with_table s (record {
  source = s.table.source;
  next = s.table.next + 1;
  now = s.table.now;
  roster = s.table.roster;
  rows = slice_set s.table.rows i (Draft s.table.next 0);
})

-- No vacant row is told before the last identity was used; a refused begin uses none.
abbrev pub begin_at : SenderModel → Option ℕ → Outcome SenderModel ℕ
begin_at s None = refuse s no_row
begin_at s (Some i) = cond (nat_lt last_identity s.table.next) (refuse s (bad_identity last_identity)) (accept (begun s i) s.table.next)

-- Begin makes the lowest vacant row a draft.
unfoldable pub sender_begin : SenderModel → Outcome SenderModel ℕ
sender_begin s = begin_at s (first_place is_vacant s.table.rows)

-- == append ==

-- One fragment more, under the next number.
abbrev pub appended : SenderModel → (i identity count : ℕ) → List ℕ → SenderModel
appended s i identity count octets = record {
  table = with_rows s.table (slice_set s.table.rows i (Draft identity (count + 1)));
  held = with_string s.held i (count + 1) octets;
}

-- A draft has at most 256 fragments.
abbrev pub append_at : SenderModel → ℕ → List ℕ → Option ℕ → Outcome SenderModel (Unit {0})
append_at s identity octets None = refuse s (unknown identity)
append_at s identity octets (Some i) =
    cond (fragments_at s identity i == most_numbers) (refuse s (bad_count most_numbers))
    (accept (appended s i identity (fragments_at s identity i) octets) tt)

-- Want of room in the store is told before anything of the draft.
abbrev pub append_with : SenderModel → (source identity : ℕ) → List ℕ → Option Cause → Outcome SenderModel (Unit {0})
append_with s source identity octets (Some c) = refuse s (by_store c)
append_with s source identity octets None = append_at s identity octets (draft_row s.table source identity)

-- Append adds one fragment to a draft. In order: the fragment is empty or too long, the store is full, the draft is unknown, it is full.
unfoldable pub sender_append : SenderModel → (source identity : ℕ) → List ℕ → Outcome SenderModel (Unit {0})
sender_append s source identity octets = append_with s source identity octets (no_room s.held octets)

-- == withdraw ==

-- The row is vacant again. Its identity is used up.
abbrev pub withdraw_at : SenderModel → ℕ → Option ℕ → Outcome SenderModel (Unit {0})
withdraw_at s identity None = refuse s (unknown identity)
withdraw_at s identity (Some i) = accept (with_row_freed s i Vacant) tt

-- Withdraw spends a draft without sending it.
unfoldable pub sender_withdraw : SenderModel → (source identity : ℕ) → Outcome SenderModel (Unit {0})
sender_withdraw s source identity = withdraw_at s identity (draft_row s.table source identity)

-- == submit ==

-- above the one before, if there is one
abbrev pub is_above : Option ℕ → ℕ → Bool
is_above None d = true
is_above (Some before) d = nat_lt before d

-- the lowest place of a list that is unenrolled or not above the one before it, the list going on at a place
unfoldable pub bad_place : Roster → (place : ℕ) → Option ℕ → List ℕ → Option ℕ
bad_place roster place before [] = None
bad_place roster place before (d ∷ ds) =
    cond (not (is_enrolled roster d) || not (is_above before d)) (Some place) (bad_place roster (place + 1) (Some d) ds)

-- Why a list of destinations is refused: it is empty, or over 16, or its lowest bad place.
unfoldable pub list_fault : Roster → List ℕ → Option ℕ
list_fault roster [] = Some 0
list_fault roster (d ∷ ds) = cond (nat_lt roster_count (length (d ∷ ds))) (Some roster_count) (bad_place roster 0 None (d ∷ ds))

-- one message more was submitted to this destination
abbrev pub one_more : Enrolled → Enrolled
one_more e = record { destination = e.destination; answering = e.answering; submitted = e.submitted + 1 }

-- The roster counts one message more for each destination of a list.
unfoldable pub counted_in : Roster → List ℕ → Roster
counted_in roster ds = map (option_map (λ e. cond (listed ds e.destination) (one_more e) e)) roster

-- how many messages were submitted to the destination of a place
abbrev pub submitted_at : Option Enrolled → ℕ
submitted_at None = 0
submitted_at (Some e) = e.submitted

-- how many messages were submitted to a destination
abbrev pub submitted_to : Roster → ℕ → ℕ
submitted_to roster d = unwrap_or (option_map submitted_at (first_of (is_place_of d) roster)) 0

-- All numbers are missing at each destination; its sequence number is its count of submitted messages, this one too.
abbrev pub new_destination : Roster → ℕ → ℕ → Destination
new_destination roster total d = record { destination = d; sequence = submitted_to roster d + 1; standing = Open; missing = set_of (up_to total) }

-- 16 places, of which the first are those of the list
abbrev pub new_destinations : Roster → ℕ → List ℕ → List Destination
new_destinations roster total ds = map (new_destination roster total) ds ++ replicate (roster_count - length ds) no_destination

-- what is submitted of a draft of so many fragments
abbrev pub new_message : Roster → (identity total priority expiry : ℕ) → List ℕ → Message
new_message roster identity total priority expiry ds = record {
  identity = identity;
  total = total;
  priority = priority;
  expiry = expiry;
  destinations = new_destinations roster total ds;
  count = length ds;
}

-- A submitted row is sending: Address due, all numbers due, the first wait, no silent round.
abbrev pub submitted_row : Message → SenderRow
submitted_row m = Sending m true (set_of (up_to m.total)) first_wait 0

-- The draft's row becomes a submitted one, and the roster counts the message.
abbrev pub submitted : SenderModel → (i identity total priority expiry : ℕ) → List ℕ → SenderModel
submitted s i identity total priority expiry ds = with_table s (record {
  source = s.table.source;
  next = s.table.next;
  now = s.table.now;
  roster = counted_in s.table.roster ds;
  rows = slice_set s.table.rows i (submitted_row (new_message s.table.roster identity total priority expiry ds));
})

-- The list may be at fault at some place; else the draft must have a fragment.
abbrev pub submit_to : SenderModel → (i identity total priority expiry : ℕ) → List ℕ → Option ℕ → Outcome SenderModel (Unit {0})
submit_to s i identity total priority expiry ds (Some place) = refuse s (bad_list place)
submit_to s i identity total priority expiry ds None =
    cond (total == 0) (refuse s (bad_count 0)) (accept (submitted s i identity total priority expiry ds) tt)

-- The draft must be known.
abbrev pub submit_at : SenderModel → (identity priority expiry : ℕ) → List ℕ → Option ℕ → Outcome SenderModel (Unit {0})
submit_at s identity priority expiry ds None = refuse s (unknown identity)
submit_at s identity priority expiry ds (Some i) =
    submit_to s i identity (fragments_at s identity i) priority expiry ds (list_fault s.table.roster ds)

-- Submit takes destinations, priority and expiry. In order: the expiry is reached, the draft is unknown, the list is at fault, no fragment.
unfoldable pub sender_submit : SenderModel → (source identity priority expiry : ℕ) → List ℕ → Outcome SenderModel (Unit {0})
sender_submit s source identity priority expiry ds =
    cond (reached s.table.now expiry) (refuse s (expired expiry))
    (submit_at s identity priority expiry ds (draft_row s.table source identity))
