-- One row of a receiver and what arrives at it. The step depends on the row's state and on what arrived: one clause for each pair.
use Rattle.std.specs.Prelude.{ℕ, ◌+◌, ◌-◌, ◌*◌, Bool, cond, not, ◌&&◌, ◌||◌, is_some, Some, None, Option, ◌==◌, nat_le, nat_lt}
use Rattle.std.specs.Option.{option_or}
use Rattle.protocol.specs.Limits.{most_listed}
use Rattle.protocol.specs.Times.{quiet_time, delay_step}
use Rattle.parts.specs.declared.numbers.Numbers.{Numbers}
use Rattle.parts.specs.Delays.{delay_of}
use Rattle.parts.specs.Numbers.{including, lacking, next_from, set_of}
use Rattle.rules.specs.declared.answers.Taken.{Taken}
use Rattle.rules.specs.declared.answers.Taken.TheVariants.{Kept, Complete as Completed, Again as Repeated, Noted, Dropped, PassedOver}
use Rattle.rules.specs.declared.receiver.Arrival.{Arrival}
use Rattle.rules.specs.declared.receiver.Arrival.TheVariants.{New, Again, Listed, LeftOut, OtherPart, Discard}
use Rattle.rules.specs.declared.receiver.Label.{Label}
use Rattle.rules.specs.declared.receiver.ReceiverRow.{ReceiverRow}
use Rattle.rules.specs.declared.receiver.ReceiverRow.TheVariants.{Vacant, Loose, Open, Complete}
use Rattle.rules.specs.declared.receiver.Record.{Record}
use Rattle.rules.specs.declared.receiver.ReceiverTable.{ReceiverTable}

-- == raising an ACK ==

-- the time of an ACK raised now for a message
abbrev pub ack_time : ReceiverTable → (message : ℕ) → ℕ
ack_time t message = t.now + delay_step * delay_of t.identity message

-- Raising sets the time, unless one is set; a silent receiver raises none.
unfoldable pub raised : ReceiverTable → (message : ℕ) → Option ℕ → Option ℕ
raised t message ack = cond t.silent ack (option_or ack (Some (ack_time t message)))

-- raised if so
abbrev pub raised_if : Bool → ReceiverTable → (message : ℕ) → Option ℕ → Option ℕ
raised_if raises t message ack = cond raises (raised t message ack) ack

-- a record with another ACK time
abbrev pub with_ack : Option ℕ → Record → Record
with_ack ack x = record { label = x.label; expiry = x.expiry; ack = ack }

-- a record, if there is one, with its ACK raised, or cleared
abbrev pub record_raised : ReceiverTable → Option Record → Option Record
record_raised t None = None
record_raised t (Some x) = Some (with_ack (raised t x.label.identity x.ack) x)

abbrev pub record_cleared : Option Record → Option Record
record_cleared None = None
record_cleared (Some x) = Some (with_ack None x)

-- == what is missing ==

-- the numbers of 1 to total that a row does not hold
abbrev pub missing_of : Numbers → (total : ℕ) → Numbers
missing_of held total = set_of (lacking held total)

-- whether no number above n is missing
abbrev pub none_missing_above : Numbers → (total n : ℕ) → Bool
none_missing_above held total n = not (is_some (next_from (missing_of held total) (n + 1)))

-- how many are missing below the highest held
abbrev pub missing_below_top : Numbers → ℕ
missing_below_top held = held.top - held.count

-- the missing below the highest held come from under 32 to 32 or more
abbrev pub many_missing : (before after : Numbers) → Bool
many_missing before after = nat_lt (missing_below_top before) most_listed && nat_le most_listed (missing_below_top after)

-- == rows that change their state ==

-- A row that opens is complete at once if nothing lacks, and an ACK is raised; else it is quiet from now on.
unfoldable pub opened : ReceiverTable → Label → (total expiry : ℕ) → Numbers → ReceiverRow
opened t l total expiry held =
    cond (held.count == total) (Complete l total expiry (raised t l.identity None))
    (Open l total expiry None (Some (t.now + quiet_time)) held)

-- An open row that keeps a number. With all numbers held it is complete, and an ACK is raised. Else one is raised if nothing above the
-- number is missing, or if the missing below the highest held have become many; and the row is quiet from now on.
unfoldable pub open_kept : ReceiverTable → Label → (total expiry : ℕ) → Option ℕ → (before after : Numbers) → (n : ℕ) → ReceiverRow
open_kept t l total expiry ack before after n =
    cond (after.count == total) (Complete l total expiry (raised t l.identity ack))
    (Open l total expiry (raised_if (none_missing_above after total n || many_missing before after) t l.identity ack) (Some (t.now + quiet_time)) after)

-- A row that became complete is told as such.
abbrev pub complete_or : Taken → (count total : ℕ) → Taken
complete_or other count total = cond (count == total) Completed other

-- == the step ==

-- how the row stands after what arrived
unfoldable pub row_step : ReceiverTable → ReceiverRow → Arrival → ReceiverRow
row_step t Vacant (New n) = Vacant
row_step t Vacant (Again n) = Vacant
row_step t Vacant (Listed total expiry) = Vacant
row_step t Vacant LeftOut = Vacant
row_step t Vacant OtherPart = Vacant
row_step t Vacant Discard = Vacant
row_step t (Loose l deadline held) (New n) = Loose l deadline (set_of (including held n))
row_step t (Loose l deadline held) (Again n) = Loose l deadline held
row_step t (Loose l deadline held) (Listed total expiry) = opened t l total expiry held
row_step t (Loose l deadline held) LeftOut = Vacant
row_step t (Loose l deadline held) OtherPart = Loose l deadline held
row_step t (Loose l deadline held) Discard = Vacant
row_step t (Open l total expiry ack quiet held) (New n) = open_kept t l total expiry ack held (set_of (including held n)) n
row_step t (Open l total expiry ack quiet held) (Again n) = Open l total expiry (raised_if (none_missing_above held total n) t l.identity ack) quiet held
row_step t (Open l total expiry ack quiet held) (Listed total' expiry') = Open l total expiry ack quiet held
row_step t (Open l total expiry ack quiet held) LeftOut = Open l total expiry ack quiet held
row_step t (Open l total expiry ack quiet held) OtherPart = Open l total expiry ack quiet held
row_step t (Open l total expiry ack quiet held) Discard = Vacant
row_step t (Complete l total expiry ack) (New n) = Complete l total expiry ack
row_step t (Complete l total expiry ack) (Again n) = Complete l total expiry (raised t l.identity ack)
row_step t (Complete l total expiry ack) (Listed total' expiry') = Complete l total expiry (raised t l.identity ack)
row_step t (Complete l total expiry ack) LeftOut = Complete l total expiry None
row_step t (Complete l total expiry ack) OtherPart = Complete l total expiry ack
row_step t (Complete l total expiry ack) Discard = Complete l total expiry ack

-- what the take then answers
unfoldable pub step_answer : ReceiverRow → Arrival → Taken
step_answer Vacant (New n) = PassedOver
step_answer Vacant (Again n) = PassedOver
step_answer Vacant (Listed total expiry) = PassedOver
step_answer Vacant LeftOut = PassedOver
step_answer Vacant OtherPart = PassedOver
step_answer Vacant Discard = PassedOver
step_answer (Loose l deadline held) (New n) = Kept
step_answer (Loose l deadline held) (Again n) = Repeated
step_answer (Loose l deadline held) (Listed total expiry) = complete_or Noted held.count total
step_answer (Loose l deadline held) LeftOut = Dropped
step_answer (Loose l deadline held) OtherPart = PassedOver
step_answer (Loose l deadline held) Discard = Dropped
step_answer (Open l total expiry ack quiet held) (New n) = complete_or Kept (set_of (including held n)).count total
step_answer (Open l total expiry ack quiet held) (Again n) = Repeated
step_answer (Open l total expiry ack quiet held) (Listed total' expiry') = PassedOver
step_answer (Open l total expiry ack quiet held) LeftOut = PassedOver
step_answer (Open l total expiry ack quiet held) OtherPart = PassedOver
step_answer (Open l total expiry ack quiet held) Discard = Dropped
step_answer (Complete l total expiry ack) (New n) = Kept
step_answer (Complete l total expiry ack) (Again n) = Repeated
step_answer (Complete l total expiry ack) (Listed total' expiry') = Noted
step_answer (Complete l total expiry ack) LeftOut = Noted
step_answer (Complete l total expiry ack) OtherPart = PassedOver
step_answer (Complete l total expiry ack) Discard = PassedOver
