-- A receiver hands a message over.
use Rattle.std.specs.Prelude.{ℕ, cond, not, List, length, is_some, Some, None, Option, nat_lt}
use Rattle.parts.specs.Foremost.{foremost_of}
use Rattle.parts.specs.Places.{first_place}
use Rattle.rules.specs.declared.receiver.ReceiverRow.{ReceiverRow}
use Rattle.rules.specs.declared.receiver.ReceiverRow.TheVariants.{Vacant, Loose, Open, Complete}
use Rattle.rules.specs.declared.receiver.Record.{Record}
use Rattle.rules.specs.declared.receiver.ReceiverTable.{ReceiverTable}
use Rattle.rules.specs.Outcomes.{Outcome, refuse, accept}
use Rattle.rules.specs.ReceiverPoll.{label_ahead, row_pending}
use Rattle.rules.specs.ReceiverState.{ReceiverModel, row_at, vacated, with_record_at, record_label, is_complete_row}
use Rattle.rules.specs.Refusals.{short_buffer, nothing, no_record}
use Rattle.rules.specs.Stores.{joined_from}

-- a message handed over, with its octets as they stand at the front of the buffer
pub record Handed : Type 0 where
  pub source : ℕ
  pub identity : ℕ
  pub octets : List ℕ

-- the lowest free place of the records
abbrev pub record_free : ReceiverTable → Option ℕ
record_free t = first_place (λ x. not (is_some (record_label x))) t.records

-- The row leaves a record and is vacated.
abbrev pub collected : ReceiverModel → (i k : ℕ) → Record → ReceiverModel
collected r i k x = vacated (with_record_at r k (Some x)) i

-- Without a free record the message stays where it is.
abbrev pub collect_into : ReceiverModel → (i : ℕ) → Record → List ℕ → Option ℕ → Outcome ReceiverModel Handed
collect_into r i x octets None = refuse r no_record
collect_into r i x octets (Some k) =
    accept (collected r i k x) (record { source = x.label.source; identity = x.label.identity; octets = octets })

-- A buffer that is too short is told before the want of a record.
abbrev pub collect_with : ReceiverModel → (i room : ℕ) → Record → List ℕ → Outcome ReceiverModel Handed
collect_with r i room x octets = cond (nat_lt room (length octets)) (refuse r (short_buffer (length octets))) (collect_into r i x octets (record_free r.table))

-- Its fragments are joined in the order of their numbers.
unfoldable pub collect_row : ReceiverModel → (i room : ℕ) → ReceiverRow → Outcome ReceiverModel Handed
collect_row r i room Vacant = refuse r nothing
collect_row r i room (Loose l d h) = refuse r nothing
collect_row r i room (Open l t e a q h) = refuse r nothing
collect_row r i room (Complete l total expiry ack) = collect_with r i room (record { label = l; expiry = expiry; ack = ack }) (joined_from r.held i 1 total)

-- The answer is source, identity and octets together.
abbrev pub collect_at : ReceiverModel → (room : ℕ) → Option ℕ → Outcome ReceiverModel Handed
collect_at r room None = refuse r nothing
collect_at r room (Some i) = collect_row r i room (row_at r i)

-- Collect hands over the foremost complete message, by priority, then arrival.
unfoldable pub receiver_collect : ReceiverModel → (room : ℕ) → Outcome ReceiverModel Handed
receiver_collect r room = collect_at r room (foremost_of is_complete_row (λ a b. label_ahead (row_pending a).label (row_pending b).label) r.table.rows)
