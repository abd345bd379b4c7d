-- A receiver writes an ACK.
use Rattle.std.specs.Prelude.{ℕ, ◌-◌, Bool, false, cond, List, [], ◌∷◌, ◌++◌, map, length, take, Some, None, Option, nat_le, nat_lt, slice_index_or, slice_set}
use Rattle.protocol.specs.Causes.{cause}
use Rattle.protocol.specs.Limits.{row_count, most_listed}
use Rattle.pdu.specs.Write.{ack_octets}
use Rattle.parts.specs.Foremost.{foremost_of}
use Rattle.parts.specs.Numbers.{rising}
use Rattle.rules.specs.declared.receiver.Label.{Label}
use Rattle.rules.specs.declared.receiver.ReceiverRow.{ReceiverRow}
use Rattle.rules.specs.declared.receiver.ReceiverRow.TheVariants.{Vacant, Loose, Open, Complete}
use Rattle.rules.specs.declared.receiver.Record.{Record}
use Rattle.rules.specs.declared.receiver.ReceiverTable.{ReceiverTable}
use Rattle.rules.specs.Lists.{ranks_before}
use Rattle.rules.specs.Outcomes.{Outcome, refuse, accept}
use Rattle.rules.specs.ReceiverState.{ReceiverModel, with_rows, with_records}
use Rattle.rules.specs.ReceiverStep.{missing_of, record_cleared}
use Rattle.rules.specs.ReceiverTime.{row_cleared}
use Rattle.rules.specs.Refusals.{by_wire, nothing}

-- what may be acknowledged: a message, the time of its ACK, and its missing numbers, rising
pub record Pending : Type 0 where
  pub label : Label
  pub ack : Option ℕ
  pub missing : List ℕ

-- what has nothing to acknowledge
abbrev pub nothing_pending : Pending
nothing_pending = record { label = record { source = 0; identity = 0; priority = 0; arrival = 0 }; ack = None; missing = [] }

-- An open row lacks what it does not hold; a complete row lacks nothing.
abbrev pub row_pending : ReceiverRow → Pending
row_pending Vacant = nothing_pending
row_pending (Loose l deadline held) = nothing_pending
row_pending (Open l total expiry ack quiet held) = record { label = l; ack = ack; missing = rising (missing_of held total) }
row_pending (Complete l total expiry ack) = record { label = l; ack = ack; missing = [] }

-- A record lacks nothing.
abbrev pub record_pending : Option Record → Pending
record_pending None = nothing_pending
record_pending (Some x) = record { label = x.label; ack = x.ack; missing = [] }

-- rows first, then records
unfoldable pub pendings : ReceiverTable → List Pending
pendings t = map row_pending t.rows ++ map record_pending t.records

-- whether the time of an ACK has come
abbrev pub has_come : (now : ℕ) → Option ℕ → Bool
has_come now None = false
has_come now (Some time) = nat_le time now

-- Messages rank by priority, then arrival.
abbrev pub label_ahead : Label → Label → Bool
label_ahead a b = ranks_before a.priority a.arrival b.priority b.arrival

-- Up to 32 missing are listed rising, then the lowest again; of more, the 32 lowest.
unfoldable pub list_for : List ℕ → List ℕ
list_for missing = cond (nat_lt most_listed (length missing)) (take most_listed missing) (missing ++ take 1 missing)

-- An ACK of one entry.
abbrev pub ack_for : (receiver : ℕ) → Pending → List ℕ
ack_for receiver p = ack_octets p.label.priority receiver p.label.source p.label.identity (list_for p.missing)

-- the table with the ACK at a place of rows and records cleared
abbrev pub ack_cleared : ReceiverTable → ℕ → ReceiverTable
ack_cleared t k =
    cond (nat_lt k row_count) (with_rows t (slice_set t.rows k (row_cleared (slice_index_or t.rows k Vacant))))
    (with_records t (slice_set t.records (k - row_count) (record_cleared (slice_index_or t.records (k - row_count) None))))

-- A buffer that is too short is told, and changes nothing.
abbrev pub poll_with : ReceiverModel → (k room : ℕ) → List ℕ → Outcome ReceiverModel (List ℕ)
poll_with r k room pdu =
    cond (nat_lt room (length pdu)) (refuse r (by_wire (cause 12 (length pdu ∷ []))))
    (accept (record { table = ack_cleared r.table k; held = r.held }) pdu)

-- what is pending at a place of rows and records
abbrev pub pending_at : ReceiverTable → ℕ → Pending
pending_at t k = slice_index_or (pendings t) k nothing_pending

-- Only the foremost is asked.
abbrev pub poll_at : ReceiverModel → (room : ℕ) → Option ℕ → Outcome ReceiverModel (List ℕ)
poll_at r room None = refuse r nothing
poll_at r room (Some k) = poll_with r k room (ack_for r.table.identity (pending_at r.table k))

-- Poll writes the foremost ACK whose time has come, and clears it. The answer is its octets.
unfoldable pub receiver_poll : ReceiverModel → (room : ℕ) → Outcome ReceiverModel (List ℕ)
receiver_poll r room = poll_at r room (foremost_of (λ p. has_come r.table.now p.ack) (λ p q. label_ahead p.label q.label) (pendings r.table))
