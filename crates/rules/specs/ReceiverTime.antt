-- A receiver falls silent or speaks again, and a clock comes to it.
use Rattle.std.specs.Prelude.{ℕ, Bool, true, false, cond, map, Some, None, Option, nat_le}
use Rattle.parts.specs.declared.numbers.Numbers.{Numbers}
use Rattle.rules.specs.declared.receiver.Label.{Label}
use Rattle.rules.specs.declared.receiver.ReceiverRow.{ReceiverRow}
use Rattle.rules.specs.declared.receiver.ReceiverRow.TheVariants.{Vacant, Loose, Open, Complete}
use Rattle.rules.specs.declared.receiver.Record.{Record}
use Rattle.rules.specs.declared.receiver.ReceiverTable.{ReceiverTable}
use Rattle.rules.specs.Outcomes.{Outcome, refuse, accept, is_clock, reached}
use Rattle.rules.specs.ReceiverState.{ReceiverModel, with_rows, with_records}
use Rattle.rules.specs.ReceiverStep.{raised, record_raised, record_cleared}
use Rattle.rules.specs.Refusals.{bad_clock}
use Rattle.rules.specs.Stores.{freed_where}

-- == silence ==

-- a row with its ACK cleared
abbrev pub row_cleared : ReceiverRow → ReceiverRow
row_cleared Vacant = Vacant
row_cleared (Loose l deadline held) = Loose l deadline held
row_cleared (Open l total expiry ack quiet held) = Open l total expiry None quiet held
row_cleared (Complete l total expiry ack) = Complete l total expiry None

-- an open or complete row with its ACK raised
abbrev pub row_raised : ReceiverTable → ReceiverRow → ReceiverRow
row_raised t Vacant = Vacant
row_raised t (Loose l deadline held) = Loose l deadline held
row_raised t (Open l total expiry ack quiet held) = Open l total expiry (raised t l.identity ack) quiet held
row_raised t (Complete l total expiry ack) = Complete l total expiry (raised t l.identity ack)

-- silent or not
abbrev pub switched_to : Bool → ReceiverTable → ReceiverTable
switched_to silent t = record { identity = t.identity; silent = silent; now = t.now; arrival = t.arrival; rows = t.rows; records = t.records }

-- Silence clears all ACKs.
abbrev pub silenced : ReceiverTable → ReceiverTable
silenced t = with_rows (with_records (switched_to true t) (map record_cleared t.records)) (map row_cleared t.rows)

-- Its end raises one for each open or complete row and each record.
abbrev pub unsilenced : ReceiverTable → ReceiverTable
unsilenced t = with_rows (with_records (switched_to false t) (map (record_raised (switched_to false t)) t.records)) (map (row_raised (switched_to false t)) t.rows)

-- Silence that is, or an end of none, changes nothing.
abbrev pub silence_to : Bool → ReceiverTable → ReceiverTable
silence_to true t = cond t.silent t (silenced t)
silence_to false t = cond t.silent (unsilenced t) t

-- Silence and its end are never refused.
unfoldable pub receiver_silence : ReceiverModel → Bool → Outcome ReceiverModel (Unit {0})
receiver_silence r silent = accept (record { table = silence_to silent r.table; held = r.held }) tt

-- == tick ==

-- A loose row goes at its deadline, an open one at its expiry.
abbrev pub goes_at : (clock : ℕ) → ReceiverRow → Bool
goes_at clock Vacant = false
goes_at clock (Loose l deadline held) = nat_le deadline clock
goes_at clock (Open l total expiry ack quiet held) = reached clock expiry
goes_at clock (Complete l total expiry ack) = false

-- whether the time has come at which a quiet row raises an ACK
abbrev pub is_quiet : (clock : ℕ) → Option ℕ → Bool
is_quiet clock None = false
is_quiet clock (Some quiet) = nat_le quiet clock

-- The first tick of an open row that was quiet long enough raises an ACK.
unfoldable pub open_ticked : ReceiverTable → Label → (total expiry : ℕ) → (ack quiet : Option ℕ) → Numbers → ReceiverRow
open_ticked t l total expiry ack quiet held =
    cond (is_quiet t.now quiet) (Open l total expiry (raised t l.identity ack) None held) (Open l total expiry ack quiet held)

-- one step for each row; the table has the new clock
unfoldable pub row_ticked : ReceiverTable → ReceiverRow → ReceiverRow
row_ticked t Vacant = Vacant
row_ticked t (Loose l deadline held) = cond (goes_at t.now (Loose l deadline held)) Vacant (Loose l deadline held)
row_ticked t (Open l total expiry ack quiet held) =
    cond (goes_at t.now (Open l total expiry ack quiet held)) Vacant (open_ticked t l total expiry ack quiet held)
row_ticked t (Complete l total expiry ack) = Complete l total expiry ack

-- A record goes at its expiry.
abbrev pub record_ticked : (clock : ℕ) → Option Record → Option Record
record_ticked clock None = None
record_ticked clock (Some x) = cond (reached clock x.expiry) None (Some x)

-- the table with a new clock
abbrev pub at : ReceiverTable → ℕ → ReceiverTable
at t clock = record { identity = t.identity; silent = t.silent; now = clock; arrival = t.arrival; rows = t.rows; records = t.records }

-- Each row and record makes its step, and the rows that go free their store rows.
abbrev pub ticked : ReceiverModel → ℕ → ReceiverModel
ticked r clock = record {
  table = with_rows (with_records (at r.table clock) (map (record_ticked clock) r.table.records)) (map (row_ticked (at r.table clock)) r.table.rows);
  held = freed_where (goes_at clock) r.table.rows r.held;
}

-- Tick brings a clock, at least now and at most the last.
unfoldable pub receiver_tick : ReceiverModel → ℕ → Outcome ReceiverModel (Unit {0})
receiver_tick r clock = cond (is_clock r.table.now clock) (accept (ticked r clock) tt) (refuse r (bad_clock r.table.now))
