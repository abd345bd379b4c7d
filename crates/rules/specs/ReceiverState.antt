-- How a receiver stands, and the parts of it that its rules speak of.
use Rattle.std.specs.Prelude.{ℕ, ◌+◌, Bool, true, false, not, ◌&&◌, List, is_some, Some, None, Option, ◌==◌, slice_index_or, slice_set}
use Rattle.parts.specs.Places.{first_place}
use Rattle.contents.specs.Contents.{Contents}
use Rattle.rules.specs.declared.receiver.Label.{Label}
use Rattle.rules.specs.declared.receiver.ReceiverRow.{ReceiverRow}
use Rattle.rules.specs.declared.receiver.ReceiverRow.TheVariants.{Vacant, Loose, Open, Complete}
use Rattle.rules.specs.declared.receiver.Record.{Record}
use Rattle.rules.specs.declared.receiver.ReceiverTable.{ReceiverTable}
use Rattle.rules.specs.Stores.{freed}

-- A receiver is its table and what its store holds.
pub record ReceiverModel : Type 0 where
  pub table : ReceiverTable
  pub held : Contents

-- == values with one part changed ==

abbrev pub with_rows : ReceiverTable → List ReceiverRow → ReceiverTable
with_rows t rows = record { identity = t.identity; silent = t.silent; now = t.now; arrival = t.arrival; rows = rows; records = t.records }

abbrev pub with_records : ReceiverTable → List (Option Record) → ReceiverTable
with_records t records = record { identity = t.identity; silent = t.silent; now = t.now; arrival = t.arrival; rows = t.rows; records = records }

-- the row at a place
abbrev pub row_at : ReceiverModel → ℕ → ReceiverRow
row_at r i = slice_index_or r.table.rows i Vacant

abbrev pub with_row_at : ReceiverModel → ℕ → ReceiverRow → ReceiverModel
with_row_at r i row = record { table = with_rows r.table (slice_set r.table.rows i row); held = r.held }

-- A vacated row frees its store row.
abbrev pub vacated : ReceiverModel → ℕ → ReceiverModel
vacated r i = record { table = with_rows r.table (slice_set r.table.rows i Vacant); held = freed r.held i }

-- a row of the next arrival
abbrev pub with_new_row : ReceiverModel → ℕ → ReceiverRow → ReceiverModel
with_new_row r i row = record {
  table = record {
    identity = r.table.identity;
    silent = r.table.silent;
    now = r.table.now;
    arrival = r.table.arrival + 1;
    rows = slice_set r.table.rows i row;
    records = r.table.records;
  };
  held = r.held;
}

abbrev pub with_held : ReceiverModel → Contents → ReceiverModel
with_held r held = record { table = r.table; held = held }

-- the record at a place, if there is one
abbrev pub record_at : ReceiverModel → ℕ → Option Record
record_at r k = slice_index_or r.table.records k None

abbrev pub with_record_at : ReceiverModel → ℕ → Option Record → ReceiverModel
with_record_at r k x = record { table = with_records r.table (slice_set r.table.records k x); held = r.held }

-- == rows and records of a message ==

-- the label of a row that is not vacant
abbrev pub label_of : ReceiverRow → Option Label
label_of Vacant = None
label_of (Loose l d h) = Some l
label_of (Open l t e a q h) = Some l
label_of (Complete l t e a) = Some l

-- the label of a record, if there is one
abbrev pub record_label : Option Record → Option Label
record_label None = None
record_label (Some x) = Some x.label

-- whether a label is of a source and identity
abbrev pub is_label : (source identity : ℕ) → Label → Bool
is_label source identity l = l.source == source && l.identity == identity

-- whether there is a label, of a source and identity
abbrev pub is_of : (source identity : ℕ) → Option Label → Bool
is_of source identity None = false
is_of source identity (Some l) = is_label source identity l

-- the row of a message
unfoldable pub row_of : ReceiverTable → (source identity : ℕ) → Option ℕ
row_of t source identity = first_place (λ row. is_of source identity (label_of row)) t.rows

-- the finished record of a message
unfoldable pub record_of : ReceiverTable → (source identity : ℕ) → Option ℕ
record_of t source identity = first_place (λ x. is_of source identity (record_label x)) t.records

-- the lowest vacant row
abbrev pub vacant_row : ReceiverTable → Option ℕ
vacant_row t = first_place (λ row. not (is_some (label_of row))) t.rows

-- whether a row is complete
abbrev pub is_complete_row : ReceiverRow → Bool
is_complete_row Vacant = false
is_complete_row (Loose l d h) = false
is_complete_row (Open l t e a q h) = false
is_complete_row (Complete l t e a) = true
