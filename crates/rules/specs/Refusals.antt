-- The refusals of an end: the layer that refuses, the number of the cause, and the values that come with it.
use Rattle.std.specs.Prelude.{ℕ, [], ◌∷◌, Ok, Err, Result}
use Rattle.protocol.specs.Causes.{Cause, cause}
use Rattle.protocol.specs.Limits.{row_count, record_count}
use Rattle.store.specs.Faults as Stores
use Rattle.wire.specs.Faults as Wires
use Rattle.rules.specs.declared.faults.State.{State}
use Rattle.rules.specs.declared.faults.State.TheVariants.{Sending, Waiting, Ending, Closing}
use Rattle.rules.specs.declared.faults.EndFault.{EndFault}
use Rattle.rules.specs.declared.faults.EndFault.TheVariants.{Wire, Store, Clock, Expired, Rows, Against, Buffer, Nothing, Records, Unknown, Identity, List as Listing, Fragments, Unended}

pub data Layer : Type 0 where
  of_wire : Layer
  of_store : Layer
  of_end : Layer

pub record Refusal : Type 0 where
  pub layer : Layer
  pub cause : Cause

-- a refusal of the wire, or of the store, stands whole inside the end's
abbrev pub by_wire : Cause → Refusal
by_wire c = record { layer = of_wire; cause = c }

abbrev pub by_store : Cause → Refusal
by_store c = record { layer = of_store; cause = c }

abbrev pub by_end : Cause → Refusal
by_end c = record { layer = of_end; cause = c }

-- 6: a clock above its limit or below now
abbrev pub bad_clock : (now : ℕ) → Refusal
bad_clock now = by_end (cause 6 (now ∷ []))

-- 7: the expiry is reached
abbrev pub expired : (expiry : ℕ) → Refusal
expired expiry = by_end (cause 7 (expiry ∷ []))

-- 8: no vacant row
abbrev pub no_row : Refusal
no_row = by_end (cause 8 (row_count ∷ []))

-- 9: against the row's total, priority or expiry, or a number above the total
abbrev pub against : (row : ℕ) → Refusal
against row = by_end (cause 9 (row ∷ []))

-- 12: the caller's buffer is too short for the message
abbrev pub short_buffer : (needed : ℕ) → Refusal
short_buffer needed = by_end (cause 12 (needed ∷ []))

-- 13: nothing due, nothing complete
abbrev pub nothing : Refusal
nothing = by_end (cause 13 [])

-- 14: all records are in use
abbrev pub no_record : Refusal
no_record = by_end (cause 14 (record_count ∷ []))

-- 15: an unknown draft or destination, an identity of no submitted row
abbrev pub unknown : (named : ℕ) → Refusal
unknown named = by_end (cause 15 (named ∷ []))

-- 16: the first identity is 0; the last identity or arrival was the last there is
abbrev pub bad_identity : (value : ℕ) → Refusal
bad_identity value = by_end (cause 16 (value ∷ []))

-- 17: a list of destinations, or the roster
abbrev pub bad_list : (place : ℕ) → Refusal
bad_list place = by_end (cause 17 (place ∷ []))

-- 18: a submit of no fragment, an append to as many as there may be
abbrev pub bad_count : (count : ℕ) → Refusal
bad_count count = by_end (cause 18 (count ∷ []))

-- the place of a state in a submitted row's life, from 0
abbrev pub state_number : State → ℕ
state_number Sending = 0
state_number Waiting = 1
state_number Ending = 2
state_number Closing = 3

-- 19: a forget before the row is ended
abbrev pub not_ended : State → Refusal
not_ended state = by_end (cause 19 (state_number state ∷ []))

-- the refusal of each fault
abbrev pub refusal_of : EndFault → Refusal
refusal_of (Wire fault) = by_wire (Wires.cause_of fault)
refusal_of (Store fault) = by_store (Stores.cause_of fault)
refusal_of (Clock now) = bad_clock now
refusal_of (Expired expiry) = expired expiry
refusal_of (Rows count) = by_end (cause 8 (count ∷ []))
refusal_of (Against row) = against row
refusal_of (Buffer needed) = short_buffer needed
refusal_of Nothing = nothing
refusal_of (Records count) = by_end (cause 14 (count ∷ []))
refusal_of (Unknown named) = unknown named
refusal_of (Identity value) = bad_identity value
refusal_of (Listing place) = bad_list place
refusal_of (Fragments count) = bad_count count
refusal_of (Unended state) = not_ended state

-- an answer with the refusal in place of the fault
abbrev pub refusals : {A : Type 0} → Result A EndFault → Result A Refusal
refusals (Ok a) = Ok a
refusals (Err fault) = Err (refusal_of fault)
