-- What a sender tells of a message, and how it forgets one.
use Rattle.std.specs.Prelude.{ℕ, Bool, false, Some, None, Ok, Err, Option, Result, ◌==◌}
use Rattle.parts.specs.declared.numbers.Numbers.{Numbers}
use Rattle.parts.specs.Places.{first_place}
use Rattle.rules.specs.declared.answers.Standing.{Standing}
use Rattle.rules.specs.declared.faults.State.TheVariants as In
use Rattle.rules.specs.declared.sender.Destination.{Destination}
use Rattle.rules.specs.declared.sender.Message.{Message}
use Rattle.rules.specs.declared.sender.SenderRow.{SenderRow}
use Rattle.rules.specs.declared.sender.SenderRow.TheVariants.{Vacant, Draft, Sending, Waiting, Ending, Closing, Ended}
use Rattle.rules.specs.declared.sender.SenderTable.{SenderTable}
use Rattle.rules.specs.Lists.{first_of}
use Rattle.rules.specs.Outcomes.{Outcome, refuse, accept}
use Rattle.rules.specs.Refusals.{Refusal, unknown, not_ended}
use Rattle.rules.specs.SenderState.{SenderModel, row_at, with_row_freed, message_of, destinations_of, names}

-- == standing and lacking ==

-- whether a message is of an identity
abbrev pub is_of : ℕ → Option Message → Bool
is_of identity None = false
is_of identity (Some m) = m.identity == identity

-- the row of a submitted message
unfoldable pub message_row : SenderTable → ℕ → Option ℕ
message_row t identity = first_place (λ row. is_of identity (message_of row)) t.rows

-- a destination of a message
abbrev pub destination_in : Message → ℕ → Option Destination
destination_in m destination = first_of (names destination) (destinations_of m)

-- The identity is looked for first, then the destination.
abbrev pub destination_or : ℕ → Option Destination → Result Destination Refusal
destination_or destination None = Err (unknown destination)
destination_or destination (Some d) = Ok d

-- the destination of a message, if there is one of that identity
abbrev pub named_in : (identity destination : ℕ) → Option Message → Result Destination Refusal
named_in identity destination None = Err (unknown identity)
named_in identity destination (Some m) = destination_or destination (destination_in m destination)

-- the message of a row that was found
abbrev pub row_or : SenderModel → Option ℕ → Option Message
row_or s None = None
row_or s (Some i) = message_of (row_at s i)

-- a destination of a submitted message, by the message's identity and its own
unfoldable pub named : SenderModel → (identity destination : ℕ) → Result Destination Refusal
named s identity destination = named_in identity destination (row_or s (message_row s.table identity))

-- what is asked of a destination, if it was found
abbrev pub answer_of : {A : Type 0} → (Destination → A) → Result Destination Refusal → Result A Refusal
answer_of f (Ok d) = Ok (f d)
answer_of f (Err refusal) = Err refusal

-- Standing tells waiting, complete or expired.
unfoldable pub sender_standing : SenderModel → (identity destination : ℕ) → Outcome SenderModel Standing
sender_standing s identity destination = (s, answer_of (λ d. d.standing) (named s identity destination))

-- Lacking tells the missing numbers. Of an expired destination it is what was missing then; of a complete one, nothing.
unfoldable pub sender_lacking : SenderModel → (identity destination : ℕ) → Outcome SenderModel Numbers
sender_lacking s identity destination = (s, answer_of (λ d. d.missing) (named s identity destination))

-- == forget ==

-- An ended row is vacated; of any other submitted row its state is told.
abbrev pub forget_row : SenderModel → (i identity : ℕ) → SenderRow → Outcome SenderModel (Unit {0})
forget_row s i identity Vacant = refuse s (unknown identity)
forget_row s i identity (Draft n c) = refuse s (unknown identity)
forget_row s i identity (Sending m a d w r) = refuse s (not_ended In.Sending)
forget_row s i identity (Waiting m d w r) = refuse s (not_ended In.Waiting)
forget_row s i identity (Ending m d c) = refuse s (not_ended In.Ending)
forget_row s i identity (Closing m) = refuse s (not_ended In.Closing)
forget_row s i identity (Ended m) = accept (with_row_freed s i Vacant) tt

-- The identity must be of a submitted row.
abbrev pub forget_at : SenderModel → ℕ → Option ℕ → Outcome SenderModel (Unit {0})
forget_at s identity None = refuse s (unknown identity)
forget_at s identity (Some i) = forget_row s i identity (row_at s i)

-- Forget vacates an ended row.
unfoldable pub sender_forget : SenderModel → ℕ → Outcome SenderModel (Unit {0})
sender_forget s identity = forget_at s identity (message_row s.table identity)
