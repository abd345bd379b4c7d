-- The times of the protocol, in milliseconds. `src/lib.rt` has the same numbers for the code.
use Rattle.std.specs.Prelude.{ℕ}

-- An expiry is in seconds.
abbrev pub second : ℕ
second = 1000

-- A submitted row first waits so long for ACKs, and never longer than the second.
abbrev pub first_wait : ℕ
first_wait = 8000

abbrev pub longest_wait : ℕ
longest_wait = 600000

-- It waits so long where no open destination is answering, and so often sends to silent ones alone.
abbrev pub silent_wait : ℕ
silent_wait = 3600000

abbrev pub silent_rounds : ℕ
silent_rounds = 4

-- An ending row waits so long after its Address.
abbrev pub ending_wait : ℕ
ending_wait = 30000

-- A loose row is vacated so long after its making.
abbrev pub loose_time : ℕ
loose_time = 60000

-- An open row raises an ACK so long after its opening or its last new Data.
abbrev pub quiet_time : ℕ
quiet_time = 5000

-- One step of the table of delays.
abbrev pub delay_step : ℕ
delay_step = 10
