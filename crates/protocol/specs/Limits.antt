-- The numbers of the protocol. `src/lib.rt` has the same numbers for the code.
use Rattle.std.specs.Prelude.{ℕ, ◌*◌, Bool, ◌&&◌, leb}

-- A datagram has at least and at most so many octets.
abbrev pub shortest : ℕ
shortest = 16

abbrev pub longest : ℕ
longest = 1472

-- A set of fragment numbers is so many words of 64 bits.
abbrev pub word_count : ℕ
word_count = 4

-- Fragment numbers and totals lie in 1 to this.
abbrev pub most_numbers : ℕ
most_numbers = 64 * word_count

abbrev pub is_number : ℕ → Bool
is_number n = leb 1 n && leb n most_numbers

-- Each end has so many rows, and so has a store.
abbrev pub row_count : ℕ
row_count = 8

-- A store's width lies between these.
abbrev pub least_width : ℕ
least_width = 16

abbrev pub most_width : ℕ
most_width = 1024

-- A store's limit lies in 1 to this.
abbrev pub most_strings : ℕ
most_strings = row_count * most_numbers

-- The roster has so many places, and a message goes to at most so many destinations.
abbrev pub roster_count : ℕ
roster_count = 16

-- A receiver keeps at most so many finished records.
abbrev pub record_count : ℕ
record_count = 32

-- An ACK lists at most so many missing numbers, and so many missing below the highest held raise one.
abbrev pub most_listed : ℕ
most_listed = 32

-- The last clock, in milliseconds since 1.1.1970.
abbrev pub last_clock : ℕ
last_clock = 4294967295999

-- The last identity, and the last arrival.
abbrev pub last_identity : ℕ
last_identity = 4294967295
