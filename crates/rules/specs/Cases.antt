-- Worked cases.
use Rattle.std.specs.Prelude.{◌≡◌, ℕ, zero, suc, ◌+◌, ◌-◌, ◌*◌, true, false, List, [], ◌∷◌, length, Ok, Err, codes, slice_index}
use Rattle.protocol.specs.Causes.{cause}
use Rattle.protocol.specs.Limits.{most_numbers, most_listed, last_identity}
use Rattle.protocol.specs.Times.{first_wait, second}
use Rattle.pdu.specs.declared.Accepts.TheVariants.{Receiver}
use Rattle.pdu.specs.Read.{read_of}
use Rattle.pdu.specs.Said.{said_data}
use Rattle.pdu.specs.Write.{data_octets}
use Rattle.parts.specs.Numbers.{rising, set_of, up_to}
use Rattle.rules.specs.Marks.{marked}
use Rattle.rules.specs.Outcomes.{reached}
use Rattle.rules.specs.ReceiverPoll.{list_for}
use Rattle.rules.specs.Refusals.{bad_identity}
use Rattle.rules.specs.SenderDrafts.{new_sender, sender_begin}
use Rattle.rules.specs.SenderTick.{longer}

-- The list 1, 1 of 2: the pair covers all above 1 and all below 1.
abbrev pub left_after_again : List ℕ
left_after_again = rising (marked (set_of (up_to 2)) 2 (1 ∷ 1 ∷ []))

-- The list 3, 5, 3 of 6: between 3 and 5; above 5 and below 3.
abbrev pub left_after_ring : List ℕ
left_after_ring = rising (marked (set_of (up_to 6)) 6 (3 ∷ 5 ∷ 3 ∷ []))

-- so many waits, each grown from the last
abbrev pub waits_from : ℕ → ℕ → List ℕ
waits_from zero wait = []
waits_from (suc n) wait = wait ∷ waits_from n (longer wait)

abbrev pub example_waits : List ℕ
example_waits = waits_from 8 first_wait

-- so many numbers, from n on
abbrev pub numbers_from : (count n : ℕ) → List ℕ
numbers_from zero n = []
numbers_from (suc k) n = n ∷ numbers_from k (n + 1)

-- The last number is read, and one above it is refused. An expiry is reached at its millisecond and not before. Of 32 missing numbers
-- all are listed and the lowest again, of 33 the 32 lowest. The last identity serves one draft, and then there is none.
abbrev pub Edges : Type 0
Edges =
    (read_of Receiver (data_octets 0 most_numbers 1 2 (codes "Hi"))
    ≡ Ok (said_data (record { priority = 0; number = most_numbers; source = 1; message = 2; fragment = codes "Hi" })))
    × (read_of Receiver (data_octets 0 (most_numbers + 1) 1 2 (codes "Hi")) ≡ Err (cause 5 (4 ∷ [])))
    × (reached (1234567890 * second) 1234567890 ≡ true)
    × (reached (1234567890 * second - 1) 1234567890 ≡ false)
    × (length (list_for (numbers_from most_listed 1)) ≡ most_listed + 1)
    × (slice_index (list_for (numbers_from most_listed 1)) most_listed ≡ 1)
    × (length (list_for (numbers_from (most_listed + 1) 1)) ≡ most_listed)
    × (slice_index (list_for (numbers_from (most_listed + 1) 1)) (most_listed - 1) ≡ most_listed)
    × ((sender_begin (new_sender 1 last_identity 16 1)).1 ≡ Ok last_identity)
    × ((sender_begin (sender_begin (new_sender 1 last_identity 16 1)).0).1 ≡ Err (bad_identity last_identity))
