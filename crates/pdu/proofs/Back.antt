-- What is written is read back.
use Rattle.std.proofs.Common.{◌≡◌, ℕ, suc, ◌+◌, ◌-◌, ◌*◌, ◌/◌, ◌%◌, ◌^◌, ◌<◌, ◌≤◌, Bool, true, false, cond, not, ltb, List, [], ◌∷◌, ◌++◌, length, drop, Some, None, Ok, Option, refl, ap, ◌∙◌, arith}
use Rattle.std.proofs.lemmas.List.{take_all, drop_all}
use Rattle.std.proofs.lemmas.Bool.{ltb-false, le-ltb, cond-false}
use Rattle.std.proofs.lemmas.Bool.Decides.{nat_tests}
use Rattle.std.specs.Option.{option_or}
use Rattle.protocol.specs.Limits.{shortest, longest, is_number}
use Rattle.pdu.specs.declared.Accepts.TheVariants.{Sender, Receiver}
use Rattle.pdu.specs.Octets.{word, words_of, two_octets, four_octets}
use Rattle.pdu.specs.Read
use Rattle.pdu.specs.Read.{lower, unrisen, numbers_broken, entry_broken, entry_numbers, entries_broken, entries_if, entries_of, destinations_of, data_broken, address_broken, unless_broken, after_head, read_of}
use Rattle.pdu.specs.Said.{said_data, said_address, said_discard, said_ack}
use Rattle.pdu.specs.Sum.{checksum_of}
use Rattle.pdu.specs.Types.{address_head, destination_size, ack_head, entry_head, address_type}
use Rattle.pdu.specs.Write.{Quads, head_octets, pdu_octets, data_octets, discard_octets, address_octets, ack_octets, pair_octets, destination_octets, number_octets, data_unfit, address_unfit, ack_unfit, placed}
use Rattle.pdu.proofs.Framed.{Framed, passes}
use Rattle.pdu.proofs.Puts.{length-joined}

-- == numbers in octets ==

word_back : (n : ℕ) → n / 256 * 256 + n % 256 ≡ n
word_back n = omega arith

quad_back : (n : ℕ) → n < 2 ^ 32 → (n / 16777216 * 256 + n / 65536 % 256) * 65536 + (n / 256 % 256 * 256 + n % 256) ≡ n
quad_back n h = omega arith

-- what did not break
unbroken : (b : Bool) (p : ℕ) (r : Option ℕ) → cond b (Some p) r ≡ None → (b ≡ false) × (r ≡ None)
unbroken true p r h = let z : ◌≡◌ {A = ℕ} 0 1 = cc in absurd (omega arith)
unbroken false p r h = (refl, h)

-- a PDU that breaks no rule is not too long
pub data_fits : (n : ℕ) (f : List ℕ) → data_unfit n f ≡ None → shortest + length f ≤ longest
data_fits n f fit = ltb-false longest (shortest + length f) (unbroken (ltb longest (shortest + length f)) 0 _ fit).0

pub address-fits : (t : ℕ) (ds : List (ℕ × ℕ)) → address_unfit t ds ≡ None → address_head + destination_size * length ds ≤ longest
address-fits t ds fit = ltb-false longest (address_head + destination_size * length ds) (unbroken (ltb longest (address_head + destination_size * length ds)) 0 _ fit).0

pub ack-fits : (ns : List ℕ) → ack_unfit ns ≡ None → ack_head + entry_head + 2 * length ns ≤ longest
ack-fits ns fit = ltb-false longest (ack_head + entry_head + 2 * length ns) (unbroken (ltb longest (ack_head + entry_head + 2 * length ns)) 0 _ fit).0

-- == the frame ==

pub framed_written : (p type field : ℕ) (body : List ℕ) → 8 ≤ length body → 8 + length body ≤ longest → Framed (pdu_octets p type field body)
framed_written p type field body low high = record {
  low = omega arith;
  high = omega arith;
  len = omega (arith, word_back (8 + length body));
  sum = word_back (checksum_of (head_octets (8 + length body) p type field ++ body));
}

-- == Data and Discard ==

pub data_back : (p n s m : ℕ) (f : List ℕ) → s < 2 ^ 32 → m < 2 ^ 32 → data_unfit n f ≡ None
    → read_of Receiver (data_octets p n s m f) ≡ Ok (said_data (record { priority = p; number = n; source = s; message = m; fragment = f }))
data_back p n s m f hs hm fit =
    let xs = data_octets p n s m f in
    let short = unbroken (ltb longest (shortest + length f)) 0 (cond (not (is_number n)) (Some 4) None) fit in
    let none : data_broken xs ≡ None = ap (λ k. cond (not (is_number k)) (Some 4) None) (word_back n) ∙ short.1 in
    ap (λ r. after_head Receiver r xs) (passes Receiver xs (framed_written p 0 n (four_octets s ++ (four_octets m ++ f)) (omega arith) (omega (arith, data_fits n f fit))) refl)
    ∙ ap (λ b. unless_broken b (said_data (Read.data_of xs))) none
    ∙ (λ i. Ok (said_data (record { priority = p; number = word_back n i; source = quad_back s hs i; message = quad_back m hm i; fragment = f })))

pub discard_back : (p s m : ℕ) → s < 2 ^ 32 → m < 2 ^ 32
    → read_of Receiver (discard_octets p s m) ≡ Ok (said_discard (record { priority = p; source = s; message = m }))
discard_back p s m hs hm =
    let xs = discard_octets p s m in
    ap (λ r. after_head Receiver r xs) (passes Receiver xs (framed_written p 3 0 (four_octets s ++ four_octets m) (omega arith) (omega arith)) refl)
    ∙ (λ i. Ok (said_discard (record { priority = p; source = quad_back s hs i; message = quad_back m hm i })))

-- == ACK ==

pub length-numbers : (ns : List ℕ) → length (number_octets ns) ≡ 2 * length ns
length-numbers ns = length-joined two_octets 2 (λ n. refl) ns

numbers_back : (ns : List ℕ) → words_of (number_octets ns) ≡ ns
numbers_back [] = refl
numbers_back (n ∷ ns) = λ i. word_back n i ∷ numbers_back ns i

-- the one entry of an ACK that we write
abbrev one_entry : (size source message : ℕ) → List ℕ → List ℕ
one_entry size s m ns = two_octets size ++ (four_octets s ++ (four_octets m ++ number_octets ns))

module _ (s m : ℕ) (ns : List ℕ) where
  abbrev entry : List ℕ
  entry = one_entry (entry_head + 2 * length ns) s m ns

  entry_length : word entry 0 ≡ entry_head + 2 * length ns
  entry_length = word_back (entry_head + 2 * length ns)

  entry_stands : entry_broken ack_head entry ≡ None
  entry_stands = let l = length-numbers ns in let w = entry_length in grind (arith, nat_tests)

  entry_numbers_lem : entry_numbers entry ≡ ns
  entry_numbers_lem =
      let most : word entry 0 - entry_head ≡ 2 * length ns = omega (arith, entry_length) in
      ap words_of (take_all (word entry 0 - entry_head) (number_octets ns) (omega (arith, length-numbers ns))) ∙ numbers_back ns

  entry_last : drop (word entry 0) entry ≡ []
  entry_last = drop_all (word entry 0) entry (omega (arith, entry_length, length-numbers ns))

  entries_stand : numbers_broken (ack_head + entry_head) ns ≡ None → entries_broken 1 ack_head entry ≡ None
  unfolding entries_broken
  entries_stand good =
      ap (λ b. option_or b (lower (numbers_broken (ack_head + entry_head) (entry_numbers entry)) (entries_broken 0 (ack_head + word entry 0) (drop (word entry 0) entry)))) entry_stands
      ∙ ap (λ ks. lower (numbers_broken (ack_head + entry_head) ks) (entries_broken 0 (ack_head + word entry 0) (drop (word entry 0) entry))) entry_numbers_lem
      ∙ ap (λ b. lower b (entries_broken 0 (ack_head + word entry 0) (drop (word entry 0) entry))) good
      ∙ ap (λ ys. entries_broken 0 (ack_head + word entry 0) ys) entry_last

  entries_back : s < 2 ^ 32 → m < 2 ^ 32 → entries_of 1 ack_head entry ≡ record { place = ack_head; source = s; message = m; numbers = ns } ∷ []
  unfolding entries_of
  entries_back hs hm =
      ap (λ b. entries_if b (Read.entry_of ack_head entry ∷ [])) entry_stands
      ∙ (λ i. record { place = ack_head; source = quad_back s hs i; message = quad_back m hm i; numbers = entry_numbers_lem i } ∷ [])

pub ack_back : (p a s m : ℕ) (ns : List ℕ) → a < 2 ^ 32 → s < 2 ^ 32 → m < 2 ^ 32 → ack_unfit ns ≡ None
    → read_of Sender (ack_octets p a s m ns)
    ≡ Ok (said_ack (record { priority = p; sender = a; entries = record { place = ack_head; source = s; message = m; numbers = ns } ∷ [] }))
ack_back p a s m ns ha hs hm fit =
    let xs = ack_octets p a s m ns in
    let body = four_octets a ++ (two_octets 1 ++ entry s m ns) in
    let short = unbroken (ltb longest (ack_head + entry_head + 2 * length ns)) 0 _ fit in
    let size : 8 + length body ≤ longest = omega (arith, length-numbers ns, ack-fits ns fit) in
    ap (λ r. after_head Sender r xs) (passes Sender xs (framed_written p 1 0 body (omega arith) size) refl)
    ∙ ap (λ b. unless_broken b (said_ack (Read.ack_of xs))) (entries_stand s m ns short.1)
    ∙ (λ i. Ok (said_ack (record { priority = p; sender = quad_back a ha i; entries = entries_back s m ns hs hm i })))

-- == Address ==

pub length-destinations : (ds : List (ℕ × ℕ)) → length (destination_octets ds) ≡ 8 * length ds
length-destinations ds = length-joined pair_octets 8 (λ d. refl) ds

destinations_back : (place : ℕ) (ds : List (ℕ × ℕ)) → Quads ds → destinations_of (length ds) place 0 (destination_octets ds) ≡ placed place ds
unfolding destinations_of
destinations_back place [] small = refl
destinations_back place (d ∷ ds) small =
    let more : ltb (length (destination_octets (d ∷ ds))) destination_size ≡ false = le-ltb _ destination_size (omega arith) in
    cond-false _ _ _ more
    ∙ (λ i. record { place = place; destination = quad_back d.0 (small 0 (omega arith)).0 i; sequence = quad_back d.1 (small 0 (omega arith)).1 i }
    ∷ destinations_back (place + 8) ds (λ k h. small (suc k) (omega arith)) i)

pub address_back : (p t s m e : ℕ) (ds : List (ℕ × ℕ)) → s < 2 ^ 32 → m < 2 ^ 32 → e < 2 ^ 32 → Quads ds → address_unfit t ds ≡ None
    → read_of Receiver (address_octets p t s m e ds)
    ≡ Ok (said_address (record { priority = p; type = address_type; part = 0; total = t; source = s; message = m; expiry = e; reserved = 0; destinations = placed address_head ds }))
address_back p t s m e ds hs hm he small fit =
    let xs = address_octets p t s m e ds in
    let body = four_octets s ++ (four_octets m ++ (four_octets e ++ (two_octets (length ds) ++ (two_octets 0 ++ destination_octets ds)))) in
    let short = unbroken (ltb longest (address_head + destination_size * length ds)) 0 _ fit in
    let long = length-destinations ds in
    let size : 8 + length body ≤ longest = omega (arith, address-fits t ds fit) in
    let good = unbroken (not (is_number t)) 4 (unrisen (placed address_head ds)) short.1 in
    let count = word_back (length ds) in
    let total = word_back t in
    let back : Read.address_destinations xs ≡ placed address_head ds = ap (λ n. destinations_of n address_head 0 (destination_octets ds)) count ∙ destinations_back address_head ds small in
    let whole : address_broken xs ≡ unrisen (Read.address_destinations xs) = grind (arith, nat_tests) in
    ap (λ r. after_head Receiver r xs) (passes Receiver xs (framed_written p 2 t body (omega arith) size) refl)
    ∙ ap (λ b. unless_broken b (said_address (Read.address_of xs))) (whole ∙ ap unrisen back ∙ good.1)
    ∙ (λ i. Ok (said_address (record { priority = p; type = address_type; part = 0; total = total i; source = quad_back s hs i; message = quad_back m hm i; expiry = quad_back e he i; reserved = 0; destinations = back i })))
