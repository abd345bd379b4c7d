-- Going through destinations and entries, one at a time.
use Rattle.std.proofs.Common.{◌≡◌, ℕ, zero, suc, ◌+◌, ◌-◌, ◌*◌, ◌%◌, ◌<◌, ◌≤◌, min, true, false, cond, not, ◌||◌, eqb, ltb, leb, ◌⊎◌, List, [], ◌∷◌, length, get_or, take, drop, Some, None, sym, refl, ap, ◌∙◌, inr, ⊎_elim, arith, length-drop}
use Rattle.std.proofs.lemmas.List.{get_or-drop, drop-drop}
use Rattle.std.proofs.lemmas.Bool.{cases_lt, lt-ltb, le-ltb, cond-true, cond-false, leb-true, and_parts}
use Rattle.std.proofs.lemmas.Bool.Decides.{nat_tests}
use Rattle.std.specs.Option.{option_or}
use Rattle.pdu.specs.Octets.{word, quad, words_of}
use Rattle.pdu.specs.Read.{destinations_of, is_entry_length, entry_broken, entry_numbers, entries_broken, entries_if, entry_of, entries_of, numbers_broken, lower}
use Rattle.pdu.specs.Types.{destination_size, entry_head, ack_count, time_option}

-- fields of what is left from a place on
word-drop : (place : ℕ) (xs : List ℕ) (i j : ℕ) → j ≡ place + i → word (drop place xs) i ≡ word xs j
word-drop place xs i j e =
    let next : place + (i + 1) ≡ j + 1 = omega arith in
    let a = get_or-drop place xs i 0 ∙ ap (λ k. get_or xs k 0) (sym e) in
    let b = get_or-drop place xs (i + 1) 0 ∙ ap (λ k. get_or xs k 0) next in
    λ t. a t * 256 + b t

quad-drop : (place : ℕ) (xs : List ℕ) (i j : ℕ) → j ≡ place + i → quad (drop place xs) i ≡ quad xs j
quad-drop place xs i j e =
    let a = word-drop place xs i j e in
    let b = word-drop place xs (i + 2) (j + 2) (omega arith) in
    λ t. a t * 65536 + b t

-- == destinations ==

pub destinations-none : (count place reserved : ℕ) (xs : List ℕ) → (count ≡ 0) ⊎ (length xs < destination_size) → destinations_of count place reserved xs ≡ []
unfolding destinations_of
destinations-none zero place reserved xs h = refl
destinations-none (suc n) place reserved xs h =
    cond-true (ltb (length xs) destination_size) _ _ (lt-ltb (length xs) destination_size (⊎_elim (λ e. omega arith) (λ l. l) h))

-- the rest after a step that does not go past the end
destinations_rest : (n place reserved step : ℕ) (xs : List ℕ) → place ≤ length xs → step ≡ min (destination_size + reserved) (length xs - place)
    → destinations_of n (place + (destination_size + reserved)) reserved (drop (destination_size + reserved) (drop place xs)) ≡ destinations_of n (place + step) reserved (drop (place + step) xs)
destinations_rest n place reserved step xs h e =
    ⊎_elim
    (λ (l : destination_size + reserved < length xs - place). let same : step ≡ destination_size + reserved = omega arith in
    ap (λ ys. destinations_of n (place + (destination_size + reserved)) reserved ys) (drop-drop (destination_size + reserved) place xs)
    ∙ ap (λ k. destinations_of n (place + k) reserved (drop (place + k) xs)) (sym same))
    (λ (l : length xs - place ≤ destination_size + reserved). destinations-none n _ reserved _ (inr (simp (length-drop, length-drop) (omega arith)))
    ∙ sym (destinations-none n (place + step) reserved _ (inr (simp length-drop (omega arith)))))
    (cases_lt (destination_size + reserved) (length xs - place))

pub destinations_front : (count place reserved step : ℕ) (xs : List ℕ) (at d s : ℕ) → 0 < count → place + destination_size ≤ length xs
    → step ≡ min (destination_size + reserved) (length xs - place) → at ≡ place → d ≡ quad xs place → s ≡ quad xs (place + 4)
    → destinations_of count place reserved (drop place xs) ≡ record { place = at; destination = d; sequence = s } ∷ destinations_of (count - 1) (place + step) reserved (drop (place + step) xs)
unfolding destinations_of
destinations_front zero place reserved step xs at d s some more e ep ed es = absurd (omega arith)
destinations_front (suc n) place reserved step xs at d s some more e ep ed es =
    let left : destination_size ≤ length (drop place xs) = simp length-drop (omega arith) in
    let p : place ≡ place + 0 = omega arith in
    let first = quad-drop place xs 0 place p ∙ sym ed in
    let second = quad-drop place xs 4 (place + 4) refl ∙ sym es in
    let one : n ≡ suc n - 1 = omega arith in
    cond-false (ltb (length (drop place xs)) destination_size) _ _ (le-ltb (length (drop place xs)) destination_size left)
    ∙ (λ t. record { place = sym ep t; destination = first t; sequence = second t } ∷ destinations_rest n place reserved step xs (omega arith) e t)
    ∙ ap (λ k. record { place = at; destination = d; sequence = s } ∷ destinations_of k (place + step) reserved (drop (place + step) xs)) one

-- == entries ==

-- whether an entry stands at a place of a datagram; l is the length that stands there
module _ (place l : ℕ) (xs : List ℕ) (len : l ≡ word xs place) where
  broken_at : entry_broken place (drop place xs)
      ≡ cond (ltb (length xs - place) entry_head) (Some ack_count) (cond (not (is_entry_length l)) (Some place) (cond (ltb (length xs - place) l) (Some ack_count) None))
  broken_at =
      let left = length-drop place xs in
      let is = word-drop place xs 0 place (omega arith) ∙ sym len in
      λ t. cond (ltb (left t) entry_head) (Some ack_count) (cond (not (is_entry_length (is t))) (Some place) (cond (ltb (left t) (is t)) (Some ack_count) None))

  pub entry_short : length xs - place < entry_head → entry_broken place (drop place xs) ≡ Some ack_count
  entry_short h = broken_at ∙ grind (arith, nat_tests)

  pub entry_odd : entry_head ≤ length xs - place → is_entry_length l ≡ false → entry_broken place (drop place xs) ≡ Some place
  entry_odd h odd = broken_at ∙ grind (arith, nat_tests)

  pub entry_low : is_entry_length l ≡ true → entry_head ≤ l
  entry_low even = leb-true entry_head l (and_parts (leb entry_head l) (eqb (l % 2) 0) even).0

  pub entry_past : entry_head ≤ length xs - place → is_entry_length l ≡ true → length xs - place < l → entry_broken place (drop place xs) ≡ Some ack_count
  entry_past h even past = broken_at ∙ grind (arith, nat_tests)

  pub entry_whole : is_entry_length l ≡ true → entry_head ≤ length xs - place → l ≤ length xs - place → entry_broken place (drop place xs) ≡ None
  entry_whole even h fits = broken_at ∙ grind (arith, nat_tests)

pub entries_none : (count place : ℕ) (xs : List ℕ) → count ≡ 0 → entries_of count place xs ≡ []
unfolding entries_of
entries_none zero place xs e = refl
entries_none (suc n) place xs e = absurd (omega arith)

pub entries_stop : (count place p : ℕ) (xs : List ℕ) → entry_broken place xs ≡ Some p → entries_of count place xs ≡ []
unfolding entries_of
entries_stop zero place p xs e = refl
entries_stop (suc n) place p xs e = ap (λ b. entries_if b (entry_of place xs ∷ entries_of n (place + word xs 0) (drop (word xs 0) xs))) e

-- an entry stands at a place of a datagram, and is this one
module _ (place l : ℕ) (xs : List ℕ) (stands : entry_broken place (drop place xs) ≡ None) (len : l ≡ word xs place) where
  word_is : word (drop place xs) 0 ≡ l
  word_is = word-drop place xs 0 place (omega arith) ∙ sym len

  rest_is : drop (word (drop place xs) 0) (drop place xs) ≡ drop (place + l) xs
  rest_is = ap (λ k. drop k (drop place xs)) word_is ∙ drop-drop l place xs

  pub numbers_are : entry_numbers (drop place xs) ≡ words_of (take (l - entry_head) (drop (place + entry_head) xs))
  numbers_are = ap (λ k. words_of (take (k - entry_head) (drop entry_head (drop place xs)))) word_is ∙ ap (λ ys. words_of (take (l - entry_head) ys)) (drop-drop entry_head place xs)

  pub entries_front : (count at s m : ℕ) (ns : List ℕ) → 0 < count → at ≡ place → s ≡ quad xs (place + 2) → m ≡ quad xs (place + 6) → ns ≡ take (l - entry_head) (drop (place + entry_head) xs)
      → entries_of count place (drop place xs) ≡ record { place = at; source = s; message = m; numbers = words_of ns } ∷ entries_of (count - 1) (place + l) (drop (place + l) xs)
  unfolding entries_of
  entries_front zero at s m ns some ep es em en = absurd (omega arith)
  entries_front (suc n) at s m ns some ep es em en =
      let source = quad-drop place xs 2 (place + 2) refl ∙ sym es in
      let message = quad-drop place xs 6 (place + 6) refl ∙ sym em in
      let numbers = numbers_are ∙ ap words_of (sym en) in
      let one : n ≡ suc n - 1 = omega arith in
      ap (λ b. entries_if b (entry_of place (drop place xs) ∷ entries_of n (place + word (drop place xs) 0) (drop (word (drop place xs) 0) (drop place xs)))) stands
      ∙ (λ t. record { place = sym ep t; source = source t; message = message t; numbers = numbers t } ∷ entries_of n (place + word_is t) (rest_is t))
      ∙ ap (λ k. record { place = at; source = s; message = m; numbers = words_of ns } ∷ entries_of k (place + l) (drop (place + l) xs)) one

  -- the same of the lowest broken place
  pub broken_front : (count at : ℕ) (ns : List ℕ) → 0 < count → at ≡ place → ns ≡ take (l - entry_head) (drop (place + entry_head) xs)
      → entries_broken count place (drop place xs) ≡ lower (numbers_broken (at + entry_head) (words_of ns)) (entries_broken (count - 1) (place + l) (drop (place + l) xs))
  unfolding entries_broken
  broken_front zero at ns some ep en = absurd (omega arith)
  broken_front (suc n) at ns some ep en =
      let numbers = numbers_are ∙ ap words_of (sym en) in
      let one : n ≡ suc n - 1 = omega arith in
      ap (λ b. option_or b (lower (numbers_broken (place + entry_head) (entry_numbers (drop place xs))) (entries_broken n (place + word (drop place xs) 0) (drop (word (drop place xs) 0) (drop place xs))))) stands
      ∙ (λ t. lower (numbers_broken (sym ep t + entry_head) (numbers t)) (entries_broken n (place + word_is t) (rest_is t)))
      ∙ ap (λ k. lower (numbers_broken (at + entry_head) (words_of ns)) (entries_broken k (place + l) (drop (place + l) xs))) one

pub broken_stop : (count place p : ℕ) (xs : List ℕ) → 0 < count → entry_broken place xs ≡ Some p → entries_broken count place xs ≡ Some p
unfolding entries_broken
broken_stop zero place p xs some e = absurd (omega arith)
broken_stop (suc n) place p xs some e = ap (λ b. option_or b (lower (numbers_broken (place + entry_head) (entry_numbers xs)) (entries_broken n (place + word xs 0) (drop (word xs 0) xs)))) e

-- behind the last entry
pub broken_rest : (count place : ℕ) (xs : List ℕ) → count ≡ 0
    → entries_broken count place (drop place xs) ≡ cond (eqb (length xs - place) 0 || eqb (length xs - place) time_option) None (Some ack_count)
unfolding entries_broken
broken_rest zero place xs e = ap (λ k. cond (eqb k 0 || eqb k time_option) None (Some ack_count)) (length-drop place xs)
broken_rest (suc n) place xs e = absurd (omega arith)
