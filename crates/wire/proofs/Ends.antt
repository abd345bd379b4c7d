-- One step of a walk through destinations or entries, and where it ends.
use Rattle.std.proofs.Common.{◌≡◌, ℕ, zero, suc, ◌+◌, ◌-◌, ◌<◌, List, [], ◌∷◌, length, take, drop, Some, None, Ok, Err, Option, Result, sym, refl, ap, ◌∙◌, inr, arith, length-drop}
use Rattle.std.specs.Result.{result_err}
use Rattle.pdu.specs.Octets.{word, quad, words_of}
use Rattle.pdu.specs.Read.{destinations_of, entry_broken, entry_of, entries_if, entries_of, entries_broken, lower, numbers_broken}
use Rattle.pdu.specs.Said as Said
use Rattle.pdu.specs.Types.{destination_size, entry_head}
use Rattle.pdu.proofs.Walks.{destinations-none, entries_stop, entries_front, broken_front, broken_stop}
use Rattle.wire.specs.Views.{place_of}

place_from_err : (r : Result ℕ ℕ) → result_err r ≡ place_of r
place_from_err (Ok length) = refl
place_from_err (Err place) = refl

stopped : (count place : ℕ) (xs : List ℕ) (r : Option ℕ) → 0 < count → entries_of count place xs ≡ [] → entry_broken place xs ≡ r → r ≡ entries_broken count place xs
unfolding entries_of
stopped zero place xs r some none e = absurd (omega arith)
stopped (suc n) place xs None some none e =
    let more = ap (λ b. entries_if b (entry_of place xs ∷ entries_of n (place + word xs 0) (drop (word xs 0) xs))) e in cc
stopped (suc n) place xs (Some p) some none e = sym (broken_stop (suc n) place p xs some e)

-- where entries are left and none stands, its place is the broken one
pub stopped_at : (count place : ℕ) (xs : List ℕ) (r : Result ℕ ℕ) (b : Option ℕ) → 0 < count → entries_of count place xs ≡ [] → entry_broken place xs ≡ place_of r → b ≡ result_err r → b ≡ entries_broken count place xs
stopped_at count place xs r b some none e is = is ∙ place_from_err r ∙ stopped count place xs (place_of r) some none e

-- where no entry stands, none is listed
pub refused_at : (count place : ℕ) (xs : List ℕ) (r : Result ℕ ℕ) → entry_broken place xs ≡ place_of r → ((l : ℕ) → r ≡ Ok l → ⊥) → entries_of count place xs ≡ []
refused_at count place xs (Ok l) e none = absurd (none l refl)
refused_at count place xs (Err p) e none = entries_stop count place p xs e

-- an entry stands at a place of a datagram, and is e
module _ (place l count rest : ℕ) (xs : List ℕ) (e : Said.Entry) (stands : entry_broken place (drop place xs) ≡ None) (len : l ≡ word xs place) (some : 0 < count) (fewer : rest ≡ count - 1) (at : e.place ≡ place) (numbers : e.numbers ≡ words_of (take (l - entry_head) (drop (place + entry_head) xs))) where
  pub front_is : e.source ≡ quad xs (place + 2) → e.message ≡ quad xs (place + 6) → entries_of count place (drop place xs) ≡ e ∷ entries_of rest (place + l) (drop (place + l) xs)
  front_is source message =
      entries_front place l xs stands len count e.place e.source e.message _ some at source message refl
      ∙ (λ t. record { place = e.place; source = e.source; message = e.message; numbers = sym numbers t } ∷ entries_of (sym fewer t) (place + l) (drop (place + l) xs))

  pub front_broken : entries_broken count place (drop place xs) ≡ lower (numbers_broken (e.place + entry_head) e.numbers) (entries_broken rest (place + l) (drop (place + l) xs))
  front_broken =
      broken_front place l xs stands len count e.place _ some at refl
      ∙ (λ t. lower (numbers_broken (e.place + entry_head) (sym numbers t)) (entries_broken (sym fewer t) (place + l) (drop (place + l) xs)))

-- fewer octets are left than a destination has
pub destinations_short : (count place reserved : ℕ) (xs : List ℕ) → length xs - place < destination_size → destinations_of count place reserved (drop place xs) ≡ []
destinations_short count place reserved xs h = destinations-none count place reserved (drop place xs) (inr (simp length-drop h))
