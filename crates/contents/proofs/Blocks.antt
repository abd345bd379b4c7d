-- Strings in cells of memory, and a string written to one.
use Rattle.std.proofs.Common.{◌≡◌, ℕ, suc, ◌+◌, ◌*◌, ◌<◌, ◌≤◌, true, ◌≢◌, ◌⊎◌, List, [], length, get_or, take, drop, set, refl, ap, ◌∙◌, inl, inr, ⊎_elim, arith, rules}
use lib.Seq.{paste}
use Rattle.std.proofs.lemmas.Nat.{mul-le}
use Rattle.std.proofs.lemmas.List.Edits.{length-paste}
use Rattle.std.proofs.lemmas.List.{get_or-drop, get_or-set_other, get_or-set_same, get_or-take, length-drop, length-take, length-take-le, places, same_lists}
use Rattle.std.proofs.lemmas.Bool.{cases_lt}
use Rattle.contents.specs.Contents.{in_bounds, string_at, with_string}
use Rattle.contents.specs.Layout.{Short, place_of, store_by, string_by}
use Rattle.contents.proofs.Places.{put_by, string_by_lem}

-- a cell's octets lie within
pub cell_room : (w cells c n : ℕ) → c < cells → n ≤ w → c * w + n ≤ cells * w
cell_room w cells c n h k = omega (arith, mul-le (suc c) w cells w h (omega arith))

paste_other : {X : Type 0} (d s : List X) (at n j : ℕ) (e : X) → at + n ≤ length d → n ≤ length s → (j < at) ⊎ (at + n ≤ j) → get_or (paste d at s n) j e ≡ get_or d j e
paste_other d s at n j e h k (inl b) = search (rules, places)
paste_other d s at n j e h k (inr b) = search (rules, places)

-- the octets written to a cell, and those of another
block_same : (w c : ℕ) (bytes x : List ℕ) → c * w + length x ≤ length bytes → take (length x) (drop (c * w) (paste bytes (c * w) x (length x))) ≡ x
block_same w c bytes x k = same_lists _ _ (search (rules, places)) (λ j d l. grind (arith, places))

block_other : (w c d n : ℕ) (bytes x : List ℕ) → c * w + length x ≤ length bytes → length x ≤ w → n ≤ w → d ≢ c
    → take n (drop (d * w) (paste bytes (c * w) x (length x))) ≡ take n (drop (d * w) bytes)
block_other w c d n bytes x k fx fn ne =
    let apart : (d * w + w ≤ c * w) ⊎ (c * w + w ≤ d * w) =
    ⊎_elim (λ lt. inl (omega (arith, mul-le (suc d) w c w lt (omega arith))))
    (λ le. inr (omega (arith, mul-le (suc c) w d w (omega arith) (omega arith))))
    (cases_lt d c) in
    same_lists _ _
    (let e = length-paste bytes (c * w) x (length x) k (omega arith) in search (rules, places))
    (λ j z l.
    let less : j < n = omega (arith, simp (length-take, length-drop) at l) in
    let out : (d * w + j < c * w) ⊎ (c * w + length x ≤ d * w + j) = ⊎_elim (λ a. inl (omega arith)) (λ a. inr (omega arith)) apart in
    simp (get_or-take, get_or-drop) (paste_other bytes x (c * w) (length x) (d * w + j) z k (omega arith) out))

-- memory of so many cells, in which each string that is held has a cell and is no longer than the width
module _ (w limit cells : ℕ) (bytes lens : List ℕ) (cell : ℕ → ℕ)
    (long : length bytes ≡ cells * w) (short : Short w lens) (celled : (p : ℕ) → 0 < get_or lens p 0 → cell p < cells) where
  pub string_length : (p : ℕ) → length (string_by w bytes lens cell p) ≡ get_or lens p 0
  string_length p =
      ⊎_elim
      (λ h. let m = cell_room w cells (cell p) (get_or lens p 0) (celled p h) (short p) in
      length-take-le (get_or lens p 0) (drop (cell p * w) bytes) (simp length-drop (omega arith)))
      (λ h. let z : get_or lens p 0 ≡ 0 = omega arith in rw z refl)
      (cases_lt 0 (get_or lens p 0))

  pub held-length : (r n : ℕ) → in_bounds r n ≡ true → length (string_at (store_by w limit (string_by w bytes lens cell)) r n) ≡ get_or lens (place_of r n) 0
  held-length r n h = ap length (string_by_lem w limit (string_by w bytes lens cell) r n h) ∙ string_length (place_of r n)

  -- A string written to the cell c for the place p. No other place that holds a string has that cell.
  pub written : (x : List ℕ) (r n p c : ℕ) (bytes' : List ℕ) (cell' : ℕ → ℕ) → in_bounds r n ≡ true → p ≡ place_of r n → p < length lens → c < cells → length x ≤ w
      → bytes' ≡ paste bytes (c * w) x (length x) → cell' p ≡ c → ((q : ℕ) → q ≢ p → cell' q ≡ cell q) → ((q : ℕ) → q ≢ p → 0 < get_or lens q 0 → cell q ≢ c)
      → store_by w limit (string_by w bytes' (set lens p (length x)) cell') ≡ with_string (store_by w limit (string_by w bytes lens cell)) r n x
  written x r n p c bytes' cell' h e lp low fx eb here there unused =
      let room : c * w + length x ≤ length bytes = omega (arith, cell_room w cells c (length x) low fx) in
      put_by w limit (string_by w bytes lens cell) (string_by w bytes' (set lens p (length x)) cell') r n p x h e
      (rw (get_or-set_same lens p (length x) 0 lp, here, eb) (block_same w c bytes x room))
      (λ q ne. rw (get_or-set_other lens p q (length x) 0 ne, there q ne, eb)
      (⊎_elim
      (λ hq. block_other w c (cell q) (get_or lens q 0) bytes x room fx (short q) (unused q ne hq))
      (λ hq. let y : get_or lens q 0 ≡ 0 = omega arith in rw y refl)
      (cases_lt 0 (get_or lens q 0))))

-- The length of a place set to 0.
pub erased : (w limit : ℕ) (bytes lens : List ℕ) (cell : ℕ → ℕ) (r n p : ℕ) → in_bounds r n ≡ true → p ≡ place_of r n → p < length lens
    → store_by w limit (string_by w bytes (set lens p 0) cell) ≡ with_string (store_by w limit (string_by w bytes lens cell)) r n []
erased w limit bytes lens cell r n p h e lp =
    put_by w limit (string_by w bytes lens cell) (string_by w bytes (set lens p 0) cell) r n p [] h e
    (rw (get_or-set_same lens p 0 0 lp) refl) (λ q ne. rw (get_or-set_other lens p q 0 0 ne) refl)
