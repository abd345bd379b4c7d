-- The steps of a grid: a string written, a string erased, and making.
use Rattle.std.proofs.Common.{◌≡◌, ℕ, ◌+◌, ◌-◌, ◌*◌, ◌<◌, ◌≤◌, true, List, [], length, get_or, take, drop, set, replicate, sym, refl, ap, ◌∙◌, ap₂, ⊎_elim, arith}
use lib.Seq.{paste}
use Rattle.std.proofs.lemmas.List.Edits.{length-paste}
use Rattle.std.proofs.lemmas.List.{get_or_past, get_or_read, length-replicate, length-set}
use Rattle.std.proofs.lemmas.Bool.{cases_lt}
use Rattle.protocol.specs.Limits.{most_strings}
use Rattle.contents.specs.Contents.{Sound, empty_store, fits, in_bounds, string_at, total, width_fits, with_string}
use Rattle.contents.specs.Grids.{GridKept, grid_contents}
use Rattle.contents.specs.Layout.{place_of, string_by}
use Rattle.contents.proofs.Blocks.{cell_room, erased, held-length, string_length, written}
use Rattle.contents.proofs.Bounds.{fits_are, width_are}
use Rattle.contents.proofs.Lengths.{set_short, zero_lengths}
use Rattle.contents.proofs.Places.{empty_by, place_low, sound_by, string_by_lem, total_by}
use Rattle.contents.proofs.Strings.{string_put_none}
use Rattle.contents.proofs.Totals.{total_less, total_put}
use Rattle.contents.proofs.Vacant.{total_empty}

module _ {w held : ℕ} {bytes lens : List ℕ} (k : GridKept w bytes lens held) where
  celled : (p : ℕ) → 0 < get_or lens p 0 → p < most_strings
  celled p h =
      ⊎_elim (λ lt. lt) (λ le. absurd (let z : get_or lens p 0 ≡ 0 = get_or_past lens p 0 (omega (arith, k.laid.1)) in let f : ⊥ = omega arith in f)) (cases_lt p most_strings)

  pub grid_length : (r n : ℕ) → in_bounds r n ≡ true → length (string_at (grid_contents w bytes lens) r n) ≡ get_or lens (place_of r n) 0
  grid_length = held-length w most_strings most_strings bytes lens (λ p. p) k.laid.0 k.short celled

  pub grid_sound : Sound (grid_contents w bytes lens)
  grid_sound =
      sound_by w most_strings (string_by w bytes lens (λ p. p)) k.sized
      (λ p. omega (arith, string_length w most_strings most_strings bytes lens (λ q. q) k.laid.0 k.short celled p, k.short p))
      (total_by w most_strings (string_by w bytes lens (λ p. p)))

  pub grid_held : held ≤ most_strings
  grid_held = omega (arith, k.counted, grid_sound.below)

  -- a string written to its place
  module _ (x : List ℕ) (r n p : ℕ) (h : in_bounds r n ≡ true) (fit : fits (grid_contents w bytes lens) x ≡ true) (e : p ≡ place_of r n)
      (none : length (string_at (grid_contents w bytes lens) r n) ≡ 0) where
    low : p < most_strings
    low = omega (arith, place_low r n h)

    short_string : (0 < length x) × (length x ≤ w)
    short_string = fits_are (grid_contents w bytes lens) x fit

    room : p * w + length x ≤ length bytes
    room = omega (arith, cell_room w most_strings p (length x) low short_string.1, k.laid.0)

    module _ (bytes' : List ℕ) (eb : bytes' ≡ paste bytes (p * w) x (length x)) where
      after : grid_contents w bytes' (set lens p (length x)) ≡ with_string (grid_contents w bytes lens) r n x
      after =
          written w most_strings most_strings bytes lens (λ q. q) k.laid.0 k.short celled x r n p p bytes' (λ q. q) h e (omega (arith, low, k.laid.1)) low
          short_string.1 eb refl (λ q ne. refl) (λ q ne hq. ne)

      pub grid_put_after : (w' : ℕ) → w' ≡ w → grid_contents w' bytes' (set lens p (length x)) ≡ with_string (grid_contents w bytes lens) r n x
      grid_put_after w' ew = rw ew after

      pub grid_put_keeps : (w' : ℕ) → w' ≡ w → GridKept w' bytes' (set lens p (length x)) (held + 1)
      grid_put_keeps w' ew = rw ew record {
        sized = k.sized;
        laid = (ap length eb ∙ length-paste bytes (p * w) x (length x) room (omega arith) ∙ k.laid.0, length-set lens p (length x) ∙ k.laid.1);
        short = set_short w lens p (length x) k.short short_string.1;
        counted = omega (arith, ap total after, total_put (grid_contents w bytes lens) r n x grid_sound h none short_string.0, k.counted);
      }

  -- a string erased
  pub grid_release_after : (r n p : ℕ) → in_bounds r n ≡ true → p ≡ place_of r n → grid_contents w bytes (set lens p 0) ≡ with_string (grid_contents w bytes lens) r n []
  grid_release_after r n p h e = erased w most_strings bytes lens (λ q. q) r n p h e (omega (arith, place_low r n h, k.laid.1))

  -- the length m of the string at a place
  module _ (r n p m : ℕ) (h : in_bounds r n ≡ true) (e : p ≡ place_of r n) (own : m ≡ get_or lens p m) where
    is_length : m ≡ get_or lens p 0
    is_length = get_or_read lens p m (omega (arith, place_low r n h, k.laid.1)) own 0

    long : length (string_at (grid_contents w bytes lens) r n) ≡ m
    long = grid_length r n h ∙ ap (λ (i : ℕ). get_or lens i 0) (sym e) ∙ sym is_length

    pub grid_string : take m (drop (p * w) bytes) ≡ string_at (grid_contents w bytes lens) r n
    grid_string =
        ap₂ (λ (l i : ℕ). take l (drop (i * w) bytes)) (is_length ∙ ap (λ (i : ℕ). get_or lens i 0) e) e
        ∙ sym (string_by_lem w most_strings (string_by w bytes lens (λ q. q)) r n h)

    pub grid_none : m ≤ 0 → grid_contents w bytes lens ≡ with_string (grid_contents w bytes lens) r n []
    grid_none z = sym (string_put_none (grid_contents w bytes lens) r n h (omega (arith, long)))

    -- the length set to 0
    module _ (some : 0 < m) where
      pub grid_less : total (with_string (grid_contents w bytes lens) r n []) + 1 ≡ held
      grid_less = total_less (grid_contents w bytes lens) r n grid_sound h (omega (arith, long)) ∙ sym k.counted

      pub grid_some : 1 ≤ held
      grid_some = omega (arith, grid_less)

      pub grid_release_keeps : GridKept w bytes (set lens p 0) (held - 1)
      grid_release_keeps = record {
        sized = k.sized;
        laid = (k.laid.0, length-set lens p 0 ∙ k.laid.1);
        short = set_short w lens p 0 k.short (omega arith);
        counted = omega (arith, ap total (grid_release_after r n p h e), grid_less);
      }

module _ (w : ℕ) (bytes lens : List ℕ) (el : lens ≡ replicate most_strings 0) where
  made : grid_contents w bytes lens ≡ empty_store w most_strings
  made = empty_by w most_strings (string_by w bytes lens (λ p. p)) (λ p. rw (zero_lengths most_strings p lens el) refl)

  pub grid_made : (w' : ℕ) → w' ≡ w → grid_contents w' bytes lens ≡ empty_store w most_strings
  grid_made w' ew = rw ew made

  pub grid_made_keeps : (w' : ℕ) → width_fits w ≡ true → w' ≡ w → length bytes ≡ most_strings * w → GridKept w' bytes lens 0
  grid_made_keeps w' hw ew eb =
      let a = width_are w hw in
      rw ew record {
        sized = (a.0, a.1, omega arith, omega arith);
        laid = (eb, ap length el ∙ length-replicate {A = ℕ} most_strings 0);
        short = λ p. omega (arith, zero_lengths most_strings p lens el);
        counted = sym (ap total made ∙ total_empty w most_strings);
      }
