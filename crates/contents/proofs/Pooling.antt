-- The steps of a pool: a string written to a free cell, a string's cell made free, and making.
use Rattle.std.proofs.Common.{◌≡◌, ℕ, ◌+◌, ◌*◌, ◌<◌, ◌≤◌, true, ◌≢◌, List, [], ◌∷◌, ◌++◌, length, get_or, take, drop, set, replicate, sym, refl, ap, ◌∙◌, ap₂, ⊎_elim, arith}
use lib.Seq.{paste}
use Rattle.std.proofs.lemmas.List.Edits.{length-paste}
use Rattle.std.proofs.lemmas.List.{get_or-set_other, get_or-set_same, length-append, length-replicate, length-set, nil_from_length}
use Rattle.std.proofs.Math.ListN.{get_or-append}
use Rattle.std.proofs.Math.Seq.{get_or-append_seam}
use Rattle.std.proofs.lemmas.Bool.{cases_eq}
use Rattle.protocol.specs.Limits.{most_strings}
use Rattle.contents.specs.Contents.{Sound, empty_store, fits, in_bounds, limit_fits, string_at, total, width_fits, with_string}
use Rattle.contents.specs.Layout.{place_of, string_by}
use Rattle.contents.specs.Pools.{PoolKept, pool_contents}
use Rattle.contents.proofs.Blocks.{cell_room, held-length, string_length, written}
use Rattle.contents.proofs.Bounds.{fits_are, limit_are, width_are}
use Rattle.contents.proofs.Lengths.{set_short, zero_lengths}
use Rattle.contents.proofs.Places.{empty_by, place_low, put_by, sound_by, string_by_lem}
use Rattle.contents.proofs.Totals.{total_less, total_put}
use Rattle.contents.proofs.Vacant.{total_empty}

-- a stack with one more on top
module _ (rest all : List ℕ) (c : ℕ) (e : all ≡ rest ++ c ∷ []) where
  taller : length all ≡ length rest + 1
  taller = ap length e ∙ simp length-append

  under : (i : ℕ) → i < length rest → get_or all i 0 ≡ get_or rest i 0
  under i h = rw e (get_or-append rest (c ∷ []) 0 i h)

  on_top : (i : ℕ) → i ≡ length rest → get_or all i 0 ≡ c
  on_top i h = rw (h, e) (get_or-append_seam rest c [] 0)

module _ {w limit room : ℕ} {bytes cells lens spare : List ℕ} (k : PoolKept w limit room bytes cells lens spare) where
  pub pool_length : (r n : ℕ) → in_bounds r n ≡ true → length (string_at (pool_contents w limit bytes cells lens) r n) ≡ get_or lens (place_of r n) 0
  pool_length = held-length w limit limit bytes lens (λ p. get_or cells p 0) k.spread.0 k.short k.celled

  pub pool_sound : Sound (pool_contents w limit bytes cells lens)
  pool_sound =
      sound_by w limit (string_by w bytes lens (λ p. get_or cells p 0)) k.sized
      (λ p. omega (arith, string_length w limit limit bytes lens (λ q. get_or cells q 0) k.spread.0 k.short k.celled p, k.short p))
      (omega (arith, k.whole))

  -- what stands at a place, by the reads of its length
  pub pool_none : (r n p : ℕ) → in_bounds r n ≡ true → p ≡ place_of r n → get_or lens p 0 ≡ 0 → string_at (pool_contents w limit bytes cells lens) r n ≡ []
  pool_none r n p h e z = nil_from_length _ (pool_length r n h ∙ ap (λ (i : ℕ). get_or lens i 0) (sym e) ∙ z)

  -- octets of a cell lie within
  cell_within : (c n : ℕ) → c < limit → n ≤ w → c * w + n ≤ length bytes
  cell_within c n h le = omega (arith, cell_room w limit c n h le, k.spread.0)

  -- below the limit a cell is free
  pub pool_spare : (total (pool_contents w limit bytes cells lens) ≡ limit → ⊥) → 0 < length spare
  pool_spare under_limit = omega (arith, k.whole, under_limit)

  -- a string written to the cell on top of the stack
  module _ (x : List ℕ) (r n p c : ℕ) (rest : List ℕ) (h : in_bounds r n ≡ true) (fit : fits (pool_contents w limit bytes cells lens) x ≡ true) (e : p ≡ place_of r n)
      (none : length (string_at (pool_contents w limit bytes cells lens) r n) ≡ 0) (top : spare ≡ rest ++ c ∷ []) where
    short_string : (0 < length x) × (length x ≤ w)
    short_string = fits_are (pool_contents w limit bytes cells lens) x fit

    tall : length spare ≡ length rest + 1
    tall = taller rest spare c top

    ec : c ≡ get_or spare (length rest) 0
    ec = sym (on_top rest spare c top (length rest) refl)

    low : c < limit
    low = omega (arith, tall, ec, k.stocked (length rest) (omega (arith, tall)))

    place : p < most_strings
    place = omega (arith, place_low r n h)

    pub pool_put_room : c * w + length x ≤ length bytes
    pool_put_room = cell_within c (length x) low short_string.1

    -- no held place has the cell
    other_cell : (q : ℕ) → 0 < get_or lens q 0 → get_or cells q 0 ≢ c
    other_cell q hq i = k.unused (length rest) q (omega (arith, tall), hq, sym ec ∙ sym i)

    same_cell : get_or (set cells p c) p 0 ≡ c
    same_cell = get_or-set_same cells p c 0 (omega (arith, place, k.spread.1))

    module _ (bytes' : List ℕ) (eb : bytes' ≡ paste bytes (c * w) x (length x)) where
      after : pool_contents w limit bytes' (set cells p c) (set lens p (length x)) ≡ with_string (pool_contents w limit bytes cells lens) r n x
      after =
          written w limit limit bytes lens (λ q. get_or cells q 0) k.spread.0 k.short k.celled x r n p c bytes' (λ q. get_or (set cells p c) q 0) h e
          (omega (arith, place, k.spread.2)) low short_string.1 eb same_cell (λ q ne. get_or-set_other cells p q c 0 ne) (λ q ne hq. other_cell q hq)

      keeps : (room' : ℕ) → limit ≤ room' → PoolKept w limit room' bytes' (set cells p c) (set lens p (length x)) rest
      keeps room' roomy =
          let lo : (q : ℕ) → q ≢ p → get_or (set lens p (length x)) q 0 ≡ get_or lens q 0 = λ q ne. get_or-set_other lens p q (length x) 0 ne in
          let co : (q : ℕ) → q ≢ p → get_or (set cells p c) q 0 ≡ get_or cells q 0 = λ q ne. get_or-set_other cells p q c 0 ne in
          let un : (i : ℕ) → i < length rest → get_or spare i 0 ≡ get_or rest i 0 = under rest spare c top in
          let at : (q : ℕ) → q ≡ p → get_or (set cells p c) q 0 ≡ c = λ q i. ap (λ (y : ℕ). get_or (set cells p c) y 0) i ∙ same_cell in
          record {
            sized = k.sized;
            spread = (
              ap length eb ∙ length-paste bytes (c * w) x (length x) pool_put_room (omega arith) ∙ k.spread.0,
              length-set cells p c ∙ k.spread.1,
              length-set lens p (length x) ∙ k.spread.2,
              roomy,
            );
            short = set_short w lens p (length x) k.short short_string.1;
            celled = λ q hq. ⊎_elim (λ i. omega (arith, at q i, low)) (λ ne. omega (arith, co q ne, k.celled q (omega (arith, lo q ne)))) (cases_eq q p);
            apart = λ a g u.
                ⊎_elim
                (λ i. ⊎_elim (λ j. i ∙ sym j) (λ nj. absurd (other_cell g (omega (arith, u.1, lo g nj)) (sym (co g nj) ∙ sym u.2 ∙ at a i))) (cases_eq g p))
                (λ ni. ⊎_elim
                (λ j. absurd (other_cell a (omega (arith, u.0, lo a ni)) (sym (co a ni) ∙ u.2 ∙ at g j)))
                (λ nj. k.apart a g (omega (arith, u.0, lo a ni), omega (arith, u.1, lo g nj), sym (co a ni) ∙ u.2 ∙ co g nj))
                (cases_eq g p))
                (cases_eq a p);
            stocked = λ i hi. omega (arith, un i hi, k.stocked i (omega (arith, tall)));
            distinct = λ i j u. k.distinct i j (omega (arith, tall, u.0), omega (arith, tall, u.1), un i u.0 ∙ u.2 ∙ sym (un j u.1));
            unused = λ i q u.
                ⊎_elim
                (λ y. let j : i ≡ length rest = k.distinct i (length rest) (omega (arith, tall, u.0), omega (arith, tall), un i u.0 ∙ u.2 ∙ at q y ∙ ec) in omega (arith, u.0))
                (λ ne. k.unused i q (omega (arith, tall, u.0), omega (arith, u.1, lo q ne), un i u.0 ∙ u.2 ∙ co q ne))
                (cases_eq q p);
            whole = omega (arith, tall, k.whole, ap total after, total_put (pool_contents w limit bytes cells lens) r n x pool_sound h none short_string.0);
          }

      -- a width that is the same, in other words
      module _ (w' : ℕ) (ew : w' ≡ w) where
        pub pool_put_after : pool_contents w' limit bytes' (set cells p c) (set lens p (length x)) ≡ with_string (pool_contents w limit bytes cells lens) r n x
        pool_put_after = rw ew after

        pub pool_put_keeps : (room' : ℕ) → limit ≤ room' → PoolKept w' limit room' bytes' (set cells p c) (set lens p (length x)) rest
        pool_put_keeps room' roomy = rw ew (keeps room' roomy)

  -- a string that is held, and its cell
  module _ (r n p c : ℕ) (h : in_bounds r n ≡ true) (e : p ≡ place_of r n) (long : 0 < get_or lens p 0) (own : c ≡ get_or cells p 0) where
    low_cell : c < limit
    low_cell = omega (arith, own, k.celled p long)

    pub pool_room : c * w + get_or lens p 0 ≤ length bytes
    pool_room = cell_within c (get_or lens p 0) low_cell (k.short p)

    pub pool_string : take (get_or lens p 0) (drop (c * w) bytes) ≡ string_at (pool_contents w limit bytes cells lens) r n
    pool_string =
        ap₂ (λ (m d : ℕ). take m (drop (d * w) bytes)) (ap (λ (i : ℕ). get_or lens i 0) e) (own ∙ ap (λ (i : ℕ). get_or cells i 0) e)
        ∙ sym (string_by_lem w limit (string_by w bytes lens (λ q. get_or cells q 0)) r n h)

    held : 0 < length (string_at (pool_contents w limit bytes cells lens) r n)
    held = omega (arith, long, pool_length r n h, ap (λ (i : ℕ). get_or lens i 0) e)

    low_place : p < most_strings
    low_place = omega (arith, place_low r n h)

    -- its cell and its length set to 0, and its cell put on the stack
    co : (q : ℕ) → q ≢ p → get_or (set cells p 0) q 0 ≡ get_or cells q 0
    co q ne = get_or-set_other cells p q 0 0 ne

    lo : (q : ℕ) → q ≢ p → get_or (set lens p 0) q 0 ≡ get_or lens q 0
    lo q ne = get_or-set_other lens p q 0 0 ne

    lp : get_or (set lens p 0) p 0 ≡ 0
    lp = get_or-set_same lens p 0 0 (omega (arith, low_place, k.spread.2))

    pub pool_release_after : pool_contents w limit bytes (set cells p 0) (set lens p 0) ≡ with_string (pool_contents w limit bytes cells lens) r n []
    pool_release_after =
        put_by w limit (string_by w bytes lens (λ q. get_or cells q 0)) (string_by w bytes (set lens p 0) (λ q. get_or (set cells p 0) q 0)) r n p [] h e
        (rw lp refl) (λ q ne. rw (lo q ne, co q ne) refl)

    -- one string fewer
    fewer : total (with_string (pool_contents w limit bytes cells lens) r n []) + 1 ≡ total (pool_contents w limit bytes cells lens)
    fewer = total_less (pool_contents w limit bytes cells lens) r n pool_sound h held

    pub pool_less : length spare < limit
    pool_less = omega (arith, fewer, k.whole)

    module _ (spare' : List ℕ) (room' : ℕ) (top : spare' ≡ spare ++ c ∷ []) (roomy : limit ≤ room') where
      tall' : length spare' ≡ length spare + 1
      tall' = taller spare spare' c top

      pub pool_release_keeps : PoolKept w limit room' bytes (set cells p 0) (set lens p 0) spare'
      pool_release_keeps =
          let stays : (q : ℕ) → 0 < get_or (set lens p 0) q 0 → (q ≢ p) × (0 < get_or lens q 0) =
          λ q hq. ⊎_elim (λ i. absurd (let o : get_or (set lens p 0) q 0 ≡ 0 = ap (λ (y : ℕ). get_or (set lens p 0) y 0) i ∙ lp in let x : ⊥ = omega arith in x))
          (λ ne. (ne, omega (arith, lo q ne))) (cases_eq q p) in
          let un : (i : ℕ) → i < length spare → get_or spare' i 0 ≡ get_or spare i 0 = under spare spare' c top in
          let on : (i : ℕ) → i ≡ length spare → get_or spare' i 0 ≡ c = on_top spare spare' c top in
          record {
            sized = k.sized;
            spread = (k.spread.0, length-set cells p 0 ∙ k.spread.1, length-set lens p 0 ∙ k.spread.2, roomy);
            short = set_short w lens p 0 k.short (omega arith);
            celled = λ q hq. let o = stays q hq in omega (arith, co q o.0, k.celled q o.1);
            apart = λ a g u.
                let o = stays a u.0 in
                let v = stays g u.1 in
                k.apart a g (o.1, v.1, sym (co a o.0) ∙ u.2 ∙ co g v.0);
            stocked = λ i hi. ⊎_elim (λ j. omega (arith, on i j, low_cell)) (λ ne. omega (arith, un i (omega (arith, tall')), k.stocked i (omega (arith, tall')))) (cases_eq i (length spare));
            distinct = λ i j u.
                ⊎_elim
                (λ a. ⊎_elim
                (λ b. a ∙ sym b)
                (λ nb. absurd (k.unused j p (omega (arith, tall', u.1), long, sym (un j (omega (arith, tall', u.1))) ∙ sym u.2 ∙ on i a ∙ own)))
                (cases_eq j (length spare)))
                (λ na. ⊎_elim
                (λ b. absurd (k.unused i p (omega (arith, tall', u.0), long, sym (un i (omega (arith, tall', u.0))) ∙ u.2 ∙ on j b ∙ own)))
                (λ nb. k.distinct i j (omega (arith, tall', u.0), omega (arith, tall', u.1), sym (un i (omega (arith, tall', u.0))) ∙ u.2 ∙ un j (omega (arith, tall', u.1))))
                (cases_eq j (length spare)))
                (cases_eq i (length spare));
            unused = λ i q u.
                let o = stays q u.1 in
                ⊎_elim
                (λ a. o.0 (sym (k.apart p q (long, o.1, sym own ∙ sym (on i a) ∙ u.2 ∙ co q o.0))))
                (λ na. k.unused i q (omega (arith, tall', u.0), o.1, sym (un i (omega (arith, tall', u.0))) ∙ u.2 ∙ co q o.0))
                (cases_eq i (length spare));
            whole = omega (arith, tall', k.whole, ap total pool_release_after, fewer);
          }

module _ (w limit : ℕ) (bytes cells lens : List ℕ) (el : lens ≡ replicate most_strings 0) where
  made : pool_contents w limit bytes cells lens ≡ empty_store w limit
  made = empty_by w limit (string_by w bytes lens (λ p. get_or cells p 0)) (λ p. rw (zero_lengths most_strings p lens el) refl)

  pub pool_made : (w' : ℕ) → w' ≡ w → pool_contents w' limit bytes cells lens ≡ empty_store w limit
  pool_made w' ew = rw ew made

  pub pool_made_keeps : (w' room : ℕ) (spare : List ℕ) → width_fits w ≡ true → limit_fits limit ≡ true → w' ≡ w → length bytes ≡ limit * w → length cells ≡ most_strings
      → length spare ≡ limit → ((i : ℕ) → i < limit → get_or spare i 0 ≡ i) → limit ≤ room → PoolKept w' limit room bytes cells lens spare
  pool_made_keeps w' room spare hw hl ew eb ec n each roomy =
      let a = width_are w hw in
      let b = limit_are limit hl in
      let none : (p : ℕ) → get_or lens p 0 ≡ 0 = λ p. zero_lengths most_strings p lens el in
      rw ew record {
        sized = (a.0, a.1, b.0, b.1);
        spread = (eb, ec, ap length el ∙ length-replicate {A = ℕ} most_strings 0, roomy);
        short = λ p. omega (arith, none p);
        celled = λ p h. absurd (let f : ⊥ = omega (arith, none p) in f);
        apart = λ p q u. absurd (let f : ⊥ = omega (arith, none p, u.0) in f);
        stocked = λ i h. omega (arith, n, each i (omega (arith, n)));
        distinct = λ i j u. sym (each i (omega (arith, n, u.0))) ∙ u.2 ∙ each j (omega (arith, n, u.1));
        unused = λ i p u. omega (arith, none p, u.1);
        whole = omega (arith, n, ap total made, total_empty w limit);
      }
