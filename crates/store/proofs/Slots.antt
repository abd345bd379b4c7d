-- The steps of a pool, told of its slots.
use Rattle.std.proofs.Common.{◌≡◌, ℕ, zero, suc, ◌+◌, ◌*◌, ◌<◌, ◌≤◌, true, ◌⊎◌, List, [], ◌∷◌, ◌++◌, Option, Some, None, length, map, get_or, take, drop, set, replicate, vec_items, sym, refl, ap, ◌∙◌, ap₂, inl, inr, arith}
use lib.Seq.{paste}
use Rattle.std.proofs.lemmas.List.{get_or-map, length-map, length-replicate, map-set, set-get_or}
use Rattle.protocol.specs.Limits.{most_strings}
use Rattle.contents.specs.Contents.{fits, string_at, with_string}
use Rattle.contents.specs.Layout.{place_of}
use Rattle.contents.specs.Pools.{PoolKept, pool_contents}
use Rattle.contents.proofs.Pooling.{pool_less, pool_none, pool_put_after, pool_put_keeps, pool_release_after, pool_release_keeps, pool_room, pool_string}
use Rattle.contents.proofs.Places.{place_low}
use Rattle.contents.proofs.Strings.{string_put_none}
use Rattle.store.specs.declared.place.Place.{Place}
use Rattle.store.specs.declared.pool.Pool.{Pool}
use Rattle.store.specs.declared.pool.slot.Slot.{Slot}
use Rattle.store.specs.Kept.{pool_kept}
use Rattle.store.specs.Meanings.{pool_of}
use Rattle.store.specs.Slots.{cell_of, cells_of, len_of, lens_of}

map-replicate : {X Y : Type 0} (f : X → Y) (n : ℕ) (x : X) → map f (replicate n x) ≡ replicate n (f x)
map-replicate f zero x = refl
map-replicate f (suc n) x = ap (λ t. f x ∷ t) (map-replicate f n x)

pub none_or : (o : Option Slot) → (o ≡ None) ⊎ ((t : Slot) × (o ≡ Some t))
none_or None = inl refl
none_or (Some t) = inr (t, refl)

-- slots that are all empty
module _ (all : List (Option Slot)) (e : all ≡ replicate most_strings None) where
  pub no_lens : lens_of all ≡ replicate most_strings 0
  no_lens = ap lens_of e ∙ map-replicate len_of most_strings None

  pub many_cells : length (cells_of all) ≡ most_strings
  many_cells = length-map all cell_of ∙ ap length e ∙ length-replicate {A = Option Slot} most_strings None

module _ (s : Pool) (x : Place) (i : ℕ) (e : i ≡ place_of x.row x.number) where
  within : i < length (vec_items s.slots)
  within = omega (arith, place_low x.row x.number x.bounded, (pool_kept s).spread.1, length-map (vec_items s.slots) cell_of)

  -- what the slot at a place says
  module _ (o : Option Slot) (own : o ≡ get_or (vec_items s.slots) i o) where
    cell_read : get_or (cells_of (vec_items s.slots)) i 0 ≡ cell_of o
    cell_read = get_or-map cell_of (vec_items s.slots) i o 0 within ∙ ap cell_of (sym own)

    len_read : get_or (lens_of (vec_items s.slots)) i 0 ≡ len_of o
    len_read = get_or-map len_of (vec_items s.slots) i o 0 within ∙ ap len_of (sym own)

    pub slot_none : o ≡ None → string_at (pool_of s) x.row x.number ≡ []
    slot_none z = pool_none (pool_kept s) x.row x.number i x.bounded e (len_read ∙ ap len_of z)

    -- an empty slot, left as it is
    pub slot_left : o ≡ None → pool_of s ≡ with_string (pool_of s) x.row x.number []
    slot_left z = sym (string_put_none (pool_of s) x.row x.number x.bounded (ap length (slot_none z)))

    -- an empty slot, emptied
    pub slot_still : (o' : Option Slot) → o ≡ None → o' ≡ None
        → pool_contents s.cells.width s.limit (vec_items s.cells.bytes) (cells_of (set (vec_items s.slots) i o')) (lens_of (set (vec_items s.slots) i o'))
        ≡ with_string (pool_of s) x.row x.number []
    slot_still o' z z' =
        let same : set (vec_items s.slots) i o' ≡ vec_items s.slots = ap (set (vec_items s.slots) i) (z' ∙ sym z ∙ own) ∙ set-get_or (vec_items s.slots) i o in
        ap (λ t. pool_contents s.cells.width s.limit (vec_items s.cells.bytes) (cells_of t) (lens_of t)) same
        ∙ slot_left z

    -- a slot that has a string
    module _ (t : Slot) (is : o ≡ Some t) where
      cell : t.cell ≡ get_or (cells_of (vec_items s.slots)) i 0
      cell = sym (cell_read ∙ ap cell_of is)

      len : t.len ≡ get_or (lens_of (vec_items s.slots)) i 0
      len = sym (len_read ∙ ap len_of is)

      long : 0 < get_or (lens_of (vec_items s.slots)) i 0
      long = omega (arith, t.some, len)

      pub slot_room : t.cell * s.cells.width + t.len ≤ length (vec_items s.cells.bytes)
      slot_room = omega (arith, pool_room (pool_kept s) x.row x.number i t.cell x.bounded e long cell, len)

      pub slot_string : take t.len (drop (t.cell * s.cells.width) (vec_items s.cells.bytes)) ≡ string_at (pool_of s) x.row x.number
      slot_string =
          ap (λ (m : ℕ). take m (drop (t.cell * s.cells.width) (vec_items s.cells.bytes))) len
          ∙ pool_string (pool_kept s) x.row x.number i t.cell x.bounded e long cell

      pub slot_less : length (vec_items s.spare.cells) < s.limit
      slot_less = pool_less (pool_kept s) x.row x.number i t.cell x.bounded e long cell

      -- taken, and its cell put on the stack
      module _ (o' : Option Slot) (gone : o' ≡ None) where
        cells' : cells_of (set (vec_items s.slots) i o') ≡ set (cells_of (vec_items s.slots)) i 0
        cells' = map-set cell_of (vec_items s.slots) i o' ∙ ap (set (cells_of (vec_items s.slots)) i) (ap cell_of gone)

        lens' : lens_of (set (vec_items s.slots) i o') ≡ set (lens_of (vec_items s.slots)) i 0
        lens' = map-set len_of (vec_items s.slots) i o' ∙ ap (set (lens_of (vec_items s.slots)) i) (ap len_of gone)

        pub slot_taken : pool_contents s.cells.width s.limit (vec_items s.cells.bytes) (cells_of (set (vec_items s.slots) i o')) (lens_of (set (vec_items s.slots) i o'))
            ≡ with_string (pool_of s) x.row x.number []
        slot_taken = rw (cells', lens') (pool_release_after (pool_kept s) x.row x.number i t.cell x.bounded e long cell)

        pub slot_taken_keeps : (spare' : List ℕ) (room' : ℕ) → spare' ≡ vec_items s.spare.cells ++ t.cell ∷ [] → s.limit ≤ room'
            → PoolKept s.cells.width s.limit room' (vec_items s.cells.bytes) (cells_of (set (vec_items s.slots) i o')) (lens_of (set (vec_items s.slots) i o')) spare'
        slot_taken_keeps spare' room' top roomy =
            rw (cells', lens') (pool_release_keeps (pool_kept s) x.row x.number i t.cell x.bounded e long cell spare' room' top roomy)

  -- a string written to a free cell, and its slot noted
  module _ (octets : List ℕ) (t : Slot) (rest : List ℕ) (fit : fits (pool_of s) octets ≡ true) (none : length (string_at (pool_of s) x.row x.number) ≡ 0)
      (top : vec_items s.spare.cells ≡ rest ++ t.cell ∷ []) (all : t.len ≡ length octets) (w' : ℕ) (bytes' : List ℕ) (ew : w' ≡ s.cells.width)
      (eb : bytes' ≡ paste (vec_items s.cells.bytes) (t.cell * s.cells.width) octets (length octets)) where
    noted : set (lens_of (vec_items s.slots)) i (length octets) ≡ lens_of (set (vec_items s.slots) i (Some t))
    noted = ap (set (lens_of (vec_items s.slots)) i) (sym all) ∙ sym (map-set len_of (vec_items s.slots) i (Some t))

    pub slot_filled : pool_contents w' s.limit bytes' (cells_of (set (vec_items s.slots) i (Some t))) (lens_of (set (vec_items s.slots) i (Some t)))
        ≡ with_string (pool_of s) x.row x.number octets
    slot_filled =
        ap₂ (pool_contents w' s.limit bytes') (map-set cell_of (vec_items s.slots) i (Some t)) (sym noted)
        ∙ pool_put_after (pool_kept s) octets x.row x.number i t.cell rest x.bounded fit e none top bytes' eb w' ew

    pub slot_filled_keeps : (room' : ℕ) → s.limit ≤ room'
        → PoolKept w' s.limit room' bytes' (cells_of (set (vec_items s.slots) i (Some t))) (lens_of (set (vec_items s.slots) i (Some t))) rest
    slot_filled_keeps room' roomy =
        rw (map-set cell_of (vec_items s.slots) i (Some t), ← noted)
        (pool_put_keeps (pool_kept s) octets x.row x.number i t.cell rest x.bounded fit e none top bytes' eb w' ew room' roomy)
