-- The table of delays: its rule at each entry and that each delay stands in it once, each shown by one test that is computed over the
-- whole table.
use Rattle.std.proofs.Common.{◌≡◌, ℕ, zero, suc, ◌+◌, ◌*◌, ◌%◌, ◌<◌, Bool, true, cond, ◌&&◌, eqb, ltb, List, [], ◌∷◌, length, get_or, sym, refl, ap, ◌∙◌, arith}
use Rattle.std.proofs.lemmas.Bool.{and_parts, eqb-true, ltb-true}
use Rattle.parts.specs.Delays.{EachOnce, delay_at, delay_count, delay_index, delay_of}

-- n delays from x on
unfoldable pub walk : ℕ → ℕ → List ℕ
walk zero x = []
walk (suc n) x = x ∷ walk n ((5 * x + 1) % delay_count)

unfoldable pub table : List ℕ
unfolding walk
table = walk delay_count 0

-- a test that each entry passes with its place, counted from i
abbrev every : (ℕ → ℕ → Bool) → ℕ → List ℕ → Bool
every f i [] = true
every f i (x ∷ xs) = f i x && every f (suc i) xs

every_at : (f : ℕ → ℕ → Bool) (xs : List ℕ) (i : ℕ) → every f i xs ≡ true → (k : ℕ) → k < length xs → f (i + k) (get_or xs k 0) ≡ true
every_at f [] i t k h = absurd (let z : ⊥ = omega arith in z)
every_at f (x ∷ xs) i t zero h =
    let e : i + 0 ≡ i = omega arith in rw e (and_parts (f i x) (every f (suc i) xs) t).0
every_at f (x ∷ xs) i t (suc k) h =
    let e : i + suc k ≡ suc i + k = omega arith in rw e (every_at f xs (suc i) (and_parts (f i x) (every f (suc i) xs) t).1 k (omega arith))

-- the place from i on where x stands
place : ℕ → ℕ → List ℕ → ℕ
place x i [] = i
place x i (y ∷ ys) = cond (eqb x y) i (place x (suc i) ys)

-- ---- the tests

-- each entry is the delay of its place
right : ℕ → ℕ → Bool
right k x = eqb x (delay_at k)

-- each entry is found at its own place
single : ℕ → ℕ → Bool
single k x = eqb (place x 0 table) k

-- each number below the count is found
present : ℕ → ℕ → Bool
present k x = ltb (place k 0 table) delay_count && eqb (get_or table (place k 0 table) 0) k

all_right : every right 0 table ≡ true
unfolding table right delay_at
all_right = refl

all_single : every single 0 table ≡ true
unfolding table single place
all_single = refl

all_present : every present 0 table ≡ true
unfolding table present place
all_present = refl

table_long : length table ≡ delay_count
unfolding table
table_long = refl

-- a test that each entry passes, at one place
passes : (f : ℕ → ℕ → Bool) → every f 0 table ≡ true → (k : ℕ) → k < delay_count → f k (get_or table k 0) ≡ true
passes f t k h = let e : 0 + k ≡ k = omega arith in rw e at (every_at f table 0 t k (omega (arith, table_long)))

-- ---- what they show

pub table_is : (k : ℕ) → k < delay_count → get_or table k 0 ≡ delay_at k
unfolding right
table_is k h = eqb-true (get_or table k 0) (delay_at k) (passes right all_right k h)

found : (k : ℕ) → k < delay_count → place (delay_at k) 0 table ≡ k
unfolding single
found k h = ap (λ x. place x 0 table) (sym (table_is k h)) ∙ eqb-true (place (get_or table k 0) 0 table) k (passes single all_single k h)

pub delays_once : EachOnce
unfolding present
delays_once v h =
    let i : ℕ = place v 0 table in
    let t = and_parts (ltb i delay_count) (eqb (get_or table i 0) v) (passes present all_present v h) in
    let l : i < delay_count = ltb-true i delay_count t.0 in
    (i, l, sym (table_is i l) ∙ eqb-true (get_or table i 0) v t.1, λ j m e. sym (found j m) ∙ ap (λ x. place x 0 table) e)

-- Equal delays stand at one index, and the index tells the receiver's low octet.
pub delays_apart : (receiver other message : ℕ) → (other % 256 ≡ receiver % 256 → ⊥) → delay_of other message ≡ delay_of receiver message → ⊥
unfolding delay_of
delays_apart receiver other message ne e =
    let i : ℕ = delay_index receiver message in
    let j : ℕ = delay_index other message in
    let same : j ≡ i = sym (found j (omega arith)) ∙ ap (λ x. place x 0 table) e ∙ found i (omega arith) in
    ne (omega arith)
