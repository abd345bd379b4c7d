-- A list made from a function of the index.
use Rattle.std.proofs.Common.{◌≡◌, ℕ, ◌<◌, ◌≢◌, List, length, get_or, set, sym, ◌∙◌, ⊎_elim, arith}
use Rattle.std.proofs.lemmas.List.FromFn.{get_or-map-range_with_len, length-map-range_with_len}
use Rattle.std.proofs.lemmas.List.{get_or-set_other, get_or-set_same, length-set, same_lists}
use Rattle.std.proofs.lemmas.Bool.{cases_eq}
use Rattle.contents.specs.Layout.{listed}

pub length-listed : {X : Type 0} (n : ℕ) (f : ℕ → X) → length (listed n f) ≡ n
unfolding listed
length-listed n f = length-map-range_with_len f 0 n

pub get_d_listed : {X : Type 0} (n : ℕ) (f : ℕ → X) (k : ℕ) (d : X) → k < n → get_or (listed n f) k d ≡ f k
unfolding listed
get_d_listed n f k d h = get_or-map-range_with_len f 0 n k k d h (omega arith)

pub listed_is : {X : Type 0} (n : ℕ) (f : ℕ → X) (xs : List X) → length xs ≡ n → ((k : ℕ) (d : X) → k < n → f k ≡ get_or xs k d) → listed n f ≡ xs
listed_is n f xs l h =
    same_lists (listed n f) xs (length-listed n f ∙ sym l)
    (λ k d lt. let m : k < n = omega (arith, length-listed n f) in get_d_listed n f k d m ∙ h k d m)

pub listed_same : {X : Type 0} (n : ℕ) (f g : ℕ → X) → ((k : ℕ) → k < n → f k ≡ g k) → listed n f ≡ listed n g
listed_same n f g h = listed_is n f (listed n g) (length-listed n g) (λ k d m. h k m ∙ sym (get_d_listed n g k d m))

-- one element changed
pub listed-set : {X : Type 0} (n : ℕ) (f g : ℕ → X) (k : ℕ) (v : X) → k < n → g k ≡ v → ((j : ℕ) → j < n → j ≢ k → g j ≡ f j) → listed n g ≡ set (listed n f) k v
listed-set n f g k v h e o =
    listed_is n g (set (listed n f) k v) (length-set (listed n f) k v ∙ length-listed n f)
    (λ j d m. ⊎_elim
    (λ q. rw q (e ∙ sym (get_or-set_same (listed n f) k v d (omega (arith, length-listed n f)))))
    (λ ne. o j m ne ∙ sym (get_d_listed n f j d m) ∙ sym (get_or-set_other (listed n f) k j v d ne))
    (cases_eq j k))
