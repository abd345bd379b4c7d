-- Why the slips cannot happen.
use Rattle.std.proofs.Common.{◌≡◌, ℕ, zero, suc, ◌<◌, ◌≤◌, Bool, true, false, cond, not, ◌&&◌, ◌||◌, eqb, List, [], ◌∷◌, get_or, set, is_some, Some, None, Option, refl, ap, ◌∙◌, arith}
use Rattle.std.proofs.lemmas.Bool.{cond-true, ne_eqb}
use Rattle.std.proofs.lemmas.Bool.Decides.{nat_tests}
use Rattle.parts.specs.Numbers.{has}
use Rattle.protocol.specs.Limits.{last_identity}
use Rattle.pdu.specs.Said.{Address}
use Rattle.rules.specs.declared.answers.Taken.{Taken}
use Rattle.rules.specs.declared.answers.Taken.TheVariants.{PassedOver}
use Rattle.rules.specs.declared.receiver.Label.{Label}
use Rattle.rules.specs.declared.receiver.ReceiverRow.{ReceiverRow}
use Rattle.rules.specs.declared.receiver.ReceiverTable.{ReceiverTable}
use Rattle.rules.specs.declared.receiver.Record.{Record}
use Rattle.rules.specs.Marks.{listed, covers, covered_after}
use Rattle.rules.specs.Outcomes.{Outcome, refuse, accept, reached}
use Rattle.rules.specs.ReceiverState.{ReceiverModel, row_at, record_at, row_of, record_of, vacant_row}
use Rattle.rules.specs.ReceiverStep.{record_raised, record_cleared}
use Rattle.rules.specs.ReceiverTake.{placed, stepped, address_against, address_arrival, lists_us, address_at_row, address_at_record, open_at, address_at, take_address}
use Rattle.rules.specs.Refusals.{against, bad_identity, expired}
use Rattle.rules.specs.SenderState.{is_complete_at}
use Rattle.rules.specs.SenderTake.{heard_at}
use Rattle.rules.specs.Slips.{CompleteStays, RecordsStay, AboveLastStays, RisesFrom, last_of}

pub complete_stays : CompleteStays
unfolding heard_at
complete_stays total [] d h = refl
complete_stays total (n ∷ ns) d h = ap is_complete_at (cond-true (is_complete_at d) d _ h) ∙ h

last_below : (a : ℕ) (xs : List ℕ) → RisesFrom a xs → a ≤ last_of a xs
last_below a [] r = omega arith
last_below a (b ∷ xs) r = omega (arith, last_below b xs r.1, r.0)

unlisted : (a : ℕ) (xs : List ℕ) (n : ℕ) → RisesFrom a xs → last_of a xs < n → listed (a ∷ xs) n ≡ false
unlisted a [] n r h = ap (λ b. b || false) (ne_eqb a n (λ e. omega arith))
unlisted a (b ∷ xs) n r h = (λ i. ne_eqb a n (λ e. omega (arith, last_below b xs r.1, r.0)) i || unlisted b xs n r.1 h i)

uncovered : (a : ℕ) (xs : List ℕ) (n : ℕ) → RisesFrom a xs → last_of a xs < n → covered_after a xs n ≡ false
uncovered a [] n r h = refl
uncovered a (b ∷ xs) n r h =
    let up : a < b = r.0 in
    let past : b < n = omega (arith, last_below b xs r.1) in
    let none : covers a b n ≡ false = grind (arith, nat_tests) in
    λ i. none i || uncovered b xs n r.1 h i

pub above_last_stays : AboveLastStays
above_last_stays missing a xs n r h = λ i. unlisted a xs n r h i || (not (uncovered a xs n r h i) && has missing n)

-- == records ==

-- every record that there was is there
abbrev Keeps : List (Option Record) → List (Option Record) → Type 0
Keeps before after = (k : ℕ) → is_some (get_or after k None) ≡ is_some (get_or before k None)

keeps_either : (b : Bool) (before : List (Option Record)) (x y : Outcome ReceiverModel Taken) → Keeps before x.0.table.records → Keeps before y.0.table.records → Keeps before (cond b x y).0.table.records
keeps_either true before x y hx hy = hx
keeps_either false before x y hx hy = hy

keeps_set : (before : List (Option Record)) (j : ℕ) (x : Option Record) → is_some x ≡ is_some (get_or before j None) → Keeps before (set before j x)
keeps_set [] j x e k = refl
keeps_set (y ∷ ys) zero x e zero = e
keeps_set (y ∷ ys) zero x e (suc k) = refl
keeps_set (y ∷ ys) (suc j) x e zero = refl
keeps_set (y ∷ ys) (suc j) x e (suc k) = keeps_set ys j x e k

raised_there : (t : ReceiverTable) (x : Option Record) → is_some (record_raised t x) ≡ is_some x
raised_there t None = refl
raised_there t (Some x) = refl

cleared_there : (x : Option Record) → is_some (record_cleared x) ≡ is_some x
cleared_there None = refl
cleared_there (Some x) = refl

module _ (r : ReceiverModel) (a : Address) where
  placed_keeps : (i : ℕ) (l : Option Label) (row : ReceiverRow) → Keeps r.table.records (placed r i l row).table.records
  placed_keeps i None row k = refl
  placed_keeps i (Some l) row k = refl

  row_keeps : (i : ℕ) → Keeps r.table.records (address_at_row r i a).0.table.records
  row_keeps i = keeps_either (address_against a (row_at r i)) r.table.records (refuse r (against i)) (stepped r i (address_arrival r.table a)) (λ k. refl) (placed_keeps i _ _)

  record_keeps : (j : ℕ) → Keeps r.table.records (address_at_record r j a).0.table.records
  record_keeps j =
      keeps_either (lists_us r.table a) r.table.records _ _ (keeps_set r.table.records j _ (raised_there r.table (record_at r j)))
      (keeps_either (eqb a.part 0) r.table.records _ _ (keeps_set r.table.records j _ (cleared_there (record_at r j))) (λ k. refl))

  open_keeps : (o : Option ℕ) → Keeps r.table.records (open_at r a o).0.table.records
  open_keeps None = λ k. refl
  open_keeps (Some i) = keeps_either (eqb r.table.arrival last_identity) r.table.records (refuse r (bad_identity last_identity)) _ (λ k. refl) (λ k. refl)

  at_keeps : (row finished : Option ℕ) → Keeps r.table.records (address_at r a row finished).0.table.records
  at_keeps (Some i) finished = row_keeps i
  at_keeps None (Some j) = record_keeps j
  at_keeps None None = keeps_either (lists_us r.table a) r.table.records (open_at r a (vacant_row r.table)) (accept r PassedOver) (open_keeps (vacant_row r.table)) (λ k. refl)

pub records_stay : RecordsStay
unfolding take_address
records_stay r a =
    keeps_either (reached r.table.now a.expiry) r.table.records (refuse r (expired a.expiry)) _ (λ k. refl)
    (at_keeps r a (row_of r.table a.source a.message) (record_of r.table a.source a.message))
