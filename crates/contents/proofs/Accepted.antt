-- What an accepted put, get and free say as facts, and when each is accepted.
use Rattle.std.proofs.Common.{◌≡◌, ℕ, ◌<◌, ◌≤◌, Bool, true, false, cond, not, ◌||◌, eqb, ltb, List, length, Ok, Err, Result, refl, arith}
use Rattle.std.proofs.lemmas.Bool.{eqb-false, le-ltb, lt-ltb, ltb-false, ltb-true, ne_eqb}
use Rattle.protocol.specs.Causes.{Cause}
use Rattle.protocol.specs.Limits.{row_count}
use Rattle.contents.specs.Answers.{free_answer, get_answer, put_answer}
use Rattle.contents.specs.Contents.{Contents, fits, in_bounds, is_held, string_at, total}
use Rattle.contents.proofs.Bounds.{fits_are, fits_from}

-- what an accepted put says
pub record PutAccepted (s : Contents) (r n : ℕ) (x : List ℕ) : Type 0 where
  pub some : 0 < length x
  pub short : length x ≤ s.width
  pub room : total s ≡ s.limit → ⊥
  pub bounds : in_bounds r n ≡ true
  pub none : length (string_at s r n) ≡ 0

-- what an accepted get says of the length that it tells
pub record GetAccepted (s : Contents) (r n room len : ℕ) : Type 0 where
  pub some : 0 < len
  pub fit : len ≤ room
  pub is : len ≡ length (string_at s r n)

abbrev done : Result (Unit {0}) Cause
done = Ok tt

never : {X : Type 0} {P : Type 0} (e : Cause) (x : X) → ◌≡◌ {A = Result X Cause} (Err e) (Ok x) → P
never e x p = absurd (let z : ◌≡◌ {A = ℕ} 0 1 = cc in omega arith)

put_ways : (e f g : Cause) (a b i h : Bool) → cond (not a) (Err e) (cond b (Err f) (cond (not i || h) (Err g) (Ok tt))) ≡ done
    → (a ≡ true) × (b ≡ false) × (i ≡ true) × (h ≡ false)
put_ways e f g false b i h p = never e tt p
put_ways e f g true true i h p = never f tt p
put_ways e f g true false false h p = never g tt p
put_ways e f g true false true true p = never g tt p
put_ways e f g true false true false p = (refl, refl, refl, refl)

get_ways : (e f : Cause) (n m : ℕ) (a b : Bool) → cond (not a) (Err e) (cond b (Err f) (Ok n)) ≡ Ok m → (a ≡ true) × (b ≡ false) × (m ≡ n)
get_ways e f n m false b p = never e m p
get_ways e f n m true true p = never f m p
get_ways e f n m true false p = (refl, refl, cc)

free_ways : (e : Cause) (a : Bool) → cond a (Ok tt) (Err e) ≡ done → a ≡ true
free_ways e true p = refl
free_ways e false p = never e tt p

pub put_accepted : (s : Contents) (r n : ℕ) (x : List ℕ) → put_answer s r n x ≡ Ok tt → PutAccepted s r n x
put_accepted s r n x p =
    let w = put_ways _ _ _ (fits s x) (eqb (total s) s.limit) (in_bounds r n) (is_held s r n) p in
    let f = fits_are s x w.0 in
    record { some = f.0; short = f.1; room = eqb-false (total s) s.limit w.1; bounds = w.2; none = omega (arith, ltb-false 0 (length (string_at s r n)) w.3) }

pub put_accepts : (s : Contents) (r n : ℕ) (x : List ℕ) → PutAccepted s r n x → put_answer s r n x ≡ Ok tt
put_accepts s r n x a =
    rw (fits_from s x a.some a.short, ne_eqb (total s) s.limit a.room, a.bounds, le-ltb 0 (length (string_at s r n)) (omega (arith, a.none)))

pub get_accepted : (s : Contents) (r n room len : ℕ) → get_answer s r n room ≡ Ok len → GetAccepted s r n room len
get_accepted s r n room len p =
    let w = get_ways _ _ (length (string_at s r n)) len (is_held s r n) (ltb room (length (string_at s r n))) p in
    record { some = omega (arith, ltb-true 0 (length (string_at s r n)) w.0, w.2); fit = omega (arith, ltb-false room (length (string_at s r n)) w.1, w.2); is = w.2 }

pub get_accepts : (s : Contents) (r n room : ℕ) → 0 < length (string_at s r n) → length (string_at s r n) ≤ room → get_answer s r n room ≡ Ok (length (string_at s r n))
get_accepts s r n room some fit = rw (lt-ltb 0 (length (string_at s r n)) some, le-ltb room (length (string_at s r n)) fit)

pub free_accepted : (r : ℕ) → free_answer r ≡ Ok tt → r < row_count
free_accepted r p = ltb-true r row_count (free_ways _ (ltb r row_count) p)

pub free_accepts : (r : ℕ) → r < row_count → free_answer r ≡ Ok tt
free_accepts r h = rw (lt-ltb r row_count h)
