-- Octets written into a buffer one part after the other.
use Rattle.std.proofs.Common.{◌≡◌, ℕ, ◌+◌, ◌-◌, ◌*◌, ◌/◌, ◌%◌, ◌<◌, ◌≤◌, ltb, List, [], ◌∷◌, ◌++◌, length, get_or, take, drop, set, None, Ok, Option, Result, sym, refl, ap, ◌∙◌, append_assoc, mul-le-mul_left, mul-suc, arith, length-append, length-drop, length-set, length-take}
use Rattle.std.proofs.lemmas.List.{take_at, drop_at, drop-drop, take-append-drop, set-append_left, length-take-le, take_more, flat_map_more}
use Rattle.std.proofs.lemmas.Bool.{le-ltb, cond-false}
use Rattle.std.specs.List.{flat_map}
use Rattle.protocol.specs.Causes.{Cause}
use Rattle.pdu.specs.Sum.{checksum_of}
use Rattle.pdu.specs.Write.{sealed, head_octets, pdu_octets, overlaid, sent, counted, fronted}

pub length-overlaid : (buffer : List ℕ) (p : ℕ) (xs : List ℕ) → p + length xs ≤ length buffer → length (overlaid buffer p xs) ≡ length buffer
length-overlaid buffer p xs h = simp (length-append, length-append, length-take, length-drop) (omega arith)

-- one part behind another is both parts at once
pub overlaid_more : (buffer : List ℕ) (p q : ℕ) (xs ys : List ℕ) → q ≡ p + length xs → p + length xs + length ys ≤ length buffer
    → overlaid (overlaid buffer p xs) q ys ≡ overlaid buffer p (xs ++ ys)
overlaid_more buffer p q xs ys e h =
    let whole = take p buffer ++ xs in
    let rest = drop (p + length xs) buffer in
    let long : length whole ≡ q = length-append (take p buffer) xs ∙ omega (arith, length-take-le p buffer (omega arith)) in
    let split : overlaid buffer p xs ≡ whole ++ rest = sym (append_assoc (take p buffer) xs rest) in
    let size : p + length (xs ++ ys) ≡ p + length xs + length ys = omega (arith, length-append xs ys) in
    let front : take q (overlaid buffer p xs) ≡ whole = ap (take q) split ∙ take_at whole rest q long in
    let past : q + length ys ≡ length whole + length ys = omega (arith, long) in
    let back : drop (q + length ys) (overlaid buffer p xs) ≡ drop (p + length (xs ++ ys)) buffer =
    ap (drop (q + length ys)) split
    ∙ sym (drop-drop (length ys) q (whole ++ rest))
    ∙ ap (drop (length ys)) (drop_at whole rest q long)
    ∙ drop-drop (length ys) (p + length xs) buffer
    ∙ ap (λ k. drop k buffer) (sym size) in
    (λ i. front i ++ (ys ++ back i))
    ∙ append_assoc (take p buffer) xs (ys ++ drop (p + length (xs ++ ys)) buffer)
    ∙ ap (λ zs. take p buffer ++ zs) (sym (append_assoc xs ys (drop (p + length (xs ++ ys)) buffer)))

-- the same after a call: what it left is what it overlaid
pub overlaid_next : (buffer out out' : List ℕ) (p q : ℕ) (xs ys : List ℕ) → out ≡ overlaid buffer p xs → out' ≡ overlaid out q ys
    → q ≡ p + length xs → p + length xs + length ys ≤ length buffer → out' ≡ overlaid buffer p (xs ++ ys)
overlaid_next buffer out out' p q xs ys is is' e h = is' ∙ ap (λ zs. overlaid zs q ys) is ∙ overlaid_more buffer p q xs ys e h

-- == equal parts, one after the other ==

pub length-joined : {X : Type 0} (f : X → List ℕ) (w : ℕ) → ((x : X) → length (f x) ≡ w) → (xs : List X) → length (flat_map f xs) ≡ w * length xs
length-joined f w each [] = omega arith
length-joined f w each (x ∷ xs) = length-append (f x) (flat_map f xs) ∙ omega (arith, each x, length-joined f w each xs, mul-suc w (length xs))

-- one more part, of an element that the loop has reached
pub parts_more : {X : Type 0} (f : X → List ℕ) (w : ℕ) → ((x : X) → length (f x) ≡ w) → (buffer out out' : List ℕ) (p q i : ℕ) (xs : List X) (d : X) (ys : List ℕ)
    → out ≡ overlaid buffer p (flat_map f (take i xs)) → out' ≡ overlaid out q ys → f (get_or xs i d) ≡ ys
    → i < length xs → q ≡ p + w * i → p + w * length xs ≤ length buffer → out' ≡ overlaid buffer p (flat_map f (take (i + 1) xs))
parts_more f w each buffer out out' p q i xs d ys is is' part l e h =
    let long : length (flat_map f (take i xs)) ≡ w * i = length-joined f w each (take i xs) ∙ ap (λ k. w * k) (length-take-le i xs (omega arith)) in
    let size : length ys ≡ w = ap length (sym part) ∙ each (get_or xs i d) in
    let more : w * i + w ≤ w * length xs = omega (arith, mul-suc w i, mul-le-mul_left w l) in
    overlaid_next buffer out out' p q (flat_map f (take i xs)) ys is is' (omega arith) (omega arith)
    ∙ ap (λ zs. overlaid buffer p (flat_map f (take i xs) ++ zs)) (sym part)
    ∙ ap (overlaid buffer p) (flat_map_more f [] (take i xs) (get_or xs i d) ∙ ap (flat_map f) (sym (take_more xs i d l)))

-- == the Checksum put in ==

length-sealed : (xs : List ℕ) → length (sealed xs) ≡ length xs
length-sealed xs = length-set (set xs 6 _) 7 _ ∙ length-set xs 6 _

-- two octets put into the front
put_front : (n a b : ℕ) (xs : List ℕ) → 8 ≤ n → n ≤ length xs → set (set xs 6 a) 7 b ≡ set (set (take n xs) 6 a) 7 b ++ drop n xs
put_front n a b xs h l =
    let long = length-take-le n xs l in
    ap (λ ys. set (set ys 6 a) 7 b) (sym (take-append-drop n xs))
    ∙ ap (λ ys. set ys 7 b) (set-append_left (take n xs) (drop n xs) 6 a (omega arith))
    ∙ set-append_left (set (take n xs) 6 a) (drop n xs) 7 b (omega (arith, length-set (take n xs) 6 a))

pub seals : (n sum : ℕ) (xs : List ℕ) → 8 ≤ n → n ≤ length xs → sum ≡ checksum_of (take (n - 0) xs) → set (set xs 6 (sum / 256)) 7 (sum % 256) ≡ sealed (take n xs) ++ drop n xs
seals n sum xs h l e =
    let n0 : n - 0 ≡ n = omega arith in
    let is : sum ≡ checksum_of (take n xs) = e ∙ ap (λ k. checksum_of (take k xs)) n0 in
    put_front n (sum / 256) (sum % 256) xs h l ∙ ap (λ z. set (set (take n xs) 6 (z / 256)) 7 (z % 256) ++ drop n xs) is

-- what was overlaid at the front, sealed
pub sealed_front : (buffer out out' : List ℕ) (n : ℕ) (xs : List ℕ) → out ≡ overlaid buffer 0 xs → out' ≡ sealed (take n out) ++ drop n out → n ≡ length xs
    → out' ≡ sealed xs ++ drop (length (sealed xs)) buffer
sealed_front buffer out out' n xs is is' e =
    let rest = drop (0 + length xs) buffer in
    let size : 0 + length xs ≡ length (sealed xs) = omega (arith, length-sealed xs) in
    is'
    ∙ ap (λ zs. sealed (take n zs) ++ drop n zs) is
    ∙ (λ i. sealed (take_at xs rest n (sym e) i) ++ drop_at xs rest n (sym e) i)
    ∙ ap (λ k. sealed xs ++ drop k buffer) size

-- a whole PDU: the header, the body behind it, and the Checksum
pub pdu_filled : (p type field size : ℕ) (body buffer out out' out'' : List ℕ)
    → out ≡ overlaid buffer 0 (head_octets size p type field) → out' ≡ overlaid out 8 body → out'' ≡ sealed (take size out') ++ drop size out'
    → size ≡ 8 + length body → 8 + length body ≤ length buffer → out'' ≡ pdu_octets p type field body ++ drop (length (pdu_octets p type field body)) buffer
pdu_filled p type field size body buffer out out' out'' head rest seal e h =
    sealed_front buffer out' out'' size (head_octets size p type field ++ body) (overlaid_next buffer out out' 0 8 (head_octets size p type field) body head rest refl h) seal (omega arith)
    ∙ ap (λ k. sealed (head_octets k p type field ++ body) ++ drop (length (sealed (head_octets k p type field ++ body))) buffer) e

-- == what a writer answers ==

-- the answer, the buffer and the octets read from it, where nothing refuses
pub record Wrote (unfit : Option ℕ) (octets buffer out : List ℕ) (n : ℕ) : Type 0 where
  pub answer : ◌≡◌ {A = Result ℕ Cause} (Ok n) (counted (sent unfit octets (length buffer)))
  pub after : out ≡ fronted (sent unfit octets (length buffer)) buffer
  pub front : take n out ≡ octets

pub wrote : (unfit : Option ℕ) (octets buffer out : List ℕ) (n : ℕ) → unfit ≡ None → n ≡ length octets → n ≤ length buffer → out ≡ octets ++ drop (length octets) buffer
    → Wrote unfit octets buffer out n
wrote unfit octets buffer out n fit size room is =
    let ok : sent unfit octets (length buffer) ≡ Ok octets =
    ap (λ u. sent u octets (length buffer)) fit ∙ cond-false (ltb (length buffer) (length octets)) _ _ (le-ltb (length buffer) (length octets) (omega arith)) in
    record {
      answer = ap Ok size ∙ sym (ap counted ok);
      after = is ∙ sym (ap (λ r. fronted r buffer) ok);
      front = ap (take n) is ∙ take_at octets (drop (length octets) buffer) n (sym size);
    }
