use Rattle.std.proofs.Common.{◌≡◌, ◌/◌, ◌%◌, ◌^◌, get_or, ap, rules, arith}
use Rattle.bitmap.specs.Words.{Fitted}
use Rattle.bitmap.proofs.Steps.{next_behind, next_in}
use Rattle.bitmap.proofs.Words.{holds_past}
use Rattle.parts.proofs.words.Words.above.Goals as goal

pub returns-in_err-part : goal.returns-in_err-part
returns-in_err-part c =
    let long = c.in_err-part.ensures.lookup.3 in
    record { next = rw c.from_residual.ensures (λ n a. holds_past c.args.self.0 n (omega arith)) }

pub returns-then-part-ne0 : goal.returns-then-part-ne0
returns-then-part-ne0 c =
    let ws = c.args.self.0 in
    let k = c.args.k in
    let at : c.in_ok-part.field-0.now ≡ get_or ws (k / 64) 0 = c.in_ok-part.ensures.lookup.3.1 0 in
    let fits : Fitted ws = search rules in
    record { next = next_in ws (k / 64) (k % 64) (c.in_ok-part.field-0.now / 2 ^ (k % 64)) k (omega arith) (ap (λ w. w / 2 ^ (k % 64)) at) _ (fits (k / 64)) (omega arith) (omega arith) (omega arith) }

pub returns : goal.returns
returns c =
    let ws = c.args.self.0 in
    let k = c.args.k in
    let at : c.in_ok-part.field-0.now ≡ get_or ws (k / 64) 0 = c.in_ok-part.ensures.lookup.3.1 0 in
    record {
      next = next_behind ws (k / 64) (k % 64) (c.in_ok-part.field-0.now / 2 ^ (k % 64)) k (omega arith) (ap (λ w. w / 2 ^ (k % 64)) at) c.lowest_from.result c.if-part-ne0.false (omega arith)
          c.lowest_from.ensures.next;
    }
