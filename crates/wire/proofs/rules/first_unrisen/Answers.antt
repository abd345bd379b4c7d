use Rattle.std.proofs.Common.{◌≡◌, Some, sym, ap, ◌∙◌, cond, rules}
use Rattle.pdu.specs.Read.{unrisen_after}
use Rattle.wire.proofs.Rising.{is_unrisen, behind, at_end}
use Rattle.wire.proofs.rules.first_unrisen.Goals as goal

pub loop-d-preserved : goal.loop-d-preserved
loop-d-preserved g c = (
  search rules,
  search rules,
  λ ds e.
      let now = c.loop-d.invariant.2 ds e in
      let next = behind g.I.Iterator.next_gives c.loop-d.d-iterator c.next.new.self c.next.result c.in-Some.d c.loop-d.before now.0 c.in-Some.is c.next.ensures.steps now.1 in
      let test : c.is_some_and.result ≡ is_unrisen c.loop-d.before c.in-Some.d.destination = search rules in
      (next.rest, next.come, ap (λ b. cond b (Some c.in-Some.d.place) (unrisen_after c.in-Some.d.destination next.rest)) (sym c.if-is_some_and.false ∙ test) ∙ sym next.goes ∙ now.2),
)

pub returns-then-is_some_and : goal.returns-then-is_some_and
returns-then-is_some_and g c = λ ds e.
    let now = c.loop-d.invariant.2 ds e in
    let next = behind g.I.Iterator.next_gives c.loop-d.d-iterator c.next.new.self c.next.result c.in-Some.d c.loop-d.before now.0 c.in-Some.is c.next.ensures.steps now.1 in
    let test : c.is_some_and.result ≡ is_unrisen c.loop-d.before c.in-Some.d.destination = search rules in
    ap (λ b. cond b (Some c.in-Some.d.place) (unrisen_after c.in-Some.d.destination next.rest)) (sym c.if-is_some_and.true ∙ test) ∙ sym next.goes ∙ now.2

pub returns : goal.returns
returns g c = λ ds e.
    let now = c.loop-d.invariant.2 ds e in
    sym (at_end g.I.Iterator.next_gives c.loop-d.d-iterator c.next.new.self c.next.result c.loop-d.before now.0 c.in-None.is c.next.ensures.steps now.1) ∙ now.2
