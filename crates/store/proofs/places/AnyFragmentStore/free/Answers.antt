use Rattle.std.proofs.Common.{[], sym, ap, ◌∙◌, arith}
use Rattle.contents.specs.Contents.{Contents, with_string}
use Rattle.contents.proofs.Clearing.{cleared_all, cleared_none, cleared_number}
use Rattle.store.proofs.places.AnyFragmentStore.free.Goals as goal

pub loop-number-init : goal.loop-number-init
loop-number-init g c = record { below = sym (cleared_none (g.P.Places.contents c.args.self.now) c.args.row); all = λ e. absurd (omega arith) }

pub loop-number-preserved : goal.loop-number-preserved
loop-number-preserved g c =
    let s = g.P.Places.contents c.args.self.now in
    let ok = g.met.P.Places.sound c.args.self.now in
    let below =
    c.release.ensures.after
    ∙ ap (λ (t : Contents). with_string t c.args.row c.loop-number.number []) c.loop-number.invariant.below
    ∙ cleared_number s c.args.row c.loop-number.number ok (omega arith) (omega arith) (omega arith) in
    record { below = below; all = λ e. below ∙ cleared_all s c.args.row _ ok (omega arith) (omega arith) }
