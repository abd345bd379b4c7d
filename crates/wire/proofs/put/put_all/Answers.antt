use Rattle.std.proofs.Common.{get_or, below_more, subst, refl, sym, ap, ◌∙◌}
use Rattle.std.proofs.lemmas.Option.{get_or_from_slice_get, slice_get-get_or}
use Rattle.pdu.proofs.Puts.{parts_more}
use Rattle.wire.proofs.put.put_all.Goals as goal

pub loop-i-preserved : goal.loop-i-preserved
loop-i-preserved g c =
    let items = c.args.items.now in
    let i = c.loop-i.i in
    let item = c.index-items-i in
    let more = c.loop-i-test.true in
    record {
      after = parts_more g.T.ToOctets.octets g.row.N g.met.T.ToOctets.wide c.args.out.now c.loop-i.out c.put.new.out c.args.place _ i items item.result _
          c.loop-i.invariant.after c.put.ensures.after (ap g.T.ToOctets.octets (sym item.is)) more refl c.requires;
      fits = λ k d h.
          below_more (λ j. (e : g.row.T.Denot) → g.T.ToOctets.fits (get_or items j e)) i (λ j l e. c.loop-i.invariant.fits j e l)
          (λ e. subst g.T.ToOctets.fits (item.is ∙ sym (get_or_from_slice_get items i _ e (slice_get-get_or items i item.result more))) c.put.ensures.fits)
          k h d;
    }
