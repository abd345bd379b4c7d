use Rattle.std.proofs.Common.{◌++◌, length, sym, refl, ap, ◌∙◌, arith}
use Rattle.pdu.specs.Octets.{two_octets, four_octets}
use Rattle.pdu.specs.Write.{overlaid, destination_octets}
use Rattle.pdu.proofs.Back.{length-destinations, address_back}
use Rattle.pdu.proofs.Puts.{overlaid_next, pdu_filled}
use Rattle.wire.specs.Written.{pairs_of}
use Rattle.wire.proofs.Pairs.{length_pairs, octets_of_pairs, quads}
use Rattle.wire.proofs.write_address.NewAddressFields.fill.Goals as goal

pub put_all-requires : goal.put_all-requires
put_all-requires c = omega (arith, length-destinations (pairs_of c.args.self.now.destinations.now), length_pairs c.args.self.now.destinations.now)

pub returns : goal.returns
returns c =
    let a = c.args.self.now in
    let ds = pairs_of a.destinations.now in
    let o = c.put_head.new.out in
    let long = length-destinations ds in
    let many = length_pairs a.destinations.now in
    let source = four_octets a.source in
    let message = source ++ four_octets a.message in
    let expiry = message ++ four_octets a.expiry in
    let count = expiry ++ two_octets (length ds) in
    let reserved = count ++ two_octets 0 in
    let counted = c.put-4.ensures.after ∙ ap (λ n. overlaid c.put-3.new.out 20 (two_octets n)) (sym many) in
    let items = c.put_all.ensures.after ∙ ap (overlaid c.put-5.new.out 24) (octets_of_pairs a.destinations.now) in
    let b = overlaid_next o _ _ 8 12 source (four_octets a.message) c.put.ensures.after c.put-2.ensures.after refl (omega arith) in
    let d = overlaid_next o _ _ 8 16 message (four_octets a.expiry) b c.put-3.ensures.after refl (omega arith) in
    let e = overlaid_next o _ _ 8 20 expiry (two_octets (length ds)) d counted refl (omega arith) in
    let f = overlaid_next o _ _ 8 22 count (two_octets 0) e c.put-5.ensures.after refl (omega arith) in
    let body = overlaid_next o _ _ 8 24 reserved (destination_octets ds) f items refl (omega arith) in
    record {
      after = pdu_filled a.priority 2 a.total c.args.size (reserved ++ destination_octets ds) c.args.out.now o _ _ c.put_head.ensures body c.seal.ensures (omega arith) (omega arith);
      back = address_back a.priority a.total a.source a.message a.expiry ds (omega arith) (omega arith) (omega arith) (quads a.destinations.now c.put_all.ensures.fits) c.requires.fit;
    }
