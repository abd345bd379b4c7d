use Rattle.std.proofs.Common.{◌+◌, ◌*◌, ◌++◌, length, refl, arith}
use Rattle.pdu.specs.Octets.{two_octets, four_octets}
use Rattle.pdu.specs.Write.{number_octets}
use Rattle.pdu.proofs.Back.{length-numbers, ack_back}
use Rattle.pdu.proofs.Puts.{overlaid_next, pdu_filled}
use Rattle.wire.proofs.write_ack.NewAckFields.fill.Goals as goal

pub put_all-requires : goal.put_all-requires
put_all-requires c = omega (arith, length-numbers c.args.self.now.numbers.now)

pub returns : goal.returns
returns c =
    let a = c.args.self.now in
    let ns = a.numbers.now in
    let o = c.put_head.new.out in
    let long = length-numbers ns in
    let sender = four_octets a.sender in
    let count = sender ++ two_octets 1 in
    let entry = count ++ two_octets (10 + 2 * length ns) in
    let source = entry ++ four_octets a.source in
    let message = source ++ four_octets a.message in
    let b = overlaid_next o _ _ 8 12 sender (two_octets 1) c.put.ensures.after c.put-2.ensures.after refl (omega arith) in
    let d = overlaid_next o _ _ 8 14 count (two_octets (10 + 2 * length ns)) b c.put-3.ensures.after refl (omega arith) in
    let e = overlaid_next o _ _ 8 16 entry (four_octets a.source) d c.put-4.ensures.after refl (omega arith) in
    let f = overlaid_next o _ _ 8 20 source (four_octets a.message) e c.put-5.ensures.after refl (omega arith) in
    let body = overlaid_next o _ _ 8 24 message (number_octets ns) f c.put_all.ensures.after refl (omega arith) in
    record {
      after = pdu_filled a.priority 1 0 c.args.size (message ++ number_octets ns) c.args.out.now o _ _ c.put_head.ensures body c.seal.ensures (omega arith) (omega arith);
      back = ack_back a.priority a.sender a.source a.message ns (omega arith) (omega arith) (omega arith) c.requires.fit;
    }
