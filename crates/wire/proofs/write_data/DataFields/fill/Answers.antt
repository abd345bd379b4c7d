use Rattle.std.proofs.Common.{◌++◌, refl, arith}
use Rattle.pdu.specs.Octets.{four_octets}
use Rattle.pdu.proofs.Back.{data_back}
use Rattle.pdu.proofs.Puts.{overlaid_next, pdu_filled}
use Rattle.wire.proofs.write_data.DataFields.fill.Goals as goal

pub returns : goal.returns
returns c =
    let d = c.args.self.now in
    let f = d.fragment.now in
    let s = four_octets d.source in
    let m = four_octets d.message in
    let o = c.put_head.new.out in
    let two = overlaid_next o _ _ 8 12 s m c.put.ensures.after c.put-2.ensures.after refl (omega arith) in
    let body = overlaid_next o _ _ 8 16 (s ++ m) f two c.put_octets.ensures refl (omega arith) in
    record {
      after = pdu_filled d.priority 0 d.number _ (s ++ (m ++ f)) c.args.out.now o _ _ c.put_head.ensures body c.seal.ensures (omega arith) (omega arith);
      back = data_back d.priority d.number d.source d.message f (omega arith) (omega arith) c.requires.fit;
    }
