use Rattle.std.proofs.Common.{◌≡◌, ◌-◌, ◌*◌, ◌/◌, ◌%◌, ◌^◌, ◌<◌, length, mod-lt, arith, lit<, length-set}
use Rattle.std.proofs.lemmas.Nat.{one_shl}
use Rattle.bitmap.proofs.Words.{turned, turned_fits}
use Rattle.parts.proofs.words.Words.turned.Goals as goal

pub returns : goal.returns
returns c =
    let ws = c.args.self.now.0 in
    let n = c.args.n in
    let e : (1 * 2 ^ ((n - 1) % 64)) % 2 ^ 64 ≡ 2 ^ ((n - 1) % 64) = one_shl ((n - 1) % 64) 64 (mod-lt (n - 1) (lit< tt)) in
    let w : (n - 1) / 64 < length ws = omega arith in
    record {
      fits = rw e (turned_fits ws ((n - 1) / 64) ((n - 1) % 64) (mod-lt (n - 1) (lit< tt)) c.requires.fits);
      long = simp length-set (omega arith);
      turns = λ m. rw e (turned ws n m (omega arith) w);
    }
