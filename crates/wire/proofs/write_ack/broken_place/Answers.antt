use Rattle.std.proofs.lemmas.Iterator.{YieldsList-from_slice}
use Rattle.std.proofs.lemmas.Iterator.Consumers.{YieldsList-at, YieldsList-from_copied}
use Rattle.wire.proofs.Rising.{listed}
use Rattle.wire.proofs.write_ack.broken_place.Goals as goal

pub returns : goal.returns
returns c = c.first_broken.ensures _ (listed (YieldsList-from_copied (YieldsList-at c.copied.ensures.source (YieldsList-from_slice c.args.numbers.now (cc)))))
