use Rattle.std.proofs.Common.{refl}
use Rattle.std.proofs.lemmas.Iterator.Consumers.{YieldsList-from_first}
use Rattle.wire.specs.Views.{numbers_in}
use Rattle.wire.proofs.Rising.{listed}
use Rattle.wire.proofs.views.Entry.broken.Goals as goal

pub returns : goal.returns
returns c = c.first_broken.ensures (numbers_in c.args.self.now.numbers) (listed (YieldsList-from_first (λ n. n) numbers_in _ refl))
