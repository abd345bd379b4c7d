use Rattle.std.proofs.Common.{refl}
use Rattle.bitmap.specs.Passing.{greatest, rising_from, tally}
use Rattle.bitmap.specs.Words.{holds, word_of, words_of}
use Rattle.parts.specs.Numbers.{has, set_of}
use Rattle.parts.specs.Places.{first_from, first_place}
use Rattle.rules.specs.Marks.{marked}
use Rattle.rules.specs.ReceiverPoll.{list_for}
use Rattle.rules.specs.SenderDrafts.{new_table, new_sender, sender_begin}
use Rattle.rules.proofs.Slipping.{complete_stays, records_stay, above_last_stays}
use Rattle.rules.proofs.cases.worked_cases.Goals as goal

pub returns : goal.returns
unfolding greatest rising_from tally holds word_of words_of has set_of marked list_for first_from first_place new_table new_sender sender_begin
returns c = record {
  checksums = c.example_checksums.ensures.table;
  again = refl;
  ring = refl;
  waits = c.growing_waits.ensures;
  edges = (refl, refl, refl, refl, refl, refl, refl, refl, refl, refl);
  complete = complete_stays;
  records = records_stay;
  above = above_last_stays;
}
