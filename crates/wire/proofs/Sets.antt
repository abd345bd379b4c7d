-- Lemmas that the functions name by sets.
use Rattle.std.proofs.lemmas.List.{drop-drop}
use Rattle.pdu.proofs.Back.{length-numbers, length-destinations, ack-fits, address-fits}
use Rattle.pdu.proofs.Ones.{word_sum-blanked, checksum_is}
use Rattle.pdu.proofs.Walks.{destinations-none, destinations_front, entry_short, entry_odd, entry_low, entry_past, entry_whole}
use Rattle.wire.proofs.Ends.{destinations_short}
use Rattle.wire.proofs.Pairs.{length_pairs}

-- a part of a buffer
pub ruleset parts = (drop-drop)

-- the length of a PDU that is to be written
pub ruleset sizes = (length-numbers, length-destinations, length_pairs, ack-fits, address-fits)

-- the Checksum by one plain sum
pub ruleset sums = (word_sum-blanked, checksum_is)

-- one step of a walk through destinations
pub ruleset destination_steps = (destinations-none, destinations_short, destinations_front)

-- whether an entry stands at a place
pub ruleset entry_cases = (entry_short, entry_odd, entry_low, entry_past, entry_whole)
