-- Every sentence that a file can hold reads back from its bytes. Assumes nothing.
use Rattle.logic.proofs.RoundTrip.{round_trip}
use Rattle.logic.proofs.worked.sentences_read_back.Goals as goal

pub returns : goal.returns
returns c = round_trip
