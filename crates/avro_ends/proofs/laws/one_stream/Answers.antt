use Rattle.avro_ends.proofs.Dialogues.{cuts_into, sends_replies}
use Rattle.avro_ends.proofs.laws.one_stream.Goals as goal

pub returns-clause-cut : goal.returns-clause-cut
returns-clause-cut c = cuts_into

pub returns-clause-sends : goal.returns-clause-sends
returns-clause-sends c = sends_replies
