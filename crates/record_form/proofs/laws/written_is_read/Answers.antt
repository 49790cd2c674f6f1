use Rattle.std.proofs.Common.{ap}
use Rattle.record_form.specs.Grammar.{as_read}
use Rattle.record_form.proofs.Again.{record-again}
use Rattle.record_form.proofs.laws.written_is_read.Goals as goal

pub returns : goal.returns
returns c rec rest fields limit = (record-again rec rest fields limit, ap as_read (record-again rec rest fields limit))
