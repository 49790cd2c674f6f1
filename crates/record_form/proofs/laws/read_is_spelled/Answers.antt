use Rattle.record_form.proofs.SpelledPut.{all_spelled}
use Rattle.record_form.proofs.laws.read_is_spelled.Goals as goal

pub returns : goal.returns
returns c = all_spelled
