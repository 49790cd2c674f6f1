use Rattle.std.proofs.Common.{refl}
use Rattle.channel_laws.specs.Rows.{history, at_end}
use Rattle.channel_laws.proofs.Worked.{run, first, second, first_alone, second_alone}
use Rattle.channel_laws.proofs.rows.two_batches_and_one_flush.Goals as goal

pub returns : goal.returns
returns g = λ e f. record { run = run e f; left_at_end = λ own s is. is; first = first (at_end (history e f)) e f refl; second = second (at_end (history e f)) e f; first_alone = first_alone e f; second_alone = second_alone e f; entries = refl; left = refl }
