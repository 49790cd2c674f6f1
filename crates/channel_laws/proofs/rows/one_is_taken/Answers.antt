use Rattle.std.proofs.Common.{refl}
use Rattle.channel_laws.proofs.Worked.{run_drained, commit, among}
use Rattle.channel_laws.proofs.rows.one_is_taken.Goals as goal

pub returns : goal.returns
returns g = λ e f. record { run = run_drained e f; left_at_end = λ own s is. is; commit = commit e f; among = among e f; entries = refl; left = refl }
