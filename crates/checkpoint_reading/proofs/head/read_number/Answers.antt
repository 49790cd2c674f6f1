use Rattle.std.proofs.Common.{inr, refl}
use Rattle.flume_host.specs.Folder.{Files}
use Rattle.checkpoint_reading.specs.Fields.{NumbersGive, Outcome}
use Rattle.checkpoint_reading.proofs.Stepping.{faults_here, short_u64, when_none}
use Rattle.checkpoint_reading.proofs.head.read_number.Goals as goal

pub returns-in_default-clause-bad : goal.returns-in_default-clause-bad
returns-in_default-clause-bad g c =
    faults_here _ c.args.reader.now (λ (files : Files) (o : Outcome). NumbersGive files o c.args.place) _ _ c.number-file.ensures c.at-at.ensures.at c.at-at.ensures.within
    (λ t is. inr (λ a more there right. short_u64 _ (when_none _ _ _ c.in_default.not-Some c.in_ok-number.ensures.taken t is) a more there, refl))
