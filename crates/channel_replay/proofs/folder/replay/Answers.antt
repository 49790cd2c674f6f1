use Rattle.std.proofs.Common.{◌≤◌}
use Rattle.flume_host.specs.Told.{WhereTold}
use Rattle.event_core.specs.Journal.{IsBase}
use Rattle.channel_replay.specs.Plain.{base_of}
use Rattle.channel_replay.specs.Recover.{Recovers}
use Rattle.channel_replay.specs.declared.recovery.Replayed.{Replayed}
use Rattle.channel_replay.proofs.Folders.{recovered, replayed_base, replayed_txn, within_maps}
use Rattle.channel_replay.proofs.folder.replay.Goals as goal

pub returns-in-Ok-clause-ok : goal.returns-in-Ok-clause-ok
returns-in-Ok-clause-ok g c =
    within_maps c.within.result c.finish.result c.args.capacity (λ (r : Replayed). WhereTold _ (λ t. Recovers t.reads (base_of r) r.next.txn))
    (λ t is logs are. recovered logs c.apply_files.new.recovery c.finish.result (c.in-Ok.ensures.ok t is logs are) c.finish.ensures.items c.finish.ensures.number c.finish.ensures.txn) c.within.ensures.ok

pub returns-in-Ok-clause-base : goal.returns-in-Ok-clause-base
returns-in-Ok-clause-base g c =
    within_maps c.within.result c.finish.result c.args.capacity (λ (r : Replayed). IsBase (base_of r))
    (replayed_base c.apply_files.new.recovery c.finish.result c.in-Ok.ensures.reached c.finish.ensures.items c.finish.ensures.number) c.within.ensures.ok

pub returns-in-Ok-clause-txn : goal.returns-in-Ok-clause-txn
returns-in-Ok-clause-txn g c =
    within_maps c.within.result c.finish.result c.args.capacity (λ (r : Replayed). 1 ≤ r.next.txn)
    (replayed_txn c.apply_files.new.recovery c.finish.result c.in-Ok.ensures.reached c.finish.ensures.txn) c.within.ensures.ok
