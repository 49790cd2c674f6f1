use Rattle.std.proofs.Common.{List}
use Rattle.channel_replay.specs.Plain.{AreOf, base_of}
use Rattle.channel_replay.specs.Recover.{LogFile, StandsFor}
use Rattle.channel_replay.specs.Recovery.{IsRecovered}
use Rattle.channel_replay.specs.declared.recovery.Replayed.{Replayed}
use Rattle.channel_replay.proofs.Lines.{recovered_maps, stands_for}
use Rattle.channel_replay.proofs.plain.recover.Goals as goal

pub returns-in-Ok-clause-ok : goal.returns-in-Ok-clause-ok
returns-in-Ok-clause-ok c =
    recovered_maps c.apply_all.result (IsRecovered c.in-Ok.lines.items) (λ (r : Replayed). (logs : List LogFile) × AreOf c.args.files.now logs × StandsFor logs (base_of r) r.next.txn)
    (λ r is. (c.in-Ok.ensures.0, c.in-Ok.ensures.1, stands_for c.in-Ok.ensures.0 c.in-Ok.lines.items r c.in-Ok.ensures.2 is))
    c.apply_all.ensures.ok
