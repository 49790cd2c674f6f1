use Rattle.std.proofs.Common.{◌≡◌, ◌++◌, ◌∷◌, [], ap}
use Rattle.event_core.specs.declared.journal.Entry.TheVariants.{Puts}
use Rattle.channel_replay.specs.declared.recovery.Recovery.{Recovery}
use Rattle.channel_replay.specs.Marks.{events_of}
use Rattle.channel_replay.specs.Rules.{IsPut}
use Rattle.channel_replay.specs.Open.{GoesOn}
use Rattle.channel_replay.proofs.Applying.{put_applies, where_ok}
use Rattle.channel_replay.proofs.recovery.Recovery.put.Goals as goal

pub returns : goal.returns
returns c =
    let old : Recovery = c.args.self.now in
    let opened : c.see.new.self.opened.items ≡ old.opened.items = ap (λ (r : Recovery). r.opened.items) c.see.ensures in
    let goes = rw opened at c.add_put.ensures in
    where_ok c.add_put.result (λ ok. GoesOn ok old.opened.items c.args.txn IsPut (λ entry. Puts (events_of entry ++ c.args.event ∷ [])) c.add_put.new.opened.items) _
    (λ ok is. put_applies ok c.args.txn c.args.event old _ c.requires (ap (λ (r : Recovery). r.items.items) c.see.ensures) (ap (λ (r : Recovery). r.number) c.see.ensures) (ap (λ (r : Recovery). r.txn) c.see.ensures) is)
    goes
