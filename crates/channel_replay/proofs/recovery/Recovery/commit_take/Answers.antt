use Rattle.std.proofs.Common.{◌≡◌, ap}
use Rattle.channel_replay.specs.declared.recovery.Recovery.{Recovery}
use Rattle.channel_replay.proofs.Applying.{takes_settle}
use Rattle.channel_replay.proofs.recovery.Recovery.commit_take.Goals as goal

pub returns-in-Some-Takes : goal.returns-in-Some-Takes
returns-in-Some-Takes c =
    let old : Recovery = c.args.self.now in
    let opened : c.see.new.self.opened.items ≡ old.opened.items = ap (λ (r : Recovery). r.opened.items) c.see.ensures in
    let numbers = c.in-Some-Takes.numbers in
    let entry = rw (c.in-Some-Takes.field-0-is, opened) at c.in-Some-Takes.ensures.entry in
    let rest = rw opened at c.in-Some-Takes.ensures.rest in
    takes_settle c.settle_takes.result c.args.txn c.args.count numbers old _ _ c.requires entry (ap (λ (r : Recovery). r.items.items) c.see.ensures) (ap (λ (r : Recovery). r.number) c.see.ensures) (ap (λ (r : Recovery). r.txn) c.see.ensures) rest c.settle_takes.ensures
