use Rattle.std.proofs.Common.{◌≡◌, ap}
use Rattle.channel_replay.specs.declared.recovery.Recovery.{Recovery}
use Rattle.channel_replay.specs.Recovery.{SettlesPuts}
use Rattle.channel_replay.proofs.Applying.{puts_settle, where_ok}
use Rattle.channel_replay.proofs.recovery.Recovery.commit_put.Goals as goal

pub returns-in-Some-Puts : goal.returns-in-Some-Puts
returns-in-Some-Puts c =
    let old : Recovery = c.args.self.now in
    let opened : c.see.new.self.opened.items ≡ old.opened.items = ap (λ (r : Recovery). r.opened.items) c.see.ensures in
    let events = c.in-Some-Puts.batch in
    let entry = rw (c.in-Some-Puts.field-0-is, opened) at c.in-Some-Puts.ensures.entry in
    let rest = rw opened at c.in-Some-Puts.ensures.rest in
    where_ok c.settle_puts.result (λ ok. SettlesPuts ok events c.args.first c.args.count _ c.settle_puts.new.self) _
    (λ ok is. puts_settle ok c.args.txn c.args.first c.args.count events old _ _ c.requires entry (ap (λ (r : Recovery). r.items.items) c.see.ensures) (ap (λ (r : Recovery). r.number) c.see.ensures) (ap (λ (r : Recovery). r.txn) c.see.ensures) rest is)
    c.settle_puts.ensures
