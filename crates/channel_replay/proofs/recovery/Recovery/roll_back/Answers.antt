use Rattle.std.proofs.Common.{◌≡◌, ap}
use Rattle.channel_replay.specs.declared.recovery.Recovery.{Recovery}
use Rattle.channel_replay.proofs.Applying.{rolled_back}
use Rattle.channel_replay.proofs.recovery.Recovery.roll_back.Goals as goal

pub returns : goal.returns
returns c =
    let old : Recovery = c.args.self.now in
    let opened : c.see.new.self.opened.items ≡ old.opened.items = ap (λ (r : Recovery). r.opened.items) c.see.ensures in
    let entry = rw opened at c.end.ensures.entry in
    let rest = rw opened at c.end.ensures.rest in
    rw c.is_some.ensures (rolled_back c.end.result c.args.txn old _ c.requires entry (ap (λ (r : Recovery). r.items.items) c.see.ensures) (ap (λ (r : Recovery). r.number) c.see.ensures) (ap (λ (r : Recovery). r.txn) c.see.ensures) rest)
