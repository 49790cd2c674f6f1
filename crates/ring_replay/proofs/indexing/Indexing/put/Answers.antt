use Rattle.std.proofs.Common.{◌≡◌, ap, true}
use Rattle.ring_replay.specs.declared.indexing.Indexing.{Indexing}
use Rattle.ring_replay.specs.Indexing.{IsBarred, IsOpened}
use Rattle.ring_replay.proofs.Going.{may_add_put, put_barred, put_goes}
use Rattle.ring_replay.proofs.indexing.Indexing.put.Goals as goal

pub add-requires : goal.add-requires
add-requires c =
    let opens : IsOpened true c.args.txn c.see.new.self.table c.open_for.new.table = rw c.if-not-branch.false at c.in_ok-open_for.ensures in
    may_add_put c.args.txn c.args.place c.see.new.self.table c.open_for.new.table opens

pub returns : goal.returns
returns c =
    let opens : IsOpened true c.args.txn c.see.new.self.table c.open_for.new.table = rw c.if-not-branch.false at c.in_ok-open_for.ensures in
    let table : c.see.new.self.table ≡ c.args.self.now.table = ap (λ (r : Indexing). r.table) c.see.ensures in
    put_goes c.args.txn c.args.place c.args.self.now _ c.open_for.new.table c.requires (rw table at opens) c.add.ensures.added c.add.ensures.count
    (ap (λ (r : Indexing). r.ring) c.see.ensures) (ap (λ (r : Indexing). r.slots) c.see.ensures) (ap (λ (r : Indexing). r.next.number) c.see.ensures) (ap (λ (r : Indexing). r.next.txn) c.see.ensures)

pub returns-then-not-branch : goal.returns-then-not-branch
returns-then-not-branch c =
    let barred : IsBarred true c.args.txn c.see.new.self.table = rw c.if-not-branch.true at c.in_ok-open_for.ensures in
    let table : c.see.new.self.table ≡ c.args.self.now.table = ap (λ (r : Indexing). r.table) c.see.ensures in
    put_barred c.args.txn c.args.place c.args.self.now c.args.self.now (rw table at barred)
