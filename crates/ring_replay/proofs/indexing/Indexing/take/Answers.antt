use Rattle.std.proofs.Common.{◌≡◌, ◌∙◌, ap, true, false, sym}
use Rattle.event_ring.specs.Slots.{look_at, marked}
use Rattle.ring_replay.specs.declared.indexing.Indexing.{Indexing}
use Rattle.ring_replay.specs.Indexing.{IsBarred, IsOpened, free_of}
use Rattle.ring_replay.proofs.TakeGoes.{free_live, take_barred, take_goes, take_refused}
use Rattle.ring_replay.proofs.indexing.Indexing.take.Goals as goal

pub returns-then-not-is_free : goal.returns-then-not-is_free
returns-then-not-is_free c = take_refused c.args.txn c.args.number c.args.place c.args.self.now c.args.self.now (sym c.is_free.ensures ∙ c.if-not-is_free.true)

pub mark-requires : goal.mark-requires
mark-requires c =
    let free : free_of (look_at c.args.number c.args.self.now.ring.live) ≡ true = sym c.is_free.ensures ∙ c.if-not-is_free.false in
    rw (ap (λ (r : Indexing). r.ring) c.see.ensures) (free_live c.args.self.now.ring.live c.args.number free)

pub returns : goal.returns
returns c =
    let opens : IsOpened false c.args.txn c.see.new.self.table c.open_for.new.table = rw c.if-not-branch.false at c.in_ok-open_for.ensures in
    let table : c.see.new.self.table ≡ c.args.self.now.table = ap (λ (r : Indexing). r.table) c.see.ensures in
    let free : free_of (look_at c.args.number c.args.self.now.ring.live) ≡ true = sym c.is_free.ensures ∙ c.if-not-is_free.false in
    take_goes c.args.txn c.args.number c.args.place c.args.self.now _ c.open_for.new.table c.requires free (rw table at opens) c.add.ensures.added c.add.ensures.count
    (c.mark.ensures ∙ ap (λ (r : Indexing). record r.ring { live = marked c.args.number true r.ring.live }) c.see.ensures) (ap (λ (r : Indexing). r.slots) c.see.ensures) (ap (λ (r : Indexing). r.next.number) c.see.ensures) (ap (λ (r : Indexing). r.next.txn) c.see.ensures)

pub returns-then-not-branch : goal.returns-then-not-branch
returns-then-not-branch c =
    let barred : IsBarred false c.args.txn c.see.new.self.table = rw c.if-not-branch.true at c.in_ok-open_for.ensures in
    let table : c.see.new.self.table ≡ c.args.self.now.table = ap (λ (r : Indexing). r.table) c.see.ensures in
    take_barred c.args.txn c.args.number c.args.place c.args.self.now c.args.self.now (rw table at barred)
