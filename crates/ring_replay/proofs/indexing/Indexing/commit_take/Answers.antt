use Rattle.std.proofs.Common.{◌≡◌, ◌∙◌, List, length, Some, ℕ, ap}
use Rattle.std.specs.Option.{option_map}
use Rattle.event_ring.specs.Slots.{Index}
use Rattle.open_table.specs.Tables.{Open, Table, Takes, open_at}
use Rattle.ring_replay.specs.declared.indexing.Indexing.{Indexing}
use Rattle.ring_replay.specs.Indexing.{lacking}
use Rattle.ring_replay.proofs.Committing.{takes_commit}
use Rattle.ring_replay.proofs.Ending.{takes_live}
use Rattle.ring_replay.proofs.indexing.Indexing.commit_take.Goals as goal

pub remove_all-requires : goal.remove_all-requires
remove_all-requires c =
    let table : c.see.new.self.table ≡ c.args.self.now.table = ap (λ (r : Indexing). r.table) c.see.ensures in
    let ring : c.see.new.self.ring ≡ c.args.self.now.ring = ap (λ (r : Indexing). r.ring) c.see.ensures in
    let listed : option_map (λ (o : Open). o.listed) (open_at c.args.self.now.table c.args.txn) ≡ Some (Takes c.in-Takes.numbers.items) = rw table at c.in-Takes.ensures.ended in
    let all = takes_live c.args.self.now c.args.txn c.in-Takes.numbers.items c.requires.kept listed in
    rw (c.deref.ensures.value, ring) (record { live = all.0; apart = all.1 })

pub returns-in-Takes : goal.returns-in-Takes
returns-in-Takes c =
    let table : c.see.new.self.table ≡ c.args.self.now.table = ap (λ (r : Indexing). r.table) c.see.ensures in
    let ring : c.see.new.self.ring ≡ c.args.self.now.ring = ap (λ (r : Indexing). r.ring) c.see.ensures in
    let listed : option_map (λ (o : Open). o.listed) (open_at c.args.self.now.table c.args.txn) ≡ Some (Takes c.in-Takes.numbers.items) = rw table at c.in-Takes.ensures.ended in
    rw c.hand_back.ensures (takes_commit c.args.txn c.args.count c.args.place c.in-Takes.numbers.items c.args.self.now _ c.requires.txn listed (cc)
    (rw table at c.in-Takes.ensures.rest) (c.in-Takes.ensures.count ∙ ap (λ (t : Table). length t) table)
    (c.remove_all.ensures ∙ (ap (λ (r : Index). record r { live = lacking c.deref.result.now r.live }) ring ∙ ap (λ (l : List ℕ). record c.args.self.now.ring { live = lacking l c.args.self.now.ring.live }) c.deref.ensures.value))
    (ap (λ (r : Indexing). r.slots) c.see.ensures) (ap (λ (r : Indexing). r.next.number) c.see.ensures) (ap (λ (r : Indexing). r.next.txn) c.see.ensures))
