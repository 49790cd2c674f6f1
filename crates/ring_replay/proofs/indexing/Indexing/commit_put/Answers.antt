use Rattle.std.proofs.Common.{◌≡◌, ◌∙◌, Some, ap, length}
use Rattle.std.specs.Option.{option_map}
use Rattle.open_table.specs.Tables.{Open, Puts, Table, open_at}
use Rattle.channel_replay.proofs.Applying.{where_ok}
use Rattle.ring_replay.specs.declared.indexing.Indexing.{Indexing}
use Rattle.ring_replay.specs.Indexing.{SettlesPuts}
use Rattle.ring_replay.proofs.Committing.{puts_commit}
use Rattle.ring_replay.proofs.indexing.Indexing.commit_put.Goals as goal

pub returns-in-Puts : goal.returns-in-Puts
returns-in-Puts c =
    let table : c.see.new.self.table ≡ c.args.self.now.table = ap (λ (r : Indexing). r.table) c.see.ensures in
    let places = c.in-Puts.places.items in
    let mid : Indexing = record c.see.new.self { table = c.end.new.self } in
    let settles = rw c.deref.ensures.value at c.settle_puts-settled.ensures in
    let listed : option_map (λ (o : Open). o.listed) (open_at c.args.self.now.table c.args.txn) ≡ Some (Puts places) = rw table at c.in-Puts.ensures.ended in
    rw c.hand_back.ensures (where_ok c.settle_puts-settled.result (λ ok. SettlesPuts ok places c.args.first c.args.count mid c.settle_puts-settled.new.self) _
    (λ ok is. puts_commit ok c.args.txn c.args.first c.args.count c.args.place places c.args.self.now mid c.settle_puts-settled.new.self c.requires.txn listed
    (rw table at c.in-Puts.ensures.rest) (c.in-Puts.ensures.count ∙ ap (λ (t : Table). length t) table)
    (ap (λ (r : Indexing). r.ring) c.see.ensures) (ap (λ (r : Indexing). r.next.number) c.see.ensures) (ap (λ (r : Indexing). r.next.txn) c.see.ensures) is)
    settles)
