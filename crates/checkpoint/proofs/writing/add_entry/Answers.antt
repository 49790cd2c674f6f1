use Rattle.std.proofs.Common.{◌∙◌, sym, arith}
use Rattle.checkpoint.specs.Files.{spool}
use Rattle.checkpoint.proofs.Laying.{passes_on, rests}
use Rattle.checkpoint.proofs.Spooling.{begun_on, entry_added}
use Rattle.checkpoint.proofs.writing.add_entry.Goals as goal

pub returns-then-is_empty-clause-any_moment : goal.returns-then-is_empty-clause-any_moment
returns-then-is_empty-clause-any_moment g c =
    let law = g.met.D.Disk.reads_are_left in
    rests c.args.number (spool (g.D.Disk.told c.args.disk.now) c.args.at c.args.buffer.now.items) (λ t is. law c.args.disk.now t is) c.requires.begun

pub add_items-requires-clause-begun : goal.add_items-requires-clause-begun
add_items-requires-clause-begun g c = begun_on c.args.number _ _ _ _ c.add_number.ensures.any_moment c.in_ok-place.ensures.added c.requires.begun

pub returns-in_err-next-clause-any_moment : goal.returns-in_err-next-clause-any_moment
returns-in_err-next-clause-any_moment g c = passes_on c.args.number 0 0 0 _ _ _ (omega arith) c.add_number.ensures.any_moment c.add_items.ensures.any_moment

pub returns-clause-any_moment : goal.returns-clause-any_moment
returns-clause-any_moment g c = passes_on c.args.number 0 0 0 _ _ _ (omega arith) c.add_number.ensures.any_moment c.add_items.ensures.any_moment

pub returns-clause-added : goal.returns-clause-added
returns-clause-added g c = λ few.
    entry_added c.args.number c.args.txn c.spelled_count.result _ _ _ g.I.Item.bytes c.args.items.now (sym c.is_empty.ensures ∙ c.if-is_empty.false) (c.spelled_count.ensures few) c.in_ok-place.ensures.added c.in_ok-next.ensures.added

pub returns-clause-begun : goal.returns-clause-begun
returns-clause-begun g c =
    begun_on c.args.number _ _ _ _ c.add_items.ensures.any_moment c.in_ok-next.ensures.added
    (begun_on c.args.number _ _ _ _ c.add_number.ensures.any_moment c.in_ok-place.ensures.added c.requires.begun)
