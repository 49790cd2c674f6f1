use Rattle.std.proofs.Common.{◌∙◌, ℕ, ap, arith, subst, sym}
use Rattle.std.specs.List.{AllByRecursion}
use Rattle.checkpoint.specs.Text.{pointer_bytes}
use Rattle.checkpoint_reading.specs.Fields.{IsPut}
use Rattle.checkpoint_reading.specs.declared.draft.Draft.{Draft}
use Rattle.checkpoint_reading.specs.Opens.{MayOpen}
use Rattle.checkpoint_reading.proofs.Listing.{entry_read, no_open_entry, too_many, wrong_list}
use Rattle.checkpoint_reading.proofs.Stepping.{when_none, when_some}
use Rattle.checkpoint_reading.proofs.puts.read_put.Goals as goal

pub returns-in_default-clause-right : goal.returns-in_default-clause-right
returns-in_default-clause-right g c = λ t is. no_open_entry pointer_bytes _ _ _ _ _ (when_none _ _ _ c.in_default.not-Some c.in_ok-txn.ensures.begins t is)

pub begin-requires : goal.begin-requires
begin-requires g c = c.requires.closed c.in-Some.txn (when_some _ _ _ _ c.in-Some.is c.in_ok-txn.ensures.begins).1.above

pub returns-then-not-few-clause-right : goal.returns-then-not-few-clause-right
returns-then-not-few-clause-right g c = λ t is. too_many pointer_bytes _ _ _ _ _ (c.in-Ok.ensures.many c.if-not-few.true)

pub read_pointers-requires-clause-begun : goal.read_pointers-requires-clause-begun
read_pointers-requires-clause-begun g c = (c.in-Ok.ensures.begun c.if-not-few.false).0.here

pub returns-then-not-right-clause-right : goal.returns-then-not-right-clause-right
returns-then-not-right-clause-right g c = λ t is.
    let begins = when_some _ _ _ _ c.in-Some.is c.in_ok-txn.ensures.begins in
    wrong_list pointer_bytes _ (AllByRecursion (IsPut t.reads c.in-Some.txn)) _ _ _ t c.args.reader.now c.next_open.new.reader c.in-Some.txn c.in-Some.count (begins.0 t is) begins.1 (λ items right. right) (c.in_ok-right.ensures.wrong c.if-not-right.true t (c.next_open.ensures.same ∙ is))

pub returns-clause-right : goal.returns-clause-right
returns-clause-right g c =
    let begins = when_some _ _ _ _ c.in-Some.is c.in_ok-txn.ensures.begins in
    let begun = c.in-Ok.ensures.begun c.if-not-few.false in
    let r = c.in_ok-right.ensures.right c.if-not-right.false in (
      record {
        pointers = r.0;
        may = subst (λ (n : ℕ). MayOpen c.args.low c.args.draft.now.next.txn c.in-Some.txn n) (sym r.2) begins.1;
        few = begun.1;
        read = entry_read pointer_bytes _ _ c.args.reader.now c.next_open.new.reader c.read_pointers.new.reader c.in-Some.txn c.in-Some.count r.0 c.next_open.ensures.same begins.0 r.1.read r.2;
        sized = r.1.sized;
        stand = λ t is. r.1.stand t (c.next_open.ensures.same ∙ is);
        lists = r.1.lists c.args.draft.now.table begun.0;
        rest = r.1.rest ∙ ap (λ (x : Draft). record x { table = c.read_pointers.new.draft.table }) c.begin.ensures.rest;
      },
      omega arith,
    )
