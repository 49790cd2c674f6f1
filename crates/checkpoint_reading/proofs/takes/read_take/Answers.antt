use Rattle.std.proofs.Common.{◌∙◌, ℕ, List, ap, arith, map, subst, sym}
use Rattle.event_core.specs.Numbers.{u64_bytes}
use Rattle.event_ring.specs.Slots.{Left}
use Rattle.checkpoint.specs.Says.{live_at}
use Rattle.checkpoint_reading.specs.Opens.{HasTaken, MayTake}
use Rattle.checkpoint_reading.specs.declared.draft.Draft.{Draft}
use Rattle.checkpoint_reading.specs.Opens.{MayOpen}
use Rattle.checkpoint_reading.proofs.Listing.{entry_read, no_open_entry, too_many, wrong_list, wrong_number}
use Rattle.checkpoint_reading.proofs.Stepping.{when_none, when_some}
use Rattle.checkpoint_reading.proofs.takes.read_take.Goals as goal

pub returns-in_default-clause-right : goal.returns-in_default-clause-right
returns-in_default-clause-right g c = λ t is taken has. no_open_entry u64_bytes _ _ _ _ _ (when_none _ _ _ c.in_default.not-Some c.in_ok-txn.ensures.begins t is)

pub returns-then-puts-clause-right : goal.returns-then-puts-clause-right
returns-then-puts-clause-right g c = λ t is taken has.
    let begins = when_some _ _ _ _ c.in-Some.is c.in_ok-txn.ensures.begins in
    wrong_number u64_bytes _ _ _ _ _ (g.D.Disk.told c.args.disk.now) c.args.reader.now c.next_open.new.reader c.in-Some.txn c.in-Some.count begins.0 begins.1 (λ items right. let yes = sym c.has-puts.ensures ∙ c.if-puts.true in let no = right.0 in absurd (cc)) t is

pub begin-requires : goal.begin-requires
begin-requires g c = c.requires.closed c.in-Some.txn (when_some _ _ _ _ c.in-Some.is c.in_ok-txn.ensures.begins).1.above (sym c.has-puts.ensures ∙ c.if-puts.false)

pub returns-then-not-few-clause-right : goal.returns-then-not-few-clause-right
returns-then-not-few-clause-right g c = λ t is taken has. too_many u64_bytes _ _ _ _ _ (c.in-Ok.ensures.many c.if-not-few.true)

pub read_numbers-requires-clause-begun : goal.read_numbers-requires-clause-begun
read_numbers-requires-clause-begun g c = (c.in-Ok.ensures.begun c.if-not-few.false).0.here

pub returns-then-not-right-clause-right : goal.returns-then-not-right-clause-right
returns-then-not-right-clause-right g c = λ t is taken has.
    let begins = when_some _ _ _ _ c.in-Some.is c.in_ok-txn.ensures.begins in
    let live = ap (λ (x : Draft). x.ring.live) c.begin.ensures.rest in
    wrong_list u64_bytes _ (MayTake c.begin.new.self.ring.live taken) _ _ _ t c.args.reader.now c.next_open.new.reader c.in-Some.txn c.in-Some.count (begins.0 t is) begins.1 (λ items right. subst (λ (l : List Left). MayTake l taken items) (sym live) right.1)
    (c.in_ok-right.ensures.wrong c.if-not-right.true t (c.next_open.ensures.same ∙ is) taken (subst (λ (l : List Left). HasTaken taken l) (sym live) has))

pub returns-clause-right : goal.returns-clause-right
returns-clause-right g c =
    let begins = when_some _ _ _ _ c.in-Some.is c.in_ok-txn.ensures.begins in
    let begun = c.in-Ok.ensures.begun c.if-not-few.false in
    let r = c.in_ok-right.ensures.right c.if-not-right.false in
    let live = ap (λ (x : Draft). x.ring.live) c.begin.ensures.rest in (
      record {
        numbers = r.0;
        may = subst (λ (n : ℕ). MayOpen c.args.low c.args.draft.now.next.txn c.in-Some.txn n) (sym r.2) begins.1;
        few = begun.1;
        apart = sym c.has-puts.ensures ∙ c.if-puts.false;
        read = entry_read u64_bytes _ _ c.args.reader.now c.next_open.new.reader c.read_numbers.new.reader c.in-Some.txn c.in-Some.count r.0 c.next_open.ensures.same begins.0 r.1.read r.2;
        fits = r.1.fits;
        lists = r.1.lists c.args.draft.now.table begun.0;
        taken = λ taken has. r.1.taken taken (subst (λ (l : List Left). HasTaken taken l) (sym live) has);
        events = r.1.events ∙ ap (λ (l : List Left). map live_at l) live;
        rest = r.1.rest ∙ ap (λ (x : Draft). record x { ring = record x.ring { live = c.read_numbers.new.draft.ring.live }; table = c.read_numbers.new.draft.table }) c.begin.ensures.rest;
      },
      omega arith,
    )
