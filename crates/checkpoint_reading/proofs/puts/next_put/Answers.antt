use Rattle.std.proofs.Common.{◌∙◌}
use Rattle.checkpoint_reading.proofs.Listing.{found_none, found_some, no_put_of, other_put, other_txn, put_is, short_pointer}
use Rattle.checkpoint_reading.proofs.Living.{if_some}
use Rattle.checkpoint_reading.proofs.Stepping.{when_none, when_some}
use Rattle.checkpoint_reading.proofs.puts.next_put.Goals as goal

pub returns-in_default-clause-right : goal.returns-in_default-clause-right
returns-in_default-clause-right g c = λ t is p more there right. short_pointer _ (when_none _ _ _ c.in_default.not-Some c.in_ok-pointer.ensures.taken t is) p more there

pub returns-in_default-2-clause-right : goal.returns-in_default-2-clause-right
returns-in_default-2-clause-right g c = λ t is.
    other_put t.reads c.args.txn _ _ c.in-Some.pointer (when_some _ _ _ _ c.in-Some.is c.in_ok-pointer.ensures.taken t is) (if_some _ _ _ c.in-Some.is c.in_ok-pointer.ensures.fits)
    (no_put_of t.reads c.in-Some.pointer c.args.txn (found_none t.reads c.in-Some.pointer _ c.in_default-2.is (c.in_ok-found.ensures.put t (c.next_pointer.ensures.same ∙ is))))

pub returns-then-found-txn-clause-right : goal.returns-then-found-txn-clause-right
returns-then-found-txn-clause-right g c = λ t is.
    other_put t.reads c.args.txn _ _ c.in-Some.pointer (when_some _ _ _ _ c.in-Some.is c.in_ok-pointer.ensures.taken t is) (if_some _ _ _ c.in-Some.is c.in_ok-pointer.ensures.fits)
    (other_txn t.reads c.in-Some.pointer c.args.txn c.in-Some-2.found c.if-found-txn.true (found_some t.reads c.in-Some.pointer _ c.in-Some-2.found c.in-Some-2.is (c.in_ok-found.ensures.put t (c.next_pointer.ensures.same ∙ is))))

pub returns-clause-right : goal.returns-clause-right
returns-clause-right g c = (
  when_some _ _ _ _ c.in-Some.is c.in_ok-pointer.ensures.taken,
  λ t is. put_is t.reads c.in-Some.pointer c.args.txn c.in-Some-2.found (if_some _ _ _ c.in-Some.is c.in_ok-pointer.ensures.fits) c.if-found-txn.false
      (found_some t.reads c.in-Some.pointer _ c.in-Some-2.found c.in-Some-2.is (c.in_ok-found.ensures.put t (c.next_pointer.ensures.same ∙ is))),
)

pub returns-clause-sized : goal.returns-clause-sized
returns-clause-sized g c = (if_some _ _ _ c.in-Some.is c.in_ok-pointer.ensures.fits, if_some _ c.in-Some-2.found _ c.in-Some-2.is c.in_ok-found.ensures.sized)
