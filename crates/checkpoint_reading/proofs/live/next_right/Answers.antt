use Rattle.std.proofs.Common.{true, false, ◌≡◌, ◌∙◌}
use Rattle.checkpoint_reading.proofs.Living.{if_some, none_put, other_live, short_live}
use Rattle.checkpoint_reading.proofs.Stepping.{when_none, when_some}
use Rattle.checkpoint_reading.proofs.live.next_right.Goals as goal

pub returns-in_default-clause-right : goal.returns-in_default-clause-right
returns-in_default-clause-right g c = λ t is l more there right. short_live _ (when_none _ _ _ c.in_default.not-Some c.in_ok-number.ensures.taken t is) l more there

pub returns-then-not-is_between-clause-right : goal.returns-then-not-is_between-clause-right
returns-then-not-is_between-clause-right g c = λ t is. other_live t.reads _ _ _ _ (c.in-Some.number, c.in-Some.pointer) (if_some _ _ _ c.in-Some.is c.in_ok-number.ensures.fits).0 (if_some _ _ _ c.in-Some.is c.in_ok-number.ensures.fits).1 (when_some _ _ _ _ c.in-Some.is c.in_ok-number.ensures.taken t is)
    (λ right. let yes : c.is_between.result ≡ true = c.is_between.ensures.1 (right.above, right.below) in let h : c.is_between.result ≡ false = c.if-not-is_between.true in absurd (cc))

pub returns-in-None-clause-right : goal.returns-in-None-clause-right
returns-in-None-clause-right g c = λ t is. other_live t.reads _ _ _ _ (c.in-Some.number, c.in-Some.pointer) (if_some _ _ _ c.in-Some.is c.in_ok-number.ensures.fits).0 (if_some _ _ _ c.in-Some.is c.in_ok-number.ensures.fits).1 (when_some _ _ _ _ c.in-Some.is c.in_ok-number.ensures.taken t is)
    (λ right. none_put t.reads c.in-Some.pointer c.in_ok-put_txn.field-0 c.in-None.is (c.in_ok-put_txn.ensures.put t (c.next_live.ensures.same ∙ is)) right.event right.stands)
