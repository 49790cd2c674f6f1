use Rattle.std.proofs.Common.{◌≡◌, arith, false, true}
use Rattle.checkpoint_reading.proofs.Listing.{short_open, wrong_open}
use Rattle.checkpoint_reading.proofs.Living.{if_some}
use Rattle.checkpoint_reading.proofs.Stepping.{when_none, when_some}
use Rattle.checkpoint_reading.proofs.opens.next_open.Goals as goal

pub returns-in_default-clause-begins : goal.returns-in_default-clause-begins
returns-in_default-clause-begins g c = λ t is. short_open _ _ _ (when_none _ _ _ c.in_default.not-Some c.in_ok-txn.ensures.taken t is)

pub returns-then-not-is_between-clause-begins : goal.returns-then-not-is_between-clause-begins
returns-then-not-is_between-clause-begins g c = λ t is.
    wrong_open _ _ c.in-Some.txn c.in-Some.count _ _ (when_some _ _ _ _ c.in-Some.is c.in_ok-txn.ensures.taken t is) (if_some _ _ _ c.in-Some.is c.in_ok-txn.ensures.fits).0 (if_some _ _ _ c.in-Some.is c.in_ok-txn.ensures.fits).1
    (λ may. let yes : c.is_between.result ≡ true = c.is_between.ensures.1 (may.above, may.below) in let h : c.is_between.result ≡ false = c.if-not-is_between.true in absurd (cc))

pub returns-then-count-eq0-clause-begins : goal.returns-then-count-eq0-clause-begins
returns-then-count-eq0-clause-begins g c = λ t is.
    wrong_open _ _ c.in-Some.txn c.in-Some.count _ _ (when_some _ _ _ _ c.in-Some.is c.in_ok-txn.ensures.taken t is) (if_some _ _ _ c.in-Some.is c.in_ok-txn.ensures.fits).0 (if_some _ _ _ c.in-Some.is c.in_ok-txn.ensures.fits).1 (λ may. omega (arith, may.some, c.if-count-eq0.true))

pub returns-clause-begins : goal.returns-clause-begins
returns-clause-begins g c =
    let fits = if_some _ _ _ c.in-Some.is c.in_ok-txn.ensures.fits in
    let within = c.is_between.ensures.0 c.if-not-is_between.false in (
      when_some _ _ _ _ c.in-Some.is c.in_ok-txn.ensures.taken,
      record { above = within.0; below = within.1; fits = fits.0; some = omega (arith, c.if-count-eq0.false); few = fits.1 },
    )
