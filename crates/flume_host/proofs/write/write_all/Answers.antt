use Rattle.std.proofs.Common.{[], drop, take, arith, refl}
use Rattle.std.proofs.Math.Seq.{take-add}
use Rattle.std.proofs.lemmas.List.{take_rest}
use Rattle.std.proofs.lemmas.Result.{err_from_is_err_and}
use Rattle.flume_host.proofs.Talking.{talks_none, talks_then, talks_broke, talks_still, talks_wrote, waited_none, waited_then, waited_wrote, waited_broke, failed_behind, failed_broke}
use Rattle.flume_host.proofs.write.write_all.Goals as goal

pub loop-at-init : goal.loop-at-init
loop-at-init g c = record { within = omega arith; well = refl; waits = omega arith; waited = waited_none (g.L.Link.told c.args.link.now); talk = talks_none (g.L.Link.told c.args.link.now) }

pub loop-at-preserved : goal.loop-at-preserved
loop-at-preserved g c =
    let n = c.in_ok-at.field-0 in
    let xs = c.args.bytes.now in
    let told = g.L.Link.told in
    let wrote = talks_wrote n (drop c.loop-at.at xs) (told c.loop-at.link) (told c.write.new.self) (rw take_rest at c.in_ok-at.ensures.done) in
    let both = talks_then (told c.args.link.now) (told c.loop-at.link) (told c.write.new.self) [] (take c.loop-at.at xs) [] (take n (drop c.loop-at.at xs)) 0 0 c.loop-at.invariant.talk wrote in
    record {
      within = omega (arith, c.in_ok-at.ensures.bound);
      well = omega (arith, c.in_ok-at.ensures.cause.well, c.loop-at.invariant.well);
      waits = omega (arith, c.in_ok-at.ensures.waits, c.loop-at.invariant.waits);
      waited = waited_then _ _ _ 0 0 c.loop-at.invariant.waited (waited_wrote _ _ _ _ (rw take_rest at c.in_ok-at.ensures.done));
      talk = rw (take-add c.loop-at.at n xs) both;
    }

pub returns-in_err-at-clause-part : goal.returns-in_err-at-clause-part
returns-in_err-at-clause-part g c =
    let told = g.L.Link.told in
    let broke = talks_broke (told c.loop-at.link) (told c.write.new.self) c.in_err-at.ensures.done in
    let p = err_from_is_err_and c.from_residual.result c.from_residual.ensures.1 in
    rw p.1 (record {
      count = c.loop-at.at;
      short = c.loop-at-test.true;
      talk = talks_still (told c.args.link.now) (told c.loop-at.link) (told c.write.new.self) [] (take c.loop-at.at c.args.bytes.now) 0 c.loop-at.invariant.talk broke;
      failed = failed_behind _ _ _ [] (take c.loop-at.at c.args.bytes.now) 0 c.loop-at.invariant.talk (failed_broke _ _ c.in_err-at.ensures.done);
    })

pub returns-in_err-at-clause-waited : goal.returns-in_err-at-clause-waited
returns-in_err-at-clause-waited g c = waited_then _ _ _ 0 0 c.loop-at.invariant.waited (waited_broke _ _ c.in_err-at.ensures.done)
