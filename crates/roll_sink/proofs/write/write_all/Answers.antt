use Rattle.std.proofs.Common.{sym, drop, take, arith, refl, take-append-drop}
use Rattle.std.proofs.Math.Seq.{take-add}
use Rattle.std.proofs.lemmas.List.{take_rest}
use Rattle.roll_sink.proofs.Growing.{nothing_written, more_written, added_written, failed_behind, writes_not}
use Rattle.roll_sink.proofs.write.write_all.Goals as goal

pub loop-at-init : goal.loop-at-init
loop-at-init g c = (omega arith, refl, nothing_written (g.D.RollDir.rolled c.args.dir.now))

pub loop-at-preserved : goal.loop-at-preserved
loop-at-preserved g c =
    let n = c.in_ok-at.field-0 in
    let xs = c.args.bytes.now in
    let rolled = g.D.RollDir.rolled in
    let added = added_written (take n (drop c.loop-at.at xs)) (rolled c.loop-at.dir) (rolled c.write.new.self) (rw take_rest at c.in_ok-at.ensures.done) in (
      omega (arith, c.in_ok-at.ensures.bound),
      omega (arith, c.in_ok-at.ensures.cause.well, c.loop-at.invariant.1),
      rw (take-add c.loop-at.at n xs) (more_written (take c.loop-at.at xs) (take n (drop c.loop-at.at xs)) (rolled c.args.dir.now) (rolled c.loop-at.dir) (rolled c.write.new.self) c.loop-at.invariant.2 added),
    )

pub returns-in_err-at-clause-done : goal.returns-in_err-at-clause-done
returns-in_err-at-clause-done g c =
    let xs = c.args.bytes.now in
    let rolled = g.D.RollDir.rolled in
    writes_not xs c.from_residual.result (rolled c.args.dir.now) (rolled c.write.new.self) c.from_residual.ensures.0
    (rw (sym (take-append-drop c.loop-at.at xs)) (failed_behind (take c.loop-at.at xs) (drop c.loop-at.at xs) (rolled c.args.dir.now) (rolled c.loop-at.dir) (rolled c.write.new.self) c.loop-at.invariant.2 c.in_err-at.ensures.done))
