use Rattle.std.proofs.Common.{drop, take, arith}
use Rattle.std.proofs.Math.Seq.{take-add}
use Rattle.std.proofs.lemmas.List.{take_rest}
use Rattle.std.proofs.KnownBytes.{Appends-trans}
use Rattle.flume_host.proofs.write.write_out.Goals as goal

pub loop-at-preserved : goal.loop-at-preserved
loop-at-preserved g c =
    let n = c.in_ok-at.field-0 in
    let xs = c.args.bytes.now in
    let took = g.K.Sink.took in
    let each = Appends-trans (took c.args.sink.now) (took c.loop-at.sink) (took c.write.new.self) (take c.loop-at.at xs) (take n (drop c.loop-at.at xs)) c.loop-at.invariant.2 (rw take_rest at c.in_ok-at.ensures.bytes) in
    (omega (arith, c.in_ok-at.ensures.bound), omega (arith, c.in_ok-at.ensures.cause.well, c.loop-at.invariant.1), rw (take-add c.loop-at.at n xs) each)
