use Rattle.std.proofs.Common.{arith}
use Rattle.avro_frame.proofs.Walk.{joins_more, joins_all}
use Rattle.avro_frame.proofs.pending.join.Goals as goal

pub buffers-preserved : goal.buffers-preserved
buffers-preserved c =
    let within = c.in-Some.ensures.shorter in
    let i = c.buffers.invariant in
    record {
      joins = rw c.put.ensures.items (joins_more c.args.bytes.now c.buffers.rest.now c.buffers.payload.items c.in-Some.others.now c.in-Some.first.now i.joins (omega (arith, within)) (λ b r small e. c.in-Some.ensures.found b r small e));
      room = omega (arith, within, i.room, c.put.ensures.len, c.put.ensures.room);
    }

pub returns : goal.returns
returns c = joins_all c.args.bytes.now c.buffers.rest.now c.buffers.payload.items c.buffers.invariant.joins (λ b r small e. c.in_default.ensures.found b r small e)
