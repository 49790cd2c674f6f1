use Rattle.std.proofs.Common.{arith}
use Rattle.checkpoint_reading.proofs.Taking.{front_u64}
use Rattle.checkpoint_reading.proofs.reader.u64_in.Goals as goal

pub returns : goal.returns
returns c = front_u64 c.args.bytes.now c.read_u64.result (λ i. omega (arith, c.type_inv.bytes i)) c.requires c.read_u64.ensures
