use Rattle.std.proofs.Common.{refl, arith}
use Rattle.channel_log.proofs.Begins.{head_is, bad_header}
use Rattle.channel_log.proofs.reader.read_birth.Goals as goal

pub returns-in-None-clause-bad : goal.returns-in-None-clause-bad
returns-in-None-clause-bad g c = (refl, refl, λ bytes has size. bad_header c.args.number bytes c.read.new.into (omega (arith, size)) (head_is _ c.args.number bytes c.read.new.into c.in-Ok.field-0 has (omega (arith, size)) c.in-Ok.ensures.bytes) c.in-None.ensures)
