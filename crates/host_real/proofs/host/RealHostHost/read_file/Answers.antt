use Rattle.std.proofs.Common.{refl, arith}
use Rattle.host_real.proofs.host.RealHostHost.read_file.Goals as goal

pub returns-clause-state : goal.returns-clause-state
returns-clause-state c = (
  c.args.self.now.faults,
  refl,
  record {
    whole = λ told is. cc;
    few = omega (arith, c.truncate.ensures.len, c.truncate.new.self.ok.0, c.if-size-gt-FILE_LIMIT.false);
    well = refl;
  },
)
