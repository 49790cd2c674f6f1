use Rattle.std.proofs.Common.{ap, set}
use Rattle.host_memory.specs.Folders.{with_object}
use Rattle.host_memory.proofs.named.take_out.Goals as goal

pub returns : goal.returns
returns g c = (
  c.index_mut.result.now,
  c.index_mut.ensures.value,
  c.take.ensures.value,
  ap (λ o. set c.args.objects.now.items c.args.index (with_object c.index_mut.result.now o)) c.take.ensures.after,
)
