use Rattle.std.proofs.Common.{◌≡◌}
use Rattle.plug_in.proofs.Objects.{same_object}
use Rattle.plug_in.proofs.sink.BoxDynEventSinkSendEventSink.faults.Goals as goal

pub returns : goal.returns
returns g c = same_object (λ v x. c.faults.result ≡ (g.dyn-1.0.entry v).1.faults x) _ _ _ _ c.deref_box-1.ensures.1 c.faults.ensures
