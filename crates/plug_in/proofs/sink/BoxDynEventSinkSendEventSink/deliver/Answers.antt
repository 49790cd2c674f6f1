use Rattle.std.proofs.Common.{◌≡◌, ◌≤◌, refl}
use Rattle.flume_host.specs.Causes.{Rose}
use Rattle.plug_in.specs.Sinks.{IsRefused}
use Rattle.plug_in.proofs.Objects.{same_object}
use Rattle.plug_in.proofs.sink.BoxDynEventSinkSendEventSink.deliver.Goals as goal

pub returns-clause-done : goal.returns-clause-done
returns-clause-done g c =
    let b = c.args.self.now in
    let n = record b { vtable = c.deref_box_mut-1.result.now.0; value = c.deliver.new.self } in
    same_object (λ v x. (object : (g.dyn-1.0.entry v).0.Denot) × (n ≡ record b { vtable = v; value = object }) × (g.dyn-1.0.entry v).1.delivers x c.args.batch.now c.args.moment c.deliver.result object) _ _ _ _ c.deref_box_mut-1.ensures.value.1 (c.deliver.new.self, refl, c.deliver.ensures.0)

pub returns-clause-cause : goal.returns-clause-cause
returns-clause-cause g c =
    let after = (g.dyn-1.0.entry c.deref_box_mut-1.result.now.0).1.faults c.deliver.new.self in
    same_object (λ v x. IsRefused c.deliver.result → Rose ((g.dyn-1.0.entry v).1.faults x) after) _ _ _ _ c.deref_box_mut-1.ensures.value.1 c.deliver.ensures.1.0

pub returns-clause-later : goal.returns-clause-later
returns-clause-later g c =
    let after = (g.dyn-1.0.entry c.deref_box_mut-1.result.now.0).1.faults c.deliver.new.self in
    same_object (λ v x. (g.dyn-1.0.entry v).1.faults x ≤ after) _ _ _ _ c.deref_box_mut-1.ensures.value.1 c.deliver.ensures.1.1
