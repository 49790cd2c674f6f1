use Rattle.std.proofs.Common.{◌≡◌, refl}
use Rattle.plug_in.proofs.Objects.{same_object}
use Rattle.plug_in.proofs.step.BoxDynInterceptorSendInterceptor.intercept.Goals as goal

pub returns : goal.returns
returns g c =
    let b = c.args.self.now in
    let n = record b { vtable = c.deref_box_mut-1.result.now.0; value = c.intercept.new.self } in
    same_object (λ v x. (object : (g.dyn-1.0.entry v).0.Denot) × (n ≡ record b { vtable = v; value = object }) × (g.dyn-1.0.entry v).1.intercepts x c.args.event c.args.moment c.intercept.result object) _ _ _ _ c.deref_box_mut-1.ensures.value.1 (c.intercept.new.self, refl, c.intercept.ensures)
