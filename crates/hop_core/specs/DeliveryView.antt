-- What a delivery stands for.
use Rattle.std.specs.Prelude.{◌≡◌, refl, ℕ, Option, Some, None}
use Rattle.world_laws.specs.World.{Delivery, Output, Acked}
use Rattle.hop_core.specs.declared.packets.Delivery.TheInside.{Inside}

abbrev pub delivery_of : Option ℕ → ℕ → Delivery
delivery_of None place = Output place
delivery_of (Some node) place = Acked node place

abbrev pub delivery_back : Delivery → Inside
delivery_back (Output place) = record { by = None; place = place }
delivery_back (Acked node place) = record { by = Some node; place = place }

pub delivery_back_ok : (d : Inside) → Unit {0} → delivery_back (delivery_of d.by d.place) ≡ d
delivery_back_ok d h =
    elim d.by as (λ (by : Option ℕ). delivery_back (delivery_of by d.place) ≡ record { by = by; place = d.place }) [ None ↦ refl | Some node ↦ refl ]
