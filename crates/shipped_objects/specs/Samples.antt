-- What a sample makes of an event.
use Rattle.std.specs.Prelude.{◌≡◌, Bool, true, false}
use Rattle.event_core.specs.Content.{Content}
use Rattle.plug_in.specs.declared.step.Intercepted.{Intercepted}
use Rattle.plug_in.specs.declared.step.Intercepted.TheVariants.{Dropped, Keep}

-- it is dropped, or goes on as it is
abbrev pub IsSampled : Bool → Content → Intercepted → Type 0
IsSampled true event answer = answer ≡ Dropped
IsSampled false event answer = answer ≡ Keep event
