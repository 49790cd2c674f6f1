-- Where the events of a session go.
use Rattle.std.specs.Prelude.{ℕ, Option}
use Rattle.source_put.specs.declared.intake.Intake.{Intake}
use Rattle.source_put.specs.Routes.{Route, route_of}

-- the interceptors and the channels of a source, and the moments that are to come, where they are told
pub record Into (F B : Type 0) : Type 0 where
  pub route : Route F B
  pub moments : Option (ℕ → ℕ)

abbrev pub into_of : {F B : Type 0} → Intake F B → Option (ℕ → ℕ) → Into F B
into_of intake moments = record { route = route_of intake; moments = moments }
