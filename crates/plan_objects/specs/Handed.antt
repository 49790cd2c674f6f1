-- When an object is added to those that are handed in.
use Rattle.std.specs.Prelude.{◌≡◌, ◌<◌, ◌≤◌, ◌++◌, ◌∷◌, [], ℕ, List, Result, Ok, Err}
use Rattle.plan_objects.specs.declared.named.Named.{Named}
use Rattle.plan_objects.specs.declared.handed.PluginsRefused.{PluginsRefused}
use Rattle.plan_objects.specs.declared.handed.PluginsRefused.TheVariants.{TooMany, NoMemory}

-- fewer than 64 are held, so that one more may be, or as many
abbrev pub IsRoom : ℕ → Result (Unit {0}) PluginsRefused → Type 0
IsRoom held (Ok done) = held < 64
IsRoom held (Err refused) = (refused ≡ TooMany) × (64 ≤ held)

-- An object comes after those of its kind, where fewer than 64 are held in all. A refusal leaves them.
abbrev pub Adds : {T : Type 0} → Named T → ℕ → Result (Unit {0}) PluginsRefused → List (Named T) → List (Named T) → Type 0
Adds given held (Ok done) old new = (held < 64) × (new ≡ old ++ given ∷ [])
Adds given held (Err TooMany) old new = (64 ≤ held) × (new ≡ old)
Adds given held (Err NoMemory) old new = (held < 64) × (new ≡ old)
