-- Where the lines of a session go.
use Rattle.std.specs.Prelude.{◌≡◌, ◌⊎◌, ℕ, List, [], ◌∷◌, Option}
use Rattle.flume_host.specs.Series.{Gives}
use Rattle.flume_host.specs.Links.{LinkTold}
use Rattle.selectors.specs.declared.selector.Selector.{Selector}
use Rattle.source_put.specs.declared.chain.HostNames.{HostNames}
use Rattle.source_put.specs.declared.intake.Intake.{Intake}
use Rattle.source_put.specs.Into.{Into, into_of}
use Rattle.source_put.specs.declared.intake.Verdict.{Verdict}
use Rattle.source_put.specs.declared.intake.Verdict.TheVariants.{NoMemory}
use Rattle.source_put.specs.Chains.{Meaning}
use Rattle.source_put.specs.Tries.{Giving}
use Rattle.source_put.specs.Routes.{Accepts}
use Rattle.netcat_source.specs.Judged.{Judged, event_of}

module _ {F : Type 0} (Given : Giving F) (selector : Selector) {B : Type 0} (Means : Meaning B)
    (host : HostNames) where
  -- The batch of a line's one event is accepted or refused at the next moment; or there is no memory for it.
  abbrev pub TakesLine : Into F B → List ℕ → Verdict → Into F B → Type 0
  TakesLine old line verdict new =
      ((moment : ℕ) × Gives moment old.moments new.moments
      × Accepts Given selector Means moment host old.route (event_of line ∷ []) verdict new.route)
      ⊎ ((verdict ≡ NoMemory) × (new ≡ old))

-- lines are taken one after another
abbrev pub TakesAll : {S : Type 0} → (S → List ℕ → Verdict → S → Type 0) → S → List Judged → S → Type 0
TakesAll Takes old [] new = new ≡ old
TakesAll {S} Takes old (j ∷ done) new =
    (next : S) × Takes old j.line j.verdict next × TakesAll Takes next done new

-- a session's two sides: where its lines go, and what its link shows
pub record Sides (S : Type 0) : Type 0 where
  pub into : S
  pub told : Option LinkTold

abbrev pub sides : {F B : Type 0} → Intake F B → Option (ℕ → ℕ) → Option LinkTold → Sides (Into F B)
sides intake moments told = record { into = into_of intake moments; told = told }
