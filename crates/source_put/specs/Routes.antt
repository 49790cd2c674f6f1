-- Where the batches of a source go, and what becomes of one.
use Rattle.std.specs.Prelude.{ℕ, List, slice_set}
use Rattle.std.specs.Borrow.{Lends, Fml, RattleType, MutBor}
use Rattle.event_core.specs.Content.{Content}
use Rattle.selectors.specs.declared.selector.Selector.{Selector}
use Rattle.source_put.specs.declared.chain.HostNames.{HostNames}
use Rattle.source_put.specs.declared.chain.ChainLink.{ChainLink}
use Rattle.source_put.specs.declared.intake.Intake.{Intake}
use Rattle.source_put.specs.declared.intake.Verdict.{Verdict}
use Rattle.source_put.specs.contracts.intake.Intake.{the_row}
use Rattle.source_put.specs.Chains.{Intercepts, Meaning, Outcome}
use Rattle.source_put.specs.Tries.{Giving}
use Rattle.source_put.specs.Accepts.{Judges}

-- the interceptors that a batch passes, and the channels after them
pub record Route (F B : Type 0) : Type 0 where
  pub links : List (ChainLink B)
  pub ports : List F

abbrev pub route_of : {F B : Type 0} → Intake F B → Route F B
route_of intake = record { links = intake.chain.links.items; ports = intake.ports }

module _ {F : Type 0} (Given : Giving F) (selector : Selector) {B : Type 0} (Means : Meaning B) where
  -- The chain is applied to the batch, and each channel is given the events whose choice has it.
  abbrev pub Accepts : ℕ → HostNames → Route F B → List Content → Verdict → Route F B → Type 0
  Accepts moment host old batch verdict new =
      (made : Outcome) × Intercepts Means moment host old.links batch made new.links
      × Judges Given selector made old.ports new.ports verdict

-- the intake with another channel at a place
abbrev pub with_port : {F B : Type 0} → Intake F B → ℕ → F → Intake F B
with_port intake place port = record intake { ports = slice_set intake.ports place port }

-- once the loan of a channel ends, what was left after it is in its place, and all else is the same
abbrev pub LendsPort : (F B : RattleType) → MutBor (Intake F.Denot B.Denot) → ℕ → MutBor F.Denot → Fml
LendsPort F B intake place port = Lends (the_row F B) F intake port (with_port intake.now place)
