-- What becomes of a batch.
use Rattle.std.specs.Prelude.{◌≡◌, ◌<◌, ◌≤◌, ◌⊎◌, ℕ, List, All, filter, Option, Some, None, Result, Ok, Err}
use Rattle.std.specs.Prelude.{Bool, true, false, if◌then◌else◌}
use Rattle.event_core.specs.Content.{Content, Header}
use Rattle.event_core.specs.Journal.{is_among}
use Rattle.channel_face.specs.declared.replies.BeginRefused.TheVariants as begin
use Rattle.channel_face.specs.declared.replies.PutRefused.TheVariants as put
use Rattle.channel_face.specs.declared.replies.FaceRefused.{FaceRefused}
use Rattle.channel_face.specs.declared.replies.FaceRefused.TheVariants.{Begin, Put}
use Rattle.selectors.specs.Choices.{required, optional}
use Rattle.selectors.specs.declared.selector.Selector.{Selector}
use Rattle.selectors.specs.declared.selector.Selector.TheVariants.{Replicating, Multiplexing}
use Rattle.source_put.specs.declared.chain.Stopped.{Stopped}
use Rattle.source_put.specs.declared.chain.Stopped.TheVariants as stop
use Rattle.source_put.specs.declared.put.Refusal.{Refusal}
use Rattle.source_put.specs.declared.intake.Verdict.{Verdict}
use Rattle.source_put.specs.declared.intake.Verdict.TheVariants.{Taken, Refused, TooLarge, NoMemory}
use Rattle.source_put.specs.Tries.{GivesBoth, Giving}

-- each channel that a selector names is one of so many
abbrev pub NamesBelow : Selector → ℕ → Type 0
NamesBelow (Replicating channels others) count =
    (channels ≤ count) × All (λ place. place < count) others.items
NamesBelow (Multiplexing header mapping default others) count =
    All (λ pair. All (λ place. place < count) pair.1.items) mapping.items
    × All (λ place. place < count) default.items
    × All (λ pair. All (λ place. place < count) pair.1.items) others.items

-- the events of a channel: those whose choice has it
abbrev pub events_for : (List Header → List ℕ) → List Content → ℕ → List Content
events_for chosen events channel = filter (λ e. is_among (chosen e.headers) channel) events

-- the channel had no memory
abbrev pub is_want : FaceRefused → Bool
is_want (Begin begin.NoMemory) = true
is_want (Put put.NoMemory) = true
is_want other = false

-- by the first channel that refused events which it has to take
abbrev pub verdict_of : Option Refusal → Verdict
verdict_of None = Taken
verdict_of (Some refusal) = if is_want refusal.cause then NoMemory else Refused refusal.channel refusal.cause

module _ {F : Type 0} (Given : Giving F) (selector : Selector) where
  -- the events that a choice has for each channel
  abbrev pub theirs : (Selector → List Header → List ℕ) → List Content → ℕ → List Content
  theirs choice events = events_for (choice selector) events

  -- each channel is given the events whose choice has it
  abbrev pub Gives : List Content → List F → List F → Verdict → Type 0
  Gives events old new verdict =
      (refusal : Option Refusal)
      × GivesBoth Given (theirs required events) (theirs optional events) old new refusal
      × (verdict ≡ verdict_of refusal)

  -- by what the chain made of the batch; out of memory may come before any channel is tried
  abbrev pub Judges : Result (List Content) Stopped → List F → List F → Verdict → Type 0
  Judges (Ok events) old new verdict = Gives events old new verdict ⊎ ((verdict ≡ NoMemory) × (new ≡ old))
  Judges (Err (stop.TooLarge size)) old new verdict = (verdict ≡ TooLarge size) × (new ≡ old)
  Judges (Err stop.NoMemory) old new verdict = (verdict ≡ NoMemory) × (new ≡ old)
