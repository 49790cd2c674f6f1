-- What a draft of a source has of what its worker asks for.
use Rattle.std.specs.Prelude.{◌<◌, ◌^◌, ℕ, List, All, length, Ok}
use Rattle.prop_text.specs.Pairs.{Pair}
use Rattle.agent_plan.specs.declared.plan.Plan.{Plan}
use Rattle.agent_plan.specs.Plans.{Plans}
use Rattle.source_put.specs.Accepts.{NamesBelow}
use Rattle.source_put.specs.declared.chain.HostNames.{HostNames}
use Rattle.source_worker.specs.Workers.{HasLimit}
use Rattle.agent_drafts.specs.declared.draft.SourceDraft.{SourceDraft}
use Rattle.agent_drafts.specs.Drafts.{IsDraftAt}

-- Its limit of lines, if any, is an allowed one, its channels are some of so many, and its selector names its channels.
pub record IsFit {B : Type 0} (count : ℕ) (draft : SourceDraft B) : Type 0 where
  pub max : HasLimit draft.rules
  pub few : length draft.channels.items < 2 ^ 32
  pub there : All (λ place. place < count) draft.channels.items
  pub named : NamesBelow draft.selector (length draft.channels.items)

-- So is each draft of a source of a plan that may be answered, over the plan's channels.
abbrev pub DraftsFit : Type 0 → Type 0
DraftsFit B =
    (pairs : List Pair) (agent : List ℕ) (plan : Plan) → Plans pairs agent (Ok plan)
    → (objects : List B) (names : List HostNames) (draft : SourceDraft B) → IsDraftAt plan.sources.items objects names draft
    → IsFit (length plan.channels.items) draft
