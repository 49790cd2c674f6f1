-- What channels a run wants.
use Rattle.std.specs.Prelude.{◌≡◌, ◌<◌, ℕ, List, length, slice_index_or, string_bytes}
use Rattle.channel_wishes.specs.declared.wish.ChannelPlace.{ChannelPlace}
use Rattle.channel_wishes.specs.declared.wish.ChannelPlace.TheVariants.{Folder, Memory}
use Rattle.channel_wishes.specs.declared.wish.ChannelWish.{ChannelWish}
use Rattle.agent_plan.specs.declared.plan.ChannelKind.{ChannelKind}
use Rattle.agent_plan.specs.declared.plan.ChannelKind.TheVariants.{File, Memory as InMemory}
use Rattle.agent_plan.specs.declared.plan.ChannelPlan.{ChannelPlan}
use Rattle.run_tracks.specs.Deals.{count_of}

-- it keeps its events where the plan says
abbrev pub IsPlaceOf : ChannelKind → ChannelPlace → Type 0
IsPlaceOf InMemory Memory = Unit {0}
IsPlaceOf InMemory (Folder path) = ⊥
IsPlaceOf (File folder max_file interval on_close) Memory = ⊥
IsPlaceOf (File folder max_file interval on_close) (Folder path) = string_bytes path ≡ string_bytes folder

-- the length from which on a file is followed by another; 0 for a channel in memory
abbrev pub IsFileOf : ChannelKind → ℕ → Type 0
IsFileOf InMemory length = length ≡ 0
IsFileOf (File folder max_file interval on_close) length = length ≡ max_file

-- the wish for a channel of the plan
pub record IsWish (plan : ChannelPlan) (many : ℕ) (wish : ChannelWish) : Type 0 where
  pub place : IsPlaceOf plan.kind wish.place
  pub capacity : wish.limits.capacity ≡ plan.capacity
  pub txn_capacity : wish.limits.txn_capacity ≡ plan.txn_capacity
  pub file : IsFileOf plan.kind wish.limits.max_file
  pub users : wish.users ≡ many

-- those for all, in order, each with as many users as it is used
pub record AreWishes (uses : List ℕ) (plans : List ChannelPlan) (wishes : List ChannelWish) : Type 0 where
  pub many : length wishes ≡ length plans
  pub each : (place : ℕ) (plan : ChannelPlan) (wish : ChannelWish) → place < length plans
      → IsWish (slice_index_or plans place plan) (count_of place uses) (slice_index_or wishes place wish)
      × (count_of place uses < 4_294_967_295)
