-- What a run of an agent is made of, before anything of it is opened.
use Rattle.std.specs.Prelude.{◌≡◌, ◌⊎◌, ◌++◌, ℕ, List, All, length, map, flat_map, Option, Ok}
use Rattle.std.specs.List.{AllZip}
use Rattle.flume_host.specs.Causes.{Rose}
use Rattle.flume_host.specs.HostState.{HostState}
use Rattle.flume_host.specs.declared.names.NameRefused.{NameRefused}
use Rattle.flume_host.specs.declared.names.NameRefused.TheVariants.{Failed, NoMemory}
use Rattle.prop_text.specs.Pairs.{Pair}
use Rattle.agent_plan.specs.Plans.{Plans}
use Rattle.agent_plan.specs.declared.plan.ChannelPlan.{ChannelPlan}
use Rattle.agent_plan.specs.declared.plan.Plan.{Plan}
use Rattle.grouped_sinks.specs.declared.row.SinkRow.{SinkRow}
use Rattle.agent_words.specs.declared.error.RunError.{RunError}
use Rattle.agent_words.specs.declared.error.RunError.TheVariants as errors
use Rattle.source_put.specs.declared.chain.HostNames.{HostNames}
use Rattle.agent_outside.specs.Ends.{ListensAt, listeners_of, places}
use Rattle.agent_outside.specs.Names.{AreTold}
use Rattle.agent_drafts.specs.Drafts.{AreDrafts, TakesLines, inputs_of}
use Rattle.agent_drafts.specs.Fits.{IsFit}
use Rattle.run_opening.specs.Keepers.{closes, keep_of, keeps_of}
use Rattle.run_opening.specs.Labels.{AreLabels, users_of}
use Rattle.run_opening.specs.Staff.{IsRoomy, seat_channels}
use Rattle.run_opening.specs.Wishes.{AreWishes}
use Rattle.run_opening.specs.declared.preparing.Prepared.{Prepared}
use Rattle.run_opening.specs.declared.seats.KeepSeat.{KeepSeat}
use Rattle.run_opening.specs.declared.seats.Seat.{Seat}

-- what is said where something was not handed out by its name
abbrev pub error_of : NameRefused → RunError
error_of Failed = errors.Fault
error_of NoMemory = errors.NoMemory

-- it is a plan that some properties text may have
abbrev pub IsPlanned : Plan → Type 0
IsPlanned plan = (pairs : List Pair) × (agent : List ℕ) × Plans pairs agent (Ok plan)

-- the channels that workers use, each as often as it is used: those that are kept, those of the rows of sinks, of the listeners and of the
-- lines
abbrev pub uses_of : {K C : Type 0} → List (KeepSeat C) → List SinkRow → List (Seat K C) → List (Seat K C) → List ℕ
uses_of {K} {C} keepers rows listeners lines =
    map (λ (seat : KeepSeat C). seat.channel) keepers
    ++ (map (λ (row : SinkRow). row.channel) rows ++ (flat_map seat_channels listeners ++ flat_map seat_channels lines))

-- the worker has all that it asks for, over so many channels, and room for its passes
abbrev pub IsSeat : {K C : Type 0} → ℕ → Seat K C → Type 0
IsSeat count seat = IsFit count seat.draft × IsRoomy seat

-- All that a run of this plan, with these rows of sinks, needs before anything is opened.
pub record IsPrepared {K C : Type 0} (plan : Plan) (rows : List SinkRow) (p : Prepared K C) : Type 0 where
  pub wishes : AreWishes (uses_of p.keepers.items rows p.listeners.items p.lines.items) plan.channels.items p.wishes.items
  pub keepers : map keep_of p.keepers.items ≡ keeps_of plan.channels.items
  pub closes : p.closes.items ≡ map (λ (channel : ChannelPlan). closes channel.kind) plan.channels.items
  pub listeners : All (IsSeat (length plan.channels.items)) p.listeners.items
  pub lines : All (IsSeat (length plan.channels.items)) p.lines.items
  pub lined : All (λ seat. TakesLines seat.draft.rules) p.lines.items
  pub places : p.places.items ≡ places 0 plan.sources.items
  pub sources : map (λ (seat : Seat K C). seat.draft.source) p.listeners.items ≡ p.places.items
  pub listen : All (ListensAt plan.sources.items) p.places.items
  pub clocks : length p.clocks.items ≡ length rows
  pub labels : AreLabels (users_of plan p.keepers.items rows p.listeners.items p.lines.items) 0 plan.channels.items p.labels.items

-- Its workers are those that the plan has: drafts of as many session workers of each source, in order, whose interceptors that were handed
-- in are these, and whose others are told of the host by this name and address.
pub record IsDrafted {K C : Type 0} (given : List K) (name address : Option (List ℕ)) (plan : Plan) (p : Prepared K C) : Type 0 where
  pub names : List HostNames
  pub told : AllZip (AreTold name address) plan.sources.items names
  pub listeners : AreDrafts listeners_of plan.sources.items given names (map (λ (seat : Seat K C). seat.draft) p.listeners.items)
  pub lines : AreDrafts inputs_of plan.sources.items given names (map (λ (seat : Seat K C). seat.draft) p.lines.items)

-- Why a run could not be prepared: a fault outside that was counted, or out of memory. Nothing but the count of faults changed.
pub record IsUnprepared (error : RunError) (old new : HostState) : Type 0 where
  pub why : ((error ≡ errors.Fault) × Rose old.faults new.faults) ⊎ ((error ≡ errors.NoMemory) × (new.faults ≡ old.faults))
  pub state : new ≡ record old { faults = new.faults }
