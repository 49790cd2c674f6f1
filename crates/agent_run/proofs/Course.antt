-- The course of a run's channels, from their opening to their closing.
use Rattle.std.proofs.Common.{◌≡◌, ◌∙◌, ◌<◌, ℕ, List, [], ◌∷◌, Bool, Option, String, length, map, get_or, ap, arith}
use Rattle.std.proofs.lemmas.List.{get_or-map, length-map}
use Rattle.std.specs.declared.alloc.Global.{Global}
use Rattle.channel_face.specs.History.{Opening, Step}
use Rattle.channel_face.specs.Machine.{State, is_some_of}
use Rattle.channel_face.specs.declared.replies.Counts.{Counts}
use Rattle.agent_plan.specs.declared.plan.ChannelPlan.{ChannelPlan}
use Rattle.flume_host.specs.Told.{Told}
use Rattle.file_channel.specs.Stands.{FileState, StandsOver}
use Rattle.shared_channel.specs.Passes.{Known}
use Rattle.sink_worker.specs.declared.worker.SinkWorker.{SinkWorker}
use Rattle.two_channels.specs.declared.shared.EitherShared.{EitherShared}
use Rattle.agent_end.specs.declared.draining.ChannelDrain.{ChannelDrain}
use Rattle.channel_wishes.specs.Openings.{HostTold}
use Rattle.channel_wishes.specs.Opened.{AreOpened}
use Rattle.channel_wishes.specs.declared.opened.OpenedChannel.{OpenedChannel}
use Rattle.channel_wishes.specs.declared.wish.ChannelWish.{ChannelWish}
use Rattle.run_tracks.specs.Closes.{IsClosed}
use Rattle.run_tracks.specs.Homes.{EachTook}
use Rattle.run_tracks.specs.Stops.{IsKept, IsMended}
use Rattle.run_settling.specs.Draining.{GoesOn}
use Rattle.run_opening.specs.Keepers.{closes}
use Rattle.run_opening.specs.Lists.{NamesOf}
use Rattle.run_settling.specs.Settling.{AreSettled}
use Rattle.run_opening.specs.Wishes.{AreWishes}
use Rattle.run_settling.specs.declared.at_home.AtHome.{AtHome}
use Rattle.run_settling.specs.declared.settling.Settled.{Settled}
use Rattle.agent_run.proofs.Began.{opened_many}
use Rattle.run_settling.proofs.Chaining.{each_goes_then}
use Rattle.agent_run.proofs.Left.{closed_long}
use Rattle.run_opening.proofs.Resting.{names_many}
use Rattle.run_working.proofs.Stopping.{counts_silent, keeps_silent, mends_silent}

-- what is at a place of a list, where there is something
pub there : {X : Type 0} (xs : List X) (i : ℕ) → i < length xs → X
there [] i below = absurd (omega (arith, below))
there (x ∷ xs) i below = x

-- what a channel on a disk stands for, and whether its disk shows its contents
abbrev pub Stands : {D : Type 0} → (D → Option Told) → (D → ℕ) → D × FileState → Opening → List Step → Type 0
Stands told faults c = StandsOver (told c.0) (faults c.0) c.1

-- whether the disk of a channel shows its contents
abbrev pub tells_of : {D : Type 0} → (D → Option Told) → D × FileState → Bool
tells_of told c = is_some_of (told c.0)

module _ {D M S C : Type 0} (told : D → Option Told) (faults : D → ℕ) (moment : D × FileState → ℕ) (laid : D × FileState → State → Type 0) (pruned : D × FileState → Type 0) (memory : M → Opening → List Step → Type 0) (tells' : M → Bool)
    (Drained : SinkWorker AtHome S C → List Known → ChannelDrain → S → List Known → Type 0) (plans : List ChannelPlan) where
  -- Channels that were wanted were opened, shared among workers, and settled after them.
  pub record Course : Type 0 where
    pub uses : List ℕ
    pub wishes : List ChannelWish
    pub wanted : AreWishes uses plans wishes
    pub cs : List (OpenedChannel (D × FileState) M)
    pub before : HostTold
    pub behind : HostTold
    pub opened : AreOpened wishes cs before behind
    pub shares : List (EitherShared (D × FileState) M)
    pub same_shares : shares ≡ map (λ (c : OpenedChannel (D × FileState) M). c.share) cs
    pub firsts : List Known
    pub same_firsts : firsts ≡ map (λ (c : OpenedChannel (D × FileState) M). c.home) cs
    pub homes : List Known
    pub took : EachTook firsts homes
    pub workers : List (SinkWorker AtHome S C)
    pub kept_at_end : List Bool
    pub same_kept : kept_at_end ≡ map (λ (plan : ChannelPlan). closes plan.kind) plans
    pub names : List (String Global × Counts)
    pub named : NamesOf plans names
    pub settled : Settled S (D × FileState) M
    pub settles : AreSettled Drained (IsKept (Stands told faults) (tells_of told) moment laid pruned) (IsMended (Stands told faults) (tells_of told) moment) (IsClosed (Stands told faults) (tells_of told) memory tells') shares homes workers kept_at_end names settled

  module _ (r : Course) where
    -- as many channels were opened as the plan has
    pub cs_many : length r.cs ≡ length plans
    cs_many = opened_many r.wishes r.cs r.before r.behind r.opened ∙ r.wanted.many

    -- as many were shared among the workers
    pub shares_many : length r.shares ≡ length plans
    shares_many = ap length r.same_shares ∙ length-map r.cs (λ (c : OpenedChannel (D × FileState) M). c.share) ∙ cs_many

    -- they have as many passes at home
    pub firsts_many : length r.firsts ≡ length plans
    firsts_many = ap length r.same_firsts ∙ length-map r.cs (λ (c : OpenedChannel (D × FileState) M). c.home) ∙ cs_many

    -- there are as many after the join
    pub homes_many : length r.homes ≡ length plans
    homes_many = r.took.as_many ∙ firsts_many

    -- as many after the drainings
    pub drained_many : length r.settles.drained ≡ length plans
    drained_many = r.settles.goes_on.as_many ∙ homes_many

    -- as many once channels were kept
    pub kept_many : length r.settles.kept ≡ length plans
    kept_many = r.settles.keeps.as_many ∙ drained_many

    -- as many once they were mended
    pub mended_many : length r.settles.mended ≡ length plans
    mended_many = r.settles.mends.as_many ∙ kept_many

    -- as many once their counts were taken
    pub counted_many : length r.settles.counted ≡ length plans
    counted_many = r.settles.counts.as_many ∙ mended_many

    -- as many channels are named in the report
    pub names_are_many : length r.names ≡ length plans
    names_are_many = names_many plans r.names r.named

    -- as many channels were closed
    pub closed_are_many : length r.settled.closed.items ≡ length plans
    closed_are_many =
        closed_long (IsClosed (Stands told faults) (tells_of told) memory tells') r.shares r.settles.counted r.settled.closed.items r.settles.closed ∙ counted_many

    -- the pass at home goes on from the drainings, and from the join
    pub from_drained : (place : ℕ) (d : Known) → place < length plans → GoesOn (get_or r.settles.drained place d) (get_or r.settles.counted place d)
    from_drained place d below =
        let share = there r.shares place (let e = shares_many in omega (arith, below, e)) in
        let name = there r.names place (let e = names_are_many in omega (arith, below, e)) in
        (each_goes_then r.settles.drained r.settles.kept r.settles.counted
        (keeps_silent (D × FileState) M (Stands told faults) (tells_of told) moment laid pruned share r.shares r.kept_at_end r.settles.drained r.settles.kept r.settles.keeps).0
        (each_goes_then r.settles.kept r.settles.mended r.settles.counted
        (mends_silent (D × FileState) M (Stands told faults) (tells_of told) moment share r.shares r.settles.kept r.settles.mended r.settled.mends.items r.settles.mends).0
        (counts_silent name r.settles.mended r.settles.counted r.names r.settled.report.items r.settles.counts).0)).each place d
        (let e = drained_many in omega (arith, below, e))

    -- in the drainings it goes on from the join
    pub from_homes : (place : ℕ) (d : Known) → place < length plans → GoesOn (get_or r.homes place d) (get_or r.settles.drained place d)
    from_homes place d below = r.settles.goes_on.each place d (let e = homes_many in omega (arith, below, e))

    -- its calls begin with what the channel was opened with
    pub base_at : (place : ℕ) (d : Known) (c : OpenedChannel (D × FileState) M) → place < length plans
        → (get_or r.settles.counted place d).view.base ≡ (get_or r.cs place c).home.view.base
    base_at place d c below =
        (from_drained place d below).base ∙ (from_homes place d below).base
        ∙ (r.took.each place d (let e = firsts_many in omega (arith, below, e))).base
        ∙ ap (λ (l : List Known). (get_or l place d).view.base) r.same_firsts
        ∙ ap (λ (p : Known). p.view.base) (get_or-map (λ (o : OpenedChannel (D × FileState) M). o.home) r.cs place c d (let e = cs_many in omega (arith, below, e)))

    -- the channel that is shared at a place is that which was opened there
    pub share_at : (place : ℕ) (s : EitherShared (D × FileState) M) (c : OpenedChannel (D × FileState) M) → place < length plans
        → get_or r.shares place s ≡ (get_or r.cs place c).share
    share_at place s c below =
        ap (λ (l : List (EitherShared (D × FileState) M)). get_or l place s) r.same_shares
        ∙ get_or-map (λ (o : OpenedChannel (D × FileState) M). o.share) r.cs place c s (let e = cs_many in omega (arith, below, e))
