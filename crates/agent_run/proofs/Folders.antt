-- What the folders of a run's channels hold after it.
use Rattle.std.proofs.Common.{◌≡◌, ◌∙◌, ◌<◌, ℕ, List, All, Bool, true, false, Ok, Option, Some, length, map, get_or, sym, ap, subst, arith, string_bytes}
use Rattle.std.specs.List.{AllByRecursion}
use Rattle.std.proofs.lemmas.List.{get_or-map, get_or_default}
use Rattle.channel_face.specs.History.{Opening, Shows, Step}
use Rattle.channel_face.specs.Machine.{State}
use Rattle.channel_face.specs.declared.replies.Limits.{Limits}
use Rattle.channel_laws.proofs.Until.{counted_calls_leave}
use Rattle.agent_plan.specs.declared.plan.ChannelKind.{ChannelKind}
use Rattle.agent_plan.specs.declared.plan.ChannelKind.TheVariants.{File, Memory as InMemory}
use Rattle.agent_plan.specs.declared.plan.ChannelPlan.{ChannelPlan}
use Rattle.flume_host.specs.Told.{Told}
use Rattle.file_channel.specs.Stands.{FileState, StandsOver}
use Rattle.channel_writing.specs.Touches.{Rests}
use Rattle.shared_channel.specs.Calls.{state_seen}
use Rattle.shared_channel.specs.Passes.{Known}
use Rattle.sink_worker.specs.declared.worker.SinkWorker.{SinkWorker}
use Rattle.two_channels.specs.Shares.{IsDisk, pass_of}
use Rattle.two_channels.specs.declared.shared.EitherClosed.{EitherClosed}
use Rattle.two_channels.specs.declared.shared.EitherClosed.TheVariants as closed
use Rattle.two_channels.specs.declared.shared.EitherShared.{EitherShared}
use Rattle.agent_end.specs.declared.draining.ChannelDrain.{ChannelDrain}
use Rattle.agent_channels.specs.Closings.{DisksBack, backs_of}
use Rattle.channel_wishes.specs.Openings.{BeginsOnDisk, HostTold}
use Rattle.channel_wishes.specs.declared.wish.ChannelPlace.{ChannelPlace}
use Rattle.channel_wishes.specs.declared.wish.ChannelPlace.TheVariants.{Memory, Folder}
use Rattle.channel_wishes.specs.declared.wish.ChannelWish.{ChannelWish}
use Rattle.channel_lock.specs.Turns.{HasAll}
use Rattle.run_tracks.specs.Closes.{IsClosed}
use Rattle.run_tracks.specs.Stops.{IsKept, KeptIf}
use Rattle.agent_run.specs.FoldersTold.{EndsKept, FolderRan, FolderTold, FoldersAreApart, FoldersRan, FoldersTold, file_of, folder_of, limits_of}
use Rattle.run_opening.specs.Keepers.{closes}
use Rattle.agent_run.specs.RolledTold.{CountsMore}
use Rattle.agent_run.specs.Run.{IsAtRest}
use Rattle.run_opening.specs.Wishes.{IsFileOf, IsPlaceOf, IsWish}
use Rattle.run_settling.specs.declared.at_home.AtHome.{AtHome}
use Rattle.agent_run.proofs.Began.{IsPlacedIn, began_at}
use Rattle.run_settling.proofs.Chaining.{all_go_on}
use Rattle.agent_run.proofs.Course.{Course, Stands, base_at, closed_are_many, counted_many, cs_many, drained_many, homes_many, kept_many, mended_many, names_are_many, share_at, shares_many, tells_of, there}
use Rattle.agent_run.proofs.Kept.{ends_kept}
use Rattle.agent_run.proofs.Left.{IsDiskLeft, at_rest, closed_at, disk_left, finals_are, told_at}
use Rattle.agent_run.proofs.Mended.{whole_at}
use Rattle.agent_run.proofs.WellEnded.{IsWell}

-- ---- folders of a plan's channels and of what was wanted for them

placed_in : (kind : ChannelKind) (place : ChannelPlace) (path : List ℕ) → IsPlaceOf kind place → folder_of kind ≡ Some path → IsPlacedIn place path
placed_in InMemory place path is named = absurd (cc)
placed_in (File folder max_file interval on_close) Memory path is named = absurd is
placed_in (File folder max_file interval on_close) (Folder wanted) path is named = let same : string_bytes folder ≡ path = cc in is ∙ same

-- where a channel is wanted in a folder, the plan's channel is in that folder
pub named_by : (kind : ChannelKind) (place : ChannelPlace) (path : List ℕ) → IsPlaceOf kind place → IsPlacedIn place path → folder_of kind ≡ Some path
named_by InMemory Memory path is placed = absurd placed
named_by InMemory (Folder wanted) path is placed = absurd is
named_by (File folder max_file interval on_close) Memory path is placed = absurd is
named_by (File folder max_file interval on_close) (Folder wanted) path is placed = ap Some (sym is ∙ placed)

file_is : (kind : ChannelKind) (length : ℕ) → IsFileOf kind length → length ≡ file_of kind
file_is InMemory length is = is
file_is (File folder max_file interval on_close) length is = is

limits_are : (plan : ChannelPlan) (many : ℕ) (wish : ChannelWish) → IsWish plan many wish → wish.limits ≡ limits_of plan
limits_are plan many wish is =
    let file = file_is plan.kind wish.limits.max_file is.file in
    λ i. record { capacity = is.capacity i; txn_capacity = is.txn_capacity i; max_file = file i }

module _ {D M S C : Type 0} (told : D → Option Told) (faults : D → ℕ) (moment : D × FileState → ℕ) (laid : D × FileState → State → Type 0) (pruned : D × FileState → Type 0) (memory : M → Opening → List Step → Type 0) (tells' : M → Bool)
    (Drained : SinkWorker AtHome S C → List Known → ChannelDrain → S → List Known → Type 0) (plans : List ChannelPlan) where
  -- what a closed channel on a disk says of its folder
  folder_ran : (limits : Limits) (before : Option Told) (p : Known) (e : EitherClosed (D × FileState) M) → (left : IsDiskLeft (Stands told faults) (tells_of told) memory tells' p e)
      → BeginsOnDisk limits before p.view.base → FolderRan limits before (told left.of.channel.0) (at_rest p)
  folder_ran limits before p e left begins =
      let c = left.of.channel in
      let all = left.stands in
      record {
        begins = begins;
        tells = sym all.1.tells ∙ begins.tells;
        run = left.run;
        images = counted_calls_leave (told c.0) (faults c.0) c.1 p.view.base p.view.seen (all.0, all.1, all.2);
      }

  -- and one that was left whole
  folder_left : (closes : Bool) (p : Known) (e : EitherClosed (D × FileState) M) → (left : IsDiskLeft (Stands told faults) (tells_of told) memory tells' p e)
      → (state_seen p.view).broken ≡ false → IsAtRest told faults e → (closes ≡ true → CountsMore (length p.view.seen) → EndsKept p.view.seen)
      → FolderTold closes (told left.of.channel.0) (at_rest p)
  folder_left closes p e left whole rests kept =
      let c = left.of.channel in
      let all = left.stands in
      let rest : Shows (StandsOver (told c.0) (faults c.0) c.1) (Rests (told c.0)) = subst (IsAtRest told faults) left.same rests in
      record { whole = whole; rests = subst (Rests (told c.0)) all.3.state (rest p.view.base all.0 all.1); kept = kept }

  module _ (r : Course told faults moment laid pruned memory tells' Drained plans) where
    -- no channel on a disk was left broken
    whole_left : AllByRecursion IsWell r.settled.mends.items → (place : ℕ) (d : Known) → place < length plans
        → ((s : EitherShared (D × FileState) M) → IsDisk (get_or r.shares place s)) → (state_seen (get_or r.settles.counted place d).view).broken ≡ false
    whole_left well place d below on =
        let between : place < length r.settles.kept = let e = kept_many told faults moment laid pruned memory tells' Drained plans r in omega (arith, below, e) in
        let mid : place < length r.settles.mended = let e = mended_many told faults moment laid pruned memory tells' Drained plans r in omega (arith, below, e) in
        let s = there r.shares place (let e = shares_many told faults moment laid pruned memory tells' Drained plans r in omega (arith, below, e)) in
        let name = there r.names place (let e = names_are_many told faults moment laid pruned memory tells' Drained plans r in omega (arith, below, e)) in
        ap (λ (p : Known). (state_seen p.view).broken) (r.settles.counts.each place d d name name mid).pass
        ∙ whole_at (Stands told faults) (tells_of told) moment r.shares r.settles.kept r.settles.mended r.settled.mends.items r.settles.mends well place s d between (on s)

    -- a channel on a disk that the plan keeps at the end
    kept_at : All (λ (p : Known). HasAll p.view) r.homes → (place : ℕ) (plan : ChannelPlan) (d : Known) → place < length plans → ((s : EitherShared (D × FileState) M) → IsDisk (get_or r.shares place s))
        → closes (get_or plans place plan).kind ≡ true → CountsMore (length (get_or r.settles.counted place d).view.seen) → EndsKept (get_or r.settles.counted place d).view.seen
    kept_at all place plan d below on closing counted =
        let low : place < length r.settles.drained = let e = drained_many told faults moment laid pruned memory tells' Drained plans r in omega (arith, below, e) in
        let between : place < length r.settles.kept = let e = kept_many told faults moment laid pruned memory tells' Drained plans r in omega (arith, below, e) in
        let mid : place < length r.settles.mended = let e = mended_many told faults moment laid pruned memory tells' Drained plans r in omega (arith, below, e) in
        let s = there r.shares place (let e = shares_many told faults moment laid pruned memory tells' Drained plans r in omega (arith, below, e)) in
        let name = there r.names place (let e = names_are_many told faults moment laid pruned memory tells' Drained plans r in omega (arith, below, e)) in
        let old = get_or r.settles.drained place d in
        let kept = get_or r.settles.kept place d in
        let mended = get_or r.settles.mended place d in
        let closed : get_or r.kept_at_end place false ≡ true =
        ap (λ (l : List Bool). get_or l place false) r.same_kept ∙ get_or-map (λ (p : ChannelPlan). closes p.kind) plans place plan false below ∙ closing in
        let is = subst (λ (b : Bool). KeptIf b (IsKept (Stands told faults) (tells_of told) moment laid pruned (get_or r.shares place s)) old kept) closed (r.settles.keeps.each place s false d d low) in
        let seen : (get_or r.settles.counted place d).view.seen ≡ mended.view.seen = ap (λ (p : Known). p.view.seen) (r.settles.counts.each place d d name name mid).pass in
        subst EndsKept (sym seen)
        (ends_kept (Stands told faults) (tells_of told) moment laid pruned (get_or r.shares place s) old.view kept.view mended.view old.number kept.number (get_or r.settled.mends.items place (Ok false)) (on s)
        (all_go_on r.homes r.settles.drained r.settles.goes_on all place d low) is.keeps (r.settles.mends.each place s d d (Ok false) between).mends
        (subst (λ (h : List Step). CountsMore (length h)) seen counted))

    -- What is so of each closed channel that is on a disk is so of the folder of each channel of the plan.
    at_folder : FoldersAreApart plans → (sunk last : HostTold) → DisksBack (backs_of told faults r.wishes r.settled.closed.items) sunk last
        → (place : ℕ) (plan : ChannelPlan) (final : Known) (path : List ℕ) → place < length plans → folder_of (get_or plans place plan).kind ≡ Some path → (P : Limits → Option Told → Known → Type 0)
        → ((w : ChannelWish) (d : Known) (e : EitherClosed (D × FileState) M) → place < length r.settled.closed.items → ((s : EitherShared (D × FileState) M) → IsDisk (get_or r.shares place s))
        → BeginsOnDisk (get_or r.wishes place w).limits (r.before.folders.disks path) (get_or r.settles.counted place d).view.base
        → (left : IsDiskLeft (Stands told faults) (tells_of told) memory tells' (get_or r.settles.counted place d) (get_or r.settled.closed.items place e))
        → P (get_or r.wishes place w).limits (told left.of.channel.0) (at_rest (get_or r.settles.counted place d)))
        → P (limits_of (get_or plans place plan)) (last.folders.disks path) (get_or (map pass_of r.settled.closed.items) place final)
    at_folder apart sunk last back place plan final path below named P each =
        let ends = r.settled.closed.items in
        let few = closed_are_many told faults moment laid pruned memory tells' Drained plans r in
        let under : place < length ends = omega (arith, below, few) in
        let many = r.wanted.many in
        let wide : place < length r.wishes = omega (arith, below, many) in
        let w = there r.wishes place wide in
        let c = there r.cs place (let e = cs_many told faults moment laid pruned memory tells' Drained plans r in omega (arith, below, e)) in
        let d = there r.homes place (let e = homes_many told faults moment laid pruned memory tells' Drained plans r in omega (arith, below, e)) in
        let s0 = there r.shares place (let e = shares_many told faults moment laid pruned memory tells' Drained plans r in omega (arith, below, e)) in
        let e0 = there ends place under in
        let wish = (r.wanted.each place plan w below).0 in
        let placed = placed_in (get_or plans place plan).kind (get_or r.wishes place w).place path wish.place named in
        let none : (i : ℕ) → i < place → IsPlacedIn (get_or r.wishes i w).place path → ⊥ = λ i low is.
        apart i place plan path low below (named_by (get_or plans i plan).kind (get_or r.wishes i w).place path (r.wanted.each i plan w (omega (arith, low, below))).0.place is) named in
        let began = began_at r.wishes r.cs r.before r.behind r.opened place w c path wide placed none in
        let on : (s : EitherShared (D × FileState) M) → IsDisk (get_or r.shares place s) = λ s. subst IsDisk (sym (share_at told faults moment laid pruned memory tells' Drained plans r place s c below)) began.1 in
        let p = get_or r.settles.counted place d in
        let counts = counted_many told faults moment laid pruned memory tells' Drained plans r in
        let low : place < length r.settles.counted = omega (arith, below, counts) in
        let is = closed_at (IsClosed (Stands told faults) (tells_of told) memory tells') r.shares r.settles.counted ends r.settles.closed place s0 d e0 low in
        let left = disk_left (Stands told faults) (tells_of told) memory tells' (get_or r.shares place s0) p (get_or ends place e0) (on s0) is in
        let here : (e : EitherClosed (D × FileState) M) → get_or ends place e ≡ closed.Disk left.of = λ e. get_or_default ends place e e0 under ∙ left.same in
        let after = back.disks path ∙ told_at told faults r.wishes ends place w left.of path (sunk.folders.disks path) wide under here placed none in
        let limits = limits_are (get_or plans place plan) _ (get_or r.wishes place w) wish in
        let base = base_at told faults moment laid pruned memory tells' Drained plans r place d c below in
        let passes = finals_are (Stands told faults) (tells_of told) memory tells' r.shares r.settles.counted ends r.settles.closed in
        let same : get_or (map pass_of ends) place final ≡ at_rest p =
        ap (λ (l : List Known). get_or l place final) passes ∙ get_or-map at_rest r.settles.counted place d final low in
        let begins = subst (BeginsOnDisk (get_or r.wishes place w).limits (r.before.folders.disks path)) (sym base) began.0 in
        subst (λ (x : Limits × Option Told × Known). P x.0 x.1 x.2) (λ i. (limits i, sym after i, sym same i)) (each w d e0 under on begins left)

    -- so each folder is told of, however the run ended
    pub folders_ran : FoldersAreApart plans → (sunk last : HostTold) → DisksBack (backs_of told faults r.wishes r.settled.closed.items) sunk last
        → FoldersRan plans r.before.folders last.folders (map pass_of r.settled.closed.items)
    folders_ran apart sunk last back place plan final path below named =
        at_folder apart sunk last back place plan final path below named (λ limits after pass. FolderRan limits (r.before.folders.disks path) after pass)
        (λ w d e under on begins left. folder_ran (get_or r.wishes place w).limits (r.before.folders.disks path) (get_or r.settles.counted place d) (get_or r.settled.closed.items place e) left begins)

    -- and where it ended well
    pub folders_told : FoldersAreApart plans → All (λ (p : Known). HasAll p.view) r.homes → AllByRecursion IsWell r.settled.mends.items → All (IsAtRest told faults) r.settled.closed.items → (sunk last : HostTold)
        → DisksBack (backs_of told faults r.wishes r.settled.closed.items) sunk last → FoldersTold plans last.folders (map pass_of r.settled.closed.items)
    folders_told apart full well rests sunk last back place plan final path below named =
        at_folder apart sunk last back place plan final path below named (λ limits after pass. FolderTold (closes (get_or plans place plan).kind) after pass)
        (λ w d e under on begins left. folder_left (closes (get_or plans place plan).kind) (get_or r.settles.counted place d) (get_or r.settled.closed.items place e) left (whole_left well place d below on)
        (rests place e under) (kept_at full place plan d below on))
