-- What a refusal leaves of the folders.
use Rattle.std.proofs.Common.{◌≡◌, ◌∙◌, ◌<◌, ◌++◌, ◌||◌, ◌⊎◌, inl, inr, ℕ, zero, suc, List, [], ◌∷◌, Bool, true, false, cond, Option, Some, length, get_or, take, bytes_eq, refl, sym, ap, subst, true≢false, arith, string_bytes}
use Rattle.flume_host.specs.HostState.{Folders}
use Rattle.flume_host.specs.Rolled.{Rolled, opened}
use Rattle.flume_host.specs.Told.{Tells, Told, WhereTold}
use Rattle.channel_face.specs.declared.replies.OpenCause.{OpenCause}
use Rattle.channel_face.specs.declared.replies.OpenCause.TheVariants as causes
use Rattle.channel_writing.specs.Folders.{AreSame, OpensFrom, Refuses as FolderRefuses, StaysAs}
use Rattle.agent_plan.specs.declared.plan.ChannelPlan.{ChannelPlan}
use Rattle.agent_plan.specs.declared.plan.Plan.{Plan}
use Rattle.agent_plan.specs.declared.plan.SinkPlan.{SinkPlan}
use Rattle.channel_wishes.specs.Openings.{HostTold, Refuses}
use Rattle.agent_channels.specs.Several.{RefusesAt}
use Rattle.channel_wishes.specs.declared.wish.ChannelPlace.{ChannelPlace}
use Rattle.channel_wishes.specs.declared.wish.ChannelPlace.TheVariants as place
use Rattle.channel_wishes.specs.declared.wish.ChannelWish.{ChannelWish}
use Rattle.agent_commands.specs.Stored.{IsOfFolder}
use Rattle.agent_outside.specs.Backs.{is_among}
use Rattle.agent_outside.specs.Sinks.{folder_of, folders_of}
use Rattle.agent_run.specs.FoldersTold.{FoldersAreApart, folder_of as channel_folder}
use Rattle.agent_run.specs.NotBegun.{ChannelNotOpened, FolderIsCause, IsCauseStatus, IsNoFolder, IsRollSpared, IsRunRefused, IsSameDisk, LeavesFolders, OutsideNotOpened}
use Rattle.run_opening.specs.Wishes.{AreWishes}
use Rattle.agent_run.proofs.Began.{IsPlacedIn}
use Rattle.agent_run.proofs.Comeback.{AreElse, come_else, come_rolls, disk_then, front_else, refused_else, refused_rolls, wish_there}
use Rattle.agent_run.proofs.Course.{there}
use Rattle.agent_run.proofs.Folders.{named_by}
use Rattle.agent_run.proofs.Refusing.{by_folder, no_folder, outside_status, refused_there}

-- ---- nothing was touched

folders_same : (plan : Plan) (status : ℕ) (f g : Folders) → (status ≡ 4 → ⊥) → g ≡ f → LeavesFolders plan status f g
folders_same plan status f g not same = record {
  others = λ path no. record { told = ap (λ (x : Folders). x.disks path) same; mark = ap (λ (x : Folders). x.disk_opened path) same };
  rolls = λ path. inl (ap (λ (x : Folders). x.rolls path) same);
  held = λ four. absurd (not four);
}

-- ---- a channel was refused

none_wanted : (uses : List ℕ) (plans : List ChannelPlan) (wishes : List ChannelWish) (path : List ℕ) → AreWishes uses plans wishes → IsNoFolder plans path → AreElse path wishes
none_wanted uses plans wishes path are free i w low placed =
    let many = are.many in
    let below : i < length plans = omega (arith, low, many) in
    let p = there plans i below in
    free i p below (named_by (get_or plans i p).kind (get_or wishes i w).place path (are.each i p w below).0.place placed)

stays_same : (cause : OpenCause) (old new : Option Told) → IsOfFolder cause → Tells old new (λ t u. StaysAs cause t.reads u.reads) → Tells old new (λ t u. AreSame t.reads u.reads)
stays_same causes.DiskFault old new of stays = absurd of
stays_same (causes.BadCheck file at) old new of stays = stays
stays_same (causes.BadLog file at) old new of stays = stays
stays_same (causes.OverCapacity count) old new of stays = stays
stays_same (causes.Spent counter) old new of stays = stays
stays_same causes.NoMemory old new of stays = absurd of

-- The channel is in the folder of a path, and that is the cause.
record IsHeldIn (at : ChannelPlace) (capacity : ℕ) (cause : OpenCause) (f g : Folders) : Type 0 where
  path : List ℕ
  placed : IsPlacedIn at path
  holds : WhereTold (f.disks path) (λ t. FolderRefuses t.reads capacity cause)
  reads : Tells (f.disks path) (g.disks path) (λ t u. AreSame t.reads u.reads)
  settled : Tells (f.disks path) (g.disks path) OpensFrom

held_in : (at : ChannelPlace) (capacity : ℕ) (a b : HostTold) (cause : OpenCause) → IsOfFolder cause → Refuses at capacity a b cause → IsHeldIn at capacity cause a.folders b.folders
held_in place.Memory capacity a b cause of refuses = absurd (no_folder cause of (inr refuses.0))
held_in (place.Folder path) capacity a b cause of (inl none) = elim none.why [
  | inl why ↦ absurd (no_folder cause of (inl why.0))
  | inr lack ↦ absurd (no_folder cause of (inr lack))
]
held_in (place.Folder path) capacity a b cause of (inr back) = elim back.folder [
  | inl refused ↦ record {
    path = string_bytes path;
    placed = refl;
    holds = refused.refused.why;
    reads = stays_same cause (a.folders.disks (string_bytes path)) (b.folders.disks (string_bytes path)) of refused.refused.stays;
    settled = elim refused.settled [
      | inl fault ↦ absurd (no_folder cause of (inl fault.0))
      | inr settled ↦ settled
    ];
  }
  | inr closed ↦ absurd (no_folder cause of (inr closed.0))
]

channel_held : (uses : List ℕ) (plans : List ChannelPlan) (wishes : List ChannelWish) (a b : HostTold) (at : ℕ) (cause : OpenCause) → FoldersAreApart plans → AreWishes uses plans wishes → IsOfFolder cause
    → RefusesAt wishes a b at cause → FolderIsCause plans a.folders b.folders
channel_held uses plans wishes a b at cause apart are of r =
    let held = held_in r.wish.place r.wish.limits.capacity r.come r.left cause of r.why in
    let path = held.path in
    let below : at < length plans = refused_there wishes a b at (length plans) cause r are.many in
    let many = are.many in
    let w = r.wish in
    let here : get_or wishes at w ≡ w =
    ap (λ (l : List ChannelWish). get_or l at w) r.split ∙ ap (λ (n : ℕ). get_or (r.front ++ w ∷ r.rest) n w) (sym r.at) ∙ wish_there r.front w r.rest w in
    let in_folder : (d : ChannelPlan) → channel_folder (get_or plans at d).kind ≡ Some path = λ d.
    named_by (get_or plans at d).kind (get_or wishes at w).place path (are.each at d w below).0.place (subst (λ (x : ChannelWish). IsPlacedIn x.place path) (sym here) held.placed) in
    let p = there plans at below in
    let front = front_else path r.front (w ∷ r.rest) (λ i x low placed.
    let long = r.at in
    let under : i < at = omega (arith, low, long) in
    apart i at p path under below
    (named_by (get_or plans i p).kind (get_or wishes i x).place path (are.each i p x (omega (arith, under, below))).0.place
    (subst (λ (l : List ChannelWish). IsPlacedIn (get_or l i x).place path) (sym r.split) placed)) (in_folder p)) in
    let come = come_else path r.front a r.come r.left b front r.others in
    let told = come.0.told in
    let after = come.1.told in
    let capacity : (d : ChannelPlan) → w.limits.capacity ≡ (get_or plans at d).capacity = λ d.
    ap (λ (x : ChannelWish). x.limits.capacity) (sym here) ∙ (are.each at d w below).0.capacity in
    record {
      place = at;
      below = below;
      path = path;
      in_folder = in_folder;
      cause = cause;
      of_folder = of;
      holds = λ d. subst (λ (x : Option Told × ℕ). WhereTold x.0 (λ t. FolderRefuses t.reads x.1 cause)) (λ i. (told i, capacity d i)) held.holds;
      reads = subst (λ (x : Option Told × Option Told). Tells x.0 x.1 (λ t u. AreSame t.reads u.reads)) (λ i. (told i, sym after i)) held.reads;
      settled = subst (λ (x : Option Told × Option Told). Tells x.0 x.1 OpensFrom) (λ i. (told i, sym after i)) held.settled;
    }

channel_folders : (plan : Plan) (status : ℕ) (a b : HostTold) → FoldersAreApart plan.channels.items → ChannelNotOpened plan status a b → LeavesFolders plan status a.folders b.folders
channel_folders plan status a b apart not = record {
  others = λ path no. refused_else path not.wishes a b not.place not.cause (none_wanted not.wanted.0 plan.channels.items not.wishes path not.wanted.1 no) not.refused;
  rolls = λ path. inl (ap (λ (rolls : List ℕ → Option Rolled). rolls path) (refused_rolls not.wishes a b not.place not.cause not.refused).told);
  held = λ four. channel_held not.wanted.0 plan.channels.items not.wishes a b not.place not.cause apart not.wanted.1 (of four not.is) not.refused;
}
  where
    of : status ≡ 4 → IsCauseStatus not.cause status → IsOfFolder not.cause
    of four (inl is) = by_folder not.cause (sym is ∙ four)
    of four (inr five) = absurd (omega (arith, four, five))

-- ---- what is outside the channels was refused

or_assoc : (a b c : Bool) → ((a || b) || c) ≡ (a || (b || c))
or_assoc true b c = refl
or_assoc false b c = refl

among_append : (xs ys : List (List ℕ)) (p : List ℕ) → is_among (xs ++ ys) p ≡ (is_among xs p || is_among ys p)
among_append [] ys p = refl
among_append (x ∷ xs) ys p = ap (λ (b : Bool). bytes_eq x p || b) (among_append xs ys p) ∙ sym (or_assoc (bytes_eq x p) (is_among xs p) (is_among ys p))

or_later : (a b c : Bool) → (b ≡ true → c ≡ true) → (a || b) ≡ true → (a || c) ≡ true
or_later true b c later is = refl
or_later false b c later is = later is

-- a folder of the first sinks is one of the sinks'
among_first : (n : ℕ) (sinks : List SinkPlan) (p : List ℕ) → is_among (folders_of (take n sinks)) p ≡ true → is_among (folders_of sinks) p ≡ true
among_first zero sinks p is = absurd (true≢false (sym is))
among_first (suc n) [] p is = absurd (true≢false (sym is))
among_first (suc n) (sink ∷ sinks) p is =
    let own = folder_of sink.kind in
    among_append own (folders_of sinks) p
    ∙ or_later (is_among own p) (is_among (folders_of (take n sinks)) p) (is_among (folders_of sinks) p) (among_first n sinks p) (sym (among_append own (folders_of (take n sinks)) p) ∙ is)

outside_folders : (plan : Plan) (status : ℕ) (a b : HostTold) → OutsideNotOpened plan status a b → LeavesFolders plan status a.folders b.folders
outside_folders plan status a b not = record {
  others = λ path no.
      let none = none_wanted not.wanted.0 plan.channels.items not.wishes path not.wanted.1 no in
      let come = come_else path not.wishes a not.open_then not.left b none not.channels in
      let between : IsSameDisk path not.open_then.folders not.left.folders = record {
        told = ap (λ (disks : List ℕ → Option Told). disks path) not.refused.folders.disks;
        mark = ap (λ (marks : List ℕ → Bool). marks path) not.refused.folders.disks_opened;
      } in
      disk_then path a.folders not.open_then.folders b.folders come.0 (disk_then path not.open_then.folders not.left.folders b.folders between come.1);
  rolls = λ path. rolls path (is_among (folders_of (take not.refused.sinks plan.sinks.items)) path) refl;
  held = λ four. absurd (here four (outside_status not.why status not.is));
}
  where
    here : status ≡ 4 → (status ≡ 3) ⊎ (status ≡ 5) → ⊥
    here four (inl three) = absurd (omega (arith, four, three))
    here four (inr five) = absurd (omega (arith, four, five))

    first : (path : List ℕ) → not.open_then.folders.rolls path ≡ a.folders.rolls path
    first path = ap (λ (rolls : List ℕ → Option Rolled). rolls path) (come_rolls not.wishes a not.open_then not.left b not.channels).0.told

    last : (path : List ℕ) → b.folders.rolls path ≡ not.left.folders.rolls path
    last path = ap (λ (rolls : List ℕ → Option Rolled). rolls path) (come_rolls not.wishes a not.open_then not.left b not.channels).1.told

    rolls : (path : List ℕ) (among : Bool) → is_among (folders_of (take not.refused.sinks plan.sinks.items)) path ≡ among → IsRollSpared (folders_of plan.sinks.items) a.folders b.folders path
    rolls path true is = inr (
      among_first not.refused.sinks plan.sinks.items path is,
      last path ∙ not.refused.folders.rolls path
          ∙ ap (λ (test : Bool). cond test (opened (not.open_then.folders.rolls path)) (not.open_then.folders.rolls path)) is ∙ ap opened (first path),
    )
    rolls path false not_there = inl (
        last path ∙ not.refused.folders.rolls path
        ∙ ap (λ (test : Bool). cond test (opened (not.open_then.folders.rolls path)) (not.open_then.folders.rolls path)) not_there ∙ first path
        )

-- ---- by any of them

-- a run that was refused has changed no folder but those of its channels, and at 4 one of these is the cause
pub refused_folders : (plan : Plan) (status : ℕ) (a b : HostTold) → FoldersAreApart plan.channels.items → IsRunRefused plan status a b → LeavesFolders plan status a.folders b.folders
refused_folders plan status a b apart (inl not) =
    folders_same plan status a.folders b.folders (λ four. elim not.why [
      | inl three ↦ let e = three.0 in absurd (omega (arith, e, four))
      | inr five ↦ let e = five.0 in absurd (omega (arith, e, four))
    ]) not.folders
refused_folders plan status a b apart (inr (inl not)) = channel_folders plan status a b apart not
refused_folders plan status a b apart (inr (inr not)) = outside_folders plan status a b not
