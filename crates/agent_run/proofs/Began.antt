-- How the channels of a run began, by the folders that the host had.
use Rattle.std.proofs.Common.{◌≡◌, ◌<◌, ◌+◌, ◌++◌, ℕ, zero, suc, List, [], ◌∷◌, Option, length, get_or, refl, sym, ap, subst, arith, string_bytes}
use Rattle.std.specs.List.{AllByRecursion}
use Rattle.atomic_table.specs.Seated.{TableId}
use Rattle.channel_face.specs.History.{Opening}
use Rattle.channel_face.specs.declared.replies.Limits.{Limits}
use Rattle.flume_host.specs.HostState.{Folders}
use Rattle.flume_host.specs.Told.{Told}
use Rattle.shared_channel.specs.Passes.{Known, new_pass, new_passes}
use Rattle.two_channels.specs.Shares.{IsDisk}
use Rattle.two_channels.specs.declared.shared.EitherShared.{EitherShared}
use Rattle.channel_wishes.specs.Openings.{Begins, BeginsOnDisk, HostTold, IsFresh, IsOfKind, TakesDisk}
use Rattle.channel_wishes.specs.Opened.{AreOpened}
use Rattle.channel_wishes.specs.declared.opened.OpenedChannel.{OpenedChannel}
use Rattle.channel_wishes.specs.declared.wish.ChannelPlace.{ChannelPlace}
use Rattle.channel_wishes.specs.declared.wish.ChannelPlace.TheVariants.{Memory, Folder}
use Rattle.channel_wishes.specs.declared.wish.ChannelWish.{ChannelWish}

-- ---- the opening of new passes

-- what a pass's calls begin with
abbrev pub HasBase : Opening → Known → Type 0
HasBase start p = p.view.base ≡ start

based_push : (start : Opening) (l : List Known) (x : Known) → AllByRecursion (HasBase start) l → HasBase start x → AllByRecursion (HasBase start) (l ++ x ∷ [])
based_push start [] x all one = (one, tt)
based_push start (y ∷ l) x all one = (all.0, based_push start l x all.1 one)

all_based : (table : TableId) (start : Opening) (passes k : ℕ) → AllByRecursion (HasBase start) (new_passes table start passes k)
all_based table start passes zero = tt
all_based table start passes (suc k) = based_push start (new_passes table start passes k) (new_pass table start passes k) (all_based table start passes k) refl

-- the pass at home of a channel that was opened begins with what the channel began with
pub fresh_base : {A B : Type 0} (Starts : Opening → Type 0) (users : ℕ) (share : EitherShared A B) (home : Known) (others : List Known)
    → (is : IsFresh Starts users share home others) → home.view.base ≡ is.start
fresh_base Starts users share home others is =
    (subst (AllByRecursion (HasBase is.start)) (sym is.passes) (all_based _ is.start (users + 1) (users + 1))).0

-- ---- places

-- it is the folder of this path
abbrev pub IsPlacedIn : ChannelPlace → List ℕ → Type 0
IsPlacedIn Memory path = ⊥
IsPlacedIn (Folder folder) path = string_bytes folder ≡ path

begins_in : (folders : Folders) (place : ChannelPlace) (path : List ℕ) (limits : Limits) (start : Opening) → IsPlacedIn place path → Begins folders place limits start
    → BeginsOnDisk limits (folders.disks path) start
begins_in folders Memory path limits start placed begins = absurd placed
begins_in folders (Folder folder) path limits start placed begins = subst (λ (p : List ℕ). BeginsOnDisk limits (folders.disks p) start) placed begins

kind_in : {A B : Type 0} (place : ChannelPlace) (path : List ℕ) (share : EitherShared A B) → IsPlacedIn place path → IsOfKind place share → IsDisk share
kind_in Memory path share placed kind = absurd placed
kind_in (Folder folder) path share placed kind = kind

disk_stays : (a b : HostTold) (place : ChannelPlace) (path : List ℕ) → (IsPlacedIn place path → ⊥) → TakesDisk place a b → b.folders.disks path ≡ a.folders.disks path
disk_stays a b Memory path other takes = ap (λ (h : HostTold). h.folders.disks path) takes
disk_stays a b (Folder folder) path other takes = takes.others.disks path (λ same. other (sym same))

-- The first channel that is wanted in a folder is on a disk, and began with what the host had told of that folder.
pub began_at : {A B : Type 0} (wishes : List ChannelWish) (cs : List (OpenedChannel A B)) (a b : HostTold) → AreOpened wishes cs a b
    → (place : ℕ) (w : ChannelWish) (c : OpenedChannel A B) (path : List ℕ) → place < length wishes → IsPlacedIn (get_or wishes place w).place path
    → ((i : ℕ) → i < place → IsPlacedIn (get_or wishes i w).place path → ⊥)
    → BeginsOnDisk (get_or wishes place w).limits (a.folders.disks path) (get_or cs place c).home.view.base × IsDisk (get_or cs place c).share
began_at [] cs a b all place w c path below placed first = absurd (omega (arith, below))
began_at (wish ∷ wishes) [] a b all place w c path below placed first = absurd all
began_at (wish ∷ wishes) (x ∷ cs) a b all zero w c path below placed first =
    let is = all.1 in (
      subst (BeginsOnDisk wish.limits (a.folders.disks path)) (sym (fresh_base (Begins a.folders wish.place wish.limits) wish.users x.share x.home x.others.items is.fresh))
          (begins_in a.folders wish.place path wish.limits is.fresh.start placed is.fresh.begins),
      kind_in wish.place path x.share placed is.kind,
    )
began_at (wish ∷ wishes) (x ∷ cs) a b all (suc place) w c path below placed first =
    let more = began_at wishes cs all.0 b all.2 place w c path (omega (arith, below)) placed (λ i low. first (suc i) (omega (arith, low))) in (
      subst (λ (told : Option Told). BeginsOnDisk (get_or wishes place w).limits told (get_or cs place c).home.view.base)
          (disk_stays a all.0 wish.place path (first 0 (omega arith)) all.1.takes) more.0,
      more.1,
    )

-- as many channels were opened as were wanted
pub opened_many : {A B : Type 0} (wishes : List ChannelWish) (cs : List (OpenedChannel A B)) (a b : HostTold) → AreOpened wishes cs a b → length cs ≡ length wishes
opened_many [] [] a b all = refl
opened_many [] (c ∷ cs) a b all = absurd all
opened_many (wish ∷ wishes) [] a b all = absurd all
opened_many (wish ∷ wishes) (c ∷ cs) a b all = ap suc (opened_many wishes cs all.0 b all.2)
