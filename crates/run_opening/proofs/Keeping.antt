-- The workers of a plan's channels on disks: their channels are wanted in folders, and are on disks once they are opened.
use Rattle.std.proofs.Common.{◌≡◌, ◌<◌, ◌+◌, ◌++◌, ℕ, zero, suc, List, [], ◌∷◌, All, length, map, get_or, Option, Some, None, refl, sym, subst, arith}
use Rattle.std.specs.List.{AllByRecursion}
use Rattle.std.proofs.lemmas.List.Elements.{All-from_recursion, recursion_from_All}
use Rattle.shared_channel.specs.Passes.{Known}
use Rattle.keep_worker.specs.declared.worker.KeepWorker.{KeepWorker}
use Rattle.two_channels.specs.Shares.{IsDisk}
use Rattle.two_channels.specs.declared.shared.EitherShared.{EitherShared}
use Rattle.channel_wishes.specs.Openings.{HostTold, IsOfKind}
use Rattle.channel_wishes.specs.Opened.{AreOpened}
use Rattle.channel_wishes.specs.declared.opened.OpenedChannel.{OpenedChannel}
use Rattle.channel_wishes.specs.declared.wish.ChannelPlace.{ChannelPlace}
use Rattle.channel_wishes.specs.declared.wish.ChannelPlace.TheVariants.{Folder, Memory}
use Rattle.channel_wishes.specs.declared.wish.ChannelWish.{ChannelWish}
use Rattle.agent_plan.specs.declared.plan.ChannelKind.{ChannelKind}
use Rattle.agent_plan.specs.declared.plan.ChannelKind.TheVariants.{File, Memory as InMemory}
use Rattle.agent_plan.specs.declared.plan.ChannelPlan.{ChannelPlan}
use Rattle.run_tracks.specs.Places.{Zips}
use Rattle.run_opening.specs.Keepers.{AreWantedInFolders, InFolder, IsWantedInFolder, Keep, interval_of, keep_if, keep_of, keeps_from, keeps_of}
use Rattle.run_opening.specs.Staff.{IsKeepOf}
use Rattle.run_opening.specs.Wishes.{AreWishes, IsPlaceOf}
use Rattle.run_opening.specs.declared.seats.KeepSeat.{KeepSeat}

-- ---- where the channels that are kept stand in the plan

-- from this place on one of the plan's channels has such an interval
record IsKeptFrom (place : ℕ) (plans : List ChannelPlan) (keep : Keep) : Type 0 where
  at : ℕ
  channel : keep.channel ≡ at + place
  below : at < length plans
  interval : (plan : ChannelPlan) → interval_of (get_or plans at plan).kind ≡ Some keep.interval

later_kept : (place : ℕ) (plan : ChannelPlan) (plans : List ChannelPlan) (keeps : List Keep) → AllByRecursion (IsKeptFrom (suc place) plans) keeps → AllByRecursion (IsKeptFrom place (plan ∷ plans)) keeps
later_kept place plan plans [] all = tt
later_kept place plan plans (keep ∷ keeps) all = (
  record {
    at = suc all.0.at;
    channel = let c = all.0.channel in omega (arith, c);
    below = let b = all.0.below in omega (arith, b);
    interval = all.0.interval;
  },
  later_kept place plan plans keeps all.1,
)

with_first : (place : ℕ) (plan : ChannelPlan) (plans : List ChannelPlan) (o : Option ℕ) → interval_of plan.kind ≡ o
    → AllByRecursion (IsKeptFrom place (plan ∷ plans)) (keeps_from (suc place) plans) → AllByRecursion (IsKeptFrom place (plan ∷ plans)) (keep_if place o ++ keeps_from (suc place) plans)
with_first place plan plans None is rest = rest
with_first place plan plans (Some interval) is rest = (record { at = 0; channel = omega arith; below = omega arith; interval = λ other. is }, rest)

kept_from : (place : ℕ) (plans : List ChannelPlan) → AllByRecursion (IsKeptFrom place plans) (keeps_from place plans)
kept_from place [] = tt
kept_from place (plan ∷ plans) =
    with_first place plan plans (interval_of plan.kind) refl (later_kept place plan plans (keeps_from (suc place) plans) (kept_from (suc place) plans))

of_seats : {C : Type 0} (P : Keep → Type 0) (seats : List (KeepSeat C)) → AllByRecursion P (map keep_of seats) → AllByRecursion (λ (s : KeepSeat C). P (keep_of s)) seats
of_seats P [] all = tt
of_seats P (seat ∷ seats) all = (all.0, of_seats P seats all.1)

-- ---- they are wanted in folders

placed : (kind : ChannelKind) (place : ChannelPlace) (interval : ℕ) → interval_of kind ≡ Some interval → IsPlaceOf kind place → InFolder place
placed InMemory place interval named is = absurd (cc)
placed (File folder max_file every on_close) Memory interval named is = absurd is
placed (File folder max_file every on_close) (Folder path) interval named is = tt

module _ (uses : List ℕ) (plans : List ChannelPlan) (wishes : List ChannelWish) (wanted : AreWishes uses plans wishes) where
  one_wanted : {C : Type 0} (seat : KeepSeat C) → IsKeptFrom 0 plans (keep_of seat) → IsWantedInFolder wishes seat
  one_wanted seat kept =
      let same : seat.channel ≡ kept.at = let c = kept.channel in omega (arith, c) in
      let below : kept.at < length plans = kept.below in
      let many = wanted.many in
      let plan = first plans kept.at below in
      record {
        there = omega (arith, same, below, many);
        in_folder = λ wish.
            subst (λ (n : ℕ). InFolder (get_or wishes n wish).place) (sym same)
            (placed (get_or plans kept.at plan).kind (get_or wishes kept.at wish).place seat.interval (kept.interval plan) (wanted.each kept.at plan wish below).0.place);
      }
    where
      first : (l : List ChannelPlan) (at : ℕ) → at < length l → ChannelPlan
      first [] at lt = absurd (omega (arith, lt))
      first (plan ∷ l) at lt = plan

  each_wanted : {C : Type 0} (seats : List (KeepSeat C)) → AllByRecursion (λ (s : KeepSeat C). IsKeptFrom 0 plans (keep_of s)) seats → AllByRecursion (IsWantedInFolder wishes) seats
  each_wanted [] all = tt
  each_wanted (seat ∷ seats) all = (one_wanted seat all.0, each_wanted seats all.1)

  -- a plan's channels with workers that keep them are wanted in folders
  pub are_wanted : {C : Type 0} (seats : List (KeepSeat C)) → map keep_of seats ≡ keeps_of plans → AreWantedInFolders wishes seats
  are_wanted seats same =
      All-from_recursion (IsWantedInFolder wishes) seats
      (each_wanted seats (of_seats (IsKeptFrom 0 plans) seats (subst (AllByRecursion (IsKeptFrom 0 plans)) (sym same) (kept_from 0 plans))))

-- ---- they are on disks

kinds : {A B : Type 0} (wishes : List ChannelWish) (cs : List (OpenedChannel A B)) (a b : HostTold) → AreOpened wishes cs a b
    → (place : ℕ) (w : ChannelWish) (s : EitherShared A B) → place < length wishes
    → IsOfKind (get_or wishes place w).place (get_or (map (λ (c : OpenedChannel A B). c.share) cs) place s)
kinds [] cs a b all place w s below = absurd (omega (arith, below))
kinds (wish ∷ wishes) [] a b all place w s below = absurd all
kinds (wish ∷ wishes) (c ∷ cs) a b all zero w s below = all.1.kind
kinds (wish ∷ wishes) (c ∷ cs) a b all (suc place) w s below = kinds wishes cs all.0 b all.2 place w s (omega (arith, below))

of_folder : {A B : Type 0} (place : ChannelPlace) (s : EitherShared A B) → InFolder place → IsOfKind place s → IsDisk s
of_folder Memory s in_folder of = absurd in_folder
of_folder (Folder path) s in_folder of = of

-- all channels that are kept, of workers made of these
module _ {A B : Type 0} (shares : List (EitherShared A B)) where
  abbrev IsKeptOnDisk : {C : Type 0} → KeepWorker Known C → Type 0
  IsKeptOnDisk job = (share : EitherShared A B) → IsDisk (get_or shares job.channel share)

  module _ (wishes : List ChannelWish) (cs : List (OpenedChannel A B)) (a b : HostTold) (opened : AreOpened wishes cs a b)
      (same : shares ≡ map (λ (c : OpenedChannel A B). c.share) cs) where
    one_on : {C : Type 0} (seat : KeepSeat C) (job : KeepWorker Known C) → IsWantedInFolder wishes seat → IsKeepOf seat job → IsKeptOnDisk job
    one_on seat job is of = λ share.
        let wish = first wishes seat.channel is.there in
        subst (λ (x : List (EitherShared A B) × ℕ). IsDisk (get_or x.0 x.1 share)) (λ i. (sym same i, sym of.channel i))
        (of_folder (get_or wishes seat.channel wish).place (get_or (map (λ (c : OpenedChannel A B). c.share) cs) seat.channel share) (is.in_folder wish)
        (kinds wishes cs a b opened seat.channel wish share is.there))
      where
        first : (l : List ChannelWish) (at : ℕ) → at < length l → ChannelWish
        first [] at lt = absurd (omega (arith, lt))
        first (wish ∷ l) at lt = wish

    each_on : {C : Type 0} (seats : List (KeepSeat C)) (jobs : List (KeepWorker Known C)) → AllByRecursion (IsWantedInFolder wishes) seats → Zips IsKeepOf seats jobs
        → AllByRecursion IsKeptOnDisk jobs
    each_on [] [] all of = tt
    each_on [] (job ∷ jobs) all of = absurd of
    each_on (seat ∷ seats) [] all of = absurd of
    each_on (seat ∷ seats) (job ∷ jobs) all of = (one_on seat job all.0 of.0, each_on seats jobs all.1 of.1)

    -- each worker that keeps a channel has one on a disk
    pub all_on : {C : Type 0} (seats : List (KeepSeat C)) (jobs : List (KeepWorker Known C)) → AreWantedInFolders wishes seats → Zips IsKeepOf seats jobs
        → All (λ (job : KeepWorker Known C). (share : EitherShared A B) → IsDisk (get_or shares job.channel share)) jobs
    all_on {C} seats jobs all of =
        All-from_recursion (λ (job : KeepWorker Known C). IsKeptOnDisk job) jobs (each_on seats jobs (recursion_from_All (IsWantedInFolder wishes) seats all) of)
