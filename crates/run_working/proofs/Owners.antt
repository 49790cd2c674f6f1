-- Workers whose numbers are their own, by the kinds of the workers.
use Rattle.std.proofs.Common.{◌≡◌, ◌++◌, ℕ, List, [], ◌∷◌, flat_map, sym}
use Rattle.std.specs.List.{AllByRecursion}
use Rattle.shared_channel.specs.Passes.{Known}
use Rattle.keep_worker.specs.declared.worker.KeepWorker.{KeepWorker}
use Rattle.sink_worker.specs.declared.worker.SinkWorker.{SinkWorker}
use Rattle.run_tracks.specs.Dealt.{Owner}
use Rattle.run_tracks.specs.Places.{Zips}
use Rattle.run_staff.specs.Alone.{AllDiffer, Differ}
use Rattle.run_staff.specs.Jobs.{owners_at}
use Rattle.run_working.specs.Wholes.{AreOtherJobs}

-- what holds of each of two lists in one
pub all_split : {X : Type 0} (P : X → Type 0) (xs ys : List X) → AllByRecursion P (xs ++ ys) → AllByRecursion P xs × AllByRecursion P ys
all_split P [] ys all = (tt, all)
all_split P (x ∷ xs) ys all = let rest = all_split P xs ys all.1 in ((all.0, rest.0), rest.1)

-- of workers of one kind none has the number of another, and those of the second kind differ from those of the first
pub record AreApart (os ps : List Owner) : Type 0 where
  pub firsts : AllDiffer os
  pub seconds : AllDiffer ps
  pub across : AllByRecursion (λ (p : Owner). AllByRecursion (λ (o : Owner). Differ o p) os) ps

none_across : (ps : List Owner) → AllByRecursion (λ (p : Owner). AllByRecursion (λ (o : Owner). Differ o p) []) ps
none_across [] = tt
none_across (p ∷ ps) = (tt, none_across ps)

more_across : (o : Owner) (os ps : List Owner) → AllByRecursion (Differ o) ps → AllByRecursion (λ (p : Owner). AllByRecursion (λ (o : Owner). Differ o p) os) ps
    → AllByRecursion (λ (p : Owner). AllByRecursion (λ (o : Owner). Differ o p) (o ∷ os)) ps
more_across o os [] one all = tt
more_across o os (p ∷ ps) one all = ((one.0, all.0), more_across o os ps one.1 all.1)

-- where no two of all numbers are the same, those of two kinds are apart
pub differ_split : (os ps : List Owner) → AllDiffer (os ++ ps) → AreApart os ps
differ_split [] ps all = record { firsts = tt; seconds = all; across = none_across ps }
differ_split (o ∷ os) ps all =
    let one = all_split (Differ o) os ps all.0 in
    let rest = differ_split os ps all.1 in
    record { firsts = (one.0, rest.firsts); seconds = rest.seconds; across = more_across o os ps one.1 rest.across }

-- what holds of all workers' numbers holds of each worker's
pub each_owner : {J : Type 0} (P : Owner → Type 0) (owners : J → List Owner) (jobs : List J) → AllByRecursion P (flat_map owners jobs) → AllByRecursion (λ (j : J). AllByRecursion P (owners j)) jobs
each_owner P owners [] all = tt
each_owner P owners (job ∷ jobs) all = let both = all_split P (owners job) (flat_map owners jobs) all in (both.0, each_owner P owners jobs both.1)

-- of each pass, beside its channel's place
pub beside_owners : (P : ℕ → ℕ → Type 0) (R : ℕ → Known → Type 0) (places : List ℕ) (passes : List Known) → Zips R places passes → AllByRecursion (λ (o : Owner). P o.place o.number) (owners_at places passes)
    → Zips (λ place p. P place p.number) places passes
beside_owners P R [] [] zips all = tt
beside_owners P R [] (p ∷ passes) zips all = absurd zips
beside_owners P R (place ∷ places) [] zips all = absurd zips
beside_owners P R (place ∷ places) (p ∷ passes) zips all = (all.0, beside_owners P R places passes zips.1 all.1)

-- those of the first kind differ from those of the second
one_across : (o : Owner) (os ps : List Owner) → AllByRecursion (λ (p : Owner). AllByRecursion (λ (x : Owner). Differ x p) (o ∷ os)) ps
    → AllByRecursion (λ (p : Owner). Differ p o) ps × AllByRecursion (λ (p : Owner). AllByRecursion (λ (x : Owner). Differ x p) os) ps
one_across o os [] all = (tt, tt)
one_across o os (p ∷ ps) all =
    let rest = one_across o os ps all.1 in
    ((λ place number. all.0.0 (sym place) (sym number), rest.0), (all.0.1, rest.1))

-- so those of the second kind differ from those of the first
pub swap_across : (os ps : List Owner) → AllByRecursion (λ (p : Owner). AllByRecursion (λ (o : Owner). Differ o p) os) ps → AllByRecursion (λ (o : Owner). AllByRecursion (λ (p : Owner). Differ p o) ps) os
swap_across [] ps all = tt
swap_across (o ∷ os) ps all = let both = one_across o os ps all in (both.0, swap_across os ps both.1)

-- the number of the worker of each channel on a disk
abbrev pub keep_owners : {C : Type 0} → List (KeepWorker Known C) → List Owner
keep_owners {C} jobs = flat_map (λ (k : KeepWorker Known C). owners_at (k.channel ∷ []) (k.port ∷ [])) jobs

-- what holds of all keepers' numbers holds of each keeper's own
pub each_keep : {C : Type 0} (P : ℕ → ℕ → Type 0) (jobs : List (KeepWorker Known C)) → AllByRecursion (λ (o : Owner). P o.place o.number) (keep_owners jobs)
    → AllByRecursion (λ (k : KeepWorker Known C). P k.channel k.port.number) jobs
each_keep P [] all = tt
each_keep P (job ∷ jobs) all = (all.0, each_keep P jobs all.1)

module _ {S C : Type 0} where
  -- the number of each sink's worker
  abbrev pub sink_owners : List (SinkWorker Known S C) → List Owner
  sink_owners jobs = flat_map (λ (s : SinkWorker Known S C). owners_at (s.channel ∷ []) (s.port ∷ [])) jobs

  other_job : (job : SinkWorker Known S C) (jobs : List (SinkWorker Known S C)) → AllByRecursion (Differ (record { place = job.channel; number = job.port.number })) (sink_owners jobs)
      → AllByRecursion (λ (other : SinkWorker Known S C). other.channel ≡ job.channel → other.port.number ≡ job.port.number → ⊥) jobs
  other_job job [] all = tt
  other_job job (j ∷ jobs) all = (all.0, other_job job jobs all.1)

  -- where no two numbers are the same, no two sinks have one number in one channel
  pub other_jobs : (jobs : List (SinkWorker Known S C)) → AllDiffer (sink_owners jobs) → AreOtherJobs jobs
  other_jobs [] all = tt
  other_jobs (job ∷ jobs) all = (other_job job jobs all.0, other_jobs jobs all.1)
