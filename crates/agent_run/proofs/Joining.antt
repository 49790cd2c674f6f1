-- What came back of the workers of a run, whether there was memory for it or not.
use Rattle.std.proofs.Common.{◌≡◌, ◌∙◌, inl, inr, ℕ, suc, List, [], ◌∷◌, OnErr, OnOk, Option, Result, Ok, Err, length, ap, refl}
use Rattle.std.specs.declared.alloc.AllocError.{AllocError}
use Rattle.channel_face.specs.History.{Opening, Step}
use Rattle.flume_host.specs.Listens.{Endpoint}
use Rattle.shared_channel.specs.Passes.{Known}
use Rattle.sink_worker.specs.Rounds.{Told}
use Rattle.source_put.specs.Chains.{Meaning}
use Rattle.source_worker.specs.Rounds.{Heard}
use Rattle.source_worker.specs.declared.worker.ListenWorker.{ListenWorker}
use Rattle.keep_worker.specs.declared.worker.KeepWorker.{KeepWorker}
use Rattle.sink_worker.specs.declared.worker.SinkWorker.{SinkWorker}
use Rattle.line_worker.specs.Workers.{Talk}
use Rattle.line_worker.specs.declared.worker.LineWorker.{LineWorker}
use Rattle.crew.specs.declared.draining.DrainWorker.{DrainWorker}
use Rattle.two_channels.specs.Ports.{pass_of}
use Rattle.two_channels.specs.declared.port.EitherPort.{EitherPort}
use Rattle.two_channels.specs.declared.shared.EitherShared.{EitherShared}
use Rattle.run_tracks.specs.Places.{Zips}
use Rattle.run_working.specs.Ends.{IsListenEnded, IsSinkEnded}
use Rattle.run_working.specs.Histories.{IsLineTold, IsListenTold, IsSinkTold}
use Rattle.agent_run.specs.Joined.{HaveReturned, IsSameEnd}
use Rattle.run_working.specs.Opened.{IsListenOpened}
use Rattle.run_working.specs.Runs.{AreEnded, HaveRun, Runs, runs}
use Rattle.run_staff.specs.declared.workers.Returned.{Returned}
use Rattle.run_staff.specs.declared.workers.Workers.{Workers}
use Rattle.run_working.proofs.Behind.{ListenRuns}
use Rattle.run_working.proofs.Zipping.{ran_zips, zips_map, zips_then}

-- of two lists in pairs one is as long as the other
pub zips_long : {A B : Type 0} (R : A → B → Type 0) (xs : List A) (ys : List B) → Zips R xs ys → length ys ≡ length xs
zips_long R [] [] z = refl
zips_long R [] (b ∷ ys) z = absurd z
zips_long R (a ∷ xs) [] z = absurd z
zips_long R (a ∷ xs) (b ∷ ys) z = ap suc (zips_long R xs ys z.1)

module _ {R A B S N I O C K : Type 0} (does : Runs (EitherPort R A B) S N I O C K) (sink : Told S) (Means : Meaning K) (moments : C → Option (ℕ → ℕ)) (heard : N → Heard) (talk : I → O → Talk)
    (shares : List (EitherShared A B)) (homes : List Known) (jobs : Workers Known S N I O C K) (returned : Returned S N I O C) where
  -- where there was memory for it the workers ran, and else each came back as it was
  pub are_back : (r : Result (Unit {0}) AllocError) → OnOk r (HaveRun does shares homes jobs returned) → OnOk r (Zips (IsSinkTold sink moments shares homes) jobs.sinks.items returned.sinks.items)
      → OnOk r (Zips (IsListenTold Means moments heard shares homes) jobs.listeners.items returned.listeners.items)
      → OnOk r (Zips (IsLineTold Means moments talk shares homes) jobs.lines.items returned.lines.items) → OnErr r (AreEnded (λ p. p) homes jobs returned)
      → HaveReturned does sink Means moments heard talk shares homes jobs returned
  are_back (Ok done) ran sinks listeners lines idle = inl (record { ran = ran; sinks = sinks; listeners = listeners; lines = lines })
  are_back (Err refused) ran sinks listeners lines idle = inr idle

  -- as many sinks as workers
  pub as_many_sinks : HaveReturned does sink Means moments heard talk shares homes jobs returned → length returned.sinks.items ≡ length jobs.sinks.items
  as_many_sinks (inl told) = zips_long (IsSinkTold sink moments shares homes) jobs.sinks.items returned.sinks.items told.sinks
  as_many_sinks (inr idle) = zips_long (IsSinkEnded (λ (p : Known). p) homes) jobs.sinks.items returned.sinks.items idle.sinks

module _ {R A B : Type 0} (disk : A → Opening → List Step → Type 0) (memory : B → Opening → List Step → Type 0)
    {S N I O C K : Type 0} (sink : Told S) (Means : Meaning K) (moments : C → Option (ℕ → ℕ)) (heard : N → Heard) (talk : I → O → Talk) (stands : N → Option Endpoint)
    (Keeps : KeepWorker (EitherPort R A B) C → KeepWorker (EitherPort R A B) C → Type 0) (Sinks : SinkWorker (EitherPort R A B) S C → SinkWorker (EitherPort R A B) S C → Type 0) (Drains : DrainWorker I → DrainWorker I → Type 0)
    (Lines : LineWorker (EitherPort R A B) I O C K → LineWorker (EitherPort R A B) I O C K → Type 0) where
  -- A listener comes back at the same address and port, whether its worker ran or not.
  pub same_ends : (shares : List (EitherShared A B)) (homes : List Known) (jobs : Workers Known S N I O C K) (returned : Returned S N I O C)
      → HaveReturned (runs Keeps Sinks (ListenRuns {R = R} disk memory Means moments heard stands) Drains Lines) sink Means moments heard talk shares homes jobs returned
      → Zips (IsSameEnd stands) jobs.listeners.items returned.listeners.items
  same_ends shares homes jobs returned (inr idle) =
      zips_map (IsListenEnded (λ (p : Known). p) homes) (IsSameEnd stands) (λ job listener gone. ap stands gone.same) jobs.listeners.items returned.listeners.items idle.listeners
  same_ends shares homes jobs returned (inl told) =
      let Listens = ListenRuns {R = R} disk memory Means moments heard stands in
      let W = ListenWorker (EitherPort R A B) N C K in
      let Opened : ListenWorker Known N C K → W → Type 0 = λ job v. stands v.listener ≡ stands job.listener in
      let ran = told.ran in
      zips_then Opened (λ (w : W) listener. stands listener ≡ stands w.listener) (IsSameEnd stands) (λ job w listener is behind. behind ∙ is)
      jobs.listeners.items ran.new.listeners.items returned.listeners.items
      (zips_then (IsListenOpened shares) Listens Opened (λ job v w opened did. did.endpoint ∙ ap stands opened.listener)
      jobs.listeners.items ran.old.listeners.items ran.new.listeners.items ran.opened.listeners (ran_zips Listens ran.old.listeners.items ran.new.listeners.items ran.once.listeners))
      (zips_map (IsListenEnded pass_of homes) (λ (w : W) listener. stands listener ≡ stands w.listener) (λ w listener gone. ap stands gone.same) ran.new.listeners.items returned.listeners.items ran.ended.listeners)
