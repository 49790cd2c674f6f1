-- What the workers of a run called, in all that the passes of its channels had seen when these were closed.
use Rattle.std.proofs.Common.{◌≡◌, ◌∙◌, ◌<◌, ◌⊎◌, ◌++◌, inl, inr, ℕ, List, [], ◌∷◌, All, Bool, Option, String, flat_map, length, get_or, sym, subst, arith}
use Rattle.std.specs.List.{AllByRecursion}
use Rattle.std.specs.declared.alloc.Global.{Global}
use Rattle.std.specs.declared.vec.Vec.{Vec}
use Rattle.std.proofs.lemmas.List.Elements.{All-from_recursion, recursion_from_All}
use Rattle.channel_face.specs.History.{Opening, Step}
use Rattle.channel_face.specs.Machine.{State}
use Rattle.channel_face.specs.declared.replies.Counts.{Counts}
use Rattle.shared_channel.specs.Passes.{Known}
use Rattle.keep_worker.specs.declared.worker.KeepWorker.{KeepWorker}
use Rattle.sink_worker.specs.Rounds.{Told}
use Rattle.sink_worker.specs.declared.worker.SinkWorker.{SinkWorker}
use Rattle.source_put.specs.Chains.{Meaning}
use Rattle.source_worker.specs.Rounds.{Heard}
use Rattle.source_worker.specs.declared.worker.ListenWorker.{ListenWorker}
use Rattle.line_worker.specs.Workers.{Talk}
use Rattle.line_worker.specs.declared.worker.LineWorker.{LineWorker}
use Rattle.channel_lock.specs.Turns.{HasAll}
use Rattle.two_channels.specs.Shares.{table_of}
use Rattle.two_channels.specs.declared.port.EitherPort.{EitherPort}
use Rattle.two_channels.specs.declared.shared.EitherShared.{EitherShared}
use Rattle.run_tracks.specs.Closes.{IsClosed}
use Rattle.run_tracks.specs.Dealt.{HasNumber, Owner}
use Rattle.run_tracks.specs.Homes.{EachTook, IsAt}
use Rattle.run_tracks.specs.Places.{Zips}
use Rattle.run_tracks.specs.Stops.{IsKept, IsMended}
use Rattle.run_staff.specs.Alone.{AreAlone, Differ, IsAway}
use Rattle.run_settling.specs.Draining.{EachGoesOn, IsDrainedAt, IsSinkHome}
use Rattle.run_working.specs.Ends.{IsLineEnded}
use Rattle.agent_run.specs.Finals.{AreToldInFull, RunsAreTold, finals_of}
use Rattle.run_working.specs.Histories.{IsKeepTold, IsLineTold, IsListenTold, IsSinkTold}
use Rattle.agent_run.specs.Joined.{AreTold}
use Rattle.run_staff.specs.Jobs.{AreNew, AreWorkers, owners_at, owners_of}
use Rattle.run_working.specs.Runs.{AreEnded, Runs}
use Rattle.run_settling.specs.Settling.{AreSettled}
use Rattle.run_working.specs.Wholes.{AreSilentAt, IsNot, IsSilentAt, KeepersStayTold, LinesStayTold, ListenersStayTold, StaysSilent}
use Rattle.run_settling.specs.declared.at_home.AtHome.{AtHome}
use Rattle.run_settling.specs.declared.settling.Settled.{Settled}
use Rattle.run_staff.specs.declared.workers.Returned.{Returned}
use Rattle.run_staff.specs.declared.workers.Workers.{Workers}
use Rattle.run_working.proofs.Finishing.{all_on, behind_silent}
use Rattle.run_working.proofs.Lasting.{all_both}
use Rattle.run_working.proofs.Owners.{all_split, beside_owners, differ_split, each_keep, each_owner, keep_owners, other_jobs, sink_owners, swap_across}
use Rattle.run_working.proofs.Silence.{drains_silent, others_stay, silent_then, sinks_whole}
use Rattle.run_working.proofs.Unrun.{keepers_unrun, listeners_unrun, sinks_unrun}
use Rattle.run_working.proofs.Zipping.{all_map}

-- the pass at home has the worker's number, and carries another
record IsOwn (homes : List Known) (o : Owner) : Type 0 where
  there : o.place < length homes
  mine : HasNumber homes o.place o.number
  other : (d : Known) → (get_or homes o.place d).number ≡ o.number → ⊥

own_home : (old homes : List Known) → EachTook old homes → All (λ (p : Known). HasAll p.view) homes → (o : Owner) → IsAway old o → IsOwn homes o
own_home old homes took all o away =
    let there : o.place < length homes = let e = took.as_many in let l = away.there in omega (arith, e, l) in
    record {
      there = there;
      mine = λ d. all o.place d there o.number (subst (λ (k : ℕ). o.number < k) (sym (took.each o.place d away.there).passes) (away.below d));
      other = λ d same. away.other d (sym (took.number o.place d away.there) ∙ same);
    }

module _ {A B S C : Type 0} (sink : Told S) (moments : C → Option (ℕ → ℕ)) (disk : A → Opening → List Step → Type 0) (tells : A → Bool) (moment : A → ℕ)
    (laid : A → State → Type 0) (pruned : A → Type 0) (memory : B → Opening → List Step → Type 0) (tells' : B → Bool) (shares : List (EitherShared A B)) (homes : List Known) (workers : List (SinkWorker AtHome S C))
    (closes : List Bool) (names : List (String Global × Counts)) (settled : Settled S A B)
    (is : AreSettled (IsDrainedAt sink moments) (IsKept disk tells moment laid pruned) (IsMended disk tells moment) (IsClosed disk tells memory tells') shares homes workers closes names settled)
    (named : length names ≡ length homes) (old : List Known) (took : EachTook old homes) (all : All (λ (p : Known). HasAll p.view) homes) where
  own_silent : (o : Owner) → IsOwn homes o → StaysSilent o.place o.number is.drained (finals_of settled)
  own_silent o own = behind_silent sink moments disk tells moment laid pruned memory tells' shares homes workers closes names settled is named o.place o.number own.there own.mine own.other

  -- no call with a sink's number came after the drainings
  sinks_silent : (jobs : List (SinkWorker Known S C)) (ws : List (SinkWorker AtHome S C)) → Zips (IsSinkTold sink moments shares homes) jobs ws → AllByRecursion (IsAway old) (sink_owners jobs)
      → AllByRecursion (IsSilentAt is.drained (finals_of settled)) ws
  sinks_silent [] [] told away = tt
  sinks_silent [] (w ∷ ws) told away = absurd told
  sinks_silent (job ∷ jobs) [] told away = absurd told
  sinks_silent (job ∷ jobs) (w ∷ ws) told away =
      let o : Owner = record { place = job.channel; number = job.port.number } in (
        subst (λ (x : ℕ × ℕ). StaysSilent x.0 x.1 is.drained (finals_of settled)) (λ i. (sym told.0.channel i, sym told.0.number i)) (own_silent o (own_home old homes took all o away.0)),
        sinks_silent jobs ws told.1 away.1,
      )

  -- a worker that differs from those of the sinks has no sink's number after the run
  not_sinks : (o : Owner) (jobs : List (SinkWorker Known S C)) (ws : List (SinkWorker AtHome S C)) → Zips (IsSinkTold sink moments shares homes) jobs ws
      → AllByRecursion (λ (s : Owner). Differ s o) (sink_owners jobs) → AllByRecursion (IsNot o.place o.number) ws
  not_sinks o [] [] told differ = tt
  not_sinks o [] (w ∷ ws) told differ = absurd told
  not_sinks o (job ∷ jobs) [] told differ = absurd told
  not_sinks o (job ∷ jobs) (w ∷ ws) told differ =
      (λ place number. differ.0 (sym place ∙ told.0.channel) (sym number ∙ told.0.number), not_sinks o jobs ws told.1 differ.1)

  module _ (jobs : List (SinkWorker Known S C)) (told : Zips (IsSinkTold sink moments shares homes) jobs workers) where
    other_silent : (o : Owner) → IsAway old o → AllByRecursion (λ (s : Owner). Differ s o) (sink_owners jobs) → StaysSilent o.place o.number homes (finals_of settled)
    other_silent o away differ d =
        let own = own_home old homes took all o away in
        silent_then o.number (get_or homes o.place d) (get_or is.drained o.place d) (get_or (finals_of settled) o.place d)
        (drains_silent sink moments o.place o.number homes is.drained workers settled.ends.items settled.sinks.items own.there own.mine
        (All-from_recursion (IsNot o.place o.number) workers (not_sinks o jobs workers told differ)) is.drains d)
        (own_silent o own d)

    -- no call with a number of these came after the join
    others_silent : (os : List Owner) → AllByRecursion (IsAway old) os → AllByRecursion (λ (o : Owner). AllByRecursion (λ (s : Owner). Differ s o) (sink_owners jobs)) os
        → AllByRecursion (λ (o : Owner). StaysSilent o.place o.number homes (finals_of settled)) os
    others_silent [] away differ = tt
    others_silent (o ∷ os) away differ = (other_silent o away.0 differ.0, others_silent os away.1 differ.1)

-- of passes beside their channels' places, by the numbers of their owners
silent_each : {J : Type 0} (places : J → List ℕ) (passes : J → List Known) (R : ℕ → Known → Type 0) (homes last : List Known) (jobs : List J)
    → All (λ (j : J). Zips R (places j) (passes j)) jobs
    → AllByRecursion (λ (o : Owner). StaysSilent o.place o.number homes last) (flat_map (λ (j : J). owners_at (places j) (passes j)) jobs)
    → All (λ (j : J). AreSilentAt homes last (places j) (passes j)) jobs
silent_each {J} places passes R homes last jobs at silent =
    let P = λ (place number : ℕ). StaysSilent place number homes last in
    let Silent = λ (j : J). AllByRecursion (λ (o : Owner). P o.place o.number) (owners_at (places j) (passes j)) in
    all_map (λ (j : J). Zips R (places j) (passes j) × Silent j) (λ (j : J). AreSilentAt homes last (places j) (passes j))
    (λ j both. beside_owners P R (places j) (passes j) both.0 both.1) jobs
    (all_both (λ (j : J). Zips R (places j) (passes j)) Silent jobs at
    (All-from_recursion Silent jobs (each_owner (λ (o : Owner). P o.place o.number) (λ (j : J). owners_at (places j) (passes j)) jobs silent)))

module _ {A B S N I O C K : Type 0} (sink : Told S) (Means : Meaning K) (moments : C → Option (ℕ → ℕ)) (heard : N → Heard) (talk : I → O → Talk)
    (disk : A → Opening → List Step → Type 0) (tells : A → Bool) (moment : A → ℕ) (laid : A → State → Type 0) (pruned : A → Type 0) (memory : B → Opening → List Step → Type 0) (tells' : B → Bool)
    (shares : List (EitherShared A B)) (homes : List Known) (jobs : Workers Known S N I O C K) (returned : Returned S N I O C)
    (closes : List Bool) (names : List (String Global × Counts)) (settled : Settled S A B)
    (is : AreSettled (IsDrainedAt sink moments) (IsKept disk tells moment laid pruned) (IsMended disk tells moment) (IsClosed disk tells memory tells') shares homes returned.sinks.items closes names settled)
    (named : length names ≡ length homes) (old : List Known) (took : EachTook old homes) (all : All (λ (p : Known). HasAll p.view) homes)
    (alone : AreAlone old (owners_of jobs)) (workers : AreWorkers table_of shares (λ (p : Known). p) jobs) (home : All (IsSinkHome homes) returned.sinks.items) where
  abbrev listen_owners : List Owner
  listen_owners = flat_map (λ (l : ListenWorker Known N C K). owners_at l.channels.items l.ports.items) jobs.listeners.items

  abbrev line_owners : List Owner
  line_owners = flat_map (λ (l : LineWorker Known I O C K). owners_at l.channels.items l.ports.items) jobs.lines.items

  -- the sinks were told of at the join, and so are the others in the end where their numbers stay silent
  in_full : Zips (IsSinkTold sink moments shares homes) jobs.sinks.items returned.sinks.items
      → (EachGoesOn homes (finals_of settled) → All (λ (k : KeepWorker Known C). StaysSilent k.channel k.port.number homes (finals_of settled)) jobs.keepers.items
      → All (IsKeepTold shares (finals_of settled)) jobs.keepers.items)
      → (EachGoesOn homes (finals_of settled) → All (λ (l : ListenWorker Known N C K). AreSilentAt homes (finals_of settled) l.channels.items l.ports.items) jobs.listeners.items
      → Zips (IsListenTold Means moments heard shares (finals_of settled)) jobs.listeners.items returned.listeners.items)
      → (EachGoesOn homes (finals_of settled) → All (λ (l : LineWorker Known I O C K). AreSilentAt homes (finals_of settled) l.channels.items l.ports.items) jobs.lines.items
      → Zips (IsLineTold Means moments talk shares (finals_of settled)) jobs.lines.items returned.lines.items
      ⊎ Zips (IsLineEnded (λ (p : Known). p) homes) jobs.lines.items returned.lines.items)
      → AreToldInFull sink Means moments heard talk shares homes (finals_of settled) jobs returned settled
  in_full told upkeep stay said =
      let last = finals_of settled in
      let ws = returned.sinks.items in
      let keeps = keep_owners jobs.keepers.items in
      let sinks = sink_owners jobs.sinks.items in
      let rest = listen_owners ++ line_owners in
      let all_away = all_split (IsAway old) keeps (sinks ++ rest) (recursion_from_All (IsAway old) (owners_of jobs) alone.away) in
      let away = all_split (IsAway old) sinks rest all_away.1 in
      let all_apart = differ_split keeps (sinks ++ rest) alone.apart in
      let apart = differ_split sinks rest all_apart.seconds in
      let keeps_apart = swap_across keeps sinks (all_split (λ (p : Owner). AllByRecursion (λ (o : Owner). Differ o p) keeps) sinks rest all_apart.across).0 in
      let on = all_on sink moments disk tells moment laid pruned memory tells' shares homes ws closes names settled is named in
      let behind = sinks_silent sink moments disk tells moment laid pruned memory tells' shares homes ws closes names settled is named old took all jobs.sinks.items ws told away.0 in
      let silent = others_silent sink moments disk tells moment laid pruned memory tells' shares homes ws closes names settled is named old took all jobs.sinks.items told rest away.1 apart.across in
      let unkept = others_silent sink moments disk tells moment laid pruned memory tells' shares homes ws closes names settled is named old took all jobs.sinks.items told keeps all_away.0 keeps_apart in
      let parts = all_split (λ (o : Owner). StaysSilent o.place o.number homes last) listen_owners line_owners silent in
      let quiet = silent_each (λ (l : LineWorker Known I O C K). l.channels.items) (λ (l : LineWorker Known I O C K). l.ports.items) (λ place p. IsAt table_of shares place p) homes last jobs.lines.items
      workers.lines parts.1 in
      record {
        goes_on = on;
        keepers = upkeep on (All-from_recursion (λ (k : KeepWorker Known C). StaysSilent k.channel k.port.number homes last) jobs.keepers.items
            (each_keep (λ place n. StaysSilent place n homes last) jobs.keepers.items unkept));
        sinks = sinks_whole sink moments A B shares homes is.drained last jobs.sinks.items ws settled.ends.items settled.sinks.items told home
            (others_stay sink moments A B shares homes jobs.sinks.items ws told (other_jobs jobs.sinks.items apart.firsts)) is.drains
            (All-from_recursion (IsSilentAt is.drained last) ws behind);
        listeners = stay on (silent_each (λ (l : ListenWorker Known N C K). l.channels.items) (λ (l : ListenWorker Known N C K). l.ports.items) (λ place p. IsAt table_of shares place p) homes last jobs.listeners.items
            workers.listeners parts.0);
        silent = quiet;
        lines = said on quiet;
      }

module _ {R A B S N I O C K : Type 0} (runs : Runs (EitherPort R A B) S N I O C K) (sink : Told S) (Means : Meaning K) (moments : C → Option (ℕ → ℕ)) (heard : N → Heard) (talk : I → O → Talk)
    (disk : A → Opening → List Step → Type 0) (tells : A → Bool) (moment : A → ℕ) (laid : A → State → Type 0) (pruned : A → Type 0) (memory : B → Opening → List Step → Type 0) (tells' : B → Bool)
    (upkeep : KeepersStayTold runs) (stay : ListenersStayTold runs Means moments heard) (said : LinesStayTold runs Means moments talk) where
  -- what came back of the workers is told of in full in what the passes had seen at the close
  pub runs_told : RunsAreTold runs sink Means moments heard talk disk tells moment laid pruned memory tells'
  runs_told plans o m homes joined returned settled manned took all back same home named did =
      let shares = m.crew.shares.items in
      let jobs = m.crew.jobs in
      let V = Vec (SinkWorker AtHome S C) Global in
      let is = subst (λ (v : V). AreSettled (IsDrainedAt sink moments) (IsKept disk tells moment laid pruned) (IsMended disk tells moment) (IsClosed disk tells memory tells') shares homes v.items m.closes.items m.settled.report.items settled) same did in
      let home' = subst (λ (v : V). All (IsSinkHome homes) v.items) same home in
      let whole = in_full sink Means moments heard talk disk tells moment laid pruned memory tells' shares homes jobs returned m.closes.items m.settled.report.items settled is named m.crew.homes.items took all manned.alone manned.workers home' in
      one shares jobs manned.new_ones whole back
    where
      one : (shares : List (EitherShared A B)) (jobs : Workers Known S N I O C K) → AreNew jobs
          → (Zips (IsSinkTold sink moments shares homes) jobs.sinks.items returned.sinks.items
          → (EachGoesOn homes (finals_of settled) → All (λ (k : KeepWorker Known C). StaysSilent k.channel k.port.number homes (finals_of settled)) jobs.keepers.items
          → All (IsKeepTold shares (finals_of settled)) jobs.keepers.items)
          → (EachGoesOn homes (finals_of settled) → All (λ (l : ListenWorker Known N C K). AreSilentAt homes (finals_of settled) l.channels.items l.ports.items) jobs.listeners.items
          → Zips (IsListenTold Means moments heard shares (finals_of settled)) jobs.listeners.items returned.listeners.items)
          → (EachGoesOn homes (finals_of settled) → All (λ (l : LineWorker Known I O C K). AreSilentAt homes (finals_of settled) l.channels.items l.ports.items) jobs.lines.items
          → Zips (IsLineTold Means moments talk shares (finals_of settled)) jobs.lines.items returned.lines.items
          ⊎ Zips (IsLineEnded (λ (p : Known). p) homes) jobs.lines.items returned.lines.items)
          → AreToldInFull sink Means moments heard talk shares homes (finals_of settled) jobs returned settled)
          → AreTold runs sink Means moments heard talk shares homes jobs returned ⊎ AreEnded (λ (p : Known). p) homes jobs returned
          → AreToldInFull sink Means moments heard talk shares homes (finals_of settled) jobs returned settled
      one shares jobs new whole (inl told) =
          whole told.sinks (λ on silent. upkeep shares homes (finals_of settled) jobs returned new told.ran on silent)
          (λ on silent. stay shares homes (finals_of settled) jobs returned new told.ran on silent)
          (λ on silent. inl (said shares homes (finals_of settled) jobs returned new told.ran on silent))
      one shares jobs new whole (inr gone) =
          whole (sinks_unrun sink moments shares homes jobs.sinks.items returned.sinks.items new.sinks gone.sinks)
          (λ on silent. keepers_unrun shares homes (finals_of settled) on jobs.keepers.items new.keepers silent gone.keepers)
          (λ on silent. listeners_unrun Means moments heard shares homes (finals_of settled) on jobs.listeners.items returned.listeners.items new.listeners silent gone.listeners)
          (λ on silent. inr gone.lines)
