-- The calls with the number of each worker of a run are fair to the others.
use Rattle.std.proofs.Common.{◌≡◌, ◌∙◌, ◌<◌, ◌⊎◌, ◌++◌, inl, inr, ℕ, List, [], ◌∷◌, All, Bool, true, false, Option, Result, flat_map, map, length, get_or, sym, ap, subst}
use Rattle.std.specs.List.{AllByRecursion}
use Rattle.std.proofs.lemmas.List.{get_or_default}
use Rattle.std.proofs.lemmas.List.Elements.{All-head, All-tail, recursion_from_All}
use Rattle.agent_end.specs.declared.draining.ChannelDrain.{ChannelDrain}
use Rattle.channel_face.specs.History.{Opening, opening}
use Rattle.channel_face.specs.declared.replies.CheckRefused.{CheckRefused}
use Rattle.channel_face.specs.declared.replies.PruneRefused.{PruneRefused}
use Rattle.shared_channel.specs.Passes.{Known}
use Rattle.shared_channel.specs.Ports.{own_calls}
use Rattle.sink_worker.specs.Rounds.{Told}
use Rattle.sink_worker.specs.declared.worker.SinkWorker.{SinkWorker}
use Rattle.keep_worker.specs.declared.worker.KeepWorker.{KeepWorker}
use Rattle.source_put.specs.Chains.{Meaning}
use Rattle.source_put.specs.Into.{Into}
use Rattle.source_put.specs.declared.intake.Verdict.{Verdict}
use Rattle.source_worker.specs.Rounds.{Answer, Heard}
use Rattle.source_worker.specs.declared.worker.ListenWorker.{ListenWorker}
use Rattle.netcat_source.specs.declared.lines.LineVerdict.{LineVerdict}
use Rattle.line_session.specs.Handled.{Handled, TakesAll}
use Rattle.line_worker.specs.Turns.{Feeding, MendsWhere, TakesTurn}
use Rattle.line_worker.specs.Workers.{Talk}
use Rattle.line_worker.specs.declared.worker.LineWorker.{LineWorker}
use Rattle.two_channels.specs.Shares.{IsDisk}
use Rattle.two_channels.specs.declared.shared.EitherShared.{EitherShared}
use Rattle.run_tracks.specs.Dealt.{Owner}
use Rattle.run_tracks.specs.Listening.{MendedInto, home_tracks}
use Rattle.run_tracks.specs.Places.{TookEach, Zips}
use Rattle.run_tracks.specs.Told.{IsNew}
use Rattle.run_tracks.specs.Tracks.{Track, ended}
use Rattle.run_tracks.proofs.Tracking.{own_same}
use Rattle.sound_lines.proofs.Fair.{AreFairOwn, check_fair, prune_fair}
use Rattle.sound_lines.proofs.Views.{IsFairIn}
use Rattle.sound_lines.proofs.Workers.{IsFairTrack, StaysFair, all_fair, calls_stay, drain_stays, keep_stays, rounds_stay, sink_stays, turns_stay}
use Rattle.run_working.specs.Ends.{IsLineEnded}
use Rattle.agent_run.specs.Finals.{AreToldInFull}
use Rattle.run_working.specs.Histories.{Checked, IsDiskOf, IsKeepTold, IsLineTold, IsListenTold, MendedOver, Pruned}
use Rattle.run_staff.specs.Jobs.{AreNew, owners_at, owners_of}
use Rattle.run_working.specs.Wholes.{AreBeside, AreSilentAt, IsSinkWhole}
use Rattle.run_staff.specs.declared.workers.LineEnded.{LineEnded}
use Rattle.run_settling.specs.declared.settling.Settled.{Settled}
use Rattle.run_staff.specs.declared.workers.Returned.{Returned}
use Rattle.run_staff.specs.declared.workers.Workers.{Workers}
use Rattle.run_working.proofs.Unrun.{none_called}

-- ---- mends over channels of which one is given

module _ {A B K : Type 0} (shares : List (EitherShared A B)) (channels : List ℕ) (share : EitherShared A B) (Takes : Into Track K → List ℕ → Verdict → Into Track K → Type 0) where
  where_over : (due : Bool) (a b : Into Track K) (answers : List Answer) → MendsWhere (MendedOver shares channels) due a answers b → MendsWhere (MendedInto (IsDiskOf shares channels share)) due a answers b
  where_over true a b answers is = is share
  where_over false a b answers is = is

  turn_over : (a b : Feeding (Into Track K)) (line : List ℕ) (said : LineVerdict) → TakesTurn Takes (MendedOver shares channels) a line said b → TakesTurn Takes (MendedInto (IsDiskOf shares channels share)) a line said b
  turn_over a b line said t = record {
    first = t.first;
    last = t.last;
    verdict = t.verdict;
    before = t.before;
    behind = t.behind;
    again = where_over a.due a.into t.before t.first t.again;
    takes = t.takes;
    mends = where_over _ t.behind b.into t.last t.mends;
    due = t.due;
    answered = t.answered;
  }

  -- turns with mends of all channels are turns with mends by one of them
  pub turns_over : (done : List Handled) (a b : Feeding (Into Track K)) → TakesAll (TakesTurn Takes (MendedOver shares channels)) a done b → TakesAll (TakesTurn Takes (MendedInto (IsDiskOf shares channels share))) a done b
  turns_over [] a b same = same
  turns_over (h ∷ done) a b (next, one, others) = (next, turn_over a next h.line h.verdict one, turns_over done next b others)

-- ---- owners

-- the calls with this owner's number are fair, in what the pass at home of its channel has seen
abbrev pub IsFairOwner : List Known → Owner → Type 0
IsFairOwner finals o = o.place < length finals → (d : Known) → IsFairIn o.number (get_or finals o.place d).view

owners_join : (P : Owner → Type 0) (xs ys : List Owner) → AllByRecursion P xs → AllByRecursion P ys → AllByRecursion P (xs ++ ys)
owners_join P [] ys f g = g
owners_join P (x ∷ xs) ys f g = (f.0, owners_join P xs ys f.1 g)

owners_flat : {J : Type 0} (P : Owner → Type 0) (owners : J → List Owner) (jobs : List J) → AllByRecursion (λ (j : J). AllByRecursion P (owners j)) jobs → AllByRecursion P (flat_map owners jobs)
owners_flat P owners [] all = tt
owners_flat P owners (job ∷ jobs) all = owners_join P (owners job) (flat_map owners jobs) all.0 (owners_flat P owners jobs all.1)

module _ (finals : List Known) where
  new_fair : (places : List ℕ) (passes : List Known) → AllByRecursion IsFairTrack (home_tracks (λ (p : Known). p) finals places passes)
  new_fair [] passes = tt
  new_fair (place ∷ places) [] = tt
  new_fair (place ∷ places) (p ∷ passes) = (tt, new_fair places passes)

  tracks_fair : (places : List ℕ) (passes : List Known) → AllByRecursion IsFairTrack (map ended (home_tracks (λ (p : Known). p) finals places passes)) → AllByRecursion (IsFairOwner finals) (owners_at places passes)
  tracks_fair [] passes all = tt
  tracks_fair (place ∷ places) [] all = tt
  tracks_fair (place ∷ places) (p ∷ passes) all =
      ((λ below d. subst (λ (q : Known). IsFairIn p.number q.view) (get_or_default finals place p d below) all.0), tracks_fair places passes all.1)

  -- where its tracks stay fair from their beginning to their end
  worker_fair : (places : List ℕ) (passes : List Known) → Zips StaysFair (home_tracks (λ (p : Known). p) finals places passes) (map ended (home_tracks (λ (p : Known). p) finals places passes))
      → AllByRecursion (IsFairOwner finals) (owners_at places passes)
  worker_fair places passes stay = tracks_fair places passes (all_fair (home_tracks (λ (p : Known). p) finals places passes) (map ended (home_tracks (λ (p : Known). p) finals places passes)) stay (new_fair places passes))

  module _ {A B S N I O C K : Type 0} (sink : Told S) (Means : Meaning K) (moments : C → Option (ℕ → ℕ)) (heard : N → Heard) (talk : I → O → Talk) (shares : List (EitherShared A B)) (share : EitherShared A B) where
    line_fair : (job : LineWorker Known I O C K) (back : LineEnded I O) → IsLineTold Means moments talk shares finals job back → AllByRecursion (IsFairOwner finals) (owners_at job.channels.items job.ports.items)
    line_fair job back told =
        let served = told.session.served in
        worker_fair job.channels.items job.ports.items
        (turns_stay Means job.selector job.host (IsDiskOf shares job.channels.items share) served.done _ _
        (turns_over shares job.channels.items share _ served.done _ _ served.takes))

    lines_fair : (jobs : List (LineWorker Known I O C K)) (backs : List (LineEnded I O)) → Zips (IsLineTold Means moments talk shares finals) jobs backs
        → AllByRecursion (λ (l : LineWorker Known I O C K). AllByRecursion (IsFairOwner finals) (owners_at l.channels.items l.ports.items)) jobs
    lines_fair [] [] told = tt
    lines_fair [] (b ∷ backs) told = absurd told
    lines_fair (job ∷ jobs) [] told = absurd told
    lines_fair (job ∷ jobs) (b ∷ backs) told = (line_fair job b told.0, lines_fair jobs backs told.1)

    listener_fair : (job : ListenWorker Known N C K) (listener : N) → IsListenTold Means moments heard shares finals job listener → AllByRecursion (IsFairOwner finals) (owners_at job.channels.items job.ports.items)
    listener_fair job listener told =
        worker_fair job.channels.items job.ports.items
        (rounds_stay Means job.selector job.host (IsDiskOf shares job.channels.items share) job.rules told.made _ _ (told.rounds share))

    listeners_fair : (jobs : List (ListenWorker Known N C K)) (backs : List N) → Zips (IsListenTold Means moments heard shares finals) jobs backs
        → AllByRecursion (λ (l : ListenWorker Known N C K). AllByRecursion (IsFairOwner finals) (owners_at l.channels.items l.ports.items)) jobs
    listeners_fair [] [] told = tt
    listeners_fair [] (b ∷ backs) told = absurd told
    listeners_fair (job ∷ jobs) [] told = absurd told
    listeners_fair (job ∷ jobs) (b ∷ backs) told = (listener_fair job b told.0, listeners_fair jobs backs told.1)

    sinks_fair : (jobs : List (SinkWorker Known S C)) (ends : List ChannelDrain) (backs : List S) → AreBeside (IsSinkWhole sink moments shares finals) jobs ends backs
        → AllByRecursion (λ (s : SinkWorker Known S C). AllByRecursion (IsFairOwner finals) (owners_at (s.channel ∷ []) (s.port ∷ []))) jobs
    sinks_fair [] [] [] told = tt
    sinks_fair [] [] (b ∷ backs) told = absurd told
    sinks_fair [] (e ∷ ends) backs told = absurd told
    sinks_fair (job ∷ jobs) [] backs told = absurd told
    sinks_fair (job ∷ jobs) (e ∷ ends) [] told = absurd told
    sinks_fair (job ∷ jobs) (e ∷ ends) (b ∷ backs) told = (
      (
        (λ below d.
            let w = (told.0.calls share d).1 in
            drain_stays sink job.batch e _ _ w.drains (sink_stays sink job.batch (IsDisk (get_or shares job.channel share)) told.0.turns _ _ w.rounds tt)),
        tt,
      ),
      sinks_fair jobs ends backs told.1,
    )

    checked_stays : (t : Track) (reply : Result (Unit {0}) CheckRefused) (u : Track) → Checked t reply u → StaysFair t u
    checked_stays t reply u (more, calls, check) = calls_stay t u more calls (check_fair (length t.whole) reply [] more check)

    pruned_stays : (t : Track) (reply : Result ℕ PruneRefused) (u : Track) → Pruned t reply u → StaysFair t u
    pruned_stays t reply u (more, calls, prune) = calls_stay t u more calls (prune_fair (length t.whole) reply [] more prune)

    keepers_fair : (jobs : List (KeepWorker Known C)) → AllByRecursion (IsKeepTold shares finals) jobs → AllByRecursion (λ (k : KeepWorker Known C). AllByRecursion (IsFairOwner finals) (owners_at (k.channel ∷ []) (k.port ∷ []))) jobs
    keepers_fair [] told = tt
    keepers_fair (job ∷ jobs) told =
        (((λ below d. keep_stays Checked Pruned (IsDisk (get_or shares job.channel share)) checked_stays pruned_stays told.0.upkeeps _ _ (told.0.rounds share d) tt), tt), keepers_fair jobs told.1)

    -- ---- workers of lines that did not run

    module _ (homes : List Known) where
      unrun_fair : (places : List ℕ) (passes : List Known) → TookEach homes (λ (p : Known). p) places passes → All IsNew passes → AreSilentAt homes finals places passes → AllByRecursion (IsFairOwner finals) (owners_at places passes)
      unrun_fair [] [] took new silent = tt
      unrun_fair [] (p ∷ passes) took new silent = absurd took
      unrun_fair (place ∷ places) [] took new silent = absurd took
      unrun_fair (place ∷ places) (p ∷ passes) took new silent = (
        (λ below d.
            let home = get_or homes place d in
            let final = get_or finals place d in
            let is = silent.0 d in
            let none : own_calls (p.number ∷ []) (opening home.view.base) home.view.seen ≡ [] = none_called home p (All-head IsNew p passes new) (took.0.1 d) in
            let same : own_calls (p.number ∷ []) (opening final.view.base) final.view.seen ≡ [] =
            own_same (p.number ∷ []) (opening final.view.base) home.view.seen final.view.seen is.begins is.calls
            ∙ ap (λ (o : Opening). own_calls (p.number ∷ []) (opening o) home.view.seen) is.base ∙ none in
            subst (AreFairOwn []) (sym same) tt),
        unrun_fair places passes took.1 (All-tail IsNew p passes new) silent.1,
      )

      lines_unrun : (jobs : List (LineWorker Known I O C K)) (backs : List (LineEnded I O)) → Zips (IsLineEnded (λ (p : Known). p) homes) jobs backs → All (λ (l : LineWorker Known I O C K). All IsNew l.ports.items) jobs
          → AllByRecursion (λ (l : LineWorker Known I O C K). AreSilentAt homes finals l.channels.items l.ports.items) jobs
          → AllByRecursion (λ (l : LineWorker Known I O C K). AllByRecursion (IsFairOwner finals) (owners_at l.channels.items l.ports.items)) jobs
      lines_unrun [] [] gone new silent = tt
      lines_unrun [] (b ∷ backs) gone new silent = absurd gone
      lines_unrun (job ∷ jobs) [] gone new silent = absurd gone
      lines_unrun (job ∷ jobs) (b ∷ backs) gone new silent = (
        unrun_fair job.channels.items job.ports.items gone.0.took (All-head (λ (l : LineWorker Known I O C K). All IsNew l.ports.items) job jobs new) silent.0,
        lines_unrun jobs backs gone.1 (All-tail (λ (l : LineWorker Known I O C K). All IsNew l.ports.items) job jobs new) silent.1,
      )

      -- ---- all

      -- the calls with each worker's number are fair, in what the pass at home saw
      pub owners_fair : (jobs : Workers Known S N I O C K) (returned : Returned S N I O C) (settled : Settled S A B) → AreNew jobs → AreToldInFull sink Means moments heard talk shares homes finals jobs returned settled
          → AllByRecursion (IsFairOwner finals) (owners_of jobs)
      owners_fair jobs returned settled new full =
          let P = IsFairOwner finals in
          let k = owners_flat P (λ (k : KeepWorker Known C). owners_at (k.channel ∷ []) (k.port ∷ [])) jobs.keepers.items (keepers_fair jobs.keepers.items (recursion_from_All (IsKeepTold shares finals) jobs.keepers.items full.keepers)) in
          let s = owners_flat P (λ (s : SinkWorker Known S C). owners_at (s.channel ∷ []) (s.port ∷ [])) jobs.sinks.items (sinks_fair jobs.sinks.items settled.ends.items settled.sinks.items full.sinks) in
          let l = owners_flat P (λ (l : ListenWorker Known N C K). owners_at l.channels.items l.ports.items) jobs.listeners.items (listeners_fair jobs.listeners.items returned.listeners.items full.listeners) in
          let t = owners_flat P (λ (l : LineWorker Known I O C K). owners_at l.channels.items l.ports.items) jobs.lines.items (by full.lines) in
          owners_join P _ _ k (owners_join P _ _ s (owners_join P _ _ l t))
        where
          by : Zips (IsLineTold Means moments talk shares finals) jobs.lines.items returned.lines.items ⊎ Zips (IsLineEnded (λ (p : Known). p) homes) jobs.lines.items returned.lines.items
              → AllByRecursion (λ (l : LineWorker Known I O C K). AllByRecursion (IsFairOwner finals) (owners_at l.channels.items l.ports.items)) jobs.lines.items
          by (inl told) = lines_fair jobs.lines.items returned.lines.items told
          by (inr gone) = lines_unrun jobs.lines.items returned.lines.items gone new.lines
              (recursion_from_All (λ (l : LineWorker Known I O C K). AreSilentAt homes finals l.channels.items l.ports.items) jobs.lines.items full.silent)
