-- Each line of a run whose disks counted no fault was answered OK but for limits.
use Rattle.std.proofs.Common.{◌≡◌, ◌∙◌, ◌<◌, ◌≤◌, ℕ, List, [], ◌∷◌, All, Bool, Option, Result, append-nil, get_or, length, map, sym, ap, subst, true≢false, arith}
use Rattle.std.specs.List.{AllByRecursion}
use Rattle.std.proofs.lemmas.List.{length-map}
use Rattle.std.proofs.lemmas.List.Elements.{All-from_recursion, recursion_from_All}
use Rattle.std.specs.declared.alloc.Global.{Global}
use Rattle.std.specs.declared.vec.Vec.{Vec}
use Rattle.atomic_table.specs.Seated.{TableId}
use Rattle.event_core.specs.Content.{Content}
use Rattle.channel_face.specs.History.{Opening, Step}
use Rattle.channel_face.specs.Machine.{State}
use Rattle.agent_plan.specs.declared.plan.Plan.{Plan}
use Rattle.flume_host.specs.Causes.{Rose}
use Rattle.flume_host.specs.HostState.{HostState}
use Rattle.flume_host.specs.Rolled.{Rolled}
use Rattle.flume_host.specs.Told.{Told as DiskTold}
use Rattle.file_channel.specs.Stands.{FileState, StandsOver}
use Rattle.memory_channel.specs.declared.channel.MemoryChannel.{MemoryChannel}
use Rattle.grouped_sinks.specs.declared.row.SinkRow.{SinkRow}
use Rattle.grouped_sinks.specs.declared.runner.Runner.{Runner}
use Rattle.plug_in.specs.declared.sink.SinkRefused.{SinkRefused}
use Rattle.agent_sinks.specs.declared.sink.AgentSink.{AgentSink}
use Rattle.avro_ends.specs.Dialing.{DialTold}
use Rattle.shared_channel.specs.Passes.{Known}
use Rattle.sink_worker.specs.Rounds.{Told}
use Rattle.source_put.specs.Chains.{Meaning}
use Rattle.source_worker.specs.Rounds.{Heard}
use Rattle.line_session.specs.declared.session.SessionEnd.TheVariants as session
use Rattle.line_worker.specs.Workers.{talk_of}
use Rattle.two_channels.specs.Shares.{table_of}
use Rattle.two_channels.specs.declared.port.EitherPort.{EitherPort}
use Rattle.run_tracks.specs.Homes.{IsAt}
use Rattle.run_tracks.specs.Places.{Zips}
use Rattle.channel_wishes.specs.Openings.{HostTold}
use Rattle.channel_wishes.specs.Opened.{AreOpened}
use Rattle.channel_wishes.specs.declared.opened.OpenedChannel.{OpenedChannel}
use Rattle.channel_wishes.specs.declared.wish.ChannelWish.{ChannelWish}
use Rattle.agent_end.specs.declared.ends.RunEnds.{RunEnds}
use Rattle.run_staff.specs.Ports.{AreLinePorts}
use Rattle.agent_run.specs.Finals.{AreToldInFull, finals_of}
use Rattle.run_opening.specs.Labels.{label_of, users_of}
use Rattle.run_opening.specs.Prepared.{IsPlanned}
use Rattle.agent_run.specs.Run.{IsGivenBack}
use Rattle.agent_run.specs.RunDid.{RunDid, passes_of}
use Rattle.run_working.specs.Runs.{Runs}
use Rattle.sound_runs.specs.SoundRun.{AreUndisturbed, DialoguesAreSound, IsSoundRun, IsUndisturbedRun, IsWellRun, NothingFailed}
use Rattle.run_opening.specs.declared.opening.Manned.{Manned}
use Rattle.run_opening.specs.declared.channel_end.ChannelEnd.{ChannelEnd}
use Rattle.run_opening.specs.declared.outside.Outside.{Outside}
use Rattle.run_opening.specs.declared.preparing.Prepared.{Prepared}
use Rattle.agent_run.proofs.Comeback.{opened_state}
use Rattle.agent_run.proofs.Course.{there}
use Rattle.run_opening.proofs.Labelling.{labels_many}
use Rattle.run_opening.proofs.Putting.{wishes_some}

-- a worker's channels are among the shared ones
places_below : {S : Type 0} (table : S → TableId) (shares : List S) (places : List ℕ) (passes : List Known) → Zips (λ place p. IsAt table shares place p) places passes → AllByRecursion (λ (place : ℕ). place < length shares) places
places_below table shares [] [] at = tt
places_below table shares [] (p ∷ passes) at = absurd at
places_below table shares (place ∷ places) [] at = absurd at
places_below table shares (place ∷ places) (p ∷ passes) at = (at.0.below, places_below table shares places passes at.1)

first_job : {J : Type 0} (P : J → Type 0) (jobs : List J) (job : J) → jobs ≡ job ∷ [] → AllByRecursion P jobs → P job
first_job P jobs job one all = (subst (AllByRecursion P) one all).0

module _ {R D L A G N I O C K Q : Type 0} (runs : Runs (EitherPort R (D × FileState) MemoryChannel) (Runner (AgentSink L A Q) G) N I O C K)
    (sink : Told (Runner (AgentSink L A Q) G)) (Means : Meaning K) (moments : C → Option (ℕ → ℕ)) (heard : N → Heard)
    (left : I → Option (List ℕ)) (read_faults : I → ℕ) (took handed : O → Option (List ℕ)) (write_faults : O → ℕ)
    (told : D → Option DiskTold) (faults : D → ℕ) (tells : D × FileState → Bool) (moment : D × FileState → ℕ) (laid : D × FileState → State → Type 0) (pruned : D × FileState → Type 0)
    (memory : MemoryChannel → Opening → List Step → Type 0) (tells' : MemoryChannel → Bool)
    (rolled : L → Option Rolled) (dial : DialTold A)
    (plan : Plan) (planned : IsPlanned plan) (Drafted : Prepared K C → Type 0) (Opens : List SinkRow → Prepared K C → HostTold → HostTold → Outside (Runner (AgentSink L A Q) G) N → Type 0)
    (Given : Manned (D × FileState) MemoryChannel (Runner (AgentSink L A Q) G) N I O C K → List N → HostState → HostState → Type 0)
    (opens : (rows : List SinkRow) (p : Prepared K C) (a b : HostTold) (out : Outside (Runner (AgentSink L A Q) G) N) → Opens rows p a b out → b.state.disk_faults ≡ a.state.disk_faults)
    (nothing : NothingFailed {O = O} sink Means moments heard (talk_of left read_faults took handed write_faults) told faults tells moment laid pruned memory tells')
    (dialogues : DialoguesAreSound (D × FileState) MemoryChannel I O Means moments)
    (delivers : Q → List Content → ℕ → Result (Unit {0}) SinkRefused → Q → Type 0) (objects : List (Option Q)) (ends : RunEnds) (channels : List ChannelEnd) (a b : HostTold) where
  abbrev disk : D × FileState → Opening → List Step → Type 0
  disk c = StandsOver (told c.0) (faults c.0) c.1

  abbrev Did : Type 0
  Did = RunDid runs sink Means moments heard left read_faults took handed write_faults disk tells moment laid pruned memory tells' plan Drafted Opens Given
      (λ rows. IsGivenBack rolled dial told faults plan.sinks.items rows) delivers objects ends channels a b

  -- nothing failed in the run's channels
  pub run_undisturbed : (did : Did) → IsUndisturbedRun did
  run_undisturbed did steady =
      let s = did.steps in
      let o = s.ran in
      let r = o.goes in
      let back = r.back in
      let shares = r.manned.crew.shares.items in
      let wishes : r.manned.wishes.items ≡ s.made.wishes.items =
      ap (λ (v : Vec ChannelWish Global). v.items) r.is_manned.wishes ∙ ap (λ (p : Prepared K C). p.wishes.items) o.same_made in
      let opened : AreOpened r.manned.wishes.items o.opening.opened.items a s.behind =
      subst (λ (x : List ChannelWish × List (OpenedChannel (D × FileState) MemoryChannel)). AreOpened x.0 x.1 a s.behind) (λ i. (sym wishes i, sym o.same_channels i)) s.opened in
      let some : All (λ (wish : ChannelWish). 1 ≤ wish.limits.txn_capacity) r.manned.wishes.items =
      subst (λ (l : List ChannelWish). All (λ (wish : ChannelWish). 1 ≤ wish.limits.txn_capacity) l) (sym wishes) (wishes_some _ plan s.made.wishes.items planned s.is_prepared.wishes) in
      let first : back.behind_sinks.state.disk_faults ≡ a.state.disk_faults =
      ap (λ (h : HostState). h.disk_faults) back.dials.state ∙ ap (λ (h : HostState). h.disk_faults) r.rest ∙ ap (λ (h : HostState). h.disk_faults) r.taken
      ∙ opens s.rows s.made s.behind o.between o.opening.outside o.opens ∙ ap (λ (h : HostState). h.disk_faults) (opened_state s.made.wishes.items s.channels a s.behind s.opened) in
      let last : b.state.disk_faults ≡ back.behind_disks.state.disk_faults = ap (λ (h : HostState). h.disk_faults) back.rest in
      let none : Rose back.behind_sinks.state.disk_faults back.behind_disks.state.disk_faults → ⊥ = λ rose. steady (subst (λ (x : ℕ × ℕ). Rose x.0 x.1) (λ i. (first i, sym last i)) rose) in
      let full : AreToldInFull sink Means moments heard (talk_of left read_faults took handed write_faults) shares r.homes (finals_of r.settled) r.manned.crew.jobs r.joins.returned r.settled =
      subst (λ (l : List Known). AreToldInFull sink Means moments heard (talk_of left read_faults took handed write_faults) shares r.homes l r.manned.crew.jobs r.joins.returned r.settled) r.passes did.full in
      subst AreUndisturbed (sym r.passes)
      (nothing s.rows o.opening r.manned r.homes r.joined.sinks.items r.joins.returned r.settled a s.behind back.behind_sinks back.behind_disks opened some r.is_manned r.took r.home r.named r.settles full back.disks none)

  -- so the run ended well, or for want of memory
  pub run_well : (did : Did) → IsWellRun did
  run_well did steady calm readable =
      let finals = passes_of channels in
      let many : length finals ≡ length plan.channels.items =
      length-map channels (λ (end : ChannelEnd). end.pass) ∙ sym (length-map channels label_of)
      ∙ labels_many (users_of plan did.steps.made.keepers.items did.steps.rows did.steps.made.listeners.items did.steps.made.lines.items) 0 plan.channels.items (map label_of channels) did.labels in
      did.causes.well steady
      (λ some.
      let below : some.place < length finals = omega (arith, some.below, many) in
      let final = get_or finals some.place (there finals some.place below) in
      let whole = final.view.seen in
      let sound = (run_undisturbed did calm some.place (there finals some.place below) below).unbroken whole ([], append-nil whole) in
      absurd (true≢false (sym (some.is (there finals some.place below)) ∙ sound)))
      readable

  -- and each line of standard input was answered OK but for limits
  pub run_sound : (did : Did) → IsSoundRun did
  run_sound did share zero steady job one =
      let r = did.steps.ran.goes in
      let shares = r.manned.crew.shares.items in
      let many : length shares ≡ length (passes_of channels) =
      sym (did.full.goes_on.as_many ∙ r.took.as_many ∙ r.is_manned.homes.as_many) in
      let lines = recursion_from_All (AreLinePorts table_of shares (λ (p : Known). p)) r.manned.crew.jobs.lines.items r.is_manned.workers.lines in
      let at = first_job (AreLinePorts table_of shares (λ (p : Known). p)) r.manned.crew.jobs.lines.items job one lines in
      let below : AllByRecursion (λ (place : ℕ). place < length (passes_of channels)) job.channels.items =
      subst (λ (n : ℕ). AllByRecursion (λ (place : ℕ). place < n) job.channels.items) many (places_below table_of shares job.channels.items job.ports.items at) in
      dialogues share shares (passes_of channels) job session.End _ _ ((did.served zero).dialogue job one) (run_undisturbed did steady)
      (All-from_recursion (λ (place : ℕ). place < length (passes_of channels)) job.channels.items below)
