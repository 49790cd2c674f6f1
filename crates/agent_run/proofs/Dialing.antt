-- The sinks that come back of a run are of the kinds of their plans, and their dialers those of their plans.
use Rattle.std.proofs.Common.{◌≡◌, ◌∙◌, ◌<◌, ℕ, suc, List, [], ◌∷◌, length, map, take, All, Bool, Option, Result, refl, sym, ap, subst, arith, string_bytes}
use Rattle.std.proofs.lemmas.List.{take_all}
use Rattle.std.proofs.lemmas.List.Elements.{All-head}
use Rattle.event_core.specs.Content.{Content}
use Rattle.flume_host.specs.HandedOut.{HandedOut}
use Rattle.flume_host.specs.HostState.{Folders, HostState}
use Rattle.flume_host.specs.Listens.{Endpoint, IsFrom}
use Rattle.agent_plan.specs.declared.plan.SinkKind.{SinkKind}
use Rattle.agent_plan.specs.declared.plan.SinkKind.TheVariants as plan
use Rattle.agent_plan.specs.declared.plan.SinkPlan.{SinkPlan}
use Rattle.plug_in.specs.declared.sink.SinkRefused.{SinkRefused}
use Rattle.roll_sink.specs.declared.sink.RollSink.{RollSink}
use Rattle.shared_channel.specs.Passes.{Known}
use Rattle.sink_runner.specs.declared.null.NullSink.{NullSink}
use Rattle.sink_worker.specs.Rounds.{Told}
use Rattle.sink_worker.specs.declared.worker.SinkWorker.{SinkWorker}
use Rattle.two_channels.specs.declared.shared.EitherShared.{EitherShared}
use Rattle.agent_sinks.specs.Kinds.{DeliversAs}
use Rattle.agent_sinks.specs.declared.sink.AgentSink.{AgentSink}
use Rattle.agent_sinks.specs.declared.sink.AgentSink.TheVariants.{Null, Roll, Avro, Boxed}
use Rattle.avro_ends.specs.Dialing.{DialTold}
use Rattle.agent_outside.specs.Dials.{AreDialed, IsDialed, dials_of}
use Rattle.agent_outside.specs.Ends.{AreOut}
use Rattle.agent_outside.specs.Sinks.{AreOfPlans, IsOfKind}
use Rattle.agent_outside.proofs.Dialing.{are_dialed, dials_ends}
use Rattle.channel_wishes.specs.Openings.{HostTold}
use Rattle.agent_plan.specs.declared.plan.Plan.{Plan}
use Rattle.flume_host.specs.Rolled.{Rolled}
use Rattle.channel_face.specs.History.{Opening as Begun, Step}
use Rattle.channel_face.specs.Machine.{State}
use Rattle.source_put.specs.Chains.{Meaning}
use Rattle.source_worker.specs.Rounds.{Heard}
use Rattle.line_worker.specs.Workers.{Talk}
use Rattle.channel_lock.specs.Turns.{HasAll}
use Rattle.two_channels.specs.declared.port.EitherPort.{EitherPort}
use Rattle.run_tracks.specs.Closes.{IsClosed}
use Rattle.run_tracks.specs.Homes.{EachTook}
use Rattle.run_tracks.specs.Stops.{IsKept, IsMended}
use Rattle.run_tracks.specs.Places.{Zips}
use Rattle.agent_run.specs.Run.{CanDial, DialsMayReturn, MayReturn, StandInRows}
use Rattle.run_opening.specs.Staff.{IsSinkOf}
use Rattle.grouped_sinks.specs.Picks.{AreDealt}
use Rattle.grouped_sinks.specs.Rows.{IsOrder, places_of}
use Rattle.grouped_sinks.specs.declared.row.SinkRow.{SinkRow}
use Rattle.grouped_sinks.specs.declared.runner.Runner.{Runner}
use Rattle.run_tracks.proofs.Homing.{zips_length}
use Rattle.std.proofs.lemmas.Option.{slice_get_within}
use Rattle.run_settling.specs.Draining.{IsDrainedAt, IsSinkHome}
use Rattle.agent_run.specs.Finals.{RunsAreTold, finals_of}
use Rattle.agent_run.specs.Joined.{HaveReturned}
use Rattle.run_opening.specs.Opening.{IsManned}
use Rattle.run_opening.specs.Outside.{IsOutside}
use Rattle.run_working.specs.Runs.{Runs}
use Rattle.run_settling.specs.Settling.{AreSettled}
use Rattle.run_settling.specs.declared.at_home.AtHome.{AtHome}
use Rattle.agent_run.specs.declared.joined.Joined.{Joined}
use Rattle.run_opening.specs.declared.opening.Manned.{Manned}
use Rattle.run_opening.specs.declared.opening.Opening.{Opening}
use Rattle.run_settling.specs.declared.settling.Settled.{Settled}
use Rattle.run_staff.specs.declared.workers.Returned.{Returned}
use Rattle.run_settling.proofs.Chaining.{drained_ends}
use Rattle.grouped_sinks.specs.Splits.{AllHanded, Handed, RunnersSplit}
use Rattle.agent_run.proofs.Course.{there}
use Rattle.run_opening.proofs.Naming.{is_out}
use Rattle.agent_run.proofs.Parting.{find_row, first_of, have_members, part_at, some_same, zips_by_place}
use Rattle.agent_run.proofs.Sharing.{RowsShared, rows_shared}

module _ {R A B : Type 0} (dial : DialTold A) where
  -- a sink of the same kind; the dialer of one of Avro was handed out for the same address and port
  abbrev pub IsSameSink : AgentSink R A B → AgentSink R A B → Type 0
  IsSameSink s t = DeliversAs (λ a b. Unit {0}) (λ a b. Unit {0}) (λ a b. dial.endpoint b ≡ dial.endpoint a) (λ a b. Unit {0}) s t

  same_self : (s : AgentSink R A B) → IsSameSink s s
  same_self (Null a) = tt
  same_self (Roll a) = tt
  same_self (Avro a) = refl
  same_self (Boxed a) = tt

  same_then : (r s t : AgentSink R A B) → IsSameSink r s → IsSameSink s t → IsSameSink r t
  same_then (Null a) (Null b) (Null c) f g = tt
  same_then (Roll a) (Roll b) (Roll c) f g = tt
  same_then (Avro a) (Avro b) (Avro c) f g = g ∙ f
  same_then (Boxed a) (Boxed b) (Boxed c) f g = tt
  same_then (Null a) (Null b) t f g = absurd g
  same_then (Roll a) (Roll b) t f g = absurd g
  same_then (Avro a) (Avro b) t f g = absurd g
  same_then (Boxed a) (Boxed b) t f g = absurd g
  same_then r s t f g = absurd f

  -- where each delivery of a sink of Avro keeps its dialer's address and port, a delivery of any sink keeps it so
  pub agent_keeps : (null : NullSink → NullSink → Type 0) (roll : RollSink R → RollSink R → Type 0) (avro : A → A → Type 0) (boxed : B → B → Type 0)
      → ((a b : A) → avro a b → dial.endpoint b ≡ dial.endpoint a) → (s t : AgentSink R A B) → DeliversAs null roll avro boxed s t → IsSameSink s t
  agent_keeps null roll avro boxed keeps (Null a) (Null b) is = tt
  agent_keeps null roll avro boxed keeps (Roll a) (Roll b) is = tt
  agent_keeps null roll avro boxed keeps (Avro a) (Avro b) is = keeps a b is
  agent_keeps null roll avro boxed keeps (Boxed a) (Boxed b) is = tt
  agent_keeps null roll avro boxed keeps s t is = absurd is

  -- ---- by their plans

  kind_stays : (f : Folders) (kind : SinkKind) (s t : AgentSink R A B) → IsSameSink s t → IsOfKind f kind s → IsOfKind f kind t
  kind_stays f plan.Null (Null a) (Null b) same of = tt
  kind_stays f (plan.Roll folder interval) (Roll a) (Roll b) same of = of
  kind_stays f (plan.Avro host port) (Avro a) (Avro b) same of = tt
  kind_stays f (plan.Plugin name) (Boxed a) (Boxed b) same of = tt
  kind_stays f plan.Null (Null a) t same of = absurd same
  kind_stays f (plan.Roll folder interval) (Roll a) t same of = absurd same
  kind_stays f (plan.Avro host port) (Avro a) t same of = absurd same
  kind_stays f (plan.Plugin name) (Boxed a) t same of = absurd same
  kind_stays f kind s t same of = absurd of

  -- sinks that stayed the same are of the kinds of their plans, as they were
  pub kinds_stay : (f : Folders) (plans : List SinkPlan) (old new : List (AgentSink R A B)) → Zips IsSameSink old new → AreOfPlans f plans old → AreOfPlans f plans new
  kinds_stay f plans [] [] same are = tt
  kinds_stay f plans [] (t ∷ new) same are = absurd same
  kinds_stay f plans (s ∷ old) [] same are = tt
  kinds_stay f [] (s ∷ old) (t ∷ new) same are = absurd are
  kinds_stay f (p ∷ plans) (s ∷ old) (t ∷ new) same are = (kind_stays f p.kind s t same.0 are.0, kinds_stay f plans old new same.1 are.1)

  dial_stays : (kind : SinkKind) (s t : AgentSink R A B) → IsSameSink s t → IsDialed dial kind s → IsDialed dial kind t
  dial_stays plan.Null s t same is = tt
  dial_stays (plan.Roll folder interval) s t same is = tt
  dial_stays (plan.Avro host port) (Avro a) (Avro b) same is = subst (λ (e : Option Endpoint). IsFrom (string_bytes host) port e) (sym same) is
  dial_stays (plan.Avro host port) (Avro a) (Null b) same is = tt
  dial_stays (plan.Avro host port) (Avro a) (Roll b) same is = tt
  dial_stays (plan.Avro host port) (Avro a) (Boxed b) same is = tt
  dial_stays (plan.Avro host port) (Null a) (Avro b) same is = absurd same
  dial_stays (plan.Avro host port) (Roll a) (Avro b) same is = absurd same
  dial_stays (plan.Avro host port) (Boxed a) (Avro b) same is = absurd same
  dial_stays (plan.Avro host port) s t same is = tt
  dial_stays (plan.Plugin name) s t same is = tt

  dials_stay : (plans : List SinkPlan) (old new : List (AgentSink R A B)) → Zips IsSameSink old new → AreDialed dial plans old → AreDialed dial plans new
  dials_stay plans [] [] same are = tt
  dials_stay plans [] (t ∷ new) same are = absurd same
  dials_stay plans (s ∷ old) [] same are = tt
  dials_stay [] (s ∷ old) (t ∷ new) same are = tt
  dials_stay (p ∷ plans) (s ∷ old) (t ∷ new) same are = (dial_stays p.kind s t same.0 are.0, dials_stay plans old new same.1 are.1)

  -- sinks that stayed the same are as many as before
  pub same_many : (old new : List (AgentSink R A B)) → Zips IsSameSink old new → length new ≡ length old
  same_many [] [] same = refl
  same_many [] (t ∷ new) same = absurd same
  same_many (s ∷ old) [] same = absurd same
  same_many (s ∷ old) (t ∷ new) same = ap suc (same_many old new same.1)

  -- the dialers of sinks that stayed the same may be given back
  pub dials_stay_out : (f : Folders) (plans : List SinkPlan) (old new : List (AgentSink R A B)) (all : Option HandedOut) → CanDial dial f plans old all → Zips IsSameSink old new
      → DialsMayReturn dial plans new all
  dials_stay_out f plans old new all can same =
      let many : length new ≡ length plans = same_many old new same ∙ can.many in
      let whole : take (length new) plans ≡ plans = ap (λ (n : ℕ). take n plans) many ∙ take_all (length plans) plans (omega arith) in
      let ends = dials_ends dial f plans new (kinds_stay f plans old new same can.are) ∙ ap dials_of whole in
      record { dialed = dials_stay plans old new same can.dialed; out = subst (λ (l : List Endpoint). AreOut l all) (sym ends) can.out }

  -- ---- over a run

  module _ (deliver : AgentSink R A B → List Content → ℕ → Result (Unit {0}) SinkRefused → AgentSink R A B → Type 0)
      (keeps : (s : AgentSink R A B) (batch : List Content) (at : ℕ) (answer : Result (Unit {0}) SinkRefused) (t : AgentSink R A B) → deliver s batch at answer t → IsSameSink s t) where
    handed_same : (done : List Handed) (s t : AgentSink R A B) → AllHanded deliver done s t → IsSameSink s t
    handed_same [] s t same = subst (IsSameSink s) (sym same) (same_self s)
    handed_same (h ∷ done) s t (next, one, rest) = same_then s next t (keeps s h.batch h.moment h.answer next one) (handed_same done next t rest)

    -- what comes back of each sink of a plan, in its row's runner, is the same sink
    pub sinks_stay : {X Y G C : Type 0} (sink : Told (Runner (AgentSink R A B) G)) (moments : C → Option (ℕ → ℕ)) (split : RunnersSplit deliver sink.delivers) (shares : List (EitherShared X Y))
        (finals : List Known) (rows : List SinkRow) (jobs : List (SinkWorker Known (Runner (AgentSink R A B) G) C)) (runners : List (Runner (AgentSink R A B) G))
        (shared : RowsShared deliver sink moments split shares finals jobs runners) (sinks backs : List (AgentSink R A B))
        (dealt : AreDealt sinks rows (map (λ (job : SinkWorker Known (Runner (AgentSink R A B) G) C). job.sink) jobs)) (came : AreDealt backs rows runners) (as_many : length jobs ≡ length rows)
        → IsOrder (length sinks) (places_of rows) → length backs ≡ length sinks → Zips IsSameSink sinks backs
    sinks_stay sink moments split shares finals rows jobs runners shared sinks backs dealt came as_many order many =
        zips_by_place IsSameSink sinks backs many
        (λ k s t was is.
        let found = find_row rows k (order.all k (slice_get_within sinks k s was)) in
        let job = first_of jobs found.at (let l = found.below in omega (arith, l, as_many)) in
        let mine = part_at deliver sink moments split shares finals rows jobs runners shared sinks backs dealt came as_many found.at found.i k found.row job [] found.below found.here in
        let old : mine.old ≡ s = some_same mine.old s (sym mine.was ∙ was) in
        let new : mine.new ≡ t = some_same mine.new t (sym mine.is ∙ is) in
        subst (λ (x : AgentSink R A B × AgentSink R A B). IsSameSink x.0 x.1) (λ i. (old i, new i)) (handed_same mine.part.done mine.old mine.new mine.part.chain))

-- some channel, where there is a row of sinks
pub some_share : {A B S C : Type 0} (shares : List (EitherShared A B)) (homes : List Known) (ws : List (SinkWorker AtHome S C)) (place : ℕ) → All (IsSinkHome homes) ws
    → place < length ws → length shares ≡ length homes → EitherShared A B
some_share shares homes [] place at below many = absurd (omega (arith, below))
some_share shares homes (w ∷ ws) place at below many = there shares w.channel (let l = (All-head (IsSinkHome homes) w ws at).0 in omega (arith, l, many))

-- what was opened may be given back
can_dial : {R A B N : Type 0} (rolled : R → Option Rolled) (faults : R → ℕ) (dial : DialTold A) (Fresh : Endpoint → Option HandedOut → N → Type 0) (p : Plan) (objects : List (Option B)) (places : List ℕ) (a b : HostTold)
    (sinks : List (AgentSink R A B)) (bare : List N) → IsOutside rolled faults dial Fresh p objects places a b sinks bare → CanDial dial b.folders p.sinks.items sinks b.state.dialers
can_dial rolled faults dial Fresh p objects places a b sinks bare is =
    let plans = p.sinks.items in
    let whole : take (length sinks) plans ≡ plans = ap (λ (n : ℕ). take n plans) is.many ∙ take_all (length plans) plans (omega arith) in
    let same : b.state.dialers ≡ is.between.dialers = ap (λ (s : HostState). s.dialers) is.opened.out.state in
    record {
      many = is.many;
      are = is.sinks.are;
      dialed = are_dialed dial a.state.dialers plans sinks is.dials.made;
      out = subst (λ (x : List Endpoint × Option HandedOut). AreOut x.0 x.1) (λ i. (ap dials_of whole i, sym same i)) (is_out (dials_of (take (length sinks) plans)) a.state.dialers is.between.dialers is.dials.out.told);
    }

-- so may what stands in rows
pub stand_in_rows : {R A B N G : Type 0} (rolled : R → Option Rolled) (faults : R → ℕ) (dial : DialTold A) (Fresh : Endpoint → Option HandedOut → N → Type 0) (p : Plan) (objects : List (Option B)) (places : List ℕ) (a b : HostTold)
    (rows : List SinkRow) (sinks : List (AgentSink R A B)) (bare : List N) (runners : List (Runner (AgentSink R A B) G)) → IsOutside rolled faults dial Fresh p objects places a b sinks bare
    → AreDealt sinks rows runners → StandInRows dial b.folders p.sinks.items rows runners b.state.dialers
stand_in_rows rolled faults dial Fresh p objects places a b rows sinks bare runners is dealt =
    record { sinks = sinks; dealt = dealt; can = can_dial rolled faults dial Fresh p objects places a b sinks bare is }

module _ {R X Y P Q G N I O C K Z : Type 0} (runs : Runs (EitherPort Z X Y) (Runner (AgentSink P Q R) G) N I O C K) (deliver : AgentSink P Q R → List Content → ℕ → Result (Unit {0}) SinkRefused → AgentSink P Q R → Type 0)
    (sink : Told (Runner (AgentSink P Q R) G)) (Means : Meaning K) (moments : C → Option (ℕ → ℕ)) (heard : N → Heard)
    (talk : I → O → Talk) (disk : X → Begun → List Step → Type 0) (tells : X → Bool) (moment : X → ℕ) (laid : X → State → Type 0) (pruned : X → Type 0) (memory : Y → Begun → List Step → Type 0) (tells' : Y → Bool) (dial : DialTold Q) where
  -- What comes back of the sinks of a run may be given back, where what was opened could be; and each row has as many sinks as before.
  pub may_return : RunsAreTold runs sink Means moments heard talk disk tells moment laid pruned memory tells' → RunnersSplit deliver sink.delivers
      → ((s : AgentSink P Q R) (batch : List Content) (at : ℕ) (answer : Result (Unit {0}) SinkRefused) (t : AgentSink P Q R) → deliver s batch at answer t → IsSameSink dial s t)
      → (plans : List SinkPlan) (rows : List SinkRow) → IsOrder (length plans) (places_of rows)
      → (o : Opening X Y (Runner (AgentSink P Q R) G) N I O C K) (m : Manned X Y (Runner (AgentSink P Q R) G) N I O C K) (homes : List Known) (joined : Joined (Runner (AgentSink P Q R) G) C)
      (returned : Returned (Runner (AgentSink P Q R) G) N I O C) (settled : Settled (Runner (AgentSink P Q R) G) X Y)
      → IsManned rows o m → EachTook m.crew.homes.items homes → All (λ (p : Known). HasAll p.view) homes
      → HaveReturned runs sink Means moments heard talk m.crew.shares.items homes m.crew.jobs returned
      → joined.sinks ≡ returned.sinks → All (IsSinkHome homes) joined.sinks.items → length m.settled.report.items ≡ length homes
      → AreSettled (IsDrainedAt sink moments) (IsKept disk tells moment laid pruned) (IsMended disk tells moment) (IsClosed disk tells memory tells') m.crew.shares.items homes joined.sinks.items m.closes.items m.settled.report.items settled
      → (f : Folders) (all : Option HandedOut) → StandInRows dial f plans rows o.outside.sinks.items all
      → MayReturn dial plans rows settled.sinks.items all
  may_return told split keeps plans rows order o m homes joined returned settled is took full back same home named settles f all stand =
      let whole = (told rows o m homes joined returned settled is took full back same home named settles).sinks in
      let many : length m.crew.shares.items ≡ length homes = sym is.homes.as_many ∙ sym took.as_many in
      let ran = drained_ends (IsDrainedAt sink moments) joined.sinks.items homes settled.ends.items settled.sinks.items settles.drained settles.drains in
      let jobs = m.crew.jobs.sinks.items in
      let shared = rows_shared deliver sink moments split m.crew.shares.items (finals_of settled) jobs settled.ends.items settled.sinks.items
      (λ place below. some_share m.crew.shares.items homes joined.sinks.items place home (let e = ran.0 in omega (arith, below, e)) many) whole in
      let as_many : length jobs ≡ length rows = sym (zips_length IsSinkOf rows jobs is.sinks) in
      let dealt = subst (λ (l : List (Runner (AgentSink P Q R) G)). AreDealt stand.sinks rows l) (sym is.own_sinks) stand.dealt in
      record {
        members = have_members deliver sink moments split m.crew.shares.items (finals_of settled) stand.sinks rows jobs settled.sinks.items shared dealt as_many;
        each = λ sinks long came.
            dials_stay_out dial f plans stand.sinks sinks all stand.can
            (sinks_stay dial deliver keeps sink moments split m.crew.shares.items (finals_of settled) rows jobs settled.sinks.items shared stand.sinks sinks dealt came as_many
            (subst (λ (n : ℕ). IsOrder n (places_of rows)) (sym stand.can.many) order) (long ∙ sym stand.can.many));
      }
