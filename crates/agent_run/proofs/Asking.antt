-- What the Avro sinks of a run asked on the links of their dialers.
use Rattle.std.proofs.Common.{◌≡◌, ◌∙◌, ◌<◌, ◌+◌, ℕ, suc, List, [], ◌∷◌, ◌++◌, length, map, take, Option, Some, None, Result, Ok, Err, get_or, slice_get, reverse, refl, sym, ap, subst, arith, string_bytes, zero-add}
use Rattle.std.specs.List.{AllByRecursion}
use Rattle.channel_face.specs.Faces.{Own}
use Rattle.event_core.specs.Content.{Content}
use Rattle.agent_plan.specs.declared.plan.SinkKind.{SinkKind}
use Rattle.agent_plan.specs.declared.plan.SinkKind.TheVariants as plan
use Rattle.agent_plan.specs.declared.plan.SinkPlan.{SinkPlan}
use Rattle.flume_host.specs.HandedOut.{CameBack, HandedOut, fresh_links}
use Rattle.flume_host.specs.HostState.{Folders, HostState}
use Rattle.flume_host.specs.Links.{LinkTold}
use Rattle.flume_host.specs.Listens.{Endpoint, LinksTold, no_links}
use Rattle.flume_host.specs.Rolled.{Rolled}
use Rattle.flume_host.specs.Told.{Tells}
use Rattle.flume_host.proofs.Telling.{follows}
use Rattle.plug_in.specs.declared.sink.SinkRefused.{SinkRefused}
use Rattle.roll_sink.specs.Rolls.{Rolls}
use Rattle.roll_sink.specs.States.{roll_answer, state_of}
use Rattle.roll_sink.specs.declared.sink.RollSink.{RollSink}
use Rattle.shared_channel.specs.Passes.{Known}
use Rattle.sink_runner.specs.declared.null.NullSink.{NullSink}
use Rattle.sink_worker.specs.Rounds.{Told}
use Rattle.sink_worker.specs.declared.worker.SinkWorker.{SinkWorker}
use Rattle.two_channels.specs.declared.shared.EitherShared.{EitherShared}
use Rattle.agent_sinks.specs.Kinds.{DeliversAs}
use Rattle.agent_sinks.specs.declared.sink.AgentSink.{AgentSink}
use Rattle.agent_sinks.specs.declared.sink.AgentSink.TheVariants.{Null, Roll, Avro, Boxed}
use Rattle.avro_ends.specs.Deliveries.{Delivers, HasBack, SinkLinks, sink_answer}
use Rattle.avro_ends.specs.Dialing.{DialTold, closed_links}
use Rattle.avro_ends.specs.declared.open.Open.{Open}
use Rattle.avro_ends.specs.declared.refused.DeliverRefused.{DeliverRefused}
use Rattle.avro_ends.specs.declared.refused.DeliverRefused.TheVariants.{LinkFault, Ended, Silent, Refused, WrongSerial, BadReply, Turns, NoMemory}
use Rattle.avro_requests.specs.Requests.{AllDeliver, Delivery, RequestsAreOnLinks, delivered, if_ok}
use Rattle.agent_outside.specs.Dials.{DialsOpened, HasNewDial, HaveNewDials, IsNewDial, dial_back, dials_back, dials_of}
use Rattle.agent_outside.specs.Ends.{AllBack, count_at, ends_of}
use Rattle.agent_outside.specs.Listening.{AllOut}
use Rattle.agent_outside.specs.Sinks.{AreOfPlans, IsOfKind}
use Rattle.agent_outside.proofs.Dialing.{dials_ends}
use Rattle.run_tracks.specs.Places.{Zips}
use Rattle.agent_run.specs.DialedTold.{AreDialsBack, AskedAt, DialsTold, IsDialBack, RequestsTold}
use Rattle.agent_run.specs.RolledTold.{WasTaken, calls_of}
use Rattle.agent_run.proofs.Dialing.{IsSameSink, agent_keeps, kinds_stay, same_many}
use Rattle.grouped_sinks.specs.Picks.{AreDealt}
use Rattle.grouped_sinks.specs.Rows.{IsOrder, places_of}
use Rattle.grouped_sinks.specs.Splits.{AllHanded, Handed, RunnersSplit, ok_batches, ok_of, taken_at}
use Rattle.grouped_sinks.specs.declared.row.SinkRow.{SinkRow}
use Rattle.grouped_sinks.specs.declared.runner.Runner.{Runner}
use Rattle.std.proofs.lemmas.Option.{slice_get_within}
use Rattle.agent_run.proofs.Handing.{WasTakenBehind}
use Rattle.agent_run.proofs.Sharing.{Part, RowsShared}
use Rattle.agent_run.proofs.Parting.{find_row, first_of, part_at, some_same}

-- ---- one delivery

module _ {P D L : Type 0} (links_of : P → SinkLinks D L) (links : D → Option LinksTold) (troubles : D → ℕ) (told : L → Option LinkTold) (faults : L → ℕ) (endpoint : D → Option Endpoint)
    (batch : List Content) (answer : Result (Unit {0}) SinkRefused) where
  -- a delivery of a sink of Avro
  abbrev pub AvroDelivers : P → P → Type 0
  AvroDelivers x y =
      (said : Result (Unit {0}) DeliverRefused) × (answer ≡ sink_answer said) × Delivers links troubles told faults (links_of x) batch said (links_of y)
      × (endpoint (links_of y).dialer ≡ endpoint (links_of x).dialer) × (HasBack (links (links_of x).dialer) (links_of x).opened → HasBack (links (links_of y).dialer) (links_of y).opened)

module _ {R P Q D L : Type 0} (rolled : R → Option Rolled) (links_of : P → SinkLinks D L) (links : D → Option LinksTold) (troubles : D → ℕ) (told : L → Option LinkTold) (faults : L → ℕ) (endpoint : D → Option Endpoint)
    (batch : List Content) (moment : ℕ) (answer : Result (Unit {0}) SinkRefused) where
  -- by such a delivery a sink of Avro stays one
  pub agent_asks : (s : P) (b : AgentSink R P Q) → DeliversAs (λ (x y : NullSink). Unit {0}) (λ (x y : RollSink R). Unit {0}) (AvroDelivers links_of links troubles told faults endpoint batch answer) (λ (x y : Q). Unit {0}) (Avro s) b
      → (t : P) × (b ≡ Avro t) × (said : Result (Unit {0}) DeliverRefused) × (answer ≡ sink_answer said) × Delivers links troubles told faults (links_of s) batch said (links_of t)
  agent_asks s (Null t) is = absurd is
  agent_asks s (Roll t) is = absurd is
  agent_asks s (Avro t) is = (t, refl, is.0, is.1, is.2)
  agent_asks s (Boxed t) is = absurd is

  -- a delivery of any sink keeps its kind, and the address and port of its dialer, whatever one that was handed in does
  pub agent_stays : (boxed : Q → Q → Type 0) (dial : DialTold P) → ((x : P) → dial.endpoint x ≡ endpoint (links_of x).dialer) → (s t : AgentSink R P Q)
      → DeliversAs (λ (x y : NullSink). answer ≡ Ok tt) (λ (x y : RollSink R). Rolls (state_of x) batch moment (roll_answer answer) (state_of y) (rolled x.dir) (rolled y.dir)) (AvroDelivers links_of links troubles told faults endpoint batch answer) boxed s t
      → IsSameSink dial s t
  agent_stays boxed dial same s t is =
      agent_keeps dial (λ (x y : NullSink). answer ≡ Ok tt) (λ (x y : RollSink R). Rolls (state_of x) batch moment (roll_answer answer) (state_of y) (rolled x.dir) (rolled y.dir)) (AvroDelivers links_of links troubles told faults endpoint batch answer) boxed
      (λ a b d. same b ∙ d.3 ∙ sym (same a)) s t is

ok_same : (said : Result (Unit {0}) DeliverRefused) (batch : List Content) → if_ok said batch ≡ ok_of (sink_answer said) batch
ok_same (Ok done) batch = refl
ok_same (Err LinkFault) batch = refl
ok_same (Err Ended) batch = refl
ok_same (Err Silent) batch = refl
ok_same (Err (Refused status)) batch = refl
ok_same (Err (WrongSerial got want)) batch = refl
ok_same (Err (BadReply at)) batch = refl
ok_same (Err Turns) batch = refl
ok_same (Err NoMemory) batch = refl

taken_behind : (own : List Own) (batch : List Content) → WasTakenBehind [] own batch → WasTaken own batch
taken_behind own batch is = is

avro_same : {R P Q : Type 0} (x y : P) (b : AgentSink R P Q) → b ≡ Avro x → b ≡ Avro y → x ≡ y
avro_same x y b first last = cc

module _ {R P Q D L : Type 0} (dial : DialTold P) (links_of : P → SinkLinks D L) (links : D → Option LinksTold) (troubles : D → ℕ) (told : L → Option LinkTold) (faults : L → ℕ)
    (one : AgentSink R P Q → List Content → ℕ → Result (Unit {0}) SinkRefused → AgentSink R P Q → Type 0) where
  -- a sink of Avro stays one, and each batch that it is handed it delivers on its links
  abbrev pub AsksOnLinks : Type 0
  AsksOnLinks = (s : P) (batch : List Content) (moment : ℕ) (answer : Result (Unit {0}) SinkRefused) (b : AgentSink R P Q) → one (Avro s) batch moment answer b
      → (t : P) × (b ≡ Avro t) × (said : Result (Unit {0}) DeliverRefused) × (answer ≡ sink_answer said) × Delivers links troubles told faults (links_of s) batch said (links_of t)

  -- its dialer shows its links once it is closed, and it is idle where none is open
  pub record ClosesSo : Type 0 where
    pub closed : (s : P) → dial.links s ≡ closed_links links told (links_of s).dialer (links_of s).opened
    pub idle : (s : P) → dial.IsIdle s → (links_of s).opened ≡ None

  -- what a sink was handed, as deliveries of the batches
  record Asked (own : List Own) (done : List Handed) (s : P) (b : AgentSink R P Q) : Type 0 where
    pub t : P
    pub same : b ≡ Avro t
    pub deliveries : List Delivery
    pub all : AllDeliver links troubles told faults deliveries (links_of s) (links_of t)
    pub taken : AllByRecursion (λ (d : Delivery). WasTaken own d.batch) deliveries
    pub ok : delivered deliveries ≡ ok_batches done

  module _ (asks : AsksOnLinks) where
    asked_all : (own : List Own) (done : List Handed) (s : P) (b : AgentSink R P Q) → AllHanded one done (Avro s) b → AllByRecursion (λ (h : Handed). WasTakenBehind [] own h.batch) done → Asked own done s b
    asked_all own [] s b same taken = record { t = s; same = same; deliveries = []; all = refl; taken = tt; ok = refl }
    asked_all own (h ∷ done) s b (next, is, rest) taken =
        let first = asks s h.batch h.moment h.answer next is in
        let others = asked_all own done first.0 b (subst (λ (x : AgentSink R P Q). AllHanded one done x b) first.1 rest) taken.1 in
        record {
          t = others.t;
          same = others.same;
          deliveries = record { batch = h.batch; answer = first.2 } ∷ others.deliveries;
          all = (links_of first.0, first.4, others.all);
          taken = (taken_behind own h.batch taken.0, others.taken);
          ok = ap (λ (l : List (List Content)). if_ok first.2 h.batch ++ l) others.ok
              ∙ ap (λ (l : List (List Content)). l ++ ok_batches done) (ok_same first.2 h.batch ∙ ap (λ (a : Result (Unit {0}) SinkRefused). ok_of a h.batch) (sym first.3));
        }

    module _ (law : RequestsAreOnLinks D L) (closes : ClosesSo) where
      -- what came back of a new sink by the calls of its worker
      record Told' (own : List Own) (took : List (List Content)) (b : AgentSink R P Q) : Type 0 where
        pub t : P
        pub same : b ≡ Avro t
        pub all : LinksTold
        pub is : dial.links t ≡ Some all
        pub requests : RequestsTold own took all

      asked_told : (end : Endpoint) (all : Option HandedOut) (x : HandedOut) → all ≡ Some x → (own : List Own) (took : List (List Content)) (s : P) (b : AgentSink R P Q) → IsNewDial dial end all s
          → Part one own took (Avro s) b → Told' own took b
      asked_told end all x is own took s b fresh part =
          let asked = asked_all own part.done s b part.chain part.taken in
          let none = closes.idle s fresh.idle in
          let first : links (links_of s).dialer ≡ Some no_links =
          ap (λ (o : Option (Open L)). closed_links links told (links_of s).dialer o) (sym none) ∙ sym (closes.closed s) ∙ fresh.links ∙ ap fresh_links is in
          let stood = law links troubles told faults asked.deliveries (links_of s) (links_of asked.t) none first asked.all in
          record {
            t = asked.t;
            same = asked.same;
            all = stood.0;
            is = closes.closed asked.t ∙ stood.1;
            requests = record { done = asked.deliveries; requested = stood.2; taken = asked.taken; these = asked.ok ∙ part.ok };
          }

      -- ---- in order

      module _ {X Y N C : Type 0} (sink : Told (Runner (AgentSink R P Q) N)) (moments : C → Option (ℕ → ℕ)) (split : RunnersSplit one sink.delivers) (shares : List (EitherShared X Y)) (finals : List Known)
          (rows : List SinkRow) (jobs : List (SinkWorker Known (Runner (AgentSink R P Q) N) C)) (runners : List (Runner (AgentSink R P Q) N))
          (shared : RowsShared one sink moments split shares finals jobs runners) (sinks backs : List (AgentSink R P Q))
          (dealt : AreDealt sinks rows (map (λ (job : SinkWorker Known (Runner (AgentSink R P Q) N) C). job.sink) jobs)) (came : AreDealt backs rows runners) (as_many : length jobs ≡ length rows)
          (order : IsOrder (length sinks) (places_of rows)) (all : Option HandedOut) (x : HandedOut) (is : all ≡ Some x) (f : Folders) where
        -- by its part a sink of Avro shows so of its links
        told_at : (end : Endpoint) (place : ℕ) (s : P) (b : AgentSink R P Q) → slice_get sinks place ≡ Some (Avro s) → slice_get backs place ≡ Some b → IsNewDial dial end all s
            → (at i : ℕ) (row : SinkRow) (worker : SinkWorker Known (Runner (AgentSink R P Q) N) C) (took : List (ℕ × List Content)) → at < length rows
            → slice_get (get_or rows at row).places.items i ≡ Some place → Told' (calls_of finals (get_or jobs at worker)) (taken_at i (get_or shared.taken at took)) b
        told_at end place s b was back fresh at i row worker took below here =
            let mine = part_at one sink moments split shares finals rows jobs runners shared sinks backs dealt came as_many at i place row worker took below here in
            let own = calls_of finals (get_or jobs at worker) in
            let batches = taken_at i (get_or shared.taken at took) in
            let old : mine.old ≡ Avro s = some_same mine.old (Avro s) (sym mine.was ∙ was) in
            let new : mine.new ≡ b = some_same mine.new b (sym mine.is ∙ back) in
            asked_told end all x is own batches s b fresh (subst (λ (y : AgentSink R P Q × AgentSink R P Q). Part one own batches y.0 y.1) (λ k. (old k, new k)) mine.part)

        one_back : (kind : SinkKind) (place : ℕ) (s b : AgentSink R P Q) (rest : List CameBack) (Rest : List CameBack → Type 0) → place < length sinks → slice_get sinks place ≡ Some s
            → slice_get backs place ≡ Some b → IsOfKind f kind s → HasNewDial dial all kind s → Rest rest
            → IsDialBack kind (AskedAt rows jobs shared.taken finals place) (dial_back dial kind b ++ rest) Rest
        one_back plan.Null place s b rest Rest low was back of has then = then
        one_back (plan.Roll folder interval) place s b rest Rest low was back of has then = then
        one_back (plan.Plugin name) place s b rest Rest low was back of has then = then
        one_back (plan.Avro host port) place (Null s) b rest Rest low was back of has then = absurd of
        one_back (plan.Avro host port) place (Roll s) b rest Rest low was back of has then = absurd of
        one_back (plan.Avro host port) place (Boxed s) b rest Rest low was back of has then = absurd of
        one_back (plan.Avro host port) place (Avro s) b rest Rest low was back of has then =
            let end : Endpoint = record { host = string_bytes host; port = port } in
            let found = find_row rows place (order.all place low) in
            let job = first_of jobs found.at (let l = found.below in omega (arith, l, as_many)) in
            let t = told_at end place s b was back has found.at found.i found.row job [] found.below found.here in (
              record { host = string_bytes host; port = port; told = dial.links t.t; waits = 0; faults = dial.faults t.t },
              rest,
              ap (λ (y : AgentSink R P Q). dial_back dial (plan.Avro host port) y ++ rest) t.same,
              record {
                of_host = refl;
                of_port = refl;
                links = t.all;
                told = t.is;
                requests = λ at i row worker took below here.
                    let u = told_at end place s b was back has at i row worker took below here in
                    let same : u.t ≡ t.t = avro_same u.t t.t b u.same t.same in
                    subst (λ (l : LinksTold). RequestsTold (calls_of finals (get_or jobs at worker)) (taken_at i (get_or shared.taken at took)) l)
                    (some_same u.all t.all (sym u.is ∙ ap dial.links same ∙ t.is)) u.requests;
              },
              then,
            )

        backs_told : (place : ℕ) (plans : List SinkPlan) (ss bs : List (AgentSink R P Q)) → length plans ≡ length ss → length bs ≡ length ss
            → ((k : ℕ) (s : AgentSink R P Q) → slice_get ss k ≡ Some s → slice_get sinks (k + place) ≡ Some s) → ((k : ℕ) (b : AgentSink R P Q) → slice_get bs k ≡ Some b → slice_get backs (k + place) ≡ Some b)
            → AreOfPlans f plans ss → HaveNewDials dial all plans ss → AreDialsBack (AskedAt rows jobs shared.taken finals) place plans (dials_back dial plans bs)
        backs_told place [] [] [] many many' old new of has = refl
        backs_told place [] [] (b ∷ bs) many many' old new of has = absurd (omega (arith, many'))
        backs_told place [] (s ∷ ss) bs many many' old new of has = absurd of
        backs_told place (p ∷ plans) [] bs many many' old new of has = absurd (omega (arith, many))
        backs_told place (p ∷ plans) (s ∷ ss) [] many many' old new of has = absurd (omega (arith, many'))
        backs_told place (p ∷ plans) (s ∷ ss) (b ∷ bs) many many' old new of has =
            let was = subst (λ (n : ℕ). slice_get sinks n ≡ Some s) (zero-add place) (old 0 s refl) in
            let back = subst (λ (n : ℕ). slice_get backs n ≡ Some b) (zero-add place) (new 0 b refl) in
            let next : (k : ℕ) → suc k + place ≡ k + suc place = λ k. omega arith in
            one_back p.kind place s b (dials_back dial plans bs) (AreDialsBack (AskedAt rows jobs shared.taken finals) (suc place) plans)
            (slice_get_within sinks place s was) was back of.0 has.0
            (backs_told (suc place) plans ss bs (omega (arith, many)) (omega (arith, many'))
            (λ k s is. subst (λ (n : ℕ). slice_get sinks n ≡ Some s) (next k) (old (suc k) s is))
            (λ k b is. subst (λ (n : ℕ). slice_get backs n ≡ Some b) (next k) (new (suc k) b is)) of.1 has.1)

      -- ---- the whole

      -- Sinks that were opened, made their rounds and drainings and came back told so of their links.
      pub dialed_told : {X Y N C : Type 0} (sink : Told (Runner (AgentSink R P Q) N)) (moments : C → Option (ℕ → ℕ)) (split : RunnersSplit one sink.delivers) (shares : List (EitherShared X Y))
          (finals : List Known) (plans : List SinkPlan) (rows : List SinkRow) (jobs : List (SinkWorker Known (Runner (AgentSink R P Q) N) C)) (runners : List (Runner (AgentSink R P Q) N))
          (shared : RowsShared one sink moments split shares finals jobs runners) (sinks backs : List (AgentSink R P Q))
          → AreDealt sinks rows (map (λ (job : SinkWorker Known (Runner (AgentSink R P Q) N) C). job.sink) jobs) → AreDealt backs rows runners → length jobs ≡ length rows
          → IsOrder (length sinks) (places_of rows) → Zips (IsSameSink dial) sinks backs
          → length sinks ≡ length plans → (f : Folders) → AreOfPlans f plans sinks
          → (a s t u : HostState) → a.dialers ≡ s.dialers → DialsOpened dial plans s t sinks → (d : Option HandedOut) → d ≡ t.dialers → Tells d u.dialers (AllBack (dials_back dial plans backs))
          → Tells a.dialers u.dialers (DialsTold plans rows jobs shared.taken finals)
      dialed_told sink moments split shares finals plans rows jobs runners shared sinks backs dealt came many_jobs order stay many f are a s t u same opened d between back =
          let ends' = dials_of (take (length sinks) plans) in
          let gone = dials_ends dial f plans backs (kinds_stay dial f plans sinks backs stay are) in
          let as_many : length backs ≡ length sinks = same_many dial sinks backs stay in
          let at : (k : ℕ) → k ≡ k + 0 = λ k. omega arith in
          let ended : ends_of (dials_back dial plans backs) ≡ ends' = gone ∙ ap (λ (n : ℕ). dials_of (take n plans)) as_many in
          subst (λ (o : Option HandedOut). Tells o u.dialers (DialsTold plans rows jobs shared.taken finals)) (sym same)
          (follows s.dialers t.dialers u.dialers (AllOut ends') (AllBack (dials_back dial plans backs)) (DialsTold plans rows jobs shared.taken finals)
          (λ x y z is _ _ p q. record {
            out = λ host port. let e = ap (count_at host port) ended in omega (arith, p.out host port, q.out host port, e);
            backs = dials_back dial plans backs;
            back = q.back ∙ ap (λ (l : List CameBack). l ++ reverse (dials_back dial plans backs)) p.back;
            each = backs_told sink moments split shares finals rows jobs runners shared sinks backs dealt came many_jobs order s.dialers x is f 0 plans sinks backs (sym many) as_many
                (λ k s is. subst (λ (n : ℕ). slice_get sinks n ≡ Some s) (at k) is) (λ k b is. subst (λ (n : ℕ). slice_get backs n ≡ Some b) (at k) is) are opened.made;
          }) opened.out.told (subst (λ (o : Option HandedOut). Tells o u.dialers (AllBack (dials_back dial plans backs))) between back))
