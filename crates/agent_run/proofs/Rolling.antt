-- What the sinks of a run wrote into their folders, by all calls of their workers.
use Rattle.std.proofs.Common.{◌≡◌, ◌∙◌, ◌<◌, ℕ, zero, suc, List, [], ◌∷◌, ◌++◌, Bool, true, false, cond, Option, Some, None, Result, Ok, Err, length, map, get_or, refl, sym, ap, subst, arith, bytes_eq, string_bytes}
use Rattle.std.proofs.lemmas.Slice.Eq.{bytes_eq-Decides}
use Rattle.std.specs.List.{AllByRecursion}
use Rattle.event_core.specs.Content.{Content}
use Rattle.channel_face.specs.Faces.{Own}
use Rattle.agent_plan.specs.declared.plan.SinkKind.{SinkKind}
use Rattle.agent_plan.specs.declared.plan.SinkKind.TheVariants as plan
use Rattle.agent_plan.specs.declared.plan.SinkPlan.{SinkPlan}
use Rattle.flume_host.specs.HostState.{Folders}
use Rattle.flume_host.specs.Rolled.{Rolled, opened}
use Rattle.flume_host.specs.Told.{Tells}
use Rattle.plug_in.specs.declared.sink.SinkRefused.{SinkRefused}
use Rattle.plug_in.specs.declared.sink.SinkRefused.TheVariants as refused
use Rattle.roll_sink.specs.Rolls.{RollState, Rolls}
use Rattle.roll_sink.specs.Runs.{AllRoll, Delivery, Filled, Fills, RunsFill, delivered, if_ok, new_sink}
use Rattle.roll_sink.specs.States.{roll_answer, state_of}
use Rattle.roll_sink.specs.declared.sink.RollSink.{RollSink}
use Rattle.shared_channel.specs.Passes.{Known}
use Rattle.sink_runner.specs.declared.null.NullSink.{NullSink}
use Rattle.sink_worker.specs.Rounds.{Told}
use Rattle.sink_worker.specs.declared.worker.SinkWorker.{SinkWorker}
use Rattle.two_channels.specs.declared.shared.EitherShared.{EitherShared}
use Rattle.agent_sinks.specs.Kinds.{DeliversAs}
use Rattle.agent_sinks.specs.declared.sink.AgentSink.{AgentSink}
use Rattle.agent_sinks.specs.declared.sink.AgentSink.TheVariants.{Null, Roll, Avro, Boxed}
use Rattle.agent_outside.specs.Backs.{RollBack, told_of}
use Rattle.agent_outside.specs.Sinks.{AreNew, AreOfPlans, IsNew, IsOfKind, SinksOpened, back_of, backs_of, folder_of}
use Rattle.agent_run.specs.RolledTold.{FilesTold, RolledTold, WasTaken, calls_of}
use Rattle.run_working.specs.Wholes.{AreBeside}
use Rattle.grouped_sinks.specs.Splits.{AllHanded, Handed, RunnersSplit, ok_batches, ok_of, taken_at}
use Rattle.agent_run.proofs.Handing.{WasTakenBehind}
use Rattle.agent_run.proofs.Sharing.{Part, RowsShared}
use Rattle.agent_run.proofs.Parting.{part_at}
use Rattle.grouped_sinks.specs.Picks.{AreDealt}
use Rattle.grouped_sinks.specs.declared.row.SinkRow.{SinkRow}
use Rattle.grouped_sinks.specs.declared.runner.Runner.{Runner}
use Rattle.std.proofs.lemmas.Option.{get_or_from_slice_get, slice_get_within}

-- ---- rolled files

abbrev delivery_of : Handed → Delivery
delivery_of h = record { batch = h.batch; moment = h.moment; answer = roll_answer h.answer }

ok_same : (answer : Result (Unit {0}) SinkRefused) (batch : List Content) → if_ok (roll_answer answer) batch ≡ ok_of answer batch
ok_same (Ok done) batch = refl
ok_same (Err refused.Refused) batch = refl
ok_same (Err refused.NoMemory) batch = refl

delivered_same : (done : List Handed) → delivered (map delivery_of done) ≡ ok_batches done
delivered_same [] = refl
delivered_same (h ∷ done) = ap (λ (l : List (List Content)). if_ok (roll_answer h.answer) h.batch ++ l) (delivered_same done) ∙ ap (λ (l : List (List Content)). l ++ ok_batches done) (ok_same h.answer h.batch)

taken_same : (own : List Own) (done : List Handed) → AllByRecursion (λ (h : Handed). WasTakenBehind [] own h.batch) done → AllByRecursion (λ (d : Delivery). WasTaken own d.batch) (map delivery_of done)
taken_same own [] all = tt
taken_same own (h ∷ done) all = (all.0, taken_same own done all.1)

tells_so : {T : Type 0} (P Q : T → T → Type 0) → ((t u : T) → P t u → Q t u) → (old new : Option T) → Tells old new P → Tells old new Q
tells_so P Q f None None is = tt
tells_so P Q f None (Some u) is = absurd is
tells_so P Q f (Some t) None is = absurd is
tells_so P Q f (Some t) (Some u) is = f t u is

module _ {R P Q : Type 0} (rolled : R → Option Rolled) (one : AgentSink R P Q → List Content → ℕ → Result (Unit {0}) SinkRefused → AgentSink R P Q → Type 0) where
  -- a sink of rolled files stays one, and each batch that it is handed it writes
  abbrev pub WritesRolled : Type 0
  WritesRolled = (s : RollSink R) (batch : List Content) (moment : ℕ) (answer : Result (Unit {0}) SinkRefused) (b : AgentSink R P Q) → one (Roll s) batch moment answer b
      → (t : RollSink R) × (b ≡ Roll t) × Rolls (state_of s) batch moment (roll_answer answer) (state_of t) (rolled s.dir) (rolled t.dir)

  module _ (writes : WritesRolled) where
    rolls_all : (done : List Handed) (s : RollSink R) (b : AgentSink R P Q) → AllHanded one done (Roll s) b
        → (t : RollSink R) × (b ≡ Roll t) × AllRoll (map delivery_of done) (state_of s) (state_of t) (rolled s.dir) (rolled t.dir)
    rolls_all [] s b same = (s, same, (refl, refl))
    rolls_all (h ∷ done) s b (next, is, rest) =
        let first = writes s h.batch h.moment h.answer next is in
        let others = rolls_all done first.0 b (subst (λ (x : AgentSink R P Q). AllHanded one done x b) first.1 rest) in
        (others.0, others.1, (state_of first.0, rolled first.0.dir, first.2, others.2))

    -- a new sink of rolled files filled its folder so
    files_told : RunsFill → (interval : ℕ) (own : List Own) (took : List (List Content)) (s : RollSink R) (b : AgentSink R P Q) → state_of s ≡ new_sink interval → Part one own took (Roll s) b
        → (t : RollSink R) × (b ≡ Roll t) × Tells (rolled s.dir) (rolled t.dir) (FilesTold own took)
    files_told fill interval own took s b fresh part =
        let all = rolls_all part.done s b part.chain in
        let t = all.0 in
        let filled = fill interval (map delivery_of part.done) (state_of t) (rolled s.dir) (rolled t.dir)
        (subst (λ (x : RollState). AllRoll (map delivery_of part.done) x (state_of t) (rolled s.dir) (rolled t.dir)) fresh all.2) in (
          t,
          all.1,
          tells_so (λ old new. (filled : List Filled) × Fills (map delivery_of part.done) filled old.files new.files) (FilesTold own took)
              (λ old new is. record {
                done = map delivery_of part.done;
                filled = is.0;
                fills = is.1;
                taken = taken_same own part.done part.taken;
                these = delivered_same part.done ∙ part.ok;
              }) (rolled s.dir) (rolled t.dir) filled,
        )

-- So is the sink of an agent that is one of rolled files, whatever the other kinds of sinks do.
pub agent_writes : {R P Q : Type 0} (rolled : R → Option Rolled) (s : RollSink R) (batch : List Content) (moment : ℕ) (answer : Result (Unit {0}) SinkRefused) (b : AgentSink R P Q)
    → DeliversAs (λ (x y : NullSink). Unit {0}) (λ (x y : RollSink R). Rolls (state_of x) batch moment (roll_answer answer) (state_of y) (rolled x.dir) (rolled y.dir))
    (λ (x y : P). Unit {0}) (λ (x y : Q). Unit {0}) (Roll s) b
    → (t : RollSink R) × (b ≡ Roll t) × Rolls (state_of s) batch moment (roll_answer answer) (state_of t) (rolled s.dir) (rolled t.dir)
agent_writes rolled s batch moment answer (Null t) is = absurd is
agent_writes rolled s batch moment answer (Roll t) is = (t, refl, is)
agent_writes rolled s batch moment answer (Avro t) is = absurd is
agent_writes rolled s batch moment answer (Boxed t) is = absurd is

-- ---- a folder among those of the sinks

told_here : {R : Type 0} (rolled : R → Option Rolled) (P Q : Type 0) (kind : SinkKind) (t : RollSink R) (rest : List RollBack) (path : List ℕ) (before : Option Rolled) → folder_of kind ≡ path ∷ []
    → told_of (back_of {A = P} {B = Q} rolled kind (Roll t) ++ rest) path before ≡ rolled t.dir
told_here rolled P Q plan.Null t rest path before is = absurd (cc)
told_here rolled P Q (plan.Roll folder interval) t rest path before is =
    let same : string_bytes folder ≡ path = cc in
    ap (λ (b : Bool). cond b (rolled t.dir) (told_of rest path before)) ((bytes_eq-Decides (string_bytes folder) path).1 same)
told_here rolled P Q (plan.Avro host port) t rest path before is = absurd (cc)
told_here rolled P Q (plan.Plugin name) t rest path before is = absurd (cc)

module _ {R P Q : Type 0} (rolled : R → Option Rolled) where
  skip : (kind : SinkKind) (e : AgentSink R P Q) (rest : List RollBack) (path : List ℕ) (before : Option Rolled) → (folder_of kind ≡ path ∷ [] → ⊥)
      → told_of (back_of rolled kind e ++ rest) path before ≡ told_of rest path before
  skip plan.Null e rest path before other = refl
  skip (plan.Roll folder interval) (Null e) rest path before other = refl
  skip (plan.Roll folder interval) (Roll e) rest path before other = by (bytes_eq (string_bytes folder) path) refl
    where
      by : (b : Bool) → bytes_eq (string_bytes folder) path ≡ b → cond b (rolled e.dir) (told_of rest path before) ≡ told_of rest path before
      by true is = absurd (other (ap (λ (l : List ℕ). l ∷ []) ((bytes_eq-Decides (string_bytes folder) path).0 is)))
      by false is = refl
  skip (plan.Roll folder interval) (Avro e) rest path before other = refl
  skip (plan.Roll folder interval) (Boxed e) rest path before other = refl
  skip (plan.Avro host port) e rest path before other = refl
  skip (plan.Plugin name) e rest path before other = refl

  -- what is told of a folder once these came back is what the first sink shows that has it
  told_at : (plans : List SinkPlan) (sinks : List (AgentSink R P Q)) (place : ℕ) (d : SinkPlan) (t : RollSink R) (path : List ℕ) (before : Option Rolled)
      → place < length plans → place < length sinks → folder_of (get_or plans place d).kind ≡ path ∷ [] → ((e : AgentSink R P Q) → get_or sinks place e ≡ Roll t)
      → ((i : ℕ) → i < place → folder_of (get_or plans i d).kind ≡ path ∷ [] → ⊥) → told_of (backs_of rolled plans sinks) path before ≡ rolled t.dir
  told_at [] sinks place d t path before low under has is first = absurd (omega (arith, low))
  told_at (plan ∷ plans) [] place d t path before low under has is first = absurd (omega (arith, under))
  told_at (plan ∷ plans) (e ∷ sinks) zero d t path before low under has is first =
      ap (λ (x : AgentSink R P Q). told_of (back_of rolled plan.kind x ++ backs_of rolled plans sinks) path before) (is e) ∙ told_here rolled P Q plan.kind t (backs_of rolled plans sinks) path before has
  told_at (plan ∷ plans) (e ∷ sinks) (suc place) d t path before low under has is first =
      skip plan.kind e (backs_of rolled plans sinks) path before (first 0 (omega arith))
      ∙ told_at plans sinks place d t path before (omega (arith, low)) (omega (arith, under)) has is (λ i lower. first (suc i) (omega (arith, lower)))

-- the sink at each place is of the kind of its plan
pub kind_at : {R P Q : Type 0} (folders : Folders) (plans : List SinkPlan) (sinks : List (AgentSink R P Q)) → AreOfPlans folders plans sinks → (place : ℕ) (d : SinkPlan) (e : AgentSink R P Q)
    → place < length sinks → IsOfKind folders (get_or plans place d).kind (get_or sinks place e)
kind_at folders plans [] all place d e below = absurd (omega (arith, below))
kind_at folders [] (s ∷ sinks) all place d e below = absurd all
kind_at folders (plan ∷ plans) (s ∷ sinks) all zero d e below = all.0
kind_at folders (plan ∷ plans) (s ∷ sinks) all (suc place) d e below = kind_at folders plans sinks all.1 place d e (omega (arith, below))

new_at : {R P Q : Type 0} (faults : R → ℕ) (plans : List SinkPlan) (sinks : List (AgentSink R P Q)) → AreNew faults plans sinks → (place : ℕ) (d : SinkPlan) (e : AgentSink R P Q)
    → place < length sinks → IsNew faults (get_or plans place d).kind (get_or sinks place e)
new_at faults plans [] all place d e below = absurd (omega (arith, below))
new_at faults [] (s ∷ sinks) all place d e below = absurd all
new_at faults (plan ∷ plans) (s ∷ sinks) all zero d e below = all.0
new_at faults (plan ∷ plans) (s ∷ sinks) all (suc place) d e below = new_at faults plans sinks all.1 place d e (omega (arith, below))

beside_at : {A B C : Type 0} (Is : A → B → C → Type 0) (xs : List A) (ys : List B) (zs : List C) → AreBeside Is xs ys zs → (place : ℕ) (x : A) (y : B) (z : C) → place < length xs
    → Is (get_or xs place x) (get_or ys place y) (get_or zs place z)
beside_at Is [] ys zs all place x y z below = absurd (omega (arith, below))
beside_at Is (a ∷ xs) [] zs all place x y z below = absurd all
beside_at Is (a ∷ xs) (b ∷ ys) [] all place x y z below = absurd all
beside_at Is (a ∷ xs) (b ∷ ys) (c ∷ zs) all zero x y z below = all.0
beside_at Is (a ∷ xs) (b ∷ ys) (c ∷ zs) all (suc place) x y z below = beside_at Is xs ys zs all.1 place x y z (omega (arith, below))

beside_long : {A B C : Type 0} (Is : A → B → C → Type 0) (xs : List A) (ys : List B) (zs : List C) → AreBeside Is xs ys zs → (length ys ≡ length xs) × (length zs ≡ length xs)
beside_long Is [] [] [] all = (refl, refl)
beside_long Is [] [] (c ∷ zs) all = absurd all
beside_long Is [] (b ∷ ys) zs all = absurd all
beside_long Is (a ∷ xs) [] zs all = absurd all
beside_long Is (a ∷ xs) (b ∷ ys) [] all = absurd all
beside_long Is (a ∷ xs) (b ∷ ys) (c ∷ zs) all = let rest = beside_long Is xs ys zs all.1 in (ap suc rest.0, ap suc rest.1)

-- the sink of a folder is one of rolled files, and new
record IsNewRoll {R P Q : Type 0} (e : AgentSink R P Q) : Type 0 where
  pub roll : RollSink R
  pub same : e ≡ Roll roll
  pub interval : ℕ
  pub fresh : state_of roll ≡ new_sink interval

new_roll : {R P Q : Type 0} (folders : Folders) (faults : R → ℕ) (kind : SinkKind) (e : AgentSink R P Q) (path : List ℕ) → folder_of kind ≡ path ∷ [] → IsOfKind folders kind e
    → IsNew faults kind e → IsNewRoll e
new_roll folders faults plan.Null e path has of new = absurd (cc)
new_roll folders faults (plan.Roll folder interval) (Null e) path has of new = absurd of
new_roll folders faults (plan.Roll folder interval) (Roll e) path has of new = record { roll = e; same = refl; interval = interval; fresh = new.0 }
new_roll folders faults (plan.Roll folder interval) (Avro e) path has of new = absurd of
new_roll folders faults (plan.Roll folder interval) (Boxed e) path has of new = absurd of
new_roll folders faults (plan.Avro host port) e path has of new = absurd (cc)
new_roll folders faults (plan.Plugin name) e path has of new = absurd (cc)

-- ---- the whole

module _ {R A B P Q N C : Type 0} (rolled : R → Option Rolled) (faults : R → ℕ) (one : AgentSink R P Q → List Content → ℕ → Result (Unit {0}) SinkRefused → AgentSink R P Q → Type 0)
    (sink : Told (Runner (AgentSink R P Q) N)) (moments : C → Option (ℕ → ℕ)) (split : RunnersSplit one sink.delivers) (shares : List (EitherShared A B)) (finals : List Known)
    (plans : List SinkPlan) (rows : List SinkRow) (jobs : List (SinkWorker Known (Runner (AgentSink R P Q) N) C)) (runners : List (Runner (AgentSink R P Q) N))
    (shared : RowsShared one sink moments split shares finals jobs runners) (sinks backs : List (AgentSink R P Q))
    (dealt : AreDealt sinks rows (map (λ (job : SinkWorker Known (Runner (AgentSink R P Q) N) C). job.sink) jobs)) (came : AreDealt backs rows runners) (as_many : length jobs ≡ length rows) where
  -- Sinks that were opened, made their rounds and drainings and came back have filled their folders.
  pub rolled_told : RunsFill → WritesRolled rolled one → length sinks ≡ length plans → length backs ≡ length plans → (a between before b : Folders) → a.rolls ≡ before.rolls
      → SinksOpened rolled faults plans a between sinks → ((path : List ℕ) → b.rolls path ≡ told_of (backs_of rolled plans backs) path (between.rolls path))
      → RolledTold plans rows jobs shared.taken finals before b
  rolled_told fill writes many many' a between before b same out back = record {
    each = λ at i place row plan job took path below here has only.
        let mine = part_at one sink moments split shares finals rows jobs runners shared sinks backs dealt came as_many at i place row job took below here in
        let low : place < length sinks = slice_get_within sinks place mine.old mine.was in
        let was : get_or sinks place mine.old ≡ mine.old = get_or_from_slice_get sinks place mine.old mine.old mine.was in
        let is : get_or backs place mine.new ≡ mine.new = get_or_from_slice_get backs place mine.new mine.new mine.is in
        let kind = (get_or plans place plan).kind in
        let fresh = new_roll between faults kind mine.old path has (subst (λ (x : AgentSink R P Q). IsOfKind between kind x) was (kind_at between plans sinks out.are place plan mine.old low))
        (subst (λ (x : AgentSink R P Q). IsNew faults kind x) was (new_at faults plans sinks out.made place plan mine.old low)) in
        let own = calls_of finals (get_or jobs at job) in
        let batches = taken_at i (get_or shared.taken at took) in
        let part = subst (λ (x : AgentSink R P Q). Part one own batches x mine.new) fresh.same mine.part in
        let told = files_told rolled one writes fill fresh.interval own batches fresh.roll mine.new fresh.fresh part in
        let lower : (k : ℕ) → k < place → folder_of (get_or plans k plan).kind ≡ path ∷ [] → ⊥ = λ k less is. (let e = only k plan (omega (arith, low, less, many)) is in omega (arith, less, e)) in
        let now = back path ∙ told_at rolled plans backs place plan told.0 path (between.rolls path) (omega (arith, low, many)) (slice_get_within backs place mine.new mine.is) has
        (λ x. get_or_from_slice_get backs place mine.new x mine.is ∙ told.1) lower in
        let then = sym (out.out.told path) ∙ told_at rolled plans sinks place plan fresh.roll path (opened (a.rolls path)) (omega (arith, low, many)) low has
        (λ x. get_or_from_slice_get sinks place mine.old x mine.was ∙ fresh.same) lower in
        subst (λ (x : Option Rolled × Option Rolled). Tells x.0 x.1 (FilesTold own batches))
        (λ k. ((sym then ∙ ap (λ (f : List ℕ → Option Rolled). opened (f path)) same) k, sym now k)) told.2;
  }
