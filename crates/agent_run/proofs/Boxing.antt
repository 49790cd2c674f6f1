-- What the sinks of a run that were handed in were handed, by all calls of their workers.
use Rattle.std.proofs.Common.{◌≡◌, ◌<◌, ℕ, zero, suc, List, [], ◌∷◌, Option, Some, Result, length, map, get_or, refl, subst, arith}
use Rattle.std.proofs.lemmas.Option.{get_or_from_slice_get, slice_get_within}
use Rattle.event_core.specs.Content.{Content}
use Rattle.agent_plan.specs.declared.plan.SinkKind.{SinkKind}
use Rattle.agent_plan.specs.declared.plan.SinkKind.TheVariants as plan
use Rattle.agent_plan.specs.declared.plan.SinkPlan.{SinkPlan}
use Rattle.flume_host.specs.HostState.{Folders}
use Rattle.plan_objects.specs.Asks.{asked}
use Rattle.plug_in.specs.declared.sink.SinkRefused.{SinkRefused}
use Rattle.roll_sink.specs.declared.sink.RollSink.{RollSink}
use Rattle.shared_channel.specs.Passes.{Known}
use Rattle.sink_runner.specs.declared.null.NullSink.{NullSink}
use Rattle.sink_worker.specs.Rounds.{Told}
use Rattle.sink_worker.specs.declared.worker.SinkWorker.{SinkWorker}
use Rattle.two_channels.specs.declared.shared.EitherShared.{EitherShared}
use Rattle.agent_sinks.specs.Kinds.{DeliversAs}
use Rattle.agent_sinks.specs.declared.sink.AgentSink.{AgentSink}
use Rattle.agent_sinks.specs.declared.sink.AgentSink.TheVariants.{Null, Roll, Avro, Boxed}
use Rattle.agent_outside.specs.Sinks.{AreBoxed, AreOfPlans, IsBoxed, IsOfKind}
use Rattle.grouped_sinks.specs.Picks.{AreDealt}
use Rattle.grouped_sinks.specs.Splits.{AllHanded, Handed, RunnersSplit, taken_at}
use Rattle.grouped_sinks.specs.declared.row.SinkRow.{SinkRow}
use Rattle.grouped_sinks.specs.declared.runner.Runner.{Runner}
use Rattle.agent_run.specs.BoxedTold.{BoxedTold}
use Rattle.agent_run.specs.RolledTold.{calls_of}
use Rattle.agent_run.proofs.Parting.{part_at}
use Rattle.agent_run.proofs.Rolling.{kind_at}
use Rattle.agent_run.proofs.Sharing.{Part, RowsShared}

-- ---- one sink

-- a sink that was handed in stays one, and what it is handed is handed to it
abbrev pub HandsOn : {R P Q : Type 0} → (AgentSink R P Q → List Content → ℕ → Result (Unit {0}) SinkRefused → AgentSink R P Q → Type 0)
    → (Q → List Content → ℕ → Result (Unit {0}) SinkRefused → Q → Type 0) → Type 0
HandsOn {R} {P} {Q} one own =
    (s : Q) (batch : List Content) (moment : ℕ) (answer : Result (Unit {0}) SinkRefused) (b : AgentSink R P Q) → one (Boxed s) batch moment answer b
    → (t : Q) × (b ≡ Boxed t) × own s batch moment answer t

-- So is the sink of an agent that is one, whatever the other kinds of sinks do.
pub agent_hands : {R P Q : Type 0} (own : Q → List Content → ℕ → Result (Unit {0}) SinkRefused → Q → Type 0) (s : Q) (batch : List Content) (moment : ℕ) (answer : Result (Unit {0}) SinkRefused)
    (b : AgentSink R P Q)
    → DeliversAs (λ (x y : NullSink). Unit {0}) (λ (x y : RollSink R). Unit {0}) (λ (x y : P). Unit {0}) (λ (x y : Q). own x batch moment answer y) (Boxed s) b
    → (t : Q) × (b ≡ Boxed t) × own s batch moment answer t
agent_hands own s batch moment answer (Null t) is = absurd is
agent_hands own s batch moment answer (Roll t) is = absurd is
agent_hands own s batch moment answer (Avro t) is = absurd is
agent_hands own s batch moment answer (Boxed t) is = (t, refl, is)

module _ {R P Q : Type 0} (one : AgentSink R P Q → List Content → ℕ → Result (Unit {0}) SinkRefused → AgentSink R P Q → Type 0)
    (own : Q → List Content → ℕ → Result (Unit {0}) SinkRefused → Q → Type 0) (hands : HandsOn one own) where
  hands_all : (done : List Handed) (s : Q) (b : AgentSink R P Q) → AllHanded one done (Boxed s) b → (t : Q) × AllHanded own done s t
  hands_all [] s b same = (s, refl)
  hands_all (h ∷ done) s b (next, is, rest) =
      let first = hands s h.batch h.moment h.answer next is in
      let others = hands_all done first.0 b (subst (λ (x : AgentSink R P Q). AllHanded one done x b) first.1 rest) in
      (others.0, (first.0, first.2, others.1))

-- ---- by their plans

boxed_at : {R P Q : Type 0} (plans : List SinkPlan) (objects : List (Option Q)) (sinks : List (AgentSink R P Q)) → AreBoxed plans objects sinks → (place : ℕ) (d : SinkPlan) (o : Option Q) (e : AgentSink R P Q)
    → place < length sinks → IsBoxed (get_or plans place d).kind (get_or objects place o) (get_or sinks place e)
boxed_at plans objects [] all place d o e below = absurd (omega (arith, below))
boxed_at [] objects (s ∷ sinks) all place d o e below = absurd all
boxed_at (p ∷ plans) [] (s ∷ sinks) all place d o e below = absurd all
boxed_at (p ∷ plans) (q ∷ objects) (s ∷ sinks) all zero d o e below = all.0
boxed_at (p ∷ plans) (q ∷ objects) (s ∷ sinks) all (suc place) d o e below = boxed_at plans objects sinks all.1 place d o e (omega (arith, below))

-- a sink that asks for an object is that
own_object : {R P Q : Type 0} (folders : Folders) (kind : SinkKind) (object : Option Q) (e : AgentSink R P Q) (name : List ℕ) → asked kind ≡ Some name → IsOfKind folders kind e → IsBoxed kind object e
    → (sink : Q) × (object ≡ Some sink) × (e ≡ Boxed sink)
own_object folders plan.Null object e name asks of boxed = absurd (cc)
own_object folders (plan.Roll folder interval) object e name asks of boxed = absurd (cc)
own_object folders (plan.Avro host port) object e name asks of boxed = absurd (cc)
own_object folders (plan.Plugin of_name) object (Null e) name asks of boxed = absurd of
own_object folders (plan.Plugin of_name) object (Roll e) name asks of boxed = absurd of
own_object folders (plan.Plugin of_name) object (Avro e) name asks of boxed = absurd of
own_object folders (plan.Plugin of_name) object (Boxed e) name asks of boxed = (e, boxed, refl)

-- ---- the whole

module _ {R A B P Q N C : Type 0} (one : AgentSink R P Q → List Content → ℕ → Result (Unit {0}) SinkRefused → AgentSink R P Q → Type 0)
    (sink : Told (Runner (AgentSink R P Q) N)) (moments : C → Option (ℕ → ℕ)) (split : RunnersSplit one sink.delivers) (shares : List (EitherShared A B)) (finals : List Known)
    (plans : List SinkPlan) (rows : List SinkRow) (jobs : List (SinkWorker Known (Runner (AgentSink R P Q) N) C)) (runners : List (Runner (AgentSink R P Q) N))
    (shared : RowsShared one sink moments split shares finals jobs runners) (sinks backs : List (AgentSink R P Q))
    (dealt : AreDealt sinks rows (map (λ (job : SinkWorker Known (Runner (AgentSink R P Q) N) C). job.sink) jobs)) (came : AreDealt backs rows runners) (as_many : length jobs ≡ length rows) where
  -- Sinks that were handed in, made their rounds and drainings and came back were handed so much.
  pub boxed_told : (own : Q → List Content → ℕ → Result (Unit {0}) SinkRefused → Q → Type 0) → HandsOn one own → (folders : Folders) (objects : List (Option Q)) → AreOfPlans folders plans sinks
      → AreBoxed plans objects sinks → BoxedTold own objects plans rows jobs shared.taken finals
  boxed_told own hands folders objects are boxed = record {
    each = λ at i place row plan job took name object below here asks.
        let mine = part_at one sink moments split shares finals rows jobs runners shared sinks backs dealt came as_many at i place row job took below here in
        let low : place < length sinks = slice_get_within sinks place mine.old mine.was in
        let was : get_or sinks place mine.old ≡ mine.old = get_or_from_slice_get sinks place mine.old mine.old mine.was in
        let kind = (get_or plans place plan).kind in
        let of = subst (λ (x : AgentSink R P Q). IsOfKind folders kind x) was (kind_at folders plans sinks are place plan mine.old low) in
        let is = subst (λ (x : AgentSink R P Q). IsBoxed kind (get_or objects place object) x) was (boxed_at plans objects sinks boxed place plan object mine.old low) in
        let mine_is = own_object folders kind (get_or objects place object) mine.old name asks of is in
        let calls = calls_of finals (get_or jobs at job) in
        let batches = taken_at i (get_or shared.taken at took) in
        let part = subst (λ (x : AgentSink R P Q). Part one calls batches x mine.new) mine_is.2 mine.part in
        let all = hands_all one own hands part.done mine_is.0 mine.new part.chain in (
          mine_is.0,
          mine_is.1,
          record { done = part.done; last = all.0; chain = all.1; taken = part.taken; these = part.ok },
        );
  }
