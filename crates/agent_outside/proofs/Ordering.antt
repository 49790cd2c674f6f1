-- Sinks in the order of their plans.
use Rattle.std.proofs.Common.{◌≡◌, ◌∙◌, ◌<◌, ◌≤◌, ℕ, List, [], ◌∷◌, ◌++◌, length, get_or, take, zero, suc, IsTrue, Option, refl, sym, ap, arith, append_assoc, string_bytes}
use Rattle.std.proofs.lemmas.List.{append-nil}
use Rattle.flume_host.specs.HostState.{Folders}
use Rattle.flume_host.specs.Rolled.{Rolled}
use Rattle.agent_plan.specs.declared.plan.SinkPlan.{SinkPlan}
use Rattle.agent_plan.specs.declared.plan.SinkKind.{SinkKind}
use Rattle.agent_plan.specs.declared.plan.SinkKind.TheVariants as plan
use Rattle.agent_sinks.specs.declared.sink.AgentSink.{AgentSink}
use Rattle.agent_sinks.specs.declared.sink.AgentSink.TheVariants.{Null, Roll, Avro, Boxed}
use Rattle.agent_outside.specs.Backs.{RollBack, paths_of}
use Rattle.agent_outside.specs.Sinks.{IsOfKind, AreOfPlans, IsOpened, AreOpened, IsNew, AreNew, back_of, backs_of, folder_of, folders_of}
use Rattle.agent_outside.proofs.Backing.{paths_append}

-- ---- the last of some sinks

-- one sink more is of the kind of its plan
pub are_more : {R A B : Type 0} (f : Folders) (plans : List SinkPlan) (sinks : List (AgentSink R A B)) (sink : AgentSink R A B) (d : SinkPlan) → length sinks < length plans → AreOfPlans f plans sinks → IsOfKind f (get_or plans (length sinks) d).kind sink
    → AreOfPlans f plans (sinks ++ sink ∷ [])
are_more f [] sinks sink d below are is = absurd (omega (arith, below))
are_more f (p ∷ plans) [] sink d below are is = (is, tt)
are_more f (p ∷ plans) (s ∷ sinks) sink d below are is = (are.0, are_more f plans sinks sink d (omega (arith, below)) are.1 is)

-- one sink more is new
pub new_more : {R A B : Type 0} (faults : R → ℕ) (plans : List SinkPlan) (sinks : List (AgentSink R A B)) (sink : AgentSink R A B) (d : SinkPlan) → length sinks < length plans → AreNew faults plans sinks → IsNew faults (get_or plans (length sinks) d).kind sink
    → AreNew faults plans (sinks ++ sink ∷ [])
new_more faults [] sinks sink d below are is = absurd (omega (arith, below))
new_more faults (p ∷ plans) [] sink d below are is = (is, tt)
new_more faults (p ∷ plans) (s ∷ sinks) sink d below are is = (are.0, new_more faults plans sinks sink d (omega (arith, below)) are.1 is)

-- the folder of one sink more stands after those of the others
pub backs_more : {R A B : Type 0} (rolled : R → Option Rolled) (plans : List SinkPlan) (sinks : List (AgentSink R A B)) (sink : AgentSink R A B) (d : SinkPlan) → length sinks < length plans
    → backs_of rolled plans (sinks ++ sink ∷ []) ≡ backs_of rolled plans sinks ++ back_of rolled (get_or plans (length sinks) d).kind sink
backs_more rolled [] sinks sink d below = absurd (omega (arith, below))
backs_more rolled (p ∷ plans) [] sink d below = append-nil (back_of rolled p.kind sink)
backs_more rolled (p ∷ plans) (s ∷ sinks) sink d below =
    ap (λ (l : List RollBack). back_of rolled p.kind s ++ l) (backs_more rolled plans sinks sink d (omega (arith, below)))
    ∙ sym (append_assoc (back_of rolled p.kind s) (backs_of rolled plans sinks) (back_of rolled (get_or plans (length sinks) d).kind sink))

-- ---- their folders were opened

-- of the kind of its plan: so its folder was opened
pub kind_opened : {R A B : Type 0} (f : Folders) (kind : SinkKind) (sink : AgentSink R A B) → IsOfKind f kind sink → IsOpened f kind
kind_opened f plan.Null (Null sink) is = tt
kind_opened f (plan.Roll folder interval) (Roll sink) is = is
kind_opened f (plan.Avro host port) (Avro sink) is = tt
kind_opened f (plan.Plugin name) (Boxed sink) is = tt
kind_opened f kind sink is = absurd is

-- the folders of sinks that are of their plans were opened
pub are_opened : {R A B : Type 0} (f : Folders) (plans : List SinkPlan) (sinks : List (AgentSink R A B)) → AreOfPlans f plans sinks → AreOpened f plans (length sinks)
are_opened f plans [] are = tt
are_opened f [] (s ∷ sinks) are = absurd are
are_opened f (p ∷ plans) (s ∷ sinks) are = (kind_opened f p.kind s are.0, are_opened f plans sinks are.1)

-- of so many and one more
pub opened_last : (f : Folders) (plans : List SinkPlan) (many : ℕ) (d : SinkPlan) → AreOpened f plans (suc many)
    → AreOpened f plans many × (many < length plans) × IsOpened f (get_or plans many d).kind
opened_last f [] many d are = absurd are
opened_last f (p ∷ plans) zero d are = (tt, omega arith, are.0)
opened_last f (p ∷ plans) (suc many) d are =
    let rest = opened_last f plans many d are.1 in
    ((are.0, rest.0), omega (arith, rest.1), rest.2)

-- no more than the plans
pub opened_few : (f : Folders) (plans : List SinkPlan) (many : ℕ) → AreOpened f plans many → many ≤ length plans
opened_few f plans zero are = omega arith
opened_few f [] (suc many) are = absurd are
opened_few f (p ∷ plans) (suc many) are = omega (arith, opened_few f plans many are.1)

one_opened_later : (f g : Folders) → ((p : List ℕ) → IsTrue (f.roll_opened p) → IsTrue (g.roll_opened p)) → (kind : SinkKind) → IsOpened f kind → IsOpened g kind
one_opened_later f g marks plan.Null is = tt
one_opened_later f g marks (plan.Roll folder interval) is = marks (string_bytes folder) is
one_opened_later f g marks (plan.Avro host port) is = tt
one_opened_later f g marks (plan.Plugin name) is = tt

-- folders that were opened are still so at a later moment
pub opened_later : (f g : Folders) → ((p : List ℕ) → IsTrue (f.roll_opened p) → IsTrue (g.roll_opened p)) → (plans : List SinkPlan) (many : ℕ) → AreOpened f plans many → AreOpened g plans many
opened_later f g marks plans zero are = tt
opened_later f g marks [] (suc many) are = absurd are
opened_later f g marks (p ∷ plans) (suc many) are = (one_opened_later f g marks p.kind are.0, opened_later f g marks plans many are.1)

-- ---- a later moment

kind_later : {R A B : Type 0} (f g : Folders) → ((p : List ℕ) → IsTrue (f.roll_opened p) → IsTrue (g.roll_opened p)) → (kind : SinkKind) (sink : AgentSink R A B) → IsOfKind f kind sink → IsOfKind g kind sink
kind_later f g marks plan.Null (Null sink) is = tt
kind_later f g marks (plan.Roll folder interval) (Roll sink) is = marks (string_bytes folder) is
kind_later f g marks (plan.Avro host port) (Avro sink) is = tt
kind_later f g marks (plan.Plugin name) (Boxed sink) is = tt
kind_later f g marks kind sink is = absurd is

-- sinks that are of their plans are so at a later moment
pub are_later : {R A B : Type 0} (f g : Folders) → ((p : List ℕ) → IsTrue (f.roll_opened p) → IsTrue (g.roll_opened p)) → (plans : List SinkPlan) (sinks : List (AgentSink R A B)) → AreOfPlans f plans sinks → AreOfPlans g plans sinks
are_later f g marks plans [] are = tt
are_later f g marks [] (s ∷ sinks) are = absurd are
are_later f g marks (p ∷ plans) (s ∷ sinks) are = (kind_later f g marks p.kind s are.0, are_later f g marks plans sinks are.1)

-- ---- the paths of their folders

-- the folder of a sink has the path of its kind
pub kind_paths : {R A B : Type 0} (rolled : R → Option Rolled) (f : Folders) (kind : SinkKind) (sink : AgentSink R A B) → IsOfKind f kind sink → paths_of (back_of rolled kind sink) ≡ folder_of kind
kind_paths rolled f plan.Null (Null sink) is = refl
kind_paths rolled f (plan.Roll folder interval) (Roll sink) is = refl
kind_paths rolled f (plan.Avro host port) (Avro sink) is = refl
kind_paths rolled f (plan.Plugin name) (Boxed sink) is = refl
kind_paths rolled f kind sink is = absurd is

-- the folders of sinks have the paths of their plans
pub are_paths : {R A B : Type 0} (rolled : R → Option Rolled) (f : Folders) (plans : List SinkPlan) (sinks : List (AgentSink R A B)) → AreOfPlans f plans sinks → paths_of (backs_of rolled plans sinks) ≡ folders_of (take (length sinks) plans)
are_paths rolled f plans [] are = refl
are_paths rolled f [] (s ∷ sinks) are = absurd are
are_paths rolled f (p ∷ plans) (s ∷ sinks) are =
    paths_append (back_of rolled p.kind s) (backs_of rolled plans sinks)
    ∙ ap (λ (l : List (List ℕ)). l ++ paths_of (backs_of rolled plans sinks)) (kind_paths rolled f p.kind s are.0)
    ∙ ap (λ (l : List (List ℕ)). folder_of p.kind ++ l) (are_paths rolled f plans sinks are.1)
