-- The calls of a history whose passes are all of one caller, one after another.
use Rattle.std.proofs.Common.{◌≡◌, ℕ, suc, List, [], ◌∷◌, ◌++◌, length, Option, Bool, true, false, refl, sym, ◌∙◌, ap, subst, arith, append_assoc}
use Rattle.std.specs.Prelude.{◌||◌}
use Rattle.flume_host.specs.Told.{Told}
use Rattle.event_core.specs.declared.journal.Entry.{Entry}
use Rattle.channel_face.specs.Faces.{Own, one}
use Rattle.channel_face.specs.History.{IsRun, Opening, Step, journal, kept_by, opening, state_after}
use Rattle.channel_face.specs.Machine.{Admits, Call, State, after}
use Rattle.channel_writing.specs.Stands.{has_fault, is_fault}
use Rattle.channel_lock.specs.Calls.{Below, has}
use Rattle.channel_lock.specs.Turns.{HasAll}
use Rattle.channel_lock.specs.Views.{View}
use Rattle.shared_channel.specs.Ports.{AreUnder, Stood, own_calls, own_if}
use Rattle.agent_commands.specs.Trails.{Touches, Trail}

-- each call, with the state in which it was made
abbrev pub recorded : State → List Step → List Own
recorded s [] = []
recorded s (step ∷ h) = record { call = step.call; before = s; moment = step.moment } ∷ recorded (after s step.call) h

-- each call carries one of these numbers
abbrev pub AllOf : List ℕ → List Step → Type 0
AllOf numbers [] = Unit {0}
AllOf numbers (step ∷ h) = (has numbers step.pass ≡ true) × AllOf numbers h

-- the state that calls lead to, what they settled, and whether one failed
abbrev pub calls_to : State → List Own → State
calls_to s [] = s
calls_to s (o ∷ own) = calls_to (after s o.call) own

abbrev pub settled_in : State → List Own → List Entry
settled_in s [] = []
settled_in s (o ∷ own) = kept_by s o.call ++ settled_in (after s o.call) own

abbrev pub faulty : List Own → Bool
faulty [] = false
faulty (o ∷ own) = is_fault o.call || faulty own

-- where all calls carry one's numbers, one's own calls are all of them
pub all_recorded : (numbers : List ℕ) (s : State) (h : List Step) → AllOf numbers h → own_calls numbers s h ≡ recorded s h
all_recorded numbers s [] all = refl
all_recorded numbers s (step ∷ h) all =
    let o : Own = record { call = step.call; before = s; moment = step.moment } in
    ap (λ (b : Bool). own_if b o (own_calls numbers (after s step.call) h)) all.0 ∙ ap (λ (l : List Own). o ∷ l) (all_recorded numbers (after s step.call) h all.1)

all_front : (numbers : List ℕ) (a more : List Step) → AllOf numbers (a ++ more) → AllOf numbers a
all_front numbers [] more all = tt
all_front numbers (step ∷ a) more all = (all.0, all_front numbers a more all.1)

-- the recorded calls lead to the state after the history
pub calls_to-recorded : (s : State) (h : List Step) → calls_to s (recorded s h) ≡ state_after s h
calls_to-recorded s [] = refl
calls_to-recorded s (step ∷ h) = calls_to-recorded (after s step.call) h

-- calls and then further calls lead where both in turn do
pub calls_to-append : (s : State) (a b : List Own) → calls_to s (a ++ b) ≡ calls_to (calls_to s a) b
calls_to-append s [] b = refl
calls_to-append s (o ∷ a) b = calls_to-append (after s o.call) a b

-- what two runs of calls settled is what the first did and then the second
pub settled_in-append : (s : State) (a b : List Own) → settled_in s (a ++ b) ≡ settled_in s a ++ settled_in (calls_to s a) b
settled_in-append s [] b = refl
settled_in-append s (o ∷ a) b = ap (λ (l : List Entry). kept_by s o.call ++ l) (settled_in-append (after s o.call) a b) ∙ sym (append_assoc (kept_by s o.call) (settled_in (after s o.call) a) (settled_in (calls_to (after s o.call) a) b))

-- what the recorded calls settled is the history's journal
pub settled_in-recorded : (s : State) (h : List Step) → settled_in s (recorded s h) ≡ journal s h
settled_in-recorded s [] = refl
settled_in-recorded s (step ∷ h) = ap (λ (l : List Entry). kept_by s step.call ++ l) (settled_in-recorded (after s step.call) h)

or_assoc : (a b c : Bool) → (a || b) || c ≡ a || (b || c)
or_assoc true b c = refl
or_assoc false b c = refl

-- two runs of calls failed where either did
pub faulty-append : (a b : List Own) → faulty (a ++ b) ≡ faulty a || faulty b
faulty-append [] b = refl
faulty-append (o ∷ a) b = ap (λ (x : Bool). is_fault o.call || x) (faulty-append a b) ∙ sym (or_assoc (is_fault o.call) (faulty a) (faulty b))

-- the recorded calls failed exactly where the history has a fault
pub faulty-recorded : (s : State) (h : List Step) → faulty (recorded s h) ≡ has_fault h
faulty-recorded s [] = refl
faulty-recorded s (step ∷ h) = ap (λ (x : Bool). is_fault step.call || x) (faulty-recorded (after s step.call) h)

-- as many calls are recorded as the history has
pub length-recorded : (s : State) (h : List Step) → length (recorded s h) ≡ length h
length-recorded s [] = refl
length-recorded s (step ∷ h) = ap (λ (n : ℕ). suc n) (length-recorded (after s step.call) h)

-- a state in which the caller left the channel is that which its calls led to
pub found : (o : Opening) (h : List Step) (numbers : List ℕ) → AllOf numbers h → (earlier : List Own) (s : State) → Stood o h numbers earlier s → s ≡ calls_to (opening o) earlier
found o h numbers all earlier s at =
    let front : List Step = at.0 in
    let mine : AllOf numbers front = all_front numbers front at.1.0 (subst (AllOf numbers) (sym at.1.1) all) in
    sym at.3 ∙ sym (calls_to-recorded (opening o) front) ∙ ap (calls_to (opening o)) (sym (all_recorded numbers (opening o) front mine) ∙ at.2)

-- a pass with every number made all calls
pub all_of : (v : View) (h : List Step) → HasAll v → Below v.passes h → AllOf v.numbers h
all_of v [] has below = tt
all_of v (step ∷ h) has below = (has step.pass below.0, all_of v h has below.1)

-- of one pass
pub all_under : (h : List Step) → Below 1 h → AreUnder 0 h
all_under [] below = tt
all_under (step ∷ h) below = (let b = below.0 in omega (arith, b), all_under h below.1)

first_of : Own → List Own → Own
first_of x [] = x
first_of x (y ∷ own) = y

rest_of : List Own → List Own
rest_of [] = []
rest_of (y ∷ own) = own

-- The first of the calls that are still to come: it was made in this state, and left the others.
pub record First (tells : Bool) (end : Option Told) (s : State) (told : Option Told) (call : Call) (before : State) (more : List Own) : Type 0 where
  pub here : before ≡ s
  pub h : List Step
  pub mid : Option Told
  pub touches : Touches s call told mid
  pub trail : Trail (after s call) mid h end
  pub admits : Admits tells s call
  pub run : IsRun tells (after s call) h
  pub rest : recorded (after s call) h ≡ more

-- the first of the calls that are still to come is the next step of the trail
pub first : (tells : Bool) (end : Option Told) (s : State) (told : Option Told) (h : List Step) (call : Call) (before : State) (moment : ℕ) (more : List Own)
    → recorded s h ≡ one call before moment ++ more → Trail s told h end → IsRun tells s h → First tells end s told call before more
unfolding first_of rest_of
first tells end s told [] call before moment more is trail run = absurd (let no = ap length is in omega (arith, no))
first tells end s told (step ∷ h) call before moment more is trail run =
    let x : Own = record { call = call; before = before; moment = moment } in
    let same : step.call ≡ call = ap (λ (l : List Own). (first_of x l).call) is in
    let its = subst (λ (k : Call). Touches s k told trail.0 × Trail (after s k) trail.0 h end × Admits tells s k × IsRun tells (after s k) h × (recorded (after s k) h ≡ more)) same (trail.1, trail.2, run.0, run.1, ap rest_of is) in
    record { here = sym (ap (λ (l : List Own). (first_of x l).before) is); h = h; mid = trail.0; touches = its.0; trail = its.1; admits = its.2; run = its.3; rest = its.4 }

-- no call is still to come
pub none_left : (s : State) (told end : Option Told) (h : List Step) → recorded s h ≡ [] → Trail s told h end → end ≡ told
none_left s told end [] is trail = trail
none_left s told end (step ∷ h) is trail = absurd (let no = ap length is in omega (arith, no))
