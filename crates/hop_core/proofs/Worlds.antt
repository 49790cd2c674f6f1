-- What a world does in a step of one of its nodes.
use Rattle.std.proofs.Common.{◌≡◌, ◌∙◌, ◌<◌, ◌++◌, ◌∷◌, [], ℕ, zero, suc, arith, List, length, Bool, true, false, Option, Some, None, Result, Ok, Err, IfOk, OnOk, OnErr, refl, ap, sym, subst}
use Rattle.std.specs.List.{slice_get, slice_set}
use Rattle.std.proofs.lemmas.List.{append-nil}
use Rattle.event_core.specs.Content.{Content}
use Rattle.event_core.specs.declared.refused.NoMemory.{NoMemory}
use Rattle.world_laws.specs.World.{World, Node, Packet, Tag}
use Rattle.world_laws.specs.Steps.{Step, at, happens, next, offered, quietly, if_fresh, is_fresh}
use Rattle.world_laws.specs.Held.{Held}
use Rattle.world_laws.specs.Laws.{EachStepKeeps}
use Rattle.std.specs.Option.{is_some}
use Rattle.hop_core.specs.Did.{Did}
use Rattle.hop_core.proofs.Nodes.{set_own}

-- a node that stays as it was
pub node_stays : (w : World) (number : ℕ) (old new : Node) → slice_get w.nodes number ≡ Some old → new ≡ old → record w { nodes = slice_set w.nodes number new } ≡ w
node_stays w number old new there same = ap (λ (nodes : List Node). record w { nodes = nodes }) (ap (λ (n : Node). slice_set w.nodes number n) same ∙ set_own w.nodes number old there)

-- what a node did, its world did
pub at_did : (w : World) (number : ℕ) (old new : Node) (f : Node → Option Node) (result : Result Bool NoMemory) → slice_get w.nodes number ≡ Some old → Did (f old) old result new
    → Did (at w number (λ n. quietly (f n))) w result (record w { nodes = slice_set w.nodes number new })
at_did w number old new f (Ok true) there did = rw (there, did) (ap (λ (sent : List Packet). Some (record { nodes = slice_set w.nodes number new; sent = sent })) (append-nil w.sent))
at_did w number old new f (Ok false) there did = (rw (there, did.0) refl, node_stays w number old new there did.1)
at_did w number old new f (Err refused) there did = node_stays w number old new there did

-- what a node sent is sent
pub at_sent : (w : World) (number : ℕ) (old new : Node) (f : Node → Option (Node × List Packet)) (packet : Packet) (sent : List Packet) → slice_get w.nodes number ≡ Some old → f old ≡ Some (new, packet ∷ [])
    → sent ≡ w.sent ++ packet ∷ [] → at w number f ≡ Some (record { nodes = slice_set w.nodes number new; sent = sent })
at_sent w number old new f packet sent there did more = rw (there, did, more) refl

-- where a node can't take a step, its world can't
pub at_none : (w : World) (number : ℕ) (old : Node) (f : Node → Option (Node × List Packet)) → slice_get w.nodes number ≡ Some old → f old ≡ None → at w number f ≡ None
at_none w number old f there none = rw (there, none) refl

-- with a tag that no request has
pub fresh_is : (w : World) (tag : Tag) (stepped : Option World) → is_fresh tag w.sent ≡ true → if_fresh w tag stepped ≡ stepped
fresh_is w tag stepped fresh = rw fresh refl

there_is : {A : Type 0} (xs : List A) (i : ℕ) → i < length xs → (x : A) × (slice_get xs i ≡ Some x)
there_is [] i h = absurd (omega arith)
there_is (x ∷ xs) zero h = (x, refl)
there_is (x ∷ xs) (suc i) h = there_is xs i (omega arith)

-- a request from outside is sent
pub offered_is : (w : World) (number : ℕ) (tag : Tag) (batch : List Content) (sent : List Packet) → number < length w.nodes → is_fresh tag w.sent ≡ true → sent ≡ w.sent ++ Packet.Request number tag batch ∷ []
    → if_fresh w tag (at w number (offered number tag batch)) ≡ Some (record { nodes = w.nodes; sent = sent })
offered_is w number tag batch sent h fresh more =
    let old = there_is w.nodes number h in
    fresh_is w tag (at w number (offered number tag batch)) fresh
    ∙ (at_sent w number old.0 old.0 (offered number tag batch) (Packet.Request number tag batch) sent old.1 refl more
    ∙ ap (λ (nodes : List Node). Some (record { nodes = nodes; sent = sent })) (set_own w.nodes number old.0 old.1))

-- what the answer of a step says

-- the answer says whether the step could be taken
pub did_taken : {A : Type 0} (goal : Option A) (old new : A) (result : Result Bool NoMemory) → Did goal old result new → IfOk result (λ taken. taken ≡ is_some goal)
did_taken goal old new (Ok true) did = rw did refl
did_taken goal old new (Ok false) did = rw (did.0) refl
did_taken goal old new (Err refused) did = tt

-- the world is the next one, or the same where the step can't be taken
pub did_next : (goal : Option World) (old new : World) (result : Result Bool NoMemory) → Did goal old result new → OnOk result (new ≡ next old goal)
did_next goal old new (Ok true) did = rw did refl
did_next goal old new (Ok false) did = rw (did.0) (did.1)
did_next goal old new (Err refused) did = tt

-- out of memory, all stays as it was
pub did_same : {A : Type 0} (goal : Option A) (old new : A) (result : Result Bool NoMemory) → Did goal old result new → OnErr result (new ≡ old)
did_same goal old new (Ok true) did = tt
did_same goal old new (Ok false) did = tt
did_same goal old new (Err refused) did = did

-- so the accounting holds after it
pub did_hold : (w new : World) (step : Step) (result : Result Bool NoMemory) → EachStepKeeps → Did (happens w step) w result new → Held w → Held new
did_hold w new step (Ok true) law did held = (let moved : next w (happens w step) ≡ new = rw did refl in subst Held moved (law w step held))
did_hold w new step (Ok false) law did held = subst Held (sym did.1) held
did_hold w new step (Err refused) law did held = subst Held (sym did) held
