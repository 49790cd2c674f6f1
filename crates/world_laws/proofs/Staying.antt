-- What stays through a move: the channels of a node, what it acknowledged and what it took, works and attempts.
use Rattle.std.proofs.Common.{◌⊎◌, inl, inr, ◌≡◌, ◌≢◌, ◌∷◌, [], ℕ, zero, suc, List, length, slice_get, slice_set, Option, Some, None, Bool, true, false, ◌==◌, cond, refl, sym, ◌∙◌, ap, subst}
use Rattle.std.proofs.lemmas.Bool.Decides.{eqb_tells}
use Rattle.event_core.specs.Content.{Content}
use Rattle.world_laws.specs.World.{Channel, Work, Attempt, Node, World, live}
use Rattle.world_laws.specs.Steps.{without_attempts, without_works, has_from}
use Rattle.world_laws.specs.Held.{AtNode}
use Rattle.world_laws.proofs.Lists.{same_some, no_some, get_front, get_one, set_here, set_there}
use Rattle.world_laws.proofs.Becoming.{Added, NoEntry, APuts, ATakes, Becomes, Reopens}
use Rattle.world_laws.proofs.Moving.{Moved, Asked, Stored, Acknowledged, ChannelMoved, TakeBegan, TookOne, Deposited, CommittedTo, AttemptEnded, Mended, Restarted, AllReopen, ReopensAt, node_after}

-- each channel goes on by R

abbrev pub AtBoth : (Channel → Channel → Type 0) → Option Channel → Option Channel → Type 0
AtBoth R None None = Unit {0}
AtBoth R None (Some d) = ⊥
AtBoth R (Some c) None = ⊥
AtBoth R (Some c) (Some d) = R c d

abbrev pub All : (Channel → Channel → Type 0) → List Channel → List Channel → Type 0
All R cs ds = (place : ℕ) → AtBoth R (slice_get cs place) (slice_get ds place)

-- a channel that is there now came of one at its place
pub came : (R : Channel → Channel → Type 0) (cs ds : List Channel) → All R cs ds → (place : ℕ) (d : Channel) → slice_get ds place ≡ Some d → (c : Channel) × (slice_get cs place ≡ Some c) × R c d
came R cs ds all place d is = from (slice_get cs place) refl (subst (λ (y : Option Channel). AtBoth R (slice_get cs place) y) is (all place))
  where
    from : (x : Option Channel) → slice_get cs place ≡ x → AtBoth R (slice_get cs place) (Some d) → (c : Channel) × (slice_get cs place ≡ Some c) × R c d
    from None was r = absurd (subst (λ (y : Option Channel). AtBoth R y (Some d)) was r)
    from (Some c) was r = (c, was, subst (λ (y : Option Channel). AtBoth R y (Some d)) was r)

-- a channel that was there goes on at its place
pub goes : (R : Channel → Channel → Type 0) (cs ds : List Channel) → All R cs ds → (place : ℕ) (c : Channel) → slice_get cs place ≡ Some c → (d : Channel) × (slice_get ds place ≡ Some d) × R c d
goes R cs ds all place c is = from (slice_get ds place) refl (subst (λ (x : Option Channel). AtBoth R x (slice_get ds place)) is (all place))
  where
    from : (y : Option Channel) → slice_get ds place ≡ y → AtBoth R (Some c) (slice_get ds place) → (d : Channel) × (slice_get ds place ≡ Some d) × R c d
    from None now r = absurd (subst (λ (y : Option Channel). AtBoth R (Some c) y) now r)
    from (Some d) now r = (d, now, subst (λ (y : Option Channel). AtBoth R (Some c) y) now r)

all_same : (R : Channel → Channel → Type 0) (cs : List Channel) → ((c : Channel) → R c c) → All R cs cs
all_same R cs same place = from (slice_get cs place)
  where
    from : (x : Option Channel) → AtBoth R x x
    from None = tt
    from (Some c) = same c

all_set : (R : Channel → Channel → Type 0) (cs : List Channel) (place : ℕ) (c d : Channel) → slice_get cs place ≡ Some c → ((c : Channel) → R c c) → R c d → All R cs (slice_set cs place d)
all_set R cs place c d there same r k = from (eqb_tells k place)
  where
    from : ((k == place) ≡ true) × (k ≡ place) ⊎ ((k == place) ≡ false) × (k ≢ place) → AtBoth R (slice_get cs k) (slice_get (slice_set cs place d) k)
    from (inl it) = subst (λ (i : ℕ). AtBoth R (slice_get cs i) (slice_get (slice_set cs place d) i)) (sym it.1)
        (subst (λ (x : Option Channel). AtBoth R x (slice_get (slice_set cs place d) place)) (sym there) (subst (λ (y : Option Channel). AtBoth R (Some c) y) (sym (set_here cs place c d there)) r))
    from (inr other) = subst (λ (y : Option Channel). AtBoth R (slice_get cs k) y) (sym (set_there cs place d k other.1)) (all_same R cs same k)

-- what holds of each reopening holds where all channels are opened again
pub all_again : (R : Channel → Channel → Type 0) (cs ds : List Channel) → ((c d : Channel) (cut : ℕ) → Reopens c d cut → R c d) → AllReopen cs ds → All R cs ds
all_again R cs ds again all place = from (slice_get cs place) (slice_get ds place) (all place)
  where
    from : (x y : Option Channel) → ReopensAt x y → AtBoth R x y
    from None None r = tt
    from None (Some d) r = r
    from (Some c) None r = r
    from (Some c) (Some d) r = again c d r.0 r.1

-- no channel is opened again
abbrev pub IsRunning : {w : World} {n : ℕ} {old : Node} → Moved w n old → Type 0
IsRunning (Mended place cut c d there reopens) = ⊥
IsRunning (Restarted ds all) = ⊥
IsRunning m = Unit {0}

-- what a channel becomes while no channel is opened again
pub all_run :
    (R : Channel → Channel → Type 0) (w : World) (n : ℕ) (old : Node) (m : Moved w n old) → IsRunning m → ((c : Channel) → R c c)
    → ((c d : Channel) (added : Added) → Becomes c d added → R c d) → All R old.channels (node_after m).channels
all_run R w n old (Stored number work place c d is there fresh becomes keeps) runs same r = all_set R old.channels place c d there same (r c d (APuts _) becomes)
all_run R w n old (ChannelMoved place c d added there put becomes keeps) runs same r = all_set R old.channels place c d there same (r c d added becomes)
all_run R w n old (TakeBegan place c d there begins) runs same r = all_set R old.channels place c d there same (r c d NoEntry begins.becomes)
all_run R w n old (TookOne number a c got is there tag delivery t took becomes keeps) runs same r = all_set R old.channels a.channel c got.0 there same (r c got.0 NoEntry becomes)
all_run R w n old (CommittedTo number a delivery c d is its there t becomes keeps) runs same r = all_set R old.channels a.channel c d there same (from becomes)
  where
    from : (Becomes c d (ATakes t.numbers delivery)) ⊎ (Becomes c d NoEntry) → R c d
    from (inl one) = r c d (ATakes t.numbers delivery) one
    from (inr none) = r c d NoEntry none
all_run R w n old (AttemptEnded number a c d is there becomes keeps) runs same r = all_set R old.channels a.channel c d there same (r c d NoEntry becomes)
all_run R w n old (Mended place cut c d there reopens) runs same r = absurd runs
all_run R w n old (Restarted ds all) runs same r = absurd runs
all_run R w n old m runs same r = all_same R old.channels same

-- what it becomes in any move
pub all_go :
    (R : Channel → Channel → Type 0) (w : World) (n : ℕ) (old : Node) (m : Moved w n old) → ((c : Channel) → R c c)
    → ((c d : Channel) (added : Added) → Becomes c d added → R c d) → ((c d : Channel) (cut : ℕ) → Reopens c d cut → R c d)
    → All R old.channels (node_after m).channels
all_go R w n old (Mended place cut c d there reopens) same r again = all_set R old.channels place c d there same (again c d cut reopens)
all_go R w n old (Restarted ds all) same r again = all_again R old.channels ds again all
all_go R w n old m same r again = all_run R w n old m tt same r

-- the selector, what is acknowledged and what is taken

-- the selector's required channels stay the same in a move
pub required_same : (w : World) (n : ℕ) (old : Node) (m : Moved w n old) → (node_after m).required ≡ old.required
required_same w n old m = from m
  where
    from : (m : Moved w n old) → (node_after m).required ≡ old.required
    from (Asked tag batch unused) = refl
    from m = refl

-- what a node acknowledged stays at its place
pub acks_stay : (w : World) (n : ℕ) (old : Node) (m : Moved w n old) → (place : ℕ) (ack : Work) → slice_get old.acks place ≡ Some ack → slice_get (node_after m).acks place ≡ Some ack
acks_stay w n old (Acknowledged number work is all settled) place ack was = get_front old.acks (work ∷ []) place ack was
acks_stay w n old m place ack was = was

-- what a node's last sinks took stays at its place
pub outputs_stay : (w : World) (n : ℕ) (old : Node) (m : Moved w n old) → (place : ℕ) (events : List Content) → slice_get old.outputs place ≡ Some events → slice_get (node_after m).outputs place ≡ Some events
outputs_stay w n old (Deposited number a c is there last) place events was = get_front old.outputs (a.events ∷ []) place events was
outputs_stay w n old m place events was = was

-- an acknowledgement was one, or was a work
pub acks_were : (w : World) (n : ℕ) (old : Node) (m : Moved w n old) → (place : ℕ) (ack : Work) → slice_get (node_after m).acks place ≡ Some ack → (slice_get old.acks place ≡ Some ack) ⊎ ((number : ℕ) × (live old.works number ≡ Some ack))
acks_were w n old (Acknowledged number work is all settled) place ack has = from (get_one old.acks work place ack has)
  where
    from : (slice_get old.acks place ≡ Some ack) ⊎ ((place ≡ length old.acks) × (work ≡ ack)) → (slice_get old.acks place ≡ Some ack) ⊎ ((number : ℕ) × (live old.works number ≡ Some ack))
    from (inl was) = inl was
    from (inr last) = inr (number, is ∙ ap (λ (x : Work). Some x) last.1)
acks_were w n old m place ack has = inl has

-- works and attempts that a mend leaves

-- a work that a mend leaves was live, and has no entry beyond that channel's journal
pub left_works : (place journal : ℕ) (works : List (Option Work)) (k : ℕ) (one : Work) → live (without_works place journal works) k ≡ Some one → (live works k ≡ Some one) × (has_from place journal one.entries ≡ false)
left_works place journal [] k one is = absurd (no_some one is)
left_works place journal (None ∷ works) zero one is = absurd (no_some one is)
left_works place journal (None ∷ works) (suc k) one is = left_works place journal works k one is
left_works place journal (Some w ∷ works) zero one is = from (has_from place journal w.entries) refl is
  where
    from : (b : Bool) → has_from place journal w.entries ≡ b → (cond b None (Some w)) ≡ Some one → (Some w ≡ Some one) × (has_from place journal one.entries ≡ false)
    from true has x = absurd (no_some one x)
    from false has x = (x, ap (λ (y : Work). has_from place journal y.entries) (sym (same_some w one x)) ∙ has)
left_works place journal (Some w ∷ works) (suc k) one is = left_works place journal works k one is

-- an attempt that a mend leaves was live, and takes from another channel
pub left_attempts : (place : ℕ) (attempts : List (Option Attempt)) (k : ℕ) (a : Attempt) → live (without_attempts place attempts) k ≡ Some a → (live attempts k ≡ Some a) × (a.channel ≢ place)
left_attempts place [] k a is = absurd (no_some a is)
left_attempts place (None ∷ attempts) zero a is = absurd (no_some a is)
left_attempts place (None ∷ attempts) (suc k) a is = left_attempts place attempts k a is
left_attempts place (Some b ∷ attempts) zero a is = from (eqb_tells b.channel place)
  where
    from : ((b.channel == place) ≡ true) × (b.channel ≡ place) ⊎ ((b.channel == place) ≡ false) × (b.channel ≢ place) → (Some b ≡ Some a) × (a.channel ≢ place)
    from (inl same) = absurd (no_some a (ap (λ (t : Bool). cond t None (Some b)) (sym same.0) ∙ is))
    from (inr other) = let one : Some b ≡ Some a = ap (λ (t : Bool). cond t None (Some b)) (sym other.0) ∙ is in (one, λ same. other.1 (ap (λ (x : Attempt). x.channel) (same_some b a one) ∙ same))
left_attempts place (Some b ∷ attempts) (suc k) a is = left_attempts place attempts k a is

-- the nodes of the new world

-- a node after one was replaced: another one, or the new one
pub node_cases : (w : World) (n : ℕ) (old new : Node) (m : ℕ) (node : Node) → AtNode w n old → slice_get (slice_set w.nodes n new) m ≡ Some node → ((m ≢ n) × AtNode w m node) ⊎ ((m ≡ n) × (new ≡ node))
node_cases w n old new m node here is = from (eqb_tells m n)
  where
    from : ((m == n) ≡ true) × (m ≡ n) ⊎ ((m == n) ≡ false) × (m ≢ n) → ((m ≢ n) × AtNode w m node) ⊎ ((m ≡ n) × (new ≡ node))
    from (inl same) = inr (same.1, same_some new node (sym (set_here w.nodes n old new here) ∙ (ap (λ (k : ℕ). slice_get (slice_set w.nodes n new) k) (sym same.1) ∙ is)))
    from (inr other) = inl (other.1, sym (set_there w.nodes n new m other.1) ∙ is)

-- what is true of each node is true of each node of the new world
pub each_node : (P : Node → Type 0) (w : World) (n : ℕ) (old new : Node) → AtNode w n old → ((m : ℕ) (node : Node) → AtNode w m node → P node) → P new → (m : ℕ) (node : Node) → slice_get (slice_set w.nodes n new) m ≡ Some node → P node
each_node P w n old new here all one m node is = from (node_cases w n old new m node here is)
  where
    from : ((m ≢ n) × AtNode w m node) ⊎ ((m ≡ n) × (new ≡ node)) → P node
    from (inl was) = all m node was.1
    from (inr same) = subst P same.1 one

-- what a node has, and the next one has too, is there in the new world
pub node_goes : (P : Node → Type 0) (w : World) (n : ℕ) (old new : Node) → AtNode w n old → (P old → P new) → (m : ℕ) (node : Node) → AtNode w m node → P node → (x : Node) × (slice_get (slice_set w.nodes n new) m ≡ Some x) × P x
node_goes P w n old new here on m node is has = from (eqb_tells m n)
  where
    from : ((m == n) ≡ true) × (m ≡ n) ⊎ ((m == n) ≡ false) × (m ≢ n) → (x : Node) × (slice_get (slice_set w.nodes n new) m ≡ Some x) × P x
    from (inl same) =
        let one : node ≡ old = same_some node old (sym is ∙ (ap (λ (k : ℕ). slice_get w.nodes k) same.1 ∙ here)) in
        (new, ap (λ (k : ℕ). slice_get (slice_set w.nodes n new) k) same.1 ∙ set_here w.nodes n old new here, on (subst P one has))
    from (inr other) = (node, set_there w.nodes n new m other.1 ∙ is, has)
