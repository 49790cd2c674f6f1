-- What a node does in a step that can be taken.
use Rattle.std.proofs.Common.{◌≡◌, ◌∙◌, ◌++◌, ◌∷◌, ◌&&◌, [], ℕ, zero, suc, List, length, take, Bool, true, false, Option, Some, None, Result, Ok, Err, refl, ap, sym, arith}
use Rattle.std.proofs.lemmas.Bool.Decides.{nat_tests}
use Rattle.std.proofs.Math.Seq.{take-append_seam}
use Rattle.std.specs.Prelude.{◌==◌}
use Rattle.std.specs.Bool.{IsTrue}
use Rattle.std.specs.List.{slice_get, slice_set}
use Rattle.event_core.specs.Content.{Content}
use Rattle.event_core.specs.Journal.{is_among}
use Rattle.event_core.specs.declared.refused.NoMemory.{NoMemory}
use Rattle.world_laws.specs.World.{Tag, Delivery, Output, Acked, Channel, Node, Work, Attempt, Request, Reply, and_then, live, share, commits}
use Rattle.world_laws.specs.Channels.{is_empty, stored, aside, taken, committed, given_up, reopened, all_reopened}
use Rattle.world_laws.specs.Steps.{on_channel, accept, acknowledge, take_one, send, output, replied, commit, end_attempt, end_work, mend, restart, is_passed, is_passed_by, are_settled, is_tag, ended, without_works, without_attempts}
use Rattle.hop_core.specs.Did.{Did}
use Rattle.hop_core.specs.Done.{is_done, is_done_work}

-- what stands at a place, written there, changes nothing
pub set_own : {A : Type 0} (xs : List A) (i : ℕ) (x : A) → slice_get xs i ≡ Some x → slice_set xs i x ≡ xs
set_own [] i x is = refl
set_own {A = A} (y ∷ xs) zero x is = (let same : x ≡ y = cc in ap (λ (z : A). z ∷ xs) same)
set_own {A = A} (y ∷ xs) (suc i) x is = ap (λ (l : List A). y ∷ l) (set_own xs i x is)

-- a list that is written back whole
pub written_back : {A : Type 0} (n : ℕ) (list rest : List A) → length list ≡ n → take n (list ++ rest) ≡ list
written_back {A = A} n list rest same = ap (λ (m : ℕ). take m (list ++ rest)) (sym same) ∙ take-append_seam list rest

-- what a channel did, its node did
pub on_channel_did : (node : Node) (channel : ℕ) (old new : Channel) (f : Channel → Option Channel) (result : Result Bool NoMemory) → slice_get node.channels channel ≡ Some old → Did (f old) old result new
    → Did (on_channel channel f node) node result (record node { channels = slice_set node.channels channel new })
on_channel_did node channel old new f (Ok true) at did = rw (at, did) refl
on_channel_did node channel old new f (Ok false) at did =
    (rw (at, did.0) refl, ap (λ (cs : List Channel). record node { channels = cs }) (ap (λ (c : Channel). slice_set node.channels channel c) did.1 ∙ set_own node.channels channel old at))
on_channel_did node channel old new f (Err refused) at did =
    ap (λ (cs : List Channel). record node { channels = cs }) (ap (λ (c : Channel). slice_set node.channels channel c) did ∙ set_own node.channels channel old at)

-- a channel took some events that it may miss
pub aside_done : (node : Node) (channel : ℕ) (events : List Content) (c new : Channel) → slice_get node.channels channel ≡ Some c → is_empty events ≡ false → stored events c ≡ Some new
    → on_channel channel (aside events) node ≡ Some (record node { channels = slice_set node.channels channel new })
aside_done node channel events c new at some done = rw (at, some, done) refl

-- a work that was alive has ended
pub end_work_done : (node : Node) (number : ℕ) (work : Work) (works : List (Option Work)) → live node.works number ≡ Some work → works ≡ slice_set node.works number None → end_work number node ≡ Some (record node { works = works })
end_work_done node number work works alive ends = rw (alive, ends) refl

-- what the test of a batch says

-- a batch of which the test says so is empty
pub emptied : (b : Bool) (xs : List Content) → (IsTrue b → xs ≡ []) × (xs ≡ [] → IsTrue b) → b ≡ true → is_empty xs ≡ true
emptied true xs said is = ap is_empty (said.0 refl)
emptied false xs said is = absurd (cc)

-- a batch of which the test denies it is not empty
pub not_emptied : (b : Bool) (xs : List Content) → (IsTrue b → xs ≡ []) × (xs ≡ [] → IsTrue b) → b ≡ false → is_empty xs ≡ false
not_emptied true xs said is = absurd (cc)
not_emptied false [] said is = (let never : false ≡ true = said.1 refl in absurd (cc))
not_emptied false (x ∷ xs) said is = refl

nothing : (o : Option Channel) → and_then o (λ (c : Channel). let none : Option Node = None in none) ≡ None
nothing None = refl
nothing (Some c) = refl

-- a channel that has nothing to take accepts no work
pub accept_empty : (node : Node) (number channel : ℕ) (work : Work) → live node.works number ≡ Some work → is_empty (share node work.made channel) ≡ true → accept number channel node ≡ None
accept_empty node number channel work alive empty = rw (alive, empty) (nothing (slice_get node.channels channel))

-- a channel stored its share, and the work has one entry more
pub accept_stored : (node : Node) (number channel : ℕ) (work : Work) (c new : Channel) (works : List (Option Work)) → live node.works number ≡ Some work → slice_get node.channels channel ≡ Some c
    → is_empty (share node work.made channel) ≡ false → is_passed work channel ≡ false → stored (share node work.made channel) c ≡ Some new
    → works ≡ slice_set node.works number (Some (record work { entries = work.entries ++ (channel, length (commits c)) ∷ [] }))
    → accept number channel node ≡ Some (record node { channels = slice_set node.channels channel new; works = works })
accept_stored node number channel work c new works alive at some passed done changed = rw (alive, at, some, passed, done, changed) refl

-- a channel refused its share, and so the work has ended
pub accept_refused : (node : Node) (number channel : ℕ) (work : Work) (c : Channel) (works : List (Option Work)) → live node.works number ≡ Some work → slice_get node.channels channel ≡ Some c
    → is_empty (share node work.made channel) ≡ false → is_passed work channel ≡ false → stored (share node work.made channel) c ≡ None → works ≡ slice_set node.works number None
    → accept number channel node ≡ Some (record node { works = works })
accept_refused node number channel work c works alive at some passed done changed = rw (alive, at, some, passed, done, changed) refl

take_own : (node : Node) (number channel : ℕ) (a : Attempt) (c new : Channel) (e : Content) (attempts : List (Option Attempt)) → live node.attempts number ≡ Some a → slice_get node.channels a.channel ≡ Some c
    → taken a.token c ≡ Some (new, e) → (a.channel == channel) ≡ true → a.tag ≡ None → a.delivery ≡ None → attempts ≡ slice_set node.attempts number (Some (record a { events = a.events ++ e ∷ [] }))
    → take_one channel number node ≡ Some (record node { channels = slice_set node.channels a.channel new; attempts = attempts })
take_own node number channel a c new e attempts alive at got own sent delivered changed = rw (changed, alive, at, got, own, sent, delivered) refl

-- an attempt that was not sent took one event more
pub take_one_done : (node : Node) (number channel : ℕ) (a : Attempt) (c new : Channel) (e : Content) (attempts : List (Option Attempt)) → live node.attempts number ≡ Some a → a.channel ≡ channel → slice_get node.channels channel ≡ Some c
    → taken a.token c ≡ Some (new, e) → a.tag ≡ None → a.delivery ≡ None → attempts ≡ slice_set node.attempts number (Some (record a { events = a.events ++ e ∷ [] }))
    → take_one channel number node ≡ Some (record node { channels = slice_set node.channels channel new; attempts = attempts })
take_one_done node number channel a c new e attempts alive own at got sent delivered changed =
    let test : (a.channel == channel) ≡ true = grind (arith, nat_tests) in
    take_own node number channel a c new e attempts alive (ap (λ (n : ℕ). slice_get node.channels n) own ∙ at) got test sent delivered changed
    ∙ ap (λ (n : ℕ). Some (record node { channels = slice_set node.channels n new; attempts = attempts })) own

-- an attempt was sent as a request to a node that its channel sends to
pub send_done : (node : Node) (number to : ℕ) (tag : Tag) (a : Attempt) (c : Channel) (attempts : List (Option Attempt)) → live node.attempts number ≡ Some a → slice_get node.channels a.channel ≡ Some c
    → a.delivery ≡ None → is_among c.later to ≡ true → attempts ≡ slice_set node.attempts number (Some (record a { tag = Some tag }))
    → send number to tag node ≡ Some (record node { attempts = attempts }, Request to tag a.events ∷ [])
send_done node number to tag a c attempts alive at delivered later changed = rw (changed, alive, at, delivered, later) refl

-- an attempt's events became an output of its node, and that is its delivery
pub output_done : (node : Node) (number : ℕ) (a : Attempt) (c : Channel) (outputs : List (List Content)) (attempts : List (Option Attempt)) → live node.attempts number ≡ Some a → slice_get node.channels a.channel ≡ Some c
    → a.delivery ≡ None → c.last ≡ true → outputs ≡ node.outputs ++ a.events ∷ [] → attempts ≡ slice_set node.attempts number (Some (record a { delivery = Some (Output (length node.outputs)) }))
    → output number node ≡ Some (record node { outputs = outputs; attempts = attempts })
output_done node number a c outputs attempts alive at delivered last more changed = rw (more, changed, alive, at, delivered, last) refl

-- a reply of the attempt's own tag is its delivery
pub replied_done : (node : Node) (number from place : ℕ) (tag : Tag) (a : Attempt) (attempts : List (Option Attempt)) → live node.attempts number ≡ Some a → is_tag tag a.tag ≡ true
    → attempts ≡ slice_set node.attempts number (Some (record a { delivery = Some (Acked from place) })) → replied number tag from place node ≡ Some (record node { attempts = attempts })
replied_done node number from place tag a attempts alive own changed = rw (alive, own, changed) refl

-- a reply of any other tag ends the attempt
pub replied_other : (node : Node) (number from place : ℕ) (tag : Tag) (a : Attempt) → live node.attempts number ≡ Some a → is_tag tag a.tag ≡ false → replied number tag from place node ≡ end_attempt number node
replied_other node number from place tag a alive own = rw (alive, own) refl

-- a delivered attempt was committed, and has ended
pub commit_done : (node : Node) (number : ℕ) (a : Attempt) (delivery : Delivery) (c new : Channel) (attempts : List (Option Attempt)) → live node.attempts number ≡ Some a → a.delivery ≡ Some delivery
    → slice_get node.channels a.channel ≡ Some c → committed a.token delivery a.events c ≡ Some new → attempts ≡ slice_set node.attempts number None
    → commit number node ≡ Some (record node { channels = slice_set node.channels a.channel new; attempts = attempts })
commit_done node number a delivery c new attempts alive delivered at done changed = rw (changed, alive, delivered, at, done) refl

-- an attempt was rolled back, and has ended
pub end_attempt_done : (node : Node) (number : ℕ) (a : Attempt) (c new : Channel) (attempts : List (Option Attempt)) → live node.attempts number ≡ Some a → slice_get node.channels a.channel ≡ Some c
    → given_up a.token c ≡ Some new → attempts ≡ slice_set node.attempts number None
    → end_attempt number node ≡ Some (record node { channels = slice_set node.channels a.channel new; attempts = attempts })
end_attempt_done node number a c new attempts alive at done changed =
    rw (changed, alive, at)
    (ap (λ (o : Option Channel). and_then o (λ (d : Channel). Some (record node { channels = slice_set node.channels a.channel d; attempts = slice_set node.attempts number None }))) done)

-- a channel was opened again, and works and attempts that hung on it have ended
pub mend_done : (node : Node) (channel kept settled : ℕ) (c new : Channel) (works : List (Option Work)) (attempts : List (Option Attempt)) → slice_get node.channels channel ≡ Some c → settled ≡ length c.journal → reopened kept c ≡ Some new
    → works ≡ without_works channel settled node.works → attempts ≡ without_attempts channel node.attempts
    → mend channel kept node ≡ Some (record node { channels = slice_set node.channels channel new; works = works; attempts = attempts })
mend_done node channel kept settled c new works attempts at count done left given = rw (at, done, left, given, count) refl

-- after a crash all channels are open again, and no work or attempt is left
pub restart_done : (node : Node) (kept : List ℕ) (channels : List Channel) (works : List (Option Work)) (attempts : List (Option Attempt)) → all_reopened kept node.channels ≡ Some channels → works ≡ ended node.works → attempts ≡ ended node.attempts
    → restart kept node ≡ Some (record node { channels = channels; works = works; attempts = attempts })
restart_done node kept channels works attempts done left given = rw (done, left, given) refl

-- a work that is done became an acknowledgement, and an OK was sent
pub acknowledge_done : (node : Node) (own number : ℕ) (work : Work) (acks : List Work) (works : List (Option Work)) → live node.works number ≡ Some work → is_done number node ≡ true
    → acks ≡ node.acks ++ work ∷ [] → works ≡ slice_set node.works number None
    → acknowledge own number node ≡ Some (record node { acks = acks; works = works }, Reply work.tag own (length node.acks) ∷ [])
acknowledge_done node own number work acks works alive done more changed =
    let all : (is_passed_by node work 0 node.channels && are_settled node work.entries) ≡ true = ap (λ (o : Option Work). is_done_work node o) (sym alive) ∙ done in
    rw (alive, all, more, changed) refl

not_done : (node : Node) (own number : ℕ) (o : Option Work) → live node.works number ≡ o → is_done_work node o ≡ false → acknowledge own number node ≡ None
not_done node own number None alive not_yet = rw alive refl
not_done node own number (Some work) alive not_yet = rw (alive, not_yet) refl

-- a work that is not done is not acknowledged
pub acknowledge_not : (node : Node) (own number : ℕ) → is_done number node ≡ false → acknowledge own number node ≡ None
acknowledge_not node own number not_yet = not_done node own number (live node.works number) refl not_yet
