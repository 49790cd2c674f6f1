-- What the world keeps through a move of one node, and who holds a delivery then.
use Rattle.std.proofs.Common.{◌⊎◌, inl, inr, ◌≡◌, ◌≢◌, ℕ, List, slice_get, slice_set, Option, Some, None, refl, sym, ◌∙◌, ap, subst, arith}
use Rattle.std.proofs.lemmas.Option.{slice_get_within}
use Rattle.event_core.specs.Content.{Content}
use Rattle.event_core.specs.declared.journal.Entry.{Entry}
use Rattle.event_core.specs.declared.journal.Entry.TheVariants.{Puts, Takes}
use Rattle.world_laws.specs.World.{Tag, Delivery, Output, Acked, Channel, Work, Attempt, Node, Packet, World, commits, live}
use Rattle.world_laws.specs.Held.{AtNode, IsAck, IsRequest, IsOutput, IsDelivered, Names, CommitsAreNamed, TakesAreDelivered, Holder, AnAttempt, ACommit, HoldsTag, HoldsOutput, IsDue, AttemptAgrees, AttemptsAgree}
use Rattle.world_laws.proofs.Lists.{same_some, no_some, get_some}
use Rattle.world_laws.proofs.Moving.{stepped}
use Rattle.world_laws.proofs.Staying.{node_cases, node_goes}
use Rattle.world_laws.proofs.Speaking.{still_asked}

-- of one node

abbrev pub NodeAgrees : World → ℕ → Node → Type 0
NodeAgrees w n node = (number : ℕ) (a : Attempt) → live node.attempts number ≡ Some a → (c : Channel) × (slice_get node.channels a.channel ≡ Some c) × AttemptAgrees w n c a

abbrev pub AreApart : Node → Type 0
AreApart node = (i j : ℕ) (a b : Attempt) → live node.attempts i ≡ Some a → live node.attempts j ≡ Some b → a.channel ≡ b.channel → a.token.number ≡ b.token.number → i ≡ j

abbrev pub AreNamed : World → ℕ → Node → Type 0
AreNamed w n node = (place : ℕ) (c : Channel) → slice_get node.channels place ≡ Some c → CommitsAreNamed w n c

-- a tag has one holder, and so has an output place
pub record HeldOnce (w : World) : Type 0 where
  pub tags : (a b : Holder) (tag : Tag) → HoldsTag w a tag → HoldsTag w b tag → a ≡ b
  pub outputs : (a b : Holder) (n place : ℕ) → HoldsOutput w a n place → HoldsOutput w b n place → a ≡ b

-- the parts on takes and on attempts, with one sentence for all holders
pub record IsDelivering (w : World) : Type 0 where
  pub attempts : (n : ℕ) (node : Node) → AtNode w n node → NodeAgrees w n node
  pub apart : (n : ℕ) (node : Node) → AtNode w n node → AreApart node
  pub named : (n : ℕ) (node : Node) → AtNode w n node → AreNamed w n node
  pub once : HeldOnce w

-- both parts as one sentence for all holders
pub delivering_of : (w : World) → TakesAreDelivered w → AttemptsAgree w → IsDelivering w
delivering_of w takes agree = record { attempts = agree.agree; apart = agree.apart; named = takes.named; once = record { tags = tags; outputs = outputs } }
  where
    tags : (a b : Holder) (tag : Tag) → HoldsTag w a tag → HoldsTag w b tag → a ≡ b
    tags (AnAttempt n k) b tag x y = agree.tags n k b tag x y
    tags (ACommit n c i) (AnAttempt m k) tag x y = sym (agree.tags m k (ACommit n c i) tag y x)
    tags (ACommit n c i) (ACommit m d j) tag x y = takes.tags (ACommit n c i) (ACommit m d j) tag tt tt x y

    outputs : (a b : Holder) (n place : ℕ) → HoldsOutput w a n place → HoldsOutput w b n place → a ≡ b
    outputs (AnAttempt n k) b m p x y = agree.outputs n k b m p x y
    outputs (ACommit n c i) (AnAttempt l k) m p x y = sym (agree.outputs l k (ACommit n c i) m p y x)
    outputs (ACommit n c i) (ACommit l d j) m p x y = takes.outputs (ACommit n c i) (ACommit l d j) m p tt tt x y

-- the part on takes, from that sentence
pub takes_of : (w : World) → IsDelivering w → TakesAreDelivered w
takes_of w right = record { named = right.named; tags = λ a b tag p q x y. right.once.tags a b tag x y; outputs = λ a b n place p q x y. right.once.outputs a b n place x y }

-- the part on attempts, from that sentence
pub attempts_of : (w : World) → IsDelivering w → AttemptsAgree w
attempts_of w right = record { agree = right.attempts; apart = right.apart; tags = λ n k b tag x y. right.once.tags (AnAttempt n k) b tag x y; outputs = λ n k b m p x y. right.once.outputs (AnAttempt n k) b m p x y }

-- what stays

pub record Extends (w w' : World) : Type 0 where
  pub requests : (n : ℕ) (tag : Tag) (batch : List Content) → IsRequest w n tag batch → IsRequest w' n tag batch
  pub acks : (n place : ℕ) (ack : Work) → IsAck w n place ack → IsAck w' n place ack
  pub outputs : (n place : ℕ) (events : List Content) → IsOutput w n place events → IsOutput w' n place events

pub record Later (old new : Node) : Type 0 where
  pub acks : (place : ℕ) (ack : Work) → slice_get old.acks place ≡ Some ack → slice_get new.acks place ≡ Some ack
  pub outputs : (place : ℕ) (events : List Content) → slice_get old.outputs place ≡ Some events → slice_get new.outputs place ≡ Some events

-- where acknowledgements and outputs are the same, they stay
pub later_same : (old new : Node) → new.acks ≡ old.acks → new.outputs ≡ old.outputs → Later old new
later_same old new acks outputs = record { acks = λ place ack is. ap (λ (l : List Work). slice_get l place) acks ∙ is; outputs = λ place events is. ap (λ (l : List (List Content)). slice_get l place) outputs ∙ is }

-- a step of a node whose acknowledgements and outputs stay loses no request, acknowledgement or output
pub extends : (w : World) (n : ℕ) (old new : Node) (more : List Packet) → AtNode w n old → Later old new → Extends w (stepped w n new more)
extends w n old new more here later = record {
  requests = λ m tag batch is. still_asked w (slice_set w.nodes n new) more m tag batch is;
  acks = λ m place ack is. node_goes (λ node. slice_get node.acks place ≡ Some ack) w n old new here (later.acks place ack) m is.0 is.1 is.2;
  outputs = λ m place events is. node_goes (λ node. slice_get node.outputs place ≡ Some events) w n old new here (later.outputs place events) m is.0 is.1 is.2;
}

-- a delivery that is due stays so as the world goes on
pub due_later : (w w' : World) (n : ℕ) (c : Channel) (a : Attempt) (delivery : Option Delivery) → Extends w w' → IsDue w n c a delivery → IsDue w' n c a delivery
due_later w w' n c a None e due = tt
due_later w w' n c a (Some (Output place)) e due = (due.0, e.outputs n place a.events due.1)
due_later w w' n c a (Some (Acked m place)) e due = (due.0, e.acks m place due.0 due.1, due.2)

-- an attempt that agrees with its channel still agrees as the world goes on
pub agrees_later : (w w' : World) (n : ℕ) (c : Channel) (a : Attempt) → Extends w w' → AttemptAgrees w n c a → AttemptAgrees w' n c a
agrees_later w w' n c a e t = record {
  numbers = t.numbers;
  alive = t.alive;
  open_take = t.open_take;
  events = t.events;
  asked = λ tag is. let k = t.asked tag is in (k.0, k.1, e.requests k.0 tag a.events k.2);
  delivery = due_later w w' n c a a.delivery e t.delivery;
}

delivered_later : (w w' : World) (n : ℕ) (c : Channel) (events : List Content) (delivery : Delivery) → Extends w w' → IsDelivered w n c events delivery → IsDelivered w' n c events delivery
delivered_later w w' n c events (Output place) e is = (is.0, e.outputs n place events is.1)
delivered_later w w' n c events (Acked m place) e is = (is.0, e.acks m place is.0 is.1, is.2, is.3)

names_later : (w w' : World) (n : ℕ) (c : Channel) (entry : Entry) (name : Option Delivery) → Extends w w' → Names w n c entry name → Names w' n c entry name
names_later w w' n c (Puts events) name e is = is
names_later w w' n c (Takes numbers) None e is = is
names_later w w' n c (Takes numbers) (Some delivery) e is = (is.0, is.1, delivered_later w w' n c is.0 delivery e is.2)

-- what commits name is still there as the world goes on
pub named_later : (w w' : World) (n : ℕ) (c : Channel) → Extends w w' → CommitsAreNamed w n c → CommitsAreNamed w' n c
named_later w w' n c e t = record { beside = t.beside; names = λ place entry name x y. names_later w w' n c entry name e (t.names place entry name x y) }

-- holders

OnceBy : {X : Type 0} → (Holder → X → Type 0) → Type 0
OnceBy {X} Holds = (a b : Holder) (x : X) → Holds a x → Holds b x → a ≡ b

-- each thing still has one holder where nobody holds more
pub once_less : {X : Type 0} (Old New : Holder → X → Type 0) → ((a b : Holder) (x : X) → Old a x → Old b x → a ≡ b) → ((h : Holder) (x : X) → New h x → Old h x) → (a b : Holder) (x : X) → New a x → New b x → a ≡ b
once_less Old New once less a b x p q = once a b x (less a x p) (less b x q)

-- each thing has one holder where one gains only what nobody held
pub once_fresh : {X : Type 0} (Old New : Holder → X → Type 0) (Fresh : X → Type 0) (h0 : Holder) → ((a b : Holder) (x : X) → Old a x → Old b x → a ≡ b) → ((h : Holder) (x : X) → New h x → Old h x ⊎ ((h ≡ h0) × Fresh x)) → ((h : Holder) (x : X) → Fresh x → Old h x → ⊥) → (a b : Holder) (x : X) → New a x → New b x → a ≡ b
once_fresh {X} Old New Fresh h0 once goes fresh a b x p q = from (goes a x p) (goes b x q)
  where
    from : Old a x ⊎ ((a ≡ h0) × Fresh x) → Old b x ⊎ ((b ≡ h0) × Fresh x) → a ≡ b
    from (inl p) (inl q) = once a b x p q
    from (inl p) (inr q) = absurd (fresh a x q.1 p)
    from (inr p) (inl q) = absurd (fresh b x p.1 q)
    from (inr p) (inr q) = p.0 ∙ sym q.0

-- each thing has one holder where one hands it over to another
pub once_swap : {X : Type 0} (Old New : Holder → X → Type 0) (gone h0 : Holder) → ((a b : Holder) (x : X) → Old a x → Old b x → a ≡ b) → ((h : Holder) (x : X) → New h x → (Old h x × (h ≡ gone → ⊥)) ⊎ ((h ≡ h0) × Old gone x)) → (a b : Holder) (x : X) → New a x → New b x → a ≡ b
once_swap {X} Old New gone h0 once goes a b x p q = from (goes a x p) (goes b x q)
  where
    from : (Old a x × (a ≡ gone → ⊥)) ⊎ ((a ≡ h0) × Old gone x) → (Old b x × (b ≡ gone → ⊥)) ⊎ ((b ≡ h0) × Old gone x) → a ≡ b
    from (inl p) (inl q) = once a b x p.0 q.0
    from (inl p) (inr q) = absurd (p.1 (once a gone x p.0 q.1))
    from (inr p) (inl q) = absurd (q.1 (once b gone x q.0 p.1))
    from (inr p) (inr q) = p.0 ∙ sym q.0

abbrev pub node_of : Holder → ℕ
node_of (AnAttempt n number) = n
node_of (ACommit n channel place) = n

-- an entry that names a delivery has events, and they are delivered
pub named_at : (w : World) (n : ℕ) (c : Channel) (entry : Entry) (delivery : Delivery) → Names w n c entry (Some delivery) → (events : List Content) × IsDelivered w n c events delivery
named_at w n c (Puts events) delivery is = absurd (cc)
named_at w n c (Takes numbers) delivery is = (is.0, is.2)

-- what a commit names is there
pub named_there : (w : World) (n : ℕ) (c : Channel) (place : ℕ) (delivery : Delivery) → CommitsAreNamed w n c → slice_get c.named place ≡ Some (Some delivery) → (events : List Content) × IsDelivered w n c events delivery
named_there w n c place delivery t is =
    let less = slice_get_within c.named place (Some delivery) is in
    let e = get_some (commits c) place (omega (arith, less, t.beside)) in
    named_at w n c e.0 delivery (t.names place e.0 (Some delivery) e.1 is)

-- at one place there is one acknowledgement
pub one_ack : (w : World) (m place : ℕ) (a b : Work) → IsAck w m place a → IsAck w m place b → a ≡ b
one_ack w m place a b x y =
    let node : x.0 ≡ y.0 = same_some x.0 y.0 (sym x.1 ∙ y.1) in
    same_some a b (sym x.2 ∙ (ap (λ (k : Node). slice_get k.acks place) node ∙ y.2))

module _ (w : World) (n : ℕ) (old new : Node) (more : List Packet) (here : AtNode w n old) (later : Later old new) (right : IsDelivering w) where
  abbrev pub w' : World
  w' = stepped w n new more

  -- this step loses no request, acknowledgement or output
  pub goes_on : Extends w w'
  goes_on = extends w n old new more here later

  -- a node of the new world is one of the others, or the one that moved
  pub cases : (m : ℕ) (node : Node) → AtNode w' m node → ((m ≢ n) × AtNode w m node) ⊎ ((m ≡ n) × (new ≡ node))
  cases m node is = node_cases w n old new m node here is

  -- an acknowledgement that a commit of the old world names is the same there
  pub ack_was : (m : ℕ) (c : Channel) (place k i : ℕ) (ack : Work) → CommitsAreNamed w m c → slice_get c.named place ≡ Some (Some (Acked k i)) → IsAck w' k i ack → IsAck w k i ack
  ack_was m c place k i ack t is now =
      let d = (named_there w m c place (Acked k i) t is).1 in
      subst (λ (x : Work). IsAck w k i x) (one_ack w' k i d.0 ack (goes_on.acks k i d.0 d.1) now) d.1

  -- what holds of all tags of the other nodes and of the new one holds of all tags
  pub tags_from : (R : Holder → Tag → Type 0) → ((h : Holder) (t : Tag) → HoldsTag w h t → node_of h ≢ n → R h t)
      → ((k : ℕ) (a : Attempt) (t : Tag) → live new.attempts k ≡ Some a → a.tag ≡ Some t → R (AnAttempt n k) t)
      → ((channel : ℕ) (d : Channel) (place k i : ℕ) (ack : Work) (t : Tag) → slice_get new.channels channel ≡ Some d → slice_get d.named place ≡ Some (Some (Acked k i)) → IsAck w' k i ack → ack.tag ≡ t → R (ACommit n channel place) t)
      → (h : Holder) (t : Tag) → HoldsTag w' h t → R h t
  tags_from R apart_from by_attempt by_commit (AnAttempt m k) t is = from (cases m is.1.0 is.1.1)
    where
      from : ((m ≢ n) × AtNode w m is.1.0) ⊎ ((m ≡ n) × (new ≡ is.1.0)) → R (AnAttempt m k) t
      from (inl was) = apart_from (AnAttempt m k) t (is.0, (is.1.0, was.1, is.1.2), is.2) was.0
      from (inr same) = subst (λ (x : ℕ). R (AnAttempt x k) t) (sym same.0) (by_attempt k is.0 t (ap (λ (x : Node). live x.attempts k) same.1 ∙ is.1.2) is.2)
  tags_from R apart_from by_attempt by_commit (ACommit m channel place) t is = from (cases m is.4.0 is.4.1)
    where
      from : ((m ≢ n) × AtNode w m is.4.0) ⊎ ((m ≡ n) × (new ≡ is.4.0)) → R (ACommit m channel place) t
      from (inl was) = apart_from (ACommit m channel place) t (is.0, is.1, is.2, is.3, (is.4.0, was.1, is.4.2), is.5, ack_was m is.0 place is.1 is.2 is.3 (right.named m is.4.0 was.1 channel is.0 is.4.2) is.5 is.6, is.7) was.0
      from (inr same) = subst (λ (x : ℕ). R (ACommit x channel place) t) (sym same.0) (by_commit channel is.0 place is.1 is.2 is.3 t (ap (λ (x : Node). slice_get x.channels channel) same.1 ∙ is.4.2) is.5 is.6 is.7)

  -- what holds of all output places of the other nodes and of the new one holds of all output places
  pub outputs_from : (R : Holder → ℕ × ℕ → Type 0) → ((h : Holder) (x : ℕ × ℕ) → HoldsOutput w h x.0 x.1 → node_of h ≢ n → R h x)
      → ((k : ℕ) (a : Attempt) (p : ℕ) → live new.attempts k ≡ Some a → a.delivery ≡ Some (Output p) → R (AnAttempt n k) (n, p))
      → ((channel : ℕ) (d : Channel) (place p : ℕ) → slice_get new.channels channel ≡ Some d → slice_get d.named place ≡ Some (Some (Output p)) → R (ACommit n channel place) (n, p))
      → (h : Holder) (x : ℕ × ℕ) → HoldsOutput w' h x.0 x.1 → R h x
  outputs_from R apart_from by_attempt by_commit (AnAttempt m k) x is = from (cases m is.1.1.0 is.1.1.1)
    where
      from : ((m ≢ n) × AtNode w m is.1.1.0) ⊎ ((m ≡ n) × (new ≡ is.1.1.0)) → R (AnAttempt m k) x
      from (inl was) = apart_from (AnAttempt m k) x (is.0, (is.1.0, (is.1.1.0, was.1, is.1.1.2), is.1.2)) was.0
      from (inr same) =
          let r = by_attempt k is.1.0 x.1 (ap (λ (y : Node). live y.attempts k) same.1 ∙ is.1.1.2) is.1.2 in
          subst (λ (y : ℕ). R (AnAttempt y k) x) (sym same.0) (subst (λ (y : ℕ). R (AnAttempt n k) (y, x.1)) (sym same.0 ∙ is.0) r)
  outputs_from R apart_from by_attempt by_commit (ACommit m channel place) x is = from (cases m is.1.1.0 is.1.1.1)
    where
      from : ((m ≢ n) × AtNode w m is.1.1.0) ⊎ ((m ≡ n) × (new ≡ is.1.1.0)) → R (ACommit m channel place) x
      from (inl was) = apart_from (ACommit m channel place) x (is.0, (is.1.0, (is.1.1.0, was.1, is.1.1.2), is.1.2)) was.0
      from (inr same) =
          let r = by_commit channel is.1.0 place x.1 (ap (λ (y : Node). slice_get y.channels channel) same.1 ∙ is.1.1.2) is.1.2 in
          subst (λ (y : ℕ). R (ACommit y channel place) x) (sym same.0) (subst (λ (y : ℕ). R (ACommit n channel place) (y, x.1)) (sym same.0 ∙ is.0) r)

  -- the world goes on where the node does
  pub delivering : NodeAgrees w' n new → AreApart new → AreNamed w' n new → HeldOnce w' → IsDelivering w'
  delivering attempts apart named once = record {
    attempts = λ m node is k a has. attempts_at m node (cases m node is) k a has;
    apart = λ m node is. apart_at m node (cases m node is);
    named = λ m node is k c has. named_at_node m node (cases m node is) k c has;
    once = once;
  }
    where
      attempts_at : (m : ℕ) (node : Node) → ((m ≢ n) × AtNode w m node) ⊎ ((m ≡ n) × (new ≡ node)) → (k : ℕ) (a : Attempt) → live node.attempts k ≡ Some a → (c : Channel) × (slice_get node.channels a.channel ≡ Some c) × AttemptAgrees w' m c a
      attempts_at m node (inl was) k a has = let t = right.attempts m node was.1 k a has in (t.0, t.1, agrees_later w w' m t.0 a goes_on t.2)
      attempts_at m node (inr same) k a has =
          let t = attempts k a (ap (λ (x : Node). live x.attempts k) same.1 ∙ has) in
          (t.0, ap (λ (x : Node). slice_get x.channels a.channel) (sym same.1) ∙ t.1, subst (λ (x : ℕ). AttemptAgrees w' x t.0 a) (sym same.0) t.2)

      apart_at : (m : ℕ) (node : Node) → ((m ≢ n) × AtNode w m node) ⊎ ((m ≡ n) × (new ≡ node)) → AreApart node
      apart_at m node (inl was) = right.apart m node was.1
      apart_at m node (inr same) = subst AreApart same.1 apart

      named_at_node : (m : ℕ) (node : Node) → ((m ≢ n) × AtNode w m node) ⊎ ((m ≡ n) × (new ≡ node)) → (k : ℕ) (c : Channel) → slice_get node.channels k ≡ Some c → CommitsAreNamed w' m c
      named_at_node m node (inl was) k c has = named_later w w' m c goes_on (right.named m node was.1 k c has)
      named_at_node m node (inr same) k c has = subst (λ (x : ℕ). CommitsAreNamed w' x c) (sym same.0) (named k c (ap (λ (x : Node). slice_get x.channels k) same.1 ∙ has))

-- steps after which nobody holds more

abbrev pub NamedLess : Channel → Channel → Type 0
NamedLess c d = (p : ℕ) (x : Delivery) → slice_get d.named p ≡ Some (Some x) → slice_get c.named p ≡ Some (Some x)

abbrev pub WasAttempt : Node → ℕ → Attempt → Type 0
WasAttempt old k a = ((b : Attempt) × (live old.attempts k ≡ Some b) × (b.tag ≡ a.tag) × ((p : ℕ) → a.delivery ≡ Some (Output p) → b.delivery ≡ Some (Output p))) ⊎ ((a.tag ≡ None) × (a.delivery ≡ None))

pub record Local (w : World) (n : ℕ) (old new : Node) : Type 0 where
  pub later : Later old new
  pub attempts : NodeAgrees w n new
  pub apart : AreApart new
  pub named : AreNamed w n new
  pub was_attempt : (k : ℕ) (a : Attempt) → live new.attempts k ≡ Some a → WasAttempt old k a
  pub was_channel : (k : ℕ) (d : Channel) → slice_get new.channels k ≡ Some d → (c : Channel) × (slice_get old.channels k ≡ Some c) × NamedLess c d

-- deliveries still agree after a step in which nobody holds more
pub local_delivers : (w : World) (n : ℕ) (old new : Node) (more : List Packet) → AtNode w n old → IsDelivering w → Local w n old new → IsDelivering (stepped w n new more)
local_delivers w n old new more here right l =
    delivering w n old new more here l.later right
    (λ k a has. let t = l.attempts k a has in (t.0, t.1, agrees_later w (stepped w n new more) n t.0 a e t.2)) l.apart
    (λ k c has. named_later w (stepped w n new more) n c e (l.named k c has))
    (record { tags = once_less (HoldsTag w) (HoldsTag (stepped w n new more)) right.once.tags tags; outputs = λ a b m p x y. once_less (λ h z. HoldsOutput w h z.0 z.1) (λ h z. HoldsOutput (stepped w n new more) h z.0 z.1) (λ a b z x y. right.once.outputs a b z.0 z.1 x y) outputs a b (m, p) x y })
  where
    e : Extends w (stepped w n new more)
    e = extends w n old new more here l.later

    tags : (h : Holder) (t : Tag) → HoldsTag (stepped w n new more) h t → HoldsTag w h t
    tags = tags_from w n old new more here l.later right (HoldsTag w) (λ h t is other. is) by_attempt by_commit
      where
        by_attempt : (k : ℕ) (a : Attempt) (t : Tag) → live new.attempts k ≡ Some a → a.tag ≡ Some t → HoldsTag w (AnAttempt n k) t
        by_attempt k a t has is = from (l.was_attempt k a has)
          where
            from : WasAttempt old k a → HoldsTag w (AnAttempt n k) t
            from (inl b) = (b.0, (old, here, b.1), b.2 ∙ is)
            from (inr none) = absurd (no_some t (sym none.0 ∙ is))

        by_commit : (channel : ℕ) (d : Channel) (place k i : ℕ) (ack : Work) (t : Tag) → slice_get new.channels channel ≡ Some d → slice_get d.named place ≡ Some (Some (Acked k i)) → IsAck (stepped w n new more) k i ack → ack.tag ≡ t → HoldsTag w (ACommit n channel place) t
        by_commit channel d place k i ack t has is now tag =
            let c = l.was_channel channel d has in
            let named = c.2 place (Acked k i) is in
            (c.0, k, i, ack, (old, here, c.1), named, ack_was w n old new more here l.later right n c.0 place k i ack (right.named n old here channel c.0 c.1) named now, tag)

    outputs : (h : Holder) (x : ℕ × ℕ) → HoldsOutput (stepped w n new more) h x.0 x.1 → HoldsOutput w h x.0 x.1
    outputs = outputs_from w n old new more here l.later right (λ h x. HoldsOutput w h x.0 x.1) (λ h x is other. is) by_attempt by_commit
      where
        by_attempt : (k : ℕ) (a : Attempt) (p : ℕ) → live new.attempts k ≡ Some a → a.delivery ≡ Some (Output p) → HoldsOutput w (AnAttempt n k) n p
        by_attempt k a p has is = from (l.was_attempt k a has)
          where
            from : WasAttempt old k a → HoldsOutput w (AnAttempt n k) n p
            from (inl b) = (refl, (b.0, (old, here, b.1), b.3 p is))
            from (inr none) = absurd (no_some (Output p) (sym none.1 ∙ is))

        by_commit : (channel : ℕ) (d : Channel) (place p : ℕ) → slice_get new.channels channel ≡ Some d → slice_get d.named place ≡ Some (Some (Output p)) → HoldsOutput w (ACommit n channel place) n p
        by_commit channel d place p has is = let c = l.was_channel channel d has in (refl, (c.0, (old, here, c.1), c.2 place (Output p) is))
