-- What the commits of a channel name, and what its open takes are of, as the channel goes on.
use Rattle.std.proofs.Common.{◌⊎◌, inl, inr, ◌≡◌, ◌+◌, ◌++◌, ◌∷◌, [], ℕ, List, length, length-append, map, slice_get, Option, Some, None, refl, sym, ◌∙◌, ap, subst, arith}
use Rattle.std.proofs.lemmas.List.{append-nil}
use Rattle.std.proofs.lemmas.Option.{slice_get_within}
use Rattle.event_core.specs.Content.{Content}
use Rattle.event_core.specs.Journal.{put_events, is_among}
use Rattle.event_core.specs.declared.journal.Entry.{Entry}
use Rattle.event_core.specs.declared.journal.Entry.TheVariants.{Puts, Takes}
use Rattle.channel_face.specs.Machine.{entry_of}
use Rattle.channel_face.proofs.Numbers.{put_events-append}
use Rattle.world_laws.specs.World.{Channel, Delivery, Output, Acked, Attempt, World, commits}
use Rattle.world_laws.specs.Held.{Are, events_of, Names, IsDelivered, CommitsAreNamed, IsDue, AttemptAgrees}
use Rattle.world_laws.proofs.Lists.{cons_same, no_some, get_front, get_one, get_take, take_lengths}
use Rattle.world_laws.proofs.Becoming.{Added, NoEntry, APuts, ATakes, IsPut, Becomes, Reopens}
use Rattle.world_laws.proofs.Holding.{NamedLess}

-- events of numbers stay, as more is put

more_events : (put more : List Content) (numbers : List ℕ) (events : List Content) → events_of put numbers ≡ map (λ e. Some e) events → events_of (put ++ more) numbers ≡ map (λ e. Some e) events
more_events put more [] events is = is
more_events put more (n ∷ numbers) [] is = absurd (cc)
more_events put more (n ∷ numbers) (e ∷ events) is =
    let both = cons_same (slice_get put n) (Some e) (events_of put numbers) (map (λ e. Some e) events) is in
    let rest = more_events put more numbers events both.1 in
    let one = get_front put more n e both.0 in
    ap (λ (x : Option Content). x ∷ events_of (put ++ more) numbers) one ∙ ap (λ (l : List (Option Content)). Some e ∷ l) rest

-- numbers with their events, and one more number with its own
pub events_push : (put : List Content) (numbers : List ℕ) (events : List Content) (n : ℕ) (e : Content) → events_of put numbers ≡ map (λ x. Some x) events → slice_get put n ≡ Some e → events_of put (numbers ++ n ∷ []) ≡ map (λ x. Some x) (events ++ e ∷ [])
events_push put [] [] n e is one = ap (λ (x : Option Content). x ∷ []) one
events_push put [] (x ∷ events) n e is one = absurd (cc)
events_push put (m ∷ numbers) [] n e is one = absurd (cc)
events_push put (m ∷ numbers) (x ∷ events) n e is one =
    let both = cons_same (slice_get put m) (Some x) (events_of put numbers) (map (λ e. Some e) events) is in
    ap (λ (y : Option Content). y ∷ events_of put (numbers ++ n ∷ [])) both.0 ∙ ap (λ (l : List (Option Content)). Some x ∷ l) (events_push put numbers events n e both.1 one)

-- numbers keep their events as the journal grows
pub are_more : (c d : Channel) (more : List Entry) (numbers : List ℕ) (events : List Content) → d.journal ≡ c.journal ++ more → Are c numbers events → Are d numbers events
are_more c d more numbers events journal are =
    ap (λ (l : List Content). events_of l numbers) (ap put_events journal ∙ put_events-append c.journal more) ∙ more_events (put_events c.journal) (put_events more) numbers events are

due_on : (w : World) (n : ℕ) (c d : Channel) (a : Attempt) (delivery : Option Delivery) → d.last ≡ c.last → IsDue w n c a delivery → IsDue w n d a delivery
due_on w n c d a None last due = tt
due_on w n c d a (Some (Output place)) last due = (last ∙ due.0, due.1)
due_on w n c d a (Some (Acked m place)) last due = due

-- an attempt whose open take stays
pub agrees_on : (w : World) (n : ℕ) (c d : Channel) (added : Added) (a : Attempt) → Becomes c d added → ((e : Entry) → entry_of a.token.number c.state.opened ≡ Some e → entry_of a.token.number d.state.opened ≡ Some e) → AttemptAgrees w n c a → AttemptAgrees w n d a
agrees_on w n c d added a b keeps t = record {
  numbers = t.numbers;
  alive = t.alive ∙ sym b.life;
  open_take = keeps (Takes t.numbers) t.open_take;
  events = are_more c d b.settled t.numbers a.events b.journal t.events;
  asked = λ tag is. let k = t.asked tag is in (k.0, ap (λ (l : List ℕ). is_among l k.0) b.later ∙ k.1, k.2);
  delivery = due_on w n c d a a.delivery b.last t.delivery;
}

-- names

delivered_on : (w : World) (n : ℕ) (c d : Channel) (events : List Content) (delivery : Delivery) → d.later ≡ c.later → d.last ≡ c.last → IsDelivered w n c events delivery → IsDelivered w n d events delivery
delivered_on w n c d events (Output place) later last is = (last ∙ is.0, is.1)
delivered_on w n c d events (Acked m place) later last is = (is.0, is.1, ap (λ (l : List ℕ). is_among l m) later ∙ is.2, is.3)

names_on : (w : World) (n : ℕ) (c d : Channel) (more : List Entry) (entry : Entry) (name : Option Delivery) → d.later ≡ c.later → d.last ≡ c.last → d.journal ≡ c.journal ++ more → Names w n c entry name → Names w n d entry name
names_on w n c d more (Puts events) name later last journal is = is
names_on w n c d more (Takes numbers) None later last journal is = is
names_on w n c d more (Takes numbers) (Some delivery) later last journal is = (is.0, are_more c d more numbers is.0 journal is.1, delivered_on w n c d is.0 delivery later last is.2)

one_named : (w : World) (n : ℕ) (c d : Channel) (more : List Entry) (e : Entry) (x : Option Delivery) → d.later ≡ c.later → d.last ≡ c.last → d.journal ≡ c.journal ++ more → commits d ≡ commits c ++ e ∷ [] → d.named ≡ c.named ++ x ∷ [] → Names w n d e x → CommitsAreNamed w n c → CommitsAreNamed w n d
one_named w n c d more e x later last journal longer named new was = record {
  beside = ap length named ∙ (length-append c.named (x ∷ []) ∙ (ap (λ (k : ℕ). k + 1) was.beside ∙ (sym (length-append (commits c) (e ∷ [])) ∙ ap length (sym longer))));
  names = λ place entry name at_commits at_named. from place entry name
      (get_one (commits c) e place entry (ap (λ (l : List Entry). slice_get l place) (sym longer) ∙ at_commits))
      (get_one c.named x place name (ap (λ (l : List (Option Delivery)). slice_get l place) (sym named) ∙ at_named));
}
  where
    from : (place : ℕ) (entry : Entry) (name : Option Delivery) → (slice_get (commits c) place ≡ Some entry) ⊎ ((place ≡ length (commits c)) × (e ≡ entry)) → (slice_get c.named place ≡ Some name) ⊎ ((place ≡ length c.named) × (x ≡ name)) → Names w n d entry name
    from place entry name (inl a) (inl b) = names_on w n c d more entry name later last journal (was.names place entry name a b)
    from place entry name (inl a) (inr b) = let less = slice_get_within (commits c) place entry a in absurd (omega (arith, less, b.0, was.beside))
    from place entry name (inr a) (inl b) = let less = slice_get_within c.named place name b in absurd (omega (arith, less, a.0, was.beside))
    from place entry name (inr a) (inr b) = subst (λ (y : Option Delivery). Names w n d entry y) b.1 (subst (λ (y : Entry). Names w n d y x) a.1 new)

-- what is added names what it has to
abbrev pub AddedNames : World → ℕ → Channel → Added → Type 0
AddedNames w n d NoEntry = Unit {0}
AddedNames w n d (APuts events) = Unit {0}
AddedNames w n d (ATakes numbers delivery) = Names w n d (Takes numbers) (Some delivery)

-- commits are named as the channel goes on, where what is added is named rightly
pub named_becomes : (w : World) (n : ℕ) (c d : Channel) (added : Added) → Becomes c d added → AddedNames w n d added → CommitsAreNamed w n c → CommitsAreNamed w n d
named_becomes w n c d NoEntry b new was =
    let same : commits d ≡ commits c = b.longer ∙ append-nil (commits c) in
    let named : d.named ≡ c.named = b.named ∙ append-nil c.named in
    record {
      beside = ap length named ∙ (was.beside ∙ ap length (sym same));
      names = λ place entry name at_commits at_named. names_on w n c d b.settled entry name b.later b.last b.journal
          (was.names place entry name (ap (λ (l : List Entry). slice_get l place) (sym same) ∙ at_commits) (ap (λ (l : List (Option Delivery)). slice_get l place) (sym named) ∙ at_named));
    }
named_becomes w n c d (APuts events) b new was = one_named w n c d b.settled (Puts events) None b.later b.last b.journal b.longer b.named refl was
named_becomes w n c d (ATakes numbers delivery) b new was = one_named w n c d b.settled (Takes numbers) (Some delivery) b.later b.last b.journal b.longer b.named new was

-- commits are named after the channel is opened again
pub named_reopens : (w : World) (n : ℕ) (c d : Channel) (cut : ℕ) → Reopens c d cut → CommitsAreNamed w n c → CommitsAreNamed w n d
named_reopens w n c d cut r was = record {
  beside = ap length r.named ∙ (take_lengths cut c.named (commits c) was.beside ∙ ap length (sym r.shorter));
  names = λ place entry name at_commits at_named. names_on w n c d r.settled entry name r.later r.last r.journal
      (was.names place entry name (get_take cut (commits c) place entry (ap (λ (l : List Entry). slice_get l place) (sym r.shorter) ∙ at_commits)) (get_take cut c.named place name (ap (λ (l : List (Option Delivery)). slice_get l place) (sym r.named) ∙ at_named)));
}

-- no more deliveries are named

-- a channel that stages no takes names no more deliveries
pub less_becomes : (c d : Channel) (added : Added) → IsPut added → Becomes c d added → NamedLess c d
less_becomes c d NoEntry put b p x is = ap (λ (l : List (Option Delivery)). slice_get l p) (sym (b.named ∙ append-nil c.named)) ∙ is
less_becomes c d (APuts events) put b p x is = from (get_one c.named None p (Some x) (ap (λ (l : List (Option Delivery)). slice_get l p) (sym b.named) ∙ is))
  where
    from : (slice_get c.named p ≡ Some (Some x)) ⊎ ((p ≡ length c.named) × (None ≡ Some x)) → slice_get c.named p ≡ Some (Some x)
    from (inl was) = was
    from (inr last) = absurd (no_some x last.1)
less_becomes c d (ATakes numbers delivery) put b p x is = absurd put

-- a channel that is opened again names no more deliveries
pub less_reopens : (c d : Channel) (cut : ℕ) → Reopens c d cut → NamedLess c d
less_reopens c d cut r p x is = get_take cut c.named p (Some x) (ap (λ (l : List (Option Delivery)). slice_get l p) (sym r.named) ∙ is)
