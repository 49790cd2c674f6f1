-- Each move keeps what commits name, and what attempts have.
use Rattle.std.proofs.Common.{◌⊎◌, inl, inr, ◌≡◌, ◌≢◌, ◌++◌, ◌∷◌, [], ℕ, List, length, slice_get, slice_set, Option, Some, None, true, false, ◌==◌, refl, sym, ◌∙◌, ap, subst, arith}
use Rattle.std.proofs.lemmas.Option.{slice_get_within}
use Rattle.std.proofs.lemmas.Bool.Decides.{eqb_tells}
use Rattle.event_core.specs.Content.{Content}
use Rattle.event_core.specs.Journal.{is_among, put_events}
use Rattle.event_core.specs.declared.journal.Entry.{Entry}
use Rattle.event_core.specs.declared.journal.Entry.TheVariants.{Takes}
use Rattle.channel_face.specs.Token.{Token}
use Rattle.channel_face.specs.Machine.{entry_of}
use Rattle.world_laws.specs.World.{Tag, Delivery, Output, Acked, Channel, Work, Attempt, Node, Packet, Request, World, live}
use Rattle.world_laws.specs.Held.{AtNode, IsAck, IsRequest, IsOutput, IsDelivered, Names, CommitsAreNamed, Holder, AnAttempt, ACommit, HoldsTag, HoldsOutput, IsDue, AttemptAgrees, events_of, PacketsAgree}
use Rattle.world_laws.proofs.Lists.{same_some, no_some, get_front, get_last, get_one, get_set, set_here, set_there, live_one, live_set, live_none, none_ended}
use Rattle.world_laws.proofs.Opens.{numbered_below}
use Rattle.world_laws.proofs.Becoming.{Added, NoEntry, APuts, ATakes, IsPut, Becomes, Reopens, KeepsOpen, KeepsOthers, Begins}
use Rattle.world_laws.proofs.Taking.{Took}
use Rattle.world_laws.proofs.Moving.{Moved, Stored, ChannelMoved, TakeBegan, TookOne, Sent, Deposited, Answered, CommittedTo, AttemptEnded, Mended, Restarted, Unused, AllReopen, attempt_of, node_after, sent_by, stepped}
use Rattle.world_laws.proofs.Staying.{came, all_again, acks_stay, outputs_stay, left_attempts}
use Rattle.world_laws.proofs.Holding.{IsDelivering, Extends, Later, later_same, extends, agrees_later, named_later, once_less, once_fresh, once_swap, node_of, named_there, one_ack, ack_was, tags_from, outputs_from, delivering, NamedLess, WasAttempt, Local, local_delivers}
use Rattle.world_laws.proofs.Naming.{are_more, events_push, agrees_on, named_becomes, named_reopens, less_becomes, less_reopens}

later_of : (w : World) (n : ℕ) (old : Node) (m : Moved w n old) → Later old (node_after m)
later_of w n old m = record { acks = acks_stay w n old m; outputs = outputs_stay w n old m }

same_was : (old : Node) (k : ℕ) (a : Attempt) → live old.attempts k ≡ Some a → WasAttempt old k a
same_was old k a is = inl (a, is, refl, λ p x. x)

less_same : (c d : Channel) → d.named ≡ c.named → NamedLess c d
less_same c d same p x is = ap (λ (l : List (Option Delivery)). slice_get l p) (sym same) ∙ is

-- lists of channels

-- an attempt whose channel goes on
moved_one : (w : World) (n : ℕ) (channels : List Channel) (place : ℕ) (c d : Channel) → slice_get channels place ≡ Some c → (a : Attempt) → (a.channel ≡ place → AttemptAgrees w n c a → AttemptAgrees w n d a) → (x : Channel) × (slice_get channels a.channel ≡ Some x) × AttemptAgrees w n x a
    → (y : Channel) × (slice_get (slice_set channels place d) a.channel ≡ Some y) × AttemptAgrees w n y a
moved_one w n channels place c d there a stays t = from (eqb_tells a.channel place)
  where
    from : ((a.channel == place) ≡ true) × (a.channel ≡ place) ⊎ ((a.channel == place) ≡ false) × (a.channel ≢ place) → (y : Channel) × (slice_get (slice_set channels place d) a.channel ≡ Some y) × AttemptAgrees w n y a
    from (inl same) =
        let one : t.0 ≡ c = same_some t.0 c (sym t.1 ∙ (ap (λ (k : ℕ). slice_get channels k) same.1 ∙ there)) in
        (d, ap (λ (k : ℕ). slice_get (slice_set channels place d) k) same.1 ∙ set_here channels place c d there, stays same.1 (subst (λ (x : Channel). AttemptAgrees w n x a) one t.2))
    from (inr other) = (t.0, set_there channels place d a.channel other.1 ∙ t.1, t.2)

set_named : (w : World) (n : ℕ) (channels : List Channel) (place : ℕ) (c d : Channel) → slice_get channels place ≡ Some c → ((k : ℕ) (x : Channel) → slice_get channels k ≡ Some x → CommitsAreNamed w n x) → (CommitsAreNamed w n c → CommitsAreNamed w n d) → (k : ℕ) (x : Channel) → slice_get (slice_set channels place d) k ≡ Some x → CommitsAreNamed w n x
set_named w n channels place c d there all goes k x is = from (get_set channels place d k x is)
  where
    from : (slice_get channels k ≡ Some x) ⊎ ((k ≡ place) × (d ≡ x)) → CommitsAreNamed w n x
    from (inl was) = all k x was
    from (inr same) = subst (CommitsAreNamed w n) same.1 (goes (all place c there))

set_less : (channels : List Channel) (place : ℕ) (c d : Channel) → slice_get channels place ≡ Some c → NamedLess c d → (k : ℕ) (x : Channel) → slice_get (slice_set channels place d) k ≡ Some x → (y : Channel) × (slice_get channels k ≡ Some y) × NamedLess y x
set_less channels place c d there less k x is = from (get_set channels place d k x is)
  where
    from : (slice_get channels k ≡ Some x) ⊎ ((k ≡ place) × (d ≡ x)) → (y : Channel) × (slice_get channels k ≡ Some y) × NamedLess y x
    from (inl was) = (x, was, λ p e h. h)
    from (inr same) = (c, ap (λ (j : ℕ). slice_get channels j) same.0 ∙ there, λ p e h. less p e (ap (λ (z : Channel). slice_get z.named p) same.1 ∙ h))

-- moves after which nobody holds more

-- attempts and channels stay
local_same : (w : World) (n : ℕ) (old new : Node) → AtNode w n old → IsDelivering w → Later old new → new.attempts ≡ old.attempts → new.channels ≡ old.channels → Local w n old new
local_same w n old new here right later attempts channels = record {
  later = later;
  attempts = λ k a is. let t = right.attempts n old here k a (ap (λ (l : List (Option Attempt)). live l k) (sym attempts) ∙ is) in (t.0, ap (λ (l : List Channel). slice_get l a.channel) channels ∙ t.1, t.2);
  apart = λ i j a b x y. right.apart n old here i j a b (ap (λ (l : List (Option Attempt)). live l i) (sym attempts) ∙ x) (ap (λ (l : List (Option Attempt)). live l j) (sym attempts) ∙ y);
  named = λ k c is. right.named n old here k c (ap (λ (l : List Channel). slice_get l k) (sym channels) ∙ is);
  was_attempt = λ k a is. same_was old k a (ap (λ (l : List (Option Attempt)). live l k) (sym attempts) ∙ is);
  was_channel = λ k d is. (d, ap (λ (l : List Channel). slice_get l k) (sym channels) ∙ is, λ p x h. h);
}

-- one channel goes on
local_channel : (w : World) (n : ℕ) (old new : Node) (place : ℕ) (c d : Channel) (added : Added) → AtNode w n old → IsDelivering w → slice_get old.channels place ≡ Some c → Later old new → new.attempts ≡ old.attempts → new.channels ≡ slice_set old.channels place d
    → IsPut added → (CommitsAreNamed w n c → CommitsAreNamed w n d) → Becomes c d added → KeepsOpen c d → Local w n old new
local_channel w n old new place c d added here right there later attempts channels put named becomes keeps = record {
  later = later;
  attempts = λ k a is.
      let t = moved_one w n old.channels place c d there a (λ same. agrees_on w n c d added a becomes (λ e has. keeps a.token.number e has)) (right.attempts n old here k a (ap (λ (l : List (Option Attempt)). live l k) (sym attempts) ∙ is)) in
      (t.0, ap (λ (l : List Channel). slice_get l a.channel) channels ∙ t.1, t.2);
  apart = λ i j a b x y. right.apart n old here i j a b (ap (λ (l : List (Option Attempt)). live l i) (sym attempts) ∙ x) (ap (λ (l : List (Option Attempt)). live l j) (sym attempts) ∙ y);
  named = λ k x is. set_named w n old.channels place c d there (right.named n old here) named k x (ap (λ (l : List Channel). slice_get l k) (sym channels) ∙ is);
  was_attempt = λ k a is. same_was old k a (ap (λ (l : List (Option Attempt)). live l k) (sym attempts) ∙ is);
  was_channel = λ k x is. set_less old.channels place c d there (less_becomes c d added put becomes) k x (ap (λ (l : List Channel). slice_get l k) (sym channels) ∙ is);
}

put_named : (w : World) (n : ℕ) (c d : Channel) (added : Added) → IsPut added → Becomes c d added → CommitsAreNamed w n c → CommitsAreNamed w n d
put_named w n c d NoEntry put b was = named_becomes w n c d NoEntry b tt was
put_named w n c d (APuts events) put b was = named_becomes w n c d (APuts events) b tt was
put_named w n c d (ATakes numbers delivery) put b was = absurd put

-- an attempt begins
begin_local : (w : World) (n place : ℕ) (old : Node) (c d : Channel) (there : slice_get old.channels place ≡ Some c) (begins : Begins c d) → AtNode w n old → IsDelivering w → Local w n old (node_after {w = w} {n = n} {old = old} (TakeBegan place c d there begins))
begin_local w n place old c d there begins here right = record {
  later = later_of w n old (TakeBegan place c d there begins);
  attempts = λ k a has. agree k a (live_one old.attempts begun k a has);
  apart = λ i j a b x y. apart i j a b (live_one old.attempts begun i a x) (live_one old.attempts begun j b y);
  named = set_named w n old.channels place c d there (right.named n old here) (put_named w n c d NoEntry tt begins.becomes);
  was_attempt = λ k a has. was k a (live_one old.attempts begun k a has);
  was_channel = set_less old.channels place c d there (less_becomes c d NoEntry tt begins.becomes);
}
  where
    begun : Attempt
    begun = attempt_of place c

    own : AttemptAgrees w n d begun
    own = record {
      numbers = [];
      alive = sym begins.becomes.life;
      open_take = begins.entry;
      events = refl;
      asked = λ tag none. absurd (no_some tag none);
      delivery = tt;
    }

    agree : (k : ℕ) (a : Attempt) → (live old.attempts k ≡ Some a) ⊎ ((k ≡ length old.attempts) × (begun ≡ a)) → (x : Channel) × (slice_get (slice_set old.channels place d) a.channel ≡ Some x) × AttemptAgrees w n x a
    agree k a (inl was) = moved_one w n old.channels place c d there a (λ same. agrees_on w n c d NoEntry a begins.becomes (λ e has. begins.opened a.token.number e has)) (right.attempts n old here k a was)
    agree k a (inr last) = subst (λ (y : Attempt). (x : Channel) × (slice_get (slice_set old.channels place d) y.channel ≡ Some x) × AttemptAgrees w n x y) last.1 (d, set_here old.channels place c d there, own)

    -- an attempt of the channel has an earlier token
    earlier : (k : ℕ) (a : Attempt) → live old.attempts k ≡ Some a → a.channel ≡ place → a.token.number ≡ c.state.txn → ⊥
    earlier k a was same number =
        let t = right.attempts n old here k a was in
        let one : t.0 ≡ c = same_some t.0 c (sym t.1 ∙ (ap (λ (j : ℕ). slice_get old.channels j) same ∙ there)) in
        let less = numbered_below c.state.txn a.token.number (Takes t.2.numbers) c.state.opened begins.numbered (ap (λ (x : Channel). entry_of a.token.number x.state.opened) (sym one) ∙ t.2.open_take) in
        absurd (omega (arith, less, number))

    apart : (i j : ℕ) (a b : Attempt) → (live old.attempts i ≡ Some a) ⊎ ((i ≡ length old.attempts) × (begun ≡ a)) → (live old.attempts j ≡ Some b) ⊎ ((j ≡ length old.attempts) × (begun ≡ b)) → a.channel ≡ b.channel → a.token.number ≡ b.token.number → i ≡ j
    apart i j a b (inl x) (inl y) channels tokens = right.apart n old here i j a b x y channels tokens
    apart i j a b (inl x) (inr y) channels tokens = absurd (earlier i a x (channels ∙ ap (λ (z : Attempt). z.channel) (sym y.1)) (tokens ∙ ap (λ (z : Attempt). z.token.number) (sym y.1)))
    apart i j a b (inr x) (inl y) channels tokens = absurd (earlier j b y (sym channels ∙ ap (λ (z : Attempt). z.channel) (sym x.1)) (sym tokens ∙ ap (λ (z : Attempt). z.token.number) (sym x.1)))
    apart i j a b (inr x) (inr y) channels tokens = x.0 ∙ sym y.0

    was : (k : ℕ) (a : Attempt) → (live old.attempts k ≡ Some a) ⊎ ((k ≡ length old.attempts) × (begun ≡ a)) → WasAttempt old k a
    was k a (inl x) = same_was old k a x
    was k a (inr x) = inr (ap (λ (z : Attempt). z.tag) (sym x.1), ap (λ (z : Attempt). z.delivery) (sym x.1))

-- an attempt changes or ends; its channel may go on, and what the others have open stays

other_token : (w : World) (n : ℕ) (old : Node) → AtNode w n old → IsDelivering w → (number k : ℕ) (own a : Attempt) → live old.attempts number ≡ Some own → live old.attempts k ≡ Some a → k ≢ number → a.channel ≡ own.channel → a.token.number ≢ own.token.number
other_token w n old here right number k own a x y other channels tokens = other (right.apart n old here k number a own y x channels tokens)

changed_apart : (w : World) (n : ℕ) (old : Node) → AtNode w n old → IsDelivering w → (number : ℕ) (own : Attempt) (y : Option Attempt) → live old.attempts number ≡ Some own → ((b : Attempt) → y ≡ Some b → (b.channel ≡ own.channel) × (b.token ≡ own.token))
    → (i j : ℕ) (a b : Attempt) → live (slice_set old.attempts number y) i ≡ Some a → live (slice_set old.attempts number y) j ≡ Some b → a.channel ≡ b.channel → a.token.number ≡ b.token.number → i ≡ j
changed_apart w n old here right number own y is same i j a b p q channels tokens =
    let x = was i a (live_set old.attempts number y i a p) in
    let z = was j b (live_set old.attempts number y j b q) in
    right.apart n old here i j x.0 z.0 x.1 z.1 (x.2 ∙ (channels ∙ sym z.2)) (x.3 ∙ (tokens ∙ sym z.3))
  where
    was : (k : ℕ) (a : Attempt) → ((k ≢ number) × (live old.attempts k ≡ Some a)) ⊎ ((k ≡ number) × (y ≡ Some a)) → (b : Attempt) × (live old.attempts k ≡ Some b) × (b.channel ≡ a.channel) × (b.token.number ≡ a.token.number)
    was k a (inl it) = (a, it.1, refl, refl)
    was k a (inr it) = let s = same a it.1 in (own, ap (λ (j : ℕ). live old.attempts j) it.0 ∙ is, sym s.0, ap (λ (t : Token). t.number) (sym s.1))

-- the same channel and token
keeps_place : (own more : Attempt) → more.channel ≡ own.channel → more.token ≡ own.token → (b : Attempt) → Some more ≡ Some b → (b.channel ≡ own.channel) × (b.token ≡ own.token)
keeps_place own more channel token b is = let same = same_some more b is in (ap (λ (y : Attempt). y.channel) (sym same) ∙ channel, ap (λ (y : Attempt). y.token) (sym same) ∙ token)

no_attempt : (own : Attempt) (b : Attempt) → None ≡ Some b → (b.channel ≡ own.channel) × (b.token ≡ own.token)
no_attempt own b is = absurd (no_some b is)

-- the other attempts, as the channel of this one goes on
others_agree : (w : World) (n number : ℕ) (old : Node) (own : Attempt) (c d : Channel) (added : Added) → AtNode w n old → IsDelivering w → live old.attempts number ≡ Some own → slice_get old.channels own.channel ≡ Some c → Becomes c d added → KeepsOthers c d own.token.number
    → (k : ℕ) (b : Attempt) → (k ≢ number) × (live old.attempts k ≡ Some b) → (x : Channel) × (slice_get (slice_set old.channels own.channel d) b.channel ≡ Some x) × AttemptAgrees w n x b
others_agree w n number old own c d added here right is there becomes keeps k b was =
    moved_one w n old.channels own.channel c d there b (λ same. agrees_on w n c d added b becomes (λ e has. keeps b.token.number e (other_token w n old here right number k own b is was.1 was.0 same) has)) (right.attempts n old here k b was.1)

take_local : (w : World) (n number : ℕ) (old : Node) (own : Attempt) (c : Channel) (got : Channel × Content) → AtNode w n old → IsDelivering w → live old.attempts number ≡ Some own → slice_get old.channels own.channel ≡ Some c → own.tag ≡ None → own.delivery ≡ None
    → (t : AttemptAgrees w n c own) → Took c own.token t.numbers got → Becomes c got.0 NoEntry → KeepsOthers c got.0 own.token.number
    → Local w n old (record old { channels = slice_set old.channels own.channel got.0; attempts = slice_set old.attempts number (Some (record own { events = own.events ++ got.1 ∷ [] })) })
take_local w n number old own c got here right is there no_tag no_delivery t gave becomes keeps = record {
  later = later_same old (record old { channels = slice_set old.channels own.channel got.0; attempts = slice_set old.attempts number (Some more) }) refl refl;
  attempts = λ k b has. agree k b (live_set old.attempts number (Some more) k b has);
  apart = changed_apart w n old here right number own (Some more) is (keeps_place own more refl refl);
  named = set_named w n old.channels own.channel c got.0 there (right.named n old here) (put_named w n c got.0 NoEntry tt becomes);
  was_attempt = λ k b has. was_one k b (live_set old.attempts number (Some more) k b has);
  was_channel = set_less old.channels own.channel c got.0 there (less_becomes c got.0 NoEntry tt becomes);
}
  where
    more : Attempt
    more = record own { events = own.events ++ got.1 ∷ [] }

    due : (y : Option Delivery) → y ≡ None → IsDue w n got.0 more y
    due None none = tt
    due (Some x) none = absurd (cc)

    takes : AttemptAgrees w n got.0 more
    takes = record {
      numbers = t.numbers ++ gave.number ∷ [];
      alive = t.alive ∙ sym becomes.life;
      open_take = gave.opened;
      events = events_push (put_events got.0.journal) t.numbers own.events gave.number got.1 (ap (λ (l : List Entry). events_of (put_events l) t.numbers) gave.journal ∙ t.events) gave.event;
      asked = λ tag is. absurd (no_some tag (sym no_tag ∙ is));
      delivery = due own.delivery no_delivery;
    }

    agree : (k : ℕ) (b : Attempt) → ((k ≢ number) × (live old.attempts k ≡ Some b)) ⊎ ((k ≡ number) × (Some more ≡ Some b)) → (x : Channel) × (slice_get (slice_set old.channels own.channel got.0) b.channel ≡ Some x) × AttemptAgrees w n x b
    agree k b (inl was) = others_agree w n number old own c got.0 NoEntry here right is there becomes keeps k b was
    agree k b (inr last) = subst (λ (y : Attempt). (x : Channel) × (slice_get (slice_set old.channels own.channel got.0) y.channel ≡ Some x) × AttemptAgrees w n x y) (same_some more b last.1) (got.0, set_here old.channels own.channel c got.0 there, takes)

    was_one : (k : ℕ) (b : Attempt) → ((k ≢ number) × (live old.attempts k ≡ Some b)) ⊎ ((k ≡ number) × (Some more ≡ Some b)) → WasAttempt old k b
    was_one k b (inl was) = same_was old k b was.1
    was_one k b (inr last) = let same = same_some more b last.1 in inr (ap (λ (y : Attempt). y.tag) (sym same) ∙ no_tag, ap (λ (y : Attempt). y.delivery) (sym same) ∙ no_delivery)

-- it ends, and its channel goes on
ends_local : (w : World) (n number : ℕ) (old : Node) (own : Attempt) (c d : Channel) → AtNode w n old → IsDelivering w → live old.attempts number ≡ Some own → slice_get old.channels own.channel ≡ Some c → Becomes c d NoEntry → KeepsOthers c d own.token.number
    → Local w n old (record old { channels = slice_set old.channels own.channel d; attempts = slice_set old.attempts number None })
ends_local w n number old own c d here right is there becomes keeps = record {
  later = later_same old (record old { channels = slice_set old.channels own.channel d; attempts = slice_set old.attempts number None }) refl refl;
  attempts = λ k b has. agree k b (live_set old.attempts number None k b has);
  apart = changed_apart w n old here right number own None is (no_attempt own);
  named = set_named w n old.channels own.channel c d there (right.named n old here) (put_named w n c d NoEntry tt becomes);
  was_attempt = λ k b has. same_was old k b (live_none old.attempts number k b has);
  was_channel = set_less old.channels own.channel c d there (less_becomes c d NoEntry tt becomes);
}
  where
    agree : (k : ℕ) (b : Attempt) → ((k ≢ number) × (live old.attempts k ≡ Some b)) ⊎ ((k ≡ number) × (None ≡ Some b)) → (x : Channel) × (slice_get (slice_set old.channels own.channel d) b.channel ≡ Some x) × AttemptAgrees w n x b
    agree k b (inl was) = others_agree w n number old own c d NoEntry here right is there becomes keeps k b was
    agree k b (inr none) = absurd (no_some b none.1)

-- a reply of its own tag comes to it
reply_local : (w : World) (n number : ℕ) (old : Node) (own : Attempt) (tag : Tag) (m place : ℕ) (ack : Work) → AtNode w n old → IsDelivering w → live old.attempts number ≡ Some own → own.tag ≡ Some tag → IsAck w m place ack → ack.tag ≡ tag
    → Local w n old (record old { attempts = slice_set old.attempts number (Some (record own { delivery = Some (Acked m place) })) })
reply_local w n number old own tag m place ack here right is its there of_tag = record {
  later = later_same old (record old { attempts = slice_set old.attempts number (Some more) }) refl refl;
  attempts = λ k b has. agree k b (live_set old.attempts number (Some more) k b has);
  apart = changed_apart w n old here right number own (Some more) is (keeps_place own more refl refl);
  named = right.named n old here;
  was_attempt = λ k b has. was k b (live_set old.attempts number (Some more) k b has);
  was_channel = λ k d has. (d, has, λ p x h. h);
}
  where
    more : Attempt
    more = record own { delivery = Some (Acked m place) }

    agree : (k : ℕ) (b : Attempt) → ((k ≢ number) × (live old.attempts k ≡ Some b)) ⊎ ((k ≡ number) × (Some more ≡ Some b)) → (x : Channel) × (slice_get old.channels b.channel ≡ Some x) × AttemptAgrees w n x b
    agree k b (inl it) = right.attempts n old here k b it.1
    agree k b (inr it) =
        let t = right.attempts n old here number own is in
        subst (λ (y : Attempt). (x : Channel) × (slice_get old.channels y.channel ≡ Some x) × AttemptAgrees w n x y) (same_some more b it.1)
        (t.0, t.1, record { numbers = t.2.numbers; alive = t.2.alive; open_take = t.2.open_take; events = t.2.events; asked = t.2.asked; delivery = (ack, there, its ∙ ap (λ (x : Tag). Some x) (sym of_tag)) })

    not_output : (p : ℕ) → Some (Acked m place) ≡ Some (Output p) → ⊥
    not_output p bad = cc

    was : (k : ℕ) (b : Attempt) → ((k ≢ number) × (live old.attempts k ≡ Some b)) ⊎ ((k ≡ number) × (Some more ≡ Some b)) → WasAttempt old k b
    was k b (inl it) = same_was old k b it.1
    was k b (inr it) = subst (λ (j : ℕ). WasAttempt old j b) (sym it.0) (subst (WasAttempt old number) (same_some more b it.1) (inl (own, is, refl, λ p bad. absurd (not_output p bad))))

-- channels are opened again

mend_local : (w : World) (n place cut : ℕ) (old : Node) (c d : Channel) (there : slice_get old.channels place ≡ Some c) (reopens : Reopens c d cut) → AtNode w n old → IsDelivering w → Local w n old (node_after {w = w} {n = n} {old = old} (Mended place cut c d there reopens))
mend_local w n place cut old c d there reopens here right = record {
  later = later_of w n old (Mended place cut c d there reopens);
  attempts = λ k a has.
      let l = left_attempts place old.attempts k a has in
      let t = right.attempts n old here k a l.0 in
      (t.0, set_there old.channels place d a.channel l.1 ∙ t.1, t.2);
  apart = λ i j a b p q. right.apart n old here i j a b (left_attempts place old.attempts i a p).0 (left_attempts place old.attempts j b q).0;
  named = set_named w n old.channels place c d there (right.named n old here) (named_reopens w n c d cut reopens);
  was_attempt = λ k a has. same_was old k a (left_attempts place old.attempts k a has).0;
  was_channel = set_less old.channels place c d there (less_reopens c d cut reopens);
}

restart_local : (w : World) (n : ℕ) (old : Node) (ds : List Channel) (all : AllReopen old.channels ds) → AtNode w n old → IsDelivering w → Local w n old (node_after {w = w} {n = n} {old = old} (Restarted ds all))
restart_local w n old ds all here right = record {
  later = later_of w n old (Restarted ds all);
  attempts = λ k a has. absurd (none_ended old.attempts k a has);
  apart = λ i j a b p q. absurd (none_ended old.attempts i a p);
  named = λ place d has. let c = cut place d has in named_reopens w n c.0 d c.2.0 c.2.1 (right.named n old here place c.0 c.1);
  was_attempt = λ k a has. absurd (none_ended old.attempts k a has);
  was_channel = λ place d has. let c = cut place d has in (c.0, c.1, less_reopens c.0 d c.2.0 c.2.1);
}
  where
    cut : (place : ℕ) (d : Channel) → slice_get ds place ≡ Some d → (c : Channel) × (slice_get old.channels place ≡ Some c) × ((cut : ℕ) × Reopens c d cut)
    cut = came (λ c d. (cut : ℕ) × Reopens c d cut) old.channels ds (all_again (λ c d. (cut : ℕ) × Reopens c d cut) old.channels ds (λ c d cut r. (cut, r)) all)

-- a request is sent

send_delivers : (w : World) (n number to : ℕ) (tag : Tag) (old : Node) (own : Attempt) (c : Channel) → AtNode w n old → IsDelivering w → PacketsAgree w → Unused w tag → live old.attempts number ≡ Some own → slice_get old.channels own.channel ≡ Some c → is_among c.later to ≡ true → own.delivery ≡ None
    → IsDelivering (stepped w n (record old { attempts = slice_set old.attempts number (Some (record own { tag = Some tag })) }) (Request to tag own.events ∷ []))
send_delivers w n number to tag old own c here right packets unused is there among none =
    delivering w n old new more here later right (λ k a has. agree k a (live_set old.attempts number (Some sent) k a has)) apart (λ k d has. named_later w w' n d e (right.named n old here k d has))
    (record { tags = once_fresh (HoldsTag w) (HoldsTag w') (λ t. t ≡ tag) (AnAttempt n number) right.once.tags tags fresh; outputs = λ a b m p x y. once_less (λ h z. HoldsOutput w h z.0 z.1) (λ h z. HoldsOutput w' h z.0 z.1) (λ a b z x y. right.once.outputs a b z.0 z.1 x y) outputs a b (m, p) x y })
  where
    sent : Attempt
    sent = record own { tag = Some tag }

    more : List Packet
    more = Request to tag own.events ∷ []

    new : Node
    new = record old { attempts = slice_set old.attempts number (Some sent) }

    w' : World
    w' = stepped w n new more

    later : Later old new
    later = later_same old new refl refl

    e : Extends w w'
    e = extends w n old new more here later

    apart : (i j : ℕ) (a b : Attempt) → live new.attempts i ≡ Some a → live new.attempts j ≡ Some b → a.channel ≡ b.channel → a.token.number ≡ b.token.number → i ≡ j
    apart = changed_apart w n old here right number own (Some sent) is (keeps_place own sent refl refl)

    t : (x : Channel) × (slice_get old.channels own.channel ≡ Some x) × AttemptAgrees w n x own
    t = right.attempts n old here number own is

    t5 : AttemptAgrees w' n c own
    t5 = agrees_later w w' n c own e (subst (λ (x : Channel). AttemptAgrees w n x own) (same_some t.0 c (sym t.1 ∙ there)) t.2)

    due_sent : (delivery : Option Delivery) → delivery ≡ None → IsDue w' n c sent delivery
    due_sent None empty = tt
    due_sent (Some d) empty = absurd (cc)

    own_takes : AttemptAgrees w' n c sent
    own_takes = record {
      numbers = t5.numbers;
      alive = t5.alive;
      open_take = t5.open_take;
      events = t5.events;
      asked = λ x same. (to, among, subst (λ (y : Tag). IsRequest w' to y own.events) (same_some tag x same) (length w.sent, get_last w.sent (Request to tag own.events)));
      delivery = due_sent own.delivery none;
    }

    agree : (k : ℕ) (a : Attempt) → ((k ≢ number) × (live old.attempts k ≡ Some a)) ⊎ ((k ≡ number) × (Some sent ≡ Some a)) → (x : Channel) × (slice_get old.channels a.channel ≡ Some x) × AttemptAgrees w' n x a
    agree k a (inl was) = let s = right.attempts n old here k a was.1 in (s.0, s.1, agrees_later w w' n s.0 a e s.2)
    agree k a (inr it) = subst (λ (y : Attempt). (x : Channel) × (slice_get old.channels y.channel ≡ Some x) × AttemptAgrees w' n x y) (same_some sent a it.1) (c, there, own_takes)

    fresh : (h : Holder) (x : Tag) → x ≡ tag → HoldsTag w h x → ⊥
    fresh (AnAttempt m k) x same held =
        let s = right.attempts m held.1.0 held.1.1 k held.0 held.1.2 in
        let r = s.2.asked x held.2 in
        unused r.2.0 r.0 held.0.events (subst (λ (y : Tag). slice_get w.sent r.2.0 ≡ Some (Request r.0 y held.0.events)) same r.2.1)
    fresh (ACommit m channel place) x same held =
        let r = packets.asked held.1 held.2 held.3 held.6 in
        unused r.0 held.1 held.3.batch (subst (λ (y : Tag). slice_get w.sent r.0 ≡ Some (Request held.1 y held.3.batch)) (held.7 ∙ same) r.1)

    tags : (h : Holder) (x : Tag) → HoldsTag w' h x → HoldsTag w h x ⊎ ((h ≡ AnAttempt n number) × (x ≡ tag))
    tags = tags_from w n old new more here later right (λ h x. HoldsTag w h x ⊎ ((h ≡ AnAttempt n number) × (x ≡ tag))) (λ h x held other. inl held) by_attempt by_commit
      where
        by_attempt : (k : ℕ) (a : Attempt) (x : Tag) → live new.attempts k ≡ Some a → a.tag ≡ Some x → HoldsTag w (AnAttempt n k) x ⊎ ((AnAttempt n k ≡ AnAttempt n number) × (x ≡ tag))
        by_attempt k a x has its = from (live_set old.attempts number (Some sent) k a has)
          where
            from : ((k ≢ number) × (live old.attempts k ≡ Some a)) ⊎ ((k ≡ number) × (Some sent ≡ Some a)) → HoldsTag w (AnAttempt n k) x ⊎ ((AnAttempt n k ≡ AnAttempt n number) × (x ≡ tag))
            from (inl was) = inl (a, (old, here, was.1), its)
            from (inr it) = inr (ap (AnAttempt n) it.0, sym (same_some tag x (ap (λ (y : Attempt). y.tag) (same_some sent a it.1) ∙ its)))

        by_commit : (channel : ℕ) (d : Channel) (place k i : ℕ) (ack : Work) (x : Tag) → slice_get new.channels channel ≡ Some d → slice_get d.named place ≡ Some (Some (Acked k i)) → IsAck w' k i ack → ack.tag ≡ x → HoldsTag w (ACommit n channel place) x ⊎ ((ACommit n channel place ≡ AnAttempt n number) × (x ≡ tag))
        by_commit channel d place k i ack x has named now its = inl (d, k, i, ack, (old, here, has), named, ack_was w n old new more here later right n d place k i ack (right.named n old here channel d has) named now, its)

    outputs : (h : Holder) (x : ℕ × ℕ) → HoldsOutput w' h x.0 x.1 → HoldsOutput w h x.0 x.1
    outputs = outputs_from w n old new more here later right (λ h x. HoldsOutput w h x.0 x.1) (λ h x held other. held) by_attempt (λ channel d place p has named. (refl, (d, (old, here, has), named)))
      where
        by_attempt : (k : ℕ) (a : Attempt) (p : ℕ) → live new.attempts k ≡ Some a → a.delivery ≡ Some (Output p) → HoldsOutput w (AnAttempt n k) n p
        by_attempt k a p has its = from (live_set old.attempts number (Some sent) k a has)
          where
            from : ((k ≢ number) × (live old.attempts k ≡ Some a)) ⊎ ((k ≡ number) × (Some sent ≡ Some a)) → HoldsOutput w (AnAttempt n k) n p
            from (inl was) = (refl, (a, (old, here, was.1), its))
            from (inr it) = (refl, (own, (old, here, ap (λ (j : ℕ). live old.attempts j) it.0 ∙ is), ap (λ (y : Attempt). y.delivery) (same_some sent a it.1) ∙ its))

-- a last sink takes it

deposit_delivers : (w : World) (n number : ℕ) (old : Node) (own : Attempt) (c : Channel) → AtNode w n old → IsDelivering w → live old.attempts number ≡ Some own → slice_get old.channels own.channel ≡ Some c → c.last ≡ true
    → IsDelivering (stepped w n (record old { outputs = old.outputs ++ own.events ∷ []; attempts = slice_set old.attempts number (Some (record own { delivery = Some (Output (length old.outputs)) })) }) [])
deposit_delivers w n number old own c here right is there last =
    delivering w n old new [] here later right (λ k a has. agree k a (live_set old.attempts number (Some given) k a has)) apart (λ k d has. named_later w w' n d e (right.named n old here k d has))
    (record { tags = once_less (HoldsTag w) (HoldsTag w') right.once.tags tags; outputs = λ a b m p x y. once_fresh (λ h z. HoldsOutput w h z.0 z.1) (λ h z. HoldsOutput w' h z.0 z.1) (λ z. (z.0 ≡ n) × (z.1 ≡ length old.outputs)) (AnAttempt n number) (λ a b z x y. right.once.outputs a b z.0 z.1 x y) outputs fresh a b (m, p) x y })
  where
    given : Attempt
    given = record own { delivery = Some (Output (length old.outputs)) }

    new : Node
    new = record old { outputs = old.outputs ++ own.events ∷ []; attempts = slice_set old.attempts number (Some given) }

    w' : World
    w' = stepped w n new []

    later : Later old new
    later = record { acks = λ place ack has. has; outputs = λ place events has. get_front old.outputs (own.events ∷ []) place events has }

    e : Extends w w'
    e = extends w n old new [] here later

    apart : (i j : ℕ) (a b : Attempt) → live new.attempts i ≡ Some a → live new.attempts j ≡ Some b → a.channel ≡ b.channel → a.token.number ≡ b.token.number → i ≡ j
    apart = changed_apart w n old here right number own (Some given) is (keeps_place own given refl refl)

    agree : (k : ℕ) (a : Attempt) → ((k ≢ number) × (live old.attempts k ≡ Some a)) ⊎ ((k ≡ number) × (Some given ≡ Some a)) → (x : Channel) × (slice_get old.channels a.channel ≡ Some x) × AttemptAgrees w' n x a
    agree k a (inl was) = let s = right.attempts n old here k a was.1 in (s.0, s.1, agrees_later w w' n s.0 a e s.2)
    agree k a (inr it) =
        let t = right.attempts n old here number own is in
        let t5 = agrees_later w w' n t.0 own e t.2 in
        subst (λ (y : Attempt). (x : Channel) × (slice_get old.channels y.channel ≡ Some x) × AttemptAgrees w' n x y) (same_some given a it.1)
        (t.0, t.1, record { numbers = t5.numbers; alive = t5.alive; open_take = t5.open_take; events = t5.events; asked = t5.asked; delivery = (ap (λ (x : Channel). x.last) (same_some t.0 c (sym t.1 ∙ there)) ∙ last, (new, set_here w.nodes n old new here, get_last old.outputs own.events)) })

    tags : (h : Holder) (x : Tag) → HoldsTag w' h x → HoldsTag w h x
    tags = tags_from w n old new [] here later right (HoldsTag w) (λ h x held other. held) by_attempt (λ channel d place k i ack x has named now its. (d, k, i, ack, (old, here, has), named, ack_was w n old new [] here later right n d place k i ack (right.named n old here channel d has) named now, its))
      where
        by_attempt : (k : ℕ) (a : Attempt) (x : Tag) → live new.attempts k ≡ Some a → a.tag ≡ Some x → HoldsTag w (AnAttempt n k) x
        by_attempt k a x has its = from (live_set old.attempts number (Some given) k a has)
          where
            from : ((k ≢ number) × (live old.attempts k ≡ Some a)) ⊎ ((k ≡ number) × (Some given ≡ Some a)) → HoldsTag w (AnAttempt n k) x
            from (inl was) = (a, (old, here, was.1), its)
            from (inr it) = (own, (old, here, ap (λ (j : ℕ). live old.attempts j) it.0 ∙ is), ap (λ (y : Attempt). y.tag) (same_some given a it.1) ∙ its)

    -- the new place is beyond all that is held
    beyond : (events : List Content) (p : ℕ) → p ≡ length old.outputs → slice_get old.outputs p ≡ Some events → ⊥
    beyond events p same has = let less = slice_get_within old.outputs p events has in absurd (omega (arith, less, same))

    at_old : (m p : ℕ) (events : List Content) → m ≡ n → p ≡ length old.outputs → IsOutput w m p events → ⊥
    at_old m p events node place out =
        let one : out.0 ≡ old = same_some out.0 old (sym out.1 ∙ (ap (λ (j : ℕ). slice_get w.nodes j) node ∙ here)) in
        beyond events p place (ap (λ (y : Node). slice_get y.outputs p) (sym one) ∙ out.2)

    due_output : (m : ℕ) (x : Channel) (a : Attempt) (p : ℕ) → a.delivery ≡ Some (Output p) → IsDue w m x a a.delivery → IsOutput w m p a.events
    due_output m x a p its due = (subst (λ (y : Option Delivery). IsDue w m x a y) its due).1

    fresh : (h : Holder) (z : ℕ × ℕ) → (z.0 ≡ n) × (z.1 ≡ length old.outputs) → HoldsOutput w h z.0 z.1 → ⊥
    fresh (AnAttempt m k) z same held =
        let s = right.attempts m held.1.1.0 held.1.1.1 k held.1.0 held.1.1.2 in
        at_old m z.1 held.1.0.events (held.0 ∙ same.0) same.1 (due_output m s.0 held.1.0 z.1 held.1.2 s.2.delivery)
    fresh (ACommit m channel place) z same held =
        let d = named_there w m held.1.0 place (Output z.1) (right.named m held.1.1.0 held.1.1.1 channel held.1.0 held.1.1.2) held.1.2 in
        at_old m z.1 d.0 (held.0 ∙ same.0) same.1 d.1.1

    outputs : (h : Holder) (z : ℕ × ℕ) → HoldsOutput w' h z.0 z.1 → HoldsOutput w h z.0 z.1 ⊎ ((h ≡ AnAttempt n number) × ((z.0 ≡ n) × (z.1 ≡ length old.outputs)))
    outputs = outputs_from w n old new [] here later right (λ h z. HoldsOutput w h z.0 z.1 ⊎ ((h ≡ AnAttempt n number) × ((z.0 ≡ n) × (z.1 ≡ length old.outputs)))) (λ h z held other. inl held) by_attempt (λ channel d place p has named. inl (refl, (d, (old, here, has), named)))
      where
        same_place : (p q : ℕ) → Some (Output p) ≡ Some (Output q) → q ≡ p
        same_place p q h = cc

        by_attempt : (k : ℕ) (a : Attempt) (p : ℕ) → live new.attempts k ≡ Some a → a.delivery ≡ Some (Output p) → HoldsOutput w (AnAttempt n k) n p ⊎ ((AnAttempt n k ≡ AnAttempt n number) × ((n ≡ n) × (p ≡ length old.outputs)))
        by_attempt k a p has its = from (live_set old.attempts number (Some given) k a has)
          where
            from : ((k ≢ number) × (live old.attempts k ≡ Some a)) ⊎ ((k ≡ number) × (Some given ≡ Some a)) → HoldsOutput w (AnAttempt n k) n p ⊎ ((AnAttempt n k ≡ AnAttempt n number) × ((n ≡ n) × (p ≡ length old.outputs)))
            from (inl was) = inl (refl, (a, (old, here, was.1), its))
            from (inr it) = inr (ap (AnAttempt n) it.0, (refl, same_place (length old.outputs) p (ap (λ (y : Attempt). y.delivery) (same_some given a it.1) ∙ its)))

-- a take is committed

module _ (w : World) (n number : ℕ) (old : Node) (own : Attempt) (delivery : Delivery) (c d : Channel) (here : AtNode w n old) (right : IsDelivering w) (packets : PacketsAgree w) (is : live old.attempts number ≡ Some own) (its : own.delivery ≡ Some delivery)
    (there : slice_get old.channels own.channel ≡ Some c) (t5 : AttemptAgrees w n c own) (becomes : Becomes c d (ATakes t5.numbers delivery)) (keeps : KeepsOthers c d own.token.number) where
  abbrev committed_node : Node
  committed_node = record old { channels = slice_set old.channels own.channel d; attempts = slice_set old.attempts number None }

  abbrev committed_world : World
  committed_world = stepped w n committed_node []

  later : Later old committed_node
  later = later_same old committed_node refl refl

  e : Extends w committed_world
  e = extends w n old committed_node [] here later

  due : IsDue w n c own (Some delivery)
  due = subst (λ (y : Option Delivery). IsDue w n c own y) its t5.delivery

  same_packet : (m to : ℕ) (tag : Tag) (a b : List Content) → IsRequest w m tag a → IsRequest w to tag b → (to ≡ m) × (a ≡ b)
  same_packet m to tag a b x y =
      let place = packets.differ x.0 y.0 m to tag a b x.1 y.1 in
      both (same_some (Request m tag a) (Request to tag b) (sym x.1 ∙ (ap (λ (j : ℕ). slice_get w.sent j) place ∙ y.1)))
    where
      both : Request m tag a ≡ Request to tag b → (to ≡ m) × (a ≡ b)
      both h = (cc, cc)

  delivers : (dl : Delivery) → d.later ≡ c.later → IsDue w n c own (Some dl) → IsDelivered w n d own.events dl
  delivers (Output place) same due = (becomes.last ∙ due.0, due.1)
  delivers (Acked m place) same due =
      let asked = t5.asked due.0.tag due.2 in
      let answers = packets.asked m place due.0 due.1 in
      let one = same_packet m asked.0 due.0.tag due.0.batch own.events answers asked.2 in
      (due.0, due.1, ap (λ (l : List ℕ). is_among l m) same ∙ (ap (λ (j : ℕ). is_among c.later j) (sym one.0) ∙ asked.1), one.1)

  new_name : Names w n d (Takes t5.numbers) (Some delivery)
  new_name = (own.events, are_more c d becomes.settled t5.numbers own.events becomes.journal t5.events, delivers delivery becomes.later due)

  named : CommitsAreNamed w n c → CommitsAreNamed w n d
  named = named_becomes w n c d (ATakes t5.numbers delivery) becomes new_name

  agree : (k : ℕ) (b : Attempt) → ((k ≢ number) × (live old.attempts k ≡ Some b)) ⊎ ((k ≡ number) × (None ≡ Some b)) → (x : Channel) × (slice_get (slice_set old.channels own.channel d) b.channel ≡ Some x) × AttemptAgrees w n x b
  agree k b (inl was) = others_agree w n number old own c d (ATakes t5.numbers delivery) here right is there becomes keeps k b was
  agree k b (inr none) = absurd (no_some b none.1)

  -- what the new commit holds, the attempt held
  name_from : (channel : ℕ) (x : Channel) (place : ℕ) (dl : Delivery) → slice_get (slice_set old.channels own.channel d) channel ≡ Some x → slice_get x.named place ≡ Some (Some dl)
      → ((y : Channel) × (slice_get old.channels channel ≡ Some y) × (slice_get y.named place ≡ Some (Some dl))) ⊎ ((channel ≡ own.channel) × (place ≡ length c.named) × (delivery ≡ dl))
  name_from channel x place dl has is_named = from (get_set old.channels own.channel d channel x has)
    where
      from : (slice_get old.channels channel ≡ Some x) ⊎ ((channel ≡ own.channel) × (d ≡ x)) → ((y : Channel) × (slice_get old.channels channel ≡ Some y) × (slice_get y.named place ≡ Some (Some dl))) ⊎ ((channel ≡ own.channel) × (place ≡ length c.named) × (delivery ≡ dl))
      from (inl was) = inl (x, was, is_named)
      from (inr same) = at_name (get_one c.named (Some delivery) place (Some dl) (ap (λ (l : List (Option Delivery)). slice_get l place) (sym becomes.named) ∙ (ap (λ (y : Channel). slice_get y.named place) same.1 ∙ is_named)))
        where
          at_name : (slice_get c.named place ≡ Some (Some dl)) ⊎ ((place ≡ length c.named) × (Some delivery ≡ Some dl)) → ((y : Channel) × (slice_get old.channels channel ≡ Some y) × (slice_get y.named place ≡ Some (Some dl))) ⊎ ((channel ≡ own.channel) × (place ≡ length c.named) × (delivery ≡ dl))
          at_name (inl was) = inl (c, ap (λ (j : ℕ). slice_get old.channels j) same.0 ∙ there, was)
          at_name (inr last) = inr (same.0, last.0, same_some delivery dl last.1)

  gone : Holder
  gone = AnAttempt n number

  abbrev h0 : Holder
  h0 = ACommit n own.channel (length c.named)

  not_gone : (channel place : ℕ) → ACommit n channel place ≡ AnAttempt n number → ⊥
  not_gone channel place same = cc

  other_attempt : (k : ℕ) → k ≢ number → AnAttempt n k ≡ AnAttempt n number → ⊥
  other_attempt k other same = other (number_of same)
    where
      number_of : AnAttempt n k ≡ AnAttempt n number → k ≡ number
      number_of h = cc

  elsewhere : (h : Holder) → node_of h ≢ n → h ≡ AnAttempt n number → ⊥
  elsewhere h other same = other (ap node_of same)

  is_h0 : (channel place : ℕ) → channel ≡ own.channel → place ≡ length c.named → ACommit n channel place ≡ h0
  is_h0 channel place x y = ap (λ (j : ℕ). ACommit n j place) x ∙ ap (λ (j : ℕ). ACommit n own.channel j) y

  abbrev SwapsTag : Holder → Tag → Type 0
  SwapsTag h x = (HoldsTag w h x × (h ≡ AnAttempt n number → ⊥)) ⊎ ((h ≡ h0) × HoldsTag w (AnAttempt n number) x)

  tag_due : (k i : ℕ) (ack : Work) (x : Tag) → delivery ≡ Acked k i → IsAck committed_world k i ack → ack.tag ≡ x → HoldsTag w (AnAttempt n number) x
  tag_due k i ack x same now of_tag =
      let mine = subst (λ (y : Delivery). IsDue w n c own (Some y)) same due in
      let one = one_ack committed_world k i mine.0 ack (e.acks k i mine.0 mine.1) now in
      (own, (old, here, is), mine.2 ∙ ap (λ (y : Work). Some y.tag) one ∙ ap (λ (y : Tag). Some y) of_tag)

  tags : (h : Holder) (x : Tag) → HoldsTag committed_world h x → SwapsTag h x
  tags = tags_from w n old committed_node [] here later right SwapsTag (λ h x held other. inl (held, elsewhere h other)) by_attempt by_commit
    where
      by_attempt : (k : ℕ) (a : Attempt) (x : Tag) → live committed_node.attempts k ≡ Some a → a.tag ≡ Some x → SwapsTag (AnAttempt n k) x
      by_attempt k a x has tag = from (live_set old.attempts number None k a has)
        where
          from : ((k ≢ number) × (live old.attempts k ≡ Some a)) ⊎ ((k ≡ number) × (None ≡ Some a)) → SwapsTag (AnAttempt n k) x
          from (inl was) = inl ((a, (old, here, was.1), tag), other_attempt k was.0)
          from (inr none) = absurd (no_some a none.1)

      by_commit : (channel : ℕ) (y : Channel) (place k i : ℕ) (ack : Work) (x : Tag) → slice_get committed_node.channels channel ≡ Some y → slice_get y.named place ≡ Some (Some (Acked k i)) → IsAck committed_world k i ack → ack.tag ≡ x → SwapsTag (ACommit n channel place) x
      by_commit channel y place k i ack x has is_named now tag = from (name_from channel y place (Acked k i) has is_named)
        where
          from : ((z : Channel) × (slice_get old.channels channel ≡ Some z) × (slice_get z.named place ≡ Some (Some (Acked k i)))) ⊎ ((channel ≡ own.channel) × (place ≡ length c.named) × (delivery ≡ Acked k i)) → SwapsTag (ACommit n channel place) x
          from (inl z) = inl ((z.0, k, i, ack, (old, here, z.1), z.2, ack_was w n old committed_node [] here later right n z.0 place k i ack (right.named n old here channel z.0 z.1) z.2 now, tag), not_gone channel place)
          from (inr last) = inr (is_h0 channel place last.0 last.1, tag_due k i ack x last.2 now tag)

  abbrev SwapsOutput : Holder → ℕ × ℕ → Type 0
  SwapsOutput h z = (HoldsOutput w h z.0 z.1 × (h ≡ AnAttempt n number → ⊥)) ⊎ ((h ≡ h0) × HoldsOutput w (AnAttempt n number) z.0 z.1)

  outputs : (h : Holder) (z : ℕ × ℕ) → HoldsOutput committed_world h z.0 z.1 → SwapsOutput h z
  outputs = outputs_from w n old committed_node [] here later right SwapsOutput (λ h z held other. inl (held, elsewhere h other)) by_attempt by_commit
    where
      by_attempt : (k : ℕ) (a : Attempt) (p : ℕ) → live committed_node.attempts k ≡ Some a → a.delivery ≡ Some (Output p) → SwapsOutput (AnAttempt n k) (n, p)
      by_attempt k a p has at_p = from (live_set old.attempts number None k a has)
        where
          from : ((k ≢ number) × (live old.attempts k ≡ Some a)) ⊎ ((k ≡ number) × (None ≡ Some a)) → SwapsOutput (AnAttempt n k) (n, p)
          from (inl was) = inl ((refl, (a, (old, here, was.1), at_p)), other_attempt k was.0)
          from (inr none) = absurd (no_some a none.1)

      by_commit : (channel : ℕ) (y : Channel) (place p : ℕ) → slice_get committed_node.channels channel ≡ Some y → slice_get y.named place ≡ Some (Some (Output p)) → SwapsOutput (ACommit n channel place) (n, p)
      by_commit channel y place p has is_named = from (name_from channel y place (Output p) has is_named)
        where
          from : ((z : Channel) × (slice_get old.channels channel ≡ Some z) × (slice_get z.named place ≡ Some (Some (Output p)))) ⊎ ((channel ≡ own.channel) × (place ≡ length c.named) × (delivery ≡ Output p)) → SwapsOutput (ACommit n channel place) (n, p)
          from (inl z) = inl ((refl, (z.0, (old, here, z.1), z.2)), not_gone channel place)
          from (inr last) = inr (is_h0 channel place last.0 last.1, (refl, (own, (old, here, is), its ∙ ap (λ (q : Delivery). Some q) last.2)))

  commit_delivers : IsDelivering committed_world
  commit_delivers = delivering w n old committed_node [] here later right
      (λ k b has. let a = agree k b (live_set old.attempts number None k b has) in (a.0, a.1, agrees_later w committed_world n a.0 b e a.2))
      (changed_apart w n old here right number own None is (no_attempt own))
      (λ k x has. named_later w committed_world n x e (set_named w n old.channels own.channel c d there (right.named n old here) named k x has))
      (record { tags = once_swap (HoldsTag w) (HoldsTag committed_world) (AnAttempt n number) h0 right.once.tags tags; outputs = λ a b m p x y. once_swap (λ h z. HoldsOutput w h z.0 z.1) (λ h z. HoldsOutput committed_world h z.0 z.1) (AnAttempt n number) h0 (λ a b z x y. right.once.outputs a b z.0 z.1 x y) outputs a b (m, p) x y })

-- each move keeps both parts
pub delivers_after : (w : World) (n : ℕ) (old : Node) (m : Moved w n old) → AtNode w n old → IsDelivering w → PacketsAgree w → IsDelivering (stepped w n (node_after m) (sent_by m))
delivers_after w n old (Stored number work place c d is there fresh becomes keeps) here right packets =
    let m : Moved w n old = Stored number work place c d is there fresh becomes keeps in
    local_delivers w n old (node_after m) [] here right (local_channel w n old (node_after m) place c d (APuts _) here right there (later_of w n old m) refl refl tt (put_named w n c d (APuts _) tt becomes) becomes keeps)
delivers_after w n old (ChannelMoved place c d added there put becomes keeps) here right packets =
    let m : Moved w n old = ChannelMoved place c d added there put becomes keeps in
    local_delivers w n old (node_after m) [] here right (local_channel w n old (node_after m) place c d added here right there (later_of w n old m) refl refl put (put_named w n c d added put becomes) becomes keeps)
delivers_after w n old (TakeBegan place c d there begins) here right packets = local_delivers w n old (node_after {w = w} {n = n} {old = old} (TakeBegan place c d there begins)) [] here right (begin_local w n place old c d there begins here right)
delivers_after w n old (TookOne number a c got is there tag delivery t took becomes keeps) here right packets = local_delivers w n old (node_after {w = w} {n = n} {old = old} (TookOne number a c got is there tag delivery t took becomes keeps)) [] here right (take_local w n number old a c got here right is there tag delivery t took becomes keeps)
delivers_after w n old (Sent number a c to tag is there none among unused) here right packets = send_delivers w n number to tag old a c here right packets unused is there among none
delivers_after w n old (Deposited number a c is there last) here right packets = deposit_delivers w n number old a c here right is there last
delivers_after w n old (Answered number a tag k m place is own sent) here right packets =
    let ack = packets.replied k m place tag sent in
    local_delivers w n old (node_after {w = w} {n = n} {old = old} (Answered number a tag k m place is own sent)) [] here right (reply_local w n number old a tag m place ack.0 here right is own ack.1 ack.2)
delivers_after w n old (CommittedTo number a delivery c d is its there t becomes keeps) here right packets = from becomes
  where
    from : (Becomes c d (ATakes t.numbers delivery)) ⊎ (Becomes c d NoEntry) → IsDelivering (stepped w n (record old { channels = slice_set old.channels a.channel d; attempts = slice_set old.attempts number None }) [])
    from (inl one) = commit_delivers w n number old a delivery c d here right packets is its there t one keeps
    from (inr none) = local_delivers w n old (record old { channels = slice_set old.channels a.channel d; attempts = slice_set old.attempts number None }) [] here right (ends_local w n number old a c d here right is there none keeps)
delivers_after w n old (AttemptEnded number a c d is there becomes keeps) here right packets = local_delivers w n old (node_after {w = w} {n = n} {old = old} (AttemptEnded number a c d is there becomes keeps)) [] here right (ends_local w n number old a c d here right is there becomes keeps)
delivers_after w n old (Mended place cut c d there reopens) here right packets = local_delivers w n old (node_after {w = w} {n = n} {old = old} (Mended place cut c d there reopens)) [] here right (mend_local w n place cut old c d there reopens here right)
delivers_after w n old (Restarted ds all) here right packets = local_delivers w n old (node_after {w = w} {n = n} {old = old} (Restarted ds all)) [] here right (restart_local w n old ds all here right)
delivers_after w n old m here right packets = local_delivers w n old (node_after m) (sent_by m) here right (local_same w n old (node_after m) here right (later_of w n old m) refl refl)
