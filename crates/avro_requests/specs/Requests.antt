-- The requests of a sink on its links, over a whole list of deliveries.
use Rattle.std.specs.Prelude.{◌≡◌, ◌⊎◌, ◌==◌, ◌+◌, ℕ, List, [], ◌∷◌, ◌++◌, flat_map, length, slice_get, take, Option, Some, None, Result, Ok, Err}
use Rattle.std.specs.List.{AllZip}
use Rattle.event_core.specs.Content.{Content}
use Rattle.flume_host.specs.Links.{LinkTold}
use Rattle.flume_host.specs.Listens.{LinksTold, no_links}
use Rattle.avro_frame.specs.Pack.{IsPack}
use Rattle.avro_hop.specs.Replies.{IsReply}
use Rattle.avro_hop.specs.declared.respond.Status.TheVariants as says
use Rattle.avro_ends.specs.Deliveries.{Delivers, SinkLinks, request_pack}
use Rattle.avro_ends.specs.Dialing.{closed_links}
use Rattle.avro_ends.specs.declared.refused.DeliverRefused.{DeliverRefused}

-- A batch that was handed to the sink, and the answer.
pub record Delivery : Type 0 where
  pub batch : List Content
  pub answer : Result (Unit {0}) DeliverRefused

-- the batch, if it was answered Ok
abbrev pub if_ok : Result (Unit {0}) DeliverRefused → List Content → List (List Content)
if_ok (Ok done) batch = batch ∷ []
if_ok (Err refused) batch = []

-- the batches that were answered Ok
abbrev pub delivered : List Delivery → List (List Content)
delivered [] = []
delivered (d ∷ done) = if_ok d.answer d.batch ++ delivered done

abbrev pub IsRefused : Result (Unit {0}) DeliverRefused → Type 0
IsRefused (Ok done) = ⊥
IsRefused (Err refused) = Unit {0}

-- the requests of these batches, one each, under the serials from this one on
abbrev pub requests : ℕ → List (List Content) → List ℕ
requests serial [] = []
requests serial (batch ∷ batches) = request_pack serial batch ++ requests (serial + 1) batches

-- the bytes are replies that say OK, one to each of these batches under the serials from this one on, and then these
abbrev pub AreReplies : ℕ → List (List Content) → List ℕ → List ℕ → Type 0
AreReplies serial [] bytes behind = bytes ≡ behind
AreReplies serial (batch ∷ batches) bytes behind =
    (first rest payload : List ℕ) × (bytes ≡ first ++ rest) × IsPack first serial payload × IsReply (serial == 1) payload says.Ok
    × AreReplies (serial + 1) batches rest behind

-- nothing, or a front of the request of a batch that was refused, under this serial
abbrev pub IsFrontOf : List Delivery → ℕ → List ℕ → Type 0
IsFrontOf done serial front =
    (front ≡ [])
    ⊎ ((place count : ℕ) × (d : Delivery) × (slice_get done place ≡ Some d) × IsRefused d.answer × (front ≡ take count (request_pack serial d.batch)))

-- What was said on a link: batches whose replies said OK, what it took after their requests, and what it gave after their replies.
pub record Talk : Type 0 where
  pub batches : List (List Content)
  pub front : List ℕ
  pub behind : List ℕ

-- the link took and gave this
pub record Carries (done : List Delivery) (talk : Talk) (link : LinkTold) : Type 0 where
  pub took : link.took ≡ requests 1 talk.batches ++ talk.front
  pub gave : AreReplies 1 talk.batches link.gave talk.behind
  pub rest : IsFrontOf done (length talk.batches + 1) talk.front

-- Each link that was given has come back, and carries requests; the batches on all of them, in order, are those that were answered Ok.
pub record Requested (done : List Delivery) (links : LinksTold) : Type 0 where
  pub all : links.given ≡ length links.kept
  pub talks : List Talk
  pub each : AllZip (Carries done) talks links.kept
  pub batches : flat_map (λ (t : Talk). t.batches) talks ≡ delivered done

module _ {D L : Type 0} (links : D → Option LinksTold) (troubles : D → ℕ) (told : L → Option LinkTold) (faults : L → ℕ) where
  -- deliveries one after another
  abbrev pub AllDeliver : List Delivery → SinkLinks D L → SinkLinks D L → Type 0
  AllDeliver [] s t = t ≡ s
  AllDeliver (d ∷ done) s t = (next : SinkLinks D L) × Delivers links troubles told faults s d.batch d.answer next × AllDeliver done next t

-- Over any list of deliveries of a sink whose dialer shows its links and gave none before, the links are so once the sink is closed.
abbrev pub RequestsAreOnLinks : (D L : Type 0) → Type 0
RequestsAreOnLinks D L =
    (links : D → Option LinksTold) (troubles : D → ℕ) (told : L → Option LinkTold) (faults : L → ℕ) (done : List Delivery) (s t : SinkLinks D L)
    → s.opened ≡ None → links s.dialer ≡ Some no_links → AllDeliver links troubles told faults done s t
    → (l : LinksTold) × (closed_links links told t.dialer t.opened ≡ Some l) × Requested done l
