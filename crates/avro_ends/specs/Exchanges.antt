-- The messages of a connection, the verdicts on their events, and their replies.
use Rattle.std.specs.Prelude.{◌≡◌, ℕ, Bool, List, [], ◌∷◌, ◌++◌, flat_map, Option, Some, None, Result, Ok}
use Rattle.event_core.specs.Content.{Content}
use Rattle.flume_host.specs.Series.{Gives}
use Rattle.channel_face.specs.declared.replies.FaceRefused.{FaceRefused}
use Rattle.selectors.specs.declared.selector.Selector.{Selector}
use Rattle.source_put.specs.declared.chain.HostNames.{HostNames}
use Rattle.source_put.specs.Into.{Into}
use Rattle.source_put.specs.declared.intake.Verdict.{Verdict}
use Rattle.source_put.specs.declared.intake.Verdict.TheVariants.{Taken, Refused, TooLarge, NoMemory}
use Rattle.source_put.specs.Chains.{Meaning}
use Rattle.source_put.specs.Routes.{Accepts}
use Rattle.avro_frame.specs.Pack.{IsPack, pack}
use Rattle.avro_hop.specs.declared.hop.Asked.{Asked}
use Rattle.avro_hop.specs.declared.hop.Asked.TheVariants.{Reply, Events}
use Rattle.avro_hop.specs.declared.respond.Status.{Status}
use Rattle.avro_hop.specs.declared.respond.Status.TheVariants as says
use Rattle.avro_hop.specs.Calls.{response}
use Rattle.avro_hop.specs.Dialogue.{Answers}

module _ {F B : Type 0} (Given : F → F → List Content → Result ℕ FaceRefused → Type 0)
    (selector : Selector) (Means : Meaning B) (host : HostNames) where
  -- a batch is accepted, or refused, at the next moment
  abbrev pub TakesBatch : Into F B → List Content → Verdict → Into F B → Type 0
  TakesBatch old batch verdict new =
      (moment : ℕ) × Gives moment old.moments new.moments
      × Accepts Given selector Means moment host old.route batch verdict new.route

-- what a verdict is answered
abbrev pub status_of : Verdict → Option Status
status_of Taken = Some says.Ok
status_of (Refused channel cause) = Some says.Failed
status_of (TooLarge size) = Some says.Failed
status_of NoMemory = None

-- a message and its reply, and the verdict on its events where it has any
pub record Exchange : Type 0 where
  pub serial : ℕ
  pub payload : List ℕ
  pub verdict : Option Verdict
  pub reply : List ℕ

-- the packs of the replies
abbrev pub texts : List Exchange → List ℕ
texts done = flat_map (λ (x : Exchange). pack x.serial (x.reply ∷ [])) done

-- the bytes are the packs of these messages
abbrev pub ArePacks : List ℕ → List Exchange → Type 0
ArePacks bytes [] = bytes ≡ []
ArePacks bytes (x ∷ done) = (first rest : List ℕ) × (bytes ≡ first ++ rest)
    × IsPack first x.serial x.payload × ArePacks rest done

module _ {S : Type 0} (Takes : S → List Content → Verdict → S → Type 0) where
  -- a reply is that of the hop; or the events are taken, and the verdict is answered
  abbrev pub Replies : Asked → S → Option Verdict → List ℕ → S → Type 0
  Replies (Reply bytes) old verdict reply new = (verdict ≡ None) × (reply ≡ bytes.items)
      × (new ≡ old)
  Replies (Events front batch) old verdict reply new = (v : Verdict) × (status : Status)
      × (verdict ≡ Some v) × Takes old batch v new × (status_of v ≡ Some status)
      × (reply ≡ front.items ++ response status)

  abbrev pub Exchanged : Bool → S → Exchange → Bool → S → Type 0
  Exchanged greeted old x after new = (asked : Asked) × Answers greeted x.payload (Ok asked) after
      × Replies asked old x.verdict x.reply new

  -- one message after another
  abbrev pub Exchanges : Bool → S → List Exchange → Bool → S → Type 0
  Exchanges greeted old [] after new = (after ≡ greeted) × (new ≡ old)
  Exchanges greeted old (x ∷ done) after new = (next : Bool) × (state : S)
      × Exchanged greeted old x next state × Exchanges next state done after new
