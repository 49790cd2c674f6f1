-- What one message does to a session.
use Rattle.std.specs.Prelude.{◌≡◌, ◌⊎◌, ℕ, Bool, List, [], ◌∷◌, ◌++◌, Option, Some, Result, Ok, Err}
use Rattle.std.specs.declared.vec.Vec.{Vec}
use Rattle.std.specs.declared.alloc.Global.{Global}
use Rattle.event_core.specs.Content.{Content}
use Rattle.flume_host.specs.Told.{Tells}
use Rattle.flume_host.specs.Links.{BreaksOff, LinkTold, Talks}
use Rattle.source_put.specs.declared.intake.Verdict.{Verdict}
use Rattle.source_put.specs.declared.intake.Verdict.TheVariants as verdicts
use Rattle.avro_frame.specs.Pack.{pack}
use Rattle.avro_hop.specs.declared.hop.Asked.TheVariants.{Events}
use Rattle.avro_hop.specs.declared.hop.HopRefused.TheVariants as hops
use Rattle.avro_hop.specs.declared.respond.Status.{Status}
use Rattle.avro_hop.specs.Calls.{response}
use Rattle.avro_hop.specs.Dialogue.{Answers}
use Rattle.avro_ends.specs.Exchanges.{Exchanged, status_of}
use Rattle.avro_ends.specs.declared.session.AvroEnd.{AvroEnd}
use Rattle.avro_ends.specs.declared.session.AvroEnd.TheVariants.{LinkFault, BadHandshake, OtherProtocol, NoMemory}

module _ {S : Type 0} (Takes : S → List Content → Verdict → S → Type 0) where
  -- the events were taken, and the verdict has this status
  abbrev pub IsTaken : S → S → List ℕ → List Content → Verdict → Status → Type 0
  IsTaken old new front batch verdict status = Takes old batch verdict new
      × (status_of verdict ≡ Some status)

  -- the events were taken and their verdict answered; or the answer was not sent whole, or there
  -- was no memory
  abbrev pub ServesEvents : S → S → Option LinkTold → Option LinkTold → ℕ → List ℕ → List Content
      → Result (Unit {0}) AvroEnd → Type 0
  ServesEvents old new told now serial front batch (Ok done) = (verdict : Verdict)
      × (status : Status) × IsTaken old new front batch verdict status
      × Tells told now (Talks [] (pack serial ((front ++ response status) ∷ [])) 0)
  ServesEvents old new told now serial front batch (Err LinkFault) = (verdict : Verdict)
      × (status : Status) × IsTaken old new front batch verdict status
      × BreaksOff (pack serial ((front ++ response status) ∷ [])) told now
  ServesEvents old new told now serial front batch (Err NoMemory) =
      (now ≡ told) × ((new ≡ old) ⊎ Takes old batch verdicts.NoMemory new)
  ServesEvents old new told now serial front batch (Err other) = ⊥

  -- a message was answered; or its answer was not sent whole, it ended the session, or there was no
  -- memory
  abbrev pub ServesMessage : S → S → Option LinkTold → Option LinkTold → Bool → Bool → ℕ → List ℕ
      → Result (Unit {0}) AvroEnd → Type 0
  ServesMessage old new told now greeted after serial payload (Ok done) =
      (verdict : Option Verdict) × (reply : List ℕ) × Exchanged Takes greeted old
      (record { serial = serial; payload = payload; verdict = verdict; reply = reply }) after new
      × Tells told now (Talks [] (pack serial (reply ∷ [])) 0)
  ServesMessage old new told now greeted after serial payload (Err LinkFault) =
      (verdict : Option Verdict) × (reply : List ℕ) × Exchanged Takes greeted old
      (record { serial = serial; payload = payload; verdict = verdict; reply = reply }) after new
      × BreaksOff (pack serial (reply ∷ [])) told now
  ServesMessage old new told now greeted after serial payload (Err NoMemory) =
      (now ≡ told) × ((new ≡ old)
      ⊎ ((front : Vec ℕ Global) × (batch : List Content) × Answers greeted payload
      (Ok (Events front batch)) after × Takes old batch verdicts.NoMemory new))
  ServesMessage old new told now greeted after serial payload (Err (BadHandshake at)) =
      (now ≡ told) × (new ≡ old) × Answers greeted payload (Err (hops.BadHandshake at)) after
  ServesMessage old new told now greeted after serial payload (Err OtherProtocol) =
      (now ≡ told) × (new ≡ old) × Answers greeted payload (Err hops.OtherProtocol) after
  ServesMessage old new told now greeted after serial payload (Err other) = ⊥
