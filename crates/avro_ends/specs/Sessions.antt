-- What a session of Avro messages on a link has done, and how it ended.
use Rattle.std.specs.Prelude.{◌≡◌, ◌⊎◌, ◌<◌, ◌≤◌, ℕ, Bool, false, List, [], ◌∷◌, ◌++◌, length, take, Option, Ok, Err}
use Rattle.std.specs.declared.vec.Vec.{Vec}
use Rattle.std.specs.declared.alloc.Global.{Global}
use Rattle.event_core.specs.Content.{Content}
use Rattle.flume_host.specs.Told.{Tells}
use Rattle.flume_host.specs.Links.{FailedLast, LinkTold, Talks, TalksTo, most_turns}
use Rattle.source_put.specs.declared.intake.Verdict.{Verdict}
use Rattle.source_put.specs.declared.intake.Verdict.TheVariants as verdicts
use Rattle.avro_frame.specs.Pack.{IsPack, IsPart, pack, PassesCount, PassesSize}
use Rattle.avro_frame.specs.Feed.{Packing, Holds, Failed}
use Rattle.avro_hop.specs.declared.hop.Asked.TheVariants.{Events}
use Rattle.avro_hop.specs.declared.hop.HopRefused.TheVariants as hops
use Rattle.avro_hop.specs.Dialogue.{Answers}
use Rattle.avro_ends.specs.Exchanges.{Exchange, Exchanges, ArePacks, texts}
use Rattle.avro_ends.specs.declared.session.AvroEnd.{AvroEnd}
use Rattle.avro_ends.specs.declared.session.AvroEnd.TheVariants.{End, Stopped, LinkFault, Turns, TooMany, TooLarge, BadHandshake, OtherProtocol, NoMemory}

-- the bytes of the pack that isn't whole yet
abbrev pub held_in : Packing → List ℕ
held_in (Holds bytes) = bytes
held_in (Failed e) = []

-- no limit was passed
abbrev pub IsOpen : Packing → Type 0
IsOpen (Holds bytes) = IsPart bytes
IsOpen (Failed e) = ⊥

-- the next message has P
abbrev pub IsNext : List ℕ → (List ℕ → Type 0) → Type 0
IsNext rest P = (first behind : List ℕ) × (serial : ℕ) × (payload : List ℕ)
    × (rest ≡ first ++ behind) × IsPack first serial payload × P payload

-- the link failed in the reply to the last message; all others were answered
pub record FailsInReply (done : List Exchange) (sent : List ℕ) : Type 0 where
  pub first : List Exchange
  pub last : Exchange
  pub split : done ≡ first ++ last ∷ []
  pub count : ℕ
  pub short : count < length (pack last.serial (last.reply ∷ []))
  pub part : sent ≡ texts first ++ take count (pack last.serial (last.reply ∷ []))

-- how many reads of a session that ends so found the link's end
abbrev pub finds : AvroEnd → ℕ
finds End = 1
finds other = 0

-- where a fault ended it, the link's last call failed
abbrev pub LeavesLink : AvroEnd → Option LinkTold → Option LinkTold → Type 0
LeavesLink LinkFault told now = FailedLast told now
LeavesLink other told now = Unit {0}

-- how many turns there were: reads that gave bytes or waited in vain
abbrev pub EndsAfter : AvroEnd → ℕ → Type 0
EndsAfter End turns = turns < most_turns
EndsAfter Stopped turns = turns ≤ most_turns
EndsAfter LinkFault turns = turns ≤ most_turns
EndsAfter Turns turns = turns ≡ most_turns
EndsAfter (TooMany n) turns = turns ≤ most_turns
EndsAfter (TooLarge n) turns = turns ≤ most_turns
EndsAfter (BadHandshake at) turns = turns ≤ most_turns
EndsAfter OtherProtocol turns = turns ≤ most_turns
EndsAfter NoMemory turns = turns ≤ most_turns

module _ {S : Type 0} (Takes : S → List Content → Verdict → S → Type 0) where
  -- Some messages were answered. Before them `held` and these bytes were there to be cut, and
  -- after them `left` is; the link gave these bytes in so many turns.
  pub record Goes (old new : S) (told now : Option LinkTold) (greeted after : Bool)
      (held bytes left given : List ℕ) (turns : ℕ) : Type 0 where
    pub done : List Exchange
    pub exchanged : Exchanges Takes greeted old done after new
    pub front : List ℕ
    pub packs : ArePacks front done
    pub cut : held ++ bytes ≡ front ++ left
    pub talk : Tells told now (Talks given (texts done) turns)

  -- How a session ends: after the messages that were answered, whether the handshake was made
  -- then, the state there and at the end, what the link gave after them, and what was sent.
  abbrev pub EndsBy : AvroEnd → Bool → S → S → List Exchange → List ℕ → List ℕ → Type 0
  EndsBy End greeted old new done rest sent = (new ≡ old) × (sent ≡ texts done) × IsPart rest
  EndsBy Turns greeted old new done rest sent = (new ≡ old) × (sent ≡ texts done) × IsPart rest
  EndsBy Stopped greeted old new done rest sent = (new ≡ old) × (sent ≡ texts done)
  -- the link failed at a read, or in a reply
  EndsBy LinkFault greeted old new done rest sent =
      (new ≡ old) × (((sent ≡ texts done) × IsPart rest) ⊎ FailsInReply done sent)
  EndsBy (TooMany n) greeted old new done rest sent = (new ≡ old) × (sent ≡ texts done)
      × PassesCount rest n
  EndsBy (TooLarge n) greeted old new done rest sent = (new ≡ old) × (sent ≡ texts done)
      × PassesSize rest n
  EndsBy (BadHandshake at) greeted old new done rest sent = (new ≡ old) × (sent ≡ texts done)
      × IsNext rest (λ payload. (after : Bool) × Answers greeted payload
      (Err (hops.BadHandshake at)) after)
  EndsBy OtherProtocol greeted old new done rest sent = (new ≡ old) × (sent ≡ texts done)
      × IsNext rest (λ payload. (after : Bool) × Answers greeted payload (Err hops.OtherProtocol)
      after)
  -- the batch of the next message may have been offered in vain
  EndsBy NoMemory greeted old new done rest sent =
      (sent ≡ texts done)
      × ((new ≡ old) ⊎ IsNext rest
      (λ payload. (after : Bool) × (front : Vec ℕ Global) × (batch : List Content)
      × Answers greeted payload (Ok (Events front batch)) after
      × Takes old batch verdicts.NoMemory new))

  pub record Breaks (old new : S) (told now : Option LinkTold) (greeted : Bool)
      (held bytes given : List ℕ) (turns : ℕ) (end : AvroEnd) : Type 0 where
    pub done : List Exchange
    pub after : Bool
    pub between : S
    pub exchanged : Exchanges Takes greeted old done after between
    pub front : List ℕ
    pub packs : ArePacks front done
    pub rest : List ℕ
    pub cut : held ++ bytes ≡ front ++ rest
    pub sent : List ℕ
    pub talk : Tells told now (TalksTo (finds end) given sent turns)
    pub ends : EndsBy end after between new done rest sent
    pub leaves : LeavesLink end told now

  -- A whole session of a new connection: what the link gave is the packs of the messages that were
  -- answered and the rest after them, and what it took is their replies, as the end says.
  pub record Served (old new : S) (told now : Option LinkTold) (end : AvroEnd) : Type 0 where
    pub done : List Exchange
    pub after : Bool
    pub between : S
    pub exchanged : Exchanges Takes false old done after between
    pub front : List ℕ
    pub packs : ArePacks front done
    pub rest : List ℕ
    pub sent : List ℕ
    pub turns : ℕ
    pub talk : Tells told now (TalksTo (finds end) (front ++ rest) sent turns)
    pub ends : EndsBy end after between new done rest sent
    pub leaves : LeavesLink end told now
    pub count : EndsAfter end turns

-- how many turns one turn is that ended so
abbrev pub IsTurnsOf : AvroEnd → ℕ → Type 0
IsTurnsOf End turns = turns ≡ 0
IsTurnsOf Stopped turns = turns ≤ 1
IsTurnsOf LinkFault turns = turns ≤ 1
IsTurnsOf Turns turns = turns ≡ 0
IsTurnsOf (TooMany n) turns = turns ≤ 1
IsTurnsOf (TooLarge n) turns = turns ≤ 1
IsTurnsOf (BadHandshake at) turns = turns ≤ 1
IsTurnsOf OtherProtocol turns = turns ≤ 1
IsTurnsOf NoMemory turns = turns ≤ 1
