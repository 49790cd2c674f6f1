-- What a sink hears of the reply to its request.
use Rattle.std.specs.Prelude.{◌≡◌, ◌⊎◌, ◌<◌, ◌≤◌, ℕ, List, [], ◌++◌, length, Bool, true, false, Option, Result, Ok, Err}
use Rattle.flume_host.specs.Told.{Tells}
use Rattle.flume_host.specs.Links.{FailedLast, LinkTold, TalksTo, Waited, most_turns}
use Rattle.avro_frame.specs.declared.packs.Message.{Message}
use Rattle.avro_frame.specs.Pack.{IsPack, IsPart, PassesCount, PassesSize}
use Rattle.avro_frame.specs.Feed.{Packing, Holds}
use Rattle.avro_ends.specs.declared.hear.Piece.{Piece}
use Rattle.avro_ends.specs.declared.hear.Piece.TheVariants.{Whole, Part, Quiet}
use Rattle.avro_ends.specs.declared.refused.DeliverRefused.{DeliverRefused}
use Rattle.avro_ends.specs.declared.refused.DeliverRefused.TheVariants.{LinkFault, Ended, Silent, Refused, WrongSerial, BadReply, Turns, NoMemory}

-- the most quiet reads of one delivery
abbrev pub most_quiets : ℕ
most_quiets = 100

-- the link gave these bytes in so many turns, so many of them quiet, and so many reads found its
-- end
pub record Heard (found : ℕ) (given : List ℕ) (turns quiets : ℕ)
    (told now : Option LinkTold) : Type 0 where
  pub talk : Tells told now (TalksTo found given [] turns)
  pub waited : Tells told now (Waited quiets)

-- bytes stand after the reply, or none do
abbrev pub IsRest : Bool → List ℕ → Type 0
IsRest true behind = 0 < length behind
IsRest false behind = behind ≡ []

-- the pack that begins so is above a limit
abbrev pub Passes : List ℕ → Type 0
Passes bytes = (n : ℕ) × (PassesCount bytes n ⊎ PassesSize bytes n)

-- how many reads of a delivery that is refused so found the link's end
abbrev pub finds : DeliverRefused → ℕ
finds Ended = 1
finds other = 0

-- why no whole pack came: all that the link gave, and what it shows before and after
abbrev pub IsUnheard : DeliverRefused → List ℕ → Option LinkTold → Option LinkTold → Type 0
IsUnheard LinkFault given told now = IsPart given × FailedLast told now
IsUnheard Ended given told now = IsPart given
IsUnheard Silent given told now = IsPart given
IsUnheard Turns given told now = IsPart given
IsUnheard (BadReply at) given told now = (at ≡ 0) × Passes given
IsUnheard NoMemory given told now = IsPart given
IsUnheard (Refused status) given told now = ⊥
IsUnheard (WrongSerial got want) given told now = ⊥

-- how many turns and quiet reads there were
abbrev pub HeardFor : DeliverRefused → ℕ → ℕ → Type 0
HeardFor Silent turns quiets = (turns ≤ most_turns) × (quiets ≡ most_quiets)
HeardFor Turns turns quiets = (turns ≡ most_turns) × (quiets < most_quiets)
HeardFor other turns quiets = (turns ≤ most_turns) × (quiets < most_quiets)

-- one read may find it
abbrev pub IsOfRead : DeliverRefused → Type 0
IsOfRead Silent = ⊥
IsOfRead Turns = ⊥
IsOfRead other = Unit {0}

-- a pack with bytes after it, or none
pub record Cuts (bytes : List ℕ) (serial : ℕ) (payload : List ℕ) (more : Bool) : Type 0 where
  pub front : List ℕ
  pub behind : List ℕ
  pub cut : bytes ≡ front ++ behind
  pub pack : IsPack front serial payload
  pub rest : IsRest more behind

-- what a piece does to what came of the reply before
abbrev pub CutsPiece : List ℕ → Result Piece DeliverRefused → Packing → Type 0
CutsPiece bytes (Ok (Whole message more)) after =
    Cuts bytes message.serial message.payload.items more
CutsPiece bytes (Ok Part) after = IsPart bytes × (after ≡ Holds bytes)
CutsPiece bytes (Ok Quiet) after = ⊥
CutsPiece bytes (Err (BadReply at)) after = (at ≡ 0) × Passes bytes
CutsPiece bytes (Err other) after = ⊥

-- one read, after what came before
abbrev pub HearsTurn : List ℕ → Result Piece DeliverRefused → Packing → Option LinkTold
    → Option LinkTold → Type 0
HearsTurn held (Ok (Whole message more)) after told now =
    (given : List ℕ) × Heard 0 given 1 0 told now
    × Cuts (held ++ given) message.serial message.payload.items more
HearsTurn held (Ok Part) after told now =
    (given : List ℕ) × Heard 0 given 1 0 told now × IsPart (held ++ given)
    × (after ≡ Holds (held ++ given))
HearsTurn held (Ok Quiet) after told now = Heard 0 [] 1 1 told now × (after ≡ Holds held)
HearsTurn held (Err e) after told now =
    (given : List ℕ) × (turns : ℕ) × (turns ≤ 1) × Heard (finds e) given turns 0 told now
    × IsUnheard e (held ++ given) told now
    × IsOfRead e

-- all reads up to a whole pack, or up to what ended them
abbrev pub HearsReply : Result (Message × Bool) DeliverRefused → Option LinkTold → Option LinkTold
    → Type 0
HearsReply (Ok found) told now =
    (given : List ℕ) × (turns : ℕ) × (quiets : ℕ) × Heard 0 given turns quiets told now
    × (turns ≤ most_turns) × (quiets < most_quiets)
    × Cuts given found.0.serial found.0.payload.items found.1
HearsReply (Err e) told now =
    (given : List ℕ) × (turns : ℕ) × (quiets : ℕ) × Heard (finds e) given turns quiets told now
    × HeardFor e turns quiets
    × IsUnheard e given told now
