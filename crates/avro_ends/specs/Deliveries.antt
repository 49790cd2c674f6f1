-- What a delivery to another agent does.
use Rattle.std.specs.Prelude.{◌≡◌, ◌⊎◌, ◌<◌, ◌≤◌, ◌+◌, ◌==◌, ◌∷◌, [], ℕ, List, length, take, Bool, true, false, Option, Some, None, Result, Ok, Err, nat_lt}
use Rattle.std.specs.Coded.{×_prop, Unit-prop, le_prop}
use Rattle.event_core.specs.Content.{Content}
use Rattle.flume_host.specs.Causes.{Rose}
use Rattle.flume_host.specs.Told.{Tells}
use Rattle.flume_host.specs.Links.{FailedLast, LinkTold, TalksTo, Waited, most_turns}
use Rattle.flume_host.specs.Listens.{LinksTold, IsOwed, IsSettled, fresh_from, gave_one, refused_link, kept_in}
use Rattle.plug_in.specs.declared.sink.SinkRefused.{SinkRefused}
use Rattle.plug_in.specs.declared.sink.SinkRefused.TheVariants as sinks
use Rattle.avro_frame.specs.Pack.{pack, IsPart}
use Rattle.avro_hop.specs.declared.respond.Status.{Status}
use Rattle.avro_hop.specs.declared.respond.Status.TheVariants as says
use Rattle.avro_hop.specs.Calls.{status_index}
use Rattle.avro_hop.specs.Dialogue.{IsPlace}
use Rattle.avro_hop.specs.Asking.{asking}
use Rattle.avro_hop.specs.Replies.{IsReply, ReplyFault}
use Rattle.avro_ends.specs.Hearing.{most_quiets, Heard, Cuts, IsUnheard, HeardFor, finds}
use Rattle.avro_ends.specs.declared.open.Open.{Open}
use Rattle.avro_ends.specs.declared.refused.DeliverRefused.{DeliverRefused}
use Rattle.avro_ends.specs.declared.refused.DeliverRefused.TheVariants.{LinkFault, Refused, WrongSerial, BadReply, NoMemory}

-- what a reply of this serial and payload says of the request under the serial `want`
abbrev pub Judges : Bool → ℕ → ℕ → List ℕ → Result (Unit {0}) DeliverRefused → Type 0
Judges first want serial payload (Ok done) = (serial ≡ want) × IsReply first payload says.Ok
Judges first want serial payload (Err (WrongSerial got asked)) = (got ≡ serial) × (asked ≡ want)
    × (serial ≡ want → ⊥)
Judges first want serial payload (Err (BadReply at)) =
    (serial ≡ want) × IsPlace (ReplyFault first) payload at
Judges first want serial payload (Err (Refused index)) =
    (serial ≡ want)
    × ((status : Status) × IsReply first payload status × (index ≡ status_index status)
    × (status ≡ says.Ok → ⊥))
Judges first want serial payload (Err other) = ⊥

module _ (first : Bool) (want : ℕ) where
  -- the first pack that the link gave is judged so, with bytes after it or none
  pub record IsJudged (given : List ℕ) (more : Bool)
      (result : Result (Unit {0}) DeliverRefused) : Type 0 where
    pub serial : ℕ
    pub payload : List ℕ
    pub cut : Cuts given serial payload more
    pub judged : Judges first want serial payload result

  -- by what the link gave, and what it shows before and after
  abbrev pub AnswersBy : Result Bool DeliverRefused → List ℕ → Option LinkTold → Option LinkTold
      → Type 0
  AnswersBy (Ok more) given told now = IsJudged given more (Ok tt)
  AnswersBy (Err e) given told now = ((more : Bool) × IsJudged given more (Err e))
      ⊎ IsUnheard e given told now

  -- and by what it took: all of the request, unless it failed
  abbrev pub Ends : List ℕ → Result Bool DeliverRefused → List ℕ → List ℕ → Option LinkTold
      → Option LinkTold → Type 0
  Ends request (Ok more) sent given told now = (sent ≡ request) × AnswersBy (Ok more) given told now
  Ends request (Err LinkFault) sent given told now =
      ((count : ℕ) × (sent ≡ take count request)) × IsPart given × FailedLast told now
  Ends request (Err e) sent given told now = (sent ≡ request) × AnswersBy (Err e) given told now

-- how many turns and quiet reads there were
abbrev pub LastsFor : Result Bool DeliverRefused → ℕ → ℕ → Type 0
LastsFor (Ok more) turns quiets = (turns ≤ most_turns) × (quiets < most_quiets)
LastsFor (Err e) turns quiets = HeardFor e turns quiets

-- how many reads found the link's end
abbrev pub found_by : Result Bool DeliverRefused → ℕ
found_by (Ok more) = 0
found_by (Err e) = finds e

-- The reply came, or did not.
pub record Answered (first : Bool) (want : ℕ) (result : Result Bool DeliverRefused)
    (told now : Option LinkTold) : Type 0 where
  pub given : List ℕ
  pub turns : ℕ
  pub quiets : ℕ
  pub heard : Heard (found_by result) given turns quiets told now
  pub count : LastsFor result turns quiets
  pub ends : AnswersBy first want result given told now

-- A request went out on a link, and its reply came or did not.
pub record Exchanged (request : List ℕ) (first : Bool) (want : ℕ)
    (result : Result Bool DeliverRefused) (told now : Option LinkTold) : Type 0 where
  pub sent : List ℕ
  pub given : List ℕ
  pub turns : ℕ
  pub quiets : ℕ
  pub talk : Tells told now (TalksTo (found_by result) given sent turns)
  pub waited : Tells told now (Waited quiets)
  pub count : LastsFor result turns quiets
  pub ends : Ends first want request result sent given told now

-- the last serial of a connection
abbrev pub last_serial : ℕ
last_serial = 4_294_967_295

-- the pack of a request; the first of a connection has the handshake in front
abbrev pub request_pack : ℕ → List Content → List ℕ
request_pack serial events = pack serial (asking (serial == 1) events ∷ [])

-- of the links that the dialer gave, one is out, as far as it shows
abbrev pub IsOut : Option LinksTold → Type 0
IsOut None = Unit {0}
IsOut (Some l) = length l.kept + 1 ≡ l.given

-- the open link is one that the dialer gave, and may make another request
abbrev pub Stands : {L : Type 0} → Option LinksTold → Option (Open L) → Type 0
Stands told None = Unit {0}
Stands told (Some open_link) = IsOwed told × (open_link.serial < last_serial)

-- it says no more than that it holds
pub Stands-prop : {L : Type 0} (told : Option LinksTold) (opened : Option (Open L))
    → IsProp (Stands told opened)
Stands-prop told None = Unit-prop
Stands-prop None (Some open_link) = ×_prop Unit-prop le_prop
Stands-prop (Some l) (Some open_link) = ×_prop le_prop le_prop

-- the dialer has back each link that it gave but the open one
abbrev pub HasBack : {L : Type 0} → Option LinksTold → Option (Open L) → Type 0
HasBack told None = IsSettled told
HasBack told (Some open_link) = IsOut told

-- the serial of the last request on the open link
abbrev pub last_of : {L : Type 0} → Option (Open L) → ℕ
last_of None = 0
last_of (Some open_link) = open_link.serial

-- A link stays open after an OK with no byte after its reply, unless this was its last serial.
abbrev pub stays : Result Bool DeliverRefused → ℕ → Bool
stays (Ok false) serial = nat_lt serial last_serial
stays (Ok true) serial = false
stays (Err e) serial = false

-- what a delivery answers
abbrev pub said : Result Bool DeliverRefused → Result (Unit {0}) DeliverRefused
said (Ok more) = Ok tt
said (Err e) = Err e

-- the answer as a sink of any kind gives it
abbrev pub sink_answer : Result (Unit {0}) DeliverRefused → Result (Unit {0}) SinkRefused
sink_answer (Ok done) = Ok tt
sink_answer (Err NoMemory) = Err sinks.NoMemory
sink_answer (Err other) = Err sinks.Refused

-- a dialer, and the link that is open
pub record SinkLinks (D L : Type 0) : Type 0 where
  pub dialer : D
  pub opened : Option (Open L)

module _ {D L : Type 0} (links : D → Option LinksTold) (troubles : D → ℕ)
    (told : L → Option LinkTold) (faults : L → ℕ) where
  -- the dialer took this link back, and no other is open
  abbrev pub WentBack : D → L → SinkLinks D L → Type 0
  WentBack dialer link new =
      (new.opened ≡ None) × (links new.dialer ≡ kept_in (links dialer) (told link))
      × (troubles new.dialer ≡ troubles dialer)

  -- the open link went back
  abbrev pub OpenWentBack : D → Option (Open L) → SinkLinks D L → Type 0
  OpenWentBack dialer None new = new ≡ record { dialer = dialer; opened = None }
  OpenWentBack dialer (Some open_link) new = WentBack dialer open_link.link new

  -- the link on which a request goes: the open one, or a new one
  abbrev pub Connects : D → Option (Open L) → L → D → Type 0
  Connects dialer None link after =
      (told link ≡ fresh_from (links dialer)) × (links after ≡ gave_one (links dialer))
      × (troubles after ≡ troubles dialer)
  Connects dialer (Some open_link) link after = (link ≡ open_link.link) × (after ≡ dialer)

  -- the dialer made no link
  pub record NoLink (old new : SinkLinks D L) : Type 0 where
    pub none : old.opened ≡ None
    pub still : new.opened ≡ None
    pub refused : links new.dialer ≡ refused_link (links old.dialer)
    pub rose : Rose (troubles old.dialer) (troubles new.dialer)

  -- the link stays open, or goes back
  abbrev pub StaysOrWentBack : Bool → ℕ → D → L → SinkLinks D L → Type 0
  StaysOrWentBack true serial dialer link new =
      new ≡ record { dialer = dialer; opened = Some (record { link = link; serial = serial }) }
  StaysOrWentBack false serial dialer link new = WentBack dialer link new

  -- one request, under the serial after the last one of its link
  pub record Requests (old : SinkLinks D L) (events : List Content)
      (result : Result (Unit {0}) DeliverRefused) (new : SinkLinks D L) : Type 0 where
    pub link : L
    pub now : L
    pub dialer : D
    pub answer : Result Bool DeliverRefused
    pub connects : Connects old.dialer old.opened link dialer
    pub exchanged : (let serial = last_of old.opened + 1 in Exchanged (request_pack serial events)
        (serial == 1) serial answer (told link) (told now))
    pub fault : answer ≡ Err LinkFault → Rose (faults link) (faults now)
    pub leaves : (let serial = last_of old.opened + 1 in StaysOrWentBack (stays answer serial) serial dialer
        now new)
    pub says : result ≡ said answer

  -- A delivery: its request, or none where the dialer made no link or there was no memory for it.
  abbrev pub Delivers : SinkLinks D L → List Content → Result (Unit {0}) DeliverRefused
      → SinkLinks D L
      → Type 0
  Delivers old events result new =
      Requests old events result new
      ⊎ ((result ≡ Err LinkFault) × NoLink old new)
      ⊎ ((result ≡ Err NoMemory) × OpenWentBack old.dialer old.opened new)
