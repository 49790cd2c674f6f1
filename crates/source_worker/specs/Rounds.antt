-- The rounds of a listener's worker: sessions, and mends of its channels.
use Rattle.std.specs.Prelude.{◌≡◌, ◌⊎◌, ◌≤◌, ℕ, List, [], ◌∷◌, ◌++◌, Bool, true, false}
use Rattle.std.specs.Prelude.{Option, Some, None, Result, Ok, Err}
use Rattle.std.specs.List.{AllByRecursion}
use Rattle.flume_host.specs.Causes.{HasCause, Rose}
use Rattle.flume_host.specs.Links.{LinkTold}
use Rattle.flume_host.specs.Listens.{LinksTold, fresh_from, gave_none, gave_one, kept_in, refused_link}
use Rattle.flume_host.specs.declared.names.Failed.{Failed}
use Rattle.channel_face.specs.Faces.{Own, Gains}
use Rattle.channel_face.specs.History.{Opening, Step}
use Rattle.channel_face.specs.Keeps.{IsMend}
use Rattle.channel_face.specs.Machine.{State}
use Rattle.channel_face.specs.declared.replies.OpenCause.{OpenCause}
use Rattle.selectors.specs.declared.selector.Selector.{Selector}
use Rattle.source_put.specs.Chains.{Meaning}
use Rattle.source_put.specs.Into.{Into}
use Rattle.source_put.specs.Tries.{Giving}
use Rattle.source_put.specs.declared.chain.HostNames.{HostNames}
use Rattle.netcat_source.specs.Into.{TakesLine}
use Rattle.netcat_source.specs.Sessions.{Served}
use Rattle.netcat_source.specs.declared.session.SessionEnd.{SessionEnd}
use Rattle.netcat_source.specs.declared.session.SessionEnd.TheVariants as lines
use Rattle.avro_ends.specs.Exchanges.{TakesBatch}
use Rattle.avro_ends.specs.Sessions.{Served as AvroServed}
use Rattle.avro_ends.specs.declared.session.AvroEnd.{AvroEnd}
use Rattle.avro_ends.specs.declared.session.AvroEnd.TheVariants as avro
use Rattle.source_worker.specs.declared.ends.LinkEnd.{LinkEnd}
use Rattle.source_worker.specs.declared.ends.LinkEnd.TheVariants as ended
use Rattle.source_worker.specs.declared.ends.SessionRules.{SessionRules}
use Rattle.source_worker.specs.declared.ends.SessionRules.TheVariants.{Lines, Avro}

-- what an accept brought: the end of a link's session, or none, or a fault
abbrev pub Found : Type 0
Found = Result (Option LinkEnd) Failed

-- the answer to a mend: whether the channel was reopened
abbrev pub Answer : Type 0
Answer = Result Bool OpenCause

-- what a listener shows: its links, how often it has failed, and how often it has waited
pub record Heard : Type 0 where
  pub links : Option LinksTold
  pub faults : ℕ
  pub waits : ℕ

-- a worker between two rounds: where its events go, its listener, and whether a mend was refused that is to be tried again
pub record Serving (S : Type 0) : Type 0 where
  pub into : S
  pub heard : Heard
  pub due : Bool

-- what a round came to: what its accept brought, and the answers to the mends after it
pub record Round : Type 0 where
  pub found : Found
  pub mends : List Answer

-- a mend was refused
abbrev pub any_refused : List Answer → Bool
any_refused [] = false
any_refused (Ok done ∷ answers) = any_refused answers
any_refused (Err cause ∷ answers) = true

-- the channels are mended after each session, and where a mend was refused before
abbrev pub is_due : Bool → Found → Bool
is_due due (Ok (Some end)) = true
is_due due (Ok None) = due
is_due due (Err failed) = due

-- there was no memory for the session
abbrev pub IsUnservedEnd : LinkEnd → Type 0
IsUnservedEnd (ended.Lines end) = end ≡ lines.NoMemory
IsUnservedEnd (ended.Avro end) = end ≡ avro.NoMemory

-- the session was told to stop
abbrev pub IsStoppedEnd : LinkEnd → Type 0
IsStoppedEnd (ended.Lines end) = end ≡ lines.Stopped
IsStoppedEnd (ended.Avro end) = end ≡ avro.Stopped

-- no session began: where there was a link, there was no memory for it
abbrev pub IsUnserved : Found → Type 0
IsUnserved (Ok (Some end)) = IsUnservedEnd end
IsUnserved (Ok None) = Unit {0}
IsUnserved (Err failed) = Unit {0}

-- there was a session, and it was told to stop
abbrev pub IsStopped : Found → Type 0
IsStopped (Ok (Some end)) = IsStoppedEnd end
IsStopped (Ok None) = ⊥
IsStopped (Err failed) = ⊥

module _ {F B : Type 0} (Given : Giving F) (selector : Selector) (Means : Meaning B) (host : HostNames) where
  -- a session of lines on a new link; or there was no memory for one to begin
  abbrev pub LineSession : ℕ → Bool → Into F B → Option LinkTold → SessionEnd → Into F B → Option LinkTold → Type 0
  LineSession max ack old told end new now =
      Served max ack (TakesLine Given selector Means host) (record { into = old; told = told }) (record { into = new; told = now }) end
      ⊎ ((end ≡ lines.NoMemory) × (now ≡ told) × (new ≡ old))

  -- a session of Avro calls on one; or there was no memory
  abbrev pub AvroSession : Into F B → Option LinkTold → AvroEnd → Into F B → Option LinkTold → Type 0
  AvroSession old told end new now =
      AvroServed (TakesBatch Given selector Means host) old new told now end
      ⊎ ((end ≡ avro.NoMemory) × (now ≡ told) × (new ≡ old))

-- a session by its rules on a new link, and it ended by them
abbrev pub Session : SessionRules → {F B : Type 0} → Giving F → Selector → Meaning B → HostNames
    → Into F B → Option LinkTold → LinkEnd → Into F B → Option LinkTold → Type 0
Session (Lines rules) Given selector Means host old told (ended.Lines end) new now =
    LineSession Given selector Means host rules.max rules.ack old told end new now
Session Avro Given selector Means host old told (ended.Avro end) new now = AvroSession Given selector Means host old told end new now
Session rules Given selector Means host old told end new now = ⊥

module _ {S : Type 0} (Session : S → Option LinkTold → LinkEnd → S → Option LinkTold → Type 0) where
  -- A link is served and given back; or none came for a while; or the listener failed.
  abbrev pub Finds : Found → Serving S → Serving S → Type 0
  Finds (Ok (Some end)) old new =
      (now : Option LinkTold) × (new.heard.links ≡ kept_in (gave_one old.heard.links) now)
      × Session old.into (fresh_from old.heard.links) end new.into now
  Finds (Ok None) old new =
      (new.heard.links ≡ gave_none old.heard.links) × (new.into ≡ old.into) × Rose old.heard.waits new.heard.waits
  Finds (Err failed) old new = (new.heard.links ≡ refused_link old.heard.links) × (new.into ≡ old.into)

  -- one accept with its session
  pub record Serves (found : Found) (old new : Serving S) : Type 0 where
    pub finds : Finds found old new
    pub cause : HasCause old.heard.faults new.heard.faults found
    pub waits : old.heard.waits ≤ new.heard.waits
    pub due : new.due ≡ old.due

module _ {S : Type 0} (Session : S → Option LinkTold → LinkEnd → S → Option LinkTold → Type 0)
    (Mends : S → List Answer → S → Type 0) where
  -- mends where they are due
  abbrev pub MendsIf : Bool → S → List Answer → S → Type 0
  MendsIf true old answers new = Mends old answers new
  MendsIf false old answers new = (answers ≡ []) × (new ≡ old)

  -- one round: an accept with its session, and the mends after it
  pub record Makes (round : Round) (old new : Serving S) : Type 0 where
    pub between : Serving S
    pub serves : Serves Session round.found old between
    pub mends : MendsIf (is_due old.due round.found) between.into round.mends new.into
    pub heard : new.heard ≡ between.heard
    pub due : new.due ≡ any_refused round.mends

  -- rounds one after the other
  abbrev pub Rounds : List Round → Serving S → Serving S → Type 0
  Rounds [] old new = new ≡ old
  Rounds (round ∷ rounds) old new = (next : Serving S) × Makes round old next × Rounds rounds next new

  -- At least one round was made, and after one whose session was told to stop none followed. Without a chain no session began.
  pub record WorksBy (built : Bool) (old new : Serving S) : Type 0 where
    pub front : List Round
    pub last : Round
    pub made : Rounds (front ++ last ∷ []) old new
    pub going : AllByRecursion (λ round. IsStopped round.found → ⊥) front
    pub unserved : built ≡ false → AllByRecursion (λ round. IsUnserved round.found) (front ++ last ∷ [])

module _ {F : Type 0} (own : F → Opening → List Step → List Own → Type 0)
    (saw : F → List Own → State → Type 0) (seen : F → ℕ) (kept : F → F → Type 0) (OnDisk : F → Type 0) where
  -- a channel was to be mended, and it was answered so
  pub record MendsPort (old : F) (answer : Answer) (new : F) : Type 0 where
    pub later : seen old ≤ seen new
    pub same : kept old new
    pub calls : Gains (own old) (own new) (IsMend (OnDisk old) (saw new) (seen new) answer)

module _ {F : Type 0} (Mend : F → Answer → F → Type 0) where
  -- each channel, in order
  abbrev pub MendsEach : List F → List Answer → List F → Type 0
  MendsEach [] [] [] = Unit {0}
  MendsEach (old ∷ olds) (answer ∷ answers) (new ∷ news) = Mend old answer new × MendsEach olds answers news
  MendsEach olds answers news = ⊥

  -- the channels where events go
  abbrev pub MendsInto : {B : Type 0} → Into F B → List Answer → Into F B → Type 0
  MendsInto old answers new =
      (new.moments ≡ old.moments) × (new.route.links ≡ old.route.links) × MendsEach old.route.ports answers new.route.ports
