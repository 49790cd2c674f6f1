-- What a session of lines has done, and how it ended.
use Rattle.std.specs.Prelude.{◌≡◌, ◌⊎◌, ◌<◌, ◌≤◌, ◌^◌, ℕ, Bool, true, List, [], ◌∷◌, ◌++◌, length, take}
use Rattle.std.specs.Prelude.{flat_map, All, Option}
use Rattle.std.specs.Io.KnownBytes.{Appends, Consumes, IsAtEnd}
use Rattle.flume_host.specs.Causes.{Rose}
use Rattle.netcat_source.specs.Lines.{IsLine, IsTooLong, LinesEnd, Rest, TooLong, joined}
use Rattle.netcat_source.specs.Replies.{reply, replies, end_reply}
use Rattle.netcat_source.specs.declared.lines.LineVerdict.{LineVerdict}
use Rattle.line_session.specs.declared.session.SessionEnd.{SessionEnd}
use Rattle.line_session.specs.declared.session.SessionEnd.TheVariants.{End, TooLongLine, Full, Line}
use Rattle.line_session.specs.declared.session.SessionEnd.TheVariants.{NoMemory, ReadFault, WriteFault}
use Rattle.line_session.specs.Handled.{Handled, GoesOn, TakesAll, lines_of, verdicts_of}

module _ (ack : Bool) (stops : LineVerdict → Bool) where
  -- Every line was answered, and the session goes on.
  pub record AllAnswered (verdicts : List LineVerdict) (end : LinesEnd) (sent : List ℕ) : Type 0 where
    pub going : All (GoesOn stops) verdicts
    pub whole : sent ≡ replies ack verdicts end

  -- the last line has a verdict that ends a session, and all were answered
  pub record LastStops (last : LineVerdict) (verdicts : List LineVerdict) (sent : List ℕ) : Type 0 where
    pub first : List LineVerdict
    pub split : verdicts ≡ first ++ last ∷ []
    pub going : All (GoesOn stops) first
    pub stopped : stops last ≡ true
    pub whole : sent ≡ replies ack verdicts Rest

  -- the sink failed in the reply to the last line or after it; all others were answered
  pub record FailsInReply (verdicts : List LineVerdict) (sent : List ℕ) : Type 0 where
    pub first : List LineVerdict
    pub last : LineVerdict
    pub split : verdicts ≡ first ++ last ∷ []
    pub going : All (GoesOn stops) first
    pub count : ℕ
    pub front : sent ≡ flat_map (reply ack) first ++ take count (reply ack last)

  -- the sink failed in the reply to a line that is too long or after it; all lines were answered
  pub record FailsAtLong (max : ℕ) (verdicts : List LineVerdict) (rest sent : List ℕ) : Type 0 where
    pub going : All (GoesOn stops) verdicts
    pub long : IsTooLong max rest
    pub count : ℕ
    pub front : sent ≡ flat_map (reply ack) verdicts ++ take count (end_reply TooLong)

  -- How a session ends, by the verdicts on its lines, what was read after these lines, and what was written.
  abbrev pub EndsBy : ℕ → SessionEnd → List LineVerdict → List ℕ → List ℕ → Type 0
  EndsBy max End verdicts rest sent = AllAnswered verdicts Rest sent × IsLine max rest
  EndsBy max TooLongLine verdicts rest sent = AllAnswered verdicts TooLong sent × IsTooLong max rest
  EndsBy max Full verdicts rest sent = AllAnswered verdicts Rest sent × IsLine max rest
  EndsBy max (Line last) verdicts rest sent = LastStops last verdicts sent
  EndsBy max NoMemory verdicts rest sent = (verdicts ≡ []) × (rest ≡ []) × (sent ≡ [])
  EndsBy max ReadFault verdicts rest sent = AllAnswered verdicts Rest sent × IsLine max rest
  EndsBy max WriteFault verdicts rest sent =
      (AllAnswered verdicts Rest sent × IsLine max rest) ⊎ FailsInReply verdicts sent
      ⊎ FailsAtLong max verdicts rest sent

-- by how many bytes were read, and what is left
abbrev pub EndsAt : SessionEnd → ℕ → Option (List ℕ) → Type 0
EndsAt End size left = (size < 2 ^ 40) × IsAtEnd left
EndsAt TooLongLine size left = size ≤ 2 ^ 40
EndsAt Full size left = size ≡ 2 ^ 40
EndsAt (Line last) size left = size ≤ 2 ^ 40
EndsAt NoMemory size left = size ≡ 0
EndsAt ReadFault size left = size < 2 ^ 40
EndsAt WriteFault size left = size ≤ 2 ^ 40

-- a count did not fall, and rose
abbrev pub Rises : ℕ → ℕ → Type 0
Rises before now = (before ≤ now) × Rose before now

-- by the counts of faults of the source and of the sink, before and after
abbrev pub HasCauseOf : SessionEnd → ℕ → ℕ → ℕ → ℕ → Type 0
HasCauseOf ReadFault read reads wrote writes = Rises read reads × (writes ≡ wrote)
HasCauseOf WriteFault read reads wrote writes = (read ≤ reads) × Rises wrote writes
HasCauseOf end read reads wrote writes = (reads ≡ read) × (writes ≡ wrote)

-- where the lines of a session come from, where they go, and where their answers go
pub record Ends (S : Type 0) : Type 0 where
  pub left : Option (List ℕ)
  pub store : S
  pub took : Option (List ℕ)

abbrev pub ends_of : {S : Type 0} → Option (List ℕ) → S → Option (List ℕ) → Ends S
ends_of left store took = record { left = left; store = store; took = took }

module _ (max : ℕ) (ack : Bool) (stops : LineVerdict → Bool) {S : Type 0}
    (Takes : S → List ℕ → LineVerdict → S → Type 0) where
  -- A whole session: what was read is the lines that were taken, in order, and the rest after them; and each was answered as
  -- the end says.
  pub record Served (old new : Ends S) (end : SessionEnd) : Type 0 where
    pub done : List Handled
    pub takes : TakesAll Takes old.store done new.store
    pub each : All (IsLine max) (lines_of done)
    pub rest : List ℕ
    pub read : Consumes old.left new.left (joined (lines_of done) ++ rest)
    pub sent : List ℕ
    pub wrote : Appends old.took new.took sent
    pub ends : EndsBy ack stops max end (verdicts_of done) rest sent
    pub at : EndsAt end (length (joined (lines_of done) ++ rest)) new.left
