-- Parts of a session: what its functions say of themselves.
use Rattle.std.specs.Prelude.{◌≡◌, ◌≤◌, ℕ, Bool, List, [], ◌++◌, flat_map, All}
use Rattle.std.specs.Prelude.{Option}
use Rattle.flume_host.specs.Told.{Tells}
use Rattle.flume_host.specs.Links.{BreaksOff, LinkTold, Talks, TalksTo}
use Rattle.source_put.specs.declared.intake.Verdict.{Verdict}
use Rattle.netcat_source.specs.Feed.{LineState, begun}
use Rattle.netcat_source.specs.Lines.{IsLine, TooLong, joined}
use Rattle.netcat_source.specs.Replies.{reply, end_reply}
use Rattle.netcat_source.specs.declared.lines.LineVerdict.{LineVerdict}
use Rattle.netcat_source.specs.declared.lines.LineVerdict.TheVariants as says
use Rattle.netcat_source.specs.declared.session.SessionEnd.{SessionEnd}
use Rattle.netcat_source.specs.declared.session.SessionEnd.TheVariants.{End, Stopped, TooLongLine, LinkFault}
use Rattle.netcat_source.specs.declared.session.SessionEnd.TheVariants.{Turns, NoMemory}
use Rattle.netcat_source.specs.Judged.{Judged, said_of, lines_of, verdicts_of, GoesOn}
use Rattle.netcat_source.specs.Into.{Sides, TakesAll}
use Rattle.netcat_source.specs.Sessions.{EndsBy, LeavesLink, finds}

-- the bytes of the line that isn't whole yet
abbrev pub held_by : LineState → List ℕ
held_by lines = begun lines.at lines.line

-- how the answer to a line ends a session
abbrev pub AnswerEnds : Bool → LineVerdict → Option LinkTold → Option LinkTold → SessionEnd → Type 0
AnswerEnds ack verdict old new End = ⊥
AnswerEnds ack verdict old new Stopped = ⊥
AnswerEnds ack verdict old new TooLongLine = ⊥
AnswerEnds ack verdict old new LinkFault = BreaksOff (reply ack verdict) old new
AnswerEnds ack verdict old new Turns = ⊥
AnswerEnds ack verdict old new NoMemory =
    (verdict ≡ says.NoMemory) × Tells old new (Talks [] (reply ack verdict) 0)

-- how the reply to a line that is too long ends it
abbrev pub LongEnds : Option LinkTold → Option LinkTold → SessionEnd → Type 0
LongEnds old new End = ⊥
LongEnds old new Stopped = ⊥
LongEnds old new TooLongLine = Tells old new (Talks [] (end_reply TooLong) 0)
LongEnds old new LinkFault = BreaksOff (end_reply TooLong) old new
LongEnds old new Turns = ⊥
LongEnds old new NoMemory = ⊥

-- a line was answered, and the session goes on
abbrev pub Answers : Bool → LineVerdict → Option LinkTold → Option LinkTold → Type 0
Answers ack verdict old new = GoesOn verdict × Tells old new (Talks [] (reply ack verdict) 0)

-- how many turns one is that ended so: at the link's end it is none, as before its read or where that failed
abbrev pub IsTurnsOf : SessionEnd → ℕ → Type 0
IsTurnsOf End turns = turns ≡ 0
IsTurnsOf Stopped turns = turns ≤ 1
IsTurnsOf TooLongLine turns = turns ≤ 1
IsTurnsOf LinkFault turns = turns ≤ 1
IsTurnsOf Turns turns = turns ≡ 0
IsTurnsOf NoMemory turns = turns ≤ 1

-- a line was taken, and P is true of what was said of it
abbrev pub TakesOne : {S : Type 0} → (S → List ℕ → Verdict → S → Type 0) → S → List ℕ → S
    → (LineVerdict → Type 0) → Type 0
TakesOne Takes old line new P = (verdict : Verdict) × Takes old line verdict new × P (said_of verdict)

module _ (max : ℕ) (ack : Bool) {S : Type 0} (Takes : S → List ℕ → Verdict → S → Type 0) where
  -- Some lines were taken and answered. Before them `held` and these bytes were there to be cut, and after
  -- them `left` is; the link gave `given` in so many turns.
  pub record Goes (old new : Sides S) (held bytes left given : List ℕ) (turns : ℕ) : Type 0 where
    pub done : List Judged
    pub takes : TakesAll Takes old.into done new.into
    pub each : All (IsLine max) (lines_of done)
    pub going : All GoesOn (verdicts_of done)
    pub cut : held ++ bytes ≡ joined (lines_of done) ++ left
    pub talk : Tells old.told new.told (Talks given (flat_map (reply ack) (verdicts_of done)) turns)

  -- The same where the session ended so.
  pub record Breaks (old new : Sides S) (held bytes given : List ℕ) (turns : ℕ) (end : SessionEnd)
      : Type 0 where
    pub done : List Judged
    pub takes : TakesAll Takes old.into done new.into
    pub each : All (IsLine max) (lines_of done)
    pub rest : List ℕ
    pub sent : List ℕ
    pub cut : held ++ bytes ≡ joined (lines_of done) ++ rest
    pub talk : Tells old.told new.told (TalksTo (finds end) given sent turns)
    pub ends : EndsBy max ack end (verdicts_of done) rest sent
    pub leaves : LeavesLink end old.told new.told
