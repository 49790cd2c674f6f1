-- What a session of lines on a link has done, and how it ended.
use Rattle.std.specs.Prelude.{◌≡◌, ◌⊎◌, ◌<◌, ◌≤◌, ℕ, Bool, List, [], ◌∷◌, ◌++◌, length, take}
use Rattle.std.specs.Prelude.{flat_map, All, Option}
use Rattle.flume_host.specs.Told.{Tells}
use Rattle.flume_host.specs.Links.{FailedLast, LinkTold, TalksTo, most_turns}
use Rattle.source_put.specs.declared.intake.Verdict.{Verdict}
use Rattle.netcat_source.specs.Lines.{IsLine, IsTooLong, LinesEnd, Rest, TooLong, joined}
use Rattle.netcat_source.specs.Replies.{reply, replies, end_reply}
use Rattle.netcat_source.specs.declared.lines.LineVerdict.{LineVerdict}
use Rattle.netcat_source.specs.declared.lines.LineVerdict.TheVariants as says
use Rattle.netcat_source.specs.declared.session.SessionEnd.{SessionEnd}
use Rattle.netcat_source.specs.declared.session.SessionEnd.TheVariants.{End, Stopped, TooLongLine, LinkFault}
use Rattle.netcat_source.specs.declared.session.SessionEnd.TheVariants.{Turns, NoMemory}
use Rattle.netcat_source.specs.Judged.{Judged, lines_of, verdicts_of, GoesOn}
use Rattle.netcat_source.specs.Into.{Sides, TakesAll}

-- Every line was answered, and the session goes on.
pub record AllAnswered (ack : Bool) (verdicts : List LineVerdict) (end : LinesEnd) (sent : List ℕ)
    : Type 0 where
  pub going : All GoesOn verdicts
  pub whole : sent ≡ replies ack verdicts end

-- the last line found no memory, and was told so
pub record LacksMemory (verdicts : List LineVerdict) : Type 0 where
  pub first : List LineVerdict
  pub split : verdicts ≡ first ++ says.NoMemory ∷ []
  pub going : All GoesOn first

-- after these bytes a part of a reply was sent
pub record SentPart (before reply sent : List ℕ) : Type 0 where
  pub count : ℕ
  pub short : count < length reply
  pub front : sent ≡ before ++ take count reply

-- the link failed in the reply to the last line; all others were answered
pub record FailsInReply (ack : Bool) (verdicts : List LineVerdict) (sent : List ℕ) : Type 0 where
  pub first : List LineVerdict
  pub last : LineVerdict
  pub split : verdicts ≡ first ++ last ∷ []
  pub going : All GoesOn first
  pub part : SentPart (flat_map (reply ack) first) (reply ack last) sent

-- the link failed in the reply to a line that is too long; all lines were answered
pub record FailsAtLong (max : ℕ) (ack : Bool) (verdicts : List LineVerdict) (rest sent : List ℕ)
    : Type 0 where
  pub going : All GoesOn verdicts
  pub long : IsTooLong max rest
  pub part : SentPart (flat_map (reply ack) verdicts) (end_reply TooLong) sent

-- How a session ends, by the verdicts on its lines, what the link gave after these lines, and what was sent.
-- The link may fail at a read, or in a reply.
abbrev pub EndsBy : ℕ → Bool → SessionEnd → List LineVerdict → List ℕ → List ℕ → Type 0
EndsBy max ack End verdicts rest sent = AllAnswered ack verdicts Rest sent × IsLine max rest
EndsBy max ack Turns verdicts rest sent = AllAnswered ack verdicts Rest sent × IsLine max rest
EndsBy max ack Stopped verdicts rest sent = AllAnswered ack verdicts Rest sent
EndsBy max ack TooLongLine verdicts rest sent = AllAnswered ack verdicts TooLong sent × IsTooLong max rest
EndsBy max ack LinkFault verdicts rest sent =
    (AllAnswered ack verdicts Rest sent × IsLine max rest) ⊎ FailsInReply ack verdicts sent
    ⊎ FailsAtLong max ack verdicts rest sent
EndsBy max ack NoMemory verdicts rest sent = LacksMemory verdicts × (sent ≡ replies ack verdicts Rest)

-- how many turns there were: reads that gave bytes or waited in vain
abbrev pub EndsAfter : SessionEnd → ℕ → Type 0
EndsAfter End turns = turns < most_turns
EndsAfter Turns turns = turns ≡ most_turns
EndsAfter Stopped turns = turns ≤ most_turns
EndsAfter TooLongLine turns = turns ≤ most_turns
EndsAfter LinkFault turns = turns ≤ most_turns
EndsAfter NoMemory turns = turns ≤ most_turns

-- how many reads of a session that ends so found the link's end
abbrev pub finds : SessionEnd → ℕ
finds End = 1
finds other = 0

-- where a fault ended it, the link's last call failed
abbrev pub LeavesLink : SessionEnd → Option LinkTold → Option LinkTold → Type 0
LeavesLink LinkFault old new = FailedLast old new
LeavesLink other old new = Unit {0}

module _ (max : ℕ) (ack : Bool) {S : Type 0} (Takes : S → List ℕ → Verdict → S → Type 0) where
  -- A whole session: what the link gave is the lines that were taken, one accept each and in order, and the
  -- rest after them; and each was answered as the end says.
  pub record Served (old new : Sides S) (end : SessionEnd) : Type 0 where
    pub done : List Judged
    pub takes : TakesAll Takes old.into done new.into
    pub each : All (IsLine max) (lines_of done)
    pub rest : List ℕ
    pub sent : List ℕ
    pub turns : ℕ
    pub talk : Tells old.told new.told (TalksTo (finds end) (joined (lines_of done) ++ rest) sent turns)
    pub ends : EndsBy max ack end (verdicts_of done) rest sent
    pub leaves : LeavesLink end old.told new.told
    pub after : EndsAfter end turns
