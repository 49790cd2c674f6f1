-- Parts of a session: what its functions say of themselves.
use Rattle.std.specs.Prelude.{◌≡◌, ◌≤◌, ℕ, Bool, true, List, [], ◌++◌, flat_map, take, length, All, Option}
use Rattle.std.specs.Io.KnownBytes.{Appends, Consumes, IsAtEnd}
use Rattle.flume_host.specs.Writes.{WritesFront}
use Rattle.netcat_source.specs.Lines.{IsLine, TooLong, joined}
use Rattle.netcat_source.specs.Replies.{reply, end_reply}
use Rattle.netcat_source.specs.declared.lines.LineVerdict.{LineVerdict}
use Rattle.line_session.specs.declared.session.SessionEnd.{SessionEnd}
use Rattle.line_session.specs.declared.session.SessionEnd.TheVariants.{End, TooLongLine, Full, Line}
use Rattle.line_session.specs.declared.session.SessionEnd.TheVariants.{NoMemory, ReadFault, WriteFault}
use Rattle.line_session.specs.Handled.{Handled, GoesOn, TakesAll, lines_of, verdicts_of}
use Rattle.line_session.specs.Sessions.{EndsBy}

-- some bytes were read, at most so many
abbrev pub Reads : ℕ → Option (List ℕ) → Option (List ℕ) → List ℕ → Type 0
Reads room old new bytes = Consumes old new bytes × (length bytes ≤ room)

-- a line was taken, and P is true of its verdict
abbrev pub TakesOne : {S : Type 0} → (S → List ℕ → LineVerdict → S → Type 0) → S → List ℕ → S
    → (LineVerdict → Type 0) → Type 0
TakesOne Takes old line new P = (verdict : LineVerdict) × Takes old line verdict new × P verdict

-- how the answer to a line ends a session
abbrev pub AnswerEnds : (LineVerdict → Bool) → Bool → LineVerdict → Option (List ℕ) → Option (List ℕ)
    → SessionEnd → Type 0
AnswerEnds stops ack verdict old new End = ⊥
AnswerEnds stops ack verdict old new TooLongLine = ⊥
AnswerEnds stops ack verdict old new Full = ⊥
AnswerEnds stops ack verdict old new (Line last) =
    (last ≡ verdict) × (stops verdict ≡ true) × Appends old new (reply ack verdict)
AnswerEnds stops ack verdict old new NoMemory = ⊥
AnswerEnds stops ack verdict old new ReadFault = ⊥
AnswerEnds stops ack verdict old new WriteFault = WritesFront old new (reply ack verdict)

-- how the reply to a line that is too long ends it
abbrev pub LongEnds : Option (List ℕ) → Option (List ℕ) → SessionEnd → Type 0
LongEnds old new End = ⊥
LongEnds old new TooLongLine = Appends old new (end_reply TooLong)
LongEnds old new Full = ⊥
LongEnds old new (Line last) = ⊥
LongEnds old new NoMemory = ⊥
LongEnds old new ReadFault = ⊥
LongEnds old new WriteFault = WritesFront old new (end_reply TooLong)

-- what may end a session while a line is served
abbrev pub EndsByLine : SessionEnd → Type 0
EndsByLine End = ⊥
EndsByLine TooLongLine = Unit {0}
EndsByLine Full = ⊥
EndsByLine (Line last) = Unit {0}
EndsByLine NoMemory = ⊥
EndsByLine ReadFault = ⊥
EndsByLine WriteFault = Unit {0}

-- what may end it when more is read and served
abbrev pub EndsByRead : SessionEnd → Type 0
EndsByRead Full = ⊥
EndsByRead NoMemory = ⊥
EndsByRead end = Unit {0}

-- what was read then, and what is left
abbrev pub ReadEnds : SessionEnd → List ℕ → Option (List ℕ) → Type 0
ReadEnds End bytes left = (bytes ≡ []) × IsAtEnd left
ReadEnds ReadFault bytes left = bytes ≡ []
ReadEnds end bytes left = Unit {0}

-- where the lines of a session and their answers go
pub record Sides (S : Type 0) : Type 0 where
  pub store : S
  pub took : Option (List ℕ)

abbrev pub sides : {S : Type 0} → S → Option (List ℕ) → Sides S
sides store took = record { store = store; took = took }

module _ (max : ℕ) (ack : Bool) (stops : LineVerdict → Bool) {S : Type 0}
    (Takes : S → List ℕ → LineVerdict → S → Type 0) where
  -- Some lines were taken and answered. Before them `held` and these bytes were there to be cut, and after them `left` is.
  pub record Goes (old new : Sides S) (held bytes left : List ℕ) : Type 0 where
    pub done : List Handled
    pub takes : TakesAll Takes old.store done new.store
    pub each : All (IsLine max) (lines_of done)
    pub going : All (GoesOn stops) (verdicts_of done)
    pub cut : held ++ bytes ≡ joined (lines_of done) ++ left
    pub wrote : Appends old.took new.took (flat_map (reply ack) (verdicts_of done))

  -- The same where the session ended so.
  pub record Breaks (old new : Sides S) (held bytes : List ℕ) (end : SessionEnd) : Type 0 where
    pub done : List Handled
    pub takes : TakesAll Takes old.store done new.store
    pub each : All (IsLine max) (lines_of done)
    pub rest : List ℕ
    pub sent : List ℕ
    pub cut : held ++ bytes ≡ joined (lines_of done) ++ rest
    pub wrote : Appends old.took new.took sent
    pub ends : EndsBy ack stops max end (verdicts_of done) rest sent
