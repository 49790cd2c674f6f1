-- The lines of a session, and what became of them.
use Rattle.std.specs.Prelude.{ℕ, List, [], map}
use Rattle.event_core.specs.Content.{Content, content}
use Rattle.channel_face.specs.declared.replies.FaceRefused.TheVariants as face
use Rattle.source_put.specs.declared.intake.Verdict.{Verdict}
use Rattle.source_put.specs.declared.intake.Verdict.TheVariants as verdict
use Rattle.netcat_source.specs.declared.lines.LineVerdict.{LineVerdict}
use Rattle.netcat_source.specs.declared.lines.LineVerdict.TheVariants.{Accepted, Refused, InDoubt, NoMemory}

-- the event of a line: no headers, and the line as its body
abbrev pub event_of : List ℕ → Content
event_of line = content [] line

pub record Judged : Type 0 where
  pub line : List ℕ
  pub verdict : Verdict

-- what is said of a verdict: in doubt is only a batch whose commit was left in doubt
abbrev pub said_of : Verdict → LineVerdict
said_of verdict.Taken = Accepted
said_of (verdict.Refused channel face.InDoubt) = InDoubt
said_of (verdict.Refused channel cause) = Refused
said_of (verdict.TooLarge size) = Refused
said_of verdict.NoMemory = NoMemory

abbrev pub lines_of : List Judged → List (List ℕ)
lines_of done = map (λ (j : Judged). j.line) done

abbrev pub verdicts_of : List Judged → List LineVerdict
verdicts_of done = map (λ (j : Judged). said_of j.verdict) done

-- a session goes on after this verdict
abbrev pub GoesOn : LineVerdict → Type 0
GoesOn Accepted = Unit {0}
GoesOn Refused = Unit {0}
GoesOn InDoubt = Unit {0}
GoesOn NoMemory = ⊥
