-- What the history of a channel has of the lines that were handled: each has a put transaction of its own.
use Rattle.std.specs.Prelude.{◌≡◌, ◌⊎◌, ◌+◌, ℕ, List, [], ◌∷◌, ◌++◌, length, if◌then◌else◌, Option, Some, None, Result, Ok, Err, true}
use Rattle.flume_host.specs.Told.{Told, WhereTold, moment_of}
use Rattle.event_core.specs.declared.journal.Entry.{Entry}
use Rattle.event_core.specs.declared.journal.Entry.TheVariants.{Puts}
use Rattle.channel_face.specs.Faces.{Own, IsPutBatch}
use Rattle.channel_face.specs.History.{IsRun, Opening, Step, journal, opening}
use Rattle.channel_face.specs.Machine.{is_some_of}
use Rattle.channel_face.specs.declared.replies.BeginRefused.{BeginRefused}
use Rattle.channel_face.specs.declared.replies.BeginRefused.TheVariants as BeginNo
use Rattle.channel_face.specs.declared.replies.FaceRefused.{FaceRefused}
use Rattle.channel_face.specs.declared.replies.FaceRefused.TheVariants as face
use Rattle.channel_face.specs.declared.replies.Kind.TheVariants.{File as OnFile}
use Rattle.channel_face.specs.declared.replies.PutRefused.{PutRefused}
use Rattle.channel_face.specs.declared.replies.PutRefused.TheVariants as PutNo
use Rattle.channel_writing.specs.Folders.{Opens}
use Rattle.netcat_source.specs.declared.lines.LineVerdict.{LineVerdict}
use Rattle.netcat_source.specs.declared.lines.LineVerdict.TheVariants.{Accepted, Refused, InDoubt, NoMemory}
use Rattle.line_session.specs.Handled.{Handled}
use Rattle.atomic_table.specs.Seated.{TableId}
use Rattle.shared_channel.specs.Passes.{Known, new_pass}
use Rattle.shared_channel.specs.Ports.{AreOwned, AreUnder, Later, Saw, Stood, owned}
use Rattle.channel_face.specs.Faces.{Gains}
use Rattle.channel_lock.specs.Calls.{has}
use Rattle.agent_commands.specs.Handled.{is_accepted}
use Rattle.netcat_source.specs.Judged.{event_of}
use Rattle.agent_commands.specs.Stored.{default_limits}

-- what is said of an event whose transaction was not begun, and of one that was not put
abbrev pub begin_verdict : BeginRefused → LineVerdict
begin_verdict BeginNo.Broken = Refused
begin_verdict (BeginNo.TooManyOpen held) = Refused
begin_verdict (BeginNo.Spent counter) = Refused
begin_verdict BeginNo.NoMemory = NoMemory

abbrev pub put_verdict : PutRefused → LineVerdict
put_verdict PutNo.Stale = Refused
put_verdict PutNo.Broken = Refused
put_verdict (PutNo.Spent counter) = Refused
put_verdict (PutNo.TxnFull count) = Refused
put_verdict (PutNo.TooLarge size) = Refused
put_verdict (PutNo.Full count) = Refused
put_verdict PutNo.DiskFault = InDoubt
put_verdict PutNo.NoMemory = NoMemory

-- what is said of a line, by what its transaction was answered
abbrev pub verdict_of : Result ℕ FaceRefused → LineVerdict
verdict_of (Ok number) = Accepted
verdict_of (Err (face.Begin refused)) = begin_verdict refused
verdict_of (Err (face.Put refused)) = put_verdict refused
verdict_of (Err (face.Take refused)) = Refused
verdict_of (Err (face.Stage cause)) = Refused
verdict_of (Err face.InDoubt) = InDoubt

-- In the calls of a pass a line's event was put in a transaction of its own, which was answered so; or there was no memory for the
-- event, and there is no call.
abbrev pub PutsLine : {C : Type 0} → (C → Opening → List Step → Type 0) → Known → List ℕ → LineVerdict → Known → Type 0
PutsLine stands old line said new =
    (Later old new × ((result : Result ℕ FaceRefused)
    × Gains (AreOwned old.view) (AreOwned new.view) (IsPutBatch (Saw stands new.view) (length new.view.seen) (event_of line ∷ []) result)
    × (said ≡ verdict_of result)))
    ⊎ ((said ≡ NoMemory) × (new ≡ old))

module _ (start : Opening) (h : List Step) (numbers : List ℕ) where
  -- After the calls `earlier` of these numbers `its` are what one line came to.
  abbrev pub IsPutOf : List Own → Handled → List Own → Type 0
  IsPutOf earlier line its =
      ((result : Result ℕ FaceRefused) × IsPutBatch (Stood start h numbers) (length h) (event_of line.line ∷ []) result earlier its
      × (line.verdict ≡ verdict_of result))
      ⊎ ((its ≡ []) × (line.verdict ≡ NoMemory))

  -- So they are of lines, one after another, and there are no others.
  abbrev pub ArePutsOf : List Own → List Handled → List Own → Type 0
  ArePutsOf earlier [] own = own ≡ []
  ArePutsOf earlier (line ∷ done) own =
      (its : List Own) × (rest : List Own) × (own ≡ its ++ rest) × IsPutOf earlier line its × ArePutsOf (earlier ++ its) done rest

-- the puts of the lines that were accepted
abbrev pub entries_of : List Handled → List Entry
entries_of [] = []
entries_of (line ∷ done) = (if is_accepted line.verdict then Puts (event_of line.line ∷ []) ∷ [] else []) ++ entries_of done

-- How the channel of a folder began, whose disk told this before.
pub record BeginsOver (before : Option Told) (start : Opening) : Type 0 where
  pub rules : start.rules ≡ record { kind = OnFile; limits = default_limits }
  pub opens : WhereTold before (λ t. Opens t.reads default_limits.capacity start.base start.txn)
  pub from : start.from ≡ moment_of before + 1
  pub tells : start.tells ≡ is_some_of before

-- The history that the pass has seen is a run from what the folder opened to. Its calls are those of the lines that were handled, in
-- order and no others, all of the pass with the number 0; and what they settled is one entry for each line that was accepted.
pub record PutsLines (before : Option Told) (pass : Known) (done : List Handled) : Type 0 where
  pub begins : BeginsOver before pass.view.base
  pub run : IsRun pass.view.base.tells (opening pass.view.base) pass.view.seen
  pub number : has pass.view.numbers 0 ≡ true
  pub under : AreUnder 0 pass.view.seen
  pub puts : ArePutsOf pass.view.base pass.view.seen pass.view.numbers [] done (owned pass.view)
  pub settled : journal (opening pass.view.base) pass.view.seen ≡ entries_of done

-- a channel was shared, and this is its pass
abbrev pub ArePut : Option Told → Option Known → List Handled → Type 0
ArePut before None done = ⊥
ArePut before (Some pass) done = PutsLines before pass done

-- none was shared, and no line handled; or this is its pass
abbrev pub ArePutIfAny : Option Told → Option Known → List Handled → Type 0
ArePutIfAny before None done = done ≡ []
ArePutIfAny before (Some pass) done = PutsLines before pass done

-- The only pass of a channel of this table, which has made no call, over a disk that told this and had counted so many faults before.
pub record IsFirstPass (table : TableId) (pass : Known) (before : Option Told) (faults : ℕ) : Type 0 where
  pub start : Opening
  pub fresh : pass ≡ new_pass table start 1 0
  pub begins : BeginsOver before start
  pub faults_then : start.faults ≡ faults
