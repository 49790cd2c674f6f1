-- Laws of the records that a channel writes: after each call the log mirrors the state again.
use Rattle.std.specs.Prelude.{◌⊎◌, ◌≡◌, ◌<◌, ◌≤◌, ◌+◌, ◌-◌, ◌^◌, ℕ, List, [], ◌∷◌, ◌++◌, length, max, Some, None, IsSomeAnd, false}
use Rattle.event_core.specs.Content.{Content}
use Rattle.flume_host.specs.Folder.{Files}
use Rattle.flume_host.specs.declared.names.FileName.TheVariants.{Log}
use Rattle.event_core.specs.Journal.{Base, after_journal, is_among, taken_numbers}
use Rattle.event_core.specs.declared.journal.Entry.{Entry}
use Rattle.event_core.specs.declared.journal.Entry.TheVariants.{Puts, Takes}
use Rattle.record_form.specs.declared.record.Rec.{Rec}
use Rattle.record_form.specs.declared.record.Rec.TheVariants.{Put, Take, Rollback, CommitPut, CommitTake}
use Rattle.channel_log.specs.Frames.{IsBirth, header, opened}
use Rattle.channel_log.specs.Writer.{HasFrames}
use Rattle.channel_face.specs.Machine.{State, entry_of, with_entry, close, free, next_number, settle, stage}
use Rattle.channel_replay.specs.Marks.{Past, journal, next_txn}
use Rattle.channel_face.specs.Sound.{IsSoundState}
use Rattle.channel_replay.specs.Start.{IsStart, Start, start_past}
use Rattle.channel_replay.specs.StartLaws.{done_of, start_of}
use Rattle.channel_writing.specs.Mirrors.{AreLegal, IsStartOf, Mirrors, applied}
use Rattle.checkpoint.specs.Newest.{IsNewest}
use Rattle.checkpoint.specs.Text.{CheckText}
use Rattle.checkpoint_recovery.specs.Recovers.{IsCheck, RecoversTo}
use Rattle.channel_writing.specs.Logs.{GoesOn, Logs, entered_at, flat}
use Rattle.channel_writing.specs.Written.{MayRecover}

-- A transaction that did nothing yet writes no record.
abbrev pub BeginIsMirrored : Type 0
BeginIsMirrored =
    (start : Base) (s : State) (settled : Past) (records : List Rec) (entry : Entry) → Mirrors start s settled records → done_of (Some entry) ≡ None → length s.opened < 1024 → s.txn < 2 ^ 64 - 1
    → Mirrors start (record s { opened = s.opened ++ (s.txn, entry) ∷ []; txn = s.txn + 1 }) settled records

-- A transaction gains an event, and its PUT stands after the other records.
abbrev pub PutIsMirrored : Type 0
PutIsMirrored =
    (start : Base) (s : State) (settled : Past) (records : List Rec) (txn : ℕ) (events : List Content) (event : Content) → Mirrors start s settled records → entry_of txn s.opened ≡ Some (Puts events)
    → Mirrors start (record s { opened = with_entry txn (Puts (events ++ event ∷ [])) s.opened }) settled (records ++ Put txn event ∷ [])

-- A transaction takes the first event that none holds, and its TAKE stands after the other records.
abbrev pub TakeIsMirrored : Type 0
TakeIsMirrored =
    (start : Base) (s : State) (settled : Past) (records : List Rec) (txn : ℕ) (numbers : List ℕ) (item : ℕ × Content) (rest : List (ℕ × Content)) → Mirrors start s settled records → entry_of txn s.opened ≡ Some (Takes numbers) → free s ≡ item ∷ rest
    → Mirrors start (record s { opened = with_entry txn (Takes (numbers ++ item.0 ∷ [])) s.opened }) settled (records ++ Take txn item.0 ∷ [])

-- A transaction that did something is given up, and its ROLLBACK stands after the other records.
abbrev pub RollbackIsMirrored : Type 0
RollbackIsMirrored =
    (start : Base) (s : State) (settled : Past) (records : List Rec) (txn : ℕ) (entry : Entry) → Mirrors start s settled records → entry_of txn s.opened ≡ Some entry → done_of (Some entry) ≡ Some entry
    → Mirrors start (close txn s) settled (records ++ Rollback txn ∷ [])

-- One that did nothing ends without a record.
abbrev pub EndIsMirrored : Type 0
EndIsMirrored =
    (start : Base) (s : State) (settled : Past) (records : List Rec) (txn : ℕ) (entry : Entry) → Mirrors start s settled records → entry_of txn s.opened ≡ Some entry → done_of (Some entry) ≡ None
    → Mirrors start (close txn s) settled records

-- Puts are staged, and their COMMIT_PUT stands after the other records.
abbrev pub StagePutIsMirrored : Type 0
StagePutIsMirrored =
    (start : Base) (s : State) (settled : Past) (records : List Rec) (txn : ℕ) (events : List Content) → Mirrors start s settled records → entry_of txn s.opened ≡ Some (Puts events) → 0 < length events → next_number s + length events ≤ 2 ^ 64 - 1
    → Mirrors start (stage txn (Some (Puts events)) s) settled (records ++ CommitPut txn (next_number s) (length events) ∷ [])

-- Takes are staged, and their COMMIT_TAKE stands after the other records.
abbrev pub StageTakeIsMirrored : Type 0
StageTakeIsMirrored =
    (start : Base) (s : State) (settled : Past) (records : List Rec) (txn : ℕ) (numbers : List ℕ) → Mirrors start s settled records → entry_of txn s.opened ≡ Some (Takes numbers) → 0 < length numbers
    → Mirrors start (stage txn (Some (Takes numbers)) s) settled (records ++ CommitTake txn (length numbers) ∷ [])

-- What is staged is settled, and the records are those of a frame more.
abbrev pub FlushIsMirrored : Type 0
FlushIsMirrored =
    (start : Base) (s : State) (settled : Past) (records : List Rec) → Mirrors start s settled records → ((n : ℕ) → next_number s ≤ n → is_among (taken_numbers s.staged) n ≡ false)
    → Mirrors start (settle s) (applied settled records) []

-- Where some log mirrors a state, with nothing staged and no records pending, each start that has what the state has mirrors it too, without any record after it; and there is one.
abbrev pub CheckpointIsMirrored : Type 0
CheckpointIsMirrored =
    (base : Base) (s : State) (settled : Past) → Mirrors base s settled [] → IsSoundState s → s.staged ≡ []
    → IsStartOf s (start_of s) × ((start : Start) → IsStartOf s start → IsStart start × Mirrors start.base s (start_past start) [])

-- A folder's newest checkpoint has for its place the commit byte after these frames of the last log file, and stands for this start.
pub record IsLaidAt (folder : Files) (birth number : ℕ) (frames : List (List Rec)) (start : Start) : Type 0 where
  pub check : ℕ
  pub text : CheckText
  pub newest : IsNewest folder (Some check)
  pub is : IsCheck folder check text start
  pub place : text.place ≡ record { file = number; at = length (header birth number ++ opened frames) }
  pub none : (n : ℕ) → number < n → folder (Log n) ≡ None

-- It goes on from there by the frames that the file has after these.
abbrev pub LaidGoesOn : Type 0
LaidGoesOn =
    (folder : Files) (start : Start) (birth number : ℕ) (frames more : List (List Rec)) → IsLaidAt folder birth number frames start → IsBirth birth → IsSomeAnd (folder (Log number)) (HasFrames birth number (frames ++ more))
    → GoesOn folder start (entered_at birth frames (start_past start)) birth frames more

-- And where the start has what the state has, of which an earlier folder has the log with nothing staged and no records pending, the log from there on is the channel's.
abbrev pub LaidIsLogged : Type 0
LaidIsLogged =
    (earlier folder : Files) (start : Start) (birth number : ℕ) (s : State) (frames : List (List Rec)) → Logs earlier birth number s frames [] → IsBirth birth → IsSoundState s → s.staged ≡ [] → s.first < 2 ^ 64 → IsStartOf s start
    → ((more : List (List Rec)) → IsSomeAnd (folder (Log number)) (HasFrames birth number (frames ++ more)) → IsLaidAt folder birth number frames start) → Logs folder birth number s frames []

-- Logs after two starts that mirror one state leave the same, and the same again with the records that are pending.
abbrev pub StartsLeaveTheSame : Type 0
StartsLeaveTheSame =
    (a b : Base) (s : State) (p q : Past) (records more : List Rec) → Mirrors a s p records → Mirrors b s q more
    → (after_journal a (journal p) ≡ after_journal b (journal q)) × (after_journal a (journal (applied p records)) ≡ after_journal b (journal (applied q more)))

-- A folder whose log goes on by legal records recovers to what they leave after its start.
abbrev pub FramesRecover : Type 0
FramesRecover =
    (folder : Files) (start : Start) (past : Past) (birth : ℕ) (frames more : List (List Rec)) → GoesOn folder start past birth frames more → AreLegal start.base past (flat more)
    → RecoversTo folder (after_journal start.base (journal (applied past (flat more)))) (max start.txn (next_txn (applied past (flat more))))

-- While a channel's records are flushed as a frame more, a crash leaves what is settled, or that with what is staged.
abbrev pub FlushRecovers : Type 0
FlushRecovers =
    (s : State) (folder : Files) (birth number : ℕ) (frames : List (List Rec)) (records : List Rec) → Logs folder birth number s frames records
    → IsSomeAnd (folder (Log number)) (λ bytes. HasFrames birth number frames bytes ⊎ HasFrames birth number (frames ++ records ∷ []) bytes)
    → MayRecover s folder

-- After a flush the log's frames are one more.
abbrev pub FlushIsLogged : Type 0
FlushIsLogged =
    (folder : Files) (birth number : ℕ) (s : State) (frames : List (List Rec)) (records : List Rec) → Logs folder birth number s frames records → ((n : ℕ) → next_number s ≤ n → is_among (taken_numbers s.staged) n ≡ false)
    → Logs folder birth number (settle s) (frames ++ records ∷ []) []
