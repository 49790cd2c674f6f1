-- What it takes to lay a checkpoint of a channel's log.
use Rattle.std.specs.Prelude.{◌≡◌, ◌≢◌, ◌⊎◌, ◌<◌, ◌≤◌, ◌^◌, ℕ, List, [], ◌∷◌, ◌++◌, length, Option, Some, None, false}
use Rattle.flume_host.specs.Folder.{Allows, Files, Gone}
use Rattle.flume_host.specs.Told.{Told, WhereTold}
use Rattle.flume_host.specs.declared.names.FileName.TheVariants.{Check, Log}
use Rattle.event_ring.specs.Slots.{Index}
use Rattle.open_table.specs.Tables.{Table}
use Rattle.channel_log.specs.Writer.{Writer}
use Rattle.channel_face.specs.Machine.{State}
use Rattle.channel_face.specs.Sound.{IsSoundState}
use Rattle.channel_replay.specs.Start.{Start}
use Rattle.channel_writing.specs.Mirrors.{IsStartOf}
use Rattle.channel_writing.specs.Written.{IsLogged}
use Rattle.checkpoint.specs.declared.place.Next.{Next}
use Rattle.checkpoint.specs.Newest.{IsPassedFile}
use Rattle.checkpoint.specs.Right.{IsRight}
use Rattle.checkpoint.specs.Says.{Says}
use Rattle.checkpoint.specs.Text.{CheckText, check_bytes}
use Rattle.checkpoint_recovery.specs.Laws.{NeedsFrom}

-- A folder has the log: in the writer's own file what stands before its closed commit byte, and more; and the other log files as a crash may leave them.
pub record HasLog (t : Told) (w : Writer) (folder : Files) : Type 0 where
  pub others : (n : ℕ) → n ≢ w.file → Allows (t.now (Log n)) (folder (Log n))
  pub front : List ℕ
  pub rest : List ℕ
  pub long : length front ≡ w.gate
  pub some : 1 ≤ length rest
  pub reads : t.reads (Log w.file) ≡ Some (front ++ 0 ∷ [])
  pub has : folder (Log w.file) ≡ Some (front ++ rest)

-- A checkpoint's text stands for what a state has at the end of its log, and is right for each folder that has the log.
pub record IsTextFor (t : Told) (w : Writer) (s : State) (c : CheckText) (start : Start) : Type 0 where
  pub start_of : IsStartOf s start
  pub number : start.base.first ≡ c.next.number
  pub txn : start.txn ≡ c.next.txn
  pub right : (folder : Files) → HasLog t w folder → IsRight folder c start.base.items start.opened

-- no checkpoint has this number or a greater one, and no crash leaves one
abbrev pub AreUnused : Told → ℕ → Type 0
AreUnused t number = (n : ℕ) → number ≤ n → (t.reads (Check n) ≡ None) × (t.now (Check n) ≡ Gone)

-- A log has a state of which nothing is staged, and nothing waits for a flush; and ring and table have the state, as this text says.
pub record MayLay (told : Option Told) (w : Writer) (busy number : ℕ) (next : Next) (ring : Index) (table : Table) (s : State) (c : CheckText) (start : Start) : Type 0 where
  pub logged : IsLogged told w busy s
  pub whole : s.broken ≡ false
  pub sound : IsSoundState s
  pub staged : s.staged ≡ []
  pub empty : w.count ≡ 0
  pub low : s.first < 2 ^ 64
  pub says : Says (record { file = w.file; at = w.gate }) next ring table c
  pub unused : WhereTold told (λ t. AreUnused t number)
  pub text : WhereTold told (λ t. IsTextFor t w s c start)

-- while it is laid, its file is passed over, or is the whole checkpoint
abbrev pub IsLaying : CheckText → Option (List ℕ) → Type 0
IsLaying c file = IsPassedFile file ⊎ (file ≡ Some (1 ∷ check_bytes c))

-- Whatever a crash leaves of the checkpoints, the newest of them has this number or a greater one, and names log files from the least one on.
abbrev pub AreNeeded : Told → ℕ → ℕ → Type 0
AreNeeded t least laid = (folder : Files) → ((n : ℕ) → Allows (t.now (Check n)) (folder (Check n))) → NeedsFrom folder least laid
