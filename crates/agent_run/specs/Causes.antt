-- Why a run that began ended with its status.
use Rattle.std.specs.Prelude.{◌≡◌, ◌⊎◌, ◌<◌, ◌≤◌, ◌-◌, ◌^◌, ℕ, List, [], ◌∷◌, ◌++◌, Option, Some, None, Err, true, length, slice_index_or}
use Rattle.std.specs.Io.KnownBytes.{Consumes, IsAtEnd}
use Rattle.channel_face.specs.History.{Step}
use Rattle.channel_face.specs.Machine.{Reopen, or_else}
use Rattle.channel_face.specs.declared.replies.OpenCause.{OpenCause}
use Rattle.channel_face.specs.declared.replies.OpenCause.TheVariants.{DiskFault}
use Rattle.agent_plan.specs.declared.plan.ChannelPlan.{ChannelPlan}
use Rattle.agent_plan.specs.declared.plan.Plan.{Plan}
use Rattle.agent_plan.specs.declared.plan.SourceKind.{SourceKind}
use Rattle.agent_plan.specs.declared.plan.SourceKind.TheVariants.{Netcat, Avro, Stdin}
use Rattle.agent_plan.specs.declared.plan.SourcePlan.{SourcePlan}
use Rattle.flume_host.specs.Causes.{Rose}
use Rattle.flume_host.specs.HostState.{HostState}
use Rattle.netcat_source.specs.Lines.{IsCut, LinesEnd, Rest, TooLong}
use Rattle.shared_channel.specs.Calls.{state_seen}
use Rattle.shared_channel.specs.Passes.{Known}
use Rattle.channel_lock.specs.Views.{View}
use Rattle.agent_words.specs.Statuses.{cause_status}
use Rattle.agent_run.specs.FoldersTold.{folder_of}

-- ---- channels that are broken in the end

-- The last of all calls is a reopen that was refused for this cause, and the channel is broken.
pub record IsLeftBroken (cause : OpenCause) (all : View) : Type 0 where
  pub front : List Step
  pub last : Step
  pub whole : all.seen ≡ front ++ last ∷ []
  pub refused : last.call ≡ Reopen (Err cause)
  pub broken : (state_seen all).broken ≡ true

-- The channel is broken, and no more calls of it are counted: a reopen is refused for that alone, and is no call.
pub record IsSpent (all : View) : Type 0 where
  pub many : 2 ^ 64 - 1025 ≤ length all.seen
  pub broken : (state_seen all).broken ≡ true

-- it is so of all calls of some channel of these that is in a folder
pub record SomeInFolder (P : View → Type 0) (plans : List ChannelPlan) (finals : List Known) : Type 0 where
  pub place : ℕ
  pub below : place < length plans
  pub path : List ℕ
  pub in_folder : (plan : ChannelPlan) → folder_of (slice_index_or plans place plan).kind ≡ Some path
  pub is : (final : Known) → P (slice_index_or finals place final).view

-- some channel is left broken for such a cause
abbrev pub SomeIsLeft : (OpenCause → Type 0) → List ChannelPlan → List Known → Type 0
SomeIsLeft Such plans finals = SomeInFolder (λ all. (cause : OpenCause) × Such cause × IsLeftBroken cause all) plans finals

-- none of them is broken in the end
abbrev pub NoneIsBroken : List ChannelPlan → List Known → Type 0
NoneIsBroken plans finals = SomeInFolder (λ all. (state_seen all).broken ≡ true) plans finals → ⊥

-- ---- standard input

-- a source of standard input takes lines of fewer bytes than this
abbrev pub limit_of : SourceKind → Option ℕ
limit_of (Netcat bind port max_line ack threads) = None
limit_of (Avro bind port threads) = None
limit_of (Stdin max_line ack) = Some max_line

-- by the first source that reads standard input, where one does
abbrev pub line_limit : List SourcePlan → Option ℕ
line_limit [] = None
line_limit (source ∷ sources) = or_else (limit_of source.kind) (line_limit sources)

-- The bytes are lines of fewer bytes than the limit and have this end. Where nobody reads lines, none is too long.
abbrev pub IsCutBy : Option ℕ → List ℕ → LinesEnd → Type 0
IsCutBy None bytes end = end ≡ Rest
IsCutBy (Some max) bytes end = (lines : List (List ℕ)) × IsCut max bytes lines end

-- So many bytes were taken of the input, with this end.
pub record IsTaken (Size : ℕ → Type 0) (limit : Option ℕ) (end : LinesEnd) (old new : Option (List ℕ)) : Type 0 where
  pub bytes : List ℕ
  pub taken : Consumes old new bytes
  pub size : Size (length bytes)
  pub lines : IsCutBy limit bytes end

-- The whole input is told: it has fewer than 2^40 bytes, and no line of it is too long.
pub record IsReadable (limit : Option ℕ) (input : Option (List ℕ)) : Type 0 where
  pub bytes : List ℕ
  pub told : input ≡ Some bytes
  pub few : length bytes < 2 ^ 40
  pub lines : IsCutBy limit bytes Rest

-- ---- the statuses

-- What a status says of all calls of the run's channels, of standard input, and of the host's count of faults. At 3 that count rose, or a
-- channel is left broken for a fault of its disk. At 4 a channel is left broken for a checkpoint, a fault of the log, too many events or a
-- number at its end, or a broken one is spent; and where one is so left, the status is 4. At 6 2^40 bytes were taken, at 7 a line is too long,
-- and at 0 neither is so, up to the end of the input. Where no count rose, no channel in a folder is broken and the input can be read, the
-- status is 0 or out of memory.
pub record CausesTold (plan : Plan) (status : ℕ) (finals : List Known) (old new : HostState) : Type 0 where
  pub fault : status ≡ 3 → Rose old.faults new.faults ⊎ SomeIsLeft (λ cause. cause ≡ DiskFault) plan.channels.items finals
  pub held : status ≡ 4 → SomeIsLeft (λ cause. cause_status cause ≡ 4) plan.channels.items finals ⊎ SomeInFolder IsSpent plan.channels.items finals
  pub holds : SomeIsLeft (λ cause. cause_status cause ≡ 4) plan.channels.items finals → status ≡ 4
  pub full : status ≡ 6 → IsTaken (λ size. size ≡ 2 ^ 40) (line_limit plan.sources.items) Rest old.input new.input
  pub long : status ≡ 7 → IsTaken (λ size. size ≤ 2 ^ 40) (line_limit plan.sources.items) TooLong old.input new.input
  pub done : status ≡ 0 → IsTaken (λ size. size < 2 ^ 40) (line_limit plan.sources.items) Rest old.input new.input × IsAtEnd new.input
  pub well : (Rose old.faults new.faults → ⊥) → NoneIsBroken plan.channels.items finals → IsReadable (line_limit plan.sources.items) old.input
      → (status ≡ 0) ⊎ (status ≡ 5)
