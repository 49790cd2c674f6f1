-- What a run of `pipe` has done, by its status.
use Rattle.std.specs.Prelude.{◌≡◌, ◌⊎◌, ℕ, ◌≤◌, ◌<◌, ◌^◌, List, [], ◌++◌, length, All, Option, None}
use Rattle.std.specs.Io.KnownBytes.{IsAtEnd}
use Rattle.flume_host.specs.Causes.{Rose}
use Rattle.flume_host.specs.HostState.{HostState}
use Rattle.flume_host.specs.Told.{Told, Tells}
use Rattle.netcat_source.specs.Lines.{Rest, TooLong}
use Rattle.netcat_source.specs.declared.lines.LineVerdict.TheVariants as verdict
use Rattle.line_session.specs.Handled.{Handled, verdicts_of}
use Rattle.shared_channel.specs.Passes.{Known}
use Rattle.agent_commands.specs.Handled.{GoesOn, doubted}
use Rattle.agent_commands.specs.Puts.{ArePut, ArePutIfAny}
use Rattle.agent_commands.specs.Session.{Served, Stopped}
use Rattle.agent_commands.specs.Stored.{Holds, IsRefusedFolder, IsUnopened}
use Rattle.agent_words.specs.Statuses.{cause_status}
use Rattle.agent_commands.specs.declared.pipe.PipeEnd.{PipeEnd}
use Rattle.agent_commands.specs.declared.pipe.PipeEnd.TheVariants.{Served as ByServing, Unopened}
use Rattle.line_session.specs.declared.session.SessionEnd.{SessionEnd}
use Rattle.line_session.specs.declared.session.SessionEnd.TheVariants.{End, TooLongLine, Full, Line, NoMemory, ReadFault, WriteFault}

-- The folder holds every line that was accepted, and none is in doubt; and the channel's calls are those of the lines.
abbrev pub Stored : Option Told → Option Told → Option Known → List Handled → Type 0
Stored before after pass done = Tells before after (Holds done []) × ArePut before pass done

-- The first lines were accepted or refused, and at most one more stopped the session: it is in doubt, for which the disk's count rose, or there
-- was no memory for it. The folder holds what was accepted, and may hold what is in doubt; or it was not opened, and no line was handled.
-- The calls of the channel, where there is one, are those of the lines.
pub record Interrupted (before after : Option Told) (faults now : ℕ) (pass : Option Known) (done : List Handled) : Type 0 where
  pub first : List Handled
  pub last : List Handled
  pub split : done ≡ first ++ last
  pub going : All GoesOn (verdicts_of first)
  pub one : length last ≤ 1
  pub stops : All (λ h. GoesOn h.verdict → ⊥) last
  pub cause : All (λ h. h.verdict ≡ verdict.InDoubt → Rose faults now) last
  pub folder : Tells before after (Holds first (doubted last)) ⊎ ((done ≡ []) × Tells before after IsUnopened)
  pub calls : ArePutIfAny before pass done

-- every line of what was read was handled
abbrev pub IsWellStatus : ℕ → Type 0
IsWellStatus n = (n ≡ 0) ⊎ (n ≡ 6) ⊎ (n ≡ 7)

-- From one state of the host, of the folder and of its disk's count of faults to the next. At 0, 6 and 7 every line of
-- what was read was handled: it was answered, and is in the folder where it was accepted. The pass of the folder's channel, where
-- one was shared, has seen all calls of the channel.
pub record Piped (old new : HostState) (before after : Option Told) (disk_before disk_now : ℕ) (status : ℕ) (pass : Option Known) : Type 0 where
  -- the input was read to its end
  pub done : status ≡ 0 → IsAtEnd new.input × Served 512 (λ size. size < 2 ^ 40) Rest old.input new.input old.output new.output (Stored before after pass)
  -- 2^40 bytes were taken
  pub full : status ≡ 6 → Served 512 (λ size. size ≡ 2 ^ 40) Rest old.input new.input old.output new.output (Stored before after pass)
  -- a line was too long
  pub long : status ≡ 7 → Served 512 (λ size. size ≤ 2 ^ 40) TooLong old.input new.input old.output new.output (Stored before after pass)
  -- a fault or out of memory ended it
  pub stopped : (status ≡ 3) ⊎ (status ≡ 5) → Stopped 512 old.input new.input old.output new.output old.faults new.faults (Interrupted before after disk_before disk_now pass)
  -- the folder was refused for what it holds: nothing was read or written
  pub held : status ≡ 4 → Tells before after IsRefusedFolder × (new.input ≡ old.input) × (new.output ≡ old.output) × (pass ≡ None)
  -- where nothing stopped it, standard output handed on all that was written
  pub handed : IsWellStatus status → new.handed ≡ new.output
  -- where nothing stopped it, no fault was counted
  pub well : IsWellStatus status → (new.faults ≡ old.faults) × (disk_now ≡ disk_before)
  -- out of memory: the disk counted no fault, so no line is in doubt
  pub memory : status ≡ 5 → disk_now ≡ disk_before
  -- a count of faults rose
  pub fault : status ≡ 3 → Rose old.faults new.faults ⊎ Rose disk_before disk_now

-- the statuses of `pipe`
abbrev pub IsPipeStatus : ℕ → Type 0
IsPipeStatus n = (n ≡ 0) ⊎ (n ≡ 3) ⊎ (n ≡ 4) ⊎ (n ≡ 5) ⊎ (n ≡ 6) ⊎ (n ≡ 7)

-- the host's count of faults rose where its input or its output ended the session, and else stayed
abbrev pub HostCause : SessionEnd → ℕ → ℕ → Type 0
HostCause ReadFault before now = Rose before now
HostCause WriteFault before now = Rose before now
HostCause end before now = now ≡ before

-- the status of a run whose session ended so
abbrev pub end_status : SessionEnd → ℕ
end_status End = 0
end_status TooLongLine = 7
end_status Full = 6
end_status (Line verdict.NoMemory) = 5
end_status (Line said) = 3
end_status NoMemory = 5
end_status ReadFault = 3
end_status WriteFault = 3

abbrev pub pipe_status : PipeEnd → ℕ
pipe_status (ByServing end) = end_status end
pipe_status (Unopened cause) = cause_status cause
