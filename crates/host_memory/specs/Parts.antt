-- What a disk in memory stands for.
use Rattle.std.specs.Prelude.{◌+◌, ℕ, List, [], ◌∷◌, ◌++◌, take, Option, Some, None, Result, Err, Bool, true, if◌then◌else◌}
use Rattle.flume_host.specs.declared.names.FileName.{FileName}
use Rattle.flume_host.specs.declared.names.Failed.{Failed}
use Rattle.flume_host.specs.Folder.{Files, same_name, name_below, with_at, settle_entry}
use Rattle.flume_host.specs.Told.{Told, Change, Make, Write, Sync, Remove, Call, On, Settle, done, under_way, file_after, sync_cost}
use Rattle.host_memory.specs.Look.{look_up, place_by}
use Rattle.host_memory.specs.declared.parts.MemFile.{MemFile}
use Rattle.host_memory.specs.declared.parts.MemCall.{MemCall}
use Rattle.host_memory.specs.declared.parts.Recorded.{Recorded}
use Rattle.host_memory.specs.declared.parts.Recorded.TheVariants.{Made, Wrote, Synced, Settled, Removed}
use Rattle.host_memory.specs.declared.parts.Outcome.{Outcome}
use Rattle.host_memory.specs.declared.parts.Outcome.TheVariants.{Whole, Partly, Nothing}

-- the bytes of the first file of each name
abbrev pub files_of : List MemFile → Files
files_of = look_up same_name (λ file. file.name) (λ file. Some file.bytes.items) None

-- where it is
abbrev pub place : List MemFile → FileName → Option ℕ
place = place_by same_name (λ file. file.name)

abbrev pub call_of : Recorded → Call
call_of (Made name) = On name Make
call_of (Wrote name at bytes) = On name (Write at bytes.items)
call_of (Synced name) = On name Sync
call_of Settled = Settle
call_of (Removed name) = On name Remove

-- the bytes that such a write has written
abbrev pub front_of : Outcome → List ℕ → List ℕ
front_of Whole bytes = bytes
front_of (Partly n) bytes = take n bytes
front_of Nothing bytes = []

-- what reads give of a file after a change failed that had done a part, n bytes of a write
abbrev pub part_after : ℕ → Change → Option (List ℕ) → Option (List ℕ)
part_after n Make None = Some []
part_after n Make (Some was) = Some was
part_after n (Write at bytes) file = file_after (Write at (take n bytes)) file
part_after n Sync file = file
part_after n Remove file = None

abbrev pub part_read : ℕ → Call → Files → Files
part_read n (On name change) files = with_at files name (part_after n change (files name))
part_read n Settle files = files

-- a call that failed, after which reads give these files
abbrev pub failed : Call → Files → Told → Told
failed call files t = record { reads = files; now = under_way call t.now; past = t.past ++ under_way call t.now ∷ []; syncs = t.syncs + sync_cost call }

abbrev pub step_by : Outcome → Call → Told → Told
step_by Whole call t = done call t
step_by (Partly n) call t = failed call (part_read n call t.reads) t
step_by Nothing call t = failed call t.reads t

abbrev pub step : MemCall → Told → Told
step made t = step_by made.outcome (call_of made.change) t

abbrev pub run : Told → List MemCall → Told
run t [] = t
run t (call ∷ calls) = run (step call t) calls

-- a disk that has these files, all of them stable
abbrev pub start : List MemFile → Told
start files = record { reads = files_of files; now = λ name. settle_entry (files_of files name); past = []; syncs = 0 }

abbrev pub told_of : List MemFile → List MemCall → Told
told_of first calls = run (start first) calls

abbrev pub told_by : Bool → List MemFile → List MemCall → Option Told
told_by tells first calls = if tells then Some (told_of first calls) else None

-- what a call answers, of which so much was to be done, where that was done or nothing
abbrev pub answer_of : {T : Type 0} → Outcome → Result T Failed → Result T Failed
answer_of Whole noted = noted
answer_of (Partly n) noted = Err (record {})
answer_of Nothing noted = Err (record {})

abbrev pub is_above : Option FileName → FileName → Bool
is_above None name = true
is_above (Some after) name = name_below after name

abbrev pub lesser : FileName → Option FileName → Option FileName
lesser name None = Some name
lesser name (Some least) = if name_below name least then Some name else Some least

-- the lesser of the two, where the name is above another
abbrev pub better_of : FileName → Option FileName → Option FileName → Option FileName
better_of name after best = if is_above after name then lesser name best else best
