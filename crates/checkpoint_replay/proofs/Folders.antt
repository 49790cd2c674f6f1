-- The log files of a folder after a number, one after another.
use Rattle.std.proofs.Common.{◌≡◌, ◌⊎◌, inl, inr, ◌<◌, ◌≤◌, ◌+◌, ◌^◌, ℕ, List, [], ◌∷◌, ◌++◌, Option, Some, None, true, false, IsSome, IsSomeAnd, refl, sym, ◌∙◌, ap, subst, arith, append_assoc, ⊎_elim}
use Rattle.std.proofs.lemmas.Bool.{cases_lt}
use Rattle.std.proofs.lemmas.Bool.Decides.{nat_tests}
use Rattle.std.proofs.lemmas.List.{append-nil}
use Rattle.flume_host.specs.Folder.{Files, IsAbove, IsNext}
use Rattle.flume_host.specs.Told.{Told, WhereTold}
use Rattle.flume_host.specs.declared.names.FileName.{FileName}
use Rattle.flume_host.specs.declared.names.FileName.TheVariants.{Log, Check}
use Rattle.channel_log.specs.Frames.{Holds}
use Rattle.channel_log.specs.Reader.{HasFile}
use Rattle.channel_replay.specs.declared.refused.ReplayRefused.{ReplayRefused}
use Rattle.channel_replay.specs.declared.line.Line.{Line}
use Rattle.channel_replay.specs.Recover.{AreLogs, LogFile, file_lines, lines, past_lines}
use Rattle.channel_replay.specs.Replay.{WhereBadLog, floor, record_count}
use Rattle.channel_replay.proofs.Lines.{fault_append, fault_front, lines-append}
use Rattle.channel_replay.proofs.Folders.{NoLogs, above_floor}
use Rattle.channel_replay.proofs.Replaying.{log_maps, record_count-append}
use Rattle.ring_replay.specs.declared.indexing.Indexing.{Indexing}
use Rattle.ring_replay.specs.Indexing.{GoesThrough, IsKept}
use Rattle.ring_replay.specs.Folder.{StopsIn}
use Rattle.ring_replay.proofs.Files.{applies_append}
use Rattle.ring_replay.proofs.Standing.{stand_back, stand_front}
use Rattle.checkpoint_recovery.specs.Reading.{HasFrom, Whole}
use Rattle.checkpoint_replay.specs.Reading.{WhereBehind, WhereFrom}

-- faults in front of other lines, and after some that were applied

-- a fault in the front is the fault of all lines
pub stops_front : (a b : List Line) (old : Indexing) (f at : ℕ) → StopsIn a old f at → StopsIn (a ++ b) old f at
stops_front a b old f at stops places s past stand keeps = fault_front s.base past a b f at (stops places s past (stand_front places a b stand) keeps)

-- a fault behind lines that were applied is the fault of all
pub stops_behind : (a b : List Line) (old mid : Indexing) (f at : ℕ) → GoesThrough a old mid → StopsIn b mid f at → StopsIn (a ++ b) old f at
stops_behind a b old mid f at goes stops places s past stand keeps =
    let one = goes places s past (stand_front places a b stand) keeps in
    fault_append s.base past a b f at one.0 (stops places s (past_lines past a) (stand_back places a b stand) one.1)

-- How far a folder was read: of these log files, those below a number were applied, and the others are left.
pub record FilesUpTo (files : Files) (logs : List LogFile) (from : ℕ) (first now : Indexing) (none steps : ℕ) : Type 0 where
  pub done : List LogFile
  pub rest : List LogFile
  pub split : logs ≡ done ++ rest
  pub are : AreLogs files from (2 ^ 32) rest
  pub goes : GoesThrough (lines done) first now
  pub ticks : steps ≤ none + record_count (lines done)

pub record FoldersOn (was told : Option Told) (faulty faults file from : ℕ) (first now : Indexing) (none steps : ℕ) : Type 0 where
  pub same : told ≡ was
  pub well : faults ≡ faulty
  pub kept : IsKept now
  pub on : WhereTold was (λ t. (logs : List LogFile) → AreLogs t.reads (file + 1) (2 ^ 32) logs → FilesUpTo t.reads logs from first now none steps)

-- a number above a name
above : (after : Option FileName) (n : ℕ) → floor after ≤ n → n < 2 ^ 32 → IsAbove after (Log n)
above None n low high = tt
above (Some (Log a)) n low high = grind (arith, nat_tests)
above (Some (Check a)) n low high = absurd (omega (arith, low, high))

-- the log file that comes next
record NextFile (files : Files) (file : ℕ) (rest : List LogFile) : Type 0 where
  log : LogFile
  more : List LogFile
  is : rest ≡ log ∷ more
  number : log.number ≡ file
  bytes : List ℕ
  reads : files (Log file) ≡ Some bytes
  holds : Holds file bytes log.content
  are : AreLogs files (file + 1) (2 ^ 32) more

some_bytes : {A : Type 0} (o : Option A) → IsSome o → o ≡ None → ⊥
some_bytes o is none = let e : false ≡ true = rw none at is in cc

next_file : (files : Files) (after : Option FileName) (file : ℕ) (rest : List LogFile) → AreLogs files (floor after) (2 ^ 32) rest → IsNext files after (Some (Log file)) → file < 2 ^ 32 → NextFile files file rest
next_file files after file [] are next high = absurd (some_bytes (files (Log file)) next.0 (are file (above_floor after file next.1) high))
next_file files after file (log ∷ more) are next high = ⊎_elim low_case high_case (cases_lt log.number (file + 1))
  where
    gone : (o : Option (List ℕ)) → IsSomeAnd o (λ bytes. Holds log.number bytes log.content) → o ≡ None → ⊥
    gone None is none = is
    gone (Some bytes) is none = let e : Some bytes ≡ None = none in cc

    there : (o : Option (List ℕ)) → files (Log log.number) ≡ o → IsSomeAnd o (λ bytes. Holds log.number bytes log.content) → log.number ≡ file → NextFile files file (log ∷ more)
    there None reads is same = absurd is
    there (Some bytes) reads is same = record {
      log = log;
      more = more;
      is = refl;
      number = same;
      bytes = bytes;
      reads = ap (λ (n : ℕ). files (Log n)) (sym same) ∙ reads;
      holds = subst (λ (n : ℕ). Holds n bytes log.content) same is;
      are = subst (λ (n : ℕ). AreLogs files (n + 1) (2 ^ 32) more) same are.4;
    }

    at_most : log.number < file ⊎ file ≤ log.number → log.number < file + 1 → NextFile files file (log ∷ more)
    at_most (inl less) few = absurd (gone (files (Log log.number)) are.3 (next.2 (Log log.number) (above after log.number are.0 are.1) (grind (arith, nat_tests))))
    at_most (inr same) few = there (files (Log log.number)) refl are.3 (omega (arith, same, few))

    low_case : log.number < file + 1 → NextFile files file (log ∷ more)
    low_case few = at_most (cases_lt log.number file) few

    high_case : file + 1 ≤ log.number → NextFile files file (log ∷ more)
    high_case less = absurd (some_bytes (files (Log file)) next.0 (are.2 file (above_floor after file next.1) (omega (arith, less))))

no_rest : (files : Files) (after : Option FileName) (rest : List LogFile) → AreLogs files (floor after) (2 ^ 32) rest → NoLogs after files → rest ≡ []
no_rest files after [] are none = refl
no_rest files after (log ∷ rest) are none = absurd (gone (files (Log log.number)) are.3 (none log.number are.0 are.1))
  where
    gone : (o : Option (List ℕ)) → IsSomeAnd o (λ bytes. Holds log.number bytes log.content) → o ≡ None → ⊥
    gone None is none = is
    gone (Some bytes) is none = let e : Some bytes ≡ None = none in cc

-- before any later file was applied, nothing was done
pub folders_none : (was : Option Told) (faulty file : ℕ) (first : Indexing) (none : ℕ) → IsKept first → FoldersOn was was faulty faulty file (file + 1) first first none none
folders_none was faulty file first none kept = record {
  same = refl;
  well = refl;
  kept = kept;
  on = λ t is logs are. record { done = []; rest = logs; split = refl; are = are; goes = λ places s past stand keeps. (tt, keeps); ticks = omega arith };
}

-- the next file among these, with its lines
record Here (t : Told) (told : Option Told) (logs : List LogFile) (from next : ℕ) (first now : Indexing) (none steps : ℕ) : Type 0 where
  done : List LogFile
  log : LogFile
  more : List LogFile
  whole : logs ≡ done ++ log ∷ more
  split : lines logs ≡ (lines done ++ file_lines next log.content) ++ lines more
  upto : lines (done ++ log ∷ []) ≡ lines done ++ file_lines next log.content
  are : AreLogs t.reads (next + 1) (2 ^ 32) more
  goes : GoesThrough (lines done) first now
  ticks : steps ≤ none + record_count (lines done)
  bytes : List ℕ
  has : HasFile told next bytes
  front : HasFrom next bytes 16 (file_lines next log.content)

here : (was told : Option Told) (faulty faults file : ℕ) (after : Option FileName) (next : ℕ) (first now : Indexing) (none steps : ℕ) (t : Told) (logs : List LogFile)
    → FoldersOn was told faulty faults file (floor after) first now none steps → WhereTold told (λ t. IsNext t.reads after (Some (Log next))) → next < 2 ^ 32 → was ≡ Some t → AreLogs t.reads (file + 1) (2 ^ 32) logs
    → Here t told logs (floor after) next first now none steps
here was told faulty faults file after next first now none steps t logs on comes high is are =
    let u = on.on t is logs are in
    let told_is : told ≡ Some t = on.same ∙ is in
    let n = next_file t.reads after next u.rest u.are (comes t told_is) high in
    let its : file_lines next n.log.content ≡ file_lines n.log.number n.log.content = ap (λ (k : ℕ). file_lines k n.log.content) (sym n.number) in
    let whole : logs ≡ u.done ++ n.log ∷ n.more = u.split ∙ ap (λ (l : List LogFile). u.done ++ l) n.is in
    record {
      done = u.done;
      log = n.log;
      more = n.more;
      whole = whole;
      split = ap lines whole ∙ lines-append u.done (n.log ∷ n.more)
          ∙ ap (λ (l : List Line). lines u.done ++ (l ++ lines n.more)) (sym its) ∙ sym (append_assoc (lines u.done) (file_lines next n.log.content) (lines n.more));
      upto = lines-append u.done (n.log ∷ []) ∙ ap (λ (l : List Line). lines u.done ++ l) (append-nil (file_lines n.log.number n.log.content) ∙ sym its);
      are = n.are;
      goes = u.goes;
      ticks = u.ticks;
      bytes = n.bytes;
      has = record { tells = t; is = told_is; reads = n.reads };
      front = Whole refl n.log.content n.holds refl;
    }

-- a file more was applied
pub folders_more : (was told after_told : Option Told) (faulty faults more_faults file : ℕ) (after : Option FileName) (next : ℕ) (first now new : Indexing) (none steps more_steps : ℕ)
    → FoldersOn was told faulty faults file (floor after) first now none steps → WhereTold told (λ t. IsNext t.reads after (Some (Log next))) → next < 2 ^ 32
    → WhereFrom told next 16 (λ own. GoesThrough own now new) → WhereFrom told next 16 (λ own. more_steps ≤ steps + record_count own) → after_told ≡ told → more_faults ≡ faults → IsKept new
    → FoldersOn was after_told faulty more_faults file (next + 1) first new none more_steps
folders_more was told after_told faulty faults more_faults file after next first now new none steps more_steps on comes high applies ticks same well kept = record {
  same = same ∙ on.same;
  well = well ∙ on.well;
  kept = kept;
  on = λ t is logs are.
      let h = here was told faulty faults file after next first now none steps t logs on comes high is are in
      let own : List Line = file_lines next h.log.content in
      record {
        done = h.done ++ h.log ∷ [];
        rest = h.more;
        split = h.whole ∙ sym (append_assoc h.done (h.log ∷ []) h.more);
        are = h.are;
        goes = subst (λ (l : List Line). GoesThrough l first new) (sym h.upto) (applies_append (lines h.done) own first now new h.goes (applies h.bytes own h.has h.front));
        ticks = omega (arith, h.ticks, ticks h.bytes own h.has h.front, ap record_count h.upto, record_count-append (lines h.done) own);
      };
}

-- all files were applied
pub folders_all : (was told : Option Told) (faulty faults file : ℕ) (after : Option FileName) (first now : Indexing) (none steps : ℕ)
    → FoldersOn was told faulty faults file (floor after) first now none steps → WhereTold told (λ t. NoLogs after t.reads) → WhereBehind was file (λ logs. GoesThrough (lines logs) first now)
folders_all was told faulty faults file after first now none steps on ends t is logs are =
    let u = on.on t is logs are in
    let all : u.done ≡ logs = sym (append-nil u.done) ∙ ap (λ (l : List LogFile). u.done ++ l) (sym (no_rest t.reads after u.rest u.are (ends t (on.same ∙ is)))) ∙ sym u.split in
    subst (λ (l : List LogFile). GoesThrough (lines l) first now) all u.goes

-- the steps counted are at most as many as the records of the log files from that one on
pub folders_ticks : (was told : Option Told) (faulty faults file from : ℕ) (first now : Indexing) (none steps more : ℕ) → FoldersOn was told faulty faults file from first now none steps → more ≡ steps
    → WhereBehind was file (λ logs. more ≤ none + record_count (lines logs))
folders_ticks was told faulty faults file from first now none steps more on same t is logs are =
    let u = on.on t is logs are in
    omega (arith, same, u.ticks, ap (λ (l : List LogFile). record_count (lines l)) u.split, ap record_count (lines-append u.done u.rest), record_count-append (lines u.done) (lines u.rest))

-- the file at fault
pub folders_bad : (was told : Option Told) (faulty faults file : ℕ) (after : Option FileName) (next : ℕ) (first now : Indexing) (none steps : ℕ) (e : ReplayRefused)
    → FoldersOn was told faulty faults file (floor after) first now none steps → WhereTold told (λ t. IsNext t.reads after (Some (Log next))) → next < 2 ^ 32
    → WhereBadLog e (λ f a. WhereFrom told next 16 (λ own. StopsIn own now f a))
    → WhereBadLog e (λ f a. WhereBehind was file (λ logs. StopsIn (lines logs) first f a))
folders_bad was told faulty faults file after next first now none steps e on comes high bad =
    log_maps e (λ f a. WhereFrom told next 16 (λ own. StopsIn own now f a)) (λ f a. WhereBehind was file (λ logs. StopsIn (lines logs) first f a))
    (λ f a stops. λ t is logs are.
    let h = here was told faulty faults file after next first now none steps t logs on comes high is are in
    let own : List Line = file_lines next h.log.content in
    subst (λ (l : List Line). StopsIn l first f a) (sym h.split)
    (stops_front (lines h.done ++ own) (lines h.more) first f a (stops_behind (lines h.done) own first now f a h.goes (stops h.bytes own h.has h.front))))
    bad

-- with those of the file at fault, they are at most as many as the records behind
pub folders_few : (was told : Option Told) (faulty faults file : ℕ) (after : Option FileName) (next : ℕ) (first now : Indexing) (none steps more_steps : ℕ)
    → FoldersOn was told faulty faults file (floor after) first now none steps → WhereTold told (λ t. IsNext t.reads after (Some (Log next))) → next < 2 ^ 32
    → WhereFrom told next 16 (λ own. more_steps ≤ steps + record_count own)
    → WhereBehind was file (λ logs. more_steps ≤ none + record_count (lines logs))
folders_few was told faulty faults file after next first now none steps more_steps on comes high ticks t is logs are =
    let h = here was told faulty faults file after next first now none steps t logs on comes high is are in
    let own : List Line = file_lines next h.log.content in
    omega (arith, h.ticks, ticks h.bytes own h.has h.front, ap record_count h.split, record_count-append (lines h.done ++ own) (lines h.more), record_count-append (lines h.done) own)
