-- The log files of a folder, one after another.
use Rattle.std.proofs.Common.{◌≡◌, ◌⊎◌, inl, inr, ◌<◌, ◌≤◌, ◌+◌, ◌^◌, ℕ, List, [], ◌∷◌, ◌++◌, Option, Some, None, true, false, IsSome, IsSomeAnd, refl, sym, ◌∙◌, ap, subst, arith, append_assoc, ⊎_elim}
use Rattle.std.proofs.lemmas.Bool.{cases_lt}
use Rattle.std.proofs.lemmas.Bool.Decides.{nat_tests}
use Rattle.std.proofs.lemmas.List.{append-nil}
use Rattle.flume_host.specs.Folder.{Files, IsAbove, IsNext}
use Rattle.flume_host.specs.Told.{Told, WhereTold}
use Rattle.flume_host.specs.declared.names.FileName.{FileName}
use Rattle.flume_host.specs.declared.names.FileName.TheVariants.{Log, Check}
use Rattle.channel_log.specs.Frames.{Holds}
use Rattle.channel_log.specs.Reader.{HasFile}
use Rattle.channel_replay.specs.declared.refused.ReplayRefused.{ReplayRefused}
use Rattle.channel_replay.specs.Marks.{Past}
use Rattle.channel_replay.specs.declared.line.Line.{Line}
use Rattle.channel_replay.specs.Recover.{AreLogs, AreSound, HasFault, IsBadLog, LogFile, WhereLogs, empty_base, empty_start, file_lines, lines, past_lines}
use Rattle.channel_replay.specs.Replay.{WhereBadLog, WhereHolds, floor, record_count}
use Rattle.channel_replay.proofs.Lines.{fault_append, fault_front, lines-append, past_lines-append, sound_append}
use Rattle.channel_replay.proofs.Folders.{NoLogs, above_floor}
use Rattle.channel_replay.proofs.Replaying.{log_maps, record_count-append}
use Rattle.ring_replay.specs.declared.indexing.Indexing.{Indexing}
use Rattle.ring_replay.specs.Indexing.{GoesThrough, IsKept, Keeps, LinesStand, Places}
use Rattle.ring_replay.specs.Folder.{StopsIn, puts_of}
use Rattle.ring_replay.proofs.Standing.{puts_stand, stand_back, stand_front}

-- How far a folder was read: the log files below a number were applied, and the others are left.
pub record FilesUpTo (files : Files) (logs : List LogFile) (from : ℕ) (now : Indexing) (none steps : ℕ) : Type 0 where
  pub done : List LogFile
  pub rest : List LogFile
  pub split : logs ≡ done ++ rest
  pub are : AreLogs files from (2 ^ 32) rest
  pub sound : AreSound empty_base [] (lines done)
  pub keeps : (places : Places) → LinesStand places (lines logs) → Keeps places empty_start (past_lines [] (lines done)) now
  pub ticks : steps ≤ none + record_count (lines done)

pub record FoldersOn (was told : Option Told) (faulty faults from : ℕ) (now : Indexing) (none steps : ℕ) : Type 0 where
  pub same : told ≡ was
  pub well : faults ≡ faulty
  pub kept : IsKept now
  pub on : WhereTold was (λ t. WhereLogs t.reads (λ logs. FilesUpTo t.reads logs from now none steps))

-- a number above a name
above : (after : Option FileName) (n : ℕ) → floor after ≤ n → n < 2 ^ 32 → IsAbove after (Log n)
above None n low high = tt
above (Some (Log a)) n low high = grind (arith, nat_tests)
above (Some (Check a)) n low high = absurd (omega (arith, low, high))

-- the log file that comes next
record NextFile (files : Files) (file : ℕ) (rest : List LogFile) : Type 0 where
  log : LogFile
  more : List LogFile
  is : rest ≡ log ∷ more
  number : log.number ≡ file
  bytes : List ℕ
  reads : files (Log file) ≡ Some bytes
  holds : Holds file bytes log.content
  are : AreLogs files (file + 1) (2 ^ 32) more

some_bytes : {A : Type 0} (o : Option A) → IsSome o → o ≡ None → ⊥
some_bytes o is none = let e : false ≡ true = rw none at is in cc

next_file : (files : Files) (after : Option FileName) (file : ℕ) (rest : List LogFile) → AreLogs files (floor after) (2 ^ 32) rest → IsNext files after (Some (Log file)) → file < 2 ^ 32 → NextFile files file rest
next_file files after file [] are next high = absurd (some_bytes (files (Log file)) next.0 (are file (above_floor after file next.1) high))
next_file files after file (log ∷ more) are next high = ⊎_elim low_case high_case (cases_lt log.number (file + 1))
  where
    gone : (o : Option (List ℕ)) → IsSomeAnd o (λ bytes. Holds log.number bytes log.content) → o ≡ None → ⊥
    gone None is none = is
    gone (Some bytes) is none = let e : Some bytes ≡ None = none in cc

    there : (o : Option (List ℕ)) → files (Log log.number) ≡ o → IsSomeAnd o (λ bytes. Holds log.number bytes log.content) → log.number ≡ file → NextFile files file (log ∷ more)
    there None reads is same = absurd is
    there (Some bytes) reads is same = record {
      log = log;
      more = more;
      is = refl;
      number = same;
      bytes = bytes;
      reads = ap (λ (n : ℕ). files (Log n)) (sym same) ∙ reads;
      holds = subst (λ (n : ℕ). Holds n bytes log.content) same is;
      are = subst (λ (n : ℕ). AreLogs files (n + 1) (2 ^ 32) more) same are.4;
    }

    at_most : log.number < file ⊎ file ≤ log.number → log.number < file + 1 → NextFile files file (log ∷ more)
    at_most (inl less) few = absurd (gone (files (Log log.number)) are.3 (next.2 (Log log.number) (above after log.number are.0 are.1) (grind (arith, nat_tests))))
    at_most (inr same) few = there (files (Log log.number)) refl are.3 (omega (arith, same, few))

    low_case : log.number < file + 1 → NextFile files file (log ∷ more)
    low_case few = at_most (cases_lt log.number file) few

    high_case : file + 1 ≤ log.number → NextFile files file (log ∷ more)
    high_case less = absurd (some_bytes (files (Log file)) next.0 (are.2 file (above_floor after file next.1) (omega (arith, less))))

no_rest : (files : Files) (after : Option FileName) (rest : List LogFile) → AreLogs files (floor after) (2 ^ 32) rest → NoLogs after files → rest ≡ []
no_rest files after [] are none = refl
no_rest files after (log ∷ rest) are none = absurd (gone (files (Log log.number)) are.3 (none log.number are.0 are.1))
  where
    gone : (o : Option (List ℕ)) → IsSomeAnd o (λ bytes. Holds log.number bytes log.content) → o ≡ None → ⊥
    gone None is none = is
    gone (Some bytes) is none = let e : Some bytes ≡ None = none in cc

-- a file more was applied
pub folders_more : (was told after_told : Option Told) (faulty faults more_faults : ℕ) (after : Option FileName) (file : ℕ) (now new : Indexing) (none steps more_steps : ℕ)
    → FoldersOn was told faulty faults (floor after) now none steps → WhereTold told (λ t. IsNext t.reads after (Some (Log file))) → file < 2 ^ 32
    → WhereHolds told file (λ content. GoesThrough (file_lines file content) now new) → WhereHolds told file (λ content. more_steps ≤ steps + record_count (file_lines file content)) → after_told ≡ told → more_faults ≡ faults → IsKept new
    → FoldersOn was after_told faulty more_faults (file + 1) new none more_steps
folders_more was told after_told faulty faults more_faults after file now new none steps more_steps on next high applies ticks same well kept = record {
  same = same ∙ on.same;
  well = well ∙ on.well;
  kept = kept;
  on = λ t is logs are.
      let u = on.on t is logs are in
      let told_is : told ≡ Some t = on.same ∙ is in
      let n = next_file t.reads after file u.rest u.are (next t told_is) high in
      let has : HasFile told file n.bytes = record { tells = t; is = told_is; reads = n.reads } in
      let its : file_lines file n.log.content ≡ file_lines n.log.number n.log.content = ap (λ (k : ℕ). file_lines k n.log.content) (sym n.number) in
      let all : lines (u.done ++ n.log ∷ []) ≡ lines u.done ++ file_lines file n.log.content = lines-append u.done (n.log ∷ []) ∙ ap (λ (l : List Line). lines u.done ++ l) (append-nil (file_lines n.log.number n.log.content) ∙ sym its) in
      let goes = applies n.bytes n.log.content has n.holds in
      let whole : lines logs ≡ (lines u.done ++ file_lines file n.log.content) ++ lines n.more =
      ap lines (u.split ∙ ap (λ (l : List LogFile). u.done ++ l) n.is) ∙ lines-append u.done (n.log ∷ n.more)
      ∙ ap (λ (l : List Line). lines u.done ++ (l ++ lines n.more)) (sym its) ∙ sym (append_assoc (lines u.done) (file_lines file n.log.content) (lines n.more)) in
      let one = λ (places : Places) (stand : LinesStand places (lines logs)). goes places empty_start (past_lines [] (lines u.done))
      (stand_back places (lines u.done) (file_lines file n.log.content) (stand_front places (lines u.done ++ file_lines file n.log.content) (lines n.more) (subst (LinesStand places) whole stand))) (u.keeps places stand) in
      record {
        done = u.done ++ n.log ∷ [];
        rest = n.more;
        split = u.split ∙ ap (λ (l : List LogFile). u.done ++ l) n.is ∙ sym (append_assoc u.done (n.log ∷ []) n.more);
        are = n.are;
        sound = subst (AreSound empty_base []) (sym all) (sound_append empty_base [] (lines u.done) (file_lines file n.log.content) u.sound (one (puts_of (lines logs)) (puts_stand (lines logs))).0);
        keeps = λ places stand. subst (λ (p : Past). Keeps places empty_start p new) (sym (ap (past_lines []) all ∙ past_lines-append [] (lines u.done) (file_lines file n.log.content))) (one places stand).1;
        ticks = omega (arith, u.ticks, ticks n.bytes n.log.content has n.holds, ap record_count all, record_count-append (lines u.done) (file_lines file n.log.content));
      };
}

-- all files were applied
pub folders_all : (was told : Option Told) (faulty faults : ℕ) (after : Option FileName) (now : Indexing) (none steps : ℕ)
    → FoldersOn was told faulty faults (floor after) now none steps → WhereTold told (λ t. NoLogs after t.reads)
    → WhereTold was (λ t. WhereLogs t.reads (λ logs. AreSound empty_base [] (lines logs) × ((places : Places) → LinesStand places (lines logs) → Keeps places empty_start (past_lines [] (lines logs)) now)))
folders_all was told faulty faults after now none steps on ends t is logs are =
    let u = on.on t is logs are in
    let all : u.done ≡ logs = sym (append-nil u.done) ∙ ap (λ (l : List LogFile). u.done ++ l) (sym (no_rest t.reads after u.rest u.are (ends t (on.same ∙ is)))) ∙ sym u.split in
    (subst (λ (l : List LogFile). AreSound empty_base [] (lines l)) all u.sound, λ places stand. subst (λ (l : List LogFile). Keeps places empty_start (past_lines [] (lines l)) now) all (u.keeps places stand))

-- the steps so far are no more than the folder's records
pub folders_ticks : (was told : Option Told) (faulty faults from : ℕ) (now : Indexing) (none steps more : ℕ) → FoldersOn was told faulty faults from now none steps → more ≡ steps → WhereTold was (λ t. WhereLogs t.reads (λ logs. more ≤ none + record_count (lines logs)))
folders_ticks was told faulty faults from now none steps more on same t is logs are =
    let u = on.on t is logs are in
    omega (arith, same, u.ticks, ap (λ (l : List LogFile). record_count (lines l)) u.split, ap record_count (lines-append u.done u.rest), record_count-append (lines u.done) (lines u.rest))

-- the file at fault
pub folders_bad : (was told : Option Told) (faulty faults : ℕ) (after : Option FileName) (file : ℕ) (now : Indexing) (none steps : ℕ) (e : ReplayRefused)
    → FoldersOn was told faulty faults (floor after) now none steps → WhereTold told (λ t. IsNext t.reads after (Some (Log file))) → file < 2 ^ 32
    → WhereBadLog e (λ f at. WhereHolds told file (λ content. StopsIn (file_lines file content) now f at))
    → WhereBadLog e (λ f at. WhereTold was (λ t. IsBadLog t.reads f at))
folders_bad was told faulty faults after file now none steps e on next high bad =
    log_maps e (λ f at. WhereHolds told file (λ content. StopsIn (file_lines file content) now f at)) (λ f at. WhereTold was (λ t. IsBadLog t.reads f at))
    (λ f at h. λ t is logs are.
    let u = on.on t is logs are in
    let told_is : told ≡ Some t = on.same ∙ is in
    let n = next_file t.reads after file u.rest u.are (next t told_is) high in
    let has : HasFile told file n.bytes = record { tells = t; is = told_is; reads = n.reads } in
    let places : Places = puts_of (lines logs) in
    let its : file_lines file n.log.content ≡ file_lines n.log.number n.log.content = ap (λ (k : ℕ). file_lines k n.log.content) (sym n.number) in
    let all : lines logs ≡ (lines u.done ++ file_lines file n.log.content) ++ lines n.more =
    ap lines (u.split ∙ ap (λ (l : List LogFile). u.done ++ l) n.is) ∙ lines-append u.done (n.log ∷ n.more)
    ∙ ap (λ (l : List Line). lines u.done ++ (l ++ lines n.more)) (sym its) ∙ sym (append_assoc (lines u.done) (file_lines file n.log.content) (lines n.more)) in
    let stand : LinesStand places (file_lines file n.log.content) = stand_back places (lines u.done) (file_lines file n.log.content) (stand_front places (lines u.done ++ file_lines file n.log.content) (lines n.more) (subst (LinesStand places) all (puts_stand (lines logs)))) in
    let fault = h n.bytes n.log.content has n.holds places empty_start (past_lines [] (lines u.done)) stand (u.keeps places (puts_stand (lines logs))) in
    subst (λ (l : List Line). HasFault empty_base [] l f at) (sym all)
    (fault_front empty_base [] (lines u.done ++ file_lines file n.log.content) (lines n.more) f at (fault_append empty_base [] (lines u.done) (file_lines file n.log.content) f at u.sound fault)))
    bad

-- the steps within the next file are no more than the folder's records
pub folders_few : (was told : Option Told) (faulty faults : ℕ) (after : Option FileName) (file : ℕ) (now : Indexing) (none steps more_steps : ℕ)
    → FoldersOn was told faulty faults (floor after) now none steps → WhereTold told (λ t. IsNext t.reads after (Some (Log file))) → file < 2 ^ 32
    → WhereHolds told file (λ content. more_steps ≤ steps + record_count (file_lines file content))
    → WhereTold was (λ t. WhereLogs t.reads (λ logs. more_steps ≤ none + record_count (lines logs)))
folders_few was told faulty faults after file now none steps more_steps on next high ticks t is logs are =
    let u = on.on t is logs are in
    let told_is : told ≡ Some t = on.same ∙ is in
    let n = next_file t.reads after file u.rest u.are (next t told_is) high in
    let has : HasFile told file n.bytes = record { tells = t; is = told_is; reads = n.reads } in
    let its : file_lines file n.log.content ≡ file_lines n.log.number n.log.content = ap (λ (k : ℕ). file_lines k n.log.content) (sym n.number) in
    let all : lines logs ≡ lines u.done ++ (file_lines file n.log.content ++ lines n.more) =
    ap lines (u.split ∙ ap (λ (l : List LogFile). u.done ++ l) n.is) ∙ lines-append u.done (n.log ∷ n.more)
    ∙ ap (λ (l : List Line). lines u.done ++ (l ++ lines n.more)) (sym its) in
    omega (arith, u.ticks, ticks n.bytes n.log.content has n.holds, ap record_count all, record_count-append (lines u.done) (file_lines file n.log.content ++ lines n.more), record_count-append (file_lines file n.log.content) (lines n.more))

-- before the first file nothing is read
pub folders_none : (was : Option Told) (faulty : ℕ) (now : Indexing) (none : ℕ) → ((places : Places) → Keeps places empty_start [] now) → FoldersOn was was faulty faulty 0 now none none
folders_none was faulty now none keeps = record {
  same = refl;
  well = refl;
  kept = ([], empty_start, [], keeps [], tt);
  on = λ t is logs are. record { done = []; rest = logs; split = refl; are = are; sound = tt; keeps = λ places stand. keeps places; ticks = omega arith };
}
