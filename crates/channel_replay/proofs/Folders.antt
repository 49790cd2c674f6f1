-- The log files of a folder, one after another.
use Rattle.std.proofs.Common.{◌≡◌, ◌⊎◌, inl, inr, ◌<◌, ◌≤◌, ◌+◌, ◌^◌, ℕ, List, [], ◌∷◌, ◌++◌, Option, Some, None, true, false, IsSome, IsSomeAnd, Result, Ok, Err, IfOk, vec_len, refl, sym, ◌∙◌, ap, subst, arith, append_assoc, ⊎_elim}
use Rattle.std.proofs.lemmas.Bool.{cases_lt}
use Rattle.std.proofs.lemmas.Bool.Decides.{nat_tests}
use Rattle.std.proofs.lemmas.List.{append-nil}
use Rattle.flume_host.specs.Folder.{Files, IsAbove, IsNext}
use Rattle.flume_host.specs.Told.{Told, WhereTold}
use Rattle.flume_host.specs.declared.names.FileName.{FileName}
use Rattle.flume_host.specs.declared.names.FileName.TheVariants.{Log, Check}
use Rattle.event_core.specs.Journal.{Base, IsBase, after_journal}
use Rattle.channel_log.specs.Frames.{Holds}
use Rattle.channel_log.specs.Reader.{HasFile}
use Rattle.channel_replay.specs.declared.recovery.Recovery.{Recovery}
use Rattle.channel_replay.specs.declared.recovery.Replayed.{Replayed}
use Rattle.channel_replay.specs.declared.refused.ReplayRefused.{ReplayRefused}
use Rattle.channel_face.proofs.Numbers.{base_rising, rising-left}
use Rattle.channel_replay.specs.Marks.{Past, journal}
use Rattle.channel_replay.specs.Plain.{base_of}
use Rattle.channel_replay.specs.Recover.{AreLogs, AreSound, HasFault, IsBadLog, Line, LogFile, StandsFor, WhereLogs, empty_base, file_lines, lines, past_lines}
use Rattle.channel_replay.specs.Recovery.{Agrees, IsReached}
use Rattle.channel_replay.specs.Replay.{AppliesAll, WhereBadLog, WhereHolds, floor, record_count}
use Rattle.channel_replay.proofs.Lines.{fault_append, fault_front, lines-append, past_lines-append, some_txn, sound_append, txn_from_one}
use Rattle.channel_replay.proofs.Replaying.{log_maps, record_count-append}

-- How far a folder was read: the log files below a number were applied, and the others are left.
pub record FilesUpTo (files : Files) (logs : List LogFile) (from : ℕ) (now : Recovery) (none steps : ℕ) : Type 0 where
  pub done : List LogFile
  pub rest : List LogFile
  pub split : logs ≡ done ++ rest
  pub are : AreLogs files from (2 ^ 32) rest
  pub sound : AreSound empty_base [] (lines done)
  pub agrees : Agrees empty_base (past_lines [] (lines done)) now
  pub ticks : steps ≤ none + record_count (lines done)

pub record FoldersOn (was told : Option Told) (faulty faults from : ℕ) (now : Recovery) (none steps : ℕ) : Type 0 where
  pub same : told ≡ was
  pub well : faults ≡ faulty
  pub reached : IsReached now
  pub on : WhereTold was (λ t. WhereLogs t.reads (λ logs. FilesUpTo t.reads logs from now none steps))

-- a number above a name
above : (after : Option FileName) (n : ℕ) → floor after ≤ n → n < 2 ^ 32 → IsAbove after (Log n)
above None n low high = tt
above (Some (Log a)) n low high = grind (arith, nat_tests)
above (Some (Check a)) n low high = absurd (omega (arith, low, high))

-- a log file that comes after a name has at least the floor of that name as its number
pub above_floor : (after : Option FileName) (n : ℕ) → IsAbove after (Log n) → floor after ≤ n
above_floor None n is = omega arith
above_floor (Some (Log a)) n is = grind (arith, nat_tests)
above_floor (Some (Check a)) n is = absurd (let e : false ≡ true = is in cc)

-- the log file that comes next
record NextFile (files : Files) (file : ℕ) (rest : List LogFile) : Type 0 where
  log : LogFile
  more : List LogFile
  is : rest ≡ log ∷ more
  number : log.number ≡ file
  bytes : List ℕ
  reads : files (Log file) ≡ Some bytes
  holds : Holds file bytes log.content
  are : AreLogs files (file + 1) (2 ^ 32) more

some_bytes : {A : Type 0} (o : Option A) → IsSome o → o ≡ None → ⊥
some_bytes o is none = let e : false ≡ true = rw none at is in cc

next_file : (files : Files) (after : Option FileName) (file : ℕ) (rest : List LogFile) → AreLogs files (floor after) (2 ^ 32) rest → IsNext files after (Some (Log file)) → file < 2 ^ 32 → NextFile files file rest
next_file files after file [] are next high = absurd (some_bytes (files (Log file)) next.0 (are file (above_floor after file next.1) high))
next_file files after file (log ∷ more) are next high = ⊎_elim low_case high_case (cases_lt log.number (file + 1))
  where
    gone : (o : Option (List ℕ)) → IsSomeAnd o (λ bytes. Holds log.number bytes log.content) → o ≡ None → ⊥
    gone None is none = is
    gone (Some bytes) is none = let e : Some bytes ≡ None = none in cc

    there : (o : Option (List ℕ)) → files (Log log.number) ≡ o → IsSomeAnd o (λ bytes. Holds log.number bytes log.content) → log.number ≡ file → NextFile files file (log ∷ more)
    there None reads is same = absurd is
    there (Some bytes) reads is same = record {
      log = log;
      more = more;
      is = refl;
      number = same;
      bytes = bytes;
      reads = ap (λ (n : ℕ). files (Log n)) (sym same) ∙ reads;
      holds = subst (λ (n : ℕ). Holds n bytes log.content) same is;
      are = subst (λ (n : ℕ). AreLogs files (n + 1) (2 ^ 32) more) same are.4;
    }

    at_most : log.number < file ⊎ file ≤ log.number → log.number < file + 1 → NextFile files file (log ∷ more)
    at_most (inl less) few = absurd (gone (files (Log log.number)) are.3 (next.2 (Log log.number) (above after log.number are.0 are.1) (grind (arith, nat_tests))))
    at_most (inr same) few = there (files (Log log.number)) refl are.3 (omega (arith, same, few))

    low_case : log.number < file + 1 → NextFile files file (log ∷ more)
    low_case few = at_most (cases_lt log.number file) few

    high_case : file + 1 ≤ log.number → NextFile files file (log ∷ more)
    high_case less = absurd (some_bytes (files (Log file)) next.0 (are.2 file (above_floor after file next.1) (omega (arith, less))))

-- no log file comes next
abbrev pub NoLogs : Option FileName → Files → Type 0
NoLogs after files = (n : ℕ) → floor after ≤ n → n < 2 ^ 32 → files (Log n) ≡ None

-- where no name comes next, no log file is left
pub no_name : (files : Files) (after : Option FileName) → IsNext files after None → NoLogs after files
no_name files after next n low high = next (Log n) (above after n low high)

-- where a checkpoint comes next, no log file is left
pub no_log : (files : Files) (after : Option FileName) (check : ℕ) → IsNext files after (Some (Check check)) → NoLogs after files
no_log files after check next n low high = next.2 (Log n) (above after n low high) refl

no_rest : (files : Files) (after : Option FileName) (rest : List LogFile) → AreLogs files (floor after) (2 ^ 32) rest → NoLogs after files → rest ≡ []
no_rest files after [] are none = refl
no_rest files after (log ∷ rest) are none = absurd (gone (files (Log log.number)) are.3 (none log.number are.0 are.1))
  where
    gone : (o : Option (List ℕ)) → IsSomeAnd o (λ bytes. Holds log.number bytes log.content) → o ≡ None → ⊥
    gone None is none = is
    gone (Some bytes) is none = let e : Some bytes ≡ None = none in cc

-- a file more was applied
pub folders_more : (was told after_told : Option Told) (faulty faults more_faults : ℕ) (after : Option FileName) (file : ℕ) (now new : Recovery) (none steps more_steps : ℕ)
    → FoldersOn was told faulty faults (floor after) now none steps → WhereTold told (λ t. IsNext t.reads after (Some (Log file))) → file < 2 ^ 32
    → WhereHolds told file (λ content. AppliesAll (file_lines file content) now new) → WhereHolds told file (λ content. more_steps ≤ steps + record_count (file_lines file content)) → after_told ≡ told → more_faults ≡ faults → (IsReached now → IsReached new)
    → FoldersOn was after_told faulty more_faults (file + 1) new none more_steps
folders_more was told after_told faulty faults more_faults after file now new none steps more_steps on next high applies ticks same well reached = record {
  same = same ∙ on.same;
  well = well ∙ on.well;
  reached = reached on.reached;
  on = λ t is logs are.
      let u = on.on t is logs are in
      let told_is : told ≡ Some t = on.same ∙ is in
      let n = next_file t.reads after file u.rest u.are (next t told_is) high in
      let has : HasFile told file n.bytes = record { tells = t; is = told_is; reads = n.reads } in
      let one = applies n.bytes n.log.content has n.holds empty_base (past_lines [] (lines u.done)) u.agrees in
      let its : file_lines file n.log.content ≡ file_lines n.log.number n.log.content = ap (λ (k : ℕ). file_lines k n.log.content) (sym n.number) in
      let all : lines (u.done ++ n.log ∷ []) ≡ lines u.done ++ file_lines file n.log.content = lines-append u.done (n.log ∷ []) ∙ ap (λ (l : List Line). lines u.done ++ l) (append-nil (file_lines n.log.number n.log.content) ∙ sym its) in
      record {
        done = u.done ++ n.log ∷ [];
        rest = n.more;
        split = u.split ∙ ap (λ (l : List LogFile). u.done ++ l) n.is ∙ sym (append_assoc u.done (n.log ∷ []) n.more);
        are = n.are;
        sound = subst (AreSound empty_base []) (sym all) (sound_append empty_base [] (lines u.done) (file_lines file n.log.content) u.sound one.0);
        agrees = subst (λ (p : Past). Agrees empty_base p new) (sym (ap (past_lines []) all ∙ past_lines-append [] (lines u.done) (file_lines file n.log.content))) one.1;
        ticks = omega (arith, u.ticks, ticks n.bytes n.log.content has n.holds, ap record_count all, record_count-append (lines u.done) (file_lines file n.log.content));
      };
}

-- all files were applied
pub folders_all : (was told : Option Told) (faulty faults : ℕ) (after : Option FileName) (now : Recovery) (none steps : ℕ)
    → FoldersOn was told faulty faults (floor after) now none steps → WhereTold told (λ t. NoLogs after t.reads)
    → WhereTold was (λ t. WhereLogs t.reads (λ logs. AreSound empty_base [] (lines logs) × Agrees empty_base (past_lines [] (lines logs)) now))
folders_all was told faulty faults after now none steps on ends t is logs are =
    let u = on.on t is logs are in
    let all : u.done ≡ logs = sym (append-nil u.done) ∙ ap (λ (l : List LogFile). u.done ++ l) (sym (no_rest t.reads after u.rest u.are (ends t (on.same ∙ is)))) ∙ sym u.split in
    (subst (λ (l : List LogFile). AreSound empty_base [] (lines l)) all u.sound, subst (λ (l : List LogFile). Agrees empty_base (past_lines [] (lines l)) now) all u.agrees)

-- replaying a folder takes no more steps than its log files have records
pub folders_ticks : (was told : Option Told) (faulty faults from : ℕ) (now : Recovery) (none steps more : ℕ) → FoldersOn was told faulty faults from now none steps → more ≡ steps → WhereTold was (λ t. WhereLogs t.reads (λ logs. more ≤ none + record_count (lines logs)))
folders_ticks was told faulty faults from now none steps more on same t is logs are =
    let u = on.on t is logs are in
    omega (arith, same, u.ticks, ap (λ (l : List LogFile). record_count (lines l)) u.split, ap record_count (lines-append u.done u.rest), record_count-append (lines u.done) (lines u.rest))

-- the file at fault
pub folders_bad : (was told : Option Told) (faulty faults : ℕ) (after : Option FileName) (file : ℕ) (now : Recovery) (none steps : ℕ) (e : ReplayRefused)
    → FoldersOn was told faulty faults (floor after) now none steps → WhereTold told (λ t. IsNext t.reads after (Some (Log file))) → file < 2 ^ 32
    → WhereBadLog e (λ f at. WhereHolds told file (λ content. (base : Base) (past : Past) → Agrees base past now → HasFault base past (file_lines file content) f at))
    → WhereBadLog e (λ f at. WhereTold was (λ t. IsBadLog t.reads f at))
folders_bad was told faulty faults after file now none steps e on next high bad =
    log_maps e (λ f at. WhereHolds told file (λ content. (base : Base) (past : Past) → Agrees base past now → HasFault base past (file_lines file content) f at)) (λ f at. WhereTold was (λ t. IsBadLog t.reads f at))
    (λ f at h. λ t is logs are.
    let u = on.on t is logs are in
    let told_is : told ≡ Some t = on.same ∙ is in
    let n = next_file t.reads after file u.rest u.are (next t told_is) high in
    let has : HasFile told file n.bytes = record { tells = t; is = told_is; reads = n.reads } in
    let fault = h n.bytes n.log.content has n.holds empty_base (past_lines [] (lines u.done)) u.agrees in
    let its : file_lines file n.log.content ≡ file_lines n.log.number n.log.content = ap (λ (k : ℕ). file_lines k n.log.content) (sym n.number) in
    let all : lines logs ≡ (lines u.done ++ file_lines file n.log.content) ++ lines n.more =
    ap lines (u.split ∙ ap (λ (l : List LogFile). u.done ++ l) n.is) ∙ lines-append u.done (n.log ∷ n.more)
    ∙ ap (λ (l : List Line). lines u.done ++ (l ++ lines n.more)) (sym its) ∙ sym (append_assoc (lines u.done) (file_lines file n.log.content) (lines n.more)) in
    subst (λ (l : List Line). HasFault empty_base [] l f at) (sym all)
    (fault_front empty_base [] (lines u.done ++ file_lines file n.log.content) (lines n.more) f at (fault_append empty_base [] (lines u.done) (file_lines file n.log.content) f at u.sound fault)))
    bad

-- no more steps than records, also while the next file is being read
pub folders_few : (was told : Option Told) (faulty faults : ℕ) (after : Option FileName) (file : ℕ) (now : Recovery) (none steps more_steps : ℕ)
    → FoldersOn was told faulty faults (floor after) now none steps → WhereTold told (λ t. IsNext t.reads after (Some (Log file))) → file < 2 ^ 32
    → WhereHolds told file (λ content. more_steps ≤ steps + record_count (file_lines file content))
    → WhereTold was (λ t. WhereLogs t.reads (λ logs. more_steps ≤ none + record_count (lines logs)))
folders_few was told faulty faults after file now none steps more_steps on next high ticks t is logs are =
    let u = on.on t is logs are in
    let told_is : told ≡ Some t = on.same ∙ is in
    let n = next_file t.reads after file u.rest u.are (next t told_is) high in
    let has : HasFile told file n.bytes = record { tells = t; is = told_is; reads = n.reads } in
    let its : file_lines file n.log.content ≡ file_lines n.log.number n.log.content = ap (λ (k : ℕ). file_lines k n.log.content) (sym n.number) in
    let all : lines logs ≡ lines u.done ++ (file_lines file n.log.content ++ lines n.more) =
    ap lines (u.split ∙ ap (λ (l : List LogFile). u.done ++ l) n.is) ∙ lines-append u.done (n.log ∷ n.more)
    ∙ ap (λ (l : List Line). lines u.done ++ (l ++ lines n.more)) (sym its) in
    omega (arith, u.ticks, ticks n.bytes n.log.content has n.holds, ap record_count all, record_count-append (lines u.done) (file_lines file n.log.content ++ lines n.more), record_count-append (file_lines file n.log.content) (lines n.more))

-- what was replayed

same_base : (a b : Base) → a.items ≡ b.items → a.first ≡ b.first → a ≡ b
same_base a b items first = rw (items, first) refl

-- what was made of log files without fault is what they stand for
pub recovered : (logs : List LogFile) (now : Recovery) (r : Replayed) → AreSound empty_base [] (lines logs) × Agrees empty_base (past_lines [] (lines logs)) now → r.items.items ≡ now.items.items → r.next.number ≡ now.number → r.next.txn ≡ now.txn → StandsFor logs (base_of r) r.next.txn
recovered logs now r is items number txn = record {
  sound = is.0;
  left_is = same_base (base_of r) (after_journal empty_base (journal (past_lines [] (lines logs)))) (items ∙ is.1.items) (number ∙ is.1.number);
  txn_is = txn ∙ (is.1.txn ∙ sym (txn_from_one (past_lines [] (lines logs))));
}

-- and whether the disk shows its contents or not
pub replayed_base : (now : Recovery) (r : Replayed) → IsReached now → r.items.items ≡ now.items.items → r.next.number ≡ now.number → IsBase (base_of r)
replayed_base now r reached items number =
    let all : base_of r ≡ after_journal empty_base (journal reached.0) = same_base (base_of r) (after_journal empty_base (journal reached.0)) (items ∙ reached.1.items) (number ∙ reached.1.number) in
    subst IsBase (sym all) (base_rising (after_journal empty_base (journal reached.0)) (rising-left empty_base (journal reached.0) (omega arith)))

-- the next transaction number of a replay is at least 1
pub replayed_txn : (now : Recovery) (r : Replayed) → IsReached now → r.next.txn ≡ now.txn → 1 ≤ r.next.txn
replayed_txn now r reached txn = omega (arith, txn, reached.1.txn, some_txn reached.0)

-- of what is within the capacity
pub within_maps : (r : Result Replayed ReplayRefused) (made : Replayed) (capacity : ℕ) (P : Replayed → Type 0) → P made → IfOk r (λ x. (x ≡ made) × (vec_len x.items ≤ capacity)) → IfOk r P
within_maps (Ok x) made capacity P is ok = subst P (sym ok.0) is
within_maps (Err e) made capacity P is ok = tt
