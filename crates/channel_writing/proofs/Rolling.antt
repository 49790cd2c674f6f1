-- A log that goes on in a next file: what a crash leaves meanwhile, and the log after it.
use Rattle.std.proofs.Common.{zero, suc, ◌⊎◌, inl, inr, ◌≡◌, ◌<◌, ◌≤◌, ◌+◌, ◌-◌, ◌++◌, ◌∷◌, [], ℕ, List, length, length-append, Option, Some, None, Bool, true, false, refl, sym, ◌∙◌, ap, subst, arith}
use Rattle.std.proofs.lemmas.List.{append-nil}
use Rattle.std.specs.Prelude.{IsSome, IsSomeAnd, if◌then◌else◌}
use Rattle.flume_host.specs.Folder.{Allows, Entry, Files, Gone, IsImage, same_name, with_at}
use Rattle.flume_host.specs.Told.{Changes, LeavesOnly, OneFile, Tells, Told}
use Rattle.flume_host.specs.declared.names.FileName.{FileName}
use Rattle.flume_host.specs.declared.names.FileName.TheVariants.{Log}
use Rattle.flume_host.proofs.Images.{same_name_is, same_name_self}
use Rattle.flume_host.proofs.Telling.{back, follows, tells_more}
use Rattle.record_form.specs.declared.record.Rec.{Rec}
use Rattle.channel_log.specs.Frames.{header, opened}
use Rattle.channel_log.specs.Writer.{HasFrames, IsAtRest, IsBlank, IsPending, IsReady, IsUnused, MustRoll, Writer, file_of}
use Rattle.channel_face.specs.Machine.{State, base_of}
use Rattle.channel_replay.specs.Marks.{Past}
use Rattle.channel_replay.specs.Recover.{past_lines}
use Rattle.channel_replay.specs.Start.{start_past}
use Rattle.checkpoint_opening.proofs.Growing.{other_log}
use Rattle.channel_writing.specs.Folders.{IsAsBefore}
use Rattle.channel_writing.specs.Logs.{AreMarks, GoesOn, Logs}
use Rattle.channel_writing.specs.Touches.{ChangesAlone, FillsFiles, WritesLast}
use Rattle.channel_writing.specs.Written.{IsLogged, OnDisk, RecoversSettled, Waits}
use Rattle.channel_writing.proofs.Flushing.{as_read, none_waits, own_file}
use Rattle.channel_writing.proofs.Opening.{as_before_opens, only_more}
use Rattle.channel_writing.proofs.Recovering.{grown_goes, length-header, settled_recovers}

-- no file of the next number is there, and no crash leaves one
pub roll_unused : (told : Option Told) (w : Writer) (s : State) → Waits told w s → IsUnused told (w.file + 1)
roll_unused told w s waits = λ t is.
    let disk = waits.disk t is in
    (disk.none (w.file + 1) (omega arith), disk.gone (w.file + 1) (omega arith))

-- the folder before the next file was begun
before_next : Files → ℕ → Files
before_next folder number = with_at folder (Log number) None

next_none : (folder : Files) (number : ℕ) → before_next folder number (Log number) ≡ None
unfolding before_next
next_none folder number = ap (λ (b : Bool). if b then None else folder (Log number)) (same_name_self (Log number))

next_others : (folder : Files) (number : ℕ) (name : FileName) → same_name name (Log number) ≡ false → before_next folder number name ≡ folder name
unfolding before_next
next_others folder number name differs = ap (λ (b : Bool). if b then None else folder name) differs

module _ (t : Told) (w : Writer) (s : State) (records : List Rec) (disk : OnDisk t w s records) (folder : Files) (others : (name : FileName) → same_name name (Log (w.file + 1)) ≡ false → Allows (t.now name) (folder name)) where
  abbrev earlier : Files
  earlier = before_next folder (w.file + 1)

  -- it was as a crash may have left it
  earlier_left : IsImage t.now earlier
  earlier_left name = from (same_name name (Log (w.file + 1))) refl
    where
      none_allowed : Allows (t.now (Log (w.file + 1))) (earlier (Log (w.file + 1)))
      none_allowed =
          subst (λ (e : Entry). Allows e (earlier (Log (w.file + 1)))) (sym (disk.gone (w.file + 1) (omega arith)))
          (subst (λ (o : Option (List ℕ)). Allows Gone o) (sym (next_none folder (w.file + 1))) tt)

      from : (b : Bool) → same_name name (Log (w.file + 1)) ≡ b → Allows (t.now name) (earlier name)
      from false differs = subst (λ (o : Option (List ℕ)). Allows (t.now name) o) (sym (next_others folder (w.file + 1) name differs)) (others name differs)
      from true same = subst (λ (n : FileName). Allows (t.now n) (earlier n)) (sym (same_name_is name (Log (w.file + 1)) same)) none_allowed

  -- nor had it a later file
  earlier_none : (n : ℕ) → w.file + 1 ≤ n → earlier (Log n) ≡ None
  earlier_none n more =
      as_read None (earlier (Log n)) (subst (λ (e : Entry). Allows e (earlier (Log n))) (disk.gone n (omega (arith, more))) (earlier_left (Log n)))

  abbrev log : Logs earlier disk.birth w.file s disk.frames records
  log = disk.logs earlier (λ name differs. earlier_left name)

  -- its log went on by no frame more
  earlier_goes : GoesOn earlier log.start log.past disk.birth disk.frames []
  earlier_goes = log.goes [] (subst (λ (l : List (List Rec)). IsSomeAnd (earlier (Log w.file)) (HasFrames disk.birth w.file l)) (sym (append-nil disk.frames)) (own_file t w s records earlier disk earlier_left))

-- where the file has a frame, its marks are those of its lines
framed_marks : (birth number gate : ℕ) (found past : Past) (frames : List (List Rec)) → gate ≡ length (header birth number ++ opened frames) → 16 < gate → AreMarks birth found past frames [] → found ≡ past
framed_marks birth number gate found past frames offset framed (inl is) = is
framed_marks birth number gate found past frames offset framed (inr is) =
    absurd (omega (arith, framed, offset, ap (λ (l : List (List Rec)). length (header birth number ++ opened l)) is.0, length-append (header birth number) (opened []), length-header birth number))

-- the log goes on in the next file
rolled_disk : (t u : Told) (w : Writer) (s : State) (records : List Rec) → OnDisk t w s records → 16 < w.gate → w.file < 4_294_967_295 → Changes (Log (w.file + 1)) IsBlank 1 t u → IsAtRest u 2 (w.file + 1) 16 []
    → OnDisk u (record w { file = w.file + 1; gate = 16; started = false }) s records
rolled_disk t u w s records disk framed low changes rest = record {
  birth = 2;
  is_birth = inr refl;
  frames = [];
  rest = rest;
  small = omega (arith, low);
  none = λ n high. (changes.others (Log n) (other_log n (w.file + 1) (λ same. absurd (omega (arith, high, same))))).1 ∙ disk.none n (omega (arith, high));
  gone = λ n high. (changes.others (Log n) (other_log n (w.file + 1) (λ same. absurd (omega (arith, high, same))))).0 ∙ disk.gone n (omega (arith, high));
  logs = λ folder others. goes_on folder (λ name differs. subst (λ (e : Entry). Allows e (folder name)) (changes.others name differs).0 (others name differs));
}
  where
    goes_on : (folder : Files) → ((name : FileName) → same_name name (Log (w.file + 1)) ≡ false → Allows (t.now name) (folder name)) → Logs folder 2 (w.file + 1) s [] records
    goes_on folder others =
        let before = earlier_goes t w s records disk folder others in
        let own = disk.logs (before_next folder (w.file + 1)) (λ name differs. earlier_left t w s records disk folder others name) in
        let same : past_lines (start_past own.start) before.found ≡ own.past = framed_marks disk.birth w.file w.gate (past_lines (start_past own.start) before.found) own.past disk.frames disk.rest.offset framed before.marks in
        record {
          start = own.start;
          past = own.past;
          goes = λ more has.
              subst (λ (p : Past). GoesOn folder own.start p 2 [] more) same
              (grown_goes (before_next folder (w.file + 1)) folder own.start before.found 2 (w.file + 1) more (inr refl) (omega (arith, low)) (earlier_none t w s records disk folder others)
              (λ name differs. sym (next_others folder (w.file + 1) name differs)) before.begins (before.sound tt) has);
          fresh = λ first none. absurd (omega (arith, first));
          low = own.low;
          fits = own.fits;
          mirrors = own.mirrors;
        }

-- the log has the same state once the next file is begun
pub rolled_logged : (told told' : Option Told) (w w' : Writer) (b : ℕ) (s : State) → IsLogged told w b s → 16 < w.gate → w.file < 4_294_967_295 → Tells told told' (Changes (Log (w.file + 1)) IsBlank 1)
    → IsReady told' 2 (w.file + 1) 16 [] → w' ≡ record w { file = w.file + 1; gate = 16; started = false } → IsLogged told' w' b s
rolled_logged told told' w w' b s log framed low changes ready is = rw is (record {
  busy_is = log.busy_is;
  few = log.few;
  room = log.room;
  limit = log.limit;
  waits = λ whole. record {
    records = (log.waits whole).records;
    pending = record { spelled = (log.waits whole).pending.spelled; counted = (log.waits whole).pending.counted; each = (log.waits whole).pending.each };
    disk = λ u told_is.
        let was = back told told' (Changes (Log (w.file + 1)) IsBlank 1) changes u told_is in
        rolled_disk was.0 u w s (log.waits whole).records ((log.waits whole).disk was.0 was.1) framed low was.2 (ready u told_is);
  };
})

-- a crash meanwhile leaves the next file, where it is there, so that it counts as empty: what is settled is left
rolls_image : (t : Told) (w : Writer) (s : State) (records : List Rec) (image : Files) → OnDisk t w s records → w.file < 4_294_967_295 → OneFile t.now (Log (w.file + 1)) IsBlank image → RecoversSettled s image
rolls_image t w s records image disk low one =
    let earlier : Files = before_next image (w.file + 1) in
    let left = earlier_left t w s records disk image one.others in
    let own = own_file t w s records earlier disk left in
    let found = settled_recovers s earlier disk.birth w.file disk.frames records (disk.logs earlier (λ name differs. left name)) own in
    let before : IsAsBefore earlier image = inr (record {
      number = w.file + 1;
      next = record {
        some = omega arith;
        small = omega (arith, low);
        none = earlier_none t w s records disk image one.others;
        last = λ later. let same : w.file + 1 - 1 ≡ w.file = omega arith in subst (λ (n : ℕ). IsSome (earlier (Log n))) (sym same) (is_there (earlier (Log w.file)) (HasFrames disk.birth w.file disk.frames) own);
      };
      last = one.file;
      others = λ name differs. sym (next_others image (w.file + 1) name differs);
    }) in
    (found.0, found.1, as_before_opens earlier image (base_of s) found.0 before found.2)
  where
    is_there : (o : Option (List ℕ)) (P : List ℕ → Type 0) → IsSomeAnd o P → IsSome o
    is_there None P is = absurd is
    is_there (Some bytes) P is = refl

-- a crash while the next file is begun leaves what is settled
pub roll_moments : (told told' : Option Told) (w : Writer) (s : State) → Waits told w s → w.file < 4_294_967_295 → Tells told told' (Changes (Log (w.file + 1)) IsBlank 1) → Tells told told' (λ t u. LeavesOnly t u (RecoversSettled s))
roll_moments told told' w s waits low changes =
    tells_more told told' (Changes (Log (w.file + 1)) IsBlank 1) (λ t u. LeavesOnly t u (RecoversSettled s))
    (λ t u old new changes. only_more t u (OneFile t.now (Log (w.file + 1)) IsBlank) (RecoversSettled s) (λ image one. rolls_image t w s waits.records image (waits.disk t old) low one) changes.images)
    changes

-- what a flush writes

last_there : (t : Told) (w : Writer) (s : State) (records : List Rec) → OnDisk t w s records → (u : Told) → ChangesAlone w.file 2 t u ⊎ ChangesAlone (w.file + 1) 3 t u → WritesLast t u
last_there t w s records disk u writes = record { file = w.file; was = file_of disk.birth w.file disk.frames; there = disk.rest.reads; last = disk.none; writes = writes }

-- in the last file
pub writes_here : (told told' : Option Told) (w : Writer) (s : State) → Waits told w s → Tells told told' (ChangesAlone w.file 2) → Tells told told' WritesLast
writes_here told told' w s waits changes = tells_more told told' (ChangesAlone w.file 2) WritesLast (λ t u old new alone. last_there t w s waits.records (waits.disk t old) u (inl alone)) changes

-- where the next one could not be begun
pub writes_begun : (told told' : Option Told) (w : Writer) (s : State) → Waits told w s → Tells told told' (Changes (Log (w.file + 1)) IsBlank 1) → Tells told told' WritesLast
writes_begun told told' w s waits changes =
    tells_more told told' (Changes (Log (w.file + 1)) IsBlank 1) WritesLast
    (λ t u old new begins. last_there t w s waits.records (waits.disk t old) u (inr (record { others = λ name other. (begins.others name other).1; left = λ name other. (begins.others name other).0; syncs = omega (arith, begins.syncs) })))
    changes

-- in the next one, once it was begun
pub writes_next : (told mid told' : Option Told) (w : Writer) (s : State) → Waits told w s → Tells told mid (Changes (Log (w.file + 1)) IsBlank 1) → Tells mid told' (ChangesAlone (w.file + 1) 2) → Tells told told' WritesLast
writes_next told mid told' w s waits begins changes =
    follows told mid told' (Changes (Log (w.file + 1)) IsBlank 1) (ChangesAlone (w.file + 1) 2) WritesLast
    (λ t m u old between new first second. last_there t w s waits.records (waits.disk t old) u (inr (record {
      others = λ name other. second.others name other ∙ (first.others name other).1;
      left = λ name other. second.left name other ∙ (first.others name other).0;
      syncs = omega (arith, first.syncs, second.syncs);
    })))
    begins changes

-- where a flush writes

-- the file's bytes and its closed commit byte
file_long : (birth number gate : ℕ) (frames : List (List Rec)) → gate ≡ length (header birth number ++ opened frames) → length (file_of birth number frames) ≡ gate + 1
file_long birth number gate frames offset = omega (arith, offset, length-append (header birth number ++ opened frames) (0 ∷ []))

-- where records wait, bytes do
bytes_wait : (told : Option Told) (w : Writer) (s : State) → Waits told w s → 1 ≤ w.count → 1 ≤ length w.bytes
bytes_wait told w s waits some = by (length w.bytes) refl
  where
    by : (n : ℕ) → length w.bytes ≡ n → 1 ≤ length w.bytes
    by zero none = absurd (omega (arith, some, none_waits told w s waits none))
    by (suc n) is = omega (arith, is)

-- and where bytes do, records do
records_wait : (w : Writer) (records : List Rec) → IsPending w records → 1 ≤ length w.bytes → 1 ≤ w.count
records_wait w [] pending some = absurd (omega (arith, some, ap (λ (l : List ℕ). length l) pending.spelled))
records_wait w (rec ∷ records) pending some = omega (arith, pending.counted)

-- the last file where it is not full
fills_last : (told : Option Told) (t u : Told) (w : Writer) (busy : ℕ) (s : State) → IsLogged told w busy s → s.broken ≡ false → told ≡ Some t → (MustRoll w → ⊥) → (16 < w.gate → w.started ≡ true) → ChangesAlone w.file 2 t u → FillsFiles s.rules.limits.max_file (length w.bytes) t u
fills_last told t u w busy s log still is fits started changes =
    let waits : Waits told w s = log.waits still in
    let disk : OnDisk t w s waits.records = waits.disk t is in
    let long = file_long disk.birth w.file w.gate disk.frames disk.rest.offset in
    record {
      file = w.file;
      was = file_of disk.birth w.file disk.frames;
      there = disk.rest.reads;
      last = disk.none;
      here = λ not. changes;
      next = λ full. absurd (fits (records_wait w waits.records waits.pending full.0, started (omega (arith, long, full.1)), omega (arith, long, full.2, log.limit), full.3));
    }

-- the next one where it is
fills_next : (told : Option Told) (t u : Told) (w : Writer) (busy : ℕ) (s : State) → IsLogged told w busy s → s.broken ≡ false → told ≡ Some t → MustRoll w → 16 < w.gate → ChangesAlone (w.file + 1) 3 t u → FillsFiles s.rules.limits.max_file (length w.bytes) t u
fills_next told t u w busy s log still is must framed changes =
    let waits : Waits told w s = log.waits still in
    let disk : OnDisk t w s waits.records = waits.disk t is in
    let long = file_long disk.birth w.file w.gate disk.frames disk.rest.offset in
    record {
      file = w.file;
      was = file_of disk.birth w.file disk.frames;
      there = disk.rest.reads;
      last = disk.none;
      here = λ not. absurd (not (bytes_wait told w s waits must.0, omega (arith, long, framed), omega (arith, long, must.2, log.limit), must.3));
      next = λ full. changes;
    }

-- in the last file
pub fills_here : (told told' : Option Told) (w : Writer) (busy : ℕ) (s : State) → IsLogged told w busy s → s.broken ≡ false → (MustRoll w → ⊥) → (16 < w.gate → w.started ≡ true) → Tells told told' (ChangesAlone w.file 2) → Tells told told' (FillsFiles s.rules.limits.max_file (length w.bytes))
fills_here told told' w busy s log still fits started changes =
    tells_more told told' (ChangesAlone w.file 2) (FillsFiles s.rules.limits.max_file (length w.bytes)) (λ t u old new alone. fills_last told t u w busy s log still old fits started alone) changes

-- where the next one could not be begun
pub fills_begun : (told told' : Option Told) (w : Writer) (busy : ℕ) (s : State) → IsLogged told w busy s → s.broken ≡ false → MustRoll w → 16 < w.gate → Tells told told' (Changes (Log (w.file + 1)) IsBlank 1) → Tells told told' (FillsFiles s.rules.limits.max_file (length w.bytes))
fills_begun told told' w busy s log still must framed changes =
    tells_more told told' (Changes (Log (w.file + 1)) IsBlank 1) (FillsFiles s.rules.limits.max_file (length w.bytes))
    (λ t u old new begins. fills_next told t u w busy s log still old must framed (record { others = λ name other. (begins.others name other).1; left = λ name other. (begins.others name other).0; syncs = omega (arith, begins.syncs) }))
    changes

-- in the next one, once it was begun
pub fills_then : (told mid told' : Option Told) (w : Writer) (busy : ℕ) (s : State) → IsLogged told w busy s → s.broken ≡ false → MustRoll w → 16 < w.gate → Tells told mid (Changes (Log (w.file + 1)) IsBlank 1) → Tells mid told' (ChangesAlone (w.file + 1) 2)
    → Tells told told' (FillsFiles s.rules.limits.max_file (length w.bytes))
fills_then told mid told' w busy s log still must framed begins changes =
    follows told mid told' (Changes (Log (w.file + 1)) IsBlank 1) (ChangesAlone (w.file + 1) 2) (FillsFiles s.rules.limits.max_file (length w.bytes))
    (λ t m u old between new first second. fills_next told t u w busy s log still old must framed (record {
      others = λ name other. second.others name other ∙ (first.others name other).1;
      left = λ name other. second.left name other ∙ (first.others name other).0;
      syncs = omega (arith, first.syncs, second.syncs);
    }))
    begins changes
