-- What a flush leaves, at each moment of it and after it.
use Rattle.std.proofs.Common.{◌⊎◌, inl, inr, ◌≡◌, ◌≢◌, ◌≤◌, ◌+◌, ◌++◌, ◌∷◌, [], ℕ, List, length, Option, Some, None, true, false, refl, sym, ◌∙◌, ap, subst, arith, append_assoc}
use Rattle.std.proofs.lemmas.List.{append-nil, get_or_past}
use Rattle.std.specs.Prelude.{IsSomeAnd}
use Rattle.std.specs.List.{AllByRecursion}
use Rattle.flume_host.specs.Folder.{Allows, Entry, Files, Folder, IsImage, settle_entry}
use Rattle.flume_host.specs.Told.{Changes, LeavesOnly, Tells, Told}
use Rattle.flume_host.specs.declared.names.FileName.TheVariants.{Log}
use Rattle.flume_host.proofs.Images.{stable_only}
use Rattle.flume_host.proofs.Telling.{tells_more, tells_same}
use Rattle.event_core.specs.Journal.{is_among, taken_numbers}
use Rattle.record_form.specs.declared.record.Rec.{Rec}
use Rattle.channel_log.specs.Frames.{IsFrame, header, opened, record_bytes}
use Rattle.record_form.specs.declared.record.Rec.TheVariants.{Put, Take, Rollback, CommitPut, CommitTake, End}
use Rattle.channel_log.specs.Writer.{HasFrames, IsAtRest, IsPending, IsReady, LacksOrHas, Writer, file_of}
use Rattle.channel_face.specs.Machine.{State, next_number, settle}
use Rattle.checkpoint_opening.proofs.Growing.{other_log}
use Rattle.channel_writing.specs.Touches.{ChangesAlone}
use Rattle.channel_writing.specs.Written.{IsLogged, LeavesOthers, MayRecover, OnDisk, RecoversSettled, Waits}
use Rattle.channel_writing.proofs.Ending.{flush_mirrored}
use Rattle.channel_writing.proofs.Writes.{disk_steps}
use Rattle.channel_writing.proofs.Recovering.{flush_logged, flush_recovers, settled_recovers}

-- the frames that a log has where the disk shows its contents
pub ready_frames : (told : Option Told) (w : Writer) (s : State) → Waits told w s → (birth : ℕ) × (frames : List (List Rec)) × IsReady told birth w.file w.gate frames
ready_frames None w s waits = (1, [], λ t is. absurd (cc))
ready_frames (Some t) w s waits =
    let disk : OnDisk t w s waits.records = waits.disk t refl in
    (disk.birth, disk.frames, λ u is. subst (λ (v : Told). IsAtRest v disk.birth w.file w.gate disk.frames) (some_told t u is) disk.rest)
  where
    some_told : (t u : Told) → Some t ≡ Some u → t ≡ u
    some_told t u is = cc

-- images of a folder where one file changes

-- a crash leaves a settled file as it is read
pub as_read : (file image : Option (List ℕ)) → Allows (settle_entry file) image → image ≡ file
as_read None None may = refl
as_read None (Some bytes) may = absurd may
as_read (Some was) None may = absurd may
as_read (Some was) (Some bytes) may = ap (λ (l : List ℕ). Some l) (stable_only was bytes may)

-- what a log in it recovers to is what a folder opens to
may_open : (t : Told) (w : Writer) (s : State) (records : List Rec) (folder : Files) (disk : OnDisk t w s records) → LeavesOthers t w.file folder
    → IsSomeAnd (folder (Log w.file)) (λ bytes. HasFrames disk.birth w.file disk.frames bytes ⊎ HasFrames disk.birth w.file (disk.frames ++ records ∷ []) bytes) → MayRecover s folder
may_open t w s records folder disk others has = flush_recovers s folder disk.birth w.file disk.frames records (disk.logs folder others) has

-- at any moment of a flush, where records wait
flush_moments : (told told' : Option Told) (w : Writer) (s : State) (waits : Waits told w s) → ((birth : ℕ) (frames : List (List Rec)) → IsReady told birth w.file w.gate frames → Tells told told' (Changes (Log w.file) (LacksOrHas birth w.file frames waits.records) 2))
    → Tells told told' (λ t u. LeavesOnly t u (MayRecover s))
unfolding ready_frames
flush_moments None None w s waits given = tt
flush_moments None (Some u) w s waits given = given 1 [] (λ t is. absurd (cc))
flush_moments (Some t) None w s waits given = let ready = ready_frames (Some t) w s waits in given ready.0 ready.1 ready.2
flush_moments (Some t) (Some u) w s waits given =
    let disk : OnDisk t w s waits.records = waits.disk t refl in
    let ready = ready_frames (Some t) w s waits in
    let changes : Changes (Log w.file) (LacksOrHas disk.birth w.file disk.frames waits.records) 2 t u = given disk.birth disk.frames ready.2 in
    record {
      more = changes.images.more;
      past = changes.images.past;
      each = λ m image low left.
          let one = changes.images.each m image low left in
          may_open t w s waits.records image disk one.others one.file;
    }

-- while nothing is written
pub closed_frames : (birth number : ℕ) (frames : List (List Rec)) → AllByRecursion IsFrame frames → HasFrames birth number frames (file_of birth number frames)
closed_frames birth number frames each = (opened frames ++ 0 ∷ [], append_assoc (header birth number) (opened frames) (0 ∷ []), record { each = each; gate = 0; rest = []; split = refl; closed = not_one 0 refl })
  where
    not_one : (n : ℕ) → n ≡ 0 → n ≢ 1
    not_one n zero one = absurd (omega (arith, zero, one))

-- the log's own file in an image
pub own_file : (t : Told) (w : Writer) (s : State) (records : List Rec) (image : Files) (disk : OnDisk t w s records) → IsImage t.now image → IsSomeAnd (image (Log w.file)) (HasFrames disk.birth w.file disk.frames)
own_file t w s records image disk are =
    let bytes : List ℕ = file_of disk.birth w.file disk.frames in
    let may : Allows (settle_entry (Some bytes)) (image (Log w.file)) = subst (λ (e : Entry). Allows e (image (Log w.file))) disk.rest.durable (are (Log w.file)) in
    let is : image (Log w.file) ≡ Some bytes = as_read (Some bytes) (image (Log w.file)) may in
    subst (λ (f : Option (List ℕ)). IsSomeAnd f (HasFrames disk.birth w.file disk.frames)) (sym is) (closed_frames disk.birth w.file disk.frames disk.rest.each)

either_of : (file : Option (List ℕ)) (P Q : List ℕ → Type 0) → IsSomeAnd file P → IsSomeAnd file (λ bytes. P bytes ⊎ Q bytes)
either_of None P Q is = is
either_of (Some bytes) P Q is = inl is

-- while records wait, a crash leaves what is settled, with or without what is staged
pub rest_recovers : (t : Told) (w : Writer) (s : State) (records : List Rec) (image : Files) → OnDisk t w s records → IsImage t.now image → MayRecover s image
rest_recovers t w s records image disk are =
    may_open t w s records image disk (λ n differs. are n)
    (either_of (image (Log w.file)) (HasFrames disk.birth w.file disk.frames) (HasFrames disk.birth w.file (disk.frames ++ records ∷ [])) (own_file t w s records image disk are))

-- just what is settled
pub rest_exactly : (t : Told) (w : Writer) (s : State) (records : List Rec) (image : Files) → OnDisk t w s records → IsImage t.now image → RecoversSettled s image
rest_exactly t w s records image disk are = settled_recovers s image disk.birth w.file disk.frames records (disk.logs image (λ n differs. are n)) (own_file t w s records image disk are)

rest_moments : (told : Option Told) (w : Writer) (s : State) → Waits told w s → Tells told told (λ t u. LeavesOnly t u (MayRecover s))
rest_moments None w s waits = tt
rest_moments (Some t) w s waits = record {
  more = [];
  past = sym (append-nil t.past);
  each = λ m image low left. rest_recovers t w s waits.records image (waits.disk t refl) (subst (λ (f : Folder). IsImage f image) (get_or_past t.past m t.now low) left);
}

some_or_none : (n : ℕ) → (n ≡ 0) ⊎ (1 ≤ n)
some_or_none n = grind arith

-- whether records wait or not
pub moments : (told told' : Option Told) (w : Writer) (s : State) (waits : Waits told w s)
    → ((birth : ℕ) (frames : List (List Rec)) → IsReady told birth w.file w.gate frames → 1 ≤ length waits.records → Tells told told' (Changes (Log w.file) (LacksOrHas birth w.file frames waits.records) 2))
    → (w.count ≡ 0 → told' ≡ told) → Tells told told' (λ t u. LeavesOnly t u (MayRecover s))
moments told told' w s waits given none = from (some_or_none (length waits.records))
  where
    from : (length waits.records ≡ 0) ⊎ (1 ≤ length waits.records) → Tells told told' (λ t u. LeavesOnly t u (MayRecover s))
    from (inl nothing) = subst (λ (v : Option Told). Tells told v (λ t u. LeavesOnly t u (MayRecover s))) (sym (none (waits.pending.counted ∙ nothing))) (rest_moments told w s waits)
    from (inr some) = flush_moments told told' w s waits (λ birth frames ready. given birth frames ready some)

-- the log after a flush

abbrev TakesAreEarlier : State → Type 0
TakesAreEarlier s = (n : ℕ) → next_number s ≤ n → is_among (taken_numbers s.staged) n ≡ false

disk_after : (told told' : Option Told) (w w' : Writer) (s : State) (waits : Waits told w s) → ((birth : ℕ) (frames : List (List Rec)) → IsReady told birth w.file w.gate frames → Tells told told' (Changes (Log w.file) (LacksOrHas birth w.file frames waits.records) 2))
    → ((birth : ℕ) (frames : List (List Rec)) → IsReady told birth w.file w.gate frames → IsReady told' birth w.file w'.gate (frames ++ waits.records ∷ [])) → w'.file ≡ w.file → TakesAreEarlier s → (u : Told) → told' ≡ Some u → OnDisk u w' (settle s) []
unfolding ready_frames
disk_after None None w w' s waits given flushed file earlier u is = absurd (cc)
disk_after None (Some v) w w' s waits given flushed file earlier u is = absurd (given 1 [] (λ t same. absurd (cc)))
disk_after (Some t) None w w' s waits given flushed file earlier u is = absurd (cc)
disk_after (Some t) (Some v) w w' s waits given flushed file earlier u is =
    let disk : OnDisk t w s waits.records = waits.disk t refl in
    let ready = ready_frames (Some t) w s waits in
    let changes : Changes (Log w.file) (LacksOrHas disk.birth w.file disk.frames waits.records) 2 t v = given disk.birth disk.frames ready.2 in
    let rest : IsAtRest v disk.birth w.file w'.gate (disk.frames ++ waits.records ∷ []) = flushed disk.birth disk.frames ready.2 v refl in
    let same : v ≡ u = some_told v u is in
    subst (λ (x : Told). OnDisk x w' (settle s) []) same (rw file (record {
      birth = disk.birth;
      is_birth = disk.is_birth;
      frames = disk.frames ++ waits.records ∷ [];
      rest = rest;
      small = disk.small;
      none = λ n high. (changes.others (Log n) (other_log n w.file (λ at. absurd (omega (arith, high, at))))).1 ∙ disk.none n high;
      gone = λ n high. (changes.others (Log n) (other_log n w.file (λ at. absurd (omega (arith, high, at))))).0 ∙ disk.gone n high;
      logs = λ folder others. flush_logged folder disk.birth w.file s disk.frames waits.records (disk.logs folder (λ name differs. subst (λ (e : Entry). Allows e (folder name)) (changes.others name differs).0 (others name differs))) earlier;
    }))
  where
    some_told : (a b : Told) → Some a ≡ Some b → a ≡ b
    some_told a b is = cc

-- after a flush, or where nothing waited for one, the log has the settled state
pub logged_after : (told told' : Option Told) (w w' : Writer) (b : ℕ) (s : State) (log : IsLogged told w b s) (whole : s.broken ≡ false) → TakesAreEarlier s
    → ((birth : ℕ) (frames : List (List Rec)) → IsReady told birth w.file w.gate frames → 1 ≤ length (log.waits whole).records → Tells told told' (Changes (Log w.file) (LacksOrHas birth w.file frames (log.waits whole).records) 2))
    → ((birth : ℕ) (frames : List (List Rec)) → IsReady told birth w.file w.gate frames → 1 ≤ length (log.waits whole).records → IsReady told' birth w.file w'.gate (frames ++ (log.waits whole).records ∷ []))
    → (1 ≤ w.count → w' ≡ record w { gate = w.gate + length w.bytes + 6; started = true; bytes = []; count = 0 }) → (w.count ≡ 0 → (w' ≡ w) × (told' ≡ told)) → IsLogged told' w' b (settle s)
logged_after told told' w w' b s log whole earlier given flushed writer none = from (some_or_none (length (log.waits whole).records))
  where
    waits : Waits told w s
    waits = log.waits whole

    no_more : (records : List Rec) → length records ≡ 0 → records ≡ []
    no_more [] is = refl
    no_more (r ∷ records) is = absurd (omega (arith, is))

    same_disk : (t : Told) → OnDisk t w s [] → OnDisk t w (settle s) []
    same_disk t disk = disk_steps t w s (settle s) [] [] disk (omega arith) (λ start settled m. flush_mirrored start s settled [] m earlier)

    from : (length waits.records ≡ 0) ⊎ (1 ≤ length waits.records) → IsLogged told' w' b (settle s)
    from (inl nothing) =
        let same = none (waits.pending.counted ∙ nothing) in
        let empty : waits.records ≡ [] = no_more waits.records nothing in
        rw (same.0, same.1) (record {
          busy_is = log.busy_is;
          few = log.few;
          room = log.room;
          limit = log.limit;
          waits = λ _. record {
            records = [];
            pending = subst (λ (l : List Rec). IsPending w l) empty waits.pending;
            disk = λ t is. same_disk t (subst (λ (l : List Rec). OnDisk t w s l) empty (waits.disk t is));
          };
        })
    from (inr some) =
        let is = writer (rw waits.pending.counted some) in
        let file : w'.file ≡ w.file = ap (λ (v : Writer). v.file) is in
        let bytes : w'.bytes ≡ [] = ap (λ (v : Writer). v.bytes) is in
        let count : w'.count ≡ 0 = ap (λ (v : Writer). v.count) is in
        record {
          busy_is = log.busy_is;
          few = log.few;
          room = omega (arith, log.room, ap (λ (l : List ℕ). length l) bytes);
          limit = ap (λ (v : Writer). v.max_file) is ∙ log.limit;
          waits = λ _. record {
            records = [];
            pending = record { spelled = bytes; counted = count; each = tt };
            disk = λ u told_is. disk_after told told' w w' s waits (λ birth frames ready. given birth frames ready some) (λ birth frames ready. flushed birth frames ready some) file earlier u told_is;
          };
        }

-- nothing is left in the frame
pub nothing_left : (told : Option Told) (w w' : Writer) (s : State) (waits : Waits told w s) → (1 ≤ w.count → w' ≡ record w { gate = w.gate + length w.bytes + 6; started = true; bytes = []; count = 0 }) → (w.count ≡ 0 → w' ≡ w) → w'.bytes ≡ []
nothing_left told w w' s waits writer none = from waits.records waits.pending (some_or_none w.count)
  where
    from : (records : List Rec) → IsPending w records → (w.count ≡ 0) ⊎ (1 ≤ w.count) → w'.bytes ≡ []
    from [] pending (inl nothing) = ap (λ (v : Writer). v.bytes) (none nothing) ∙ pending.spelled
    from (r ∷ records) pending (inl nothing) = absurd (omega (arith, nothing, pending.counted))
    from records pending (inr some) = ap (λ (v : Writer). v.bytes) (writer some)

-- a flush writes the last log file and makes two syncs, and does nothing where nothing waits
pub writes_of : (told told' : Option Told) (w : Writer) (s : State) (waits : Waits told w s)
    → ((birth : ℕ) (frames : List (List Rec)) → IsReady told birth w.file w.gate frames → 1 ≤ length waits.records → Tells told told' (Changes (Log w.file) (LacksOrHas birth w.file frames waits.records) 2))
    → (w.count ≡ 0 → told' ≡ told) → Tells told told' (ChangesAlone w.file 2)
writes_of told told' w s waits given none = from (some_or_none (length waits.records))
  where
    from : (length waits.records ≡ 0) ⊎ (1 ≤ length waits.records) → Tells told told' (ChangesAlone w.file 2)
    from (inl nothing) = subst (λ (v : Option Told). Tells told v (ChangesAlone w.file 2)) (sym (none (waits.pending.counted ∙ nothing)))
        (tells_same told (ChangesAlone w.file 2) (λ t is. record { others = λ name other. refl; left = λ name other. refl; syncs = omega arith }))
    from (inr some) =
        let ready = ready_frames told w s waits in
        tells_more told told' (Changes (Log w.file) (LacksOrHas ready.0 w.file ready.1 waits.records) 2) (ChangesAlone w.file 2)
        (λ t u old new changes. record { others = λ name other. (changes.others name other).1; left = λ name other. (changes.others name other).0; syncs = changes.syncs })
        (given ready.0 ready.1 ready.2 some)

-- a success that is also a failure cannot be, so anything follows from it
pub no_ok : {A : Type 0} → false ≡ true → A
no_ok is = absurd (cc)

-- where no bytes wait, no records do
pub none_waits : (told : Option Told) (w : Writer) (s : State) → Waits told w s → length w.bytes ≡ 0 → w.count ≡ 0
none_waits told w s waits none = from waits.records waits.pending
  where
    some : (rec : Rec) (records : List Rec) → 1 ≤ length (record_bytes (rec ∷ records))
    some (Put txn event) records = omega arith
    some (Take txn number) records = omega arith
    some (Rollback txn) records = omega arith
    some (CommitPut txn first count) records = omega arith
    some (CommitTake txn count) records = omega arith
    some (End count) records = omega arith

    from : (records : List Rec) → IsPending w records → w.count ≡ 0
    from [] pending = pending.counted
    from (rec ∷ records) pending = absurd (let long = some rec records in let same = ap (λ (l : List ℕ). length l) pending.spelled in omega (arith, long, same, none))
