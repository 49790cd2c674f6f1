-- A channel's log while a checkpoint of it is laid, and after that.
use Rattle.std.proofs.Common.{◌⊎◌, inl, inr, ◌≡◌, ◌≢◌, ◌<◌, ◌≤◌, ◌^◌, ◌++◌, ◌∷◌, [], ◌==◌, ℕ, List, length, length-append, Option, Some, None, Bool, true, false, refl, sym, ◌∙◌, ap, subst, append_assoc, arith}
use Rattle.std.specs.Prelude.{IsSomeAnd}
use Rattle.std.specs.List.{AllByRecursion}
use Rattle.std.proofs.lemmas.Bool.Decides.{eqb_tells}
use Rattle.std.proofs.lemmas.List.{append-nil, get_or_past}
use Rattle.flume_host.specs.Folder.{Allows, Entry, Files, Folder, Gone, IsImage, same_name, with_at}
use Rattle.flume_host.specs.Told.{Changes, LeavesOnly, OneFile, Tells, Told, WhereTold, clock}
use Rattle.flume_host.specs.declared.names.FileName.{FileName}
use Rattle.flume_host.specs.declared.names.FileName.TheVariants.{Check, Log}
use Rattle.flume_host.proofs.Images.{same_name_is}
use Rattle.flume_host.proofs.Moments.{clock_rises}
use Rattle.flume_host.proofs.OneFile.{with_at_other, with_at_self}
use Rattle.flume_host.proofs.Telling.{back, follows, tells_more}
use Rattle.record_form.specs.declared.record.Pointer.{Pointer}
use Rattle.record_form.specs.declared.record.Rec.{Rec}
use Rattle.channel_log.specs.Frames.{header, opened}
use Rattle.channel_log.specs.Pointers.{settled_part}
use Rattle.channel_log.specs.Writer.{HasFrames, IsPending, Writer, file_of}
use Rattle.channel_log.proofs.Pointing.{part-append}
use Rattle.event_ring.specs.Slots.{Index}
use Rattle.open_table.specs.Tables.{Table}
use Rattle.channel_face.specs.Machine.{State}
use Rattle.channel_face.specs.Sound.{IsSoundState}
use Rattle.channel_replay.specs.declared.line.Line.{Line}
use Rattle.channel_replay.specs.Start.{Start}
use Rattle.channel_writing.specs.Laws.{IsLaidAt}
use Rattle.channel_writing.specs.Logs.{Logs}
use Rattle.channel_writing.specs.Written.{IsLogged, OnDisk, RecoversSettled, Waits}
use Rattle.channel_writing.proofs.Flushing.{as_read, closed_frames}
use Rattle.channel_writing.proofs.Laid.{laid_is_logged}
use Rattle.channel_writing.proofs.Opening.{only_more}
use Rattle.channel_writing.proofs.Recovering.{settled_recovers}
use Rattle.checkpoint.specs.declared.place.Next.{Next}
use Rattle.checkpoint.specs.declared.place.Place.{Place}
use Rattle.checkpoint.specs.Files.{IsKept}
use Rattle.checkpoint.specs.Newest.{IsNewest, IsPassed, IsPassedFile}
use Rattle.checkpoint.specs.Right.{IsRightText}
use Rattle.checkpoint.specs.Says.{Says}
use Rattle.checkpoint.specs.Text.{CheckText, check_bytes}
use Rattle.checkpoint.proofs.Joining.{changes_as, changes_then}
use Rattle.checkpoint_opening.proofs.Growing.{other_log}
use Rattle.checkpoint_recovery.specs.Laws.{NamesFrom}
use Rattle.checkpoint_recovery.specs.Recovers.{BeginsAt, From, Front, IsCheck}
use Rattle.checkpoint_recovery.proofs.Elsewhere.{front_elsewhere, not_both, open_is_newest, passed_is_not_newest, serves_elsewhere}
use Rattle.channel_laying.specs.Laying.{AreUnused, HasLog, IsLaying, IsTextFor, MayLay}

other_check : (m n : ℕ) → m ≢ n → same_name (Check m) (Check n) ≡ false
other_check m n other = from (eqb_tells m n)
  where
    from : ((m == n) ≡ true) × (m ≡ n) ⊎ ((m == n) ≡ false) × (m ≢ n) → (m == n) ≡ false
    from (inl same) = absurd (other same.1)
    from (inr isnt) = isnt.0

-- all files are from the first one on
named : (c : CheckText) → NamesFrom 0 c
named c = record { place = omega arith; live = live c.live; puts = puts c.puts }
  where
    live : (l : List (ℕ × Pointer)) → AllByRecursion (λ x. 0 ≤ x.1.file) l
    live [] = tt
    live (x ∷ l) = (omega arith, live l)

    pointers : (l : List Pointer) → AllByRecursion (λ p. 0 ≤ p.file) l
    pointers [] = tt
    pointers (p ∷ l) = (omega arith, pointers l)

    puts : (l : List (ℕ × List Pointer)) → AllByRecursion (λ o. AllByRecursion (λ p. 0 ≤ p.file) o.1) l
    puts [] = tt
    puts (o ∷ l) = (pointers o.1, puts l)

-- a folder begins as it did while a file of a checkpoint is passed over
passed_begins : (files later : Files) (n : ℕ) → ((m : ℕ) → later (Log m) ≡ files (Log m)) → IsPassedFile (files (Check n)) → IsPassedFile (later (Check n)) → ((m : ℕ) → m ≢ n → later (Check m) ≡ files (Check m))
    → (start : Start) (found : List Line) → BeginsAt files start found → BeginsAt later start found
passed_begins files later n same before now others start found (Front none empty all) =
    subst (λ (s : Start). BeginsAt later s found) (sym empty) (front_elsewhere files later found (λ m more. same m) (passed_is_not_newest files later n None before now others none) all)
passed_begins files later n same before now others start found (From number c newest check lines) =
    let apart : number ≢ n = λ one. not_both (files (Check number)) (subst (λ (k : ℕ). IsPassedFile (files (Check k))) (sym one) before) newest.0 in
    serves_elsewhere files later 0 number c start found (λ m more. same m) (named c) (passed_is_not_newest files later n (Some number) before now others newest) (others number apart) check lines

module _ (t : Told) (w : Writer) (s : State) (disk : OnDisk t w s []) (number : ℕ) (c : CheckText) (start : Start) (text : IsTextFor t w s c start) (place : c.place ≡ record { file = w.file; at = w.gate }) (unused : AreUnused t number) (sound : IsSoundState s) (staged : s.staged ≡ [])
    (low : s.first < 2 ^ 64) (folder : Files) (others : (name : FileName) → same_name name (Log w.file) ≡ false → same_name name (Check number) ≡ false → Allows (t.now name) (folder name)) where
  -- the folder without that file
  abbrev earlier : Files
  earlier = with_at folder (Check number) None

  earlier_none : earlier (Check number) ≡ None
  earlier_none = with_at_self folder (Check number) None

  earlier_log : (n : ℕ) → earlier (Log n) ≡ folder (Log n)
  earlier_log n = with_at_other folder (Check number) (Log n) None refl

  earlier_check : (n : ℕ) → n ≢ number → earlier (Check n) ≡ folder (Check n)
  earlier_check n other = with_at_other folder (Check number) (Check n) None (other_check n number other)

  earlier_left : (name : FileName) → same_name name (Log w.file) ≡ false → Allows (t.now name) (earlier name)
  earlier_left name other = by (same_name name (Check number)) refl
    where
      gone : Allows (t.now (Check number)) (earlier (Check number))
      gone = subst (λ (e : Entry). Allows e (earlier (Check number))) (sym (unused number (omega arith)).1) (subst (λ (o : Option (List ℕ)). Allows Gone o) (sym earlier_none) tt)

      by : (b : Bool) → same_name name (Check number) ≡ b → Allows (t.now name) (earlier name)
      by true same = subst (λ (n : FileName). Allows (t.now n) (earlier n)) (sym (same_name_is name (Check number) same)) gone
      by false differs = subst (λ (o : Option (List ℕ)). Allows (t.now name) o) (sym (with_at_other folder (Check number) name None differs)) (others name other differs)

  abbrev log : Logs earlier disk.birth w.file s disk.frames []
  log = disk.logs earlier earlier_left

  -- a file that is passed over changes nothing
  passed_logs : IsPassedFile (folder (Check number)) → Logs folder disk.birth w.file s disk.frames []
  passed_logs passed = record {
    start = log.start;
    past = log.past;
    goes = λ more has.
        let goes = log.goes more (subst (λ (o : Option (List ℕ)). IsSomeAnd o (HasFrames disk.birth w.file (disk.frames ++ more))) (sym (earlier_log w.file)) has) in
        record {
          found = goes.found;
          begins = passed_begins earlier folder number (λ n. sym (earlier_log n)) (subst IsPassedFile (sym earlier_none) tt) passed (λ n other. sym (earlier_check n other)) log.start goes.found goes.begins;
          sound = goes.sound;
          marks = goes.marks;
        };
    fresh = log.fresh;
    low = log.low;
    fits = log.fits;
    mirrors = log.mirrors;
  }

  -- the folder has the log
  has_log : (more : List (List Rec)) → IsSomeAnd (folder (Log w.file)) (HasFrames disk.birth w.file (disk.frames ++ more)) → HasLog t w folder
  has_log more has = from (folder (Log w.file)) refl has
    where
      front : List ℕ
      front = settled_part disk.birth w.file disk.frames

      from : (file : Option (List ℕ)) → folder (Log w.file) ≡ file → IsSomeAnd file (HasFrames disk.birth w.file (disk.frames ++ more)) → HasLog t w folder
      from None is has = absurd has
      from (Some bytes) is has =
          let rest : List ℕ = opened more ++ has.2.gate ∷ has.2.rest in
          let split : bytes ≡ front ++ rest =
          has.1
          ∙ (ap (λ (l : List ℕ). header disk.birth w.file ++ l) has.2.split
          ∙ (sym (append_assoc (header disk.birth w.file) (opened (disk.frames ++ more)) (has.2.gate ∷ has.2.rest))
          ∙ (ap (λ (l : List ℕ). l ++ has.2.gate ∷ has.2.rest) (part-append disk.birth w.file disk.frames more)
          ∙ append_assoc front (opened more) (has.2.gate ∷ has.2.rest)))) in
          record {
            others = λ n other. others (Log n) (other_log n w.file other) refl;
            front = front;
            rest = rest;
            long = sym disk.rest.offset;
            some = omega (arith, length-append (opened more) (has.2.gate ∷ has.2.rest));
            reads = disk.rest.reads;
            has = is ∙ ap (λ (l : List ℕ). Some l) split;
          }

  none_above : (n : ℕ) → number < n → folder (Check n) ≡ None
  none_above n high =
      as_read None (folder (Check n)) (subst (λ (e : Entry). Allows e (folder (Check n))) (unused n (omega (arith, high))).1 (others (Check n) refl (other_check n number (λ same. absurd (omega (arith, high, same))))))

  is_newest : folder (Check number) ≡ Some (1 ∷ check_bytes c) → IsNewest folder (Some number)
  is_newest spelled = open_is_newest folder number c spelled (λ n high. subst IsPassedFile (sym (none_above n high)) tt)

  is_check : folder (Check number) ≡ Some (1 ∷ check_bytes c) → HasLog t w folder → IsCheck folder number c start
  is_check spelled has = record { spelled = spelled; means = record { right = text.right folder has; number = text.number; txn = text.txn } }

  -- from the whole checkpoint on the log goes on
  laid_at : folder (Check number) ≡ Some (1 ∷ check_bytes c) → (more : List (List Rec)) → IsSomeAnd (folder (Log w.file)) (HasFrames disk.birth w.file (disk.frames ++ more)) → IsLaidAt folder disk.birth w.file disk.frames start
  laid_at spelled more has = record {
    check = number;
    text = c;
    newest = is_newest spelled;
    is = is_check spelled (has_log more has);
    place = place ∙ ap (λ (n : ℕ). let p : Place = record { file = w.file; at = n } in p) disk.rest.offset;
    none = λ n high. as_read None (folder (Log n)) (subst (λ (e : Entry). Allows e (folder (Log n))) (disk.gone n high) (others (Log n) (other_log n w.file (λ same. absurd (omega (arith, high, same)))) refl));
  }

  -- a folder gives the log with the new checkpoint passed over or spelled
  pub logs_laid : IsLaying c (folder (Check number)) → Logs folder disk.birth w.file s disk.frames []
  logs_laid (inl passed) = passed_logs passed
  logs_laid (inr spelled) = laid_is_logged earlier folder start disk.birth w.file s disk.frames log disk.is_birth sound staged low text.start_of (laid_at spelled)

-- the log's own file, which stays as it is
pub own_frames : (t : Told) (w : Writer) (s : State) (records : List Rec) (disk : OnDisk t w s records) (file : Option (List ℕ)) → Allows (t.now (Log w.file)) file → IsSomeAnd file (HasFrames disk.birth w.file disk.frames)
own_frames t w s records disk file left =
    let bytes : List ℕ = file_of disk.birth w.file disk.frames in
    let is : file ≡ Some bytes = as_read (Some bytes) file (subst (λ (e : Entry). Allows e file) disk.rest.durable left) in
    subst (λ (f : Option (List ℕ)). IsSomeAnd f (HasFrames disk.birth w.file disk.frames)) (sym is) (closed_frames disk.birth w.file disk.frames disk.rest.each)

module _ (t u : Told) (w : Writer) (s : State) (disk : OnDisk t w s []) (number : ℕ) (c : CheckText) (start : Start) (text : IsTextFor t w s c start) (place : c.place ≡ record { file = w.file; at = w.gate }) (unused : AreUnused t number) (sound : IsSoundState s) (staged : s.staged ≡ [])
    (low : s.first < 2 ^ 64) (changes : Changes (Check number) (IsLaying c) 3 t u) where
  -- a crash at any moment leaves what is settled
  moment_laid : (image : Files) → OneFile t.now (Check number) (IsLaying c) image → RecoversSettled s image
  moment_laid image one =
      settled_recovers s image disk.birth w.file disk.frames [] (logs_laid t w s disk number c start text place unused sound staged low image (λ name other differs. one.others name differs) one.file)
      (own_frames t w s [] disk (image (Log w.file)) (one.others (Log w.file) refl))

  -- at each moment of laying a crash leaves what is settled
  pub moments_laid : LeavesOnly t u (RecoversSettled s)
  moments_laid = only_more t u (OneFile t.now (Check number) (IsLaying c)) (RecoversSettled s) moment_laid changes.images

  -- what a crash may leave now of that file
  file_laid : (folder : Files) → ((name : FileName) → same_name name (Log w.file) ≡ false → Allows (u.now name) (folder name)) → IsLaying c (folder (Check number))
  file_laid folder left = subst (IsLaying c) (with_at_other folder (Log w.file) (Check number) own refl) (changes.images.each (clock u) image (clock_rises t u (OneFile t.now (Check number) (IsLaying c)) changes.images) (subst (λ (f : Folder). IsImage f image) (sym (get_or_past u.past (clock u) u.now (omega arith))) is_image)).file
    where
      bytes : List ℕ
      bytes = file_of disk.birth w.file disk.frames

      own : Option (List ℕ)
      own = Some bytes

      image : Files
      image = with_at folder (Log w.file) own

      own_left : Allows (u.now (Log w.file)) (image (Log w.file))
      own_left =
          subst (λ (o : Option (List ℕ)). Allows (u.now (Log w.file)) o) (sym (with_at_self folder (Log w.file) own))
          (subst (λ (e : Entry). Allows e own) (sym ((changes.others (Log w.file) refl).0 ∙ disk.rest.durable)) (record { no_shorter = omega arith; no_longer = omega arith; same = λ i less clear. refl }))

      is_image : IsImage u.now image
      is_image name = by (same_name name (Log w.file)) refl
        where
          by : (b : Bool) → same_name name (Log w.file) ≡ b → Allows (u.now name) (image name)
          by true same = subst (λ (n : FileName). Allows (u.now n) (image n)) (sym (same_name_is name (Log w.file) same)) own_left
          by false differs = subst (λ (o : Option (List ℕ)). Allows (u.now name) o) (sym (with_at_other folder (Log w.file) name own differs)) (left name differs)

  -- the log is on the disk after a checkpoint was laid as it was before
  pub disk_laid : OnDisk u w s []
  disk_laid = record {
    birth = disk.birth;
    is_birth = disk.is_birth;
    frames = disk.frames;
    rest = record {
      each = disk.rest.each;
      offset = disk.rest.offset;
      reads = (changes.others (Log w.file) refl).1 ∙ disk.rest.reads;
      durable = (changes.others (Log w.file) refl).0 ∙ disk.rest.durable;
    };
    small = disk.small;
    none = λ n high. (changes.others (Log n) refl).1 ∙ disk.none n high;
    gone = λ n high. (changes.others (Log n) refl).0 ∙ disk.gone n high;
    logs = λ folder left.
        logs_laid t w s disk number c start text place unused sound staged low folder (λ name other differs. subst (λ (e : Entry). Allows e (folder name)) (changes.others name differs).0 (left name other)) (file_laid folder left);
  }

  -- once it is whole, it is the newest of whatever a crash leaves
  pub newest_laid : IsKept u number (1 ∷ check_bytes c) → (image : Files) → IsImage u.now image → IsNewest image (Some number) × IsCheck image number c start
  newest_laid kept image are =
      let spelled : image (Check number) ≡ Some (1 ∷ check_bytes c) = as_read (Some (1 ∷ check_bytes c)) (image (Check number)) (subst (λ (e : Entry). Allows e (image (Check number))) kept.left (are (Check number))) in
      let others : (name : FileName) → same_name name (Log w.file) ≡ false → same_name name (Check number) ≡ false → Allows (t.now name) (image name) = λ name other differs. subst (λ (e : Entry). Allows e (image name)) (changes.others name differs).0 (are name) in
      let own = own_frames t w s [] disk (image (Log w.file)) (subst (λ (e : Entry). Allows e (image (Log w.file))) (changes.others (Log w.file) refl).0 (are (Log w.file))) in (
        is_newest t w s disk number c start text place unused sound staged low image others spelled,
        is_check t w s disk number c start text place unused sound staged low image others spelled (has_log t w s disk number c start text place unused sound staged low image others [] (subst (λ (l : List (List Rec)). IsSomeAnd (image (Log w.file)) (HasFrames disk.birth w.file l)) (sym (append-nil disk.frames)) own)),
      )

-- over what a disk shows, if it shows it

-- no records wait where none are counted
no_records : (records : List Rec) → length records ≡ 0 → records ≡ []
no_records [] is = refl
no_records (r ∷ records) is = absurd (omega (arith, is))

-- reads give the log
reads_log : (t : Told) (w : Writer) (s : State) → OnDisk t w s [] → IsImage t.now t.reads → HasLog t w t.reads
reads_log t w s disk are = record {
  others = λ n other. are (Log n);
  front = settled_part disk.birth w.file disk.frames;
  rest = 0 ∷ [];
  long = sym disk.rest.offset;
  some = omega arith;
  reads = disk.rest.reads;
  has = disk.rest.reads;
}

module _ (told : Option Told) (w : Writer) (busy number : ℕ) (next : Next) (ring : Index) (table : Table) (s : State) (c : CheckText) (start : Start) (may : MayLay told w busy number next ring table s c start) where
  waits : Waits told w s
  waits = may.logged.waits may.whole

  none_waits : waits.records ≡ []
  none_waits = no_records waits.records (sym waits.pending.counted ∙ may.empty)

  disk_of : (t : Told) → told ≡ Some t → OnDisk t w s []
  disk_of t is = subst (λ (l : List Rec). OnDisk t w s l) none_waits (waits.disk t is)

  -- the text is right for the disk as it reads
  pub text_is_right : (t : Told) → told ≡ Some t → IsImage t.now t.reads → IsRightText t.reads c
  text_is_right t is are = record { left = start.base.items; opened = start.opened; right = (may.text t is).right t.reads (reads_log t w s (disk_of t is) are) }

  module _ (told' : Option Told) (changes : Tells told told' (Changes (Check number) (IsLaying c) 3)) where
    -- whatever a disk shows, laying leaves what recovers as settled
    pub laying_moments : Tells told told' (λ t u. LeavesOnly t u (RecoversSettled s))
    laying_moments =
        tells_more told told' (Changes (Check number) (IsLaying c) 3) (λ t u. LeavesOnly t u (RecoversSettled s))
        (λ t u old new one. moments_laid t u w s (disk_of t old) number c start (may.text t old) may.says.place_is (may.unused t old) may.sound may.staged may.low one) changes

    -- the channel stays logged after a checkpoint was laid
    pub laid_logged : IsLogged told' w busy s
    laid_logged = record {
      busy_is = may.logged.busy_is;
      few = may.logged.few;
      room = may.logged.room;
      limit = may.logged.limit;
      waits = λ still. record {
        records = [];
        pending = subst (λ (l : List Rec). IsPending w l) none_waits waits.pending;
        disk = λ u new.
            let b = back told told' (Changes (Check number) (IsLaying c) 3) changes u new in
            disk_laid b.0 u w s (disk_of b.0 b.1) number c start (may.text b.0 b.1) may.says.place_is (may.unused b.0 b.1) may.sound may.staged may.low b.2;
      };
    }

    -- a checkpoint that was kept is the newest in each image, whatever the disk shows
    pub laid_newest : (u : Told) → told' ≡ Some u → IsKept u number (1 ∷ check_bytes c) → (image : Files) → IsImage u.now image → IsNewest image (Some number) × IsCheck image number c start
    laid_newest u new kept image are =
        let b = back told told' (Changes (Check number) (IsLaying c) 3) changes u new in
        newest_laid b.0 u w s (disk_of b.0 b.1) number c start (may.text b.0 b.1) may.says.place_is (may.unused b.0 b.1) may.sound may.staged may.low b.2 kept image are

-- what a first part gave of the place's text, it gave of this one
pub kept_after : (told mid : Option Told) (w : Writer) (busy number : ℕ) (next : Next) (ring : Index) (table : Table) (place : Place) → place.file ≡ w.file → place.at ≡ w.gate → WhereTold told (λ t. IsImage t.now t.reads)
    → ((c : CheckText) → Says place next ring table c → WhereTold told (λ t. IsRightText t.reads c) → WhereTold mid (λ t. IsKept t number (0 ∷ check_bytes c)))
    → (s : State) (c : CheckText) (start : Start) → MayLay told w busy number next ring table s c start → WhereTold mid (λ t. IsKept t number (0 ∷ check_bytes c))
kept_after told mid w busy number next ring table place file at reads laid s c start may =
    let place_is : place ≡ record { file = w.file; at = w.gate } = ap (λ (n : ℕ). let p : Place = record { file = n; at = place.at } in p) file ∙ ap (λ (n : ℕ). let p : Place = record { file = w.file; at = n } in p) at in
    laid c (subst (λ (p : Place). Says p next ring table c) (sym place_is) may.says) (λ t is. text_is_right told w busy number next ring table s c start may t is (reads t is))

-- the two parts of it

passed_or : (c : CheckText) (file : Option (List ℕ)) → IsSomeAnd file (λ bytes. IsPassed bytes ⊎ (bytes ≡ 1 ∷ check_bytes c)) → IsLaying c file
passed_or c None is = absurd is
passed_or c (Some bytes) (inl passed) = inl passed
passed_or c (Some bytes) (inr is) = inr (ap (λ (l : List ℕ). Some l) is)

abbrev pub Lays : ℕ → Told → Told → Type 0
Lays number t u = Changes (Check number) IsPassedFile 2 t u

abbrev pub OpensGate : ℕ → CheckText → Told → Told → Type 0
OpensGate number c t u = Changes (Check number) (λ file. IsSomeAnd file (λ bytes. IsPassed bytes ⊎ (bytes ≡ 1 ∷ check_bytes c))) 1 t u

-- where it was not laid
pub lays_alone : (told mid : Option Told) (number : ℕ) (c : CheckText) → Tells told mid (Lays number) → Tells told mid (Changes (Check number) (IsLaying c) 3)
lays_alone told mid number c lays =
    tells_more told mid (Lays number) (Changes (Check number) (IsLaying c) 3)
    (λ t u old new one. let one_of = changes_as t u (Check number) IsPassedFile (IsLaying c) 2 (λ file passed. inl passed) one in record { images = one_of.images; others = one_of.others; syncs = omega (arith, one_of.syncs) }) lays

-- laying the text and then opening its gate is one change of the checkpoint's file
pub lays_both : (told mid told' : Option Told) (number : ℕ) (c : CheckText) → Tells told mid (Lays number) → Tells mid told' (OpensGate number c) → Tells told told' (Changes (Check number) (IsLaying c) 3)
lays_both told mid told' number c lays opens =
    follows told mid told' (Lays number) (OpensGate number c) (Changes (Check number) (IsLaying c) 3)
    (λ t m u old between new first second.
    changes_then t m u (Check number) (IsLaying c) 2 1
    (changes_as t m (Check number) IsPassedFile (IsLaying c) 2 (λ file passed. inl passed) first)
    (changes_as m u (Check number) (λ file. IsSomeAnd file (λ bytes. IsPassed bytes ⊎ (bytes ≡ 1 ∷ check_bytes c))) (IsLaying c) 1 (passed_or c) second)) lays opens
