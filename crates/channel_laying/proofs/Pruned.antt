-- A channel's log while files are removed that its newest checkpoint does not need, and after that.
use Rattle.std.proofs.Common.{◌≡◌, ◌≤◌, ◌++◌, ℕ, List, Option, Some, None, Bool, false, cond, refl, sym, ◌∙◌, ap, subst, arith}
use Rattle.std.specs.Prelude.{IsSomeAnd}
use Rattle.flume_host.specs.Folder.{Allows, Entry, Files, IsImage, same_name}
use Rattle.flume_host.specs.Told.{LeavesOnly, Tells, Told, WhereTold}
use Rattle.flume_host.specs.declared.names.FileName.{FileName}
use Rattle.flume_host.specs.declared.names.FileName.TheVariants.{Check, Log}
use Rattle.flume_host.proofs.Telling.{back, tells_more}
use Rattle.record_form.specs.declared.record.Rec.{Rec}
use Rattle.channel_log.specs.Writer.{HasFrames, Writer}
use Rattle.channel_face.specs.Machine.{State}
use Rattle.channel_replay.specs.declared.line.Line.{Line}
use Rattle.channel_replay.specs.Start.{Start}
use Rattle.channel_writing.specs.Logs.{Logs}
use Rattle.channel_writing.specs.Written.{IsLogged, OnDisk, RecoversSettled}
use Rattle.channel_writing.proofs.Opening.{only_more}
use Rattle.channel_writing.proofs.Recovering.{settled_recovers}
use Rattle.checkpoint.specs.Newest.{IsNewest, IsPassed, IsPassedFile}
use Rattle.checkpoint_recovery.specs.Laws.{NeedsFrom, SameFrom}
use Rattle.checkpoint_recovery.specs.Recovers.{BeginsAt, From, Front, IsCheck}
use Rattle.checkpoint_recovery.proofs.Elsewhere.{one_newest, serves_elsewhere}
use Rattle.checkpoint_pruning.specs.Pruning.{IsFrom, KeepsFrom}
use Rattle.checkpoint_pruning.proofs.Keeping.{less_equal, mixed, mixed_left}
use Rattle.channel_laying.specs.Laying.{AreNeeded}
use Rattle.channel_laying.proofs.Laid.{own_frames}

-- a folder begins as it did without the files that its newest checkpoint does not need
pruned_begins : (files later : Files) (least laid : ℕ) → SameFrom least files later → ((m : ℕ) → laid ≤ m → later (Check m) ≡ files (Check m)) → NeedsFrom files least laid → (start : Start) (found : List Line) → BeginsAt files start found → BeginsAt later start found
pruned_begins files later least laid same others needs start found (Front none empty all) = absurd (let no : Some needs.number ≡ None = one_newest files (Some needs.number) None needs.newest none in cc)
pruned_begins files later least laid same others needs start found (From number c newest check lines) =
    let one : needs.number ≡ number = same_number (one_newest files (Some needs.number) (Some number) needs.newest newest) in
    let late : laid ≤ number = subst (λ (k : ℕ). laid ≤ k) one needs.late in
    let names = needs.names c start (subst (λ (k : ℕ). IsCheck files k c start) (sym one) check) in
    let still : IsNewest later (Some number) = (
      subst (λ (file : Option (List ℕ)). IsSomeAnd file (λ bytes. IsPassed bytes → ⊥)) (sym (others number late)) newest.0,
      λ m above. subst IsPassedFile (sym (others m (omega (arith, late, above)))) (newest.1 m above),
    ) in
    serves_elsewhere files later least number c start found same names still (others number late) check lines
  where
    same_number : Some needs.number ≡ Some number → needs.number ≡ number
    same_number is = cc

module _ (t u : Told) (w : Writer) (s : State) (records : List Rec) (disk : OnDisk t w s records) (least laid : ℕ) (reads : IsImage t.now t.reads) (keeps : KeepsFrom least laid t u) (low : least ≤ w.file) (needs : AreNeeded t least laid) where
  -- a folder whose kept files are as a crash may leave them has the log
  pruned_logs : (folder : Files) → ((name : FileName) → same_name name (Log w.file) ≡ false → IsFrom least laid name → Allows (t.now name) (folder name)) → Logs folder disk.birth w.file s disk.frames records
  pruned_logs folder kept = record {
    start = log.start;
    past = log.past;
    goes = λ more has.
        let goes = log.goes more (subst (λ (o : Option (List ℕ)). IsSomeAnd o (HasFrames disk.birth w.file (disk.frames ++ more))) (sym (log_was w.file low)) has) in
        record {
          found = goes.found;
          begins = pruned_begins was folder least laid (λ n more. sym (log_was n more)) (λ n more. sym (check_was n more)) (needs was (λ n. left (Check n) refl)) log.start goes.found goes.begins;
          sound = goes.sound;
          marks = goes.marks;
        };
    fresh = log.fresh;
    low = log.low;
    fits = log.fits;
    mirrors = log.mirrors;
  }
    where
      was : Files
      was = mixed least laid folder t.reads

      log_was : (n : ℕ) → least ≤ n → was (Log n) ≡ folder (Log n)
      log_was n more = ap (λ (is : Bool). cond is (folder (Log n)) (t.reads (Log n))) (less_equal least n more)

      check_was : (n : ℕ) → laid ≤ n → was (Check n) ≡ folder (Check n)
      check_was n more = ap (λ (is : Bool). cond is (folder (Check n)) (t.reads (Check n))) (less_equal laid n more)

      left : (name : FileName) → same_name name (Log w.file) ≡ false → Allows (t.now name) (was name)
      left name other = mixed_left t least laid folder name (reads name) (λ from. kept name other from)

      log : Logs was disk.birth w.file s disk.frames records
      log = disk.logs was left

  -- the log is on the disk after files were removed as it was before
  pub disk_pruned : OnDisk u w s records
  disk_pruned = record {
    birth = disk.birth;
    is_birth = disk.is_birth;
    frames = disk.frames;
    rest = record {
      each = disk.rest.each;
      offset = disk.rest.offset;
      reads = (keeps.same (Log w.file) low).1 ∙ disk.rest.reads;
      durable = (keeps.same (Log w.file) low).0 ∙ disk.rest.durable;
    };
    small = disk.small;
    none = λ n high. (keeps.same (Log n) (omega (arith, low, high))).1 ∙ disk.none n high;
    gone = λ n high. (keeps.same (Log n) (omega (arith, low, high))).0 ∙ disk.gone n high;
    logs = λ folder left. pruned_logs folder (λ name other from. subst (λ (e : Entry). Allows e (folder name)) (keeps.same name from).0 (left name other));
  }

  abbrev IsKeptIn : Files → Type 0
  IsKeptIn image = (name : FileName) → IsFrom least laid name → Allows (t.now name) (image name)

  -- at each moment of removing files a crash leaves what is settled
  pub moments_pruned : LeavesOnly t u (RecoversSettled s)
  moments_pruned =
      only_more t u IsKeptIn (RecoversSettled s)
      (λ image kept. settled_recovers s image disk.birth w.file disk.frames records (pruned_logs image (λ name other from. kept name from)) (own_frames t w s records disk (image (Log w.file)) (kept (Log w.file) low))) keeps.images

-- over what a disk shows, if it shows it

-- the channel stays logged after files were removed
pub pruned_logged : (told told' : Option Told) (w : Writer) (busy : ℕ) (s : State) (least laid : ℕ) → WhereTold told (λ t. IsImage t.now t.reads) → Tells told told' (KeepsFrom least laid) → WhereTold told (λ t. least ≤ w.file) → WhereTold told (λ t. AreNeeded t least laid) → IsLogged told w busy s → IsLogged told' w busy s
pruned_logged told told' w busy s least laid reads keeps low needs log = record {
  busy_is = log.busy_is;
  few = log.few;
  room = log.room;
  limit = log.limit;
  waits = λ still.
      let waits = log.waits still in
      record {
        records = waits.records;
        pending = waits.pending;
        disk = λ u new.
            let b = back told told' (KeepsFrom least laid) keeps u new in
            disk_pruned b.0 u w s waits.records (waits.disk b.0 b.1) least laid (reads b.0 b.1) b.2 (low b.0 b.1) (needs b.0 b.1);
      };
}

-- whatever a disk shows, removing files leaves what recovers as settled
pub pruned_moments : (told told' : Option Told) (w : Writer) (busy : ℕ) (s : State) (least laid : ℕ) → WhereTold told (λ t. IsImage t.now t.reads) → Tells told told' (KeepsFrom least laid) → WhereTold told (λ t. least ≤ w.file) → WhereTold told (λ t. AreNeeded t least laid) → IsLogged told w busy s → s.broken ≡ false
    → Tells told told' (λ t u. LeavesOnly t u (RecoversSettled s))
pruned_moments told told' w busy s least laid reads keeps low needs log still =
    let waits = log.waits still in
    tells_more told told' (KeepsFrom least laid) (λ t u. LeavesOnly t u (RecoversSettled s))
    (λ t u old new one. moments_pruned t u w s waits.records (waits.disk t old) least laid (reads t old) one (low t old) (needs t old)) keeps
