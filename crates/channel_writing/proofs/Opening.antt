-- What an opening finds, and what it leaves of the folder.
use Rattle.std.proofs.Common.{◌⊎◌, inl, inr, ◌≡◌, ◌<◌, ◌≤◌, ◌+◌, ◌-◌, ◌^◌, ◌++◌, ◌∷◌, [], ℕ, List, length, max, Option, Some, None, Result, Ok, Err, Bool, true, false, refl, sym, ◌∙◌, ap, subst, arith, append_assoc}
use Rattle.std.specs.Prelude.{IsSome, IsSomeAnd}
use Rattle.std.proofs.lemmas.Bool.{cases_lt}
use Rattle.std.proofs.lemmas.Bool.Decides.{nat_tests}
use Rattle.std.proofs.lemmas.List.{append-nil, get_or_past}
use Rattle.flume_host.specs.Folder.{Allows, Entry, Files, Folder, IsAbove, IsImage, same_name, settle_entry}
use Rattle.flume_host.specs.Told.{Changes, DidPart, IsLeftAt, Leads, LeavesOnly, OneFile, Settle, Tells, Told, WhereTold, clock, done}
use Rattle.flume_host.specs.declared.names.Failed.{Failed}
use Rattle.flume_host.specs.declared.names.FileName.{FileName}
use Rattle.flume_host.specs.declared.names.FileName.TheVariants.{Log}
use Rattle.flume_host.proofs.Images.{same_name_is}
use Rattle.flume_host.proofs.Telling.{back, follows, forth, tells_more}
use Rattle.flume_host.proofs.Moments.{clock_rises, earlier, goes_on, started}
use Rattle.event_core.specs.Journal.{Base}
use Rattle.channel_log.specs.Frames.{Blank, Holds}
use Rattle.channel_log.specs.Window.{nothing_kept}
use Rattle.channel_log.specs.Writer.{IsAtRest, IsBlank, IsReady, IsUnused, Writer}
use Rattle.channel_face.specs.Machine.{State}
use Rattle.channel_replay.specs.declared.line.Line.{Line}
use Rattle.channel_replay.specs.Marks.{Dropped, Past, journal, next_txn}
use Rattle.channel_replay.specs.Recover.{StandsFrom, past_lines}
use Rattle.channel_replay.specs.Start.{IsStart, Start, start_past}
use Rattle.channel_replay.proofs.Ordered.{ordered_lines}
use Rattle.channel_replay.proofs.Starts.{start_ordered}
use Rattle.checkpoint.specs.Newest.{IsNewest}
use Rattle.checkpoint_reading.specs.Fields.{IsFault}
use Rattle.checkpoint_recovery.specs.Recovers.{BeginsAt, IsBadLogFrom}
use Rattle.checkpoint_opening.specs.declared.refused.OpeningRefused.{OpeningRefused}
use Rattle.checkpoint_opening.specs.declared.refused.OpeningRefused.TheVariants as openings
use Rattle.checkpoint_opening.specs.Laws.{Grows}
use Rattle.checkpoint_opening.specs.Opening.{Leaves, WhereBadCheck, WhereBadLog, WhereOver}
use Rattle.checkpoint_opening.proofs.Begun.{begins_are_starts}
use Rattle.checkpoint_opening.proofs.Growing.{grown_begins, other_log}
use Rattle.checkpoint_opening.proofs.Once.{first_low}
use Rattle.channel_writing.specs.Folders.{AreSame, FailsToSettle, GainsLog, IsAsBefore, IsBegun, IsNextFile, Opens, OpensFrom, OpensOver, OpensTo, Refuses, as_cause, log_name}
use Rattle.channel_writing.specs.Mirrors.{Mirrors}
use Rattle.channel_writing.specs.Written.{IsFresh, IsLogged, OnDisk}
use Rattle.channel_writing.proofs.Flushing.{as_read}
use Rattle.channel_writing.proofs.Recovering.{grown_goes}

-- names

-- how far the names of log files were gone through
abbrev pub IsLogThere : Files → Option ℕ → Type 0
IsLogThere files None = Unit {0}
IsLogThere files (Some number) = IsSome (files (Log number))

abbrev pub floor_of : Option ℕ → ℕ
floor_of None = 0
floor_of (Some number) = number + 1

-- whether the disk was gone through so far
pub record LogsOn (was told : Option Told) (before now : ℕ) (last : Option ℕ) : Type 0 where
  pub same : told ≡ was
  pub well : now ≡ before
  pub there : WhereTold was (λ t. IsLogThere t.reads last)

-- a log file above the last one found has at least the next number
pub above_floor : (last : Option ℕ) (n : ℕ) → IsAbove (log_name last) (Log n) → floor_of last ≤ n
above_floor None n above = omega arith
above_floor (Some m) n above = grind (arith, nat_tests)

-- a log file that counts as empty changes nothing

same_begins : (files folder : Files) (start : Start) (found : List Line) → AreSame files folder → BeginsAt files start found → BeginsAt folder start found
same_begins files folder start found same begins =
    let is : files ≡ folder = λ i. λ (name : FileName). sym (same name) i in
    subst (λ (f : Files). BeginsAt f start found) is begins

blank_begins : (files folder : Files) (start : Start) (found : List Line) → GainsLog files (λ number file. IsBlank file) folder → BeginsAt files start found → BeginsAt folder start found
blank_begins files folder start found g begins = by_file (folder (Log g.number)) refl g.last
  where
    none_there : folder (Log g.number) ≡ None → AreSame files folder
    none_there is name = from (same_name name (Log g.number)) refl
      where
        from : (b : Bool) → same_name name (Log g.number) ≡ b → folder name ≡ files name
        from false differs = g.others name differs
        from true same = subst (λ (n : FileName). folder n ≡ files n) (sym (same_name_is name (Log g.number) same)) (is ∙ sym (g.next.none g.number (omega arith)))

    by_file : (file : Option (List ℕ)) → folder (Log g.number) ≡ file → IsBlank file → BeginsAt folder start found
    by_file None is blank = same_begins files folder start found (none_there is) begins
    by_file (Some bytes) is blank =
        let grows : Grows files folder g.number Blank = record {
          small = omega (arith, g.next.small);
          none = g.next.none;
          holds = subst (λ (o : Option (List ℕ)). IsSomeAnd o (λ b. Holds g.number b Blank)) (sym is) blank;
          others = g.others;
        } in
        subst (λ (l : List Line). BeginsAt folder start l) (append-nil found) (grown_begins files folder g.number Blank start found grows begins)

-- what an opening leaves of a folder begins as the folder did
as_before_begins : (files folder : Files) (start : Start) (found : List Line) → IsAsBefore files folder → BeginsAt files start found → BeginsAt folder start found
as_before_begins files folder start found (inl same) begins = same_begins files folder start found same begins
as_before_begins files folder start found (inr gains) begins = blank_begins files folder start found gains begins

-- a folder that opens within a capacity opens to what it has
pub opens_to : (files : Files) (capacity : ℕ) (base : Base) (txn : ℕ) → Opens files capacity base txn → OpensTo files base txn
opens_to files capacity base txn opens = (opens.recovers, opens.fits)

-- so it opens to the same
pub as_before_opens : (files folder : Files) (left : Base) (txn : ℕ) → IsAsBefore files folder → OpensTo files left txn → OpensTo folder left txn
as_before_opens files folder left txn as_before (r, fits) = (record { start = r.start; found = r.found; begins = as_before_begins files folder r.start r.found as_before r.begins; stands = r.stands }, fits)

-- images and files during an opening

-- what a crash leaves during one run and during the next, it leaves during both
pub joined : (t u v : Told) (P : Files → Type 0) → LeavesOnly t u P → LeavesOnly u v P → LeavesOnly t v P
joined t u v P a b = record {
  more = a.more ++ b.more;
  past = b.past ∙ (ap (λ (l : List Folder). l ++ b.more) a.past ∙ append_assoc t.past a.more b.more);
  each = λ m image low left. by_place m image low left (cases_lt m (clock u));
}
  where
    by_place : (m : ℕ) (image : Files) → clock t ≤ m → IsLeftAt v m image → (m < clock u) ⊎ (clock u ≤ m) → P image
    by_place m image low left (inl before) = a.each m image low (earlier u v P b m image before left)
    by_place m image low left (inr since) = b.each m image since left

-- what a crash leaves has also what follows from it
pub only_more : (t u : Told) (P Q : Files → Type 0) → ((image : Files) → P image → Q image) → LeavesOnly t u P → LeavesOnly t u Q
only_more t u P Q maps is = record { more = is.more; past = is.past; each = λ m image low left. maps image (is.each m image low left) }

settled_image : (t : Told) (image : Files) → IsImage (done Settle t).now image → AreSame t.reads image
settled_image t image are name = as_read (t.reads name) (image name) (are name)

abbrev pub EitherImage : Told → Files → Type 0
EitherImage t image = IsImage t.now image ⊎ IsAsBefore t.reads image

-- the settle alone
settles_over : (result : Result (Unit {0}) Failed) (t u : Told) → IsImage t.now t.reads → Leads Settle result t u → OpensOver t u
settles_over result t u reads leads = goes_on Settle result t t u (EitherImage t) reads tt (started t (EitherImage t) (λ image left. inl left)) leads (λ image left. inl left)

settled_from : (t : Told) → OpensFrom t (done Settle t)
settled_from t = started (done Settle t) (IsAsBefore t.reads) (λ image left. inl (settled_image t image left))

-- the file that is begun
gained : (t : Told) (number : ℕ) (image : Files) → IsNextFile t.reads number → OneFile (done Settle t).now (Log number) IsBlank image → IsAsBefore t.reads image
gained t number image next one = inr (record { number = number; next = next; last = one.file; others = λ name other. as_read (t.reads name) (image name) (one.others name other) })

begins_from : (t v : Told) (number : ℕ) → IsNextFile t.reads number → Changes (Log number) IsBlank 1 (done Settle t) v → OpensFrom t v
begins_from t v number next changes = only_more (done Settle t) v (OneFile (done Settle t).now (Log number) IsBlank) (IsAsBefore t.reads) (λ image one. gained t number image next one) changes.images

settle_over : (t : Told) → IsImage t.now t.reads → OpensOver t (done Settle t)
settle_over t reads = settles_over (Ok tt) t (done Settle t) reads (record { ok = refl; err = tt })

begins_over : (t v : Told) (number : ℕ) → IsImage t.now t.reads → IsNextFile t.reads number → Changes (Log number) IsBlank 1 (done Settle t) v → OpensOver t v
begins_over t v number reads next changes =
    joined t (done Settle t) v (EitherImage t) (settle_over t reads) (only_more (done Settle t) v (IsAsBefore t.reads) (EitherImage t) (λ image is. inr is) (begins_from t v number next changes))

begin_stays : (t v : Told) (number : ℕ) → IsNextFile t.reads number → IsImage v.now v.reads → Changes (Log number) IsBlank 1 (done Settle t) v → IsAsBefore t.reads v.reads
begin_stays t v number next reads changes =
    gained t number v.reads next (changes.images.each (clock v) v.reads (clock_rises (done Settle t) v (OneFile (done Settle t).now (Log number) IsBlank) changes.images) (subst (λ (f : Folder). IsImage f v.reads) (sym (get_or_past v.past (clock v) v.now (omega arith))) reads))

begun_gains : (t v : Told) (number : ℕ) → IsNextFile t.reads number → Changes (Log number) IsBlank 1 (done Settle t) v → IsAtRest v 1 number 16 [] → GainsLog t.reads IsBegun v.reads
begun_gains t v number next changes rest = record { number = number; next = next; last = rest.reads; others = λ name other. (changes.others name other).1 }

-- the log of a channel in it

begun_mirrors : (s : State) (start : Start) (found : List Line) (base : Base) (txn : ℕ) → IsFresh s base txn → IsStart start → StandsFrom start found base txn → txn ≤ 2 ^ 64 - 1 → 1 ≤ txn → Mirrors start.base s (Dropped ∷ past_lines (start_past start) found) []
begun_mirrors s start found base txn fresh is stands most some =
    let past : Past = past_lines (start_past start) found in
    record {
      base = fresh.base_is ∙ stands.left_is;
      earlier = (ordered_lines start.base (start_past start) found stands.sound (start_ordered start is)).taken;
      staged = sym (append-nil (journal past)) ∙ ap (λ (l : List _). journal past ++ l) (sym fresh.staged);
      each = λ n. rw fresh.opened refl;
      as_many = rw fresh.opened refl;
      next = later (next_txn past) start.txn stands.txn_is;
      legal = tt;
      low = rw fresh.opened tt;
      below = rw fresh.opened tt;
      apart = rw fresh.opened tt;
      high = (omega (arith, fresh.txn_is, some), omega (arith, fresh.txn_is, most));
      few = omega (arith, ap (λ (l : List _). length l) fresh.opened);
    }
  where
    later : (a b : ℕ) → txn ≡ max b a → a ≤ s.txn
    later a b same = let t = fresh.txn_is in grind (arith, same, t)

fresh_low : (s : State) (start : Start) (found : List Line) (base : Base) (txn : ℕ) → IsFresh s base txn → StandsFrom start found base txn → start.txn ≤ s.txn
fresh_low s start found base txn fresh stands = later start.txn (next_txn (past_lines (start_past start) found)) stands.txn_is
  where
    later : (a b : ℕ) → txn ≡ max a b → a ≤ s.txn
    later a b same = let t = fresh.txn_is in grind (arith, same, t)

begun_on_disk : (t v : Told) (w : Writer) (s : State) (base : Base) (txn number : ℕ) → IsFresh s base txn → OpensTo t.reads base txn → txn ≤ 2 ^ 64 - 1 → 1 ≤ txn → IsNextFile t.reads number
    → Changes (Log number) IsBlank 1 (done Settle t) v → IsAtRest v 1 number 16 [] → w.file ≡ number → w.gate ≡ 16 → OnDisk v w s []
begun_on_disk t v w s base txn number fresh opens most some next changes rest file gate =
    let r = opens.0 in
    let was : (name : FileName) → same_name name (Log number) ≡ false → v.now name ≡ settle_entry (t.reads name) = λ name differs. (changes.others name differs).0 in
    rw file (record {
      birth = 1;
      is_birth = inl refl;
      frames = [];
      rest = rw gate rest;
      small = omega (arith, next.small);
      none = λ n more. (changes.others (Log n) (other_log n number (λ same. omega (arith, more, same)))).1 ∙ next.none n (omega (arith, more));
      gone = λ n more. was (Log n) (other_log n number (λ same. omega (arith, more, same))) ∙ ap settle_entry (next.none n (omega (arith, more)));
      logs = λ folder others. record {
        start = r.start;
        past = Dropped ∷ past_lines (start_past r.start) r.found;
        goes = λ more has.
            grown_goes t.reads folder r.start r.found 1 number more (inl refl) (omega (arith, next.small)) next.none
            (λ name differs. as_read (t.reads name) (folder name) (subst (λ (e : Entry). Allows e (folder name)) (was name differs) (others name differs)))
            r.begins r.stands.sound has;
        fresh = λ first none. refl;
        low = fresh_low s r.start r.found base txn fresh r.stands;
        fits = first_low r.start r.found base txn (2 ^ 64) r.stands opens.1.0;
        mirrors = begun_mirrors s r.start r.found base txn fresh (begins_are_starts t.reads r.start r.found r.begins) r.stands most some;
      };
    })

-- the same over what a disk shows, if anything

abbrev pub SettledAs : Told → Told → Type 0
SettledAs t u = u ≡ done Settle t

-- what reads give is an image
abbrev pub ReadsAreLeft : Option Told → Type 0
ReadsAreLeft told = WhereTold told (λ t. IsImage t.now t.reads)

abbrev pub BeginsFile : ℕ → Told → Told → Type 0
BeginsFile number t u = Changes (Log number) IsBlank 1 t u

-- a settle that succeeded, with nothing called after it, is all that was done
pub has_settled : (told told' later : Option Told) → Tells told told' (Leads {T = Unit {0}} Settle (Ok tt)) → later ≡ told' → Tells told later SettledAs
has_settled told told' later does same = subst (λ (v : Option Told). Tells told v SettledAs) (sym same) (tells_more told told' (Leads {T = Unit {0}} Settle (Ok tt)) SettledAs (λ t u old new leads. leads.ok) does)

-- a crash during an opening that only settled the disk leaves what it could before, or what was read
pub refused_over : (told told' : Option Told) → ReadsAreLeft told → Tells told told' SettledAs → Tells told told' OpensOver
refused_over told told' reads is = tells_more told told' SettledAs OpensOver (λ t u old new same. subst (λ (v : Told). OpensOver t v) (sym same) (settle_over t (reads t old))) is

-- since an opening settled the disk and did no more, a crash leaves what was read
pub refused_from : (told told' : Option Told) → Tells told told' SettledAs → Tells told told' OpensFrom
refused_from told told' is = tells_more told told' SettledAs OpensFrom (λ t u old new same. subst (λ (v : Told). OpensFrom t v) (sym same) (settled_from t)) is

-- what was read of the folder once it was settled
pub as_settled : (told told' : Option Told) (P : Files → Type 0) → Tells told told' SettledAs → WhereTold told' (λ t. P t.reads) → WhereTold told (λ t. P t.reads)
as_settled told told' P is read t old =
    let f = forth told told' SettledAs is t old in
    subst (λ (v : Told). P v.reads) f.2 (read f.0 f.1)

-- the number after the last log file, once the disk was settled, is of no file, nor can a crash leave one
pub is_unused : (told told' : Option Told) (number : ℕ) → Tells told told' SettledAs → WhereTold told' (λ t. IsNextFile t.reads number) → IsUnused told' number
is_unused told told' number is next u new =
    let b = back told told' SettledAs is u new in
    let none : u.reads (Log number) ≡ None = (next u new).none number (omega arith) in
    (none, ap (λ (v : Told). v.now (Log number)) b.2 ∙ ap settle_entry (sym (ap (λ (v : Told). v.reads (Log number)) b.2) ∙ none))

next_at : (told told' : Option Told) (number : ℕ) → Tells told told' SettledAs → WhereTold told' (λ t. IsNextFile t.reads number) → WhereTold told (λ t. IsNextFile t.reads number)
next_at told told' number is next = as_settled told told' (λ files. IsNextFile files number) is next

changes_of : (t u v : Told) (number : ℕ) → u ≡ done Settle t → BeginsFile number u v → BeginsFile number (done Settle t) v
changes_of t u v number same changes = subst (λ (x : Told). BeginsFile number x v) same changes

-- a crash while an opening begins its log file leaves what it could before, or what was read with that file
pub begun_over : (told told' later : Option Told) (number : ℕ) → ReadsAreLeft told → Tells told told' SettledAs → WhereTold told' (λ t. IsNextFile t.reads number) → Tells told' later (BeginsFile number) → Tells told later OpensOver
begun_over told told' later number reads is next begins =
    follows told told' later SettledAs (BeginsFile number) OpensOver
    (λ t u v old mid new same changes. begins_over t v number (reads t old) (next_at told told' number is next t old) (changes_of t u v number same changes)) is begins

-- since an opening settled the disk, a crash while it begins its log file leaves what was read, or that with the file
pub begun_from : (told told' later : Option Told) (number : ℕ) → Tells told told' SettledAs → WhereTold told' (λ t. IsNextFile t.reads number) → Tells told' later (BeginsFile number) → Tells told later OpensFrom
begun_from told told' later number is next begins =
    follows told told' later SettledAs (BeginsFile number) OpensFrom
    (λ t u v old mid new same changes. begins_from t v number (next_at told told' number is next t old) (changes_of t u v number same changes)) is begins

-- an opening that begins its log file leaves all the other files as they were
pub begun_stays : (told told' later : Option Told) (number : ℕ) → ReadsAreLeft later → Tells told told' SettledAs → WhereTold told' (λ t. IsNextFile t.reads number) → Tells told' later (BeginsFile number) → Tells told later (λ t u. IsAsBefore t.reads u.reads)
begun_stays told told' later number reads is next begins =
    follows told told' later SettledAs (BeginsFile number) (λ t u. IsAsBefore t.reads u.reads)
    (λ t u v old mid new same changes. begin_stays t v number (next_at told told' number is next t old) (reads v new) (changes_of t u v number same changes)) is begins

begun_disk : (told told' later : Option Told) (w : Writer) (s : State) (base : Base) (txn number : ℕ) → IsFresh s base txn → WhereTold told (λ t. OpensTo t.reads base txn) → txn ≤ 2 ^ 64 - 1 → 1 ≤ txn → Tells told told' SettledAs
    → WhereTold told' (λ t. IsNextFile t.reads number) → Tells told' later (BeginsFile number) → IsReady later 1 number 16 [] → w.file ≡ number → w.gate ≡ 16 → (v : Told) → later ≡ Some v → OnDisk v w s []
begun_disk told told' later w s base txn number fresh recovers most some is next begins ready file gate v new =
    let b = back told' later (BeginsFile number) begins v new in
    let a = back told told' SettledAs is b.0 b.1 in
    begun_on_disk a.0 v w s base txn number fresh (recovers a.0 a.1) most some (next_at told told' number is next a.0 a.1) (changes_of a.0 b.0 v number a.2 b.2) (ready v new) file gate

-- the log file that an opening began, without a frame yet, has the state that was opened
pub begun_logged : (told told' later : Option Told) (w : Writer) (s : State) (base : Base) (txn number most_bytes : ℕ) → IsFresh s base txn → s.rules.limits.max_file ≡ most_bytes → WhereTold told (λ t. OpensTo t.reads base txn) → txn ≤ 2 ^ 64 - 1 → 1 ≤ txn → Tells told told' SettledAs
    → WhereTold told' (λ t. IsNextFile t.reads number) → Tells told' later (BeginsFile number) → IsReady later 1 number 16 [] → w ≡ record { file = number; gate = 16; max_file = most_bytes; started = false; bytes = []; count = 0; kept = nothing_kept } → IsLogged later w 0 s
begun_logged told told' later w s base txn number most_bytes fresh limit recovers most some is next begins ready writer =
    let bytes : w.bytes ≡ [] = ap (λ (x : Writer). x.bytes) writer in
    record {
      busy_is = rw fresh.opened refl;
      few = omega (arith, ap (λ (l : List _). length l) fresh.opened);
      room = omega (arith, ap (λ (l : List ℕ). length l) bytes);
      limit = ap (λ (x : Writer). x.max_file) writer ∙ sym limit;
      waits = λ _. record {
        records = [];
        pending = record { spelled = bytes; counted = ap (λ (x : Writer). x.count) writer; each = tt };
        disk = begun_disk told told' later w s base txn number fresh recovers most some is next begins ready (ap (λ (x : Writer). x.file) writer) (ap (λ (x : Writer). x.gate) writer);
      };
    }

-- of an opening that was refused

-- why the folder could not be read is why it is not opened
pub of_refused : (files : Files) (capacity : ℕ) (e : OpeningRefused) → WhereBadCheck e (λ file at. IsNewest files (Some file) × IsFault files file at) → WhereBadLog e (λ file at. IsBadLogFrom files file at) → WhereOver e (λ count. (capacity < count) × Leaves files count)
    → Refuses files capacity (as_cause e)
of_refused files capacity openings.DiskFault check log over = tt
of_refused files capacity (openings.BadCheck file at) check log over = check
of_refused files capacity (openings.BadLog file at) check log over = log
of_refused files capacity (openings.OverCapacity count) check log over =
    let left = over.1 in
    (left.0, left.1, left.2, (left.3, subst (λ (n : ℕ). capacity < n) left.3 over.0))
of_refused files capacity openings.NoMemory check log over = tt

-- what follows from a fault of a checkpoint
pub check_maps : (e : OpeningRefused) (P Q : ℕ → ℕ → Type 0) → ((file at : ℕ) → P file at → Q file at) → WhereBadCheck e P → WhereBadCheck e Q
check_maps openings.DiskFault P Q maps is = tt
check_maps (openings.BadCheck file at) P Q maps is = maps file at is
check_maps (openings.BadLog file at) P Q maps is = tt
check_maps (openings.OverCapacity count) P Q maps is = tt
check_maps openings.NoMemory P Q maps is = tt

-- what follows from a fault of the log
pub log_maps : (e : OpeningRefused) (P Q : ℕ → ℕ → Type 0) → ((file at : ℕ) → P file at → Q file at) → WhereBadLog e P → WhereBadLog e Q
log_maps openings.DiskFault P Q maps is = tt
log_maps (openings.BadCheck file at) P Q maps is = tt
log_maps (openings.BadLog file at) P Q maps is = maps file at is
log_maps (openings.OverCapacity count) P Q maps is = tt
log_maps openings.NoMemory P Q maps is = tt

-- what follows from too many events
pub over_maps : (e : OpeningRefused) (P Q : ℕ → Type 0) → ((count : ℕ) → P count → Q count) → WhereOver e P → WhereOver e Q
over_maps openings.DiskFault P Q maps is = tt
over_maps (openings.BadCheck file at) P Q maps is = tt
over_maps (openings.BadLog file at) P Q maps is = tt
over_maps (openings.OverCapacity count) P Q maps is = maps count is
over_maps openings.NoMemory P Q maps is = tt

-- what a settle that failed did
pub unsettled : (told told' : Option Told) (e : Failed) → Tells told told' (Leads {T = Unit {0}} Settle (Err e)) → FailsToSettle told told'
unsettled told told' e leads = tells_more told told' (Leads {T = Unit {0}} Settle (Err e)) (λ t u. (u ≡ t) ⊎ DidPart Settle t u) (λ t u _ _ l. l.err) leads
