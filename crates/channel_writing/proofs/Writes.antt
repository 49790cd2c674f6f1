-- Records that are written, and the disk's log of a state.
use Rattle.std.proofs.Common.{◌≡◌, ◌≤◌, ◌+◌, ◌-◌, ◌*◌, ◌^◌, ◌++◌, ◌∷◌, [], ℕ, suc, List, length, length-append, Option, Some, Bool, false, ◌==◌, cond, refl, sym, ◌∙◌, ap, subst, arith, append_assoc}
use Rattle.std.proofs.lemmas.List.{append-nil}
use Rattle.std.specs.List.{AllByRecursion}
use Rattle.flume_host.specs.Told.{Told}
use Rattle.event_core.specs.Content.{Content}
use Rattle.event_core.specs.Journal.{Base}
use Rattle.event_core.specs.declared.journal.Entry.{Entry}
use Rattle.event_core.specs.declared.journal.Entry.TheVariants.{Puts, Takes}
use Rattle.record_form.specs.declared.record.Rec.{Rec}
use Rattle.record_form.specs.declared.record.Rec.TheVariants.{Put, Take, Rollback, CommitPut, CommitTake}
use Rattle.record_form.specs.Record.{record_length, spelling}
use Rattle.record_form.proofs.Again.{length-spelling}
use Rattle.std.proofs.lemmas.Bool.Decides.{nat_tests}
use Rattle.channel_log.specs.Frames.{IsFramed, record_bytes}
use Rattle.channel_log.specs.Writer.{Appends, HasRoom, IsPending, Writer}
use Rattle.channel_face.specs.Machine.{State, close, entry_of, free, next_number, stage, with_entry, without_entry}
use Rattle.channel_replay.specs.Marks.{Past}
use Rattle.channel_replay.specs.StartLaws.{done_of}
use Rattle.channel_writing.specs.Mirrors.{Mirrors, busy, one_if_done}
use Rattle.channel_writing.specs.Written.{IsLogged, OnDisk, Waits, kept}
use Rattle.channel_writing.proofs.Opens.{busy_with, busy_without, length_with, length_without, one_done}
use Rattle.channel_writing.proofs.Mirroring.{put_mirrored}
use Rattle.channel_writing.proofs.Taking.{take_mirrored}
use Rattle.channel_writing.proofs.Ending.{rollback_mirrored, stage_put_mirrored, stage_take_mirrored}

bytes-push : (records : List Rec) (rec : Rec) → record_bytes (records ++ rec ∷ []) ≡ record_bytes records ++ spelling rec
bytes-push [] rec = append-nil (spelling rec)
bytes-push (x ∷ records) rec = ap (λ (l : List ℕ). spelling x ++ l) (bytes-push records rec) ∙ sym (append_assoc (spelling x) (record_bytes records) (spelling rec))

all-push : (records : List Rec) (rec : Rec) → AllByRecursion IsFramed records → IsFramed rec → AllByRecursion IsFramed (records ++ rec ∷ [])
all-push [] rec all last = (last, tt)
all-push (x ∷ records) rec all last = (all.0, all-push records rec all.1 last)

pending-push : (w w' : Writer) (records : List Rec) (rec : Rec) → IsPending w records → Appends w w' rec → IsPending w' (records ++ rec ∷ [])
pending-push w w' records rec pending adds = record {
  spelled = ap (λ (v : Writer). v.bytes) adds.is ∙ (ap (λ (l : List ℕ). l ++ spelling rec) pending.spelled ∙ sym (bytes-push records rec));
  counted = ap (λ (v : Writer). v.count) adds.is ∙ omega (arith, pending.counted, length-append records (rec ∷ []));
  each = all-push records rec pending.each adds.framed;
}

-- the disk has the log of another state, whose changes these records mirror
pub disk_steps : (t : Told) (w : Writer) (s s' : State) (records records' : List Rec) → OnDisk t w s records → s.txn ≤ s'.txn → ((start : Base) (settled : Past) → Mirrors start s settled records → Mirrors start s' settled records') → OnDisk t w s' records'
disk_steps t w s s' records records' disk up step = record {
  birth = disk.birth;
  is_birth = disk.is_birth;
  frames = disk.frames;
  rest = disk.rest;
  small = disk.small;
  none = disk.none;
  gone = disk.gone;
  logs = λ folder others.
      let log = disk.logs folder others in
      record { start = log.start; past = log.past; goes = log.goes; fresh = log.fresh; low = omega (arith, log.low, up); fits = log.fits; mirrors = step log.start.base log.past log.mirrors };
}

-- and of another writer that is at the same place
pub disk_there : (t : Told) (w w' : Writer) (s : State) (records : List Rec) → OnDisk t w s records → w'.file ≡ w.file → w'.gate ≡ w.gate → OnDisk t w' s records
disk_there t w w' s records disk file gate = record {
  birth = disk.birth;
  is_birth = disk.is_birth;
  frames = disk.frames;
  rest = rw (file, gate) disk.rest;
  small = rw file disk.small;
  none = rw file disk.none;
  gone = rw file disk.gone;
  logs = rw file disk.logs;
}

-- a record more waits, which mirrors a step of the state
waits_more : (told : Option Told) (w w' : Writer) (s s' : State) (rec : Rec) → Waits told w s → Appends w w' rec → s.txn ≤ s'.txn → ((start : Base) (settled : Past) (records : List Rec) → Mirrors start s settled records → Mirrors start s' settled (records ++ rec ∷ [])) → Waits told w' s'
waits_more told w w' s s' rec waits adds up step =
    let file : w'.file ≡ w.file = ap (λ (v : Writer). v.file) adds.is in
    let gate : w'.gate ≡ w.gate = ap (λ (v : Writer). v.gate) adds.is in
    record {
      records = waits.records ++ rec ∷ [];
      pending = pending-push w w' waits.records rec waits.pending adds;
      disk = λ t is. disk_there t w w' s' (waits.records ++ rec ∷ []) (disk_steps t w s s' waits.records (waits.records ++ rec ∷ []) (waits.disk t is) up (λ start settled. step start settled waits.records)) file gate;
    }

longer_by : (w w' : Writer) (rec : Rec) → Appends w w' rec → length w'.bytes ≡ length w.bytes + length (spelling rec)
longer_by w w' rec adds = ap (λ (v : Writer). length v.bytes) adds.is ∙ length-append w.bytes (spelling rec)

-- and so many bytes more
pub longer : (w w' : Writer) (rec : Rec) → Appends w w' rec → length w'.bytes ≡ length w.bytes + record_length rec
longer w w' rec adds = omega (arith, longer_by w w' rec adds, length-spelling rec)

same_limit : (w w' : Writer) (rec : Rec) → Appends w w' rec → w'.max_file ≡ w.max_file
same_limit w w' rec adds = ap (λ (v : Writer). v.max_file) adds.is

not_zero : (n : ℕ) → (suc n == 0) ≡ false
not_zero n = grind (arith, nat_tests)

first_done : (events : List Content) (first : Bool) → first ≡ (length events == 0) → one_done (Puts events) + cond first 1 0 ≡ 1
first_done [] first is = rw is refl
first_done (e ∷ events) first is = let no : (length (e ∷ events) == 0) ≡ false = not_zero (length events) in ap (λ (b : Bool). 1 + cond b 1 0) (is ∙ no)

first_taken : (numbers : List ℕ) (first : Bool) → first ≡ (length numbers == 0) → one_done (Takes numbers) + cond first 1 0 ≡ 1
first_taken [] first is = rw is refl
first_taken (n ∷ numbers) first is = let no : (length (n ∷ numbers) == 0) ≡ false = not_zero (length numbers) in ap (λ (b : Bool). 1 + cond b 1 0) (is ∙ no)

last_done : (events : List Content) (event : Content) → one_done (Puts (events ++ event ∷ [])) ≡ 1
last_done [] event = refl
last_done (e ∷ events) event = refl

last_taken : (numbers : List ℕ) (n : ℕ) → one_done (Takes (numbers ++ n ∷ [])) ≡ 1
last_taken [] n = refl
last_taken (x ∷ numbers) n = refl

-- room is kept for each that is open
room_after : (w w' : Writer) (rec : Rec) (b b' : ℕ) (first : Bool) → Appends w w' rec → b' ≡ b + cond first 1 0 → HasRoom w (record_length rec + kept b first) → length w'.bytes + 21 * b' + 6 ≤ 2097152
room_after w w' rec b b' first adds more room = rw more (omega (arith, longer_by w w' rec adds, length-spelling rec, room))

-- the log has the state with one event more put
pub put_logged : (told : Option Told) (w w' : Writer) (b b' : ℕ) (s : State) (txn : ℕ) (events : List Content) (event : Content) (first : Bool) → IsLogged told w b s → entry_of txn s.opened ≡ Some (Puts events) → first ≡ (length events == 0)
    → Appends w w' (Put txn event) → b' ≡ b + cond first 1 0 → HasRoom w (record_length (Put txn event) + kept b first) → IsLogged told w' b' (record s { opened = with_entry txn (Puts (events ++ event ∷ [])) s.opened })
put_logged told w w' b b' s txn events event first log is is_first adds more room =
    let new : Entry = Puts (events ++ event ∷ []) in
    record {
      busy_is = omega (arith, log.busy_is, more, busy_with s.opened txn (Puts events) new is, first_done events first is_first, last_done events event);
      few = omega (arith, log.few, length_with s.opened txn new);
      room = room_after w w' (Put txn event) b b' first adds more room;
      limit = same_limit w w' (Put txn event) adds ∙ log.limit;
      waits = λ whole. waits_more told w w' s (record s { opened = with_entry txn new s.opened }) (Put txn event) (log.waits whole) adds (omega arith) (λ start settled records m. put_mirrored start s settled records txn events event m is);
    }

-- the log has the state with one event more taken
pub take_logged : (told : Option Told) (w w' : Writer) (b b' : ℕ) (s : State) (txn : ℕ) (numbers : List ℕ) (item : ℕ × Content) (rest : List (ℕ × Content)) (first : Bool) → IsLogged told w b s → entry_of txn s.opened ≡ Some (Takes numbers) → free s ≡ item ∷ rest → first ≡ (length numbers == 0)
    → Appends w w' (Take txn item.0) → b' ≡ b + cond first 1 0 → HasRoom w (record_length (Take txn item.0) + kept b first) → IsLogged told w' b' (record s { opened = with_entry txn (Takes (numbers ++ item.0 ∷ [])) s.opened })
take_logged told w w' b b' s txn numbers item rest first log is free_is is_first adds more room =
    let new : Entry = Takes (numbers ++ item.0 ∷ []) in
    record {
      busy_is = omega (arith, log.busy_is, more, busy_with s.opened txn (Takes numbers) new is, first_taken numbers first is_first, last_taken numbers item.0);
      few = omega (arith, log.few, length_with s.opened txn new);
      room = room_after w w' (Take txn item.0) b b' first adds more room;
      limit = same_limit w w' (Take txn item.0) adds ∙ log.limit;
      waits = λ whole. waits_more told w w' s (record s { opened = with_entry txn new s.opened }) (Take txn item.0) (log.waits whole) adds (omega arith) (λ start settled records m. take_mirrored start s settled records txn numbers item rest m is free_is);
    }

rollback_length : (txn : ℕ) → length (spelling (Rollback txn)) ≡ 9
rollback_length txn = length-spelling (Rollback txn)

commit_put_length : (txn first count : ℕ) → length (spelling (CommitPut txn first count)) ≡ 21
commit_put_length txn first count = length-spelling (CommitPut txn first count)

commit_take_length : (txn count : ℕ) → length (spelling (CommitTake txn count)) ≡ 13
commit_take_length txn count = length-spelling (CommitTake txn count)

-- a transaction that did something is one of the busy ones
pub is_busy : (told : Option Told) (w : Writer) (b : ℕ) (s : State) (txn : ℕ) (entry : Entry) → IsLogged told w b s → entry_of txn s.opened ≡ Some entry → done_of (Some entry) ≡ Some entry → 1 ≤ b
is_busy told w b s txn entry log is busy_one = omega (arith, log.busy_is, busy_without s.opened txn entry is, ap one_if_done busy_one)

-- the log has the state without a transaction that was given up
pub rollback_logged : (told : Option Told) (w w' : Writer) (b b' : ℕ) (s : State) (txn : ℕ) (entry : Entry) → IsLogged told w b s → entry_of txn s.opened ≡ Some entry → done_of (Some entry) ≡ Some entry
    → Appends w w' (Rollback txn) → b' + 1 ≡ b → IsLogged told w' b' (close txn s)
rollback_logged told w w' b b' s txn entry log is busy_one adds fewer =
    record {
      busy_is = omega (arith, log.busy_is, fewer, busy_without s.opened txn entry is, ap one_if_done busy_one);
      few = omega (arith, log.few, length_without s.opened txn);
      room = omega (arith, log.room, fewer, longer_by w w' (Rollback txn) adds, rollback_length txn);
      limit = same_limit w w' (Rollback txn) adds ∙ log.limit;
      waits = λ whole. waits_more told w w' s (close txn s) (Rollback txn) (log.waits whole) adds (omega arith) (λ start settled records m. rollback_mirrored start s settled records txn entry m is busy_one);
    }

-- some puts are something done
pub puts_done : (events : List Content) → 1 ≤ length events → done_of (Some (Puts events)) ≡ Some (Puts events)
puts_done [] some = absurd (omega (arith, some))
puts_done (e ∷ events) some = refl

-- some takes are something done
pub takes_done : (numbers : List ℕ) → 1 ≤ length numbers → done_of (Some (Takes numbers)) ≡ Some (Takes numbers)
takes_done [] some = absurd (omega (arith, some))
takes_done (n ∷ numbers) some = refl

-- what is staged is open no more, and all else is as before
record IsStaged (s s' : State) (txn : ℕ) : Type 0 where
  opened : s'.opened ≡ without_entry txn s.opened
  broken : s'.broken ≡ s.broken
  limit : s'.rules.limits.max_file ≡ s.rules.limits.max_file
  up : s.txn ≤ s'.txn

staged_puts : (s : State) (txn : ℕ) (events : List Content) → 1 ≤ length events → IsStaged s (stage txn (Some (Puts events)) s) txn
staged_puts s txn [] some = absurd (omega (arith, some))
staged_puts s txn (e ∷ events) some = record { opened = refl; broken = refl; limit = refl; up = omega arith }

staged_takes : (s : State) (txn : ℕ) (numbers : List ℕ) → 1 ≤ length numbers → IsStaged s (stage txn (Some (Takes numbers)) s) txn
staged_takes s txn [] some = absurd (omega (arith, some))
staged_takes s txn (n ∷ numbers) some = record { opened = refl; broken = refl; limit = refl; up = omega arith }

-- the log has the state with puts staged
pub commit_put_logged : (told : Option Told) (w w' : Writer) (b b' : ℕ) (s : State) (txn first count : ℕ) (events : List Content) → IsLogged told w b s → entry_of txn s.opened ≡ Some (Puts events) → 1 ≤ count → count ≡ length events → first ≡ next_number s → next_number s + length events ≤ 2 ^ 64 - 1
    → Appends w w' (CommitPut txn first count) → b' + 1 ≡ b → IsLogged told w' b' (stage txn (Some (Puts events)) s)
commit_put_logged told w w' b b' s txn first count events log is some counted first_is fits adds fewer =
    let many : 1 ≤ length events = omega (arith, some, counted) in
    let to = staged_puts s txn events many in
    let rec : Rec = CommitPut txn (next_number s) (length events) in
    let same : CommitPut txn first count ≡ rec = rw (first_is, counted) refl in
    let adds' : Appends w w' rec = subst (λ (r : Rec). Appends w w' r) same adds in
    record {
      busy_is = omega (arith, log.busy_is, fewer, busy_without s.opened txn (Puts events) is, ap one_if_done (puts_done events many), ap busy to.opened);
      few = omega (arith, log.few, length_without s.opened txn, ap (λ (l : List (ℕ × Entry)). length l) to.opened);
      room = omega (arith, log.room, fewer, longer_by w w' rec adds', commit_put_length txn (next_number s) (length events));
      limit = same_limit w w' rec adds' ∙ (log.limit ∙ sym to.limit);
      waits = λ whole. waits_more told w w' s (stage txn (Some (Puts events)) s) rec (log.waits (sym to.broken ∙ whole)) adds' to.up (λ start settled records m. stage_put_mirrored start s settled records txn events m is many fits);
    }

-- the log has the state with takes staged
pub commit_take_logged : (told : Option Told) (w w' : Writer) (b b' : ℕ) (s : State) (txn count : ℕ) (numbers : List ℕ) → IsLogged told w b s → entry_of txn s.opened ≡ Some (Takes numbers) → 1 ≤ count → count ≡ length numbers
    → Appends w w' (CommitTake txn count) → b' + 1 ≡ b → IsLogged told w' b' (stage txn (Some (Takes numbers)) s)
commit_take_logged told w w' b b' s txn count numbers log is some counted adds fewer =
    let many : 1 ≤ length numbers = omega (arith, some, counted) in
    let to = staged_takes s txn numbers many in
    let rec : Rec = CommitTake txn (length numbers) in
    let adds' : Appends w w' rec = subst (λ (n : ℕ). Appends w w' (CommitTake txn n)) counted adds in
    record {
      busy_is = omega (arith, log.busy_is, fewer, busy_without s.opened txn (Takes numbers) is, ap one_if_done (takes_done numbers many), ap busy to.opened);
      few = omega (arith, log.few, length_without s.opened txn, ap (λ (l : List (ℕ × Entry)). length l) to.opened);
      room = omega (arith, log.room, fewer, longer_by w w' rec adds', commit_take_length txn (length numbers));
      limit = same_limit w w' rec adds' ∙ (log.limit ∙ sym to.limit);
      waits = λ whole. waits_more told w w' s (stage txn (Some (Takes numbers)) s) rec (log.waits (sym to.broken ∙ whole)) adds' to.up (λ start settled records m. stage_take_mirrored start s settled records txn numbers m is many);
    }
