-- A folder that is opened.
use Rattle.std.proofs.Common.{◌⊎◌, inl, inr, ◌≡◌, ◌≢◌, ◌<◌, ◌≤◌, ◌+◌, ◌-◌, ◌^◌, ◌∷◌, [], ℕ, List, length, drop, take, Option, Some, None, Err, false, true, refl, sym, ◌∙◌, ap, subst, arith}
use Rattle.std.proofs.lemmas.List.{take_all}
use Rattle.flume_host.specs.Causes.{Rose}
use Rattle.flume_host.specs.Folder.{Files, settle_entry}
use Rattle.flume_host.specs.Told.{Changes, DidPart, Leads, Settle, Tells, Told, WhereTold, done, moment_of}
use Rattle.flume_host.specs.declared.names.Failed.{Failed}
use Rattle.flume_host.specs.declared.names.FileName.TheVariants.{Log}
use Rattle.flume_host.proofs.Moments.{goes_on, started}
use Rattle.flume_host.proofs.Telling.{back, follows, forth, silent, some_same, tells_more, tells_same}
use Rattle.event_core.specs.Content.{Content, size}
use Rattle.event_core.specs.Journal.{Base, IsBase}
use Rattle.record_form.specs.declared.record.Pointer.{Pointer}
use Rattle.record_form.specs.Pointers.{PutAt}
use Rattle.channel_log.specs.Window.{IsPieceOf, Kept, nothing_kept}
use Rattle.channel_log.specs.Writer as writers
use Rattle.channel_log.specs.Writer.{IsBlank, Writer}
use Rattle.channel_face.specs.History.{Opening, opening}
use Rattle.channel_face.specs.Machine.{State, is_some_of}
use Rattle.channel_face.specs.declared.replies.Kind.TheVariants.{File}
use Rattle.channel_face.specs.declared.replies.Limits.{Limits}
use Rattle.channel_face.specs.declared.replies.OpenCause.{OpenCause}
use Rattle.channel_face.specs.declared.replies.OpenCause.TheVariants as causes
use Rattle.channel_places.specs.Looks.{Known, LookLeft, Looks, Numbers, Places, StandsIn, held_in}
use Rattle.checkpoint_opening.specs.Laws.{AreBounded}
use Rattle.checkpoint_opening.specs.declared.opening.NewestCheck.{NewestCheck}
use Rattle.checkpoint_opening.proofs.Growing.{other_log}
use Rattle.channel_writing.specs.Folders.{AreSame, GainsLog, IsBegun, IsNextFile, IsOfFile, IsRefused, Opens, OpensFrom, OpensOver, OpensTo, Refuses, StaysAs}
use Rattle.channel_writing.specs.Written.{IsFresh, IsLogged}
use Rattle.channel_writing.proofs.Opening.{BeginsFile, EitherImage, ReadsAreLeft, SettledAs, as_settled, begun_logged, begun_over, begun_stays, opens_to, refused_over}
use Rattle.channel_writing.proofs.Reopening.{opened_fresh, opened_whole}
use Rattle.channel_writing.proofs.Standing.{stands_as, stands_opened}
use Rattle.ring_replay.specs.Folder.{IsReady}
use Rattle.ring_replay.specs.Indexing.{HasItems}
use Rattle.ring_replay.specs.declared.folder.Replayed.{Replayed}
use Rattle.file_channel.specs.Opened.{AreSeen, AreShort, FailsToBegin, IsBegunAs, OpensWith, ReplaysTo, state_of}
use Rattle.file_channel.specs.Placed.{AreNeeding, ArePlaced, IsStateOf, bytes_of, settled_in}
use Rattle.file_channel.specs.Stands.{FileState, StandsOver, items_at, opened_as}
use Rattle.file_channel.proofs.Newest.{needing_begun, needing_silent}
use Rattle.file_channel.proofs.Owning.{own_none}
use Rattle.file_channel.proofs.Placing.{end_other, not_waiting}
use Rattle.file_channel.proofs.Seen.{blanks, blanks_seen, blanks_sized, has_blanks, items_seen, placed_seen}
use Rattle.file_channel.proofs.Replaying.{InFile, are_long, as_many, has_ring, items_look, ring_from, ring_places, ring_stands, same_base}

-- a refusal

same_stays : (cause : OpenCause) (files folder : Files) → AreSame files folder → StaysAs cause files folder
same_stays causes.DiskFault files folder same = inl same
same_stays (causes.BadCheck file at) files folder same = same
same_stays (causes.BadLog file at) files folder same = same
same_stays (causes.OverCapacity count) files folder same = same
same_stays (causes.Spent counter) files folder same = same
same_stays causes.NoMemory files folder same = same

settled_same : (t u : Told) → SettledAs t u → AreSame t.reads u.reads
settled_same t u is name = ap (λ (v : Told). v.reads name) is

-- of a folder that was settled and read
pub refused_read : (was mid now : Option Told) (before between later capacity : ℕ) (cause : OpenCause) → ReadsAreLeft was → Tells was mid SettledAs → now ≡ mid → between ≡ before → between ≤ later → (cause ≡ causes.DiskFault → Rose between later) → ((cause ≡ causes.DiskFault → ⊥) → later ≡ between)
    → WhereTold mid (λ t. Refuses t.reads capacity cause) → IsOfFile cause → IsRefused was now before later capacity cause
refused_read was mid now before between later capacity cause reads settles same well rises fault none why counter = record {
  why = as_settled was mid (λ files. Refuses files capacity cause) settles why;
  counter = counter;
  stays = tells_more was now SettledAs (λ t u. StaysAs cause t.reads u.reads) (λ t u old new is. same_stays cause t.reads u.reads (settled_same t u is)) here;
  images = refused_over was now reads here;
  later = omega (arith, well, rises);
  fault = λ is. subst (λ (n : ℕ). Rose n later) well (fault is);
  well = λ isnt. none isnt ∙ well;
}
  where
    here : Tells was now SettledAs
    here = subst (λ (v : Option Told). Tells was v SettledAs) (sym same) settles

-- of one that was not settled

parts_same : (t u : Told) → (u ≡ t) ⊎ DidPart Settle t u → AreSame t.reads u.reads
parts_same t u (inl same) name = ap (λ (v : Told). v.reads name) same
parts_same t u (inr part) name = part.others name refl

-- an opening whose first settle failed is refused, and counted as a fault
pub refused_settle : (was now : Option Told) (e : Failed) (before later capacity : ℕ) → ReadsAreLeft was → Tells was now (Leads {T = Unit {0}} Settle (Err e)) → before ≤ later → Rose before later → IsRefused was now before later capacity causes.DiskFault
refused_settle was now e before later capacity reads leads rises fault = record {
  why = λ t told. tt;
  counter = tt;
  stays = tells_more was now (Leads {T = Unit {0}} Settle (Err e)) (λ t u. StaysAs causes.DiskFault t.reads u.reads) (λ t u old new l. inl (parts_same t u l.err)) leads;
  images = tells_more was now (Leads {T = Unit {0}} Settle (Err e)) OpensOver (λ t u old new l. goes_on Settle (Err e) t t u (EitherImage t) (reads t old) tt (started t (EitherImage t) (λ image left. inl left)) l (λ image left. inl left)) leads;
  later = rises;
  fault = λ _. fault;
  well = λ isnt. absurd (isnt refl);
}

-- of one after which no log file could be begun
pub refused_begin : (was mid now : Option Told) (before between later capacity number : ℕ) (cause : OpenCause) → ReadsAreLeft was → ReadsAreLeft now → Tells was mid SettledAs → WhereTold mid (λ t. IsNextFile t.reads number) → Tells mid now (BeginsFile number) → FailsToBegin cause mid now
    → between ≡ before → between ≤ later → (cause ≡ causes.DiskFault → Rose between later) → ((cause ≡ causes.DiskFault → ⊥) → later ≡ between) → IsRefused was now before later capacity cause
refused_begin was mid now before between later capacity number cause reads reads_now settles next begins fails well rises fault none = record {
  why = λ t told. why t fails;
  counter = counter fails;
  stays = stays fails;
  images = begun_over was mid now number reads settles next begins;
  later = omega (arith, well, rises);
  fault = λ is. subst (λ (n : ℕ). Rose n later) well (fault is);
  well = λ isnt. none isnt ∙ well;
}
  where
    why : (t : Told) → FailsToBegin cause mid now → Refuses t.reads capacity cause
    why t (inl is) = subst (λ (c : OpenCause). Refuses t.reads capacity c) (sym is) tt
    why t (inr both) = subst (λ (c : OpenCause). Refuses t.reads capacity c) (sym both.0) tt

    counter : FailsToBegin cause mid now → IsOfFile cause
    counter (inl is) = subst IsOfFile (sym is) tt
    counter (inr both) = subst IsOfFile (sym both.0) tt

    here : now ≡ mid → Tells was now SettledAs
    here same = subst (λ (v : Option Told). Tells was v SettledAs) (sym same) settles

    stays : FailsToBegin cause mid now → Tells was now (λ t u. StaysAs cause t.reads u.reads)
    stays (inl is) = subst (λ (c : OpenCause). Tells was now (λ t u. StaysAs c t.reads u.reads)) (sym is) (begun_stays was mid now number reads_now settles next begins)
    stays (inr both) = tells_more was now SettledAs (λ t u. StaysAs cause t.reads u.reads) (λ t u old new is. same_stays cause t.reads u.reads (settled_same t u is)) (here both.1)

-- and when out of memory before the folder was touched
pub refused_early : (told : Option Told) (count capacity : ℕ) → IsRefused told told count count capacity causes.NoMemory
refused_early told count capacity = record {
  why = λ t is. tt;
  counter = tt;
  stays = tells_same told (λ t u. StaysAs causes.NoMemory t.reads u.reads) (λ t is name. refl);
  images = tells_same told OpensOver (λ t is. started t (EitherImage t) (λ image left. inl left));
  later = omega arith;
  fault = λ is. absurd (cc);
  well = λ _. refl;
}

-- the folder gains that log file
pub begun_gains : (was mid now : Option Told) (number : ℕ) → Tells was mid SettledAs → WhereTold mid (λ t. IsNextFile t.reads number) → Tells mid now (BeginsFile number) → writers.IsReady now 1 number 16 [] → Tells was now (λ t u. GainsLog t.reads IsBegun u.reads)
begun_gains was mid now number settles next begins begun = follows was mid now SettledAs (BeginsFile number) (λ t u. GainsLog t.reads IsBegun u.reads) gains settles begins
  where
    gains : (t u v : Told) → was ≡ Some t → mid ≡ Some u → now ≡ Some v → SettledAs t u → BeginsFile number u v → GainsLog t.reads IsBegun v.reads
    gains t u v old mid_is new same changes =
        let since : BeginsFile number (done Settle t) v = subst (λ (x : Told). BeginsFile number x v) same changes in
        record {
          number = number;
          next = subst (λ (x : Told). IsNextFile x.reads number) same (next u mid_is);
          last = (begun v new).reads;
          others = λ name other. (since.others name other).1;
        }

-- events stand at their pointers after the beginning of a log file

-- each event that is known stands at its pointer in a file that ends below the greatest offset
abbrev AreInFiles : Files → Known → Type 0
AreInFiles files known = (p : Pointer) (event : Content) → StandsIn known p event → (f : InFile files p event) × (length f.bytes < 2 ^ 63)

some_is_none : {A : Type 0} (x : A) → Some x ≡ None → ⊥
some_is_none x is = cc

still_there : (t v : Told) (w : Writer) (number : ℕ) (p : Pointer) (event : Content) (f : InFile t.reads p event) → length f.bytes < 2 ^ 63 → IsNextFile t.reads number → Changes (Log number) IsBlank 1 (done Settle t) v → w.file ≡ number → PutAt (settled_in v w p.file) p event
still_there t v w number p event f short next changes file = subst (λ (l : List ℕ). PutAt l p event) (sym whole) f.stands
  where
    other : p.file ≢ number
    other same = some_is_none f.bytes (sym f.reads ∙ (ap (λ (n : ℕ). t.reads (Log n)) same ∙ next.none number (omega arith)))

    reads : v.reads (Log p.file) ≡ Some f.bytes
    reads = (changes.others (Log p.file) (other_log p.file number other)).1 ∙ f.reads

    whole : settled_in v w p.file ≡ f.bytes
    whole =
        ap (λ (n : ℕ). take n (bytes_of (v.reads (Log p.file)))) (end_other w p.file (λ same. other (same ∙ file)))
        ∙ (ap (λ (o : Option (List ℕ)). take (2 ^ 64 - 1) (bytes_of o)) reads ∙ take_all (2 ^ 64 - 1) f.bytes (omega (arith, short)))

none_taken : (l : List ℕ) → [] ≡ take 0 l
none_taken [] = refl
none_taken (x ∷ l) = refl

nothing_is_there : (t : Told) (w : Writer) → w.kept ≡ nothing_kept → IsPieceOf w.kept (settled_in t w)
nothing_is_there t w is = subst (λ (k : Kept). IsPieceOf k (settled_in t w)) (sym is) (none_taken (drop 0 (settled_in t w 0)))

placed_begun : (was mid now : Option Told) (w : Writer) (number : ℕ) (known : Known) → Tells was mid SettledAs → WhereTold mid (λ t. IsNextFile t.reads number) → Tells mid now (BeginsFile number) → w.file ≡ number → w.kept ≡ nothing_kept → ((p : Pointer) (event : Content) → StandsIn known p event → size event ≡ p.length)
    → WhereTold was (λ t. AreInFiles t.reads known) → AreNeeding now number known → ArePlaced now w known known
placed_begun was mid now w number known settles next begins file kept long files needing = record {
  long = long;
  there = λ v is p event in_known. inl (at v is p event in_known);
  still = λ v is p event in_known other.
      let b = back mid now (BeginsFile number) begins v is in
      let a = back was mid SettledAs settles b.0 b.1 in
      let since : BeginsFile number (done Settle a.0) v = subst (λ (u : Told). BeginsFile number u v) a.2 b.2 in
      let others = since.others (Log p.file) (other_log p.file number (λ same. other (same ∙ sym file))) in
      others.0 ∙ ap settle_entry (sym others.1);
  piece = λ v is. inr (nothing_is_there v w kept);
  within = λ p event in_known. in_known;
  written = λ v is p event in_known. not_waiting v w p event (at v is p event in_known);
  needing = subst (λ (n : ℕ). AreNeeding now n known) (sym file) needing;
}
  where
    at : (v : Told) → now ≡ Some v → (p : Pointer) (event : Content) → StandsIn known p event → PutAt (settled_in v w p.file) p event
    at v is p event in_known =
        let b = back mid now (BeginsFile number) begins v is in
        let a = back was mid SettledAs settles b.0 b.1 in
        let f = files a.0 a.1 p event in_known in
        still_there a.0 v w number p event f.0 f.1 (subst (λ (u : Told). IsNextFile u.reads number) a.2 (next b.0 b.1)) (subst (λ (u : Told). BeginsFile number u v) a.2 b.2) file

-- numbers of log files and offsets in them fit their fields
short_bounded : (files : Files) (number : ℕ) → IsNextFile files number → AreShort files → AreBounded files
short_bounded files number next short n bytes is = (by_number (side n number), omega (arith, short n bytes is))
  where
    side : (a b : ℕ) → (a < b) ⊎ (b ≤ a)
    side a b = grind arith

    by_number : (n < number) ⊎ (number ≤ n) → n < 2 ^ 32
    by_number (inl less) = omega (arith, less, next.small)
    by_number (inr more) = absurd (some_is_none bytes (sym is ∙ next.none n more))

-- what was begun after a folder that was replayed

abbrev pub fresh_writer : ℕ → ℕ → Writer
fresh_writer number most = record { file = number; gate = 16; max_file = most; started = false; bytes = []; count = 0; kept = nothing_kept }

none_then : {T : Type 0} (old new : Option T) (P : T → T → Type 0) → Tells old new P → old ≡ None → new ≡ None
none_then None None P tells is = refl
none_then None (Some u) P tells is = absurd tells
none_then (Some t) new P tells is = absurd (cc)

-- a folder that was replayed is begun with an empty log file, and its events stand in it
pub begun_as : (was mid now : Option Told) (check : Option NewestCheck) (r : Replayed) (w : Writer) (number capacity most : ℕ) → Tells was mid SettledAs → WhereTold was (λ t. ReplaysTo t.reads check r) → IsReady capacity r → r.next.txn ≤ 2 ^ 64 - 1 → r.next.number < 2 ^ 64 → WhereTold mid (λ t. IsNextFile t.reads number) → Tells mid now (BeginsFile number)
    → writers.IsReady now 1 number 16 [] → w ≡ fresh_writer number most → IsBegunAs was now capacity most r w
begun_as was mid now check r w number capacity most settles replays ready few low next begins begun writer = from was refl
  where
    next_was : WhereTold was (λ t. IsNextFile t.reads number)
    next_was = as_settled was mid (λ files. IsNextFile files number) settles next

    file : w.file ≡ number
    file = ap (λ (v : Writer). v.file) writer

    kept : w.kept ≡ nothing_kept
    kept = ap (λ (v : Writer). v.kept) writer

    logged : (base : Base) → WhereTold was (λ t. OpensTo t.reads base r.next.txn) → (s : State) → IsFresh s base r.next.txn → s.rules.limits.max_file ≡ most → IsLogged now w 0 s
    logged base opens s fresh limit = begun_logged was mid now w s base r.next.txn number most fresh limit opens few ready.txn settles next begins begun writer

    from : (o : Option Told) → was ≡ o → IsBegunAs was now capacity most r w
    from None is =
        let places = ready.base.0 in
        let found = ready.base.1 in
        let known = blanks r.ring.live in
        let base : Base = record { items = items_at None r.ring.live; first = r.next.number } in
        let has : HasItems known r.ring.live base.items = has_blanks r.ring.live in
        let none : (t : Told) → was ≡ Some t → ⊥ = λ t told. silent t (sym is ∙ told) in
        record {
          base = base;
          known = known;
          rises = same_base places known r.ring.live found base ready.base.3 has ready.base.4 ready.base.2;
          left = items_look known r.ring.live base.items has ready.free;
          first = refl;
          opens = λ t told. absurd (none t told);
          bounded = λ t told. absurd (none t told);
          placed = placed_begun was mid now w number known settles next begins file kept (are_long known (blanks_sized places r.ring.live found.items ready.base.3 ready.base.5)) (λ t told. absurd (none t told))
              (needing_silent was mid now number settles begins known none);
          seen = subst (λ (v : Option Told). AreSeen v known) (sym (none_then mid now (BeginsFile number) begins (none_then was mid SettledAs settles is))) (blanks_seen r.ring.live);
          logged = logged base (λ t told. absurd (none t told));
        }
    from (Some t) is =
        let found = replays t is in
        let o = found.opened in
        let base = o.left in
        let known = ring_places r.ring.live base.items in
        let has : HasItems known r.ring.live base.items = has_ring t.reads r.ring.live base.items o.items in
        let next_at : IsNextFile t.reads number = as_settled was mid (λ files. IsNextFile files number) settles next t is in
        let opens : Opens t.reads capacity base r.next.txn = record {
          recovers = o.recovers;
          fits = (omega (arith, low, o.number), omega (arith, few));
          within = omega (arith, ready.within, as_many known r.ring.live base.items has ready.free);
          last = found.last;
        } in
        let each : (u : Told) → was ≡ Some u → Opens u.reads capacity base r.next.txn = λ u told. subst (λ (v : Told). Opens v.reads capacity base r.next.txn) (some_same t u (sym is ∙ told)) opens in
        let stand : AreInFiles t.reads known = λ p event in_known. let f = ring_stands t.reads r.ring.live base.items p event o.items in_known in (f, found.short p.file f.bytes f.reads) in
        let between = forth was mid SettledAs settles t is in
        let after = forth mid now (BeginsFile number) begins between.0 between.1 in
        let placed : ArePlaced now w known known = placed_begun was mid now w number known settles next begins file kept (λ p event in_known. (stand p event in_known).0.stands.long) (λ u told. subst (λ (v : Told). AreInFiles v.reads known) (some_same t u (sym is ∙ told)) stand)
        (needing_begun was mid now number settles begins check r next_was (λ u told. (replays u told).opened) known (λ least low p event in_known. ring_from least r.ring.live base.items p event low in_known)) in
        record {
          base = base;
          known = known;
          rises = same_base ready.base.0 known r.ring.live ready.base.1 base ready.base.3 has (ready.base.4 ∙ o.number) ready.base.2;
          left = items_look known r.ring.live base.items has ready.free;
          first = sym o.number;
          opens = each;
          bounded = λ u told. subst (λ (v : Told). AreBounded v.reads) (some_same t u (sym is ∙ told)) (short_bounded t.reads number next_at found.short);
          placed = placed;
          seen = placed_seen now w known after.0 after.1 (ap (λ (v : Writer). v.bytes) writer) placed;
          logged = logged base (λ u told. opens_to u.reads capacity base r.next.txn (each u told));
        }

-- the places and the log of a channel that is opened
pub opens_with : (was now : Option Told) (limits : Limits) (r : Replayed) (held : Places) (w : Writer) → IsBegunAs was now limits.capacity limits.max_file r w
    → ((settled known : Known) (o : Opening) → o.base.first ≡ r.next.number → o.txn ≡ r.next.txn → o.rules ≡ record { kind = File; limits = limits } → LookLeft settled [] r.ring.live o.base.items → IsBase o.base → Looks settled known held (opening o)) → held.opened ≡ [] → OpensWith was now limits (record { places = held; log = w; busy = 0 })
opens_with was now limits r held w begun looks none =
    let o : Opening = record { rules = record { kind = File; limits = limits }; base = begun.base; txn = r.next.txn; faults = 0; from = 0; tells = true } in
    let s : State = state_of limits begun.base r.next.txn in
    let look : Looks begun.known begun.known held (opening o) = looks begun.known begun.known o begun.first refl refl begun.left begun.rises in
    let items : items_at now held.live ≡ begun.base.items = items_seen now begun.known (held_in (opening o)) held.live begun.base.items begun.seen look.left in
    let first : held.numbers.first ≡ begun.base.first = ap (λ (n : Numbers). n.first) look.numbers in
    record {
      base = begun.base;
      txn = r.next.txn;
      rises = begun.rises;
      opens = begun.opens;
      state = record {
        settled = begun.known;
        known = begun.known;
        looks = look;
        placed = λ _. begun.placed;
        owned = λ _. own_none now w held.opened none;
        whole = opened_whole now w 0 s o refl refl begun.rises (begun.logged s (opened_fresh s o refl) refl);
      };
      seen = λ i. record { items = items i; first = first i };
    }

-- the opening of a channel that is opened
module _ (was now : Option Told) (faults count : ℕ) (limits : Limits) (c : FileState) (opens : OpensWith was now limits c.logged) where
  abbrev start_as : Opening
  start_as = record { rules = record { kind = File; limits = limits }; base = opens.base; txn = opens.txn; faults = faults; from = moment_of was + 1; tells = is_some_of now }

  -- the rules of an opened channel are those of a file channel within its limits
  pub opened_rules : (opened_as was faults now c).rules ≡ record { kind = File; limits = limits }
  opened_rules = ap (λ (n : Numbers). n.rules) opens.state.looks.numbers

  opened_start : opened_as was faults now c ≡ start_as
  opened_start =
      let txn : c.logged.places.numbers.txn ≡ opens.txn = ap (λ (n : Numbers). n.txn) opens.state.looks.numbers in
      λ i. record { rules = opened_rules i; base = opens.seen i; txn = txn i; faults = faults; from = moment_of was + 1; tells = is_some_of now }

  -- the folder opened to its base and its next transaction number
  pub opened_opens : WhereTold was (λ t. Opens t.reads limits.capacity (opened_as was faults now c).base (opened_as was faults now c).txn)
  opened_opens = subst (λ (o : Opening). WhereTold was (λ t. Opens t.reads limits.capacity o.base o.txn)) (sym opened_start) opens.opens

  -- the channel stands for it before its first call
  pub opened_stands : c.tally ≡ record { put_attempts = 0; put_successes = 0; take_attempts = 0; take_successes = 0 } → c.waiting ≡ 0 → count ≡ faults → Tells was now OpensFrom → StandsOver now count c (opened_as was faults now c) []
  opened_stands none empty well from =
      subst (λ (o : Opening). StandsOver now count c o []) (sym opened_start)
      (stands_as (λ s. s ≡ opening start_as) (IsStateOf now c.logged) now count c.tally c.waiting start_as [] opens.state
      (stands_opened was now count (record { state = opening start_as; tally = c.tally; waiting = c.waiting }) start_as limits.capacity opens.rises refl refl none empty well refl opens.opens from))
