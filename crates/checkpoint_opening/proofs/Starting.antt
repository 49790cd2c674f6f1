-- A checkpoint that was read is one from which a replay may start.
use Rattle.std.specs.Prelude.{IfSome, IsSomeAnd, Option, None, Some, if◌then◌else◌}
use Rattle.std.specs.List.{AllByRecursion}
use Rattle.std.proofs.Common.{◌⊎◌, inl, inr, ◌≡◌, ◌≤◌, ◌+◌, ◌++◌, ◌∷◌, [], ℕ, List, map, nat_le, Bool, true, false, cond, refl, sym, ap, subst, ◌∙◌, arith}
use Rattle.std.proofs.lemmas.Bool.Decides.{nat_tests}
use Rattle.flume_host.specs.Folder.{Files}
use Rattle.flume_host.specs.Told.{Told, WhereTold}
use Rattle.flume_host.specs.declared.names.FileName.TheVariants as names
use Rattle.event_core.specs.Content.{Content}
use Rattle.event_core.specs.declared.journal.Entry.{Entry}
use Rattle.event_core.specs.declared.journal.Entry.TheVariants.{Puts, Takes}
use Rattle.event_ring.specs.Slots.{Left}
use Rattle.record_form.specs.declared.record.Pointer.{Pointer}
use Rattle.record_form.specs.Pointers.{PutAt}
use Rattle.channel_replay.specs.declared.line.Line.{Line}
use Rattle.channel_replay.specs.Recover.{IsBadFrom, empty_start, lines, replayed}
use Rattle.channel_replay.specs.Replay.{record_count}
use Rattle.channel_replay.specs.Replay as replaying
use Rattle.channel_replay.specs.declared.refused.ReplayRefused.{ReplayRefused}
use Rattle.channel_replay.specs.declared.refused.ReplayRefused.TheVariants as replays
use Rattle.channel_replay.specs.Start.{Start}
use Rattle.channel_replay.proofs.OneList.{has_one_list}
use Rattle.checkpoint.specs.declared.check.Check.{Check}
use Rattle.checkpoint.specs.declared.place.Next.{Next}
use Rattle.checkpoint.specs.declared.place.Place.{Place}
use Rattle.checkpoint.specs.Newest.{IsNewest}
use Rattle.checkpoint.specs.Right.{LiveAre, PutIn}
use Rattle.checkpoint.specs.Says.{live_at}
use Rattle.checkpoint_reading.specs.Logs.{IsSized}
use Rattle.checkpoint_reading.specs.Newest.{IsNewestOf, IsOfFolder, IsRead}
use Rattle.checkpoint_reading.specs.Reader.{WhereBad}
use Rattle.checkpoint_reading.specs.declared.refused.CheckReadRefused.{CheckReadRefused}
use Rattle.checkpoint_reading.specs.declared.refused.CheckReadRefused.TheVariants as checks
use Rattle.checkpoint_recovery.specs.Reading.{AllLines, IsInLog, LinesFrom}
use Rattle.checkpoint_recovery.specs.Laws.{NamesFrom, SameFrom}
use Rattle.checkpoint_recovery.specs.Recovers.{BeginsAt, From, Front, IsBadLogFrom, IsCheck}
use Rattle.checkpoint_recovery.proofs.Elsewhere.{check_elsewhere, lines_elsewhere}
use Rattle.checkpoint_recovery.proofs.SomeReading.{some_reading}
use Rattle.checkpoint_replay.specs.Checked.{LivePlaced, OpenPlaced}
use Rattle.checkpoint_replay.specs.Replayed.{HasEvents, IsReplayedFrom, IsRightFor, IsStartOf, LeavesFrom, StandElsewhere, StartsAt, WhereStarts}
use Rattle.checkpoint_replay.proofs.CheckPlaces.{right_ordered}
use Rattle.ring_replay.specs.declared.folder.Replayed.{Replayed}
use Rattle.ring_replay.specs.Indexing.{ArePlaced, AreSized, IsPlaced, Places}
use Rattle.checkpoint_opening.specs.declared.opening.NewestCheck.{NewestCheck}
use Rattle.checkpoint_opening.specs.declared.refused.OpeningRefused.{OpeningRefused}
use Rattle.checkpoint_opening.specs.Opening.{AreFrom, HasSteps, IsNamed, IsNamedBy, IsOpened, Leaves, WhereBadCheck, WhereBadLog, WhereOver, number_in, of_check, of_replay}

-- each place of some is among others
abbrev Within : Places → Places → Type 0
Within few many = (p : Pointer) (event : Content) → IsPlaced few p event → IsPlaced many p event

in_front : (a b : Places) → Within a (a ++ b)
in_front [] b p event is = absurd is
in_front (k ∷ a) b p event (inl same) = inl same
in_front (k ∷ a) b p event (inr more) = inr (in_front a b p event more)

in_back : (a b : Places) → Within b (a ++ b)
in_back [] b p event is = is
in_back (k ∷ a) b p event is = inr (in_back a b p event is)

both_sized : (a b : Places) → AreSized a → AreSized b → AreSized (a ++ b)
both_sized [] b one two = two
both_sized (k ∷ a) b one two = (one.0, both_sized a b one.1 two)

live_within : (few many : Places) → Within few many → (live : List (ℕ × Pointer)) (items : List (ℕ × Content)) → LivePlaced few live items → LivePlaced many live items
live_within few many within [] [] are = tt
live_within few many within [] (item ∷ items) are = absurd are
live_within few many within (l ∷ live) [] are = absurd are
live_within few many within (l ∷ live) (item ∷ items) are = (are.0, within l.1 item.1 are.1, live_within few many within live items are.2)

puts_within : (few many : Places) → Within few many → (pointers : List Pointer) (events : List Content) → ArePlaced few pointers events → ArePlaced many pointers events
puts_within few many within [] [] are = tt
puts_within few many within [] (event ∷ events) are = absurd are
puts_within few many within (p ∷ pointers) [] are = absurd are
puts_within few many within (p ∷ pointers) (event ∷ events) are = (within p event are.0, puts_within few many within pointers events are.1)

open_within : (few many : Places) → Within few many → (puts : List (ℕ × List Pointer)) (takes : List (ℕ × List ℕ)) (opened : List (ℕ × Entry)) → OpenPlaced few puts takes opened → OpenPlaced many puts takes opened
open_within few many within (o ∷ puts) takes [] are = absurd are
open_within few many within (o ∷ puts) takes ((txn, Puts events) ∷ opened) are = (are.0, puts_within few many within o.1 events are.1, open_within few many within puts takes opened are.2)
open_within few many within (o ∷ puts) takes ((txn, Takes numbers) ∷ opened) are = absurd are
open_within few many within [] (o ∷ takes) [] are = absurd are
open_within few many within [] (o ∷ takes) ((txn, Puts events) ∷ opened) are = absurd are
open_within few many within [] (o ∷ takes) ((txn, Takes numbers) ∷ opened) are = (are.0, are.1, open_within few many within [] takes opened are.2)
open_within few many within [] [] [] are = tt
open_within few many within [] [] ((txn, Puts events) ∷ opened) are = absurd are
open_within few many within [] [] ((txn, Takes numbers) ∷ opened) are = absurd are

-- Some events of the lengths of pointers, and where they are.
record SomeLive (live : List (ℕ × Pointer)) : Type 0 where
  places : Places
  items : List (ℕ × Content)
  placed : LivePlaced places live items
  sized : AreSized places

some_live : (live : List (ℕ × Pointer)) → AllByRecursion (λ l. IsSized l.1) live → SomeLive live
some_live [] all = record { places = []; items = []; placed = tt; sized = tt }
some_live (l ∷ live) all =
    let more = some_live live all.1 in
    let event : Content = all.0.0 in
    record {
      places = (l.1, event) ∷ more.places;
      items = (l.0, event) ∷ more.items;
      placed = (refl, inl (refl, refl), live_within more.places ((l.1, event) ∷ more.places) (λ p e is. inr is) live more.items more.placed);
      sized = (all.0.1, more.sized);
    }

record SomePuts (pointers : List Pointer) : Type 0 where
  places : Places
  events : List Content
  placed : ArePlaced places pointers events
  sized : AreSized places

some_puts : (pointers : List Pointer) → AllByRecursion IsSized pointers → SomePuts pointers
some_puts [] all = record { places = []; events = []; placed = tt; sized = tt }
some_puts (p ∷ pointers) all =
    let more = some_puts pointers all.1 in
    let event : Content = all.0.0 in
    record {
      places = (p, event) ∷ more.places;
      events = event ∷ more.events;
      placed = (inl (refl, refl), puts_within more.places ((p, event) ∷ more.places) (λ q e is. inr is) pointers more.events more.placed);
      sized = (all.0.1, more.sized);
    }

record SomeOpen (puts : List (ℕ × List Pointer)) (takes : List (ℕ × List ℕ)) : Type 0 where
  places : Places
  opened : List (ℕ × Entry)
  placed : OpenPlaced places puts takes opened
  sized : AreSized places

some_open : (puts : List (ℕ × List Pointer)) (takes : List (ℕ × List ℕ)) → AllByRecursion (λ o. AllByRecursion IsSized o.1) puts → SomeOpen puts takes
some_open [] [] all = record { places = []; opened = []; placed = tt; sized = tt }
some_open [] (o ∷ takes) all =
    let more = some_open [] takes tt in
    record { places = more.places; opened = (o.0, Takes o.1) ∷ more.opened; placed = (refl, refl, more.placed); sized = more.sized }
some_open (o ∷ puts) takes all =
    let first = some_puts o.1 all.0 in
    let more = some_open puts takes all.1 in
    record {
      places = first.places ++ more.places;
      opened = (o.0, Puts first.events) ∷ more.opened;
      placed = (
        refl,
        puts_within first.places (first.places ++ more.places) (in_front first.places more.places) o.1 first.events first.placed,
        open_within more.places (first.places ++ more.places) (in_back first.places more.places) puts takes more.opened more.placed,
      );
      sized = both_sized first.places more.places first.sized more.sized;
    }

-- what was read has the events that a replay asks for
pub read_has_events : (check : Check) → IsRead check → HasEvents check
read_has_events check read =
    let live = some_live read.c.live read.events.live in
    let opens = some_open read.c.puts read.c.takes read.events.puts in
    record {
      c = read.c;
      keeps = read.keeps;
      ordered = read.ordered;
      places = live.places ++ opens.places;
      start = record { base = record { items = live.items; first = read.c.next.number }; opened = opens.opened; txn = read.c.next.txn };
      placed = record {
        live = live_within live.places (live.places ++ opens.places) (in_front live.places opens.places) read.c.live live.items live.placed;
        opens = open_within opens.places (live.places ++ opens.places) (in_back live.places opens.places) read.c.puts read.c.takes opens.opened opens.placed;
        number = refl;
        txn = refl;
      };
      sized = both_sized live.places opens.places live.sized opens.sized;
    }

-- where the newest checkpoint starts
start_of : (files : Files) (check : Check) → IsOfFolder files check → (start : Start) × IsStartOf files check start
start_of files check of = (record { base = record { items = of.left; first = check.next.number }; opened = of.opened; txn = check.next.txn }, record { stands = of.stands; number = refl; txn = refl })

-- it is right for the folder
pub newest_is_right : (files : Files) (check : Option Check) → IsNewestOf files check → IsRightFor files check
newest_is_right files None newest = tt
newest_is_right files (Some check) newest = start_of files check newest.1

-- A start and lines at which a replay begins, which are those of the folder.
record Begun (files : Files) (check : Option Check) : Type 0 where
  start : Start
  found : List Line
  starts : StartsAt files check start found
  begins : BeginsAt files start found

begun : (files : Files) (check : Option Check) → IsNewestOf files check → Begun files check
unfolding start_of
begun files None newest =
    let some = has_one_list files in
    let all : AllLines files (lines some.0) = record { logs = some.0; are = some.1; lines_are = refl } in
    record { start = empty_start; found = lines some.0; starts = (refl, all); begins = Front newest refl all }
begun files (Some check) newest =
    let start = start_of files check newest.1 in
    let says = newest.1.stands.keeps.says in
    let place : IsInLog files check.place = subst (λ (p : Place). IsInLog files p) says.place_is newest.1.stands.right.place in
    let some = some_reading files check.place place in
    record {
      start = start.0;
      found = some.0;
      starts = (start.1, some.1);
      begins = From check.number newest.1.stands.c newest.0
          (record {
            spelled = newest.1.stands.spelled;
            means = record { right = newest.1.stands.right; number = ap (λ (n : Next). n.number) (sym says.next_is); txn = ap (λ (n : Next). n.txn) (sym says.next_is) };
          })
          (subst (λ (p : Place). LinesFrom files p some.0) (sym says.place_is) some.1);
    }

-- what is told of it

newest_named : (files : Files) (check : Option Check) (named : Option NewestCheck) → IsNamedBy check named → IsNewestOf files check → IsNewest files (number_in named)
newest_named files None None told newest = newest
newest_named files None (Some named) told newest = absurd told
newest_named files (Some check) None told newest = absurd told
newest_named files (Some check) (Some named) told newest = subst (λ (n : ℕ). IsNewest files (Some n)) (sym told.0) newest.0

is_named : (files : Files) (check : Option Check) (named : Option NewestCheck) → IsNamedBy check named → IsNewestOf files check → IfSome named (λ n. IsNamed files n)
is_named files None None told newest = tt
is_named files None (Some named) told newest = absurd told
is_named files (Some check) None told newest = absurd told
is_named files (Some check) (Some named) told newest =
    let of = newest.1 in
    let says = of.stands.keeps.says in
    let c = of.stands.c in
    record {
      text = c;
      start = record { base = record { items = of.left; first = check.next.number }; opened = of.opened; txn = check.next.txn };
      is = record {
        spelled = ap (λ (n : ℕ). files (names.Check n)) told.0 ∙ of.stands.spelled;
        means = record { right = of.stands.right; number = ap (λ (n : Next). n.number) (sym says.next_is); txn = ap (λ (n : Next). n.txn) (sym says.next_is) };
      };
      least = told.1 c of.stands.keeps (right_ordered files c of.left of.opened of.stands.right);
    }

-- the log files from a number on, and all checkpoints
abbrev kept_from : ℕ → Files → Files
kept_from least files (names.Log n) = if nat_le least n then files (names.Log n) else None
kept_from least files (names.Check n) = files (names.Check n)

kept_same : (least : ℕ) (files : Files) → SameFrom least files (kept_from least files)
kept_same least files n low = ap (λ (is : Bool). cond is (files (names.Log n)) None) (let is : nat_le least n ≡ true = grind (arith, low, nat_tests) in is)

-- what stands in these stands in a file from that number on
stands_from : (least : ℕ) (files : Files) (p : Pointer) (event : Content) → PutIn (kept_from least files) p event → least ≤ p.file
stands_from least files p event = from (nat_le least p.file) refl
  where
    from : (b : Bool) → nat_le least p.file ≡ b → IsSomeAnd (cond b (files (names.Log p.file)) None) (λ bytes. PutAt bytes p event) → least ≤ p.file
    from true is at = grind (arith, is, nat_tests)
    from false is at = absurd at

live_from : (least : ℕ) (files : Files) (live : List Left) (items : List (ℕ × Content)) → LiveAre (kept_from least files) (map live_at live) items → AllByRecursion (λ (l : Left). least ≤ l.pointer.file) live
live_from least files [] items are = tt
live_from least files (l ∷ live) [] are = absurd are
live_from least files (l ∷ live) (item ∷ items) are = (stands_from least files l.pointer item.1 are.1, live_from least files live items are.2)

-- a replay from a checkpoint begins so in a folder without the files below those that it names
starts_from : (files : Files) (check : Check) (least : ℕ) (start : Start) (found : List Line) (starts : StartsAt files (Some check) start found) → NamesFrom least starts.0.stands.c → StartsAt (kept_from least files) (Some check) start found
starts_from files check least start found (is, lines) named =
    let later = kept_from least files in
    let c = is.stands.c in
    let says = is.stands.keeps.says in
    let next : c.next ≡ check.next = says.next_is in
    let was : IsCheck files check.number c start = record {
      spelled = is.stands.spelled;
      means = record { right = is.stands.right; number = is.number ∙ ap (λ (n : Next). n.number) (sym next); txn = is.txn ∙ ap (λ (n : Next). n.txn) (sym next) };
    } in
    let same = kept_same least files in
    let now : IsCheck later check.number c start = check_elsewhere files later least check.number c start same named refl was in (
      record { stands = record { c = c; keeps = is.stands.keeps; spelled = now.spelled; right = now.means.right }; number = is.number; txn = is.txn },
      lines_elsewhere files later least check.place found same (omega (arith, named.place, ap (λ (p : Place). p.file) says.place_is)) lines,
    )

-- no pointer is into a file below those
are_from : (files : Files) (check : Option Check) (named : Option NewestCheck) (start : Start) (found : List Line) (r : Replayed) → IsNamedBy check named → StartsAt files check start found → StandElsewhere check start found r → IfSome named (λ n. AreFrom n r.ring.live)
are_from files None None start found r told starts elsewhere = tt
are_from files None (Some named) start found r told starts elsewhere = absurd told
are_from files (Some check) None start found r told starts elsewhere = absurd told
are_from files (Some check) (Some named) start found r told starts elsewhere =
    let is = starts.0 in
    let c = is.stands.c in
    let least = told.1 c is.stands.keeps (right_ordered files c start.base.items start.opened is.stands.right) in
    live_from named.least files r.ring.live (replayed start found).items (elsewhere (kept_from named.least files) (starts_from files check named.least start found starts least.names))

-- what is replayed is what the folder recovers to
pub opens : (was later : Option Told) (check : Option Check) (named : Option NewestCheck) (r : Replayed) → later ≡ was → IsNamedBy check named → WhereTold was (λ t. IsNewestOf t.reads check)
    → WhereStarts later check (λ files start found. IsReplayedFrom files start found r) → WhereStarts later check (λ files start found. StandElsewhere check start found r) → WhereTold was (λ t. IsOpened t.reads (record { check = named; replayed = r }))
opens was later check named r same told_of newest all elsewhere = λ t told.
    let b = begun t.reads check (newest t told) in
    let found = all t (same ∙ told) b.start b.found b.starts in
    record {
      newest = newest_named t.reads check named told_of (newest t told);
      named = is_named t.reads check named told_of (newest t told);
      from = are_from t.reads check named b.start b.found r told_of b.starts (elsewhere t (same ∙ told) b.start b.found b.starts);
      left = found.left;
      recovers = record { start = b.start; found = b.found; begins = b.begins; stands = found.stands };
      items = found.items;
      number = found.number;
    }

-- the first fault of the log after the checkpoint
pub is_bad : (was later : Option Told) (check : Option Check) (file at : ℕ) → later ≡ was → WhereTold was (λ t. IsNewestOf t.reads check) → WhereStarts later check (λ files start found. IsBadFrom start found file at) → WhereTold was (λ t. IsBadLogFrom t.reads file at)
is_bad was later check file at same newest bad = λ t told.
    let b = begun t.reads check (newest t told) in
    record { start = b.start; found = b.found; begins = b.begins; bad = bad t (same ∙ told) b.start b.found b.starts }

-- so many events are left
pub leaves : (was later : Option Told) (check : Option Check) (count : ℕ) → later ≡ was → WhereTold was (λ t. IsNewestOf t.reads check) → WhereStarts later check (λ files start found. LeavesFrom start found count) → WhereTold was (λ t. Leaves t.reads count)
leaves was later check count same newest left = λ t told.
    let b = begun t.reads check (newest t told) in
    let l = left t (same ∙ told) b.start b.found b.starts in
    (l.0, l.1, record { start = b.start; found = b.found; begins = b.begins; stands = l.2 }, l.3)

-- how many steps were counted
pub steps_of : (was later : Option Told) (check : Option Check) (before now : ℕ) → later ≡ was → WhereTold was (λ t. IsNewestOf t.reads check) → WhereStarts later check (λ files start found. now ≤ before + record_count found)
    → WhereTold was (λ t. (now ≡ before) ⊎ HasSteps t.reads before now)
steps_of was later check before now same newest few = λ t told.
    let b = begun t.reads check (newest t told) in
    inr (record { start = b.start; found = b.found; begins = b.begins; few = few t (same ∙ told) b.start b.found b.starts })

-- what was read of a checkpoint, if there is one
pub some_events : (check : Option Check) → IfSome check IsRead → IfSome check HasEvents
some_events None read = tt
some_events (Some check) read = read_has_events check read

-- why a folder was not opened

-- a fault that the reading of a checkpoint tells is one that the opening tells
pub check_of : (e : CheckReadRefused) (x : OpeningRefused) (P : ℕ → ℕ → Type 0) → x ≡ of_check e → WhereBad e P → WhereBadCheck x P
check_of e x P is bad = subst (λ (y : OpeningRefused). WhereBadCheck y P) (sym is) (from e bad)
  where
    from : (e : CheckReadRefused) → WhereBad e P → WhereBadCheck (of_check e) P
    from checks.DiskFault bad = tt
    from (checks.BadCheck file at) bad = bad
    from checks.NoMemory bad = tt

-- a fault of the log that the replay tells is one that the opening tells
pub log_of : (e : ReplayRefused) (x : OpeningRefused) (P Q : ℕ → ℕ → Type 0) → x ≡ of_replay e → ((file at : ℕ) → P file at → Q file at) → replaying.WhereBadLog e P → WhereBadLog x Q
log_of e x P Q is maps bad = subst (λ (y : OpeningRefused). WhereBadLog y Q) (sym is) (from e bad)
  where
    from : (e : ReplayRefused) → replaying.WhereBadLog e P → WhereBadLog (of_replay e) Q
    from replays.DiskFault bad = tt
    from (replays.BadLog file at) bad = maps file at bad
    from (replays.OverCapacity count) bad = tt
    from replays.NoMemory bad = tt

-- a count above the capacity that the replay tells is one that the opening tells
pub over_of : (e : ReplayRefused) (x : OpeningRefused) (P Q : ℕ → Type 0) → x ≡ of_replay e → ((count : ℕ) → P count → Q count) → replaying.WhereOver e P → WhereOver x Q
over_of e x P Q is maps over = subst (λ (y : OpeningRefused). WhereOver y Q) (sym is) (from e over)
  where
    from : (e : ReplayRefused) → replaying.WhereOver e P → WhereOver (of_replay e) Q
    from replays.DiskFault over = tt
    from (replays.BadLog file at) over = tt
    from (replays.OverCapacity count) over = maps count over
    from replays.NoMemory over = tt
