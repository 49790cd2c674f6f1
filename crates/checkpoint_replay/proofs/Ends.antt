-- What a replay from a checkpoint leaves in the ring at the end.
use Rattle.std.proofs.Common.{◌≡◌, ◌≤◌, ◌+◌, ◌++◌, ◌∷◌, [], ℕ, List, length, map, Option, Some, None, Result, Ok, Err, IfOk, refl, sym, ◌∙◌, ap, subst, arith}
use Rattle.flume_host.specs.Folder.{Files}
use Rattle.flume_host.specs.Told.{Told, WhereTold}
use Rattle.event_core.specs.Content.{Content}
use Rattle.event_core.specs.Journal.{Base}
use Rattle.record_form.specs.declared.record.Pointer.{Pointer}
use Rattle.event_ring.specs.Slots.{Index, Left}
use Rattle.channel_replay.specs.declared.recovery.Next.{Next}
use Rattle.channel_replay.specs.declared.line.Line.{Line}
use Rattle.channel_replay.specs.declared.refused.ReplayRefused.{ReplayRefused}
use Rattle.channel_replay.specs.Marks.{Dropped, Past}
use Rattle.channel_replay.specs.Recover.{AreSound, IsBadFrom, StandsFrom, WhereLogs, empty_start, lines, past_lines, replayed}
use Rattle.channel_replay.specs.Replay.{LeavesCount, WhereBadLog, record_count}
use Rattle.channel_replay.specs.Start.{Start, start_past}
use Rattle.channel_replay.proofs.Replaying.{log_maps}
use Rattle.checkpoint.specs.declared.check.Check.{Check}
use Rattle.checkpoint.specs.Right.{LiveAre, PutIn}
use Rattle.checkpoint.specs.Says.{live_at}
use Rattle.checkpoint_recovery.specs.Reading.{AllLines, IsInLog, LinesFrom}
use Rattle.ring_replay.specs.declared.folder.Replayed.{Replayed}
use Rattle.ring_replay.specs.declared.indexing.Indexing.{Indexing}
use Rattle.ring_replay.specs.Indexing.{GoesThrough, HasItems, IsKept, IsPlaced, Keeps, Places}
use Rattle.ring_replay.specs.Folder.{AreReplayed, StopsIn, puts_of}
use Rattle.ring_replay.proofs.Ends.{Drops}
use Rattle.checkpoint_replay.specs.Checked.{IsOfCheck}
use Rattle.checkpoint_replay.specs.Reading.{WhereLines}
use Rattle.checkpoint_replay.specs.Replayed.{HasEvents, IsReplayedFrom, IsStartOf, LeavesFrom, StandElsewhere, WhereStarts}
use Rattle.checkpoint_replay.proofs.CheckPlaces.{either_in, in_first, live_within, open_within, places_of, right_ordered, ring_in, stand_behind}
use Rattle.checkpoint_replay.proofs.Checked.{checks_are_kept}
use Rattle.checkpoint_replay.proofs.PutsStand.{from_front, from_place}

-- the place of a right checkpoint is in the log
pub right_place : (files : Files) (check : Check) (start : Start) → IsStartOf files check start → IsInLog files check.place
right_place files check start is = subst (λ (p : _). IsInLog files p) is.stands.keeps.says.place_is is.stands.right.place

-- what a replay begins with is kept, also where the disk shows nothing
pub begun_kept : (check : Check) (index : Indexing) → HasEvents check → IsOfCheck check index → IsKept index
begun_kept check index has of = (has.places, has.start, start_past has.start, checks_are_kept check has.c has.places has.start index has.keeps has.ordered has.placed of, has.sized)

-- What a replay begins with, from a checkpoint that is right for a folder, with the lines after its place.
record Begun (files : Files) (check : Check) (start : Start) (found : List Line) (index : Indexing) : Type 0 where
  places : Places
  keeps : Keeps (places ++ puts_of found) start (start_past start) index
  within : (p : Pointer) (event : Content) → IsPlaced (places ++ puts_of found) p event → PutIn files p event

begun : (files : Files) (check : Check) (start : Start) (found : List Line) (index : Indexing) → IsStartOf files check start → LinesFrom files check.place found → IsOfCheck check index → Begun files check start found index
begun files check start found index is l of =
    let c = is.stands.c in
    let next : c.next ≡ check.next = is.stands.keeps.says.next_is in
    let at = places_of files c start.base.items start.opened is.stands.right in
    let all : Places = at.places ++ puts_of found in
    record {
      places = at.places;
      keeps = checks_are_kept check c all start index is.stands.keeps (right_ordered files c start.base.items start.opened is.stands.right)
          (record {
            live = live_within at.places all c.live start.base.items (in_first at.places (puts_of found)) at.live;
            opens = open_within at.places all c.puts c.takes start.opened (in_first at.places (puts_of found)) at.opens;
            number = is.number ∙ sym (ap (λ (n : _). n.number) next);
            txn = is.txn ∙ sym (ap (λ (n : _). n.txn) next);
          }) of;
      within = λ p event. either_in files at.places (puts_of found) p event at.within (λ q e there. from_place files check.place found q e (right_place files check start is) l there);
    }

-- what is left when all lines were applied and what is open was dropped

stands_for : (start : Start) (found : List Line) (places : Places) (dropped : Indexing) (txn : ℕ) → AreSound start.base (start_past start) found → Keeps places start (Dropped ∷ past_lines (start_past start) found) dropped → txn ≡ dropped.next.txn
    → StandsFrom start found (replayed start found) txn
stands_for start found places dropped txn sound keeps same = record { sound = sound; left_is = refl; txn_is = same ∙ keeps.txn }

items_length : (places : Places) (live : List Left) (items : List (ℕ × Content)) → HasItems places live items → length live ≡ length items
items_length places [] [] has = refl
items_length places [] (item ∷ items) has = absurd has
items_length places (l ∷ live) [] has = absurd has
items_length places (l ∷ live) (item ∷ items) has = omega (arith, items_length places live items has.2)

module _ (told : Option Told) (check : Check) (index now dropped : Indexing) (of : IsOfCheck check index) (goes : WhereLines told check.place (λ found. GoesThrough found index now)) (drops : Drops now dropped) where
  -- The events stand at the pointers in each folder that is replayed so.
  pub elsewhere_from : (capacity : ℕ) (r : Replayed) → r.ring ≡ record dropped.ring { slots = capacity } → WhereStarts told (Some check) (λ files start found. StandElsewhere (Some check) start found r)
  elsewhere_from capacity r ring t is start found from folder there =
      let b = begun folder check start found index there.0 there.1 of in
      let all : Places = b.places ++ puts_of found in
      let past : Past = start_past start in
      let went = goes t is found from.1 all start past (stand_behind b.places found) b.keeps in
      let keeps : Keeps all start (Dropped ∷ past_lines past found) dropped = drops all start (past_lines past found) went.1 in
      subst (λ (live : List Left). LiveAre folder (map live_at live) (replayed start found).items) (sym (ap (λ (i : Index). i.live) ring)) (ring_in folder all dropped.ring.live (replayed start found).items b.within keeps.items)

  -- The ring has what the lines leave.
  pub replayed_from : (capacity : ℕ) (r : Replayed) → r.ring ≡ record dropped.ring { slots = capacity } → r.next ≡ dropped.next → WhereStarts told (Some check) (λ files start found. IsReplayedFrom files start found r)
  replayed_from capacity r ring next_is t is start found from =
      let b = begun t.reads check start found index from.0 from.1 of in
      let all : Places = b.places ++ puts_of found in
      let past : Past = start_past start in
      let went = goes t is found from.1 all start past (stand_behind b.places found) b.keeps in
      let keeps : Keeps all start (Dropped ∷ past_lines past found) dropped = drops all start (past_lines past found) went.1 in
      record {
        left = replayed start found;
        stands = stands_for start found all dropped r.next.txn went.0 keeps (ap (λ (n : Next). n.txn) next_is);
        items = elsewhere_from capacity r ring t is start found from t.reads from;
        number = ap (λ (n : Next). n.number) next_is ∙ keeps.number;
      }

  -- So many events are left.
  pub count_from : (count : ℕ) → count ≡ length dropped.ring.live → WhereStarts told (Some check) (λ files start found. LeavesFrom start found count)
  count_from count same t is start found from =
      let b = begun t.reads check start found index from.0 from.1 of in
      let all : Places = b.places ++ puts_of found in
      let past : Past = start_past start in
      let went = goes t is found from.1 all start past (stand_behind b.places found) b.keeps in
      let keeps : Keeps all start (Dropped ∷ past_lines past found) dropped = drops all start (past_lines past found) went.1 in
      (replayed start found, dropped.next.txn, stands_for start found all dropped dropped.next.txn went.0 keeps refl, same ∙ items_length all dropped.ring.live (replayed start found).items keeps.items)

-- the first fault
pub bad_from : (told : Option Told) (check : Check) (index : Indexing) (e : ReplayRefused) → IsOfCheck check index → WhereBadLog e (λ file at. WhereLines told check.place (λ found. StopsIn found index file at))
    → WhereBadLog e (λ file at. WhereStarts told (Some check) (λ files start found. IsBadFrom start found file at))
bad_from told check index e of bad =
    log_maps e (λ file at. WhereLines told check.place (λ found. StopsIn found index file at)) (λ file at. WhereStarts told (Some check) (λ files start found. IsBadFrom start found file at))
    (λ file at stops. λ t is start found from.
    let b = begun t.reads check start found index from.0 from.1 of in
    stops t is found from.1 (b.places ++ puts_of found) start (start_past start) (stand_behind b.places found) b.keeps)
    bad

-- records were counted
pub few_from : (told : Option Told) (check : Check) (none steps : ℕ) → WhereLines told check.place (λ found. steps ≤ none + record_count found) → WhereStarts told (Some check) (λ files start found. steps ≤ none + record_count found)
few_from told check none steps few t is start found from = few t is found from.1

-- without a checkpoint

module _ (told : Option Told) where
  from_logs : (P : Start → List Line → Type 0) → WhereTold told (λ t. WhereLogs t.reads (λ logs. P empty_start (lines logs))) → WhereStarts told None (λ files start found. P start found)
  from_logs P holds t is start found from =
      subst (λ (s : Start). P s found) (sym from.0) (subst (P empty_start) (sym from.1.lines_are) (holds t is from.1.logs from.1.are))

  -- what was replayed from all log files was replayed from an empty start
  pub front_all : (r : Replayed) → WhereTold told (λ t. WhereLogs t.reads (λ logs. AreReplayed logs r)) → WhereStarts told None (λ files start found. IsReplayedFrom files start found r)
  front_all r holds t is start found from =
      let all = from.1 in
      let one = holds t is all.logs all.are in
      let it : IsReplayedFrom t.reads empty_start (lines all.logs) r = record {
        left = one.left;
        stands = one.stands;
        items = ring_in t.reads (puts_of (lines all.logs)) r.ring.live one.left.items (λ p event there. from_front t.reads (lines all.logs) p event (record { logs = all.logs; are = all.are; lines_are = refl }) there) one.items;
        number = one.number;
      } in
      subst (λ (s : Start). IsReplayedFrom t.reads s found r) (sym from.0) (subst (λ (l : List Line). IsReplayedFrom t.reads empty_start l r) (sym all.lines_are) it)

  -- the events stand elsewhere, too, where all log files were replayed without a checkpoint
  pub front_elsewhere : (r : Replayed) → WhereTold told (λ t. WhereLogs t.reads (λ logs. AreReplayed logs r)) → WhereStarts told None (λ files start found. StandElsewhere None start found r)
  front_elsewhere r holds t is start found from folder there =
      let all = from.1 in
      let one = holds t is all.logs all.are in
      let here : AllLines folder (lines all.logs) = subst (AllLines folder) all.lines_are there.1 in
      let items : LiveAre folder (map live_at r.ring.live) one.left.items =
      ring_in folder (puts_of (lines all.logs)) r.ring.live one.left.items (λ p event placed. from_front folder (lines all.logs) p event here placed) one.items in
      let left : one.left ≡ replayed start found = one.stands.left_is ∙ (λ k. replayed (sym from.0 k) (sym all.lines_are k)) in
      subst (λ (base : Base). LiveAre folder (map live_at r.ring.live) base.items) left items

  -- a fault in the log files is the first fault of an opening without a checkpoint
  pub front_bad : (file at : ℕ) → WhereTold told (λ t. WhereLogs t.reads (λ logs. IsBadFrom empty_start (lines logs) file at)) → WhereStarts told None (λ files start found. IsBadFrom start found file at)
  front_bad file at = from_logs (λ start found. IsBadFrom start found file at)

  -- as many events are left as the log files leave
  pub front_count : (count : ℕ) → WhereTold told (λ t. WhereLogs t.reads (λ logs. LeavesCount logs count)) → WhereStarts told None (λ files start found. LeavesFrom start found count)
  front_count count = from_logs (λ start found. LeavesFrom start found count)

  -- at most so many steps are counted as the log files have records
  pub front_few : (none steps : ℕ) → WhereTold told (λ t. WhereLogs t.reads (λ logs. steps ≤ none + record_count (lines logs))) → WhereStarts told None (λ files start found. steps ≤ none + record_count found)
  front_few none steps = from_logs (λ start found. steps ≤ none + record_count found)

-- of answers

-- what follows of the state that a replay gave
pub within_is : (r : Result Replayed ReplayRefused) (Q R : Replayed → Type 0) → ((x : Replayed) → Q x → R x) → IfOk r Q → IfOk r R
within_is (Ok x) Q R maps is = maps x is
within_is (Err e) Q R maps is = tt
