-- Checkpoints in another folder.
use Rattle.std.proofs.Common.{◌⊎◌, inl, inr, ◌≡◌, ◌≢◌, ◌<◌, ◌≤◌, ◌+◌, ◌^◌, ◌∷◌, [], ℕ, List, length, get_or, Option, Some, None, refl, sym, ◌∙◌, ap, subst, arith}
use Rattle.std.specs.Prelude.{IsSomeAnd}
use Rattle.std.specs.List.{AllByRecursion}
use Rattle.std.proofs.lemmas.Bool.{cases_eq}
use Rattle.flume_host.specs.Folder.{Files}
use Rattle.flume_host.specs.declared.names.FileName.TheVariants.{Check, Log}
use Rattle.event_core.specs.Content.{Content}
use Rattle.event_core.specs.declared.journal.Entry.{Entry}
use Rattle.event_core.specs.declared.journal.Entry.TheVariants.{Puts, Takes}
use Rattle.record_form.specs.declared.record.Pointer.{Pointer}
use Rattle.channel_log.specs.Frames.{Holds}
use Rattle.record_form.specs.Pointers.{PutAt}
use Rattle.channel_replay.specs.declared.line.Line.{Line}
use Rattle.channel_replay.specs.Recover.{AreLogs, LogFile}
use Rattle.channel_replay.specs.Start.{Start}
use Rattle.checkpoint.specs.Newest.{IsNewest, IsPassed, IsPassedFile}
use Rattle.checkpoint.specs.Right.{EventsAre, LiveAre, OpenAre}
use Rattle.checkpoint.specs.Text.{CheckText, check_bytes}
use Rattle.checkpoint.specs.declared.place.Place.{Place}
use Rattle.checkpoint_recovery.specs.Reading.{HasFrom, LinesFrom}
use Rattle.checkpoint_recovery.specs.Recovers.{Front, From, IsCheck}
use Rattle.checkpoint_recovery.specs.Laws.{FrontElsewhere, HasOneNewest, NamesFrom, OpenIsNewest, PassedIsNotNewest, SameFrom, ServesElsewhere}

module _ (files later : Files) (least : ℕ) (same : SameFrom least files later) where
  there : (P : List ℕ → Type 0) (n : ℕ) → least ≤ n → IsSomeAnd (files (Log n)) P → IsSomeAnd (later (Log n)) P
  there P n low is = subst (λ (file : Option (List ℕ)). IsSomeAnd file P) (sym (same n low)) is

  logs_there : (from to : ℕ) (logs : List LogFile) → least ≤ from → AreLogs files from to logs → AreLogs later from to logs
  logs_there from to [] low are = λ n above below. same n (omega (arith, low, above)) ∙ are n above below
  logs_there from to (log ∷ logs) low are = (
    are.0,
    are.1,
    λ n above below. same n (omega (arith, low, above)) ∙ are.2 n above below,
    there (λ bytes. Holds log.number bytes log.content) log.number (omega (arith, low, are.0)) are.3,
    logs_there (log.number + 1) to logs (omega (arith, low, are.0)) are.4,
  )

  live_there : (live : List (ℕ × Pointer)) (items : List (ℕ × Content)) → AllByRecursion (λ l. least ≤ l.1.file) live → LiveAre files live items → LiveAre later live items
  live_there [] [] low are = tt
  live_there [] (item ∷ items) low are = are
  live_there (l ∷ live) [] low are = are
  live_there (l ∷ live) (item ∷ items) low are = (are.0, there (λ bytes. PutAt bytes l.1 item.1) l.1.file low.0 are.1, live_there live items low.1 are.2)

  events_there : (txn : ℕ) (pointers : List Pointer) (events : List Content) → AllByRecursion (λ p. least ≤ p.file) pointers → EventsAre files txn pointers events → EventsAre later txn pointers events
  events_there txn [] [] low are = tt
  events_there txn [] (event ∷ events) low are = are
  events_there txn (p ∷ pointers) [] low are = are
  events_there txn (p ∷ pointers) (event ∷ events) low are = (there (λ bytes. (at : PutAt bytes p event) × (at.txn ≡ txn)) p.file low.0 are.0, events_there txn pointers events low.1 are.1)

  open_there : (puts : List (ℕ × List Pointer)) (takes : List (ℕ × List ℕ)) (opened : List (ℕ × Entry)) → AllByRecursion (λ o. AllByRecursion (λ p. least ≤ p.file) o.1) puts → OpenAre files puts takes opened → OpenAre later puts takes opened
  open_there (o ∷ puts) takes [] low are = are
  open_there (o ∷ puts) takes ((txn, Puts events) ∷ opened) low are = (are.0, events_there txn o.1 events low.0 are.1, open_there puts takes opened low.1 are.2)
  open_there (o ∷ puts) takes ((txn, Takes numbers) ∷ opened) low are = are
  open_there [] (o ∷ takes) [] low are = are
  open_there [] (o ∷ takes) ((txn, Puts events) ∷ opened) low are = are
  open_there [] (o ∷ takes) ((txn, Takes numbers) ∷ opened) low are = (are.0, are.1, open_there [] takes opened low are.2)
  open_there [] [] [] low are = tt
  open_there [] [] ((txn, Puts events) ∷ opened) low are = are
  open_there [] [] ((txn, Takes numbers) ∷ opened) low are = are

-- a checkpoint stands for the same there
pub check_elsewhere : (files later : Files) (least number : ℕ) (c : CheckText) (start : Start) → SameFrom least files later → NamesFrom least c → later (Check number) ≡ files (Check number) → IsCheck files number c start → IsCheck later number c start
check_elsewhere files later least number c start same names file check =
    let r = check.means.right in
    record {
      spelled = file ∙ check.spelled;
      means = record {
        right = record {
          place = there files later least same _ c.place.file names.place r.place;
          numbers = r.numbers;
          next = r.next;
          put_txns = r.put_txns;
          take_txns = r.take_txns;
          apart = r.apart;
          few = r.few;
          some_puts = r.some_puts;
          some_takes = r.some_takes;
          held = r.held;
          few_live = r.few_live;
          puts_fit = r.puts_fit;
          takes_fit = r.takes_fit;
          live = live_there files later least same c.live start.base.items names.live r.live;
          opens = open_there files later least same c.puts c.takes start.opened names.puts r.opens;
        };
        number = check.means.number;
        txn = check.means.txn;
      };
    }

-- and the lines after its place are the same
pub lines_elsewhere : (files later : Files) (least : ℕ) (place : Place) (found : List Line) → SameFrom least files later → least ≤ place.file → LinesFrom files place found → LinesFrom later place found
lines_elsewhere files later least place found same low lines = record {
  own = lines.own;
  logs = lines.logs;
  there = there files later least same (λ bytes. HasFrom place.file bytes place.at lines.own) place.file low lines.there;
  behind = logs_there files later least same (place.file + 1) (2 ^ 32) lines.logs (omega (arith, low)) lines.behind;
  lines_are = lines.lines_are;
}

-- a folder with the files that its newest checkpoint names begins at the same start
pub serves_elsewhere : ServesElsewhere
serves_elsewhere files later least number c start found same names newest file check lines =
    From number c newest (check_elsewhere files later least number c start same names file check) (lines_elsewhere files later least c.place found same names.place lines)

-- a folder with the same log files and no checkpoint begins at the front of its log
pub front_elsewhere : FrontElsewhere
front_elsewhere files later found same newest all = Front newest refl (record { logs = all.logs; are = logs_there files later 0 same 0 (2 ^ 32) all.logs (omega arith) all.are; lines_are = all.lines_are })

-- which checkpoint is the newest

-- a file that is passed over is not one that is not
pub not_both : (file : Option (List ℕ)) → IsPassedFile file → IsSomeAnd file (λ bytes. IsPassed bytes → ⊥) → ⊥
not_both None passed is = is
not_both (Some bytes) passed is = is passed

-- the newest checkpoint stays so while the file of one that is passed over changes
pub passed_is_not_newest : PassedIsNotNewest
passed_is_not_newest files later n newest before now same is = by_newest newest is
  where
    passed_still : (m : ℕ) → IsPassedFile (files (Check m)) → IsPassedFile (later (Check m))
    passed_still m passed =
        elim (cases_eq m n) [
          | inl one ↦ subst (λ (k : ℕ). IsPassedFile (later (Check k))) (sym one) now
          | inr other ↦ subst IsPassedFile (sym (same m other)) passed
        ]

    by_newest : (newest : Option ℕ) → IsNewest files newest → IsNewest later newest
    by_newest None is = λ m. passed_still m (is m)
    by_newest (Some number) is =
        let apart : number ≢ n = λ one. not_both (files (Check number)) (subst (λ (k : ℕ). IsPassedFile (files (Check k))) (sym one) before) is.0 in
        (subst (λ (file : Option (List ℕ)). IsSomeAnd file (λ bytes. IsPassed bytes → ⊥)) (sym (same number apart)) is.0, λ m more. passed_still m (is.1 m more))

front_some : (bytes : List ℕ) → get_or bytes 0 0 ≡ 70 → 1 ≤ length bytes
front_some [] is = absurd (omega (arith, is))
front_some (b ∷ bytes) is = omega arith

-- the text of a checkpoint begins with an F
begins : (c : CheckText) → get_or (check_bytes c) 0 0 ≡ 70
unfolding check_bytes
begins c = refl

-- an open checkpoint is the newest where each one above it is passed over
pub open_is_newest : OpenIsNewest
open_is_newest files n c spelled above = (subst (λ (file : Option (List ℕ)). IsSomeAnd file (λ bytes. IsPassed bytes → ⊥)) (sym spelled) not_passed, above)
  where
    not_passed : IsPassed (1 ∷ check_bytes c) → ⊥
    not_passed (inl short) = omega (arith, short, front_some (check_bytes c) (begins c))
    not_passed (inr shut) = shut refl

-- one is the newest

not_above : (files : Files) (a b : ℕ) → IsNewest files (Some a) → IsNewest files (Some b) → a < b → ⊥
not_above files a b x y less = not_both (files (Check b)) (x.1 b less) y.0

-- a folder has one newest checkpoint, or none
pub one_newest : HasOneNewest
one_newest files None None x y = refl
one_newest files None (Some b) x y = absurd (not_both (files (Check b)) (x b) y.0)
one_newest files (Some a) None x y = absurd (not_both (files (Check a)) (y a) x.0)
one_newest files (Some a) (Some b) x y = by_number (which a b)
  where
    which : (m n : ℕ) → (m < n) ⊎ (m ≡ n) ⊎ (n < m)
    which m n = grind arith

    by_number : (a < b) ⊎ (a ≡ b) ⊎ (b < a) → Some a ≡ Some b
    by_number (inl lower) = absurd (not_above files a b x y lower)
    by_number (inr (inl same)) = ap (λ (n : ℕ). Some n) same
    by_number (inr (inr higher)) = absurd (not_above files b a y x higher)
