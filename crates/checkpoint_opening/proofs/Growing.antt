-- A folder that gains a log file after its others.
use Rattle.std.proofs.Common.{◌⊎◌, inl, inr, ◌≡◌, ◌≢◌, ◌<◌, ◌≤◌, ◌+◌, ◌^◌, ◌++◌, ◌∷◌, [], ◌==◌, ℕ, List, Option, Some, None, true, false, refl, sym, ◌∙◌, ap, subst, append_assoc, arith}
use Rattle.std.specs.Prelude.{IsSomeAnd}
use Rattle.std.proofs.lemmas.Bool.{cases_lt}
use Rattle.std.proofs.lemmas.Bool.Decides.{eqb_tells}
use Rattle.std.proofs.lemmas.List.{append-nil}
use Rattle.flume_host.specs.Folder.{Files, same_name}
use Rattle.flume_host.specs.declared.names.FileName.TheVariants.{Check, Log}
use Rattle.event_core.specs.Content.{Content}
use Rattle.event_core.specs.declared.journal.Entry.{Entry}
use Rattle.event_core.specs.declared.journal.Entry.TheVariants.{Puts, Takes}
use Rattle.record_form.specs.declared.record.Pointer.{Pointer}
use Rattle.channel_log.specs.Frames as frames
use Rattle.channel_log.specs.Frames.{Holds}
use Rattle.record_form.specs.Pointers.{PutAt}
use Rattle.channel_replay.specs.declared.line.Line.{Line}
use Rattle.channel_replay.specs.Recover.{AreLogs, LogFile, file_lines, lines}
use Rattle.channel_replay.proofs.Lines.{lines-append}
use Rattle.checkpoint.specs.Newest.{IsNewest, IsPassed, IsPassedFile}
use Rattle.checkpoint.specs.Right.{EventsAre, LiveAre, OpenAre}
use Rattle.checkpoint_recovery.specs.Reading.{HasFrom}
use Rattle.checkpoint_recovery.specs.Recovers.{Front, From}
use Rattle.checkpoint_opening.specs.Laws.{Grows, GrownBegins}

-- names of log files differ where their numbers do
pub other_log : (n number : ℕ) → n ≢ number → same_name (Log n) (Log number) ≡ false
other_log n number other = from (eqb_tells n number)
  where
    from : ((n == number) ≡ true) × (n ≡ number) ⊎ ((n == number) ≡ false) × (n ≢ number) → (n == number) ≡ false
    from (inl same) = absurd (other same.1)
    from (inr differs) = differs.0

-- log files below a number, in a folder that has the same below it
pub same_logs : (files files' : Files) (from number : ℕ) (logs : List LogFile) → ((n : ℕ) → n < number → files' (Log n) ≡ files (Log n)) → AreLogs files from number logs → AreLogs files' from number logs
same_logs files files' from number [] same are = λ n low high. same n high ∙ are n low high
same_logs files files' from number (log ∷ logs) same are = (
  are.0,
  are.1,
  (λ n low high. same n (omega (arith, high, are.1)) ∙ are.2 n low high),
  subst (λ (f : Option (List ℕ)). IsSomeAnd f (λ bytes. Holds log.number bytes log.content)) (sym (same log.number are.1)) are.3,
  same_logs files files' (log.number + 1) number logs same are.4,
)

-- and of a folder that has none from that number on
pub narrow : (files : Files) (from to number : ℕ) (logs : List LogFile) → number ≤ to → from ≤ number → ((n : ℕ) → number ≤ n → files (Log n) ≡ None) → AreLogs files from to logs → AreLogs files from number logs
narrow files from to number [] most low none are = λ n more less. are n more (omega (arith, less, most))
narrow files from to number (log ∷ logs) most low none are = by_place (cases_lt log.number number) (λ less. narrow files (log.number + 1) to number logs most (omega (arith, less)) none are.4)
  where
    held : (o : Option (List ℕ)) → IsSomeAnd o (λ bytes. Holds log.number bytes log.content) → o ≡ None → ⊥
    held None is gone = is
    held (Some bytes) is gone = absurd (cc)

    by_place : (log.number < number) ⊎ (number ≤ log.number) → (log.number < number → AreLogs files (log.number + 1) number logs) → AreLogs files from number (log ∷ logs)
    by_place (inl less) rest = (are.0, less, are.2, are.3, rest less)
    by_place (inr more) rest = absurd (held (files (Log log.number)) are.3 (none log.number more))

-- a folder's log files and one more
pub logs_and_one : (files : Files) (from number to : ℕ) (earlier : List LogFile) (content : frames.Content) → AreLogs files from number earlier → from ≤ number → number < to → IsSomeAnd (files (Log number)) (λ bytes. Holds number bytes content)
    → ((n : ℕ) → number < n → files (Log n) ≡ None) → AreLogs files from to (earlier ++ record { number = number; content = content } ∷ [])
logs_and_one files from number to [] content before low small last none = (low, small, before, last, λ n up down. none n (omega (arith, up)))
logs_and_one files from number to (log ∷ earlier) content before low small last none =
    (before.0, omega (arith, before.1, small), before.2, before.3, logs_and_one files (log.number + 1) number to earlier content before.4 (omega (arith, before.1)) small last none)

some_none : (file : Option (List ℕ)) (P : List ℕ → Type 0) → IsSomeAnd file P → file ≡ None → ⊥
some_none None P some none = some
some_none (Some bytes) P some none = absurd (cc)

module _ (files folder : Files) (number : ℕ) (content : frames.Content) (g : Grows files folder number content) where
  abbrev last : LogFile
  last = record { number = number; content = content }

  -- a file that was there has a lower number
  below : (P : List ℕ → Type 0) (n : ℕ) → IsSomeAnd (files (Log n)) P → n < number
  below P n is =
      elim (cases_lt n number) [
        | inl less ↦ less
        | inr more ↦ absurd (some_none (files (Log n)) P is (g.none n more))
      ]

  spared : (n : ℕ) → n ≢ number → folder (Log n) ≡ files (Log n)
  spared n other = g.others (Log n) (other_log n number other)

  -- and is there still
  there : (P : List ℕ → Type 0) (n : ℕ) → IsSomeAnd (files (Log n)) P → IsSomeAnd (folder (Log n)) P
  there P n is =
      let less : n < number = below P n is in
      subst (λ (file : Option (List ℕ)). IsSomeAnd file P) (sym (spared n (λ same. omega (arith, less, same)))) is

  logs_grow : (from : ℕ) (logs : List LogFile) → from ≤ number → AreLogs files from (2 ^ 32) logs → AreLogs folder from (2 ^ 32) (logs ++ last ∷ [])
  logs_grow from logs low are =
      logs_and_one folder from number (2 ^ 32) logs content
      (same_logs files folder from number logs (λ n less. spared n (λ same. omega (arith, less, same))) (narrow files from (2 ^ 32) number logs (omega (arith, g.small)) low g.none are))
      low g.small g.holds (λ n more. spared n (λ same. omega (arith, more, same)) ∙ g.none n (omega (arith, more)))

  lines_grow : (logs : List LogFile) → lines (logs ++ last ∷ []) ≡ lines logs ++ file_lines number content
  lines_grow logs = lines-append logs (last ∷ []) ∙ ap (λ (l : List Line). lines logs ++ l) (append-nil (file_lines number content))

  newest_grows : (newest : Option ℕ) → IsNewest files newest → IsNewest folder newest
  newest_grows None is = λ m. subst IsPassedFile (sym (g.others (Check m) refl)) (is m)
  newest_grows (Some n) is = (
    subst (λ (file : Option (List ℕ)). IsSomeAnd file (λ bytes. IsPassed bytes → ⊥)) (sym (g.others (Check n) refl)) is.0,
    λ m above. subst IsPassedFile (sym (g.others (Check m) refl)) (is.1 m above),
  )

  live_grows : (live : List (ℕ × Pointer)) (items : List (ℕ × Content)) → LiveAre files live items → LiveAre folder live items
  live_grows [] [] are = tt
  live_grows [] (item ∷ items) are = are
  live_grows (l ∷ live) [] are = are
  live_grows (l ∷ live) (item ∷ items) are = (are.0, there (λ bytes. PutAt bytes l.1 item.1) l.1.file are.1, live_grows live items are.2)

  events_grow : (txn : ℕ) (pointers : List Pointer) (events : List Content) → EventsAre files txn pointers events → EventsAre folder txn pointers events
  events_grow txn [] [] are = tt
  events_grow txn [] (event ∷ events) are = are
  events_grow txn (p ∷ pointers) [] are = are
  events_grow txn (p ∷ pointers) (event ∷ events) are = (there (λ bytes. (at : PutAt bytes p event) × (at.txn ≡ txn)) p.file are.0, events_grow txn pointers events are.1)

  open_grows : (puts : List (ℕ × List Pointer)) (takes : List (ℕ × List ℕ)) (opened : List (ℕ × Entry)) → OpenAre files puts takes opened → OpenAre folder puts takes opened
  open_grows (o ∷ puts) takes [] are = are
  open_grows (o ∷ puts) takes ((txn, Puts events) ∷ opened) are = (are.0, events_grow txn o.1 events are.1, open_grows puts takes opened are.2)
  open_grows (o ∷ puts) takes ((txn, Takes numbers) ∷ opened) are = are
  open_grows [] (o ∷ takes) [] are = are
  open_grows [] (o ∷ takes) ((txn, Puts events) ∷ opened) are = are
  open_grows [] (o ∷ takes) ((txn, Takes numbers) ∷ opened) are = (are.0, are.1, open_grows [] takes opened are.2)
  open_grows [] [] [] are = tt
  open_grows [] [] ((txn, Puts events) ∷ opened) are = are
  open_grows [] [] ((txn, Takes numbers) ∷ opened) are = are

-- a folder with one log file more begins where it did, with the lines of that file after the others
pub grown_begins : GrownBegins
grown_begins files folder number content start found g (Front none empty all) = Front (newest_grows files folder number content g None none) empty (record {
  logs = all.logs ++ record { number = number; content = content } ∷ [];
  are = logs_grow files folder number content g 0 all.logs (omega arith) all.are;
  lines_are = ap (λ (l : List Line). l ++ file_lines number content) all.lines_are ∙ sym (lines_grow files folder number content g all.logs);
})
grown_begins files folder number content start found g (From n c newest check from) =
    let r = check.means.right in
    let own : List ℕ → Type 0 = λ bytes. HasFrom c.place.file bytes c.place.at from.own in
    From n c (newest_grows files folder number content g (Some n) newest) (
    record {
      spelled = g.others (Check n) refl ∙ check.spelled;
      means = record {
        right = record {
          place = there files folder number content g _ c.place.file r.place;
          numbers = r.numbers;
          next = r.next;
          put_txns = r.put_txns;
          take_txns = r.take_txns;
          apart = r.apart;
          few = r.few;
          some_puts = r.some_puts;
          some_takes = r.some_takes;
          held = r.held;
          few_live = r.few_live;
          puts_fit = r.puts_fit;
          takes_fit = r.takes_fit;
          live = live_grows files folder number content g c.live start.base.items r.live;
          opens = open_grows files folder number content g c.puts c.takes start.opened r.opens;
        };
        number = check.means.number;
        txn = check.means.txn;
      };
    }) (
    record {
      own = from.own;
      logs = from.logs ++ record { number = number; content = content } ∷ [];
      there = there files folder number content g own c.place.file from.there;
      behind = logs_grow files folder number content g (c.place.file + 1) from.logs (omega (arith, below files folder number content g own c.place.file from.there)) from.behind;
      lines_are =
          ap (λ (l : List Line). l ++ file_lines number content) from.lines_are
          ∙ (append_assoc from.own (lines from.logs) (file_lines number content) ∙ ap (λ (l : List Line). from.own ++ l) (sym (lines_grow files folder number content g from.logs)));
    })
