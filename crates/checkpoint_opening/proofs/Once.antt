-- A folder recovers to one list.
use Rattle.std.proofs.Common.{inl, inr, ◌≡◌, ◌<◌, ◌≤◌, ◌^◌, ◌++◌, ◌∷◌, [], ℕ, List, length, map, Option, Some, None, true, max, refl, sym, ◌∙◌, ap, subst, arith}
use Rattle.std.specs.Prelude.{IsSomeAnd}
use Rattle.std.specs.List.{AllByRecursion}
use Rattle.std.proofs.lemmas.Bool.{cases_lt}
use Rattle.flume_host.specs.Folder.{Files}
use Rattle.flume_host.specs.declared.names.FileName.TheVariants.{Log}
use Rattle.event_core.specs.Content.{Content}
use Rattle.event_core.specs.Journal.{Base, is_among}
use Rattle.event_core.specs.declared.journal.Entry.{Entry}
use Rattle.event_core.specs.declared.journal.Entry.TheVariants.{Puts, Takes}
use Rattle.record_form.specs.declared.record.Pointer.{Pointer}
use Rattle.record_form.specs.Pointers.{PutAt}
use Rattle.record_form.proofs.Pointed.{within}
use Rattle.channel_log.proofs.Pointing.{one_event}
use Rattle.channel_replay.specs.Marks.{next_txn}
use Rattle.channel_replay.specs.Recover.{StandsFrom, lines, past_lines, replayed}
use Rattle.channel_replay.specs.declared.line.Line.{Line}
use Rattle.channel_replay.specs.Start.{Start, start_past}
use Rattle.channel_replay.proofs.Among.{differ}
use Rattle.channel_replay.proofs.OneList.{one_list}
use Rattle.checkpoint.specs.Right.{AreOnceAmong, EventsAre, IsRight, LiveAre, OpenAre, all_of, number_of}
use Rattle.checkpoint.specs.Text.{CheckText, Rise, check_bytes}
use Rattle.checkpoint_reading.specs.Fields.{FitsFields, Gives, Good, Is64}
use Rattle.checkpoint_reading.specs.Laws.{Fits}
use Rattle.checkpoint_reading.proofs.Complete.{right_is_read}
use Rattle.checkpoint_reading.proofs.Unique.{one_outcome}
use Rattle.checkpoint_recovery.specs.Reading.{LinesFrom}
use Rattle.checkpoint_recovery.specs.Recovers.{BeginsAt, Front, From, IsCheck, Means}
use Rattle.checkpoint_recovery.proofs.Elsewhere.{one_newest}
use Rattle.checkpoint_recovery.proofs.Readings.{one_reading}
use Rattle.checkpoint_replay.proofs.Opened.{not_above}
use Rattle.checkpoint_opening.specs.Laws.{AreBounded, RecoversToOnce}

-- what a right checkpoint says fits its fields

module _ (files : Files) (bounded : AreBounded files) where
  pointer_fits : (file : Option (List ℕ)) (p : Pointer) (event : Content) → files (Log p.file) ≡ file → IsSomeAnd file (λ bytes. PutAt bytes p event) → FitsFields p
  pointer_fits None p event is at = absurd at
  pointer_fits (Some bytes) p event is at =
      let b = bounded p.file bytes is in
      let w = within bytes p event at in
      record { file = b.0; at = omega (arith, b.1, w); length = omega (arith, at.long, at.limits) }

  put_fits : (file : Option (List ℕ)) (txn : ℕ) (p : Pointer) (event : Content) → files (Log p.file) ≡ file → IsSomeAnd file (λ bytes. (at : PutAt bytes p event) × (at.txn ≡ txn)) → FitsFields p
  put_fits None txn p event is at = absurd at
  put_fits (Some bytes) txn p event is at = pointer_fits (Some bytes) p event is at.0

  live_fit : (live : List (ℕ × Pointer)) (items : List (ℕ × Content)) → LiveAre files live items → AllByRecursion (λ l. FitsFields l.1) live
  live_fit [] [] are = tt
  live_fit [] (item ∷ items) are = tt
  live_fit (l ∷ live) [] are = absurd are
  live_fit (l ∷ live) (item ∷ items) are = (pointer_fits (files (Log l.1.file)) l.1 item.1 refl are.1, live_fit live items are.2)

  events_fit : (txn : ℕ) (pointers : List Pointer) (events : List Content) → EventsAre files txn pointers events → AllByRecursion FitsFields pointers
  events_fit txn [] [] are = tt
  events_fit txn [] (event ∷ events) are = tt
  events_fit txn (p ∷ pointers) [] are = absurd are
  events_fit txn (p ∷ pointers) (event ∷ events) are = (put_fits (files (Log p.file)) txn p event refl are.0, events_fit txn pointers events are.1)

  puts_fit : (puts : List (ℕ × List Pointer)) (takes : List (ℕ × List ℕ)) (opened : List (ℕ × Entry)) → OpenAre files puts takes opened → AllByRecursion (λ o. AllByRecursion FitsFields o.1) puts
  puts_fit [] takes opened are = tt
  puts_fit (o ∷ puts) takes [] are = absurd are
  puts_fit (o ∷ puts) takes ((txn, Puts events) ∷ opened) are = (events_fit txn o.1 events are.1, puts_fit puts takes opened are.2)
  puts_fit (o ∷ puts) takes ((txn, Takes numbers) ∷ opened) are = absurd are

  place_fits : (file : Option (List ℕ)) (n at : ℕ) → files (Log n) ≡ file → IsSomeAnd file (λ bytes. (16 ≤ at) × (at < length bytes)) → (n < 2 ^ 32) × (at < 2 ^ 64)
  place_fits None n at is there = absurd there
  place_fits (Some bytes) n at is there = let b = bounded n bytes is in (b.0, omega (arith, b.1, there.1))

-- numbers that are taken are below the next one
numbers_fit : (others numbers : List ℕ) → ((n : ℕ) → is_among others n ≡ true → n < 2 ^ 64) → AreOnceAmong others numbers → AllByRecursion Is64 numbers
numbers_fit others [] low once = tt
numbers_fit others (n ∷ numbers) low once = (low n once.0, numbers_fit others numbers low once.2)

in_front : (a b : List ℕ) → AllByRecursion Is64 (a ++ b) → AllByRecursion Is64 a
in_front [] b all = tt
in_front (n ∷ a) b all = (all.0, in_front a b all.1)

in_back : (a b : List ℕ) → AllByRecursion Is64 (a ++ b) → AllByRecursion Is64 b
in_back [] b all = all
in_back (n ∷ a) b all = in_back a b all.1

takes_fit : (takes : List (ℕ × List ℕ)) → AllByRecursion Is64 (all_of takes) → AllByRecursion (λ o. AllByRecursion Is64 o.1) takes
takes_fit [] all = tt
takes_fit (o ∷ takes) all = (in_front o.1 (all_of takes) all, takes_fit takes (in_back o.1 (all_of takes) all))

live_low : (c : CheckText) (n : ℕ) → Rise 0 c.next.number c.live → c.next.number < 2 ^ 64 → is_among (map number_of c.live) n ≡ true → n < 2 ^ 64
live_low c n rise low is =
    elim (cases_lt n c.next.number) [
      | inl less ↦ omega (arith, less, low)
      | inr more ↦ absurd (differ (sym is ∙ not_above 0 c.next.number n c.live rise more))
    ]

fits_of : (files : Files) (c : CheckText) (left : List (ℕ × Content)) (opened : List (ℕ × Entry)) → AreBounded files → IsRight files c left opened → c.next.number < 2 ^ 64 → c.next.txn < 2 ^ 64 → Fits c
fits_of files c left opened bounded right number txn =
    let place = place_fits files bounded (files (Log c.place.file)) c.place.file c.place.at refl right.place in
    record {
      file = place.0;
      at = place.1;
      number = number;
      txn = txn;
      live = live_fit files bounded c.live left right.live;
      puts = puts_fit files bounded c.puts c.takes opened right.opens;
      takes = takes_fit c.takes (numbers_fit (map number_of c.live) (all_of c.takes) (λ n is. live_low c n right.numbers number is) right.held);
    }

-- a checkpoint's bytes are of one text
same_behind : (a b : List ℕ) → Some (1 ∷ a) ≡ Some (1 ∷ b) → a ≡ b
same_behind a b is = cc

good_is : (a b : CheckText) → Good a ≡ Good b → a ≡ b
good_is a b is = cc

one_text : (files : Files) (c d : CheckText) → Fits c → Fits d → (l m : List (ℕ × Content)) (o p : List (ℕ × Entry)) → IsRight files c l o → IsRight files d m p → check_bytes c ≡ check_bytes d → c ≡ d
one_text files c d fits fits' l m o p right right' same =
    good_is c d
    (one_outcome files (check_bytes d) (Good c) (Good d) (subst (λ (bytes : List ℕ). Gives files (Good c) bytes) same (right_is_read files c fits (record { left = l; opened = o; right = right })))
    (right_is_read files d fits' (record { left = m; opened = p; right = right' })))

-- and it stands for one start

module _ (files : Files) where
  event_same : (file : Option (List ℕ)) (p : Pointer) (a b : Content) → IsSomeAnd file (λ bytes. PutAt bytes p a) → IsSomeAnd file (λ bytes. PutAt bytes p b) → a ≡ b
  event_same None p a b x y = absurd x
  event_same (Some bytes) p a b x y = one_event bytes p a b x y

  put_same : (file : Option (List ℕ)) (txn : ℕ) (p : Pointer) (a b : Content) → IsSomeAnd file (λ bytes. (at : PutAt bytes p a) × (at.txn ≡ txn)) → IsSomeAnd file (λ bytes. (at : PutAt bytes p b) × (at.txn ≡ txn)) → a ≡ b
  put_same None txn p a b x y = absurd x
  put_same (Some bytes) txn p a b x y = one_event bytes p a b x.0 y.0

  one_live : (live : List (ℕ × Pointer)) (a b : List (ℕ × Content)) → LiveAre files live a → LiveAre files live b → a ≡ b
  one_live [] [] [] x y = refl
  one_live [] [] (i ∷ b) x y = absurd y
  one_live [] (i ∷ a) b x y = absurd x
  one_live (l ∷ live) [] b x y = absurd x
  one_live (l ∷ live) (i ∷ a) [] x y = absurd y
  one_live (l ∷ live) (i ∷ a) (j ∷ b) x y =
      let number : i.0 ≡ j.0 = sym x.0 ∙ y.0 in
      let event : i.1 ≡ j.1 = event_same (files (Log l.1.file)) l.1 i.1 j.1 x.1 y.1 in
      let rest : a ≡ b = one_live live a b x.2 y.2 in
      λ k. (number k, event k) ∷ rest k

  one_events : (txn : ℕ) (pointers : List Pointer) (a b : List Content) → EventsAre files txn pointers a → EventsAre files txn pointers b → a ≡ b
  one_events txn [] [] [] x y = refl
  one_events txn [] [] (e ∷ b) x y = absurd y
  one_events txn [] (e ∷ a) b x y = absurd x
  one_events txn (p ∷ pointers) [] b x y = absurd x
  one_events txn (p ∷ pointers) (e ∷ a) [] x y = absurd y
  one_events txn (p ∷ pointers) (e ∷ a) (f ∷ b) x y =
      let event : e ≡ f = put_same (files (Log p.file)) txn p e f x.0 y.0 in
      let rest : a ≡ b = one_events txn pointers a b x.1 y.1 in
      λ k. event k ∷ rest k

  one_open : (puts : List (ℕ × List Pointer)) (takes : List (ℕ × List ℕ)) (a b : List (ℕ × Entry)) → OpenAre files puts takes a → OpenAre files puts takes b → a ≡ b
  one_open (o ∷ puts) takes [] b x y = absurd x
  one_open (o ∷ puts) takes ((t, Takes ns) ∷ a) b x y = absurd x
  one_open (o ∷ puts) takes ((t, Puts es) ∷ a) [] x y = absurd y
  one_open (o ∷ puts) takes ((t, Puts es) ∷ a) ((u, Takes ns) ∷ b) x y = absurd y
  one_open (o ∷ puts) takes ((t, Puts es) ∷ a) ((u, Puts fs) ∷ b) x y =
      let txn : t ≡ u = x.0 ∙ sym y.0 in
      let events : es ≡ fs = one_events t o.1 es fs x.1 (subst (λ (n : ℕ). EventsAre files n o.1 fs) (sym txn) y.1) in
      let rest : a ≡ b = one_open puts takes a b x.2 y.2 in
      λ k. (txn k, Puts (events k)) ∷ rest k
  one_open [] (o ∷ takes) [] b x y = absurd x
  one_open [] (o ∷ takes) ((t, Puts es) ∷ a) b x y = absurd x
  one_open [] (o ∷ takes) ((t, Takes ns) ∷ a) [] x y = absurd y
  one_open [] (o ∷ takes) ((t, Takes ns) ∷ a) ((u, Puts es) ∷ b) x y = absurd y
  one_open [] (o ∷ takes) ((t, Takes ns) ∷ a) ((u, Takes ms) ∷ b) x y =
      let txn : t ≡ u = x.0 ∙ sym y.0 in
      let numbers : ns ≡ ms = x.1 ∙ sym y.1 in
      let rest : a ≡ b = one_open [] takes a b x.2 y.2 in
      λ k. (txn k, Takes (numbers k)) ∷ rest k
  one_open [] [] [] [] x y = refl
  one_open [] [] [] ((t, Puts es) ∷ b) x y = absurd y
  one_open [] [] [] ((t, Takes ns) ∷ b) x y = absurd y
  one_open [] [] ((t, Puts es) ∷ a) b x y = absurd x
  one_open [] [] ((t, Takes ns) ∷ a) b x y = absurd x

one_start : (files : Files) (c : CheckText) (s u : Start) → Means files c s → Means files c u → s ≡ u
one_start files c s u x y =
    let items : s.base.items ≡ u.base.items = one_live files c.live s.base.items u.base.items x.right.live y.right.live in
    let first : s.base.first ≡ u.base.first = x.number ∙ sym y.number in
    let opens : s.opened ≡ u.opened = one_open files c.puts c.takes s.opened u.opened x.right.opens y.right.opens in
    let txn : s.txn ≡ u.txn = x.txn ∙ sym y.txn in
    λ k. record { base = record { items = items k; first = first k }; opened = opens k; txn = txn k }

-- and a folder begins so once

some_is : (a b : ℕ) → Some a ≡ Some b → a ≡ b
some_is a b is = cc

module _ (files : Files) (bounded : AreBounded files) where
  one_check : (n : ℕ) (c d : CheckText) (s u : Start) → IsCheck files n c s → IsCheck files n d u → s.base.first < 2 ^ 64 → u.base.first < 2 ^ 64 → s.txn < 2 ^ 64 → u.txn < 2 ^ 64 → c ≡ d
  one_check n c d s u x y f g p q =
      one_text files c d (fits_of files c s.base.items s.opened bounded x.means.right (omega (arith, x.means.number, f)) (omega (arith, x.means.txn, p)))
      (fits_of files d u.base.items u.opened bounded y.means.right (omega (arith, y.means.number, g)) (omega (arith, y.means.txn, q)))
      s.base.items u.base.items s.opened u.opened x.means.right y.means.right (same_behind (check_bytes c) (check_bytes d) (sym x.spelled ∙ y.spelled))

  one_beginning : (s u : Start) (found other : List Line) → BeginsAt files s found → BeginsAt files u other → s.base.first < 2 ^ 64 → u.base.first < 2 ^ 64 → s.txn < 2 ^ 64 → u.txn < 2 ^ 64 → (s ≡ u) × (found ≡ other)
  one_beginning s u found other (Front none empty all) (Front none' empty' all') f g p q =
      (empty ∙ sym empty', all.lines_are ∙ (ap lines (one_list files 0 (2 ^ 32) all.logs all'.logs all.are all'.are) ∙ sym all'.lines_are))
  one_beginning s u found other (Front none empty all) (From n c newest check from) f g p q = absurd (let no : None ≡ Some n = one_newest files None (Some n) none newest in cc)
  one_beginning s u found other (From n c newest check from) (Front none empty all) f g p q = absurd (let no : None ≡ Some n = one_newest files None (Some n) none newest in cc)
  one_beginning s u found other (From n c newest check from) (From m d newest' check' from') f g p q =
      let number : m ≡ n = some_is m n (one_newest files (Some m) (Some n) newest' newest) in
      let check'' : IsCheck files n d u = subst (λ (k : ℕ). IsCheck files k d u) number check' in
      let text : d ≡ c = sym (one_check n c d s u check check'' f g p q) in (
        one_start files c s u check.means (subst (λ (e : CheckText). Means files e u) text check''.means),
        one_reading files c.place found other from (subst (λ (e : CheckText). LinesFrom files e.place other) text from'),
      )

-- what is left begins with no number below that of its start
pub first_low : (s : Start) (found : List Line) (left : Base) (txn high : ℕ) → StandsFrom s found left txn → left.first < high → s.base.first < high
first_low s found left txn high stands low = omega (arith, low, ap (λ (b : Base). b.first) stands.left_is)

txn_low : (s : Start) (found : List Line) (left : Base) (txn high : ℕ) → StandsFrom s found left txn → txn < high → s.txn < high
txn_low s found left txn high stands low = from s.txn (next_txn (past_lines (start_past s) found)) stands.txn_is
  where
    from : (a b : ℕ) → txn ≡ max a b → a < high
    from a b is = grind (arith, is, low)

-- a folder recovers to one list and to one next transaction number
pub recovers_to_once : RecoversToOnce
recovers_to_once files a b x y bounded r q fa fb fx fy =
    let one = one_beginning files bounded r.start q.start r.found q.found r.begins q.begins
    (first_low r.start r.found a x (2 ^ 64) r.stands fa) (first_low q.start q.found b y (2 ^ 64) q.stands fb)
    (txn_low r.start r.found a x (2 ^ 64) r.stands fx) (txn_low q.start q.found b y (2 ^ 64) q.stands fy) in (
      r.stands.left_is ∙ ((λ k. replayed (one.0 k) (one.1 k)) ∙ sym q.stands.left_is),
      r.stands.txn_is ∙ ((λ k. let s : Start = one.0 k in max s.txn (next_txn (past_lines (start_past s) (one.1 k)))) ∙ sym q.stands.txn_is),
    )
