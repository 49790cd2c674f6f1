-- What is staged counts.
use Rattle.std.proofs.Common.{◌⊎◌, inl, inr, ◌≡◌, ◌≢◌, ◌≤◌, ◌+◌, ◌++◌, ◌∷◌, [], ℕ, List, length, Bool, true, false, ◌==◌, cond, refl, sym, ◌∙◌, ap, subst, arith, length-append}
use Rattle.std.specs.Prelude.{◌||◌}
use Rattle.std.proofs.lemmas.Bool.Decides.{eqb_tells}
use Rattle.event_core.specs.Content.{Content}
use Rattle.event_core.specs.Journal.{is_among, left, numbered, put_events, taken_numbers, without}
use Rattle.event_core.specs.declared.journal.Entry.{Entry}
use Rattle.event_core.specs.declared.journal.Entry.TheVariants as entry
use Rattle.record_form.specs.declared.record.Pointer.{Pointer}
use Rattle.open_table.specs.Tables.{Listed, Puts, Takes, puts_of}
use Rattle.event_ring.specs.Slots.{Left, lasting}
use Rattle.channel_face.specs.Machine.{State, base_of, entries, is_none_staged, settle}
use Rattle.channel_face.specs.Sound.{Rising, number_of, times}
use Rattle.channel_face.proofs.Numbers.{among_times, base_rising, distinct, distinct_times, number_high, number_of-append, number_of-without, number_once, other_number, rising-left, rising_base, same_number, times-append, without-append, without-both, without_above, without_none}
use Rattle.channel_places.specs.Ends.{AreApart, lacking, one_if_staged, placed, pointers_in, takes_in}
use Rattle.channel_places.specs.Looks.{Known, LookLeft, LookPuts, LookStaged, Looks, Numbers, Places, held_in, numbers_of, puts_in}
use Rattle.channel_places.proofs.Ending.{among_same}
use Rattle.channel_places.proofs.Freeing.{left_live}

-- what is staged, by pointers and by events

-- what is staged takes the same numbers, by pointers and by events
pub takes_same : (known : Known) (listed : List Listed) (staged : List Entry) → LookStaged known listed staged → takes_in listed ≡ taken_numbers staged
takes_same known [] [] look = refl
takes_same known [] (e ∷ staged) look = absurd look
takes_same known (l ∷ listed) [] look = absurd look
takes_same known (Puts pointers ∷ listed) (entry.Puts events ∷ staged) look = takes_same known listed staged look.1
takes_same known (Puts pointers ∷ listed) (entry.Takes numbers ∷ staged) look = absurd look.0
takes_same known (Takes numbers ∷ listed) (entry.Puts events ∷ staged) look = absurd look.0
takes_same known (Takes numbers ∷ listed) (entry.Takes taken ∷ staged) look =
    ap (λ (l : List ℕ). l ++ takes_in listed) look.0 ∙ ap (λ (l : List ℕ). taken ++ l) (takes_same known listed staged look.1)

puts-append : (known : Known) (a b : List Pointer) (es fs : List Content) → LookPuts known a es → LookPuts known b fs → LookPuts known (a ++ b) (es ++ fs)
puts-append known [] b [] fs look more = more
puts-append known [] b (e ∷ es) fs look more = absurd look
puts-append known (p ∷ a) b [] fs look more = absurd look
puts-append known (p ∷ a) b (e ∷ es) fs look more = (look.0, puts-append known a b es fs look.1 more)

pointers_look : (known : Known) (listed : List Listed) (staged : List Entry) → LookStaged known listed staged → LookPuts known (pointers_in listed) (put_events staged)
pointers_look known [] [] look = tt
pointers_look known [] (e ∷ staged) look = absurd look
pointers_look known (l ∷ listed) [] look = absurd look
pointers_look known (Puts pointers ∷ listed) (entry.Puts events ∷ staged) look = puts-append known pointers (pointers_in listed) events (put_events staged) look.0 (pointers_look known listed staged look.1)
pointers_look known (Puts pointers ∷ listed) (entry.Takes numbers ∷ staged) look = absurd look.0
pointers_look known (Takes numbers ∷ listed) (entry.Puts events ∷ staged) look = absurd look.0
pointers_look known (Takes numbers ∷ listed) (entry.Takes taken ∷ staged) look = pointers_look known listed staged look.1

-- as many pointers are staged as puts are counted
pub pointers_length : (listed : List Listed) → length (pointers_in listed) ≡ puts_in listed
pointers_length [] = refl
pointers_length (l ∷ listed) = omega (arith, pointers_length listed, length-append (puts_of l) (pointers_in listed))

frame_same : (known : Known) (listed : List Listed) (staged : List Entry) (frame : ℕ) → LookStaged known listed staged → frame + one_if_staged listed ≡ cond (is_none_staged staged) frame (frame + 1)
frame_same known [] [] frame look = omega arith
frame_same known [] (e ∷ staged) frame look = absurd look
frame_same known (l ∷ listed) [] frame look = absurd look
frame_same known (l ∷ listed) (e ∷ staged) frame look = refl

-- events that leave

left_lasting : (known : Known) (held : List ℕ) (n : ℕ) (live : List Left) (items : List (ℕ × Content)) → LookLeft known held live items → LookLeft known held (lasting n live) (without (n ∷ []) items)
left_lasting known held n [] [] look = tt
left_lasting known held n [] (x ∷ items) look = absurd look
left_lasting known held n (l ∷ live) [] look = absurd look
left_lasting known held n (l ∷ live) (x ∷ items) look = from (eqb_tells l.number n) (eqb_tells n x.0) (left_lasting known held n live items look.1)
  where
    from : ((l.number == n) ≡ true) × (l.number ≡ n) ⊎ ((l.number == n) ≡ false) × (l.number ≢ n) → ((n == x.0) ≡ true) × (n ≡ x.0) ⊎ ((n == x.0) ≡ false) × (n ≢ x.0)
        → LookLeft known held (lasting n live) (without (n ∷ []) items)
        → LookLeft known held (cond (l.number == n) (lasting n live) (l ∷ lasting n live)) (cond ((n == x.0) || false) (without (n ∷ []) items) (x ∷ without (n ∷ []) items))
    from (inl here) (inl same) rest = rw (here.0, same.0) rest
    from (inl here) (inr other) rest = absurd (other.1 (sym here.1 ∙ look.0.0))
    from (inr another) (inl same) rest = absurd (another.1 (look.0.0 ∙ sym same.1))
    from (inr another) (inr other) rest = rw (another.0, other.0) (look.0, rest)

-- without the events that leave, what is left looks like the items without theirs
pub left_lacking : (known : Known) (held numbers : List ℕ) (live : List Left) (items : List (ℕ × Content)) → LookLeft known held live items → LookLeft known held (lacking numbers live) (without numbers items)
left_lacking known held [] live items look = subst (λ (l : List (ℕ × Content)). LookLeft known held live l) (sym (without_none items)) look
left_lacking known held (n ∷ numbers) live items look =
    subst (λ (l : List (ℕ × Content)). LookLeft known held (lacking numbers (lasting n live)) l) (sym (without-both (n ∷ []) numbers items))
    (left_lacking known held numbers (lasting n live) (without (n ∷ []) items) (left_lasting known held n live items look))

-- of the events that stay the same ones are held
left_other : (known : Known) (xs ys numbers : List ℕ) (live : List Left) (items : List (ℕ × Content)) → ((m : ℕ) → is_among numbers m ≡ false → is_among ys m ≡ is_among xs m) → LookLeft known xs live (without numbers items) → LookLeft known ys live (without numbers items)
left_other known xs ys numbers live [] same look = by_live live look
  where
    by_live : (live : List Left) → LookLeft known xs live [] → LookLeft known ys live []
    by_live [] look = tt
    by_live (l ∷ live) look = absurd look
left_other known xs ys numbers live (x ∷ items) same look = by_test (is_among numbers x.0) refl (λ rest. left_other known xs ys numbers rest items same) live look
  where
    by_test : (t : Bool) → is_among numbers x.0 ≡ t → ((rest : List Left) → LookLeft known xs rest (without numbers items) → LookLeft known ys rest (without numbers items)) → (live : List Left) → LookLeft known xs live (cond t (without numbers items) (x ∷ without numbers items)) → LookLeft known ys live (cond t (without numbers items) (x ∷ without numbers items))
    by_test true is more live look = more live look
    by_test false is more [] look = absurd look
    by_test false is more (l ∷ live) look = ((look.0.0, look.0.1 ∙ sym (same x.0 is), look.0.2), more live look.1)

-- numbers that are each of an event that is left, and none twice, are apart
pub all_apart : (known : Known) (held : List ℕ) (live : List Left) (items : List (ℕ × Content)) (numbers : List ℕ) → LookLeft known held live items → ((m : ℕ) → times m numbers ≤ number_of m items) → ((m : ℕ) → times m numbers ≤ 1) → AreApart live numbers
all_apart known held live items [] look within once = tt
all_apart known held live items (n ∷ numbers) look within once = (
  left_live known held live items n look (omega (arith, within n, same_number n n refl)),
  all_apart known held (lasting n live) (without (n ∷ []) items) numbers (left_lasting known held n live items look) (λ m. stays m (eqb_tells n m)) (λ m. omega (arith, once m)),
)
  where
    stays : (m : ℕ) → ((n == m) ≡ true) × (n ≡ m) ⊎ ((n == m) ≡ false) × (n ≢ m) → times m numbers ≤ number_of m (without (n ∷ []) items)
    stays m (inl same) = omega (arith, once m, same_number n m same.1)
    stays m (inr other) =
        let kept : number_of m (without (n ∷ []) items) ≡ number_of m items = number_of-without m (n ∷ []) items ∙ ap (λ (t : Bool). cond (t || false) 0 (number_of m items)) other.0 in
        omega (arith, within m, other_number n m other.1, kept)

-- taking events out makes the list no longer
pub lacking_length : (numbers : List ℕ) (live : List Left) → length (lacking numbers live) ≤ length live
lacking_length [] live = omega arith
lacking_length (n ∷ numbers) live = omega (arith, lacking_length numbers (lasting n live), lasting_length n live)
  where
    lasting_length : (n : ℕ) (live : List Left) → length (lasting n live) ≤ length live
    lasting_length n [] = omega arith
    lasting_length n (l ∷ live) = by_test (l.number == n) (lasting_length n live)
      where
        by_test : (t : Bool) → length (lasting n live) ≤ length live → length (cond t (lasting n live) (l ∷ lasting n live)) ≤ length (l ∷ live)
        by_test true more = omega (arith, more)
        by_test false more = omega (arith, more)

-- events that come

left_placed : (known : Known) (held : List ℕ) (first : ℕ) (pointers : List Pointer) (events : List Content) → ((m : ℕ) → first ≤ m → is_among held m ≡ false) → LookPuts known pointers events → LookLeft known held (placed first pointers) (numbered first events)
left_placed known held first [] [] none look = tt
left_placed known held first [] (e ∷ events) none look = absurd look
left_placed known held first (p ∷ pointers) [] none look = absurd look
left_placed known held first (p ∷ pointers) (e ∷ events) none look =
    ((refl, sym (none first (omega arith)), look.0), left_placed known held (first + 1) pointers events (λ m more. none m (omega (arith, more))) look.1)

left-append : (known : Known) (held : List ℕ) (a b : List Left) (xs ys : List (ℕ × Content)) → LookLeft known held a xs → LookLeft known held b ys → LookLeft known held (a ++ b) (xs ++ ys)
left-append known held [] b [] ys look more = more
left-append known held [] b (x ∷ xs) ys look more = absurd look
left-append known held (l ∷ a) b [] ys look more = absurd look
left-append known held (l ∷ a) b (x ∷ xs) ys look more = (look.0, left-append known held a b xs ys look.1 more)

-- the staged takes are of events that are left, none twice
pub staged_apart : (settled known : Known) (p : Places) (s : State) → Looks settled known p s → AreApart p.live (takes_in p.staged)
staged_apart settled known p s looks =
    subst (λ (ns : List ℕ). AreApart p.live ns) (sym (takes_same known p.staged s.staged looks.staged))
    (all_apart settled (held_in s) p.live s.items (taken_numbers s.staged) looks.left (λ m. omega (arith, within m, split m)) (λ m. omega (arith, within m, split m, number_once m 0 s.items s.first rising)))
  where
    rising : Rising 0 s.items s.first
    rising = rising_base (base_of s) looks.sound.base

    within : (m : ℕ) → times m (held_in s) ≤ number_of m s.items
    within m = distinct_times (held_in s) 0 s.items s.first rising looks.sound.held m

    split : (m : ℕ) → times m (held_in s) ≡ times m (taken_numbers (entries s.opened)) + times m (taken_numbers s.staged)
    split m = times-append m (taken_numbers (entries s.opened)) (taken_numbers s.staged)

-- what the places are once what is staged counts
abbrev pub settled_places : Places → Places
settled_places p = record {
  live = lacking (takes_in p.staged) p.live ++ placed p.numbers.first (pointers_in p.staged);
  opened = p.opened;
  staged = [];
  open_puts = p.open_puts;
  numbers = record p.numbers { first = p.numbers.first + length (pointers_in p.staged); frame = p.numbers.frame + one_if_staged p.staged };
}

-- once what is staged counts, the places look like the settled state
pub settle_looks : (known : Known) (p : Places) (s : State) → Looks known known p s → Looks known known (settled_places p) (settle s)
settle_looks known p s looks = record {
  sound = record {
    base = base_rising (record { items = items; first = s.first + length puts }) (rising-left (base_of s) s.staged rising);
    held = distinct held 0 items (s.first + length puts) (rising-left (base_of s) s.staged rising) once;
    opened = looks.sound.opened;
    staged = tt;
  };
  left = subst (λ (l : List (ℕ × Content)). LookLeft known held (settled_places p).live l) (sym items_are) (left-append known held (lacking (takes_in p.staged) p.live) (placed p.numbers.first (pointers_in p.staged)) (without taken s.items) (numbered s.first puts) stay come);
  opened = looks.opened;
  as_many = looks.as_many;
  open_puts = looks.open_puts;
  staged = tt;
  numbers = numbers;
}
  where
    taken : List ℕ
    taken = taken_numbers s.staged

    puts : List Content
    puts = put_events s.staged

    items : List (ℕ × Content)
    items = left (base_of s) s.staged

    held : List ℕ
    held = taken_numbers (entries s.opened) ++ []

    rising : Rising 0 s.items s.first
    rising = rising_base (base_of s) looks.sound.base

    within : (m : ℕ) → times m (held_in s) ≤ number_of m s.items
    within m = distinct_times (held_in s) 0 s.items s.first rising looks.sound.held m

    split : (m : ℕ) → times m (held_in s) ≡ times m held + times m taken
    split m = omega (arith, times-append m (taken_numbers (entries s.opened)) taken, times-append m (taken_numbers (entries s.opened)) [])

    above : (m : ℕ) → s.first ≤ m → times m held + times m taken ≡ 0
    above m more = omega (arith, split m, within m, number_high m 0 s.items s.first rising more)

    items_are : items ≡ without taken s.items ++ numbered s.first puts
    items_are = without-append taken s.items (numbered s.first puts) ∙ ap (λ (l : List (ℕ × Content)). without taken s.items ++ l) (without_above taken s.first puts (λ m more. omega (arith, above m more)))

    once : (m : ℕ) → times m held ≤ number_of m items
    once m = by_test (among_times m taken) (number_of-without m taken (s.items ++ numbered s.first puts))
      where
        by_test : ((is_among taken m ≡ true) × (1 ≤ times m taken)) ⊎ ((is_among taken m ≡ false) × (times m taken ≡ 0)) → number_of m items ≡ cond (is_among taken m) 0 (number_of m (s.items ++ numbered s.first puts)) → times m held ≤ number_of m items
        by_test (inl there) is = omega (arith, there.1, split m, within m, number_once m 0 s.items s.first rising)
        by_test (inr isnt) is = omega (arith, is ∙ ap (λ (t : Bool). cond t 0 (number_of m (s.items ++ numbered s.first puts))) isnt.0, split m, within m, number_of-append m s.items (numbered s.first puts))

    same_held : (m : ℕ) → is_among taken m ≡ false → is_among held m ≡ is_among (held_in s) m
    same_held m isnt = among_same (held_in s) held m (from (among_times m taken))
      where
        differ : true ≡ false → ⊥
        differ same = cc

        from : ((is_among taken m ≡ true) × (1 ≤ times m taken)) ⊎ ((is_among taken m ≡ false) × (times m taken ≡ 0)) → times m held ≡ times m (held_in s)
        from (inl there) = absurd (differ (sym there.0 ∙ isnt))
        from (inr never) = omega (arith, split m, never.1)

    stay : LookLeft known held (lacking (takes_in p.staged) p.live) (without taken s.items)
    stay =
        left_other known (held_in s) held taken (lacking (takes_in p.staged) p.live) s.items same_held
        (subst (λ (ns : List ℕ). LookLeft known (held_in s) (lacking ns p.live) (without taken s.items)) (sym (takes_same known p.staged s.staged looks.staged)) (left_lacking known (held_in s) taken p.live s.items looks.left))

    first_same : p.numbers.first ≡ s.first
    first_same = ap (λ (n : Numbers). n.first) looks.numbers

    none_held : (m : ℕ) → s.first ≤ m → is_among held m ≡ false
    none_held m more = from (among_times m held)
      where
        from : ((is_among held m ≡ true) × (1 ≤ times m held)) ⊎ ((is_among held m ≡ false) × (times m held ≡ 0)) → is_among held m ≡ false
        from (inl there) = absurd (omega (arith, there.1, above m more))
        from (inr never) = never.0

    come : LookLeft known held (placed p.numbers.first (pointers_in p.staged)) (numbered s.first puts)
    come =
        subst (λ (n : ℕ). LookLeft known held (placed n (pointers_in p.staged)) (numbered s.first puts)) (sym first_same)
        (left_placed known held s.first (pointers_in p.staged) puts none_held (pointers_look known p.staged s.staged looks.staged))

    many : length (pointers_in p.staged) ≡ length puts
    many = Rattle.channel_places.proofs.Looking.puts_length known (pointers_in p.staged) puts (pointers_look known p.staged s.staged looks.staged)

    numbers : (settled_places p).numbers ≡ numbers_of (settle s)
    numbers =
        ap (λ (n : Numbers). record n { first = n.first + length (pointers_in p.staged); frame = n.frame + one_if_staged p.staged }) looks.numbers
        ∙ (ap (λ (k : ℕ). record (numbers_of s) { first = s.first + k; frame = s.frame + one_if_staged p.staged }) many
        ∙ ap (λ (k : ℕ). record (numbers_of s) { first = s.first + length puts; frame = k }) (frame_same known p.staged s.staged s.frame looks.staged))

-- places equal to those that look like a state look like it too
pub replaced : (settled known : Known) (p q : Places) (s : State) → q ≡ p → Looks settled known p s → Looks settled known q s
replaced settled known p q s same looks = subst (λ (r : Places). Looks settled known r s) (sym same) looks

-- the places that the parts of them are
pub settled_same : (p : Places) (counted removed added cleared : List Listed) (stay all : List Left) (first one : ℕ) → counted ≡ p.staged → removed ≡ p.staged → added ≡ p.staged → cleared ≡ [] → stay ≡ lacking (takes_in removed) p.live
    → all ≡ stay ++ placed p.numbers.first (pointers_in added) → first ≡ p.numbers.first + length (pointers_in added) → one ≡ one_if_staged counted
    → record p { live = all; staged = cleared; numbers = record p.numbers { first = first; frame = p.numbers.frame + one } } ≡ settled_places p
settled_same p counted removed added cleared stay all first one counted_is removed_is added_is cleared_is stay_is all_is first_is one_is =
    rw (all_is, stay_is, first_is, one_is, cleared_is, counted_is, removed_is, added_is) refl
