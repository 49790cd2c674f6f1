-- A take more.
use Rattle.std.specs.Prelude.{◌||◌}
use Rattle.std.proofs.Common.{◌⊎◌, inl, inr, ◌≡◌, ◌≢◌, ◌<◌, ◌≤◌, ◌+◌, ◌++◌, ◌∷◌, [], ℕ, List, length, Option, Some, None, Bool, true, false, ◌==◌, cond, refl, sym, ◌∙◌, ap, subst, arith, length-append}
use Rattle.std.proofs.lemmas.Bool.Decides.{eqb_tells}
use Rattle.event_core.specs.Content.{Content}
use Rattle.event_core.specs.Journal.{is_among, taken_numbers, without}
use Rattle.event_core.specs.declared.journal.Entry.{Entry}
use Rattle.event_core.specs.declared.journal.Entry.TheVariants as entry
use Rattle.record_form.specs.declared.record.Pointer.{Pointer}
use Rattle.open_table.specs.declared.table.Item.TheVariants.{Take}
use Rattle.open_table.specs.Tables.{HasAt, IsOf, Listed, MayAdd, Open, Puts, Table, Takes, added, open_at, size as listed_size, with_item}
use Rattle.event_ring.specs.Slots.{IsLive, Left, first_free as first_number, marked, pointer_at}
use Rattle.channel_face.specs.Token.{Token}
use Rattle.channel_face.specs.Machine.{State, add_take, base_of, entries, entry_of, free, takes_of, with_entry}
use Rattle.channel_face.specs.Sound.{Rising, number_of, one_if, times}
use Rattle.channel_face.proofs.Numbers.{among_times, distinct, distinct_times, other_number, rising_base, same_number, times-append}
use Rattle.channel_face.proofs.Opened.{opened-with, times-take}
use Rattle.channel_face.proofs.Sound.{first_free}
use Rattle.channel_places.specs.Looks.{IsFree, IsWithinRoom, Known, LookLeft, Looks, LooksOpen, Numbers, Places, StandsIn, held_in}
use Rattle.channel_places.proofs.Opening.{length-with, opened_with, rise-with, size-with}

-- the first free event

-- What a ring's first free number is of these items.
pub record IsFirst (known : Known) (held : List ℕ) (live : List Left) (items : List (ℕ × Content)) (number : ℕ) : Type 0 where
  pub event : Content
  pub rest : List (ℕ × Content)
  pub free_is : without held items ≡ (number, event) ∷ rest
  pub live_is : IsLive live number

-- where the ring has no free number, no item is free
pub none_free : (known : Known) (held : List ℕ) (live : List Left) (items : List (ℕ × Content)) → LookLeft known held live items → first_number live ≡ None → without held items ≡ []
none_free known held [] [] look none = refl
none_free known held [] (x ∷ items) look none = absurd look
none_free known held (l ∷ live) [] look none = absurd look
none_free known held (l ∷ live) (x ∷ items) look none = by_test (is_among held x.0) (rw look.0.1 at none) (none_free known held live items look.1)
  where
    differ : Some l.number ≡ None → ⊥
    differ same = cc

    by_test : (t : Bool) → cond t (first_number live) (Some l.number) ≡ None → (first_number live ≡ None → without held items ≡ []) → cond t (without held items) (x ∷ without held items) ≡ []
    by_test true none more = more none
    by_test false none more = absurd (differ none)

-- the ring's first free number is that of the first free item
pub some_free : (known : Known) (held : List ℕ) (live : List Left) (items : List (ℕ × Content)) (number : ℕ) → LookLeft known held live items → first_number live ≡ Some number → IsFirst known held live items number
some_free known held [] items number look is = absurd (cc)
some_free known held (l ∷ live) [] number look is = absurd look
some_free known held (l ∷ live) (x ∷ items) number look is = by_test (is_among held x.0) refl (rw look.0.1 at is) (some_free known held live items number look.1)
  where
    some_same : (a b : ℕ) → Some a ≡ Some b → a ≡ b
    some_same a b same = cc

    by_test : (t : Bool) → is_among held x.0 ≡ t → cond t (first_number live) (Some l.number) ≡ Some number → (first_number live ≡ Some number → IsFirst known held live items number) → IsFirst known held (l ∷ live) (x ∷ items) number
    by_test true t_is is more =
        let f = more is in
        record { event = f.event; rest = f.rest; free_is = rw t_is f.free_is; live_is = inr f.live_is }
    by_test false t_is is more =
        let here : l.number ≡ number = some_same l.number number is in
        record {
          event = x.1;
          rest = without held items;
          free_is = rw t_is (ap (λ (n : ℕ). (n, x.1) ∷ without held items) (sym look.0.0 ∙ here));
          live_is = inl here;
        }

-- the pointer of an event stands for it
pub pointer_free : (known : Known) (held : List ℕ) (live : List Left) (items : List (ℕ × Content)) (low first number : ℕ) (pointer : Pointer) (event : Content) (rest : List (ℕ × Content)) → Rising low items first → LookLeft known held live items
    → without held items ≡ (number, event) ∷ rest → pointer_at number live ≡ Some pointer → StandsIn known pointer event
pointer_free known held [] [] low first number pointer event rest rising look is at = absurd (cc)
pointer_free known held [] (x ∷ items) low first number pointer event rest rising look is at = absurd look
pointer_free known held (l ∷ live) [] low first number pointer event rest rising look is at = absurd look
pointer_free known held (l ∷ live) (x ∷ items) low first number pointer event rest rising look is at =
    by_test (is_among held x.0) is (eqb_tells l.number number) (pointer_free known held live items (x.0 + 1) first number pointer event rest rising.1 look.1)
  where
    some_same : (a b : Pointer) → Some a ≡ Some b → a ≡ b
    some_same a b same = cc

    heads : (a b : ℕ × Content) (xs ys : List (ℕ × Content)) → a ∷ xs ≡ b ∷ ys → a ≡ b
    heads a b xs ys same = cc

    low_free : (l : ℕ) (items : List (ℕ × Content)) → Rising l items first → without held items ≡ (number, event) ∷ rest → l ≤ number
    low_free l [] rises is = absurd (cc)
    low_free l (y ∷ items) rises is = by_held (is_among held y.0) is (low_free (y.0 + 1) items rises.1)
      where
        by_held : (t : Bool) → cond t (without held items) (y ∷ without held items) ≡ (number, event) ∷ rest → (without held items ≡ (number, event) ∷ rest → y.0 + 1 ≤ number) → l ≤ number
        by_held true is more = omega (arith, more is, rises.0)
        by_held false is more = omega (arith, rises.0, ap (λ (i : ℕ × Content). i.0) (heads y (number, event) (without held items) rest is))

    by_test : (t : Bool) → cond t (without held items) (x ∷ without held items) ≡ (number, event) ∷ rest → ((l.number == number) ≡ true) × (l.number ≡ number) ⊎ ((l.number == number) ≡ false) × (l.number ≢ number)
        → (without held items ≡ (number, event) ∷ rest → pointer_at number live ≡ Some pointer → StandsIn known pointer event) → StandsIn known pointer event
    by_test true is (inl here) more = absurd (omega (arith, here.1, look.0.0, low_free (x.0 + 1) items rising.1 is))
    by_test true is (inr other) more = more is (rw other.0 at at)
    by_test false is (inl here) more =
        let p : l.pointer ≡ pointer = some_same l.pointer pointer (rw here.0 at at) in
        let e : x.1 ≡ event = ap (λ (i : ℕ × Content). i.1) (heads x (number, event) (without held items) rest is) in
        subst (λ (q : Pointer). StandsIn known q event) p (subst (λ (v : Content). StandsIn known l.pointer v) e look.0.2)
    by_test false is (inr other) more = absurd (other.1 (look.0.0 ∙ ap (λ (i : ℕ × Content). i.0) (heads x (number, event) (without held items) rest is)))

-- a number that is live has a pointer
pub live_pointer : (live : List Left) (number : ℕ) → IsLive live number → pointer_at number live ≡ None → ⊥
live_pointer [] number is none = is
live_pointer (l ∷ live) number is none = from (eqb_tells l.number number) is (live_pointer live number)
  where
    differ : Some l.pointer ≡ None → ⊥
    differ same = cc

    from : ((l.number == number) ≡ true) × (l.number ≡ number) ⊎ ((l.number == number) ≡ false) × (l.number ≢ number) → (l.number ≡ number) ⊎ IsLive live number → (IsLive live number → pointer_at number live ≡ None → ⊥) → ⊥
    from (inl here) is more = differ (rw here.0 at none)
    from (inr other) (inl here) more = absurd (other.1 here)
    from (inr other) (inr there) more = more there (rw other.0 at none)

-- one number more is held

-- a number is among one more where it is that one or was there before
pub among_more : (xs ys : List ℕ) (n m : ℕ) → times m ys ≡ times m xs + one_if (n == m) → is_among ys m ≡ ((n == m) || is_among xs m)
among_more xs ys n m is = from (among_times m xs) (among_times m ys) (eqb_tells n m)
  where
    from : ((is_among xs m ≡ true) × (1 ≤ times m xs)) ⊎ ((is_among xs m ≡ false) × (times m xs ≡ 0)) → ((is_among ys m ≡ true) × (1 ≤ times m ys)) ⊎ ((is_among ys m ≡ false) × (times m ys ≡ 0))
        → ((n == m) ≡ true) × (n ≡ m) ⊎ ((n == m) ≡ false) × (n ≢ m) → is_among ys m ≡ ((n == m) || is_among xs m)
    from a (inl in_ys) (inl same) = rw (in_ys.0, same.0) refl
    from (inl in_xs) (inl in_ys) (inr other) = rw (in_ys.0, other.0, in_xs.0) refl
    from (inr not_xs) (inl in_ys) (inr other) = absurd (omega (arith, is, in_ys.1, not_xs.1, other_number n m other.1))
    from a (inr not_ys) (inl same) = absurd (omega (arith, is, not_ys.1, same_number n m same.1))
    from (inl in_xs) (inr not_ys) (inr other) = absurd (omega (arith, is, not_ys.1, in_xs.1))
    from (inr not_xs) (inr not_ys) (inr other) = rw (not_ys.0, other.0, not_xs.0) refl

-- what is left still looks the same where one number more is held and marked so
pub left_marked : (known : Known) (xs ys : List ℕ) (n : ℕ) (live : List Left) (items : List (ℕ × Content)) → ((m : ℕ) → is_among ys m ≡ ((n == m) || is_among xs m)) → LookLeft known xs live items → LookLeft known ys (marked n true live) items
left_marked known xs ys n [] [] more look = tt
left_marked known xs ys n [] (x ∷ items) more look = absurd look
left_marked known xs ys n (l ∷ live) [] more look = absurd look
left_marked known xs ys n (l ∷ live) (x ∷ items) more look = (from (eqb_tells l.number n) (eqb_tells n x.0), left_marked known xs ys n live items more look.1)
  where
    new : Left
    new = cond (l.number == n) (record l { held = true }) l

    from : ((l.number == n) ≡ true) × (l.number ≡ n) ⊎ ((l.number == n) ≡ false) × (l.number ≢ n) → ((n == x.0) ≡ true) × (n ≡ x.0) ⊎ ((n == x.0) ≡ false) × (n ≢ x.0)
        → (new.number ≡ x.0) × (new.held ≡ is_among ys x.0) × StandsIn known new.pointer x.1
    from (inl here) (inl same) = rw here.0 (look.0.0, sym (more x.0 ∙ ap (λ (t : Bool). t || is_among xs x.0) same.0), look.0.2)
    from (inl here) (inr other) = absurd (other.1 (sym here.1 ∙ look.0.0))
    from (inr another) (inl same) = absurd (another.1 (look.0.0 ∙ sym same.1))
    from (inr another) (inr other) = rw another.0 (look.0.0, look.0.1 ∙ sym (more x.0 ∙ ap (λ (t : Bool). t || is_among xs x.0) other.0), look.0.2)

-- the takes of an open transaction

pub record HasTakes (room : ℕ) (o : Option Open) (e : Option Entry) : Type 0 where
  pub numbers : List ℕ
  pub o_is : o ≡ Some (record { listed = Takes numbers; room = room })
  pub e_is : e ≡ Some (entry.Takes numbers)

takes_at : (known : Known) (room : ℕ) (o : Option Open) (e : Option Entry) → LooksOpen known room o e → MayAdd (Take 0) o → HasTakes room o e
takes_at known room None e look may = absurd may
takes_at known room (Some o) None look may = absurd look
takes_at known room (Some o) (Some e) look may = by_listed o.listed e refl refl look may.0
  where
    by_listed : (l : Listed) (d : Entry) → o.listed ≡ l → e ≡ d → LooksOpen known room (Some (record { listed = l; room = o.room })) (Some d) → IsOf (Take 0) l → HasTakes room (Some o) (Some e)
    by_listed (Puts pointers) d listed is has of = absurd of
    by_listed (Takes numbers) (entry.Puts events) listed is has of = absurd has.0
    by_listed (Takes numbers) (entry.Takes taken) listed is has of = record {
      numbers = taken;
      o_is = ap (λ (k : Listed). Some (record { listed = k; room = o.room })) (listed ∙ ap (λ (ns : List ℕ). Takes ns) has.0) ∙ ap (λ (n : ℕ). Some (record { listed = Takes taken; room = n })) has.1;
      e_is = ap (λ (k : Entry). Some k) is;
    }

-- a transaction with room for a take is within its room after it
pub take_within : (number : ℕ) (o : Option Open) → MayAdd (Take 0) o → IsWithinRoom (added (Take number) o)
take_within number None may = absurd may
take_within number (Some o) may = by_listed o.listed may.0 may.1
  where
    by_listed : (l : Listed) → IsOf (Take 0) l → listed_size l < o.room → listed_size (with_item (Take number) l) ≤ o.room
    by_listed (Puts pointers) is few = absurd is
    by_listed (Takes numbers) is few = omega (arith, few, length-append numbers (number ∷ []))

-- where one take may be added, a take of any number may
pub may_take : (number : ℕ) (o : Option Open) → MayAdd (Take 0) o → MayAdd (Take number) o
may_take number None may = absurd may
may_take number (Some o) may = (by_listed o.listed may.0, may.1)
  where
    by_listed : (l : Listed) → IsOf (Take 0) l → IsOf (Take number) l
    by_listed (Puts pointers) is = absurd is
    by_listed (Takes numbers) is = tt

takes_from : (s : State) (token : Token) (numbers : List ℕ) → token.life ≡ s.life → entry_of token.number s.opened ≡ Some (entry.Takes numbers) → takes_of s token ≡ Some numbers
takes_from s token numbers life is = from (eqb_tells token.life s.life)
  where
    from : ((token.life == s.life) ≡ true) × (token.life ≡ s.life) ⊎ ((token.life == s.life) ≡ false) × (token.life ≢ s.life) → takes_of s token ≡ Some numbers
    from (inl alive) = rw (alive.0, is) refl
    from (inr stale) = absurd (stale.1 life)

-- a take more of an open transaction
pub take_looks : (settled known : Known) (p : Places) (s : State) (t : Table) (token : Token) (number : ℕ) → Looks settled known p s → token.life ≡ p.numbers.life → MayAdd (Take 0) (open_at p.opened token.number) → first_number p.live ≡ Some number
    → HasAt token.number (added (Take number) (open_at p.opened token.number)) p.opened t → length t ≡ length p.opened
    → Looks settled known (record p { live = marked number true p.live; opened = t }) (add_take s token.number (takes_of s token) (free s))
take_looks settled known p s t token number looks life may is_first has many =
    subst (λ (o : Option (List ℕ)). Looks settled known (record p { live = marked number true p.live; opened = t }) (add_take s n o (free s))) (sym its)
    (subst (λ (f : List (ℕ × Content)). Looks settled known (record p { live = marked number true p.live; opened = t }) (add_take s n (Some h.numbers) f)) (sym f.free_is) looks_so)
  where
    n : ℕ
    n = token.number

    h : HasTakes s.rules.limits.txn_capacity (open_at p.opened n) (entry_of n s.opened)
    h = takes_at known s.rules.limits.txn_capacity (open_at p.opened n) (entry_of n s.opened) (looks.opened n) may

    its : takes_of s token ≡ Some h.numbers
    its = takes_from s token h.numbers (life ∙ ap (λ (m : Numbers). m.life) looks.numbers) h.e_is

    f : IsFirst settled (held_in s) p.live s.items number
    f = some_free settled (held_in s) p.live s.items number looks.left is_first

    old : Entry
    old = entry.Takes h.numbers

    new : Entry
    new = entry.Takes (h.numbers ++ number ∷ [])

    now : Open
    now = record { listed = Takes (h.numbers ++ number ∷ []); room = s.rules.limits.txn_capacity }

    at : HasAt n (Some now) p.opened t
    at = subst (λ (o : Option Open). HasAt n (added (Take number) o) p.opened t) h.o_is has

    held : List ℕ
    held = taken_numbers (entries (with_entry n new s.opened)) ++ taken_numbers s.staged

    more : (m : ℕ) → times m held ≡ times m (held_in s) + one_if (number == m)
    more m = omega (
      arith,
      times-append m (taken_numbers (entries (with_entry n new s.opened))) (taken_numbers s.staged),
      times-append m (taken_numbers (entries s.opened)) (taken_numbers s.staged),
      opened-with m n s.opened old new h.e_is,
      times-take m h.numbers,
      times-take m (h.numbers ++ number ∷ []),
      times-append m h.numbers (number ∷ []),
    )

    rising : Rising 0 s.items s.first
    rising = rising_base (base_of s) looks.sound.base

    once : (m : ℕ) → times m held ≤ number_of m s.items
    once m = from (eqb_tells number m)
      where
        free_so : (times number (held_in s) ≡ 0) × (1 ≤ number_of number s.items)
        free_so = first_free (held_in s) s.items (number, f.event) f.rest f.free_is

        from : ((number == m) ≡ true) × (number ≡ m) ⊎ ((number == m) ≡ false) × (number ≢ m) → times m held ≤ number_of m s.items
        from (inl same) = subst (λ (k : ℕ). times k held ≤ number_of k s.items) same.1 (omega (arith, more number, free_so.0, free_so.1, same_number number number refl))
        from (inr other) = omega (arith, more m, other_number number m other.1, distinct_times (held_in s) 0 s.items s.first rising looks.sound.held m)

    looks_so : Looks settled known (record p { live = marked number true p.live; opened = t }) (record s { opened = with_entry n new s.opened })
    looks_so = record {
      sound = record {
        base = looks.sound.base;
        held = distinct held 0 s.items s.first rising once;
        opened = rise-with 0 s.txn n new s.opened looks.sound.opened;
        staged = looks.sound.staged;
      };
      left = left_marked settled (held_in s) held number p.live s.items (λ m. among_more (held_in s) held number m (more m)) looks.left;
      opened = opened_with settled known known p s t n now old new looks (λ q event stands. stands) h.e_is at refl refl;
      as_many = many ∙ (looks.as_many ∙ sym (length-with n new s.opened));
      open_puts = omega (arith, looks.open_puts, size-with n s.opened old new h.e_is);
      staged = looks.staged;
      numbers = looks.numbers;
    }

-- nothing is free
pub take_none : (settled known : Known) (p : Places) (s : State) (token : Token) → Looks settled known p s → token.life ≡ p.numbers.life → MayAdd (Take 0) (open_at p.opened token.number) → first_number p.live ≡ None → add_take s token.number (takes_of s token) (free s) ≡ s
take_none settled known p s token looks life may none =
    let h = takes_at known s.rules.limits.txn_capacity (open_at p.opened token.number) (entry_of token.number s.opened) (looks.opened token.number) may in
    let its = takes_from s token h.numbers (life ∙ ap (λ (m : Numbers). m.life) looks.numbers) h.e_is in
    ap (λ (o : Option (List ℕ)). add_take s token.number o (free s)) its ∙ ap (λ (f : List (ℕ × Content)). add_take s token.number (Some h.numbers) f) (none_free settled (held_in s) p.live s.items looks.left none)

-- the first free event, with its pointer, or none
pub first_of : (settled known : Known) (p : Places) (s : State) (number : ℕ) (pointer : Pointer) → Looks settled known p s → first_number p.live ≡ Some number → pointer_at number p.live ≡ Some pointer → IsFree settled (Some (number, pointer)) (free s)
first_of settled known p s number pointer looks is at =
    let f = some_free settled (held_in s) p.live s.items number looks.left is in
    subst (λ (l : List (ℕ × Content)). IsFree settled (Some (number, pointer)) l) (sym f.free_is)
    (refl, pointer_free settled (held_in s) p.live s.items 0 s.first number pointer f.event f.rest (rising_base (base_of s) looks.sound.base) looks.left f.free_is at)

-- where the ring has no free number, the state has no free event
pub none_of : (settled known : Known) (p : Places) (s : State) → Looks settled known p s → first_number p.live ≡ None → IsFree settled None (free s)
none_of settled known p s looks none = subst (λ (l : List (ℕ × Content)). IsFree settled None l) (sym (none_free settled (held_in s) p.live s.items looks.left none)) tt

-- marking an event as held or not keeps their number
pub length-marked : (number : ℕ) (held : Bool) (live : List Left) → length (marked number held live) ≡ length live
length-marked number held [] = refl
length-marked number held (l ∷ live) = omega (arith, length-marked number held live)

-- another list equal to the events that are left looks the same
pub relive : (settled known : Known) (p : Places) (s : State) (live : List Left) (t : Table) (now : List Left) → now ≡ live → Looks settled known (record p { live = live; opened = t }) s → Looks settled known (record p { live = now; opened = t }) s
relive settled known p s live t now same looks = subst (λ (l : List Left). Looks settled known (record p { live = l; opened = t }) s) (sym same) looks

-- what is no number at all is none
pub none_number : (live : Option ℕ) → ((n : ℕ) → live ≡ Some n → ⊥) → live ≡ None
none_number None isnt = refl
none_number (Some n) isnt = absurd (isnt n refl)
