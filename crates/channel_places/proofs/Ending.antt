-- A transaction that is open no more.
use Rattle.std.proofs.Common.{◌⊎◌, inl, inr, ◌≡◌, ◌≢◌, ◌≤◌, ◌+◌, ◌++◌, ◌∷◌, [], ℕ, List, length, Option, Some, None, true, false, ◌==◌, refl, sym, ◌∙◌, ap, subst, arith, length-append}
use Rattle.std.specs.Prelude.{option_map}
use Rattle.std.proofs.lemmas.Bool.Decides.{eqb_tells}
use Rattle.std.proofs.lemmas.List.{append-nil}
use Rattle.event_core.specs.Content.{Content}
use Rattle.event_core.specs.Journal.{IsJournal, IsNotEmpty, is_among, taken_numbers}
use Rattle.event_core.specs.declared.journal.Entry.{Entry}
use Rattle.event_core.specs.declared.journal.Entry.TheVariants as entry
use Rattle.open_table.specs.Tables.{HasAt, Listed, Open, Puts, Table, Takes, is_open, is_puts, open_at, puts_of}
use Rattle.event_ring.specs.Slots.{Left}
use Rattle.channel_face.specs.Machine.{State, base_of, close, entries, entry_of, stage, without_entry}
use Rattle.channel_face.specs.Sound.{Rising, times, entry_times, opened_times}
use Rattle.channel_face.proofs.Numbers.{among_times, distinct, distinct_times, rising_base, times-append}
use Rattle.channel_face.proofs.Opened.{opened-without, times-push}
use Rattle.channel_places.specs.Looks.{Known, LookLeft, LookStaged, Looks, LooksListed, LooksOpen, Places, held_in, puts_in, puts_of_open, staged_of}
use Rattle.channel_places.specs.Ends.{one_if_staged}
use Rattle.channel_places.proofs.Looking.{puts_length}
use Rattle.channel_places.proofs.Opening.{entry_of_without, entry_of_without-other, length-without, rise-without, size-without, size_put}

-- a number that is there as often is among both lists or neither
pub among_same : (xs ys : List ℕ) (m : ℕ) → times m ys ≡ times m xs → is_among ys m ≡ is_among xs m
among_same xs ys m is = from (among_times m xs) (among_times m ys)
  where
    from : ((is_among xs m ≡ true) × (1 ≤ times m xs)) ⊎ ((is_among xs m ≡ false) × (times m xs ≡ 0)) → ((is_among ys m ≡ true) × (1 ≤ times m ys)) ⊎ ((is_among ys m ≡ false) × (times m ys ≡ 0)) → is_among ys m ≡ is_among xs m
    from (inl a) (inl b) = b.0 ∙ sym a.0
    from (inl a) (inr b) = absurd (omega (arith, a.1, b.1, is))
    from (inr a) (inl b) = absurd (omega (arith, a.1, b.1, is))
    from (inr a) (inr b) = b.0 ∙ sym a.0

-- what is left looks the same where the same numbers are held
pub left_same : (known : Known) (xs ys : List ℕ) (live : List Left) (items : List (ℕ × Content)) → ((m : ℕ) → is_among ys m ≡ is_among xs m) → LookLeft known xs live items → LookLeft known ys live items
left_same known xs ys [] [] same look = tt
left_same known xs ys [] (x ∷ items) same look = absurd look
left_same known xs ys (l ∷ live) [] same look = absurd look
left_same known xs ys (l ∷ live) (x ∷ items) same look = ((look.0.0, look.0.1 ∙ sym (same x.0), look.0.2), left_same known xs ys live items same look.1)

-- the open transactions, of which one is open no more
pub opened_gone : (settled known : Known) (p : Places) (s : State) (t : Table) (n : ℕ) → Looks settled known p s → HasAt n None p.opened t → (m : ℕ) → LooksOpen known s.rules.limits.txn_capacity (open_at t m) (entry_of m (without_entry n s.opened))
opened_gone settled known p s t n looks has m = from (eqb_tells m n)
  where
    cap : ℕ
    cap = s.rules.limits.txn_capacity

    from : ((m == n) ≡ true) × (m ≡ n) ⊎ ((m == n) ≡ false) × (m ≢ n) → LooksOpen known cap (open_at t m) (entry_of m (without_entry n s.opened))
    from (inl here) =
        subst (λ (k : ℕ). LooksOpen known cap (open_at t k) (entry_of k (without_entry n s.opened))) (sym here.1) (rw (has.here_is, entry_of_without 0 s.txn n s.opened looks.sound.opened) tt)
    from (inr other) = rw (has.others m other.1, entry_of_without-other m n s.opened other.1) (looks.opened m)

-- A transaction is open no more, and these are staged: what is held is the same.
pub gone_looks : (settled known : Known) (p : Places) (s : State) (t : Table) (n : ℕ) (e : Entry) (listed : List Listed) (staged : List Entry) (open_puts : ℕ) → Looks settled known p s → entry_of n s.opened ≡ Some e → HasAt n None p.opened t → length t + 1 ≡ length p.opened
    → LookStaged known listed staged → IsJournal staged → ((m : ℕ) → opened_times m (without_entry n s.opened) + times m (taken_numbers staged) ≡ opened_times m s.opened + times m (taken_numbers s.staged)) → open_puts + size_put e ≡ p.open_puts
    → Looks settled known (record p { opened = t; staged = listed; open_puts = open_puts }) (record s { opened = without_entry n s.opened; staged = staged })
gone_looks settled known p s t n e listed staged open_puts looks is has many look journal same puts = record {
  sound = record {
    base = looks.sound.base;
    held = distinct held 0 s.items s.first rising (λ m. omega (arith, all_same m, distinct_times (held_in s) 0 s.items s.first rising looks.sound.held m));
    opened = rise-without 0 s.txn n s.opened looks.sound.opened;
    staged = journal;
  };
  left = left_same settled (held_in s) held p.live s.items (λ m. among_same (held_in s) held m (all_same m)) looks.left;
  opened = opened_gone settled known p s t n looks has;
  as_many = omega (arith, many, looks.as_many, length-without n s.opened e is);
  open_puts = omega (arith, looks.open_puts, puts, size-without n s.opened e is);
  staged = look;
  numbers = looks.numbers;
}
  where
    held : List ℕ
    held = taken_numbers (entries (without_entry n s.opened)) ++ taken_numbers staged

    rising : Rising 0 s.items s.first
    rising = rising_base (base_of s) looks.sound.base

    all_same : (m : ℕ) → times m held ≡ times m (held_in s)
    all_same m = omega (
      arith,
      same m,
      times-append m (taken_numbers (entries (without_entry n s.opened))) (taken_numbers staged),
      times-append m (taken_numbers (entries s.opened)) (taken_numbers s.staged),
    )

-- What a transaction that is open has, by pointers and by events.
pub record HasBoth (known : Known) (listed : Listed) (e : Option Entry) : Type 0 where
  pub own : Entry
  pub e_is : e ≡ Some own
  pub look : LooksListed known listed own

-- what a table has open is what the state has open
pub both_of : (known : Known) (room : ℕ) (o : Option Open) (e : Option Entry) (listed : Listed) → LooksOpen known room o e → option_map (λ (q : Open). q.listed) o ≡ Some listed → HasBoth known listed e
both_of known room None e listed look is = absurd (cc)
both_of known room (Some o) None listed look is = absurd look
both_of known room (Some o) (Some e) listed look is = record { own = e; e_is = refl; look = subst (λ (l : Listed). LooksListed known l e) (some_same o.listed listed is) look.0 }
  where
    some_same : (a b : Listed) → Some a ≡ Some b → a ≡ b
    some_same a b same = cc

-- as many pointers as events, for what a transaction puts
pub puts_size : (known : Known) (listed : Listed) (e : Entry) → LooksListed known listed e → length (puts_of listed) ≡ size_put e
puts_size known (Puts pointers) (entry.Puts events) look = omega (arith, puts_length known pointers events look, length-append events [])
puts_size known (Puts pointers) (entry.Takes numbers) look = absurd look
puts_size known (Takes numbers) (entry.Puts events) look = absurd look
puts_size known (Takes numbers) (entry.Takes taken) look = refl

staged_push : (known : Known) (listed : List Listed) (staged : List Entry) (l : Listed) (e : Entry) → LookStaged known listed staged → LooksListed known l e → LookStaged known (listed ++ l ∷ []) (staged ++ e ∷ [])
staged_push known [] [] l e look here = (here, tt)
staged_push known [] (x ∷ staged) l e look here = absurd look
staged_push known (x ∷ listed) [] l e look here = absurd look
staged_push known (x ∷ listed) (y ∷ staged) l e look here = (look.0, staged_push known listed staged l e look.1 here)

journal_push : (a : List Entry) (e : Entry) → IsJournal a → IsNotEmpty e → IsJournal (a ++ e ∷ [])
journal_push [] e all here = (here, tt)
journal_push (x ∷ a) e all here = (all.0, journal_push a e all.1 here)

-- the puts of two lists of staged transactions add up
pub puts_in-append : (a b : List Listed) → puts_in (a ++ b) ≡ puts_in a + puts_in b
puts_in-append [] b = omega arith
puts_in-append (l ∷ a) b = omega (arith, puts_in-append a b)

-- the puts that staging a transaction adds are its own
pub puts_in-staged : (l : Listed) → puts_in (staged_of l) ≡ length (puts_of l)
puts_in-staged (Puts []) = refl
puts_in-staged (Puts (p ∷ pointers)) = omega arith
puts_in-staged (Takes []) = refl
puts_in-staged (Takes (n ∷ numbers)) = omega arith

-- a transaction is staged
pub stage_looks : (settled known : Known) (p : Places) (s : State) (t : Table) (n : ℕ) (l : Listed) (now : List Listed) (open_puts : ℕ) → Looks settled known p s → HasBoth known l (entry_of n s.opened) → HasAt n None p.opened t → length t + 1 ≡ length p.opened
    → now ≡ p.staged ++ staged_of l → open_puts + length (puts_of l) ≡ p.open_puts → Looks settled known (record p { opened = t; staged = now; open_puts = open_puts }) (stage n (entry_of n s.opened) s)
stage_looks settled known p s t n l now open_puts looks both has many staged puts =
    subst (λ (x : Option Entry). Looks settled known (record p { opened = t; staged = now; open_puts = open_puts }) (stage n x s)) (sym both.e_is)
    (by_entry l both.own both.e_is both.look staged (omega (arith, puts, puts_size known l both.own both.look)))
  where
    Goal : Entry → Type 0
    Goal e = Looks settled known (record p { opened = t; staged = now; open_puts = open_puts }) (stage n (Some e) s)

    closed : (e : Entry) → entry_of n s.opened ≡ Some e → now ≡ p.staged ++ [] → ((m : ℕ) → entry_times m e ≡ 0) → open_puts + size_put e ≡ p.open_puts → Looks settled known (record p { opened = t; staged = now; open_puts = open_puts }) (close n s)
    closed e is same none size =
        subst (λ (k : List Listed). Looks settled known (record p { opened = t; staged = k; open_puts = open_puts }) (close n s)) (sym (same ∙ append-nil p.staged))
        (gone_looks settled known p s t n e p.staged s.staged open_puts looks is has many looks.staged looks.sound.staged (λ m. omega (arith, opened-without m n s.opened e is, none m)) size)

    kept : (x : Listed) (e : Entry) → entry_of n s.opened ≡ Some e → LooksListed known x e → now ≡ p.staged ++ x ∷ [] → IsNotEmpty e → open_puts + size_put e ≡ p.open_puts
        → Looks settled known (record p { opened = t; staged = now; open_puts = open_puts }) (record s { opened = without_entry n s.opened; staged = s.staged ++ e ∷ [] })
    kept x e is look same some size =
        gone_looks settled known p s t n e now (s.staged ++ e ∷ []) open_puts looks is has many
        (subst (λ (k : List Listed). LookStaged known k (s.staged ++ e ∷ [])) (sym same) (staged_push known p.staged s.staged x e looks.staged look))
        (journal_push s.staged e looks.sound.staged some)
        (λ m. omega (arith, opened-without m n s.opened e is, times-push m s.staged (e ∷ []))) size

    by_entry : (x : Listed) (e : Entry) → entry_of n s.opened ≡ Some e → LooksListed known x e → now ≡ p.staged ++ staged_of x → open_puts + size_put e ≡ p.open_puts → Goal e
    by_entry (Puts []) (entry.Puts []) is look same size = closed (entry.Puts []) is same (λ m. refl) size
    by_entry (Puts []) (entry.Puts (e ∷ es)) is look same size = absurd look
    by_entry (Puts (q ∷ qs)) (entry.Puts []) is look same size = absurd look
    by_entry (Puts (q ∷ qs)) (entry.Puts (e ∷ es)) is look same size = kept (Puts (q ∷ qs)) (entry.Puts (e ∷ es)) is look same (omega arith) size
    by_entry (Puts pointers) (entry.Takes numbers) is look same size = absurd look
    by_entry (Takes numbers) (entry.Puts events) is look same size = absurd look
    by_entry (Takes []) (entry.Takes []) is look same size = closed (entry.Takes []) is same (λ m. refl) size
    by_entry (Takes []) (entry.Takes (k ∷ ks)) is look same size = absurd (cc)
    by_entry (Takes (k ∷ ks)) (entry.Takes []) is look same size = absurd (cc)
    by_entry (Takes (k ∷ ks)) (entry.Takes (j ∷ js)) is look same size = kept (Takes (k ∷ ks)) (entry.Takes (j ∷ js)) is look same (omega arith) size

-- a transaction's puts are no more than all open puts
pub open_fits : (settled known : Known) (p : Places) (s : State) (n : ℕ) (l : Listed) → Looks settled known p s → HasBoth known l (entry_of n s.opened) → length (puts_of l) ≤ p.open_puts
open_fits settled known p s n l looks both = omega (arith, looks.open_puts, puts_size known l both.own both.look, size-without n s.opened both.own both.e_is)

-- an open transaction's puts are counted by its list
pub open_size : (o : Option Open) (l : Listed) → option_map (λ (q : Open). q.listed) o ≡ Some l → puts_of_open o ≡ length (puts_of l)
open_size None l is = absurd (cc)
open_size (Some o) l is = ap (λ (x : Listed). length (puts_of x)) (some_listed o.listed l is)
  where
    some_listed : (a b : Listed) → Some a ≡ Some b → a ≡ b
    some_listed a b same = cc

-- a transaction adds at most one to what is staged
pub one_staged : (l : Listed) → length (staged_of l) ≤ 1
one_staged (Puts []) = omega arith
one_staged (Puts (p ∷ pointers)) = omega arith
one_staged (Takes []) = omega arith
one_staged (Takes (n ∷ numbers)) = omega arith

-- staging one transaction adds at most one frame
pub one_more : (staged : List Listed) (l : Listed) → one_if_staged (staged ++ staged_of l) ≤ one_if_staged staged + 1
one_more (x ∷ staged) l = omega arith
one_more [] (Puts []) = omega arith
one_more [] (Puts (p ∷ pointers)) = omega arith
one_more [] (Takes []) = omega arith
one_more [] (Takes (n ∷ numbers)) = omega arith

-- a transaction of puts is dropped
pub drop_looks : (settled known : Known) (p : Places) (s : State) (t : Table) (n : ℕ) (l : Listed) (open_puts : ℕ) → Looks settled known p s → HasBoth known l (entry_of n s.opened) → is_puts l ≡ true → HasAt n None p.opened t → length t + 1 ≡ length p.opened
    → open_puts + length (puts_of l) ≡ p.open_puts → Looks settled known (record p { opened = t; open_puts = open_puts }) (close n s)
drop_looks settled known p s t n l open_puts looks both are has many puts =
    gone_looks settled known p s t n both.own p.staged s.staged open_puts looks both.e_is has many looks.staged looks.sound.staged
    (λ m. omega (arith, opened-without m n s.opened both.own both.e_is, none m l both.own are both.look))
    (omega (arith, puts, puts_size known l both.own both.look))
  where
    none : (m : ℕ) (l : Listed) (e : Entry) → is_puts l ≡ true → LooksListed known l e → entry_times m e ≡ 0
    none m (Puts pointers) (entry.Puts events) are look = refl
    none m (Puts pointers) (entry.Takes numbers) are look = absurd look
    none m (Takes numbers) e are look = absurd (differ are)
      where
        differ : false ≡ true → ⊥
        differ same = cc

-- what was found of a transaction open for puts is puts
pub puts_of_one : (o : Option Open) (l : Listed) → is_open true o ≡ true → option_map (λ (q : Open). q.listed) o ≡ Some l → is_puts l ≡ true
puts_of_one None l is got = absurd (cc)
puts_of_one (Some o) l is got = ap (λ (x : Listed). is_puts x) (sym (some_listed o.listed l got)) ∙ is
  where
    some_listed : (a b : Listed) → Some a ≡ Some b → a ≡ b
    some_listed a b same = cc
