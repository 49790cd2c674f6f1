-- A put more.
use Rattle.std.proofs.Common.{inl, inr, ◌≡◌, ◌<◌, ◌≤◌, ◌+◌, ◌++◌, ◌∷◌, [], ℕ, List, length, Option, Some, None, true, false, refl, sym, ◌∙◌, ap, subst, arith, length-append}
use Rattle.std.specs.Prelude.{option_map}
use Rattle.std.specs.Prelude.{nat_le, nat_lt}
use Rattle.std.proofs.lemmas.Bool.Decides.{nat_tests}
use Rattle.event_core.specs.Content.{Content, size}
use Rattle.event_core.specs.Journal.{AreDistinctOf, taken_numbers}
use Rattle.event_core.specs.declared.journal.Entry.{Entry}
use Rattle.event_core.specs.declared.journal.Entry.TheVariants as entry
use Rattle.record_form.specs.declared.record.Pointer.{Pointer}
use Rattle.open_table.specs.declared.table.Item.TheVariants.{Put}
use Rattle.open_table.specs.Tables.{HasAt, IsOf, Listed, MayAdd, Open, Puts, Table, Takes, added, is_open, open_at, puts_of as puts_listed, size as listed_size, with_item}
use Rattle.channel_face.specs.Token.{Token}
use Rattle.channel_face.specs.Machine.{State, add_put, count, entries, entry_of, put_refusal, puts_of, with_entry}
use Rattle.channel_face.specs.declared.replies.Kind.TheVariants.{File}
use Rattle.channel_face.specs.declared.replies.PutRefused.TheVariants as PutNo
use Rattle.channel_face.proofs.Opened.{puts_of-from}
use Rattle.channel_places.specs.Looks.{IsWithinRoom, Known, LookLeft, LookPuts, Looks, LooksOpen, Numbers, Places, StandsIn, held_in}
use Rattle.channel_places.proofs.Looking.{puts_length}
use Rattle.channel_places.proofs.Opening.{Grows, length-with, opened_with, puts_grow, rise-with, size-with, staged_grows, taken-with_puts}

-- The puts of an open transaction, by pointers and by events.
pub record HasPuts (known : Known) (room : ℕ) (o : Option Open) (e : Option Entry) : Type 0 where
  pub pointers : List Pointer
  pub events : List Content
  pub o_is : o ≡ Some (record { listed = Puts pointers; room = room })
  pub e_is : e ≡ Some (entry.Puts events)
  pub look : LookPuts known pointers events

puts_at : (known : Known) (room : ℕ) (o : Option Open) (e : Option Entry) → LooksOpen known room o e → is_open true o ≡ true → HasPuts known room o e
puts_at known room None e look is = absurd (cc)
puts_at known room (Some o) None look is = absurd look
puts_at known room (Some o) (Some (entry.Puts events)) look is = by_listed o.listed o.room refl refl look
  where
    by_listed : (l : Listed) (r : ℕ) → o.listed ≡ l → o.room ≡ r → LooksOpen known room (Some (record { listed = l; room = r })) (Some (entry.Puts events)) → HasPuts known room (Some o) (Some (entry.Puts events))
    by_listed (Puts pointers) r listed same has = record {
      pointers = pointers;
      events = events;
      o_is = ap (λ (l : Listed). Some (record { listed = l; room = o.room })) listed ∙ ap (λ (n : ℕ). Some (record { listed = Puts pointers; room = n })) (same ∙ has.1);
      e_is = refl;
      look = has.0;
    }
    by_listed (Takes numbers) r listed same has = absurd has.0
puts_at known room (Some o) (Some (entry.Takes numbers)) look is = by_listed o.listed o.room refl look
  where
    differ : (l : Listed) (ns : List ℕ) → Rattle.open_table.specs.Tables.is_puts l ≡ true → l ≡ Takes ns → ⊥
    differ l ns puts takes = cc

    by_listed : (l : Listed) (r : ℕ) → o.listed ≡ l → LooksOpen known room (Some (record { listed = l; room = r })) (Some (entry.Takes numbers)) → HasPuts known room (Some o) (Some (entry.Takes numbers))
    by_listed (Puts pointers) r listed has = absurd has.0
    by_listed (Takes ns) r listed has = absurd (differ o.listed ns is listed)

-- a transaction open for puts has puts in the table and in the state
pub open_puts : (settled known : Known) (p : Places) (s : State) (n : ℕ) → Looks settled known p s → is_open true (open_at p.opened n) ≡ true → HasPuts known s.rules.limits.txn_capacity (open_at p.opened n) (entry_of n s.opened)
open_puts settled known p s n looks is = puts_at known s.rules.limits.txn_capacity (open_at p.opened n) (entry_of n s.opened) (looks.opened n) is

-- a transaction that may have a put added is open for puts
pub may_put : (pointer : Pointer) (o : Option Open) → MayAdd (Put pointer) o → is_open true o ≡ true
may_put pointer None may = absurd may
may_put pointer (Some o) may = by_listed o.listed may.0
  where
    by_listed : (l : Listed) → Rattle.open_table.specs.Tables.IsOf (Put pointer) l → Rattle.open_table.specs.Tables.is_puts l ≡ true
    by_listed (Puts pointers) is = refl
    by_listed (Takes numbers) is = absurd is

-- what is known is still known where one event more is
pub grows_one : (known : Known) (k : Pointer × Content) → Grows known (k ∷ known)
grows_one known k p event stands = inr stands

puts_push : (known : Known) (pointers : List Pointer) (events : List Content) (p : Pointer) (event : Content) → LookPuts known pointers events → StandsIn known p event → LookPuts known (pointers ++ p ∷ []) (events ++ event ∷ [])
puts_push known [] [] p event look at = (at, tt)
puts_push known [] (e ∷ events) p event look at = absurd look
puts_push known (q ∷ pointers) [] p event look at = absurd look
puts_push known (q ∷ pointers) (e ∷ events) p event look at = (look.0, puts_push known pointers events p event look.1 at)

-- a put more of an open transaction
pub put_looks : (settled known : Known) (p : Places) (s : State) (t : Table) (token : Token) (pointer : Pointer) (event : Content) → Looks settled known p s → token.life ≡ p.numbers.life → MayAdd (Put pointer) (open_at p.opened token.number)
    → HasAt token.number (added (Put pointer) (open_at p.opened token.number)) p.opened t → length t ≡ length p.opened
    → Looks settled ((pointer, event) ∷ known) (record p { opened = t; open_puts = p.open_puts + 1 }) (add_put s token.number (puts_of s token) event)
put_looks settled known p s t token pointer event looks life may has many =
    subst (λ (o : Option (List Content)). Looks settled more (record p { opened = t; open_puts = p.open_puts + 1 }) (add_put s n o event)) (sym its) looks_so
  where
    n : ℕ
    n = token.number

    more : Known
    more = (pointer, event) ∷ known

    h : HasPuts known s.rules.limits.txn_capacity (open_at p.opened n) (entry_of n s.opened)
    h = open_puts settled known p s n looks (may_put pointer (open_at p.opened n) may)

    its : puts_of s token ≡ Some h.events
    its = puts_of-from s token h.events (life ∙ ap (λ (m : Numbers). m.life) looks.numbers) h.e_is

    new : Entry
    new = entry.Puts (h.events ++ event ∷ [])

    now : Open
    now = record { listed = Puts (h.pointers ++ pointer ∷ []); room = s.rules.limits.txn_capacity }

    at : HasAt n (Some now) p.opened t
    at = subst (λ (o : Option Open). HasAt n (added (Put pointer) o) p.opened t) h.o_is has

    taken : taken_numbers (entries (with_entry n new s.opened)) ≡ taken_numbers (entries s.opened)
    taken = taken-with_puts n s.opened h.events (h.events ++ event ∷ []) h.e_is

    held : taken_numbers (entries (with_entry n new s.opened)) ++ taken_numbers s.staged ≡ held_in s
    held = ap (λ (l : List ℕ). l ++ taken_numbers s.staged) taken

    looks_so : Looks settled more (record p { opened = t; open_puts = p.open_puts + 1 }) (record s { opened = with_entry n new s.opened })
    looks_so = record {
      sound = record {
        base = looks.sound.base;
        held = subst (λ (l : List ℕ). AreDistinctOf s.items l) (sym held) looks.sound.held;
        opened = rise-with 0 s.txn n new s.opened looks.sound.opened;
        staged = looks.sound.staged;
      };
      left = subst (λ (l : List ℕ). LookLeft settled l p.live s.items) (sym held) looks.left;
      opened = opened_with settled known more p s t n now (entry.Puts h.events) new looks (grows_one known (pointer, event)) h.e_is at
          (puts_push more h.pointers h.events pointer event (puts_grow known more h.pointers h.events (grows_one known (pointer, event)) h.look) (inl refl)) refl;
      as_many = many ∙ (looks.as_many ∙ sym (length-with n new s.opened));
      open_puts = omega (arith, looks.open_puts, size-with n s.opened (entry.Puts h.events) new h.e_is, length-append (h.events ++ event ∷ []) [], length-append h.events [], length-append h.events (event ∷ []));
      staged = staged_grows known more p.staged s.staged (grows_one known (pointer, event)) looks.staged;
      numbers = looks.numbers;
    }

-- the puts that are found of a token
pub puts_found : (settled known : Known) (p : Places) (s : State) (token : Token) (found : List Pointer) → Looks settled known p s → token.life ≡ p.numbers.life → is_open true (open_at p.opened token.number) ≡ true
    → option_map (λ (o : Open). puts_listed o.listed) (open_at p.opened token.number) ≡ Some found → (events : List Content) × (puts_of s token ≡ Some events) × (length events ≡ length found)
puts_found settled known p s token found looks life is got =
    let h = open_puts settled known p s token.number looks is in
    let same : h.pointers ≡ found = some_list h.pointers found (sym (ap (λ (o : Option Open). option_map (λ (o : Open). puts_listed o.listed) o) h.o_is) ∙ got) in
    (h.events, puts_of-from s token h.events (life ∙ ap (λ (m : Numbers). m.life) looks.numbers) h.e_is, omega (arith, puts_length known h.pointers h.events h.look, ap (λ (l : List Pointer). length l) same))
  where
    some_list : (a b : List Pointer) → Some a ≡ Some b → a ≡ b
    some_list a b is = cc

-- what the machine says of a put to a transaction that isn't full

-- a put to a channel that is full is refused with its count
pub refuses_full : (s : State) (puts : Option (List Content)) (events : List Content) (event : Content) → puts ≡ Some events → s.rules.kind ≡ File → s.broken ≡ false → length events < s.rules.limits.txn_capacity → size event ≤ 1_048_576 → s.rules.limits.capacity ≤ count s
    → put_refusal s puts event ≡ Some (PutNo.Full (count s))
refuses_full s puts events event puts_are kind whole few small full =
    let room : nat_le s.rules.limits.txn_capacity (length events) ≡ false = grind (arith, nat_tests) in
    let fits : nat_lt 1048576 (size event) ≡ false = grind (arith, nat_tests) in
    let much : nat_le s.rules.limits.capacity (count s) ≡ true = grind (arith, nat_tests) in
    rw (puts_are, whole, room, kind, fits, much) refl

-- a put that all limits leave room for isn't refused
pub refuses_none : (s : State) (puts : Option (List Content)) (events : List Content) (event : Content) → puts ≡ Some events → s.rules.kind ≡ File → s.broken ≡ false → length events < s.rules.limits.txn_capacity → size event ≤ 1_048_576 → count s < s.rules.limits.capacity
    → put_refusal s puts event ≡ None
refuses_none s puts events event puts_are kind whole few small free =
    let room : nat_le s.rules.limits.txn_capacity (length events) ≡ false = grind (arith, nat_tests) in
    let fits : nat_lt 1048576 (size event) ≡ false = grind (arith, nat_tests) in
    let little : nat_le s.rules.limits.capacity (count s) ≡ false = grind (arith, nat_tests) in
    rw (puts_are, whole, room, kind, fits, little) refl

-- a transaction with room for a put is within its room after it
pub put_within : (pointer : Pointer) (o : Option Open) → MayAdd (Put pointer) o → IsWithinRoom (added (Put pointer) o)
put_within pointer None may = absurd may
put_within pointer (Some o) may = by_listed o.listed may.0 may.1
  where
    by_listed : (l : Listed) → IsOf (Put pointer) l → listed_size l < o.room → listed_size (with_item (Put pointer) l) ≤ o.room
    by_listed (Puts pointers) is few = omega (arith, few, length-append pointers (pointer ∷ []))
    by_listed (Takes numbers) is few = absurd is
