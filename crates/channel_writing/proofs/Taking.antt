-- A take leaves the log as a mirror of the state.
use Rattle.std.proofs.Common.{inl, inr, ◌≡◌, ◌<◌, ◌≤◌, ◌++◌, ◌∷◌, [], ℕ, List, length, map, Option, Some, None, Bool, true, false, not, ◌==◌, ◌||◌, ◌&&◌, cond, refl, sym, ◌∙◌, ap, subst, arith}
use Rattle.std.proofs.lemmas.Bool.Decides.{eqb_tells}
use Rattle.std.proofs.lemmas.List.{append-nil}
use Rattle.event_core.specs.Content.{Content}
use Rattle.event_core.specs.Journal.{Base, is_among, left, numbered, put_events, taken_numbers, without}
use Rattle.event_core.specs.declared.journal.Entry.{Entry}
use Rattle.event_core.specs.declared.journal.Entry.TheVariants.{Puts, Takes}
use Rattle.record_form.specs.declared.record.Rec.{Rec}
use Rattle.record_form.specs.declared.record.Rec.TheVariants.{Take}
use Rattle.channel_face.specs.Machine.{State, base_of, entries, entry_of, free}
use Rattle.channel_replay.specs.Marks.{Past, Applied, opened, open_txns, journal, next_txn, numbers_of, IsLeft, IsHeld}
use Rattle.channel_replay.specs.Rules.{IsLegal, MayGoOn, IsTake}
use Rattle.channel_replay.proofs.Keys.{Tells, held_among}
use Rattle.channel_replay.proofs.Numbers.{or_among}
use Rattle.channel_writing.specs.Mirrors.{applied}
use Rattle.channel_replay.specs.StartLaws.{done_of}
use Rattle.channel_replay.specs.Start.{AreApart}
use Rattle.channel_writing.specs.Laws.{TakeIsMirrored}
use Rattle.channel_writing.proofs.Opens.{entry_with, keys_with, all_with, length_with, busy_with, busy_room, one_done}
use Rattle.channel_writing.proofs.Mirroring.{applied-push, legal-push, is_txn, more_open}
use Rattle.channel_writing.proofs.Ending.{staged_base}

abbrev Items : Type 0
Items = List (ℕ × Content)

abbrev numbers : Items → List ℕ
numbers items = map (λ (item : ℕ × Content). item.0) items

numbers_append : (a b : Items) → numbers (a ++ b) ≡ numbers a ++ numbers b
numbers_append [] b = refl
numbers_append (item ∷ a) b = ap (λ (l : List ℕ). item.0 ∷ l) (numbers_append a b)

-- a number is among those without some where it is there and is none of these
among_without : (xs : List ℕ) (items : Items) (n : ℕ) → is_among (numbers (without xs items)) n ≡ (is_among (numbers items) n && not (is_among xs n))
among_without xs [] n = refl
among_without xs (item ∷ items) n = from (eqb_tells item.0 n) (is_among xs item.0) refl (among_without xs items n)
  where
    no_more : (b : Bool) → b ≡ false → (false && not b) ≡ false
    no_more b is = refl

    taken_away : (b c : Bool) → c ≡ true → (b && not c) ≡ (true && not c)
    taken_away true c is = refl
    taken_away false c is = rw is refl

    from : Tells item.0 n → (b : Bool) → is_among xs item.0 ≡ b → is_among (numbers (without xs items)) n ≡ (is_among (numbers items) n && not (is_among xs n))
        → is_among (numbers (cond b (without xs items) (item ∷ without xs items))) n ≡ (((item.0 == n) || is_among (numbers items) n) && not (is_among xs n))
    from (inl same) true there rest =
        let here : is_among xs n ≡ true = sym (ap (λ (m : ℕ). is_among xs m) same.1) ∙ there in
        rw same.0 (rest ∙ taken_away (is_among (numbers items) n) (is_among xs n) here)
    from (inl same) false there rest =
        let here : is_among xs n ≡ false = sym (ap (λ (m : ℕ). is_among xs m) same.1) ∙ there in
        rw (same.0, here) refl
    from (inr other) true there rest = rw other.0 rest
    from (inr other) false there rest = rw other.0 rest

both_true : (b c : Bool) → (b && not c) ≡ true → (b ≡ true) × (c ≡ false)
both_true true true is = absurd (cc)
both_true true false is = (refl, refl)
both_true false c is = absurd (cc)

none_of_both : (b c : Bool) → (b || c) ≡ false → (b ≡ false) × (c ≡ false)
none_of_both true c is = absurd (cc)
none_of_both false c is = (refl, is)

itself : (n : ℕ) → (n == n) ≡ true
itself n = grind arith

head_there : (items : Items) (item : ℕ × Content) (rest : Items) → items ≡ item ∷ rest → is_among (numbers items) item.0 ≡ true
head_there items item rest is = rw (is, itself item.0) refl

-- The first free event is left, and no transaction took it.
record IsFree (s : State) (n : ℕ) : Type 0 where
  there : is_among (numbers s.items) n ≡ true
  opened_not : is_among (taken_numbers (entries s.opened)) n ≡ false
  staged_not : is_among (taken_numbers s.staged) n ≡ false

is_free : (s : State) (item : ℕ × Content) (rest : Items) → free s ≡ item ∷ rest → IsFree s item.0
is_free s item rest is =
    let taken : List ℕ = taken_numbers (entries s.opened) ++ taken_numbers s.staged in
    let two = both_true (is_among (numbers s.items) item.0) (is_among taken item.0) (sym (among_without taken s.items item.0) ∙ head_there (free s) item rest is) in
    let none = none_of_both (is_among (taken_numbers (entries s.opened)) item.0) (is_among (taken_numbers s.staged) item.0) (sym (or_among (taken_numbers (entries s.opened)) (taken_numbers s.staged) item.0) ∙ two.1) in
    record { there = two.0; opened_not = none.0; staged_not = none.1 }

still_left : (b c d : Bool) → b ≡ true → d ≡ false → ((b || c) && not d) ≡ true
still_left b c d x y = rw (x, y) refl

left_there : (s : State) (n : ℕ) → IsFree s n → is_among (numbers (left (base_of s) s.staged)) n ≡ true
left_there s n is =
    let more : Items = numbered s.first (put_events s.staged) in
    among_without (taken_numbers s.staged) (s.items ++ more) n
    ∙ (ap (λ (b : Bool). b && not (is_among (taken_numbers s.staged) n)) (ap (λ (l : List ℕ). is_among l n) (numbers_append s.items more) ∙ or_among (numbers s.items) (numbers more) n)
    ∙ still_left (is_among (numbers s.items) n) (is_among (numbers more) n) (is_among (taken_numbers s.staged) n) is.there is.staged_not)

numbers_done : (entry : Option Entry) → numbers_of (done_of entry) ≡ numbers_of entry
numbers_done None = refl
numbers_done (Some (Puts [])) = refl
numbers_done (Some (Puts (e ∷ events))) = refl
numbers_done (Some (Takes [])) = refl
numbers_done (Some (Takes (n ∷ ns))) = refl

more_done : (ns : List ℕ) (n : ℕ) → done_of (Some (Takes (ns ++ n ∷ []))) ≡ Some (Takes (ns ++ n ∷ []))
more_done [] n = refl
more_done (x ∷ ns) n = refl

one_more : (ns : List ℕ) (n : ℕ) → one_done (Takes (ns ++ n ∷ [])) ≡ 1
one_more [] n = refl
one_more (x ∷ ns) n = refl

may_take : (count : ℕ) (ns : List ℕ) → (one_done (Takes ns) ≡ 0 → count < 1024) → MayGoOn count (done_of (Some (Takes ns))) IsTake
may_take count [] room = room refl
may_take count (n ∷ ns) room = tt

-- a take writes a TAKE behind the other records
pub take_mirrored : TakeIsMirrored
take_mirrored start s settled records txn ns item rest m is first =
    let all : Past = applied settled records in
    let rec : Rec = Take txn item.0 in
    let new : Entry = Takes (ns ++ item.0 ∷ []) in
    let push : applied settled (records ++ rec ∷ []) ≡ Applied rec ∷ all = applied-push settled records rec in
    let here : opened txn all ≡ done_of (Some (Takes ns)) = m.each txn ∙ ap done_of is in
    let number = is_txn start s settled records txn (Takes ns) m is in
    let free_one : IsFree s item.0 = is_free s item rest first in
    let room : one_done (Takes ns) ≡ 0 → length (open_txns all) < 1024 = λ idle. omega (arith, busy_room s.opened txn (Takes ns) is idle, m.as_many, m.few) in
    let is_left : IsLeft start all item.0 = subst (λ (b : Base). is_among (numbers b.items) item.0 ≡ true) (staged_base start s settled records m) (left_there s item.0 free_one) in
    let may : IsLegal start all rec = (number.0, subst (λ (e : Option Entry). MayGoOn (length (open_txns all)) e IsTake) (sym here) (may_take (length (open_txns all)) ns room), is_left, not_held) in
    let grown = more_open all txn (done_of (Some (Takes ns))) here in
    record {
      base = m.base;
      earlier = m.earlier;
      staged = ap journal push ∙ (append-nil (journal all) ∙ m.staged);
      each = λ n. ap (λ (p : Past). opened n p) push ∙ (each n (eqb_tells txn n) ∙ ap done_of (sym (entry_with s.opened txn n (Takes ns) new is)));
      as_many = ap (λ (p : Past). length (open_txns p)) push ∙ omega (arith, grown, m.as_many, busy_with s.opened txn (Takes ns) new is, one_more ns item.0);
      next = subst (λ (p : Past). next_txn p ≤ s.txn) (sym push) (omega (arith, number.1, m.next));
      legal = legal-push start settled records rec m.legal may;
      low = all_with (λ n. 1 ≤ n) s.opened txn new m.low;
      below = all_with (λ n. n < s.txn) s.opened txn new m.below;
      apart = subst AreApart (sym (keys_with s.opened txn new)) m.apart;
      high = m.high;
      few = omega (arith, m.few, length_with s.opened txn new);
    }
  where
    differ : true ≡ false → ⊥
    differ is = absurd (cc)

    not_held : IsHeld (applied settled records) item.0 → ⊥
    not_held held =
        let there : is_among (numbers_of (entry_of held.0 s.opened)) item.0 ≡ true = sym (ap (λ (l : List ℕ). is_among l item.0) (ap numbers_of (m.each held.0) ∙ numbers_done (entry_of held.0 s.opened))) ∙ held.1 in
        differ (sym (held_among s.opened item.0 held.0 there) ∙ (is_free s item rest first).opened_not)

    each : (n : ℕ) → Tells txn n → cond (txn == n) (Some (Takes (numbers_of (opened n (applied settled records)) ++ item.0 ∷ []))) (opened n (applied settled records)) ≡ done_of (cond (txn == n) (Some (Takes (ns ++ item.0 ∷ []))) (entry_of n s.opened))
    each n (inl same) =
        let there : numbers_of (opened n (applied settled records)) ≡ ns = ap numbers_of (m.each n) ∙ (numbers_done (entry_of n s.opened) ∙ ap numbers_of (sym (ap (λ (k : ℕ). entry_of k s.opened) same.1) ∙ is)) in
        rw (same.0, there) (sym (more_done ns item.0))
    each n (inr other) = rw other.0 (m.each n)
