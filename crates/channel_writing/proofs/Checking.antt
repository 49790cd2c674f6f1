-- A checkpoint of a state mirrors it.
use Rattle.std.proofs.Common.{◌⊎◌, inl, inr, ◌≡◌, ◌<◌, ◌≤◌, ◌+◌, ◌++◌, ◌∷◌, [], ℕ, List, length, Option, Some, None, Bool, true, false, ◌==◌, ◌||◌, refl, sym, ◌∙◌, ap, subst, arith}
use Rattle.std.specs.List.{AllByRecursion}
use Rattle.std.proofs.lemmas.List.{append-nil}
use Rattle.event_core.specs.Content.{Content}
use Rattle.event_core.specs.Journal.{Base, IsBase, IsNotEmpty, after_journal, is_among, taken_numbers}
use Rattle.event_core.specs.declared.journal.Entry.{Entry}
use Rattle.event_core.specs.declared.journal.Entry.TheVariants.{Puts, Takes}
use Rattle.channel_face.specs.Machine.{State, base_of, entries, entry_of}
use Rattle.channel_face.proofs.LawLemmas.{after_none}
use Rattle.channel_face.specs.Sound.{times, IsSoundState}
use Rattle.channel_face.proofs.Numbers.{among_times, base_rising, number_high}
use Rattle.channel_replay.specs.Marks.{Past, journal, next_txn, numbers_of}
use Rattle.channel_replay.specs.Open.{keys}
use Rattle.channel_replay.proofs.Keys.{held_among}
use Rattle.channel_replay.specs.StartLaws.{busy_ones, done_of, or_not, start_of}
use Rattle.channel_replay.specs.Start.{AreApart, IsStart, Start, entry_marks, open_marks, put_marks, start_past, take_marks}
use Rattle.channel_replay.proofs.Laying.{busy_entry}
use Rattle.channel_replay.proofs.Starts.{open_commits_none, start_as_many, start_each}
use Rattle.channel_writing.specs.Laws.{CheckpointIsMirrored, StartsLeaveTheSame}
use Rattle.channel_writing.specs.Mirrors.{IsStartOf, Mirrors, busy, one_if_done}
use Rattle.channel_writing.proofs.Ending.{staged_base}

-- logs of one state after two starts leave the same
pub same_left : StartsLeaveTheSame
same_left a b s p q records more m n = (sym m.base ∙ n.base, sym (staged_base a s p records m) ∙ staged_base b s q more n)

-- the open transactions that did something

apart_or : (entry : Option Entry) (t : ℕ) (os : List (ℕ × Entry)) → is_among (keys os) t ≡ false → AreApart (keys os) → AreApart (keys (or_not entry t os))
apart_or None t os isnt apart = apart
apart_or (Some entry) t os isnt apart = (isnt, apart)

not_among_or : (entry : Option Entry) (t n : ℕ) (os : List (ℕ × Entry)) → ((t == n) || is_among (keys os) n) ≡ false → is_among (keys (or_not entry t os)) n ≡ false
not_among_or None t n os isnt = later (t == n) isnt
  where
    later : (b : Bool) → (b || is_among (keys os) n) ≡ false → is_among (keys os) n ≡ false
    later true isnt = absurd (cc)
    later false isnt = isnt
not_among_or (Some entry) t n os isnt = isnt

busy_not_among : (os : List (ℕ × Entry)) (n : ℕ) → is_among (keys os) n ≡ false → is_among (keys (busy_ones os)) n ≡ false
busy_not_among [] n isnt = refl
busy_not_among (o ∷ os) n isnt = not_among_or (done_of (Some o.1)) o.0 n (busy_ones os) (fewer (o.0 == n) isnt (busy_not_among os n))
  where
    fewer : (b : Bool) → (b || is_among (keys os) n) ≡ false → (is_among (keys os) n ≡ false → is_among (keys (busy_ones os)) n ≡ false) → (b || is_among (keys (busy_ones os)) n) ≡ false
    fewer true isnt rest = absurd (cc)
    fewer false isnt rest = rest isnt

busy_apart : (os : List (ℕ × Entry)) → AreApart (keys os) → AreApart (keys (busy_ones os))
busy_apart [] apart = tt
busy_apart (o ∷ os) apart = apart_or (done_of (Some o.1)) o.0 (busy_ones os) (busy_not_among os o.0 apart.0) (busy_apart os apart.1)

some_or : (entry : Entry) (t : ℕ) (os : List (ℕ × Entry)) → AllByRecursion (λ o. IsNotEmpty o.1) os → AllByRecursion (λ o. IsNotEmpty o.1) (or_not (done_of (Some entry)) t os)
some_or (Puts []) t os all = all
some_or (Puts (e ∷ events)) t os all = (omega arith, all)
some_or (Takes []) t os all = all
some_or (Takes (n ∷ numbers)) t os all = (omega arith, all)

busy_some : (os : List (ℕ × Entry)) → AllByRecursion (λ o. IsNotEmpty o.1) (busy_ones os)
busy_some [] = tt
busy_some (o ∷ os) = some_or o.1 o.0 (busy_ones os) (busy_some os)

-- as many open transactions are kept for a checkpoint as did something
pub busy_length : (os : List (ℕ × Entry)) → length (busy_ones os) ≡ busy os
busy_length [] = refl
busy_length (o ∷ os) = from (done_of (Some o.1)) (busy_length os)
  where
    from : (e : Option Entry) → length (busy_ones os) ≡ busy os → length (or_not e o.0 (busy_ones os)) ≡ one_if_done e + busy os
    from None rest = omega (arith, rest)
    from (Some e) rest = omega (arith, rest)

numbers_done : (entry : Option Entry) → numbers_of (done_of entry) ≡ numbers_of entry
numbers_done None = refl
numbers_done (Some (Puts [])) = refl
numbers_done (Some (Puts (e ∷ events))) = refl
numbers_done (Some (Takes [])) = refl
numbers_done (Some (Takes (n ∷ numbers))) = refl

-- what is held has earlier numbers
held_earlier : (s : State) (t n : ℕ) → IsSoundState s → s.first ≤ n → is_among (numbers_of (entry_of t s.opened)) n ≡ false
held_earlier s t n sound more = from (is_among (numbers_of (entry_of t s.opened)) n) refl
  where
    none : times n (taken_numbers (entries s.opened)) ≡ 0
    none = omega (arith, sound.held n, number_high n 0 s.items s.first sound.rising more)

    both : ((is_among (taken_numbers (entries s.opened)) n ≡ true) × (1 ≤ times n (taken_numbers (entries s.opened)))) ⊎ ((is_among (taken_numbers (entries s.opened)) n ≡ false) × (times n (taken_numbers (entries s.opened)) ≡ 0)) → is_among (taken_numbers (entries s.opened)) n ≡ true → ⊥
    both (inl there) held = omega (arith, there.1, none)
    both (inr isnt) held = let e : true ≡ false = sym held ∙ isnt.0 in absurd (cc)

    from : (b : Bool) → is_among (numbers_of (entry_of t s.opened)) n ≡ b → is_among (numbers_of (entry_of t s.opened)) n ≡ false
    from false is = is
    from true is = absurd (both (among_times n (taken_numbers (entries s.opened))) (held_among s.opened n t is))

-- the next number is above those of open transactions

puts_next : (txn top : ℕ) (events : List Content) (past : Past) → txn + 1 ≤ top → next_txn past ≤ top → next_txn (put_marks txn events past) ≤ top
puts_next txn top [] past less all = all
puts_next txn top (event ∷ events) past less all = puts_next txn top events _ less (omega (arith, less, all))

takes_next : (txn top : ℕ) (numbers : List ℕ) (past : Past) → txn + 1 ≤ top → next_txn past ≤ top → next_txn (take_marks txn numbers past) ≤ top
takes_next txn top [] past less all = all
takes_next txn top (number ∷ numbers) past less all = takes_next txn top numbers _ less (omega (arith, less, all))

entry_next : (txn top : ℕ) (entry : Entry) (past : Past) → txn + 1 ≤ top → next_txn past ≤ top → next_txn (entry_marks txn entry past) ≤ top
entry_next txn top (Puts events) past less all = puts_next txn top events past less all
entry_next txn top (Takes numbers) past less all = takes_next txn top numbers past less all

opens_next : (top : ℕ) (os : List (ℕ × Entry)) (past : Past) → AllByRecursion (λ o. o.0 < top) os → next_txn past ≤ top → next_txn (open_marks os past) ≤ top
opens_next top [] past below all = all
opens_next top (o ∷ os) past below all = opens_next top os (entry_marks o.0 o.1 past) below.1 (entry_next o.0 top o.1 past (omega (arith, below.0)) all)

busy_below : (top : ℕ) (os : List (ℕ × Entry)) → AllByRecursion (λ o. o.0 < top) os → AllByRecursion (λ o. o.0 < top) (busy_ones os)
busy_below top [] below = tt
busy_below top (o ∷ os) below = from (done_of (Some o.1)) (busy_below top os below.1)
  where
    from : (e : Option Entry) → AllByRecursion (λ o. o.0 < top) (busy_ones os) → AllByRecursion (λ o. o.0 < top) (or_not e o.0 (busy_ones os))
    from None rest = rest
    from (Some e) rest = (below.0, rest)

-- the open transactions that did something are a start's
start_of_is : (base : Base) (s : State) (settled : Past) → Mirrors base s settled [] → IsStartOf s (start_of s)
start_of_is base s settled m = record {
  base = refl;
  txn = refl;
  each = λ n. busy_entry s.opened n m.apart;
  as_many = busy_length s.opened;
  apart = busy_apart s.opened m.apart;
  some = busy_some s.opened;
  below = busy_below s.txn s.opened m.below;
}

start_mirrored : (base : Base) (s : State) (settled : Past) → Mirrors base s settled [] → IsSoundState s → s.staged ≡ [] → (now : Start) → IsStartOf s now → IsStart now × Mirrors now.base s (start_past now) []
start_mirrored base s settled m sound none now of =
    let first : now.base.first ≡ s.first = ap (λ (b : Base). b.first) of.base in
    let is : IsStart now = record {
      base = subst IsBase (sym of.base) (base_rising (base_of s) sound.rising);
      apart = of.apart;
      some = of.some;
      earlier = λ t n more. ap (λ (e : Option Entry). is_among (numbers_of e) n) (of.each t) ∙ (ap (λ (l : List ℕ). is_among l n) (numbers_done (entry_of t s.opened)) ∙ held_earlier s t n sound (omega (arith, more, first)));
    } in
    let quiet : journal (start_past now) ≡ [] = open_commits_none now.opened [] in (
      is,
      record {
        base = sym (ap (λ (j : List Entry). after_journal now.base j) quiet ∙ (after_none now.base ∙ of.base));
        earlier = λ n more. ap (λ (j : List Entry). is_among (taken_numbers j) n) quiet;
        staged = sym (ap (λ (j : List Entry). journal (start_past now) ++ j) none ∙ append-nil (journal (start_past now)));
        each = λ n. start_each now n is ∙ of.each n;
        as_many = start_as_many now is ∙ of.as_many;
        next = opens_next s.txn now.opened [] of.below m.high.0;
        legal = tt;
        low = m.low;
        below = m.below;
        apart = m.apart;
        high = m.high;
        few = m.few;
      },
    )

-- a start that has what the state has mirrors it, and there is such a start
pub checkpoint_mirrored : CheckpointIsMirrored
checkpoint_mirrored base s settled m sound none = (start_of_is base s settled m, start_mirrored base s settled m sound none)
