-- Each number that was put is left or was taken once.
use Rattle.std.proofs.Common.{◌⊎◌, inl, inr, ◌≡◌, ◌≢◌, ◌≤◌, ◌+◌, ◌++◌, ◌∷◌, [], ℕ, zero, suc, List, length, slice_get, Some, Bool, true, false, ◌==◌, cond, refl, sym, ◌∙◌, ap, arith}
use Rattle.std.proofs.lemmas.List.{append-nil}
use Rattle.std.proofs.lemmas.Bool.Decides.{eqb_tells}
use Rattle.event_core.specs.Content.{Content}
use Rattle.event_core.specs.Journal.{Base, IsWellFormed, after_journal, put_events, taken_numbers, without, is_among, numbered}
use Rattle.event_core.specs.declared.journal.Entry.{Entry}
use Rattle.event_core.specs.declared.journal.Entry.TheVariants.{Puts, Takes}
use Rattle.channel_face.specs.Sound.{Rising, times, number_of}
use Rattle.channel_face.proofs.Numbers.{times-append, same_number, number_of-append, number_of-without, among_times, number_once, rising-left, rising-numbered, without_none, numbered-append, distinct_times}
use Rattle.world_laws.specs.World.{Channel, commits}
use Rattle.world_laws.specs.Held.{Balances, nothing}
use Rattle.world_laws.specs.Kept.{IsTakenAt, IsStillLeft, WasTakenOnce}
use Rattle.world_laws.proofs.Lists.{same_some, no_some, or_true, or_false, get_front}

-- a well-formed journal takes no number more often than it was there or was put
taken_within : (base : Base) (j : List Entry) → Rising 0 base.items base.first → IsWellFormed base j → (n : ℕ) → times n (taken_numbers j) ≤ number_of n base.items + number_of n (numbered base.first (put_events j))
taken_within base [] rising formed n = omega arith
taken_within base (Puts events ∷ j) rising formed n =
    let after : Base = after_journal base (Puts events ∷ []) in
    let items : after.items ≡ base.items ++ numbered base.first events = without_none (base.items ++ numbered base.first (events ++ [])) ∙ ap (λ (l : List Content). base.items ++ numbered base.first l) (append-nil events) in
    let first : after.first ≡ base.first + length events = ap (λ (l : List Content). base.first + length l) (append-nil events) in
    let rest = taken_within after j (rising-left base (Puts events ∷ []) rising) formed n in
    let a : number_of n after.items ≡ number_of n base.items + number_of n (numbered base.first events) = ap (number_of n) items ∙ number_of-append n base.items (numbered base.first events) in
    let b : number_of n (numbered base.first (events ++ put_events j)) ≡ number_of n (numbered base.first events) + number_of n (numbered after.first (put_events j)) =
    ap (number_of n) (numbered-append base.first events (put_events j)) ∙ (number_of-append n (numbered base.first events) (numbered (base.first + length events) (put_events j)) ∙ ap (λ (k : ℕ). number_of n (numbered base.first events) + number_of n (numbered k (put_events j))) (sym first)) in
    omega (arith, rest, a, b)
taken_within base (Takes numbers ∷ j) rising formed n =
    let after : Base = after_journal base (Takes numbers ∷ []) in
    let items : after.items ≡ without numbers base.items = ap (λ (l : List ℕ). without l (base.items ++ [])) (append-nil numbers) ∙ ap (without numbers) (append-nil base.items) in
    let first : after.first ≡ base.first = omega arith in
    let rest = taken_within after j (rising-left base (Takes numbers ∷ []) rising) formed.1 n in
    let own = distinct_times numbers 0 base.items base.first rising formed.0 n in
    let a : number_of n after.items ≡ cond (is_among numbers n) 0 (number_of n base.items) = ap (number_of n) items ∙ number_of-without n numbers base.items in
    let b : number_of n (numbered after.first (put_events j)) ≡ number_of n (numbered base.first (put_events j)) = ap (λ (k : ℕ). number_of n (numbered k (put_events j))) first in
    let c = times-append n numbers (taken_numbers j) in
    from rest own a b c (among_times n numbers)
  where
    from : times n (taken_numbers j) ≤ number_of n (after_journal base (Takes numbers ∷ [])).items + number_of n (numbered (after_journal base (Takes numbers ∷ [])).first (put_events j)) → times n numbers ≤ number_of n base.items
        → number_of n (after_journal base (Takes numbers ∷ [])).items ≡ cond (is_among numbers n) 0 (number_of n base.items)
        → number_of n (numbered (after_journal base (Takes numbers ∷ [])).first (put_events j)) ≡ number_of n (numbered base.first (put_events j)) → times n (numbers ++ taken_numbers j) ≡ times n numbers + times n (taken_numbers j)
        → ((is_among numbers n ≡ true) × (1 ≤ times n numbers)) ⊎ ((is_among numbers n ≡ false) × (times n numbers ≡ 0)) → times n (numbers ++ taken_numbers j) ≤ number_of n base.items + number_of n (numbered base.first (put_events j))
    from rest own a b c (inl has) = let none = a ∙ ap (λ (t : Bool). cond t 0 (number_of n base.items)) has.0 in omega (arith, rest, own, none, b, c)
    from rest own a b c (inr lacks) = let all = a ∙ ap (λ (t : Bool). cond t 0 (number_of n base.items)) lacks.0 in omega (arith, rest, all, b, c, lacks.1)

-- so none is taken twice
taken_once : (c : Channel) → Balances c → (n : ℕ) → times n (taken_numbers (commits c)) ≤ 1
taken_once c right n =
    let within = taken_within nothing (commits c) (omega arith) right.formed n in
    let once = number_once n 0 (numbered 0 (put_events (commits c))) (0 + length (put_events (commits c))) (rising-numbered 0 (put_events (commits c))) in
    omega (arith, within, once)

-- numbers by their places

times_at : (n : ℕ) (xs : List ℕ) (i : ℕ) → slice_get xs i ≡ Some n → 1 ≤ times n xs
times_at n [] i has = absurd (no_some n has)
times_at n (x ∷ xs) zero has = let one = same_number x n (same_some x n has) in omega (arith, one)
times_at n (x ∷ xs) (suc i) has = let rest = times_at n xs i has in omega (arith, rest)

one_place : (n : ℕ) (xs : List ℕ) (i j : ℕ) → times n xs ≤ 1 → slice_get xs i ≡ Some n → slice_get xs j ≡ Some n → i ≡ j
one_place n [] i j few x y = absurd (no_some n x)
one_place n (a ∷ xs) zero zero few x y = refl
one_place n (a ∷ xs) zero (suc j) few x y = let one = same_number a n (same_some a n x) in let more = times_at n xs j y in absurd (omega (arith, few, one, more))
one_place n (a ∷ xs) (suc i) zero few x y = let one = same_number a n (same_some a n y) in let more = times_at n xs i x in absurd (omega (arith, few, one, more))
one_place n (a ∷ xs) (suc i) (suc j) few x y = let rest = one_place n xs i j (omega (arith, few)) x y in omega (arith, rest)

taken_times : (n : ℕ) (entries : List Entry) (place i : ℕ) → IsTakenAt entries n place i → 1 ≤ times n (taken_numbers entries)
taken_times n [] place i is = absurd (no_some (Takes is.0) is.1)
taken_times n (Puts events ∷ entries) zero i is = absurd (cc)
taken_times n (Takes numbers ∷ entries) zero i is =
    let same : numbers ≡ is.0 = cc in
    let one = times_at n numbers i (ap (λ (l : List ℕ). slice_get l i) same ∙ is.2) in
    let both = times-append n numbers (taken_numbers entries) in
    omega (arith, one, both)
taken_times n (Puts events ∷ entries) (suc place) i is = taken_times n entries place i is
taken_times n (Takes numbers ∷ entries) (suc place) i is =
    let rest = taken_times n entries place i is in
    let both = times-append n numbers (taken_numbers entries) in
    omega (arith, rest, both)

one_take : (n : ℕ) (entries : List Entry) (p i q j : ℕ) → times n (taken_numbers entries) ≤ 1 → IsTakenAt entries n p i → IsTakenAt entries n q j → (p ≡ q) × (i ≡ j)
one_take n [] p i q j few x y = absurd (no_some (Takes x.0) x.1)
one_take n (Puts events ∷ entries) zero i q j few x y = absurd (cc)
one_take n (Puts events ∷ entries) (suc p) i zero j few x y = absurd (cc)
one_take n (Puts events ∷ entries) (suc p) i (suc q) j few x y = let rest = one_take n entries p i q j few x y in (omega (arith, rest.0), rest.1)
one_take n (Takes numbers ∷ entries) zero i zero j few x y =
    let a : numbers ≡ x.0 = cc in
    let b : numbers ≡ y.0 = cc in
    let both = times-append n numbers (taken_numbers entries) in
    (refl, one_place n numbers i j (omega (arith, few, both)) (ap (λ (l : List ℕ). slice_get l i) a ∙ x.2) (ap (λ (l : List ℕ). slice_get l j) b ∙ y.2))
one_take n (Takes numbers ∷ entries) zero i (suc q) j few x y =
    let a : numbers ≡ x.0 = cc in
    let one = times_at n numbers i (ap (λ (l : List ℕ). slice_get l i) a ∙ x.2) in
    let more = taken_times n entries q j y in
    let both = times-append n numbers (taken_numbers entries) in
    absurd (omega (arith, few, one, more, both))
one_take n (Takes numbers ∷ entries) (suc p) i zero j few x y =
    let b : numbers ≡ y.0 = cc in
    let one = times_at n numbers j (ap (λ (l : List ℕ). slice_get l j) b ∙ y.2) in
    let more = taken_times n entries p i x in
    let both = times-append n numbers (taken_numbers entries) in
    absurd (omega (arith, few, one, more, both))
one_take n (Takes numbers ∷ entries) (suc p) i (suc q) j few x y =
    let both = times-append n numbers (taken_numbers entries) in
    let rest = one_take n entries p i q j (omega (arith, few, both)) x y in
    (omega (arith, rest.0), rest.1)

among_at : (n : ℕ) (xs : List ℕ) → is_among xs n ≡ true → (i : ℕ) × (slice_get xs i ≡ Some n)
among_at n [] is = absurd (cc)
among_at n (x ∷ xs) is = from (eqb_tells x n) (among_at n xs)
  where
    from : ((x == n) ≡ true) × (x ≡ n) ⊎ ((x == n) ≡ false) × (x ≢ n) → (is_among xs n ≡ true → (i : ℕ) × (slice_get xs i ≡ Some n)) → (i : ℕ) × (slice_get (x ∷ xs) i ≡ Some n)
    from (inl same) rest = (zero, ap (λ (k : ℕ). Some k) same.1)
    from (inr other) rest = let r = rest (or_true (x == n) (is_among xs n) is other.0) in (suc r.0, r.1)

-- a number that has a place in a list is among it
pub at_among : (n : ℕ) (xs : List ℕ) (i : ℕ) → slice_get xs i ≡ Some n → is_among xs n ≡ true
at_among n [] i has = absurd (no_some n has)
at_among n (x ∷ xs) i has = from (among_times n (x ∷ xs))
  where
    from : ((is_among (x ∷ xs) n ≡ true) × (1 ≤ times n (x ∷ xs))) ⊎ ((is_among (x ∷ xs) n ≡ false) × (times n (x ∷ xs) ≡ 0)) → is_among (x ∷ xs) n ≡ true
    from (inl is) = is.0
    from (inr none) = let some = times_at n (x ∷ xs) i has in absurd (omega (arith, some, none.1))

among_behind : (n : ℕ) (xs ys : List ℕ) → is_among (xs ++ ys) n ≡ true → is_among xs n ≡ false → is_among ys n ≡ true
among_behind n [] ys is lacks = is
among_behind n (x ∷ xs) ys is lacks = let both = or_false (x == n) (is_among xs n) lacks in among_behind n xs ys (or_true (x == n) (is_among (xs ++ ys) n) is both.0) both.1

-- what was taken has a place
pub taken_place : (n : ℕ) (entries : List Entry) → is_among (taken_numbers entries) n ≡ true → (place : ℕ) × (i : ℕ) × IsTakenAt entries n place i
taken_place n [] is = absurd (cc)
taken_place n (Puts events ∷ entries) is = let r = taken_place n entries is in (suc r.0, r.1, r.2)
taken_place n (Takes numbers ∷ entries) is = from (is_among numbers n) refl (taken_place n entries)
  where
    from : (b : Bool) → is_among numbers n ≡ b → (is_among (taken_numbers entries) n ≡ true → (place : ℕ) × (i : ℕ) × IsTakenAt entries n place i) → (place : ℕ) × (i : ℕ) × IsTakenAt (Takes numbers ∷ entries) n place i
    from true has rest = let r = among_at n numbers has in (zero, r.0, (numbers, refl, r.1))
    from false lacks rest = let r = rest (among_behind n numbers (taken_numbers entries) is lacks) in (suc r.0, r.1, r.2)

-- what is left

-- an event's number is the first one and its place
pub numbered_at : (first : ℕ) (events : List Content) (k : ℕ) (e : Content) (number : ℕ) → number ≡ first + k → slice_get events k ≡ Some e → slice_get (numbered first events) k ≡ Some (number, e)
numbered_at first [] k e number is has = absurd (no_some e has)
numbered_at first (x ∷ events) zero e number is has =
    let one : first ≡ number = omega (arith, is) in
    ap (λ (j : ℕ). Some (j, x)) one ∙ ap (λ (y : Content). Some (number, y)) (same_some x e has)
numbered_at first (x ∷ events) (suc k) e number is has = numbered_at (first + 1) events k e number (omega (arith, is)) has

-- an item whose number was not taken is still left, at some place
pub stays_in : (xs : List ℕ) (items : List (ℕ × Content)) (i : ℕ) (x : ℕ × Content) → slice_get items i ≡ Some x → is_among xs x.0 ≡ false → (j : ℕ) × (slice_get (without xs items) j ≡ Some x)
stays_in xs [] i x has isnt = absurd (no_some x has)
stays_in xs (y ∷ items) zero x has isnt =
    let same : y ≡ x = same_some y x has in
    let one : is_among xs y.0 ≡ false = ap (λ (z : ℕ × Content). is_among xs z.0) same ∙ isnt in
    (zero, rw one has)
stays_in xs (y ∷ items) (suc i) x has isnt = from (is_among xs y.0) (stays_in xs items i x has isnt)
  where
    from : (b : Bool) → (j : ℕ) × (slice_get (without xs items) j ≡ Some x) → (j : ℕ) × (slice_get (cond b (without xs items) (y ∷ without xs items)) j ≡ Some x)
    from true r = r
    from false r = (suc r.0, r.1)

lacks_in : (xs : List ℕ) (items : List (ℕ × Content)) (i : ℕ) (x : ℕ × Content) → slice_get (without xs items) i ≡ Some x → is_among xs x.0 ≡ false
lacks_in xs [] i x has = absurd (no_some x has)
lacks_in xs (y ∷ items) i x has = from (is_among xs y.0) refl i has (λ j it. lacks_in xs items j x it)
  where
    from : (b : Bool) → is_among xs y.0 ≡ b → (i : ℕ) → slice_get (cond b (without xs items) (y ∷ without xs items)) i ≡ Some x → ((j : ℕ) → slice_get (without xs items) j ≡ Some x → is_among xs x.0 ≡ false) → is_among xs x.0 ≡ false
    from true is i it rest = rest i it
    from false is zero it rest = ap (λ (z : ℕ × Content). is_among xs z.0) (sym (same_some y x it)) ∙ is
    from false is (suc i) it rest = rest i it

module _ (c : Channel) (right : Balances c) (number : ℕ) (e : Content) (put : slice_get (put_events c.journal) number ≡ Some e) where
  items : c.state.items ≡ without (taken_numbers c.journal) (numbered 0 (put_events c.journal))
  items = ap (λ (b : Base). b.items) right.left

  still_left : is_among (taken_numbers c.journal) number ≡ false → IsStillLeft c number e
  still_left lacks =
      let r = stays_in (taken_numbers c.journal) (numbered 0 (put_events c.journal)) number (number, e) (numbered_at 0 (put_events c.journal) number e number (omega arith) put) lacks in
      record {
        at = r.0;
        left = ap (λ (l : List (ℕ × Content)). slice_get l r.0) items ∙ r.1;
        untaken = λ place i is. none (taken_times number c.journal place i is) (among_times number (taken_numbers c.journal));
      }
    where
      none : 1 ≤ times number (taken_numbers c.journal) → ((is_among (taken_numbers c.journal) number ≡ true) × (1 ≤ times number (taken_numbers c.journal))) ⊎ ((is_among (taken_numbers c.journal) number ≡ false) × (times number (taken_numbers c.journal) ≡ 0)) → ⊥
      none some (inl is) = let bad : true ≡ false = sym is.0 ∙ lacks in absurd (cc)
      none some (inr zero_times) = absurd (omega (arith, some, zero_times.1))

  was_taken : is_among (taken_numbers c.journal) number ≡ true → WasTakenOnce c number
  was_taken is =
      let r = taken_place number c.journal is in
      let at_commits : IsTakenAt (commits c) number r.0 r.1 = (r.2.0, get_front c.journal c.state.staged r.0 (Takes r.2.0) r.2.1, r.2.2) in
      record {
        place = r.0;
        at = r.1;
        taken = r.2;
        once = λ other i x. one_take number (commits c) other i r.0 r.1 (taken_once c right number) x at_commits;
        gone = λ i x has.
            let lacks = lacks_in (taken_numbers c.journal) (numbered 0 (put_events c.journal)) i (number, x) (ap (λ (l : List (ℕ × Content)). slice_get l i) (sym items) ∙ has) in
            differs (is_among (taken_numbers c.journal) number) is lacks;
      }
    where
      differs : (b : Bool) → b ≡ true → b ≡ false → ⊥
      differs true x y = cc
      differs false x y = cc

  -- an event that was put is still left, or was taken once
  pub left_or_taken : IsStillLeft c number e ⊎ WasTakenOnce c number
  left_or_taken = from (is_among (taken_numbers c.journal) number) refl
    where
      from : (b : Bool) → is_among (taken_numbers c.journal) number ≡ b → IsStillLeft c number e ⊎ WasTakenOnce c number
      from true is = inr (was_taken is)
      from false lacks = inl (still_left lacks)
