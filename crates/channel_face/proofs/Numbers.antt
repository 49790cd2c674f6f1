-- Numbers among taken ones and among items, how often each stands there, and rising numbers.
use Rattle.std.proofs.Common.{◌⊎◌, inl, inr, ◌≡◌, ◌≢◌, ◌<◌, ◌≤◌, ◌+◌, ◌++◌, ◌∷◌, [], ℕ, zero, suc, List, length, map, Contains, Bool, true, false, ◌==◌, ◌||◌, cond, refl, sym, ◌∙◌, ap, subst, append_assoc, arith, get_or}
use Rattle.std.proofs.lemmas.Bool.Decides.{eqb_tells}
use Rattle.std.specs.List.{AllByRecursion, slice_index}
use Rattle.std.specs.List.Sorted.{IsStrictlyIncreasing}
use Rattle.event_core.specs.Content.{Content}
use Rattle.event_core.specs.Journal.{Base, IsBase, AreDistinctOf, put_events, taken_numbers, without, is_among, numbered, left, next}
use Rattle.event_core.specs.declared.journal.Entry.{Entry}
use Rattle.event_core.specs.declared.journal.Entry.TheVariants.{Puts, Takes}
use Rattle.channel_face.specs.Sound.{Items, one_if, times, number_of, Rising}

-- equal numbers count as one
pub same_number : (a b : ℕ) → a ≡ b → one_if (a == b) ≡ 1
same_number a b same = from (eqb_tells a b)
  where
    from : ((a == b) ≡ true) × (a ≡ b) ⊎ ((a == b) ≡ false) × (a ≢ b) → one_if (a == b) ≡ 1
    from (inl is) = ap one_if is.0
    from (inr isnt) = absurd (isnt.1 same)

-- different numbers count as none
pub other_number : (a b : ℕ) → a ≢ b → one_if (a == b) ≡ 0
other_number a b other = from (eqb_tells a b)
  where
    from : ((a == b) ≡ true) × (a ≡ b) ⊎ ((a == b) ≡ false) × (a ≢ b) → one_if (a == b) ≡ 0
    from (inl is) = absurd (other is.1)
    from (inr isnt) = ap one_if isnt.0

-- how often a number stands in two lists
pub times-append : (n : ℕ) (xs ys : List ℕ) → times n (xs ++ ys) ≡ times n xs + times n ys
times-append n [] ys = omega arith
times-append n (x ∷ xs) ys = omega (arith, times-append n xs ys)

-- how many items of two lists have a number
pub number_of-append : (n : ℕ) (xs ys : Items) → number_of n (xs ++ ys) ≡ number_of n xs + number_of n ys
number_of-append n [] ys = omega arith
number_of-append n (x ∷ xs) ys = omega (arith, number_of-append n xs ys)

-- a number is either found in a list and counted, or neither
pub among_times : (n : ℕ) (xs : List ℕ) → ((is_among xs n ≡ true) × (1 ≤ times n xs)) ⊎ ((is_among xs n ≡ false) × (times n xs ≡ 0))
among_times n [] = inr (refl, refl)
among_times n (x ∷ xs) = from (x == n) refl (among_times n xs)
  where
    from : (b : Bool) → (x == n) ≡ b → ((is_among xs n ≡ true) × (1 ≤ times n xs)) ⊎ ((is_among xs n ≡ false) × (times n xs ≡ 0))
        → ((((x == n) || is_among xs n) ≡ true) × (1 ≤ one_if (x == n) + times n xs)) ⊎ ((((x == n) || is_among xs n) ≡ false) × (one_if (x == n) + times n xs ≡ 0))
    from true is rest = inl (rw is refl, rw is (omega arith))
    from false is (inl more) = inl (rw is more.0, rw is (omega (arith, more.1)))
    from false is (inr none) = inr (rw is none.0, rw is (omega (arith, none.1)))

-- without some numbers: none of those is left, and the others are counted as before
pub number_of-without : (n : ℕ) (xs : List ℕ) (items : Items) → number_of n (without xs items) ≡ cond (is_among xs n) 0 (number_of n items)
number_of-without n xs [] = from (is_among xs n)
  where
    from : (b : Bool) → number_of n [] ≡ cond b 0 (number_of n [])
    from true = refl
    from false = refl
number_of-without n xs (item ∷ items) = by_test (is_among xs item.0) refl (eqb_tells item.0 n) (number_of-without n xs items)
  where
    kept : (t : Bool) (a b : ℕ) → a ≡ cond t 0 b → t ≡ false → 1 + a ≡ cond t 0 (1 + b)
    kept true a b is no_t = absurd (cc)
    kept false a b is no_t = ap (λ (k : ℕ). 1 + k) is

    none : (t : Bool) (a b : ℕ) → a ≡ cond t 0 b → 0 + a ≡ cond t 0 (0 + b)
    none true a b is = omega (arith, is)
    none false a b is = omega (arith, is)

    gone : (t : Bool) (a b c : ℕ) → a ≡ cond t 0 b → t ≡ true → a ≡ cond t 0 c
    gone true a b c is yes_t = is
    gone false a b c is yes_t = absurd (cc)

    none_more : (t : Bool) (a b : ℕ) → a ≡ cond t 0 b → a ≡ cond t 0 (0 + b)
    none_more true a b is = is
    none_more false a b is = omega (arith, is)

    by_test : (t : Bool) → is_among xs item.0 ≡ t → ((item.0 == n) ≡ true) × (item.0 ≡ n) ⊎ ((item.0 == n) ≡ false) × (item.0 ≢ n) → number_of n (without xs items) ≡ cond (is_among xs n) 0 (number_of n items)
        → number_of n (cond (is_among xs item.0) (without xs items) (item ∷ without xs items)) ≡ cond (is_among xs n) 0 (one_if (item.0 == n) + number_of n items)
    by_test true is (inl here) so = rw (is, here.0) (gone (is_among xs n) (number_of n (without xs items)) (number_of n items) (1 + number_of n items) so (ap (is_among xs) (sym here.1) ∙ is))
    by_test true is (inr there) so = rw (is, there.0) (none_more (is_among xs n) (number_of n (without xs items)) (number_of n items) so)
    by_test false is (inl here) so = rw (is, here.0) (kept (is_among xs n) (number_of n (without xs items)) (number_of n items) so (ap (is_among xs) (sym here.1) ∙ is))
    by_test false is (inr there) so = rw (is, there.0) (none (is_among xs n) (number_of n (without xs items)) (number_of n items) so)

-- numbers that rise from here rise from below too
pub rising_from : (low low' : ℕ) (items : Items) (first : ℕ) → low' ≤ low → Rising low items first → Rising low' items first
rising_from low low' [] first less rising = omega (arith, less, rising)
rising_from low low' (item ∷ items) first less rising = (omega (arith, less, rising.0), rising.1)

-- the lower bound of rising numbers is not above the upper one
pub rising_within : (low : ℕ) (items : Items) (first : ℕ) → Rising low items first → low ≤ first
rising_within low [] first rising = rising
rising_within low (item ∷ items) first rising = omega (arith, rising.0, rising_within (item.0 + 1) items first rising.1)

-- rising numbers, and behind them higher ones that rise
pub rising-append : (low : ℕ) (items more : Items) (first next : ℕ) → Rising low items first → Rising first more next → Rising low (items ++ more) next
rising-append low [] more first next rising later = rising_from first low more next rising later
rising-append low (item ∷ items) more first next rising later = (rising.0, rising-append (item.0 + 1) items more first next rising.1 later)

-- events that are numbered one after another rise
pub rising-numbered : (first : ℕ) (events : List Content) → Rising first (numbered first events) (first + length events)
rising-numbered first [] = omega arith
rising-numbered first (event ∷ events) =
    let further : first + 1 + length events ≡ first + length (event ∷ events) = omega arith in
    (omega arith, subst (λ (n : ℕ). Rising (first + 1) (numbered (first + 1) events) n) further (rising-numbered (first + 1) events))

-- numbers still rise where some are taken out
pub rising-without : (low : ℕ) (xs : List ℕ) (items : Items) (first : ℕ) → Rising low items first → Rising low (without xs items) first
rising-without low xs [] first rising = rising
rising-without low xs (item ∷ items) first rising = by_test (is_among xs item.0) (rising-without (item.0 + 1) xs items first rising.1)
  where
    by_test : (t : Bool) → Rising (item.0 + 1) (without xs items) first → Rising low (cond t (without xs items) (item ∷ without xs items)) first
    by_test true so = rising_from (item.0 + 1) low (without xs items) first (omega (arith, rising.0)) so
    by_test false so = (rising.0, so)

-- what a journal leaves of a base still rises
pub rising-left : (base : Base) (journal : List Entry) → Rising 0 base.items base.first → Rising 0 (left base journal) (next base journal)
rising-left base journal rising =
    rising-without 0 (taken_numbers journal) (base.items ++ numbered base.first (put_events journal)) (next base journal)
    (rising-append 0 base.items (numbered base.first (put_events journal)) base.first (next base journal) rising (rising-numbered base.first (put_events journal)))

-- numbers that rise have none below the first bound
pub number_low : (n low : ℕ) (items : Items) (first : ℕ) → Rising low items first → n < low → number_of n items ≡ 0
number_low n low [] first rising less = refl
number_low n low (item ∷ items) first rising less =
    let other : item.0 ≢ n = omega (arith, rising.0, less) in
    let rest : number_of n items ≡ 0 = number_low n (item.0 + 1) items first rising.1 (omega (arith, rising.0, less)) in
    omega (arith, other_number item.0 n other, rest)

-- numbers that rise have none from the second bound on
pub number_high : (n low : ℕ) (items : Items) (first : ℕ) → Rising low items first → first ≤ n → number_of n items ≡ 0
number_high n low [] first rising more = refl
number_high n low (item ∷ items) first rising more =
    let other : item.0 ≢ n = omega (arith, rising_within (item.0 + 1) items first rising.1, more) in
    omega (arith, other_number item.0 n other, number_high n (item.0 + 1) items first rising.1 more)

-- numbers that rise have each at most once
pub number_once : (n low : ℕ) (items : Items) (first : ℕ) → Rising low items first → number_of n items ≤ 1
number_once n low [] first rising = omega arith
number_once n low (item ∷ items) first rising = from (eqb_tells item.0 n) (number_once n (item.0 + 1) items first rising.1)
  where
    from : ((item.0 == n) ≡ true) × (item.0 ≡ n) ⊎ ((item.0 == n) ≡ false) × (item.0 ≢ n) → number_of n items ≤ 1 → one_if (item.0 == n) + number_of n items ≤ 1
    from (inl here) so = rw here.0 (omega (arith, number_low n (item.0 + 1) items first rising.1 (omega (arith, here.1))))
    from (inr there) so = rw there.0 (omega (arith, so))

-- from and to the words of a base

abbrev pub LowHead : ℕ → Items → Type 0
LowHead low [] = Unit {0}
LowHead low (item ∷ items) = low ≤ item.0

tail_increases : (item : ℕ × Content) (items : Items) → IsStrictlyIncreasing (map (λ item. item.0) (item ∷ items)) → IsStrictlyIncreasing (map (λ item. item.0) items)
tail_increases item items increasing k in_range =
    let further : suc k + 1 ≡ suc (k + 1) = omega arith in
    let numbers : List ℕ = map (λ (item : ℕ × Content). item.0) (item ∷ items) in
    subst (λ (i : ℕ). slice_index numbers (suc k) < slice_index numbers i) further (increasing (suc k) (omega (arith, in_range)))

more_increases : (item : ℕ × Content) (items : Items) → LowHead (item.0 + 1) items → IsStrictlyIncreasing (map (λ item. item.0) items) → IsStrictlyIncreasing (map (λ item. item.0) (item ∷ items))
more_increases item [] head increasing k in_range = absurd (omega (arith, in_range))
more_increases item (second ∷ items) head increasing zero in_range = omega (arith, head)
more_increases item (second ∷ items) head increasing (suc k) in_range =
    let further : suc (k + 1) ≡ suc k + 1 = omega arith in
    let numbers : List ℕ = map (λ (item : ℕ × Content). item.0) (item ∷ second ∷ items) in
    subst (λ (i : ℕ). slice_index numbers (suc k) < slice_index numbers i) further (increasing k (omega (arith, in_range)))

to_rising : (low : ℕ) (items : Items) (first : ℕ) → low ≤ first → LowHead low items → IsStrictlyIncreasing (map (λ item. item.0) items) → AllByRecursion (λ item. item.0 < first) items → Rising low items first
to_rising low [] first less head increasing below = less
to_rising low (item ∷ items) first less head increasing below =
    (head, to_rising (item.0 + 1) items first (omega (arith, below.0)) (low_head items increasing) (tail_increases item items increasing) below.1)
  where
    low_head : (items : Items) → IsStrictlyIncreasing (map (λ item. item.0) (item ∷ items)) → LowHead (item.0 + 1) items
    low_head [] increasing = tt
    low_head (second ∷ items) increasing = let step : item.0 < second.0 = increasing 0 (omega arith) in omega (arith, step)

-- the items of a base rise
pub rising_base : (base : Base) → IsBase base → Rising 0 base.items base.first
rising_base base is = to_rising 0 base.items base.first (omega arith) (low_head base.items) is.rising is.below
  where
    low_head : (items : Items) → LowHead 0 items
    low_head [] = tt
    low_head (item ∷ items) = omega arith

all_below : (low : ℕ) (items : Items) (first : ℕ) → Rising low items first → AllByRecursion (λ item. item.0 < first) items
all_below low [] first rising = tt
all_below low (item ∷ items) first rising = (omega (arith, rising_within (item.0 + 1) items first rising.1), all_below (item.0 + 1) items first rising.1)

increases : (low : ℕ) (items : Items) (first : ℕ) → Rising low items first → IsStrictlyIncreasing (map (λ item. item.0) items)
increases low [] first rising = λ k in_range. absurd (omega (arith, in_range))
increases low (item ∷ items) first rising = more_increases item items (low_head items rising.1) (increases (item.0 + 1) items first rising.1)
  where
    low_head : (items : Items) → Rising (item.0 + 1) items first → LowHead (item.0 + 1) items
    low_head [] rising = tt
    low_head (second ∷ items) rising = rising.0

-- where its items rise, it is a base
pub base_rising : (base : Base) → Rising 0 base.items base.first → IsBase base
base_rising base rising = record { rising = increases 0 base.items base.first rising; below = all_below 0 base.items base.first rising }

-- what is left without some numbers

-- numbers are taken out of two lists one by one
pub without-append : (xs : List ℕ) (a b : Items) → without xs (a ++ b) ≡ without xs a ++ without xs b
without-append xs [] b = refl
without-append xs (item ∷ a) b = by_test (is_among xs item.0) (without-append xs a b)
  where
    by_test : (t : Bool) → without xs (a ++ b) ≡ without xs a ++ without xs b
        → cond t (without xs (a ++ b)) (item ∷ without xs (a ++ b)) ≡ cond t (without xs a) (item ∷ without xs a) ++ without xs b
    by_test true so = so
    by_test false so = ap (λ (l : Items). item ∷ l) so

-- a number is among two lists where it is among one of them
pub or_among : (xs ys : List ℕ) (n : ℕ) → is_among (xs ++ ys) n ≡ (is_among xs n || is_among ys n)
or_among [] ys n = refl
or_among (x ∷ xs) ys n = ap (λ (t : Bool). (x == n) || t) (or_among xs ys n) ∙ sym (or_assoc (x == n) (is_among xs n) (is_among ys n))
  where
    or_assoc : (a b c : Bool) → ((a || b) || c) ≡ (a || (b || c))
    or_assoc true b c = refl
    or_assoc false b c = refl

-- two lists of numbers are taken out one after the other
pub without-both : (xs ys : List ℕ) (items : Items) → without (xs ++ ys) items ≡ without ys (without xs items)
without-both xs ys [] = refl
without-both xs ys (item ∷ items) = by_test (is_among xs item.0) (is_among ys item.0) refl (or_among xs ys item.0) (without-both xs ys items)
  where
    by_test : (t u : Bool) → is_among ys item.0 ≡ u → is_among (xs ++ ys) item.0 ≡ (t || u) → without (xs ++ ys) items ≡ without ys (without xs items)
        → cond (is_among (xs ++ ys) item.0) (without (xs ++ ys) items) (item ∷ without (xs ++ ys) items) ≡ without ys (cond t (without xs items) (item ∷ without xs items))
    by_test true u is both so = rw both so
    by_test false true is both so = rw (both, is) so
    by_test false false is both so = rw (both, is) (ap (λ (l : Items). item ∷ l) so)

-- where no numbers are taken out, all items are left
pub without_none : (items : Items) → without [] items ≡ items
without_none [] = refl
without_none (item ∷ items) = ap (λ (l : Items). item ∷ l) (without_none items)

-- numbers that are all lower are no numbers of new events, so all of those are left
pub without_above : (xs : List ℕ) (first : ℕ) (events : List Content) → ((n : ℕ) → first ≤ n → times n xs ≡ 0) → without xs (numbered first events) ≡ numbered first events
without_above xs first [] none = refl
without_above xs first (event ∷ events) none = by_test (among_times first xs) (without_above xs (first + 1) events (λ n more. none n (omega (arith, more))))
  where
    by_test : ((is_among xs first ≡ true) × (1 ≤ times first xs)) ⊎ ((is_among xs first ≡ false) × (times first xs ≡ 0)) → without xs (numbered (first + 1) events) ≡ numbered (first + 1) events
        → cond (is_among xs first) (without xs (numbered (first + 1) events)) ((first, event) ∷ without xs (numbered (first + 1) events)) ≡ (first, event) ∷ numbered (first + 1) events
    by_test (inl is) so = absurd (omega (arith, is.1, none first (omega arith)))
    by_test (inr is) so = rw is.0 (ap (λ (l : Items). (first, event) ∷ l) so)

-- two lists of events are numbered one behind the other
pub numbered-append : (first : ℕ) (a b : List Content) → numbered first (a ++ b) ≡ numbered first a ++ numbered (first + length a) b
numbered-append first [] b = ap (λ (n : ℕ). numbered n b) (omega arith)
numbered-append first (e ∷ a) b =
    ap (λ (l : Items). (first, e) ∷ l) (numbered-append (first + 1) a b ∙ ap (λ (n : ℕ). numbered (first + 1) a ++ numbered n b) (omega arith))

-- what two journals put, in order
pub put_events-append : (a b : List Entry) → put_events (a ++ b) ≡ put_events a ++ put_events b
put_events-append [] b = refl
put_events-append (Puts events ∷ a) b = ap (λ (l : List Content). events ++ l) (put_events-append a b) ∙ sym (append_assoc events (put_events a) (put_events b))
put_events-append (Takes numbers ∷ a) b = put_events-append a b

-- the numbers that two journals take, in order
pub taken_numbers-append : (a b : List Entry) → taken_numbers (a ++ b) ≡ taken_numbers a ++ taken_numbers b
taken_numbers-append [] b = refl
taken_numbers-append (Puts events ∷ a) b = taken_numbers-append a b
taken_numbers-append (Takes numbers ∷ a) b = ap (λ (l : List ℕ). numbers ++ l) (taken_numbers-append a b) ∙ sym (append_assoc numbers (taken_numbers a) (taken_numbers b))

-- numbers that different items have

contains_number : (n : ℕ) (items : Items) → 1 ≤ number_of n items → (event : Content) × Contains items (n, event)
contains_number n [] some = absurd (omega (arith, some))
contains_number n (item ∷ items) some = by_test (eqb_tells item.0 n) (contains_number n items)
  where
    by_test : ((item.0 == n) ≡ true) × (item.0 ≡ n) ⊎ ((item.0 == n) ≡ false) × (item.0 ≢ n) → (1 ≤ number_of n items → (event : Content) × Contains items (n, event)) → (event : Content) × Contains (item ∷ items) (n, event)
    by_test (inl here) more = (item.1, (0, omega arith, ap (λ (m : ℕ). (m, item.1)) here.1))
    by_test (inr there) more =
        let rest = more (omega (arith, some, other_number item.0 n there.1)) in
        (rest.0, (suc rest.1.0, omega (arith, rest.1.1), rest.1.2))

number_contained : (n : ℕ) (event : Content) (k : ℕ) (items : Items) → k < length items → get_or items k (n, event) ≡ (n, event) → 1 ≤ number_of n items
number_contained n event k [] in_range is = absurd (omega (arith, in_range))
number_contained n event zero (item ∷ items) in_range is = omega (arith, same_number item.0 n (ap (λ (p : ℕ × Content). p.0) is))
number_contained n event (suc k) (item ∷ items) in_range is = omega (arith, number_contained n event k items (omega (arith, in_range)) is)

-- without one number there are no items of that number, and as many of each other one
number_of-without_one : (x n : ℕ) (items : Items) → ((x ≡ n) × (one_if (x == n) ≡ 1) × (number_of n (without (x ∷ []) items) ≡ 0)) ⊎ ((one_if (x == n) ≡ 0) × (number_of n (without (x ∷ []) items) ≡ number_of n items))
number_of-without_one x n items = from (eqb_tells x n)
  where
    from : ((x == n) ≡ true) × (x ≡ n) ⊎ ((x == n) ≡ false) × (x ≢ n) → ((x ≡ n) × (one_if (x == n) ≡ 1) × (number_of n (without (x ∷ []) items) ≡ 0)) ⊎ ((one_if (x == n) ≡ 0) × (number_of n (without (x ∷ []) items) ≡ number_of n items))
    from (inl is) = inl (is.1, same_number x n is.1, number_of-without n (x ∷ []) items ∙ ap (λ (t : Bool). cond (t || false) 0 (number_of n items)) is.0)
    from (inr isnt) = inr (other_number x n isnt.1, number_of-without n (x ∷ []) items ∙ ap (λ (t : Bool). cond (t || false) 0 (number_of n items)) isnt.0)

-- takes that hold no item more often than it is there are of different items
pub distinct : (xs : List ℕ) (low : ℕ) (items : Items) (first : ℕ) → Rising low items first → ((n : ℕ) → times n xs ≤ number_of n items) → AreDistinctOf items xs
distinct [] low items first rising fits = tt
distinct (x ∷ xs) low items first rising fits = (
  contains_number x items (omega (arith, fits x, same_number x x refl)),
  distinct xs low (without (x ∷ []) items) first (rising-without low (x ∷ []) items first rising) (λ n. rest n (number_of-without_one x n items)),
)
  where
    rest : (n : ℕ) → ((x ≡ n) × (one_if (x == n) ≡ 1) × (number_of n (without (x ∷ []) items) ≡ 0)) ⊎ ((one_if (x == n) ≡ 0) × (number_of n (without (x ∷ []) items) ≡ number_of n items)) → times n xs ≤ number_of n (without (x ∷ []) items)
    rest n (inl here) = omega (arith, fits n, here.1, number_once n low items first rising)
    rest n (inr there) = omega (arith, fits n, there.0, there.1)

-- takes of different items hold no item more often than it is there
pub distinct_times : (xs : List ℕ) (low : ℕ) (items : Items) (first : ℕ) → Rising low items first → AreDistinctOf items xs → (n : ℕ) → times n xs ≤ number_of n items
distinct_times [] low items first rising are n = omega arith
distinct_times (x ∷ xs) low items first rising are n = from (number_of-without_one x n items) (distinct_times xs low (without (x ∷ []) items) first (rising-without low (x ∷ []) items first rising) are.1 n)
  where
    from : ((x ≡ n) × (one_if (x == n) ≡ 1) × (number_of n (without (x ∷ []) items) ≡ 0)) ⊎ ((one_if (x == n) ≡ 0) × (number_of n (without (x ∷ []) items) ≡ number_of n items)) → times n xs ≤ number_of n (without (x ∷ []) items) → one_if (x == n) + times n xs ≤ number_of n items
    from (inl here) so =
        let some : 1 ≤ number_of x items = number_contained x are.0.0 are.0.1.0 items are.0.1.1 are.0.1.2 in
        let same : number_of x items ≡ number_of n items = ap (λ (m : ℕ). number_of m items) here.0 in
        omega (arith, here.1, here.2, so, some, same)
    from (inr there) so = omega (arith, there.0, there.1, so)
