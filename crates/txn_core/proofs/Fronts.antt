-- The items before a place that a transaction took each.
use Rattle.std.proofs.Common.{◌⊎◌, inl, inr, ◌≡◌, ◌==◌, ◌<◌, ◌≤◌, ◌+◌, ◌++◌, ◌∷◌, [], ℕ, zero, suc, List, length, take, drop, slice_get, slice_set, Some, Bool, true, false, ◌||◌, cond, refl, sym, ◌∙◌, ap, subst, arith}
use Rattle.event_core.specs.Content.{Content}
use Rattle.event_core.specs.Journal.{taken_numbers, without, is_among}
use Rattle.event_core.specs.declared.journal.Entry.{Entry}
use Rattle.event_core.specs.declared.journal.Entry.TheVariants.{Puts, Takes}
use Rattle.channel_face.specs.Machine.{entries}
use Rattle.txn_core.specs.Sound.{AreHeld, held_numbers, size_of_entry, takes_in}
use Rattle.txn_core.proofs.Taken.{Opened, among_entry, drop_at}
use Rattle.channel_face.proofs.Numbers.{or_among}

-- these numbers are among those
abbrev pub Covers : List ℕ → List ℕ → Type 0
Covers more fewer = (n : ℕ) → is_among fewer n ≡ true → is_among more n ≡ true

none_left : (x y : Bool) (item : ℕ × Content) (xs ys : List (ℕ × Content)) → (x ≡ true → y ≡ true) → (xs ≡ [] → ys ≡ []) → cond x xs (item ∷ xs) ≡ [] → cond y ys (item ∷ ys) ≡ []
none_left true true item xs ys f g none = g none
none_left true false item xs ys f g none = let no : false ≡ true = f refl in absurd (cc)
none_left false y item xs ys f g none = absurd (cc)

covered : (more fewer : List ℕ) → Covers more fewer → (items : List (ℕ × Content)) → without fewer items ≡ [] → without more items ≡ []
covered more fewer covers [] none = refl
covered more fewer covers (item ∷ items) none = none_left (is_among fewer item.0) (is_among more item.0) item (without fewer items) (without more items) (covers item.0) (covered more fewer covers items) none

or_both : (a b a' b' : Bool) → (a ≡ true → a' ≡ true) → (b ≡ true → b' ≡ true) → (a || b) ≡ true → (a' || b') ≡ true
or_both true b a' b' f g is = rw (f refl) refl
or_both false b true b' f g is = refl
or_both false b false b' f g is = g is

or_either : (a b c : Bool) → ((a || b) || c) ≡ true → (b || (c || a)) ≡ true
or_either true true c is = refl
or_either true false true is = refl
or_either true false false is = refl
or_either false true c is = refl
or_either false false true is = refl
or_either false false false is = absurd (cc)

or_past : (a b x r : Bool) → (b ≡ true → (a || r) ≡ true) → (x || b) ≡ true → (a || (x || r)) ≡ true
or_past true b x r f is = refl
or_past false b true r f is = refl
or_past false b false r f is = f is

-- where these are among those of the open ones
held_still : (opened opened' : Opened) (staged : List Entry) (items : List (ℕ × Content)) → Covers (taken_numbers (entries opened')) (taken_numbers (entries opened)) → AreHeld opened staged items → AreHeld opened' staged items
held_still opened opened' staged items covers held = covered (held_numbers opened' staged) (held_numbers opened staged) both items held
  where
    both : Covers (held_numbers opened' staged) (held_numbers opened staged)
    both n is = or_among (taken_numbers (entries opened')) (taken_numbers staged) n
        ∙ or_both (is_among (taken_numbers (entries opened)) n) (is_among (taken_numbers staged) n) (is_among (taken_numbers (entries opened')) n) (is_among (taken_numbers staged) n) (covers n) (λ h. h) (sym (or_among (taken_numbers (entries opened)) (taken_numbers staged) n) ∙ is)

last_more : (opened : Opened) (b : ℕ × Entry) → Covers (taken_numbers (entries (opened ++ b ∷ []))) (taken_numbers (entries opened))
last_more [] b n is = absurd (cc)
last_more (o ∷ opened) b n is = among_entry o.1 (entries (opened ++ b ∷ [])) n
    ∙ or_both (is_among (takes_in o.1) n) (is_among (taken_numbers (entries opened)) n) (is_among (takes_in o.1) n) (is_among (taken_numbers (entries (opened ++ b ∷ []))) n) (λ h. h) (last_more opened b n) (sym (among_entry o.1 (entries opened) n) ∙ is)

-- a transaction begins
pub held_begun : (opened : Opened) (b : ℕ × Entry) (staged : List Entry) (items : List (ℕ × Content)) → AreHeld opened staged items → AreHeld (opened ++ b ∷ []) staged items
held_begun opened b staged items = held_still opened (opened ++ b ∷ []) staged items (last_more opened b)

set_more : (es : Opened) (place : ℕ) (o o' : ℕ × Entry) → slice_get es place ≡ Some o → Covers (takes_in o'.1) (takes_in o.1) → Covers (taken_numbers (entries (slice_set es place o'))) (taken_numbers (entries es))
set_more [] place o o' is covers n among = absurd (cc)
set_more (x ∷ es) zero o o' is covers n among =
    let same : x ≡ o = cc in
    among_entry o'.1 (entries es) n
    ∙ or_both (is_among (takes_in x.1) n) (is_among (taken_numbers (entries es)) n) (is_among (takes_in o'.1) n) (is_among (taken_numbers (entries es)) n) (λ h. covers n (ap (λ (y : ℕ × Entry). is_among (takes_in y.1) n) (sym same) ∙ h)) (λ h. h) (sym (among_entry x.1 (entries es) n) ∙ among)
set_more (x ∷ es) (suc place) o o' is covers n among =
    among_entry x.1 (entries (slice_set es place o')) n
    ∙ or_both (is_among (takes_in x.1) n) (is_among (taken_numbers (entries es)) n) (is_among (takes_in x.1) n) (is_among (taken_numbers (entries (slice_set es place o'))) n) (λ h. h) (set_more es place o o' is covers n) (sym (among_entry x.1 (entries es) n) ∙ among)

-- a transaction changes that then takes what it took, and maybe more
pub held_set : (es : Opened) (place : ℕ) (o o' : ℕ × Entry) (staged : List Entry) (items : List (ℕ × Content)) → slice_get es place ≡ Some o → Covers (takes_in o'.1) (takes_in o.1) → AreHeld es staged items → AreHeld (slice_set es place o') staged items
held_set es place o o' staged items is covers = held_still es (slice_set es place o') staged items (set_more es place o o' is covers)

removed : (es : Opened) (place : ℕ) (o : ℕ × Entry) (n : ℕ) → slice_get es place ≡ Some o → is_among (taken_numbers (entries es)) n ≡ true → (is_among (takes_in o.1) n || is_among (taken_numbers (entries (take place es ++ drop (place + 1) es))) n) ≡ true
removed [] place o n is among = absurd (cc)
removed (x ∷ es) zero o n is among = let same : x ≡ o = cc in ap (λ (y : ℕ × Entry). is_among (takes_in y.1) n || is_among (taken_numbers (entries es)) n) (sym same) ∙ sym (among_entry x.1 (entries es) n) ∙ among
removed (x ∷ es) (suc place) o n is among =
    let rest : Opened = take place es ++ drop (place + 1) es in
    let further : suc (place + 1) ≡ suc place + 1 = omega arith in
    let here : (x ∷ rest) ≡ take (suc place) (x ∷ es) ++ drop (suc place + 1) (x ∷ es) = ap (λ (i : ℕ). x ∷ (take place es ++ drop i (x ∷ es))) further in
    subst (λ (l : Opened). (is_among (takes_in o.1) n || is_among (taken_numbers (entries l)) n) ≡ true) here
    (ap (λ (b : Bool). is_among (takes_in o.1) n || b) (among_entry x.1 (entries rest) n)
    ∙ or_past (is_among (takes_in o.1) n) (is_among (taken_numbers (entries es)) n) (is_among (takes_in x.1) n) (is_among (taken_numbers (entries rest)) n) (removed es place o n is) (sym (among_entry x.1 (entries es) n) ∙ among))

no_takes : (e : Entry) → size_of_entry e ≡ 0 → takes_in e ≡ []
no_takes (Puts events) none = refl
no_takes (Takes []) none = refl
no_takes (Takes (n ∷ numbers)) none = absurd (omega (arith, none))

-- a transaction ends that did nothing
pub held_ended : (es : Opened) (place : ℕ) (o : ℕ × Entry) (staged : List Entry) (items : List (ℕ × Content)) → slice_get es place ≡ Some o → size_of_entry o.1 ≡ 0 → AreHeld es staged items → AreHeld (take place es ++ drop (place + 1) es) staged items
held_ended es place o staged items is none = held_still es (take place es ++ drop (place + 1) es) staged items
    (λ n among. ap (λ (l : List ℕ). is_among l n || is_among (taken_numbers (entries (take place es ++ drop (place + 1) es))) n) (sym (no_takes o.1 none)) ∙ removed es place o n is among)

last_staged : (staged : List Entry) (e : Entry) (n : ℕ) → is_among (taken_numbers (staged ++ e ∷ [])) n ≡ (is_among (taken_numbers staged) n || is_among (takes_in e) n)
last_staged [] e n = among_entry e [] n ∙ or_none (is_among (takes_in e) n)
  where
    or_none : (b : Bool) → (b || false) ≡ b
    or_none true = refl
    or_none false = refl
last_staged (x ∷ staged) e n =
    among_entry x (staged ++ e ∷ []) n ∙ (ap (λ (b : Bool). is_among (takes_in x) n || b) (last_staged staged e n)
    ∙ (sym (assoc (is_among (takes_in x) n) (is_among (taken_numbers staged) n) (is_among (takes_in e) n)) ∙ ap (λ (b : Bool). b || is_among (takes_in e) n) (sym (among_entry x staged n))))
  where
    assoc : (a b c : Bool) → ((a || b) || c) ≡ (a || (b || c))
    assoc true b c = refl
    assoc false b c = refl

-- it is staged
pub held_staged : (es : Opened) (place : ℕ) (o : ℕ × Entry) (staged : List Entry) (items : List (ℕ × Content)) → slice_get es place ≡ Some o → AreHeld es staged items → AreHeld (take place es ++ drop (place + 1) es) (staged ++ o.1 ∷ []) items
held_staged es place o staged items is = covered (held_numbers rest (staged ++ o.1 ∷ [])) (held_numbers es staged) all items
  where
    rest : Opened
    rest = take place es ++ drop (place + 1) es

    all : Covers (held_numbers rest (staged ++ o.1 ∷ [])) (held_numbers es staged)
    all n among =
        or_among (taken_numbers (entries rest)) (taken_numbers (staged ++ o.1 ∷ [])) n
        ∙ (ap (λ (b : Bool). is_among (taken_numbers (entries rest)) n || b) (last_staged staged o.1 n)
        ∙ or_either (is_among (takes_in o.1) n) (is_among (taken_numbers (entries rest)) n) (is_among (taken_numbers staged) n)
        (or_both (is_among (taken_numbers (entries es)) n) (is_among (taken_numbers staged) n) (is_among (takes_in o.1) n || is_among (taken_numbers (entries rest)) n) (is_among (taken_numbers staged) n) (removed es place o n is) (λ h. h) (sym (or_among (taken_numbers (entries es)) (taken_numbers staged) n) ∙ among)))

-- more of its numbers
pub covers_more : (numbers : List ℕ) (taken : ℕ) → Covers (numbers ++ taken ∷ []) numbers
covers_more [] taken n is = absurd (cc)
covers_more (x ∷ numbers) taken n is = or_both (x == n) (is_among numbers n) (x == n) (is_among (numbers ++ taken ∷ []) n) (λ h. h) (covers_more numbers taken n) is

-- one more item that is taken
pub held_next : (numbers : List ℕ) (items : List (ℕ × Content)) (place : ℕ) (item : ℕ × Content) → slice_get items place ≡ Some item → is_among numbers item.0 ≡ true → without numbers (take place items) ≡ [] → without numbers (take (place + 1) items) ≡ []
held_next numbers [] place item is among none = absurd (cc)
held_next numbers (x ∷ items) zero item is among none = let same : x ≡ item = cc in rw (same, among) refl
held_next numbers (x ∷ items) (suc place) item is among none =
    let further : suc (place + 1) ≡ suc place + 1 = omega arith in
    subst (λ (i : ℕ). without numbers (take i (x ∷ items)) ≡ []) further
    (none_left (is_among numbers x.0) (is_among numbers x.0) x (without numbers (take place items)) (without numbers (take (place + 1) items)) (λ h. h) (held_next numbers items place item is among) none)

-- no item stands at the end of the list
pub none_beyond : (items : List (ℕ × Content)) (item : ℕ × Content) → slice_get items (length items) ≡ Some item → ⊥
none_beyond [] item is = absurd (cc)
none_beyond (x ∷ items) item is = none_beyond items item is

-- an item stands at each place before the end
pub is_there : (items : List (ℕ × Content)) (place : ℕ) → place < length items → (item : ℕ × Content) × (slice_get items place ≡ Some item)
is_there [] place lt = absurd (omega (arith, lt))
is_there (x ∷ items) zero lt = (x, refl)
is_there (x ∷ items) (suc place) lt = is_there items place (omega (arith, lt))

next_left : (b : Bool) (x : ℕ × Content) (xs ys zs : List (ℕ × Content)) → cond b xs (x ∷ xs) ≡ [] → (xs ≡ [] → ys ≡ zs) → cond b ys (x ∷ ys) ≡ zs
next_left true x xs ys zs none f = f none
next_left false x xs ys zs none f = absurd (cc)

-- where the items before a place are taken, what is left is left from there on
pub left_from : (numbers : List ℕ) (items : List (ℕ × Content)) (place : ℕ) → without numbers (take place items) ≡ [] → without numbers items ≡ without numbers (drop place items)
left_from numbers items zero none = refl
left_from numbers [] (suc place) none = refl
left_from numbers (x ∷ items) (suc place) none =
    next_left (is_among numbers x.0) x (without numbers (take place items)) (without numbers items) (without numbers (drop place items)) none (left_from numbers items place)

or_split : (a b : Bool) → (a || b) ≡ true → (a ≡ true) ⊎ (b ≡ true)
or_split true b is = inl refl
or_split false b is = inr is

-- the takes of one more transaction are not above it
pub none_above : (es : Opened) (place most most' : ℕ) (o : ℕ × Entry) → slice_get es place ≡ Some o → most ≤ most' → ((n : ℕ) → is_among (takes_in o.1) n ≡ true → n ≤ most')
    → (n : ℕ) → (n ≤ most) ⊎ (is_among (taken_numbers (entries (drop place es))) n ≡ true) → (n ≤ most') ⊎ (is_among (taken_numbers (entries (drop (place + 1) es))) n ≡ true)
none_above es place most most' o is le here n (inl below) = inl (omega (arith, le, below))
none_above es place most most' o is le here n (inr among) = from (or_split (is_among (takes_in o.1) n) (is_among (taken_numbers (entries rest)) n) (sym (among_entry o.1 (entries rest) n) ∙ (ap (λ (l : Opened). is_among (taken_numbers (entries l)) n) (sym (drop_at es place o is)) ∙ among)))
  where
    rest : Opened
    rest = drop (place + 1) es

    from : (is_among (takes_in o.1) n ≡ true) ⊎ (is_among (taken_numbers (entries rest)) n ≡ true) → (n ≤ most') ⊎ (is_among (taken_numbers (entries rest)) n ≡ true)
    from (inl h) = inl (here n h)
    from (inr h) = inr h
