-- What the loops over a ring have done so far.
use Rattle.std.proofs.Common.{inl, inr, ◌≡◌, ◌<◌, ◌≤◌, ◌+◌, ◌++◌, ◌∷◌, [], ℕ, zero, suc, List, length, length-append, take, get_or, slice_get, Some, Bool, true, false, ◌==◌, ◌||◌, cond, refl, sym, ◌∙◌, ap, subst, append_assoc, arith}
use Rattle.std.proofs.lemmas.Bool.Decides.{eqb_tells}
use Rattle.std.proofs.lemmas.List.{append-nil, take_more}
use Rattle.std.specs.List.{AllByRecursion}
use Rattle.event_core.specs.Journal.{is_among}
use Rattle.record_form.specs.declared.record.Pointer.{Pointer}
use Rattle.event_ring.specs.Slots.{Index, IsLive, Left, lasting, marked}
use Rattle.ring_replay.specs.Indexing.{IsAppended, freed, lacking, placed}
use Rattle.channel_replay.specs.Start.{AreApart}
use Rattle.channel_replay.proofs.Keys.{Tells}
use Rattle.channel_replay.proofs.Numbers.{or_among}

-- one more of a list

-- what holds of a whole list holds at each place
pub all_at : {A : Type 0} (P : A → Type 0) (xs : List A) (k : ℕ) (x : A) → AllByRecursion P xs → slice_get xs k ≡ Some x → P x
all_at P [] k x all is = absurd (cc)
all_at P (y ∷ xs) zero x all is = (let same : y ≡ x = cc in subst P same all.0)
all_at P (y ∷ xs) (suc k) x all is = all_at P xs k x all.1 is

-- none is held

-- freeing no numbers changes nothing
pub freed_none : (live : List Left) → freed [] live ≡ live
freed_none [] = refl
freed_none (l ∷ live) = ap (λ (r : List Left). l ∷ r) (freed_none live)

-- one number more is freed
pub freed_more : (numbers : List ℕ) (n : ℕ) (live : List Left) → freed (numbers ++ n ∷ []) live ≡ marked n false (freed numbers live)
freed_more numbers n [] = refl
freed_more numbers n (l ∷ live) = rw (freed_more numbers n live, or_among numbers (n ∷ []) l.number) (by_test (is_among numbers l.number) (eqb_tells n l.number) (eqb_tells l.number n))
  where
    by_test : (b : Bool) → Tells n l.number → Tells l.number n
        → cond (b || ((n == l.number) || false)) (record l { held = false }) l ∷ marked n false (freed numbers live) ≡ cond ((cond b (record l { held = false }) l).number == n) (record (cond b (record l { held = false }) l) { held = false }) (cond b (record l { held = false }) l) ∷ marked n false (freed numbers live)
    by_test true (inl same) (inl back) = rw back.0 refl
    by_test true (inl same) (inr back) = absurd (back.1 (sym same.1))
    by_test true (inr other) (inl back) = absurd (other.1 (sym back.1))
    by_test true (inr other) (inr back) = rw back.0 refl
    by_test false (inl same) (inl back) = rw (same.0, back.0) refl
    by_test false (inl same) (inr back) = absurd (back.1 (sym same.1))
    by_test false (inr other) (inl back) = absurd (other.1 (sym back.1))
    by_test false (inr other) (inr back) = rw (other.0, back.0) refl

-- an event that is left stays so as others are freed
pub freed_live : (numbers : List ℕ) (n : ℕ) (live : List Left) → IsLive live n → IsLive (freed numbers live) n
freed_live numbers n [] is = is
freed_live numbers n (l ∷ live) (inl same) = inl (by_test (is_among numbers l.number) ∙ same)
  where
    by_test : (b : Bool) → (cond b (record l { held = false }) l).number ≡ l.number
    by_test true = refl
    by_test false = refl
freed_live numbers n (l ∷ live) (inr is) = inr (freed_live numbers n live is)

-- events that went

-- without numbers no event goes
pub lacking_none : (live : List Left) → lacking [] live ≡ live
lacking_none [] = refl
lacking_none (l ∷ live) = ap (λ (r : List Left). l ∷ r) (lacking_none live)

-- one number more, whose event goes
pub lacking_more : (numbers : List ℕ) (n : ℕ) (live : List Left) → lacking (numbers ++ n ∷ []) live ≡ lasting n (lacking numbers live)
lacking_more numbers n [] = refl
lacking_more numbers n (l ∷ live) = rw (lacking_more numbers n live, or_among numbers (n ∷ []) l.number) (by_test (is_among numbers l.number) (eqb_tells n l.number) (eqb_tells l.number n))
  where
    rest : List Left
    rest = lasting n (lacking numbers live)

    by_test : (b : Bool) → Tells n l.number → Tells l.number n → cond (b || ((n == l.number) || false)) rest (l ∷ rest) ≡ lasting n (cond b (lacking numbers live) (l ∷ lacking numbers live))
    by_test true one two = refl
    by_test false (inl same) (inl back) = rw (same.0, back.0) refl
    by_test false (inl same) (inr back) = absurd (back.1 (sym same.1))
    by_test false (inr other) (inl back) = absurd (other.1 (sym back.1))
    by_test false (inr other) (inr back) = rw (other.0, back.0) refl

-- an event whose number is not among those that go is still left
pub lacking_live : (numbers : List ℕ) (n : ℕ) (live : List Left) → is_among numbers n ≡ false → IsLive live n → IsLive (lacking numbers live) n
lacking_live numbers n [] isnt is = is
lacking_live numbers n (l ∷ live) isnt (inl same) = by_test (is_among numbers l.number) (ap (λ (m : ℕ). is_among numbers m) same ∙ isnt)
  where
    by_test : (b : Bool) → b ≡ false → IsLive (cond b (lacking numbers live) (l ∷ lacking numbers live)) n
    by_test true isnt' = absurd (cc)
    by_test false isnt' = inl same
lacking_live numbers n (l ∷ live) isnt (inr is) = by_test (is_among numbers l.number) (lacking_live numbers n live isnt is)
  where
    by_test : (b : Bool) → IsLive (lacking numbers live) n → IsLive (cond b (lacking numbers live) (l ∷ lacking numbers live)) n
    by_test true rest = rest
    by_test false rest = inr rest

-- a number is not among those before it
pub apart_before : (numbers : List ℕ) (k n : ℕ) → AreApart numbers → slice_get numbers k ≡ Some n → is_among (take k numbers) n ≡ false
apart_before [] zero n apart is = refl
apart_before [] (suc k) n apart is = refl
apart_before (x ∷ numbers) zero n apart is = refl
apart_before (x ∷ numbers) (suc k) n apart is = from (eqb_tells x n) (apart_before numbers k n apart.1 is)
  where
    there : (xs : List ℕ) (j m : ℕ) → slice_get xs j ≡ Some m → is_among xs m ≡ true
    there [] j m at = absurd (cc)
    there (y ∷ xs) zero m at = (let same : y ≡ m = cc in test (eqb_tells y m) same)
      where
        test : Tells y m → y ≡ m → ((y == m) || is_among xs m) ≡ true
        test (inl yes') same = rw yes'.0 refl
        test (inr other) same = absurd (other.1 same)
    there (y ∷ xs) (suc j) m at = or (y == m) (there xs j m at)
      where
        or : (b : Bool) → is_among xs m ≡ true → (b || is_among xs m) ≡ true
        or true is' = refl
        or false is' = is'

    from : Tells x n → is_among (take k numbers) n ≡ false → ((x == n) || is_among (take k numbers) n) ≡ false
    from (inl same) rest = absurd (let e : false ≡ true = sym apart.0 ∙ (ap (λ (m : ℕ). is_among numbers m) same.1 ∙ there numbers k n is) in cc)
    from (inr other) rest = rw other.0 rest

-- events that came

-- one event more is placed, behind the others
pub placed_more : (first : ℕ) (pointers : List Pointer) (p : Pointer) → placed first (pointers ++ p ∷ []) ≡ placed first pointers ++ record { number = first + length pointers; pointer = p; held = false } ∷ []
placed_more first [] p = ap (λ (n : ℕ). record { number = n; pointer = p; held = false } ∷ []) (omega arith)
placed_more first (x ∷ pointers) p =
    ap (λ (r : List Left). record { number = first; pointer = x; held = false } ∷ r) (placed_more (first + 1) pointers p
    ∙ ap (λ (n : ℕ). placed (first + 1) pointers ++ record { number = n; pointer = p; held = false } ∷ []) (omega arith))

-- each place gives one event
pub length_placed : (first : ℕ) (pointers : List Pointer) → length (placed first pointers) ≡ length pointers
length_placed first [] = refl
length_placed first (x ∷ pointers) = omega (arith, length_placed (first + 1) pointers)

-- before the first event the ring is as it was
pub appended_none : (first : ℕ) (ring : Index) → ring.top ≤ first → IsAppended first [] ring ring
appended_none first ring above = record { slots = refl; top = omega (arith, above); live = sym (append-nil ring.live) }

take_length : {A : Type 0} (xs : List A) (k : ℕ) → k ≤ length xs → length (take k xs) ≡ k
take_length xs zero less = refl
take_length [] (suc k) less = absurd (omega (arith, less))
take_length (x ∷ xs) (suc k) less = omega (arith, take_length xs k (omega (arith, less)))

take_whole : {A : Type 0} (xs : List A) (k : ℕ) → length xs ≤ k → take k xs ≡ xs
take_whole [] zero all = refl
take_whole [] (suc k) all = refl
take_whole (x ∷ xs) zero all = absurd (omega (arith, all))
take_whole (x ∷ xs) (suc k) all = ap (λ (l : List _). x ∷ l) (take_whole xs k (omega (arith, all)))

-- one event more was added at the end of the ring
pub appended_more : (first k : ℕ) (pointers : List Pointer) (d : Pointer) (old ring new : Index) → k < length pointers → IsAppended first (take k pointers) old ring
    → new ≡ record { slots = ring.slots; top = first + k + 1; live = ring.live ++ record { number = first + k; pointer = get_or pointers k d; held = false } ∷ [] }
    → IsAppended first (take (k + 1) pointers) old new
appended_more first k pointers d old ring new less on is =
    let long : length (take k pointers) ≡ k = take_length pointers k (omega (arith, less)) in
    let more : take (k + 1) pointers ≡ take k pointers ++ get_or pointers k d ∷ [] = take_more pointers k d less in
    let longer : length (take (k + 1) pointers) ≡ k + 1 = take_length pointers (k + 1) (omega (arith, less)) in
    record {
      slots = ap (λ (r : Index). r.slots) is ∙ on.slots;
      top = omega (arith, ap (λ (r : Index). r.top) is, longer);
      live = ap (λ (r : Index). r.live) is ∙ (ap (λ (l : List Left). l ++ record { number = first + k; pointer = get_or pointers k d; held = false } ∷ []) on.live
          ∙ (append_assoc old.live (placed first (take k pointers)) (record { number = first + k; pointer = get_or pointers k d; held = false } ∷ [])
          ∙ ap (λ (l : List Left). old.live ++ l) (ap (λ (n : ℕ). placed first (take k pointers) ++ record { number = first + n; pointer = get_or pointers k d; held = false } ∷ []) (sym long)
          ∙ (sym (placed_more first (take k pointers) (get_or pointers k d)) ∙ ap (placed first) (sym more)))));
    }

-- the next one may be added
pub appended_room : (first k : ℕ) (pointers : List Pointer) (old ring : Index) → k < length pointers → IsAppended first (take k pointers) old ring → length old.live + length pointers ≤ old.slots
    → (ring.top ≤ first + k) × (length ring.live < ring.slots)
appended_room first k pointers old ring less on room =
    let long : length (take k pointers) ≡ k = take_length pointers k (omega (arith, less)) in (
      omega (arith, on.top, long),
      omega (arith, ap (λ (l : List Left). length l) on.live, length-append old.live (placed first (take k pointers)), length_placed first (take k pointers), long, on.slots, room, less),
    )

-- after the last place all events were added
pub appended_all : (first k : ℕ) (pointers : List Pointer) (old ring : Index) → length pointers ≤ k → IsAppended first (take k pointers) old ring → IsAppended first pointers old ring
appended_all first k pointers old ring all on = subst (λ (l : List Pointer). IsAppended first l old ring) (take_whole pointers k all) on
