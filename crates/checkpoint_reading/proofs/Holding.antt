-- Which events open takes may hold.
use Rattle.std.specs.Prelude.{◌||◌, false, map, true}
use Rattle.std.specs.List.{AllByRecursion}
use Rattle.std.proofs.Common.{◌⊎◌, inl, inr, ◌≡◌, ◌≢◌, ◌++◌, ◌∷◌, [], ℕ, List, Bool, Option, Some, None, ◌==◌, cond, refl, sym, ap, subst, ◌∙◌, arith}
use Rattle.std.proofs.lemmas.Bool.Decides.{eqb_tells, nat_tests}
use Rattle.event_core.specs.Journal.{is_among}
use Rattle.event_ring.specs.Slots.{IsLive, Left, look_at, marked}
use Rattle.record_form.specs.declared.record.Pointer.{Pointer}
use Rattle.checkpoint.specs.Right.{AreOnceAmong, number_of}
use Rattle.checkpoint.specs.Says.{live_at}
use Rattle.checkpoint_reading.specs.Opens.{HasTaken, MayTake}

-- whether two numbers are the same
abbrev pub Tells : ℕ → ℕ → Type 0
Tells n m = (((n == m) ≡ true) × (n ≡ m)) ⊎ (((n == m) ≡ false) × (n ≢ m))

-- true is not false
pub differ : true ≡ false → ⊥
differ is = cc

-- what neither of two is
pub neither : (b c : Bool) → (b || c) ≡ false → (b ≡ false) × (c ≡ false)
neither true c is = absurd (cc)
neither false c is = (refl, is)

-- and conversely
pub both_not : (b c : Bool) → b ≡ false → c ≡ false → (b || c) ≡ false
both_not true c is other = absurd (cc)
both_not false c is other = other

-- whether numbers are the same the other way round
other_way : (n m : ℕ) → (n == m) ≡ false → (m == n) ≡ false
other_way n m is = from (eqb_tells n m) (eqb_tells m n)
  where
    from : Tells n m → Tells m n → (m == n) ≡ false
    from (inl same) two = absurd (differ (sym same.0 ∙ is))
    from (inr other) (inl same) = absurd (other.1 (sym same.1))
    from (inr other) (inr two) = two.0

-- what is not among numbers is none of them
apart_part : (xs ys : List ℕ) (n x : ℕ) → is_among (xs ++ n ∷ ys) x ≡ false → (n == x) ≡ false
apart_part [] ys n x none = (neither (n == x) (is_among ys x) none).0
apart_part (y ∷ xs) ys n x none = apart_part xs ys n x (neither (y == x) (is_among (xs ++ n ∷ ys) x) none).1

-- a number in the middle of those that stand once
once_at : (others xs : List ℕ) (n : ℕ) (ys : List ℕ) → AreOnceAmong others (xs ++ n ∷ ys) → (is_among others n ≡ true) × (is_among xs n ≡ false)
once_at others [] n ys once = (once.0, refl)
once_at others (x ∷ xs) n ys once =
    let rest = once_at others xs n ys once.2 in
    (rest.0, both_not (x == n) (is_among xs n) (other_way n x (apart_part xs ys n x once.1)) rest.1)

among_more : (xs : List ℕ) (n x : ℕ) → is_among xs x ≡ false → (n == x) ≡ false → is_among (xs ++ n ∷ []) x ≡ false
among_more [] n x none other = both_not (n == x) false other refl
among_more (y ∷ xs) n x none other = let both = neither (y == x) (is_among xs x) none in both_not (y == x) (is_among (xs ++ n ∷ []) x) both.0 (among_more xs n x both.1 other)

-- one more that stands once
once_more : (others xs : List ℕ) (n : ℕ) → AreOnceAmong others xs → is_among others n ≡ true → is_among xs n ≡ false → AreOnceAmong others (xs ++ n ∷ [])
once_more others [] n once there none = (there, refl, tt)
once_more others (x ∷ xs) n once there none =
    let both = neither (x == n) (is_among xs n) none in
    (once.0, among_more xs n x once.1 (other_way x n both.0), once_more others xs n once.2 there both.1)

abbrev numbers_in : List Left → List ℕ
numbers_in live = map number_of (map live_at live)

-- what is found: a place, and whether the event there is held
abbrev found_at : Pointer → Bool → Option (Pointer × Bool)
found_at p h = Some (p, h)

-- whether what was found is held
flag_in : Bool → Option (Pointer × Bool) → Bool
flag_in other None = other
flag_in other (Some found) = found.1

same_flag : (q r : Pointer) (a b : Bool) → found_at q a ≡ found_at r b → a ≡ b
unfolding flag_in
same_flag q r a b is = ap (λ (o : Option (Pointer × Bool)). flag_in a o) is

not_none : (q : Pointer) (a : Bool) → found_at q a ≡ None → ⊥
not_none q a is = cc

-- what is found in the ring is left, and is held where it is taken
pub look_there : (number : ℕ) (live : List Left) (p : Pointer) (h : Bool) → look_at number live ≡ found_at p h
    → IsLive live number × (is_among (numbers_in live) number ≡ true) × ((taken : List ℕ) → AllByRecursion (λ l. l.held ≡ is_among taken l.number) live → is_among taken number ≡ h)
look_there number [] p h is = absurd (cc)
look_there number (l ∷ live) p h is = from (eqb_tells l.number number) is (look_there number live p h)
  where
    from : Tells l.number number → cond (l.number == number) (found_at l.pointer l.held) (look_at number live) ≡ found_at p h
        → (look_at number live ≡ found_at p h → IsLive live number × (is_among (numbers_in live) number ≡ true) × ((taken : List ℕ) → AllByRecursion (λ l. l.held ≡ is_among taken l.number) live → is_among taken number ≡ h))
        → IsLive (l ∷ live) number × (is_among (numbers_in (l ∷ live)) number ≡ true) × ((taken : List ℕ) → AllByRecursion (λ l. l.held ≡ is_among taken l.number) (l ∷ live) → is_among taken number ≡ h)
    from (inl same) is' rest =
        let found : found_at l.pointer l.held ≡ found_at p h = sym (ap (λ (b : Bool). cond b (found_at l.pointer l.held) (look_at number live)) same.0) ∙ is' in
        (inl same.1, ap (λ (b : Bool). b || is_among (numbers_in live) number) same.0, λ taken held. ap (is_among taken) (sym same.1) ∙ (sym held.0 ∙ same_flag l.pointer p l.held h found))
    from (inr other) is' rest =
        let found = rest (sym (ap (λ (b : Bool). cond b (found_at l.pointer l.held) (look_at number live)) other.0) ∙ is') in
        (inr found.0, ap (λ (b : Bool). b || is_among (numbers_in live) number) other.0 ∙ found.1, λ taken held. found.2 taken held.1)

-- what is not found in the ring is not left
look_none : (number : ℕ) (live : List Left) → look_at number live ≡ None → is_among (numbers_in live) number ≡ false
look_none number [] is = refl
look_none number (l ∷ live) is = from (eqb_tells l.number number) is (look_none number live)
  where
    from : Tells l.number number → cond (l.number == number) (found_at l.pointer l.held) (look_at number live) ≡ None → (look_at number live ≡ None → is_among (numbers_in live) number ≡ false) → is_among (numbers_in (l ∷ live)) number ≡ false
    from (inl same) is' rest = absurd (not_none l.pointer l.held (sym (ap (λ (b : Bool). cond b (found_at l.pointer l.held) (look_at number live)) same.0) ∙ is'))
    from (inr other) is' rest = ap (λ (b : Bool). b || is_among (numbers_in live) number) other.0 ∙ rest (sym (ap (λ (b : Bool). cond b (found_at l.pointer l.held) (look_at number live)) other.0) ∙ is')

-- to hold an event changes neither numbers nor places
pub marked_events : (number : ℕ) (held : Bool) (live : List Left) → map live_at (marked number held live) ≡ map live_at live
marked_events number held [] = refl
marked_events number held (l ∷ live) = from (l.number == number) (marked_events number held live)
  where
    from : (b : Bool) → map live_at (marked number held live) ≡ map live_at live → live_at (cond b (record l { held = held }) l) ∷ map live_at (marked number held live) ≡ live_at l ∷ map live_at live
    from true rest = ap (λ (xs : List (ℕ × Pointer)). live_at l ∷ xs) rest
    from false rest = ap (λ (xs : List (ℕ × Pointer)). live_at l ∷ xs) rest

among_last : (xs : List ℕ) (n : ℕ) → is_among (xs ++ n ∷ []) n ≡ true
among_last [] n = ap (λ (b : Bool). b || false) (same_test n)
  where
    same_test : (k : ℕ) → (k == k) ≡ true
    same_test k = grind (arith, nat_tests)
among_last (x ∷ xs) n = from (x == n) (among_last xs n)
  where
    from : (b : Bool) → is_among (xs ++ n ∷ []) n ≡ true → (b || is_among (xs ++ n ∷ []) n) ≡ true
    from true rest = refl
    from false rest = rest

among_other : (xs : List ℕ) (n m : ℕ) → (n == m) ≡ false → is_among (xs ++ n ∷ []) m ≡ is_among xs m
among_other [] n m other = both_not (n == m) false other refl
among_other (x ∷ xs) n m other = ap (λ (b : Bool). (x == m) || b) (among_other xs n m other)

marked_held : (number : ℕ) (taken : List ℕ) (live : List Left) → AllByRecursion (λ l. l.held ≡ is_among taken l.number) live → AllByRecursion (λ l. l.held ≡ is_among (taken ++ number ∷ []) l.number) (marked number true live)
marked_held number taken [] held = tt
marked_held number taken (l ∷ live) held = (from (eqb_tells l.number number), marked_held number taken live held.1)
  where
    from : Tells l.number number → (cond (l.number == number) (record l { held = true }) l).held ≡ is_among (taken ++ number ∷ []) (cond (l.number == number) (record l { held = true }) l).number
    from (inl same) =
        subst (λ (b : Bool). (cond b (record l { held = true }) l).held ≡ is_among (taken ++ number ∷ []) (cond b (record l { held = true }) l).number) (sym same.0)
        (sym (among_last taken number) ∙ ap (is_among (taken ++ number ∷ [])) (sym same.1))
    from (inr other) =
        subst (λ (b : Bool). (cond b (record l { held = true }) l).held ≡ is_among (taken ++ number ∷ []) (cond b (record l { held = true }) l).number) (sym other.0)
        (held.0 ∙ sym (among_other taken number l.number (other_way l.number number other.0)))

-- one more event is held
pub held_more : (number : ℕ) (live : List Left) (p : Pointer) (h : Bool) (taken : List ℕ) → look_at number live ≡ found_at p h → h ≡ false → HasTaken taken live → HasTaken (taken ++ number ∷ []) (marked number true live)
held_more number live p h taken is free has =
    let found = look_there number live p h is in
    record {
      held = marked_held number taken live has.held;
      once = subst (λ (xs : List (ℕ × Pointer)). AreOnceAmong (map number_of xs) (taken ++ number ∷ [])) (sym (marked_events number true live)) (once_more (numbers_in live) taken number has.once found.1 (found.2 taken has.held ∙ free));
    }

-- no transaction may take what is not left
pub none_left : (number : ℕ) (live : List Left) (taken behind : List ℕ) → look_at number live ≡ None → HasTaken taken live → MayTake live taken (number ∷ behind) → ⊥
none_left number live taken behind is has may = differ (sym (once_at (numbers_in live) taken number behind may.1).0 ∙ look_none number live is)

-- nor what is held
pub held_already : (number : ℕ) (live : List Left) (p : Pointer) (h : Bool) (taken behind : List ℕ) → look_at number live ≡ found_at p h → h ≡ true → HasTaken taken live → MayTake live taken (number ∷ behind) → ⊥
held_already number live p h taken behind is held has may =
    differ (sym ((look_there number live p h is).2 taken has.held ∙ held) ∙ (once_at (numbers_in live) taken number behind may.1).1)
