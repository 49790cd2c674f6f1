-- Numbers among those that entries take, and what is left without them.
use Rattle.std.proofs.Common.{◌≡◌, ◌+◌, ◌++◌, ◌∷◌, [], ℕ, zero, suc, List, drop, slice_get, Some, filter, Bool, true, false, not, ◌==◌, ◌||◌, cond, refl, sym, ◌∙◌, ap, arith}
use Rattle.event_core.specs.Content.{Content}
use Rattle.event_core.specs.Journal.{taken_numbers, without, is_among}
use Rattle.event_core.specs.declared.journal.Entry.{Entry}
use Rattle.channel_face.proofs.Numbers.{taken_numbers-append}

or_assoc : (a b c : Bool) → ((a || b) || c) ≡ (a || (b || c))
or_assoc true b c = refl
or_assoc false b c = refl

-- a number of two lists joined is among the first or among the second
pub or_among : (a b : List ℕ) (n : ℕ) → is_among (a ++ b) n ≡ (is_among a n || is_among b n)
or_among [] b n = refl
or_among (x ∷ a) b n = ap (λ (t : Bool). (x == n) || t) (or_among a b n) ∙ sym (or_assoc (x == n) (is_among a n) (is_among b n))

-- a number is taken by the first entry or by those after it
pub among_entry : (e : Entry) (rest : List Entry) (n : ℕ) → is_among (taken_numbers (e ∷ rest)) n ≡ (is_among (taken_numbers (e ∷ [])) n || is_among (taken_numbers rest) n)
among_entry e rest n = ap (λ (l : List ℕ). is_among l n) (taken_numbers-append (e ∷ []) rest) ∙ or_among (taken_numbers (e ∷ [])) (taken_numbers rest) n

-- what the first entry takes is taken by all of them
pub among_here : (e : Entry) (rest : List Entry) (n : ℕ) → is_among (taken_numbers (e ∷ [])) n ≡ true → is_among (taken_numbers (e ∷ rest)) n ≡ true
among_here e rest n here = rw (among_entry e rest n, here) refl

-- what the first entry does not take is taken where the later ones take it
pub among_later : (e : Entry) (rest : List Entry) (n : ℕ) → is_among (taken_numbers (e ∷ [])) n ≡ false → is_among (taken_numbers (e ∷ rest)) n ≡ is_among (taken_numbers rest) n
among_later e rest n here = rw (among_entry e rest n, here) refl

by_test : (b : Bool) (item : ℕ × Content) (xs ys : List (ℕ × Content)) → xs ≡ ys → cond (not b) (item ∷ xs) xs ≡ cond b ys (item ∷ ys)
by_test true item xs ys same = same
by_test false item xs ys same = ap (λ (l : List (ℕ × Content)). item ∷ l) same

-- filtering out the taken numbers leaves what is left without them
pub without_filter : (numbers : List ℕ) (items : List (ℕ × Content)) → filter (λ item. not (is_among numbers item.0)) items ≡ without numbers items
without_filter numbers [] = refl
without_filter numbers (item ∷ items) = by_test (is_among numbers item.0) item (filter (λ item. not (is_among numbers item.0)) items) (without numbers items) (without_filter numbers items)

-- what stands from a place on is the element there and those after it
pub drop_at : {A : Type 0} (es : List A) (place : ℕ) (e : A) → slice_get es place ≡ Some e → drop place es ≡ e ∷ drop (place + 1) es
drop_at [] place e is = absurd (cc)
drop_at (x ∷ es) zero e is = (let same : x ≡ e = cc in ap (λ (y : _). y ∷ es) same)
drop_at (x ∷ es) (suc place) e is = let further : suc (place + 1) ≡ suc place + 1 = omega arith in drop_at es place e is ∙ ap (λ (i : ℕ). e ∷ drop i (x ∷ es)) further
