-- Where bytes stop being the beginning of a text.
use Rattle.std.proofs.Common.{◌≡◌, ℕ, ◌+◌, ◌<◌, ◌≤◌, Bool, true, false, cond, ◌==◌, nat_lt, nat_le, List, [], ◌∷◌, ◌++◌, length, get_or, drop, take, refl, sym, ap, ◌∙◌, subst, append_assoc, arith, Some, None, Option, ⊎_elim}
use Rattle.std.proofs.lemmas.Bool.{cond-true, cond-false, eqb-true, and_parts, cond_both, ltb-true, ltb-false, leb-true, cases_eq, cases_lt, le-leb, and_from, false≢true, eqb-false}
use Rattle.std.proofs.lemmas.List.{length-drop, length-take, take-append-drop, take-take, drop-take, drop_at, take_at, take_all, length-append, get_or-take, get_or_append_left}
use Rattle.std.proofs.lemmas.Str.{IsUtf8-append, IsUtf8-nil, IsUtf8-drop, IsCharBoundary-from_take}
use Rattle.std.specs.Int.{is_in_range}
use Rattle.std.specs.Str.{IsUtf8, IsValidUpTo}
use Rattle.std.specs.Str.Lossy.{second_byte_min, second_byte_max, error_len_after_two, error_len_after_one, error_len_of_some, utf8_error_len}
use lib.Utf8.{encode, encodes, scalar, scalars}
use Rattle.prop_text.specs.Winners.{BeginsText, IsFirstFault}
use Rattle.prop_text.proofs.Encoded.{Shape, of1, of2, of3, of4, shape, Follows, utf8_one, utf8_two, utf8_three, utf8_four}

in_range : (low high b : ℕ) → is_in_range low high b ≡ true → (low ≤ b) × (b ≤ high)
in_range low high b h = let p = and_parts (nat_le low b) (nat_le b high) h in (leb-true low b p.0, leb-true b high p.1)

from_range : (low high b : ℕ) → low ≤ b → b ≤ high → is_in_range low high b ≡ true
from_range low high b l h = and_from (nat_le low b) (nat_le b high) (le-leb low b l) (le-leb b high h)

-- y may follow x at the beginning of a character
record IsSecond (x y : ℕ) : Type 0 where
  follows : Follows y
  above : x ≡ 224 → 160 ≤ y
  below : x ≡ 237 → y < 160
  least : x ≡ 240 → 144 ≤ y
  most : x ≡ 244 → y < 144

second_in_range : ℕ → ℕ → Bool
second_in_range x y = is_in_range (second_byte_min x) (second_byte_max x) y

min_is : (x : ℕ) → (128 ≤ second_byte_min x) × (x ≡ 224 → 160 ≤ second_byte_min x) × (x ≡ 240 → 144 ≤ second_byte_min x)
min_is x =
    cond_both (x == 224) 160 (cond (x == 240) 144 128) (λ m. (128 ≤ m) × (x ≡ 224 → 160 ≤ m) × (x ≡ 240 → 144 ≤ m))
    (λ t. let e = eqb-true x 224 t in (omega arith, λ h. omega arith, λ h. omega arith))
    (λ f. cond_both (x == 240) 144 128 (λ m. (128 ≤ m) × (x ≡ 224 → 160 ≤ m) × (x ≡ 240 → 144 ≤ m))
    (λ t. let e = eqb-true x 240 t in (omega arith, λ h. absurd (omega arith), λ h. omega arith))
    (λ g. (omega arith, λ h. absurd (eqb-false x 224 f h), λ h. absurd (eqb-false x 240 g h))))

max_is : (x : ℕ) → (second_byte_max x < 192) × (x ≡ 237 → second_byte_max x < 160) × (x ≡ 244 → second_byte_max x < 144)
max_is x =
    cond_both (x == 237) 159 (cond (x == 244) 143 191) (λ m. (m < 192) × (x ≡ 237 → m < 160) × (x ≡ 244 → m < 144))
    (λ t. let e = eqb-true x 237 t in (omega arith, λ h. omega arith, λ h. absurd (omega arith)))
    (λ f. cond_both (x == 244) 143 191 (λ m. (m < 192) × (x ≡ 237 → m < 160) × (x ≡ 244 → m < 144))
    (λ t. let e = eqb-true x 244 t in (omega arith, λ h. absurd (omega arith), λ h. omega arith))
    (λ g. (omega arith, λ h. absurd (eqb-false x 237 f h), λ h. absurd (eqb-false x 244 g h))))

second : (x y : ℕ) → is_in_range (second_byte_min x) (second_byte_max x) y ≡ true → IsSecond x y
second x y h =
    let r = in_range (second_byte_min x) (second_byte_max x) y h in
    let lo = min_is x in
    let hi = max_is x in
    record {
      follows = (omega (arith, lo.0, r.0), omega (arith, hi.0, r.1));
      above = λ e. omega (arith, lo.1 e, r.0);
      below = λ e. omega (arith, hi.1 e, r.1);
      least = λ e. omega (arith, lo.2 e, r.0);
      most = λ e. omega (arith, hi.2 e, r.1);
    }

to_second : (x y : ℕ) → IsSecond x y → is_in_range (second_byte_min x) (second_byte_max x) y ≡ true
to_second x y s =
    from_range (second_byte_min x) (second_byte_max x) y
    (cond_both (x == 224) 160 (cond (x == 240) 144 128) (λ m. m ≤ y) (λ t. s.above (eqb-true x 224 t)) (λ _. cond_both (x == 240) 144 128 (λ m. m ≤ y) (λ t. s.least (eqb-true x 240 t)) (λ _. s.follows.0)))
    (cond_both (x == 237) 159 (cond (x == 244) 143 191) (λ m. y ≤ m) (λ t. let b = s.below (eqb-true x 237 t) in omega arith) (λ _. cond_both (x == 244) 143 191 (λ m. y ≤ m) (λ t. let b = s.most (eqb-true x 244 t) in omega arith) (λ _. let b = s.follows.1 in omega arith)))

-- what bytes in these ranges begin
begins_one : (x : ℕ) → 194 ≤ x → x ≤ 244 → BeginsText (x ∷ [])
begins_one x low high =
    ⊎_elim (λ a. (128 ∷ [], utf8_two x 128 low a (omega arith, omega arith)))
    (λ b. ⊎_elim
    (λ c. ⊎_elim
    (λ e. (160 ∷ 128 ∷ [], utf8_three x 160 128 b c (omega arith, omega arith) (omega arith, omega arith) (λ _. omega arith) (λ h. absurd (omega arith))))
    (λ n. (128 ∷ 128 ∷ [], utf8_three x 128 128 b c (omega arith, omega arith) (omega arith, omega arith) (λ h. absurd (n h)) (λ _. omega arith)))
    (cases_eq x 224))
    (λ d. ⊎_elim
    (λ e. (144 ∷ 128 ∷ 128 ∷ [], utf8_four x 144 128 128 d high (omega arith, omega arith) (omega arith, omega arith) (omega arith, omega arith) (λ _. omega arith) (λ h. absurd (omega arith))))
    (λ n. (128 ∷ 128 ∷ 128 ∷ [], utf8_four x 128 128 128 d high (omega arith, omega arith) (omega arith, omega arith) (omega arith, omega arith) (λ h. absurd (n h)) (λ _. omega arith)))
    (cases_eq x 240))
    (cases_lt x 240))
    (cases_lt x 224)

begins_two : (x y : ℕ) → 224 ≤ x → x ≤ 244 → IsSecond x y → BeginsText (x ∷ y ∷ [])
begins_two x y low high s =
    ⊎_elim
    (λ c. (128 ∷ [], utf8_three x y 128 low c s.follows (omega arith, omega arith) s.above s.below))
    (λ d. (128 ∷ 128 ∷ [], utf8_four x y 128 128 d high s.follows (omega arith, omega arith) (omega arith, omega arith) s.least s.most))
    (cases_lt x 240)

begins_three : (x y z : ℕ) → 240 ≤ x → x ≤ 244 → IsSecond x y → Follows z → BeginsText (x ∷ y ∷ z ∷ [])
begins_three x y z low high s f = (128 ∷ [], utf8_four x y z 128 low high s.follows f (omega arith, omega arith) s.least s.most)

-- a text that isn't empty begins with a character
record Head (bs : List ℕ) : Type 0 where
  c : ℕ
  rest : List ℕ
  is : scalar c ≡ true
  split : bs ≡ encode c ++ rest

head : (bs : List ℕ) → 0 < length bs → IsUtf8 bs → Head bs
head bs some utf8 = by utf8.0 utf8.1.0 utf8.1.1
  where
    by : (cs : List ℕ) → scalars cs ≡ true → encodes cs ≡ bs → Head bs
    by [] s e = absurd (omega (arith, some, ap length e))
    by (c ∷ cs) s e = record { c = c; rest = encodes cs; is = (and_parts (scalar c) (scalars cs) s).0; split = sym e }

front_one : (d : List ℕ) → 1 ≤ length d → take 1 d ≡ get_or d 0 0 ∷ []
front_one [] h = absurd (omega arith)
front_one (x ∷ d) h = refl

front_two : (d : List ℕ) → 2 ≤ length d → take 2 d ≡ get_or d 0 0 ∷ get_or d 1 0 ∷ []
front_two [] h = absurd (omega arith)
front_two (x ∷ []) h = absurd (omega arith)
front_two (x ∷ y ∷ d) h = refl

front_three : (d : List ℕ) → 3 ≤ length d → take 3 d ≡ get_or d 0 0 ∷ get_or d 1 0 ∷ get_or d 2 0 ∷ []
front_three [] h = absurd (omega arith)
front_three (x ∷ []) h = absurd (omega arith)
front_three (x ∷ y ∷ []) h = absurd (omega arith)
front_three (x ∷ y ∷ z ∷ d) h = refl

front_four : (d : List ℕ) → 4 ≤ length d → take 4 d ≡ get_or d 0 0 ∷ get_or d 1 0 ∷ get_or d 2 0 ∷ get_or d 3 0 ∷ []
front_four [] h = absurd (omega arith)
front_four (x ∷ []) h = absurd (omega arith)
front_four (x ∷ y ∷ []) h = absurd (omega arith)
front_four (x ∷ y ∷ z ∷ []) h = absurd (omega arith)
front_four (x ∷ y ∷ z ∷ w ∷ d) h = refl

-- the first p bytes begin a text, and one more doesn't
record IsPlace (d : List ℕ) (p : ℕ) : Type 0 where
  within : p ≤ length d
  before : BeginsText (take p d)
  here : p < length d → BeginsText (take (p + 1) d) → ⊥

-- where the fault is, by what `from_utf8` tells of it
abbrev pub place : List ℕ → Option ℕ → ℕ
place d None = length d
place d (Some n) = cond (is_in_range 194 244 (get_or d 0 0)) n 0

module _ (d : List ℕ) (some : 0 < length d) (none : (m : ℕ) → 0 < m → IsUtf8 (take m d) → ⊥) where
  abbrev byte : ℕ → ℕ
  byte k = get_or d k 0

  not_two : 2 ≤ length d → 194 ≤ byte 0 → Follows (byte 1) → 224 ≤ byte 0
  not_two long low f = ⊎_elim (λ h. absurd (none 2 (omega arith) (subst IsUtf8 (sym (front_two d long)) (utf8_two (byte 0) (byte 1) low h f)))) (λ h. h) (cases_lt (byte 0) 224)

  not_three : 3 ≤ length d → 224 ≤ byte 0 → IsSecond (byte 0) (byte 1) → Follows (byte 2) → 240 ≤ byte 0
  not_three long low s f = ⊎_elim (λ h. absurd (none 3 (omega arith) (subst IsUtf8 (sym (front_three d long)) (utf8_three (byte 0) (byte 1) (byte 2) low h s.follows f s.above s.below)))) (λ h. h) (cases_lt (byte 0) 240)

  -- what keeps the byte after the first q from going on with them
  record IsBad (q : ℕ) : Type 0 where
    few : q ≤ 3
    more : q < length d
    first : q ≡ 0 → is_in_range 194 244 (byte 0) ≡ false
    next : q ≡ 1 → is_in_range (second_byte_min (byte 0)) (second_byte_max (byte 0)) (byte 1) ≡ false
    third : q ≡ 2 → is_in_range 128 191 (byte 2) ≡ false

  contrary : (b : Bool) → b ≡ false → b ≡ true → ⊥
  contrary b f t = false≢true (sym f ∙ t)

  no_character : (q c : ℕ) (r : List ℕ) → IsBad q → ((k : ℕ) → k ≤ q → byte k ≡ get_or (encode c ++ r) k 0) → Shape c → ⊥
  no_character q c r bad sees (of1 l e) =
      let s0 : byte 0 ≡ c = subst (λ (p : List ℕ). byte 0 ≡ get_or (p ++ r) 0 0) e (sees 0 (omega arith)) in
      none 1 (omega arith) (subst IsUtf8 (sym (front_one d (omega arith))) (utf8_one (byte 0) (omega arith)))
  no_character q c r bad sees (of2 a b l h f e) =
      let s0 : byte 0 ≡ a = subst (λ (p : List ℕ). byte 0 ≡ get_or (p ++ r) 0 0) e (sees 0 (omega arith)) in
      ⊎_elim
      (λ z. contrary _ (bad.first z) (from_range 194 244 (byte 0) (omega arith) (omega arith)))
      (λ n.
      let m = bad.more in
      let some' : 1 ≤ q = ⊎_elim (λ x. absurd (n (omega arith))) (λ x. x) (cases_lt q 1) in
      let s1 : byte 1 ≡ b = subst (λ (p : List ℕ). byte 1 ≡ get_or (p ++ r) 1 0) e (sees 1 some') in
      none 2 (omega arith) (subst IsUtf8 (sym (front_two d (omega arith))) (utf8_two (byte 0) (byte 1) (omega arith) (omega arith) (omega arith, omega arith))))
      (cases_eq q 0)
  no_character q c r bad sees (of3 a b g l h f f' up down e) =
      let s0 : byte 0 ≡ a = subst (λ (p : List ℕ). byte 0 ≡ get_or (p ++ r) 0 0) e (sees 0 (omega arith)) in
      ⊎_elim
      (λ z. contrary _ (bad.first z) (from_range 194 244 (byte 0) (omega arith) (omega arith)))
      (λ n.
      let m = bad.more in
      let some' : 1 ≤ q = ⊎_elim (λ x. absurd (n (omega arith))) (λ x. x) (cases_lt q 1) in
      let s1 : byte 1 ≡ b = subst (λ (p : List ℕ). byte 1 ≡ get_or (p ++ r) 1 0) e (sees 1 some') in
      let good : IsSecond (byte 0) (byte 1) = record { follows = (omega arith, omega arith); above = λ x. let u = up (omega arith) in omega arith; below = λ x. let u = down (omega arith) in omega arith; least = λ x. absurd (omega arith); most = λ x. absurd (omega arith) } in
      ⊎_elim
      (λ z. contrary _ (bad.next z) (to_second (byte 0) (byte 1) good))
      (λ n'.
      let two' : 2 ≤ q = ⊎_elim (λ x. absurd (n' (omega arith))) (λ x. x) (cases_lt q 2) in
      let s2 : byte 2 ≡ g = subst (λ (p : List ℕ). byte 2 ≡ get_or (p ++ r) 2 0) e (sees 2 two') in
      none 3 (omega arith) (subst IsUtf8 (sym (front_three d (omega arith))) (utf8_three (byte 0) (byte 1) (byte 2) (omega arith) (omega arith) good.follows (omega arith, omega arith) good.above good.below)))
      (cases_eq q 1))
      (cases_eq q 0)
  no_character q c r bad sees (of4 a b g w l h f f' f2 up down e) =
      let s0 : byte 0 ≡ a = subst (λ (p : List ℕ). byte 0 ≡ get_or (p ++ r) 0 0) e (sees 0 (omega arith)) in
      ⊎_elim
      (λ z. contrary _ (bad.first z) (from_range 194 244 (byte 0) (omega arith) (omega arith)))
      (λ n.
      let m = bad.more in
      let few = bad.few in
      let some' : 1 ≤ q = ⊎_elim (λ x. absurd (n (omega arith))) (λ x. x) (cases_lt q 1) in
      let s1 : byte 1 ≡ b = subst (λ (p : List ℕ). byte 1 ≡ get_or (p ++ r) 1 0) e (sees 1 some') in
      let good : IsSecond (byte 0) (byte 1) = record { follows = (omega arith, omega arith); above = λ x. absurd (omega arith); below = λ x. absurd (omega arith); least = λ x. let u = up (omega arith) in omega arith; most = λ x. let u = down (omega arith) in omega arith } in
      ⊎_elim
      (λ z. contrary _ (bad.next z) (to_second (byte 0) (byte 1) good))
      (λ n'.
      let two' : 2 ≤ q = ⊎_elim (λ x. absurd (n' (omega arith))) (λ x. x) (cases_lt q 2) in
      let s2 : byte 2 ≡ g = subst (λ (p : List ℕ). byte 2 ≡ get_or (p ++ r) 2 0) e (sees 2 two') in
      ⊎_elim
      (λ z. contrary _ (bad.third z) (from_range 128 191 (byte 2) (omega arith) (omega arith)))
      (λ n''.
      let three' : 3 ≤ q = ⊎_elim (λ x. absurd (n'' (omega arith))) (λ x. x) (cases_lt q 3) in
      let s3 : byte 3 ≡ w = subst (λ (p : List ℕ). byte 3 ≡ get_or (p ++ r) 3 0) e (sees 3 three') in
      none 4 (omega arith) (subst IsUtf8 (sym (front_four d (omega arith))) (utf8_four (byte 0) (byte 1) (byte 2) (byte 3) (omega arith) (omega arith) good.follows (omega arith, omega arith) (omega arith, omega arith) good.least good.most)))
      (cases_eq q 2))
      (cases_eq q 1))
      (cases_eq q 0)

  not_longer : (q : ℕ) → IsBad q → BeginsText (take (q + 1) d) → ⊥
  not_longer q bad longer =
      let text = take (q + 1) d ++ longer.0 in
      let m = bad.more in
      let len : length (take (q + 1) d) ≡ q + 1 = omega (arith, length-take (q + 1) d) in
      let h = head text (omega (arith, len, length-append (take (q + 1) d) longer.0)) longer.1 in
      no_character q h.c h.rest bad
      (λ k within. sym (get_or-take (q + 1) d k 0 (omega arith)) ∙ sym (get_or_append_left (take (q + 1) d) longer.0 0 k (omega (arith, len))) ∙ ap (λ (l : List ℕ). get_or l k 0) h.split)
      (shape h.c h.is)

  place_from : (q : ℕ) → q ≤ length d → BeginsText (take q d) → (q < length d → IsBad q) → IsPlace d q
  place_from q within before bad = record { within = within; before = before; here = λ more. not_longer q (bad more) }

  abbrev X : Bool
  X = is_in_range 194 244 (byte 0)

  abbrev Y : Bool
  Y = is_in_range (second_byte_min (byte 0)) (second_byte_max (byte 0)) (byte 1)

  abbrev Z : Bool
  Z = is_in_range 128 191 (byte 2)

  begins_at_one : X ≡ true → BeginsText (take 1 d)
  begins_at_one x = let r = in_range 194 244 (byte 0) x in subst BeginsText (sym (front_one d (omega arith))) (begins_one (byte 0) r.0 r.1)

  begins_at_two : 2 ≤ length d → X ≡ true → Y ≡ true → BeginsText (take 2 d)
  begins_at_two long x y =
      let r = in_range 194 244 (byte 0) x in
      let s = second (byte 0) (byte 1) y in
      subst BeginsText (sym (front_two d long)) (begins_two (byte 0) (byte 1) (not_two long r.0 s.follows) r.1 s)

  begins_at_three : 3 ≤ length d → X ≡ true → Y ≡ true → Z ≡ true → BeginsText (take 3 d)
  begins_at_three long x y z =
      let r = in_range 194 244 (byte 0) x in
      let s = second (byte 0) (byte 1) y in
      let t = in_range 128 191 (byte 2) z in
      let f : Follows (byte 2) = (t.0, omega (arith, t.1)) in
      subst BeginsText (sym (front_three d long)) (begins_three (byte 0) (byte 1) (byte 2) (not_three long (not_two (omega arith) r.0 s.follows) s f) r.1 s f)

  none_there : BeginsText (take 0 d)
  none_there = ([], IsUtf8-nil)

  at_place : IsPlace d (place d (utf8_error_len d))
  unfolding utf8_error_len
  at_place =
      let P : Option ℕ → Type 0 = λ o. IsPlace d (place d o) in
      cond_both (length d == 0) None (error_len_of_some d) P (λ e. absurd (omega (arith, eqb-true (length d) 0 e))) (λ _.
      cond_both X (error_len_after_one d) (Some 1) P
      (λ x. cond_both (nat_lt (length d) 2) None (cond Y (error_len_after_two d) (Some 1)) P
      (λ s. let short = ltb-true (length d) 2 s in let one : 1 ≡ length d = omega arith in subst (IsPlace d) one (place_from 1 (omega arith) (begins_at_one x) (λ m. absurd (omega arith))))
      (λ s. let long = ltb-false (length d) 2 s in
      cond_both Y (error_len_after_two d) (Some 1) P
      (λ y. cond_both (nat_lt (length d) 3) None (cond Z (cond (nat_lt (length d) 4) None (Some 3)) (Some 2)) P
      (λ s'. let short = ltb-true (length d) 3 s' in let two' : 2 ≡ length d = omega arith in subst (IsPlace d) two' (place_from 2 (omega arith) (begins_at_two long x y) (λ m. absurd (omega arith))))
      (λ s'. let long' = ltb-false (length d) 3 s' in
      cond_both Z (cond (nat_lt (length d) 4) None (Some 3)) (Some 2) P
      (λ z. let bad : (3 < length d → IsBad 3) = λ m. record { few = omega arith; more = m; first = λ e. absurd (omega arith); next = λ e. absurd (omega arith); third = λ e. absurd (omega arith) } in
      let there = place_from 3 long' (begins_at_three long' x y z) bad in
      cond_both (nat_lt (length d) 4) None (Some 3) P
      (λ s2. let short = ltb-true (length d) 4 s2 in let three' : 3 ≡ length d = omega arith in subst (IsPlace d) three' there)
      (λ s2. subst (IsPlace d) (sym (cond-true X 3 0 x)) there))
      (λ z. subst (IsPlace d) (sym (cond-true X 2 0 x)) (place_from 2 (omega arith) (begins_at_two long x y) (λ m. record { few = omega arith; more = m; first = λ e. absurd (omega arith); next = λ e. absurd (omega arith); third = λ e. z })))))
      (λ y. subst (IsPlace d) (sym (cond-true X 1 0 x)) (place_from 1 (omega arith) (begins_at_one x) (λ m. record { few = omega arith; more = m; first = λ e. absurd (omega arith); next = λ e. y; third = λ e. absurd (omega arith) })))))
      (λ x. subst (IsPlace d) (sym (cond-false X 1 0 x)) (place_from 0 (omega arith) none_there (λ m. record { few = omega arith; more = m; first = λ e. x; next = λ e. absurd (omega arith); third = λ e. absurd (omega arith) }))))

take_add : (v p : ℕ) (bs : List ℕ) → take (v + p) bs ≡ take v bs ++ take p (drop v bs)
take_add v p bs = sym (take-append-drop v (take (v + p) bs)) ∙ ap (λ (l : List ℕ). l ++ drop v (take (v + p) bs)) (take-take v (v + p) bs (omega arith)) ∙ ap (λ (l : List ℕ). take v bs ++ l) (drop-take v p bs)

-- the first fault, after the longest front that is a text
module _ (bytes : List ℕ) (v : ℕ) (valid : IsValidUpTo bytes v) where
  abbrev pub rest : List ℕ
  rest = drop v bytes

  none_longer : (m : ℕ) → 0 < m → IsUtf8 (take m rest) → ⊥
  none_longer m some u = valid.longest (v + m) (omega arith) (subst IsUtf8 (sym (take_add v m bytes)) (IsUtf8-append (take v bytes) (take m rest) valid.front u))

  fault_from : (p : ℕ) → IsPlace rest p → IsFirstFault bytes (v + p)
  fault_from p there =
      let short = valid.short in
      let inside = there.within in
      record {
        no_text = λ u. valid.longest (length bytes) short (subst IsUtf8 (sym (take_all (length bytes) bytes (omega arith))) u);
        within = omega (arith, length-drop v bytes);
        before = (there.before.0, subst IsUtf8 (sym (ap (λ (l : List ℕ). l ++ there.before.0) (take_add v p bytes) ∙ append_assoc (take v bytes) (take p rest) there.before.0)) (IsUtf8-append (take v bytes) (take p rest ++ there.before.0) valid.front there.before.1));
        here = λ more longer.
            let sum : v + p + 1 ≡ v + (p + 1) = omega arith in
            let front = take v bytes in
            let behind = take (p + 1) rest ++ longer.0 in
            let split : take (v + p + 1) bytes ++ longer.0 ≡ front ++ behind = ap (λ k. take k bytes ++ longer.0) sum ∙ ap (λ (l : List ℕ). l ++ longer.0) (take_add v (p + 1) bytes) ∙ append_assoc front (take (p + 1) rest) longer.0 in
            let whole : IsUtf8 (front ++ behind) = subst IsUtf8 split longer.1 in
            let len : length front ≡ v = omega (arith, length-take v bytes) in
            let cut = IsCharBoundary-from_take (front ++ behind) v whole (omega (arith, len, length-append front behind)) (subst IsUtf8 (sym (take_at front behind v len)) valid.front) in
            there.here (omega (arith, length-drop v bytes)) (longer.0, subst IsUtf8 (drop_at front behind v len) (IsUtf8-drop (front ++ behind) v whole cut));
      }

  -- the first fault stands behind the longest front that is a text, as far as the error's length says
  pub first_fault : (len : Option ℕ) → len ≡ utf8_error_len rest → IsFirstFault bytes (v + place rest len)
  first_fault len is =
      let short = valid.short in
      subst (λ (o : Option ℕ). IsFirstFault bytes (v + place rest o)) (sym is) (fault_from (place rest (utf8_error_len rest)) (at_place rest (omega (arith, length-drop v bytes)) none_longer))
