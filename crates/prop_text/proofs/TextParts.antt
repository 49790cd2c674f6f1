-- Each part of a text that is read is a text.
use Rattle.std.proofs.Common.{◌≡◌, ℕ, ◌+◌, ◌-◌, ◌*◌, ◌/◌, ◌<◌, ◌≤◌, Bool, true, false, cond, ◌&&◌, ◌||◌, ◌==◌, nat_lt, List, [], ◌∷◌, ◌++◌, length, get_or, drop, reverse, refl, sym, ap, ◌∙◌, subst, arith, suc, zero, option_map, option_and_then, Some, None, Option, ⊎_elim, slice_index, encode_utf8}
use Rattle.std.proofs.lemmas.Bool.{cond-true, cond-false, eq-eqb, ne_eqb, eqb-true, or_cases, and_parts, cond_both, ltb-true, cases_eq, cases_lt, cases_Bool}
use Rattle.std.proofs.lemmas.Bool.Decides.{nat_tests}
use Rattle.std.proofs.lemmas.List.{get_or_past, get_or-drop, get_or-reverse, length-append, length-drop}
use Rattle.std.proofs.lemmas.List.Sums.{prefix_len_passes, prefix_len-le-length, suffix_len-le-length}
use Rattle.std.proofs.lemmas.Str.{IsCharBoundary-after_ascii, IsCharBoundary-before_ascii, IsCharBoundary-end, IsUtf8-take, IsUtf8-drop, IsUtf8-append, IsUtf8-encode, IsUtf8-nil, encode_ascii, length-encode, len_utf8_bounds}
use Rattle.std.proofs.lemmas.Option.{option_and_then_some, cond_some}
use lib.Utf8.{low_scalar, encode, next, scalar}
use Rattle.std.specs.List.{prefix_len, suffix_len}
use Rattle.std.specs.Char.{digit_value, IsScalar}
use Rattle.std.specs.Str.{IsUtf8, IsCharBoundary, all_scalars, encode_utf8_all}
use Rattle.prop_text.specs.Lines.{is_white_space, trim_start}
use Rattle.prop_text.specs.Pairs.{ends_key, past_separator, digit_at, hex_number, is_high, is_low, pair_char, low_half, unicode_escape, letter, escape, unescaped, trim_end, trim}
use Rattle.prop_text.proofs.LineSteps.{white_space_is_ascii, after_white_space}
use Rattle.prop_text.proofs.PairSteps.{unescaped_passes, put_front}

-- a text without the white space at its start is a text
pub utf8_trim_start : (text : List ℕ) → IsUtf8 text → IsUtf8 (trim_start text)
utf8_trim_start text utf8 =
    let n = prefix_len is_white_space text in
    ⊎_elim (λ none. subst (λ (k : ℕ). IsUtf8 (drop k text)) (sym none) utf8)
    (λ some. IsUtf8-drop text n utf8 (after_white_space text n utf8 refl (prefix_len-le-length is_white_space text) (omega arith)))
    (cases_eq n 0)

-- a text without the white space at its end is a text
pub utf8_trim_end : (text : List ℕ) → IsUtf8 text → IsUtf8 (trim_end text)
utf8_trim_end text utf8 =
    let k = suffix_len is_white_space text in
    let within = suffix_len-le-length is_white_space text in
    ⊎_elim (λ none. let whole : length text ≡ length text - k = omega arith in IsUtf8-take text (length text - k) utf8 (subst (IsCharBoundary text) whole (IsCharBoundary-end text)))
    (λ some.
    let low : get_or (reverse text) (k - 1) 0 < 128 = white_space_is_ascii _ (prefix_len_passes is_white_space (reverse text) (k - 1) 0 (omega arith)) in
    let place : length text - 1 - (k - 1) ≡ length text - k = omega arith in
    let there = get_or-reverse text (k - 1) 0 (omega arith) ∙ ap (λ i. get_or text i 0) place in
    IsUtf8-take text (length text - k) utf8 (IsCharBoundary-before_ascii text (length text - k) (omega arith) (subst (λ (b : ℕ). b < 128) there low)))
    (cases_eq k 0)

-- a text without the white space at both ends is a text
pub utf8_trim : (text : List ℕ) → IsUtf8 text → IsUtf8 (trim text)
utf8_trim text utf8 = utf8_trim_end (trim_start text) (utf8_trim_start text utf8)

-- what follows a separator in a text is a text
pub utf8_past_separator : (rest : List ℕ) → IsUtf8 rest → IsUtf8 (past_separator rest)
utf8_past_separator rest utf8 =
    let mark = trim_start rest in
    let is_mark = slice_index mark 0 == 61 || slice_index mark 0 == 58 in
    let marked = utf8_trim_start rest utf8 in
    cond_both is_mark (trim_start (drop 1 mark)) mark IsUtf8
    (λ e.
    let low : get_or mark 0 0 < 128 = ⊎_elim (λ x. omega (arith, eqb-true _ 61 x)) (λ x. omega (arith, eqb-true _ 58 x)) (or_cases (slice_index mark 0 == 61) (slice_index mark 0 == 58) e) in
    let there : 0 < length mark = ⊎_elim (λ x. nonempty mark 61 (eqb-true _ 61 x) (omega arith)) (λ x. nonempty mark 58 (eqb-true _ 58 x) (omega arith)) (or_cases (slice_index mark 0 == 61) (slice_index mark 0 == 58) e) in
    utf8_trim_start (drop 1 mark) (IsUtf8-drop mark 1 marked (IsCharBoundary-after_ascii mark 0 marked there low)))
    (λ _. marked)
  where
    nonempty : (xs : List ℕ) (b : ℕ) → slice_index xs 0 ≡ b → 0 < b → 0 < length xs
    nonempty [] b e h = absurd (omega arith)
    nonempty (x ∷ xs) b e h = omega arith

ends_key_is_ascii : (b : ℕ) → ends_key b ≡ true → b < 128
ends_key_is_ascii b h = ⊎_elim
    (λ x. ⊎_elim (λ y. omega (arith, eqb-true b 61 y)) (λ y. omega (arith, eqb-true b 58 y)) (or_cases (b == 61) (b == 58) x))
    (λ x. white_space_is_ascii b x) (or_cases (b == 61 || b == 58) (is_white_space b) h)

-- a text may be cut where a key ends
pub after_key : (text : List ℕ) (n : ℕ) → n ≤ length text → (n < length text → ends_key (slice_index text n) ≡ true) → IsCharBoundary text n
after_key text n within stop =
    ⊎_elim (λ lt. IsCharBoundary-before_ascii text n lt (ends_key_is_ascii _ (stop lt)))
    (λ ge. let whole : length text ≡ n = omega arith in subst (IsCharBoundary text) whole (IsCharBoundary-end text))
    (cases_lt n (length text))

-- a hexadecimal digit is ASCII
digit_is_ascii : (b : ℕ) → digit_value b < 16 → b < 128
digit_is_ascii b h = ⊎_elim (λ lt. lt) (λ ge. absurd (omega (arith, high_value b ge))) (cases_lt b 128)
  where
    high_value : (b : ℕ) → 128 ≤ b → digit_value b ≡ 36
    high_value b h = grind (arith, nat_tests)

-- four digits are ASCII, and what they are fits
record IsFour (bs : List ℕ) (unit : ℕ) : Type 0 where
  last : get_or bs 3 0 < 128
  within : 4 ≤ length bs
  bound : unit < 65536

long_enough : (bs : List ℕ) (k : ℕ) → digit_at bs k < 16 → k < length bs
long_enough bs k h = ⊎_elim (λ lt. lt) (λ ge. absurd (omega (arith, subst (λ (b : ℕ). digit_value b < 16) (get_or_past bs k 0 ge) h))) (cases_lt k (length bs))

four : (bs : List ℕ) (unit : ℕ) → hex_number bs ≡ Some unit → IsFour bs unit
four bs unit h =
    let test = nat_lt (digit_at bs 0) 16 && nat_lt (digit_at bs 1) 16 && nat_lt (digit_at bs 2) 16 && nat_lt (digit_at bs 3) 16 in
    let number = digit_at bs 0 * 4096 + digit_at bs 1 * 256 + digit_at bs 2 * 16 + digit_at bs 3 in
    ⊎_elim
    (λ t.
    let p = and_parts _ _ t in
    let q = and_parts _ _ p.0 in
    let r = and_parts _ _ q.0 in
    let d0 = ltb-true (digit_at bs 0) 16 r.0 in
    let d1 = ltb-true (digit_at bs 1) 16 r.1 in
    let d2 = ltb-true (digit_at bs 2) 16 q.1 in
    let d3 = ltb-true (digit_at bs 3) 16 p.1 in
    let same : number ≡ unit = some_same (sym (cond-true test (Some number) None t) ∙ h) in
    record {
      last = digit_is_ascii (get_or bs 3 0) d3;
      within = let e = long_enough bs 3 d3 in omega arith;
      bound = omega (arith, same);
    })
    (λ f. absurd (none_some (sym (cond-false test (Some number) None f) ∙ h)))
    (cases_Bool test)
  where
    some_same : {m n : ℕ} → Some m ≡ Some n → m ≡ n
    some_same e = cc

    none_some : {n : ℕ} → None ≡ Some n → ⊥
    none_some e = cc

-- what an escape spells and takes: a text, whose end is after an ASCII byte
record IsWhole (rest spelled : List ℕ) (taken : ℕ) : Type 0 where
  utf8 : IsUtf8 spelled
  some : 0 < taken
  within : taken ≤ length rest
  ascii : get_or rest (taken - 1) 0 < 128

plain_unit : (unit : ℕ) → unit < 65536 → is_high unit ≡ false → is_low unit ≡ false → IsScalar unit
plain_unit unit bound high low = grind (arith, nat_tests)

pair_unit : (high low : ℕ) → is_high high ≡ true → is_low low ≡ true → IsScalar (pair_char high low)
pair_unit high low h l = grind (arith, nat_tests)

some_same : {A : Type 0} {x y : A} → Some x ≡ Some y → x ≡ y
some_same e = cc

cond_then : {A : Type 0} (b : Bool) (o : Option A) (y : A) → cond b o None ≡ Some y → (b ≡ true) × (o ≡ Some y)
cond_then true o y e = (refl, e)
cond_then false o y e = cc

cond_else : {A : Type 0} (b : Bool) (o : Option A) (y : A) → cond b None o ≡ Some y → (b ≡ false) × (o ≡ Some y)
cond_else true o y e = cc
cond_else false o y e = (refl, e)

option_map_some : {A B : Type 0} (f : A → B) (o : Option A) (y : B) → option_map f o ≡ Some y → (x : A) × (o ≡ Some x) × (f x ≡ y)
option_map_some f None y e = cc
option_map_some f (Some x) y e = (x, refl, some_same e)

low_whole : (high : ℕ) (digits spelled : List ℕ) (taken : ℕ) → is_high high ≡ true → low_half high (drop 4 digits) ≡ Some (spelled, taken) → IsWhole (117 ∷ digits) spelled taken
low_whole high digits spelled taken h e =
    let bs = drop 4 digits in
    let a = cond_then (slice_index bs 0 == 92 && slice_index bs 1 == 117) _ _ e in
    option_and_then_some _ (hex_number (drop 2 bs)) (spelled, taken) a.1 (λ low found e2.
    let b = cond_some (is_low low) _ _ e2 in
    let f = four (drop 2 bs) low found in
    let same : encode_utf8 (pair_char high low) ≡ spelled = ap (λ (p : List ℕ × ℕ). p.0) b.1 in
    let eleven : 11 ≡ taken = ap (λ (p : List ℕ × ℕ). p.1) b.1 in
    let there : get_or (drop 2 bs) 3 0 ≡ get_or digits 9 0 = get_or-drop 2 bs 3 0 ∙ get_or-drop 4 digits 5 0 in
    record {
      utf8 = subst IsUtf8 same (IsUtf8-encode _ (pair_unit high low h b.0));
      some = omega arith;
      within = let w = f.within in omega (arith, length-drop 2 bs, length-drop 4 digits);
      ascii = subst (λ (k : ℕ). get_or (117 ∷ digits) (k - 1) 0 < 128) eleven (subst (λ (k : ℕ). k < 128) there f.last);
    })

unicode_whole : (digits spelled : List ℕ) (taken : ℕ) → unicode_escape digits ≡ Some (spelled, taken) → IsWhole (117 ∷ digits) spelled taken
unicode_whole digits spelled taken e =
    option_and_then_some _ (hex_number digits) (spelled, taken) e (λ unit found e2.
    let f = four digits unit found in
    ⊎_elim
    (λ h. low_whole unit digits spelled taken h (sym (cond-true (is_high unit) _ _ h) ∙ e2))
    (λ h.
    let b = cond_else (is_low unit) _ _ (sym (cond-false (is_high unit) _ _ h) ∙ e2) in
    let both : (encode_utf8 unit, 5) ≡ (spelled, taken) = some_same b.1 in
    let same : encode_utf8 unit ≡ spelled = ap (λ (p : List ℕ × ℕ). p.0) both in
    let five : 5 ≡ taken = ap (λ (p : List ℕ × ℕ). p.1) both in
    record {
      utf8 = subst IsUtf8 same (IsUtf8-encode _ (plain_unit unit f.bound h b.0));
      some = omega arith;
      within = let w = f.within in omega arith;
      ascii = subst (λ (k : ℕ). get_or (117 ∷ digits) (k - 1) 0 < 128) five f.last;
    })
    (cases_Bool (is_high unit)))

letter_is_ascii : (c : ℕ) → c < 128 → letter c < 128
letter_is_ascii c h = grind (arith, nat_tests)

other_letter : (c : ℕ) → 128 ≤ c → letter c ≡ c
other_letter c h = grind (arith, nat_tests)

one_byte : (c : ℕ) → c < 128 → IsUtf8 (c ∷ [])
one_byte c h = subst IsUtf8 (encode_ascii c h) (IsUtf8-encode c (low_scalar c (omega arith)))

ascii_escape : (c : ℕ) (bs spelled : List ℕ) (taken : ℕ) → c < 128 → escape (c ∷ bs) ≡ Some (spelled, taken) → IsWhole (c ∷ bs) spelled taken
ascii_escape c bs spelled taken low e =
    ⊎_elim
    (λ u. subst (λ (k : ℕ). IsWhole (k ∷ bs) spelled taken) (sym (eqb-true c 117 u)) (unicode_whole bs spelled taken (sym (cond-true (c == 117) _ _ u) ∙ e)))
    (λ n.
    let both : (letter c ∷ [], 1) ≡ (spelled, taken) = some_same (sym (cond-false (c == 117) _ _ n) ∙ e) in
    let same : letter c ∷ [] ≡ spelled = ap (λ (p : List ℕ × ℕ). p.0) both in
    let one : 1 ≡ taken = ap (λ (p : List ℕ × ℕ). p.1) both in
    record {
      utf8 = subst IsUtf8 same (one_byte (letter c) (letter_is_ascii c low));
      some = omega arith;
      within = omega arith;
      ascii = subst (λ (k : ℕ). get_or (c ∷ bs) (k - 1) 0 < 128) one low;
    })
    (cases_Bool (c == 117))

-- the bytes of a character that isn't ASCII stand for themselves
abbrev AllHigh : List ℕ → Type 0
AllHigh [] = Unit {0}
AllHigh (b ∷ bs) = (128 ≤ b) × AllHigh bs

high_bytes : (xs rest : List ℕ) → AllHigh xs → unescaped 0 (xs ++ rest) ≡ option_map (λ t. xs ++ t) (unescaped 0 rest)
high_bytes [] rest h = sym (option_map_same (unescaped 0 rest))
  where
    option_map_same : (o : Option (List ℕ)) → option_map (λ t. [] ++ t) o ≡ o
    option_map_same None = refl
    option_map_same (Some t) = refl
high_bytes (b ∷ bs) rest h =
    cond-false (b == 92) _ _ (ne_eqb b 92 (λ e. omega (arith, h.0, e))) ∙ ap (option_map (λ t. b ∷ t)) (high_bytes bs rest h.1) ∙ put_front (b ∷ []) bs (unescaped 0 rest)

encode_is_high : (c : ℕ) → 128 ≤ c → AllHigh (encode_utf8 c)
unfolding encode
encode_is_high c h =
    cond_both (nat_lt c 128) (c ∷ []) (cond (nat_lt c 2048) ((192 + c / 64) ∷ next c ∷ []) (cond (nat_lt c 65536) ((224 + c / 4096) ∷ next (c / 64) ∷ next c ∷ []) ((240 + c / 262144) ∷ next (c / 4096) ∷ next (c / 64) ∷ next c ∷ []))) AllHigh
    (λ low. let lt = ltb-true c 128 low in absurd (omega arith))
    (λ _. cond_both (nat_lt c 2048) ((192 + c / 64) ∷ next c ∷ []) (cond (nat_lt c 65536) ((224 + c / 4096) ∷ next (c / 64) ∷ next c ∷ []) ((240 + c / 262144) ∷ next (c / 4096) ∷ next (c / 64) ∷ next c ∷ [])) AllHigh
    (λ _. (omega arith, (omega arith, tt)))
    (λ _. cond_both (nat_lt c 65536) ((224 + c / 4096) ∷ next (c / 64) ∷ next c ∷ []) ((240 + c / 262144) ∷ next (c / 4096) ∷ next (c / 64) ∷ next c ∷ []) AllHigh
    (λ _. (omega arith, (omega arith, (omega arith, tt))))
    (λ _. (omega arith, (omega arith, (omega arith, (omega arith, tt)))))))

-- what follows a backslash, given that shorter spellings stand for texts
module _ (fuel : ℕ) (shorter : (bs text : List ℕ) → length bs ≤ fuel → IsUtf8 bs → unescaped 0 bs ≡ Some text → IsUtf8 text) where
  behind_escape : (rest spelled text : List ℕ) (taken : ℕ) → length rest ≤ fuel → IsUtf8 rest → IsWhole rest spelled taken → option_map (λ t. spelled ++ t) (unescaped taken rest) ≡ Some text → IsUtf8 text
  behind_escape rest spelled text taken fits utf8 whole e =
      let m = option_map_some (λ t. spelled ++ t) (unescaped taken rest) text e in
      let place : taken - 1 + 1 ≡ taken = let s = whole.some in omega arith in
      let boundary = subst (IsCharBoundary rest) place (IsCharBoundary-after_ascii rest (taken - 1) utf8 (let s = whole.some in let w = whole.within in omega arith) whole.ascii) in
      let after = shorter (drop taken rest) m.0 (omega (arith, length-drop taken rest)) (IsUtf8-drop rest taken utf8 boundary) (sym (unescaped_passes taken rest) ∙ m.1) in
      subst IsUtf8 m.2 (IsUtf8-append spelled m.0 whole.utf8 after)

  behind_backslash : (rest text : List ℕ) → length rest ≤ fuel → IsUtf8 rest → option_and_then (λ s. option_map (λ t. s.0 ++ t) (unescaped s.1 rest)) (escape rest) ≡ Some text → IsUtf8 text
  behind_backslash [] text fits utf8 e = subst IsUtf8 (some_same e) IsUtf8-nil
  behind_backslash (c ∷ bs) text fits utf8 e =
      ⊎_elim
      (λ low. option_and_then_some _ (escape (c ∷ bs)) text e (λ s found e2. behind_escape (c ∷ bs) s.0 text s.1 fits utf8 (ascii_escape c bs s.0 s.1 low found) e2))
      (λ high.
      let found : escape (c ∷ bs) ≡ Some (letter c ∷ [], 1) = cond-false (c == 117) _ _ (ne_eqb c 117 (λ x. omega arith)) in
      let e2 = sym (ap (option_and_then (λ s. option_map (λ t. s.0 ++ t) (unescaped s.1 (c ∷ bs)))) found) ∙ e in
      let e3 : option_map (λ t. c ∷ t) (unescaped 0 bs) ≡ Some text = ap (λ (k : ℕ). option_map (λ t. k ∷ t) (unescaped 0 bs)) (sym (other_letter c high)) ∙ e2 in
      shorter (c ∷ bs) text fits utf8 (cond-false (c == 92) _ _ (ne_eqb c 92 (λ x. omega arith)) ∙ e3))
      (cases_lt c 128)

stands_for_text : (fuel : ℕ) (cs text : List ℕ) → length (encode_utf8_all cs) ≤ fuel → all_scalars cs ≡ true → unescaped 0 (encode_utf8_all cs) ≡ Some text → IsUtf8 text
stands_for_text fuel [] text fits s e = subst IsUtf8 (some_same e) IsUtf8-nil
stands_for_text zero (c ∷ cs) text fits s e = absurd (omega (arith, length-append (encode_utf8 c) (encode_utf8_all cs), length-encode c, (len_utf8_bounds c).0))
stands_for_text (suc fuel) (c ∷ cs) text fits s e =
    let rest = encode_utf8_all cs in
    let scalars : (scalar c ≡ true) × (all_scalars cs ≡ true) = and_parts (scalar c) (all_scalars cs) s in
    let shorter = λ (bs t : List ℕ) (l : length bs ≤ fuel) (u : IsUtf8 bs) (x : unescaped 0 bs ≡ Some t). stands_for_text fuel u.0 t (subst (λ (k : List ℕ). length k ≤ fuel) (sym u.1.1) l) u.1.0 (ap (unescaped 0) u.1.1 ∙ x) in
    let left : length rest ≤ fuel = omega (arith, length-append (encode_utf8 c) rest, length-encode c, (len_utf8_bounds c).0) in
    let utf8 : IsUtf8 rest = (cs, (scalars.1, refl)) in
    ⊎_elim
    (λ low.
    let one : encode_utf8 c ++ rest ≡ c ∷ rest = ap (λ (k : List ℕ). k ++ rest) (encode_ascii c low) in
    let e1 = ap (unescaped 0) (sym one) ∙ e in
    ⊎_elim
    (λ eq. behind_backslash fuel shorter rest text left utf8 (sym (cond-true (c == 92) _ _ (eq-eqb c 92 eq)) ∙ e1))
    (λ ne.
    let m = option_map_some (λ t. c ∷ t) (unescaped 0 rest) text (sym (cond-false (c == 92) _ _ (ne_eqb c 92 ne)) ∙ e1) in
    subst IsUtf8 m.2 (IsUtf8-append (c ∷ []) m.0 (one_byte c low) (shorter rest m.0 left utf8 m.1)))
    (cases_eq c 92))
    (λ high.
    let m = option_map_some (λ t. encode_utf8 c ++ t) (unescaped 0 rest) text (sym (high_bytes (encode_utf8 c) rest (encode_is_high c high)) ∙ e) in
    subst IsUtf8 m.2 (IsUtf8-append (encode_utf8 c) m.0 (IsUtf8-encode c scalars.0) (shorter rest m.0 left utf8 m.1)))
    (cases_lt c 128)

-- what a spelling stands for is a text
pub utf8_unescaped : (raw text : List ℕ) → IsUtf8 raw → unescaped 0 raw ≡ Some text → IsUtf8 text
utf8_unescaped raw text utf8 e = stands_for_text (length raw) utf8.0 text (subst (λ (k : List ℕ). length k ≤ length raw) (sym utf8.1.1) (omega arith)) utf8.1.0 (ap (unescaped 0) utf8.1.1 ∙ e)
