-- A date is read from a text piece by piece.
use Rattle.std.proofs.Common.{◌≡◌, ℕ, zero, suc, ◌+◌, ◌-◌, ◌*◌, ◌/◌, ◌%◌, ◌^◌, ◌<◌, ◌≤◌, Bool, true, false, ◌&&◌, ◌||◌, List, [], ◌∷◌, ◌++◌, length, take, drop, get_or, refl, sym, ap, ◌∙◌, subst, append_assoc, arith, flat_map, map, Some, None, nat_eq, if◌then◌else◌, length-append, add-one}
use Rattle.std.specs.List.{starts_with}
use Rattle.std.specs.Char.{is_ascii_digit}
use Rattle.std.proofs.Math.Seq.{take-append_seam}
use Rattle.std.proofs.lemmas.List.{append_cancel_left, append-nil, take_more, drop_more, take-append-drop, map-append}
use Rattle.std.proofs.Math.ListN.{drop_of_length-le}
use Rattle.std.proofs.lemmas.Slice.Eq.{bytes_eq-Decides}
use Rattle.std.specs.Str.{bytes_eq}
use Rattle.std.proofs.lemmas.Slice.Eq.{starts_is}
use Rattle.std.proofs.lemmas.Bool.Decides.{Decides-eqb}
use Rattle.std.proofs.Math.Nat.{pow-suc}
use Rattle.std.proofs.lemmas.List.Folds.{list_any-append}
use Rattle.std.proofs.lemmas.List.Sums.{fold-append}
use Rattle.std.proofs.lemmas.Nat.{div-mul-add}
use Rattle.std.proofs.lemmas.Grind.{flat_map-append, common_steps}
use Rattle.regex_steps.specs.declared.civil.Field.{Field}
use Rattle.regex_steps.specs.declared.date_pattern.Part.{Part}
use Rattle.regex_steps.specs.declared.civil.Field.TheVariants.{Year, Month, Day, Hour, Minute, Second, Millisecond}
use Rattle.regex_steps.specs.declared.civil.CivilTime.{CivilTime}
use Rattle.regex_steps.specs.Dates.{Piece, piece, is_day, is_time, milliseconds, milliseconds_in, Digits, Plain, Quoted, same, is_field, has, are_once, digit_count, digits, number, are_digits, shown, width, value, value_at, with_value, default, civil_in, Reads, ReadsNot}
use Rattle.regex_steps.proofs.DatePieces.{same_field, same-refl, once_before}

no_true : {P : Type 0} → false ≡ true → P
no_true e = cc

no_false : {P : Type 0} → true ≡ false → P
no_false e = cc

and_first : (p q : Bool) → (p && q) ≡ true → p ≡ true
and_first true q h = refl
and_first false q h = no_true h

and_right : (p q : Bool) → (p && q) ≡ true → q ≡ true
and_right true q h = h
and_right false q h = no_true h

both : (a b : Bool) → a ≡ true → b ≡ true → (a && b) ≡ true
both true b ea eb = eb
both false b ea eb = no_true ea

-- Digits and numbers.

-- two texts in a row are digits where both are
pub are_digits-append : (s t : List ℕ) → are_digits (s ++ t) ≡ (are_digits s && are_digits t)
are_digits-append [] t = refl
are_digits-append (c ∷ s) t = rw (are_digits-append s t) (and_assoc (is_ascii_digit c) (are_digits s) (are_digits t))
  where
    and_assoc : (a b c : Bool) → (a && (b && c)) ≡ ((a && b) && c)
    and_assoc true b c = refl
    and_assoc false b c = refl

-- a number is written in as many digits as it is asked for
pub length-digits : (k n : ℕ) → length (digits k n) ≡ k
unfolding digits
length-digits zero n = refl
length-digits (suc k) n = length-append (digits k (n / 10)) ((48 + n % 10) ∷ []) ∙ omega (arith, length-digits k (n / 10))

is_digit : (d : ℕ) → d < 10 → is_ascii_digit (48 + d) ≡ true
is_digit d h = grind arith

-- the digits of a number are digits
pub are_digits-digits : (k n : ℕ) → are_digits (digits k n) ≡ true
unfolding digits
are_digits-digits zero n = refl
are_digits-digits (suc k) n =
    are_digits-append (digits k (n / 10)) ((48 + n % 10) ∷ [])
    ∙ both _ _ (are_digits-digits k (n / 10)) (both _ _ (is_digit (n % 10) (omega arith)) refl)

-- the number of a text with a digit more
pub number-more : (s : List ℕ) (c : ℕ) → number (s ++ c ∷ []) ≡ number s * 10 + (c - 48)
number-more s c = fold-append (λ (n c : ℕ). n * 10 + (c - 48)) 0 s (c ∷ [])

digit_bounds : (c : ℕ) → is_ascii_digit c ≡ true → (48 ≤ c) × (c ≤ 57)
digit_bounds c h = (grind arith, grind arith)

-- the last of some elements, and those before it
record Last {A : Type 0} (xs : List A) : Type 0 where
  front : List A
  last : A
  is : xs ≡ front ++ last ∷ []

last_of : {A : Type 0} (x : A) (xs : List A) → Last (x ∷ xs)
last_of x [] = record { front = []; last = x; is = refl }
last_of x (y ∷ xs) = let rest = last_of y xs in record { front = x ∷ rest.front; last = rest.last; is = ap (λ (zs : List _). x ∷ zs) rest.is }

-- digits are those of the number that they are
pub digits-number : (k : ℕ) (text : List ℕ) → length text ≡ k → are_digits text ≡ true → digits k (number text) ≡ text
unfolding digits
digits-number zero [] e h = refl
digits-number zero (c ∷ text) e h = absurd (omega arith)
digits-number (suc k) [] e h = absurd (omega arith)
digits-number (suc k) (c ∷ text) e h =
    let l = last_of c text in
    let len : length l.front + 1 ≡ suc k = sym (length-append l.front (l.last ∷ [])) ∙ ap length (sym l.is) ∙ e in
    let parts = sym (are_digits-append l.front (l.last ∷ [])) ∙ ap are_digits (sym l.is) ∙ h in
    let last_digit = digit_bounds l.last (and_first _ true (and_right (are_digits l.front) _ parts)) in
    let front_same = digits-number k l.front (omega arith) (and_first _ _ parts) in
    let n : number (c ∷ text) ≡ number l.front * 10 + (l.last - 48) = ap number l.is ∙ number-more l.front l.last in
    let tens : number (c ∷ text) / 10 ≡ number l.front = ap (λ (m : ℕ). m / 10) n ∙ div-mul-add (number l.front) 10 (l.last - 48) (omega arith) in
    let ones : 48 + number (c ∷ text) % 10 ≡ l.last = omega arith in
    ap (λ (m : ℕ). digits k m ++ (48 + number (c ∷ text) % 10) ∷ []) tens
    ∙ ap (λ (d : ℕ). digits k (number l.front) ++ d ∷ []) ones
    ∙ ap (λ (s : List ℕ). s ++ l.last ∷ []) front_same
    ∙ sym l.is

-- Fields.

-- a field that is set has its number, and the others keep theirs
pub value-with : (t : CivilTime) (f g : Field) (n : ℕ) → value (with_value t f n) g ≡ (if same f g then n else value t g)
value-with t Year Year n = refl
value-with t Month Month n = refl
value-with t Day Day n = refl
value-with t Hour Hour n = refl
value-with t Minute Minute n = refl
value-with t Second Second n = refl
value-with t Millisecond Millisecond n = refl
value-with t f g n = refl

-- the time in a text has of each field the number that stands there
pub value-civil_in : (pieces : List Piece) (text : List ℕ) (f : Field) → value (civil_in pieces text) f ≡ value_at f pieces text
value-civil_in pieces text Year = refl
value-civil_in pieces text Month = refl
value-civil_in pieces text Day = refl
value-civil_in pieces text Hour = refl
value-civil_in pieces text Minute = refl
value-civil_in pieces text Second = refl
value-civil_in pieces text Millisecond = refl

abbrev civil_of : (y m d h n s l : ℕ) → CivilTime
civil_of y m d h n s l = record { year = y; month = m; day = d; hour = h; minute = n; second = s; millisecond = l }

-- times whose fields have the same numbers are the same
pub same_time : (a b : CivilTime) → ((f : Field) → value a f ≡ value b f) → a ≡ b
same_time a b h = made a.year a.month a.day a.hour a.minute a.second a.millisecond _ _ _ _ _ _ _ (h Year) (h Month) (h Day) (h Hour) (h Minute) (h Second) (h Millisecond)
  where
    made : (y m d h n s l y' m' d' h' n' s' l' : ℕ) → y ≡ y' → m ≡ m' → d ≡ d' → h ≡ h' → n ≡ n' → s ≡ s' → l ≡ l' → civil_of y m d h n s l ≡ civil_of y' m' d' h' n' s' l'
    made y m d h n s l y' m' d' h' n' s' l' a b c e f g i = cc (a, b, c, e, f, g, i)

-- What was read so far: the text's front is that of the pieces that were read, as the whole text has their numbers.
pub record HasRead (read left : List Piece) (text rest : List ℕ) (whole time : CivilTime) : Type 0 where
  pub front : text ≡ flat_map (shown whole) read ++ rest
  pub seen : (f : Field) → has f read ≡ true → value time f ≡ value whole f
  pub other : (f : Field) → has f read ≡ false → (value time f ≡ default f) × (value_at f left rest ≡ value whole f)

-- before the first piece, every field has its default
pub has_read_none : (pieces : List Piece) (text : List ℕ) (time : CivilTime) → ((f : Field) → value time f ≡ default f) → HasRead [] pieces text text (civil_in pieces text) time
has_read_none pieces text time h = record {
  front = refl;
  seen = λ f e. no_true e;
  other = λ f e. (h f, sym (value-civil_in pieces text f));
}

take-seam : (found rest : List ℕ) (k : ℕ) → length found ≡ k → take k (found ++ rest) ≡ found
take-seam found rest k e = let P : ℕ → Type 0 = λ n. take n (found ++ rest) ≡ found in subst P e (take-append_seam found rest)

drop-seam : (found rest : List ℕ) (k : ℕ) → length found ≡ k → drop k (found ++ rest) ≡ rest
drop-seam found rest k e = let P : ℕ → Type 0 = λ n. drop n (found ++ rest) ≡ rest in subst P e (go found)
  where
    go : (s : List ℕ) → drop (length s) (s ++ rest) ≡ rest
    go [] = refl
    go (x ∷ s) = go s

front_more : (read : List Piece) (p : Piece) (text rest next : List ℕ) (whole : CivilTime) → text ≡ flat_map (shown whole) read ++ rest → rest ≡ shown whole p ++ next → text ≡ flat_map (shown whole) (read ++ p ∷ []) ++ next
front_more read p text rest next whole e is =
    e ∙ ap (λ (x : List ℕ). flat_map (shown whole) read ++ x) is
    ∙ sym (append_assoc (flat_map (shown whole) read) (shown whole p) next)
    ∙ ap (λ (x : List ℕ). x ++ next) (ap (λ (x : List ℕ). flat_map (shown whole) read ++ x) (sym (append-nil (shown whole p))) ∙ sym (flat_map-append (shown whole) read (p ∷ [])))

-- a piece that is no field changes no number
read_literal : (read left : List Piece) (p : Piece) (text rest next : List ℕ) (whole time : CivilTime) → ((f : Field) → is_field f p ≡ false) → ((t : CivilTime) → rest ≡ shown t p ++ next) → drop (width p) rest ≡ next → HasRead read (p ∷ left) text rest whole time → HasRead (read ++ p ∷ []) left text next whole time
read_literal read left p text rest next whole time no_field is behind h = record {
  front = front_more read p text rest next whole h.front (is whole);
  seen = λ f e. h.seen f (sym (kept f) ∙ e);
  other = λ f e. let o = h.other f (sym (kept f) ∙ e) in (o.0, ap (value_at f left) (sym behind) ∙ sym (skipped f) ∙ o.1);
}
  where
    kept : (f : Field) → has f (read ++ p ∷ []) ≡ has f read
    kept f = list_any-append (is_field f) read (p ∷ []) ∙ rw (no_field f) (or_false (has f read))
      where
        or_false : (b : Bool) → (b || false) ≡ b
        or_false true = refl
        or_false false = refl

    skipped : (f : Field) → value_at f (p ∷ left) rest ≡ value_at f left (drop (width p) rest)
    skipped f = rw (no_field f) refl

-- one more piece is read
pub reads_more : (read left : List Piece) (p : Piece) (text rest next : List ℕ) (whole time new : CivilTime) → are_once (read ++ p ∷ left) ≡ true → Reads p rest next time new → HasRead read (p ∷ left) text rest whole time → HasRead (read ++ p ∷ []) left text next whole new
reads_more read left (Plain c) text rest next whole time new once (is, same) h =
    rw same (read_literal read left (Plain c) text rest next whole time (λ f. refl) (λ t. is) (ap (drop 1) is) h)
reads_more read left (Quoted s) text rest next whole time new once (is, same) h =
    rw same (read_literal read left (Quoted s) text rest next whole time (λ f. refl) (λ t. is) (ap (drop (length s)) is ∙ drop-seam s next (length s) refl) h)
reads_more read left (Digits f) text rest next whole time new once (found, is, len, digit, set) h = record {
  front = front_more read (Digits f) text rest next whole h.front (is ∙ ap (λ (x : List ℕ). x ++ next) (sym (digits-number (digit_count f) found len digit) ∙ ap (digits (digit_count f)) (sym number_is)));
  seen = λ g e. ap (λ (t : CivilTime). value t g) set ∙ value-with time f g (number found) ∙ found_or_seen g e (same f g) refl;
  other = λ g e.
      let apart = or_both (has g read) (is_field g (Digits f)) (sym (grown g) ∙ e) in
      let o = h.other g apart.0 in
      let differ : same f g ≡ false = turned g f apart.1 in (
        ap (λ (t : CivilTime). value t g) set ∙ value-with time f g (number found) ∙ rw differ o.0,
        ap (value_at g left) (sym (ap (drop (digit_count f)) is ∙ drop-seam found next (digit_count f) len)) ∙ sym (skipped g apart.1) ∙ o.1,
      );
}
  where
    before : has f read ≡ false
    before = once_before read left (Digits f) once

    number_is : value whole f ≡ number found
    number_is = sym (h.other f before).1 ∙ rw (same-refl f) (ap number (ap (take (digit_count f)) is ∙ take-seam found next (digit_count f) len))

    grown : (g : Field) → has g (read ++ Digits f ∷ []) ≡ (has g read || is_field g (Digits f))
    grown g = list_any-append (is_field g) read (Digits f ∷ []) ∙ ap (λ (b : Bool). has g read || b) (or_false (same g f))
      where
        or_false : (b : Bool) → (b || false) ≡ b
        or_false true = refl
        or_false false = refl

    or_both : (a b : Bool) → (a || b) ≡ false → (a ≡ false) × (b ≡ false)
    or_both true b e = no_false e
    or_both false b e = (refl, e)

    turned : (g f : Field) → same g f ≡ false → same f g ≡ false
    turned g f e = by (same f g) refl
      where
        by : (b : Bool) → same f g ≡ b → b ≡ false
        by false i = refl
        by true i =
            let P : Field → Type 0 = λ k. same g k ≡ false in
            no_false (sym (same-refl g) ∙ subst P (same_field f g i) e)

    skipped : (g : Field) → same g f ≡ false → value_at g (Digits f ∷ left) rest ≡ value_at g left (drop (digit_count f) rest)
    skipped g e = rw e refl

    found_or_seen : (g : Field) → has g (read ++ Digits f ∷ []) ≡ true → (b : Bool) → same f g ≡ b → (if b then number found else value time g) ≡ value whole g
    found_or_seen g e true i = sym number_is ∙ ap (value whole) (same_field f g i)
    found_or_seen g e false i = h.seen g (only (has g read) (same g f) (sym (grown g) ∙ e) (turned f g i))
      where
        only : (a b : Bool) → (a || b) ≡ true → b ≡ false → a ≡ true
        only true b u v = refl
        only false b u v = no_true (sym v ∙ u)

-- where a piece does not stand in front, the text is not that of the whole
pub reads_no_more : (read left : List Piece) (p : Piece) (text rest : List ℕ) (whole time : CivilTime) → ReadsNot p rest → HasRead read (p ∷ left) text rest whole time → text ≡ flat_map (shown whole) (read ++ p ∷ left) → ⊥
reads_no_more read left p text rest whole time not h e =
    not whole (flat_map (shown whole) left) (append_cancel_left (flat_map (shown whole) read) rest (shown whole p ++ flat_map (shown whole) left) (sym h.front ∙ e ∙ flat_map-append (shown whole) read (p ∷ left)))

-- where all pieces were read and nothing is left
pub reads_all : (pieces : List Piece) (text rest : List ℕ) (whole time : CivilTime) → length rest ≡ 0 → HasRead pieces [] text rest whole time → (time ≡ whole) × (text ≡ flat_map (shown time) pieces)
reads_all pieces text (c ∷ rest) whole time none h = absurd (omega arith)
reads_all pieces text [] whole time none h =
    let is = same_time time whole (λ f. either f (has f pieces) refl) in
    let P : CivilTime → Type 0 = λ t. text ≡ flat_map (shown t) pieces in
    (is, subst P (sym is) (h.front ∙ append-nil (flat_map (shown whole) pieces)))
  where
    either : (f : Field) (b : Bool) → has f pieces ≡ b → value time f ≡ value whole f
    either f true e = h.seen f e
    either f false e = let o = h.other f e in o.0 ∙ o.1

-- where something is left after all pieces
pub reads_too_few : (pieces : List Piece) (text rest : List ℕ) (whole time : CivilTime) → 0 < length rest → HasRead pieces [] text rest whole time → text ≡ flat_map (shown whole) pieces → ⊥
reads_too_few pieces text rest whole time some h e =
    let none : rest ≡ [] = append_cancel_left (flat_map (shown whole) pieces) rest [] (sym h.front ∙ e ∙ sym (append-nil (flat_map (shown whole) pieces))) in
    let n : length rest ≡ 0 = ap length none in
    omega arith

-- too few bytes for the digits of a field, or bytes that are none
pub too_short : (f : Field) (text : List ℕ) → length text < digit_count f → ReadsNot (Digits f) text
too_short f text h t rest e =
    let n : length text ≡ digit_count f + length rest = ap length e ∙ length-append (digits (digit_count f) (value t f)) rest ∙ ap (λ (m : ℕ). m + length rest) (length-digits (digit_count f) (value t f)) in
    omega arith

-- where a field's bytes are not all digits, the field is not read
pub no_digits : (f : Field) (text : List ℕ) → are_digits (take (digit_count f) text) ≡ false → ReadsNot (Digits f) text
no_digits f text h t rest e =
    let found = digits (digit_count f) (value t f) in
    let same : take (digit_count f) text ≡ found = ap (take (digit_count f)) e ∙ take-seam found rest (digit_count f) (length-digits (digit_count f) (value t f)) in
    no_true (sym h ∙ ap are_digits same ∙ are_digits-digits (digit_count f) (value t f))

-- one more digit
pub number_step : (text : List ℕ) (i n d : ℕ) → i < length text → is_ascii_digit (get_or text i 0) ≡ true → d ≡ get_or text i 0 - 48 → are_digits (take i text) ≡ true → n ≡ number (take i text) → n < 10 ^ i → (are_digits (take (i + 1) text) ≡ true) × (n * 10 + d ≡ number (take (i + 1) text)) × (n * 10 + d < 10 ^ (i + 1))
number_step text i n d lt digit d_is so_far n_is bound =
    let c = get_or text i 0 in
    let more = take_more text i 0 lt in
    let bounds = digit_bounds c digit in
    let power : 10 ^ (i + 1) ≡ 10 ^ i * 10 = ap (λ (k : ℕ). 10 ^ k) (add-one i) ∙ pow-suc 10 i in (
      ap are_digits more ∙ are_digits-append (take i text) (c ∷ []) ∙ both _ _ so_far (both _ _ digit refl),
      rw (n_is, d_is) (sym (ap number more ∙ number-more (take i text) c)),
      omega arith,
    )

-- a quoted text stands at the front, or not
pub quoted_not : (text literal : List ℕ) → starts_with nat_eq text literal ≡ false → ReadsNot (Quoted literal) text
quoted_not text literal h t rest e = no_true (sym h ∙ (starts_is Decides-eqb text literal (starts_with nat_eq text literal) refl).1 rest e)

-- a text that begins with a quoted one is that and the bytes behind it
pub quoted_is : (text literal : List ℕ) → starts_with nat_eq text literal ≡ true → text ≡ literal ++ drop (length literal) text
quoted_is text literal h = (starts_is Decides-eqb text literal (starts_with nat_eq text literal) refl).0 h

-- Parts, as a loop goes over them.

parts_split : (parts : List Part) (i : ℕ) (p : Part) → i < length parts → p ≡ get_or parts i p → (map piece (take (i + 1) parts) ≡ map piece (take i parts) ++ piece p ∷ []) × (map piece (drop i parts) ≡ piece p ∷ map piece (drop (i + 1) parts)) × (map piece parts ≡ map piece (take i parts) ++ piece p ∷ map piece (drop (i + 1) parts))
parts_split parts i p lt is =
    let here : List Part → Type 0 = λ xs. drop i parts ≡ xs in
    let behind = ap (map piece) (drop_more parts i p lt ∙ ap (λ (q : Part). q ∷ drop (i + 1) parts) (sym is)) in (
      ap (map piece) (take_more parts i p lt ∙ ap (λ (q : Part). take i parts ++ q ∷ []) (sym is)) ∙ map-append piece (take i parts) (p ∷ []),
      behind,
      ap (map piece) (sym (take-append-drop i parts)) ∙ map-append piece (take i parts) (drop i parts) ∙ ap (λ (ps : List Piece). map piece (take i parts) ++ ps) behind,
    )

module _ (parts : List Part) (i : ℕ) (p : Part) (lt : i < length parts) (is : p ≡ get_or parts i p) (text rest : List ℕ) (whole time : CivilTime) (h : HasRead (map piece (take i parts)) (map piece (drop i parts)) text rest whole time) where
  here : HasRead (map piece (take i parts)) (piece p ∷ map piece (drop (i + 1) parts)) text rest whole time
  here = let P : List Piece → Type 0 = λ left. HasRead (map piece (take i parts)) left text rest whole time in subst P (parts_split parts i p lt is).1 h

  -- the part in front was read
  pub part_read : (next : List ℕ) (new : CivilTime) → are_once (map piece parts) ≡ true → Reads (piece p) rest next time new → HasRead (map piece (take (i + 1) parts)) (map piece (drop (i + 1) parts)) text next whole new
  part_read next new once r =
      let split = parts_split parts i p lt is in
      let P : List Piece → Type 0 = λ read. HasRead read (map piece (drop (i + 1) parts)) text next whole new in
      subst P (sym split.0) (reads_more (map piece (take i parts)) (map piece (drop (i + 1) parts)) (piece p) text rest next whole time new (ap are_once (sym split.2) ∙ once) r here)

  -- where the part in front was not read, the text is not that of the whole
  pub part_not_read : ReadsNot (piece p) rest → text ≡ flat_map (shown whole) (map piece parts) → ⊥
  part_not_read not e =
      reads_no_more (map piece (take i parts)) (map piece (drop (i + 1) parts)) (piece p) text rest whole time not here (e ∙ ap (flat_map (shown whole)) (parts_split parts i p lt is).2)

-- after the last part all of them were read
pub parts_read : (parts : List Part) (i : ℕ) (text rest : List ℕ) (whole time : CivilTime) → length parts ≤ i → HasRead (map piece (take i parts)) (map piece (drop i parts)) text rest whole time → HasRead (map piece parts) [] text rest whole time
parts_read parts i text rest whole time le h =
    let none : drop i parts ≡ [] = drop_of_length-le parts le in
    let all : take i parts ≡ parts = sym (append-nil (take i parts)) ∙ ap (λ (ps : List Part). take i parts ++ ps) (sym none) ∙ take-append-drop i parts in
    let P : List Part → Type 0 = λ left. HasRead (map piece (take i parts)) (map piece left) text rest whole time in
    let Q : List Part → Type 0 = λ read. HasRead (map piece read) [] text rest whole time in
    subst Q all (subst P none h)

-- a text whose fields were read is a date where they are one
pub date_is : (pieces : List Piece) (text : List ℕ) (time : CivilTime) → time ≡ civil_in pieces text → text ≡ flat_map (shown time) pieces → (if is_day time && is_time time then Some (milliseconds time) else None) ≡ milliseconds_in pieces text
date_is pieces text time is spelled =
    let t = civil_in pieces text in
    let same : bytes_eq text (flat_map (shown t) pieces) ≡ true = (bytes_eq-Decides text (flat_map (shown t) pieces)).1 (spelled ∙ ap (λ (u : CivilTime). flat_map (shown u) pieces) is) in
    ap (λ (u : CivilTime). if is_day u && is_time u then Some (milliseconds u) else None) is ∙ rw same refl

-- a text that is not spelled as its own time is no date
pub no_date_is : (pieces : List Piece) (text : List ℕ) → (text ≡ flat_map (shown (civil_in pieces text)) pieces → ⊥) → None ≡ milliseconds_in pieces text
no_date_is pieces text not =
    let t = civil_in pieces text in
    either (bytes_eq text (flat_map (shown t) pieces)) refl
  where
    either : (b : Bool) → bytes_eq text (flat_map (shown (civil_in pieces text)) pieces) ≡ b → None ≡ milliseconds_in pieces text
    either true e = absurd (not ((bytes_eq-Decides text _).0 e))
    either false e = rw e refl

-- to take all that is left after an offset takes all of it
pub take_all : (k : ℕ) (text : List ℕ) → take (length text - k) (drop k text) ≡ drop k text
take_all k text = grind (arith, common_steps)
