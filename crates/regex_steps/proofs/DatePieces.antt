-- A pattern has one reading, since no piece begins as another does.
use Rattle.std.proofs.Common.{◌≡◌, ℕ, ◌<◌, Bool, true, false, not, ◌&&◌, ◌||◌, ◌==◌, List, [], ◌∷◌, ◌++◌, length, refl, sym, ap, ◌∙◌, subst, append_assoc, arith, flat_map, map}
use Rattle.std.specs.List.{list_any, AllByRecursion}
use Rattle.std.proofs.lemmas.List.{append_cancel_left, append-nil, map-append}
use Rattle.std.proofs.lemmas.List.Folds.{list_any-append}
use Rattle.std.proofs.lemmas.Bool.Decides.{Decides-eqb}
use Rattle.std.proofs.lemmas.Grind.{flat_map-append}
use Rattle.regex_steps.specs.declared.civil.Field.{Field}
use Rattle.regex_steps.specs.declared.date_pattern.Part.{Part}
use Rattle.regex_steps.specs.declared.civil.Field.TheVariants.{Year, Month, Day, Hour, Minute, Second, Millisecond}
use Rattle.regex_steps.specs.Dates.{Piece, piece, Digits, Plain, Quoted, IsPiece, spelled, letters, same, is_plain, is_quote, is_field, has, are_once, repeats, IsPattern, IsNoDatePattern, BeginsNone}

no_true : {P : Type 0} → false ≡ true → P
no_true e = cc

no_false : {P : Type 0} → true ≡ false → P
no_false e = cc

-- fields that the test finds the same are the same
pub same_field : (f g : Field) → same f g ≡ true → f ≡ g
same_field Year Year h = refl
same_field Month Month h = refl
same_field Day Day h = refl
same_field Hour Hour h = refl
same_field Minute Minute h = refl
same_field Second Second h = refl
same_field Millisecond Millisecond h = refl
same_field f g h = no_true h

-- a field is found the same as itself
pub same-refl : (f : Field) → same f f ≡ true
same-refl Year = refl
same-refl Month = refl
same-refl Day = refl
same-refl Hour = refl
same-refl Minute = refl
same-refl Second = refl
same-refl Millisecond = refl

first_is : {A : Type 0} (x y : A) (xs ys : List A) → x ∷ xs ≡ y ∷ ys → x ≡ y
first_is x y xs ys e = cc

rest_is : {A : Type 0} (x y : A) (xs ys : List A) → x ∷ xs ≡ y ∷ ys → xs ≡ ys
rest_is x y xs ys e = cc

-- a letter that begins a field is no plain byte
pub record Begins (text : List ℕ) : Type 0 where
  pub byte : ℕ
  pub behind : List ℕ
  pub is : text ≡ byte ∷ behind
  pub letter : is_plain byte ≡ false
  pub no_quote : is_quote byte ≡ false

-- the letters of each field begin with a byte that is neither plain nor a quote
pub letters_begin : (f : Field) → Begins (letters f)
letters_begin Year = record { byte = 121; behind = _; is = refl; letter = refl; no_quote = refl }
letters_begin Month = record { byte = 77; behind = _; is = refl; letter = refl; no_quote = refl }
letters_begin Day = record { byte = 100; behind = _; is = refl; letter = refl; no_quote = refl }
letters_begin Hour = record { byte = 72; behind = _; is = refl; letter = refl; no_quote = refl }
letters_begin Minute = record { byte = 109; behind = _; is = refl; letter = refl; no_quote = refl }
letters_begin Second = record { byte = 115; behind = _; is = refl; letter = refl; no_quote = refl }
letters_begin Millisecond = record { byte = 83; behind = _; is = refl; letter = refl; no_quote = refl }

letters_apart : (f g : Field) (a b : List ℕ) → letters f ++ a ≡ letters g ++ b → f ≡ g
letters_apart Year Year a b e = refl
letters_apart Month Month a b e = refl
letters_apart Day Day a b e = refl
letters_apart Hour Hour a b e = refl
letters_apart Minute Minute a b e = refl
letters_apart Second Second a b e = refl
letters_apart Millisecond Millisecond a b e = refl
letters_apart f g a b e = absurd (omega (arith, first_is _ _ _ _ e))

-- a text goes up to the next quote
quoted_apart : (s t a b : List ℕ) → list_any is_quote s ≡ false → list_any is_quote t ≡ false → s ++ 39 ∷ a ≡ t ++ 39 ∷ b → (s ≡ t) × (a ≡ b)
quoted_apart [] [] a b hs ht e = (refl, rest_is _ _ _ _ e)
quoted_apart [] (x ∷ t) a b hs ht e =
    let q : 39 ≡ x = first_is _ _ _ _ e in
    let P : ℕ → Type 0 = λ y. (is_quote y || list_any is_quote t) ≡ false in
    no_false (subst P (sym q) ht)
quoted_apart (x ∷ s) [] a b hs ht e =
    let q : x ≡ 39 = first_is _ _ _ _ e in
    let P : ℕ → Type 0 = λ y. (is_quote y || list_any is_quote s) ≡ false in
    no_false (subst P q hs)
quoted_apart (x ∷ s) (y ∷ t) a b hs ht e =
    let q : x ≡ y = first_is _ _ _ _ e in
    let rest = quoted_apart s t a b (or_right (is_quote x) (list_any is_quote s) hs) (or_right (is_quote y) (list_any is_quote t) ht) (rest_is _ _ _ _ e) in
    (cc (q, rest.0), rest.1)
  where
    or_right : (p q : Bool) → (p || q) ≡ false → q ≡ false
    or_right true q h = no_false h
    or_right false q h = h

spelled_quoted : (s a : List ℕ) → spelled (Quoted s) ++ a ≡ 39 ∷ (s ++ 39 ∷ a)
spelled_quoted s a = ap (λ (x : List ℕ). 39 ∷ x) (append_assoc s (39 ∷ []) a)

plain_not_quote : (c : ℕ) → is_plain c ≡ true → c ≡ 39 → ⊥
plain_not_quote c h e = let P : ℕ → Type 0 = λ y. is_plain y ≡ true in no_true (subst P e h)

-- no piece begins as another
pub pieces_apart : (p q : Piece) (a b : List ℕ) → IsPiece p → IsPiece q → spelled p ++ a ≡ spelled q ++ b → (p ≡ q) × (a ≡ b)
pieces_apart (Digits f) (Digits g) a b hp hq e =
    let same = letters_apart f g a b e in
    let P : Field → Type 0 = λ h. letters f ++ a ≡ letters h ++ b in
    (ap Digits same, append_cancel_left (letters f) a b (subst P (sym same) e))
pieces_apart (Digits f) (Plain c) a b hp hq e =
    let begins = letters_begin f in
    let q : begins.byte ≡ c = first_is _ _ _ _ (rw begins.is at e) in
    let P : ℕ → Type 0 = λ y. is_plain y ≡ false in
    no_true (sym (subst P q begins.letter) ∙ hq)
pieces_apart (Plain c) (Digits f) a b hp hq e =
    let begins = letters_begin f in
    let q : c ≡ begins.byte = first_is _ _ _ _ (rw begins.is at e) in
    let P : ℕ → Type 0 = λ y. is_plain y ≡ false in
    no_true (sym (subst P (sym q) begins.letter) ∙ hp)
pieces_apart (Digits f) (Quoted t) a b hp hq e =
    let begins = letters_begin f in
    let q : begins.byte ≡ 39 = first_is _ _ _ _ (rw begins.is at e) in
    let P : ℕ → Type 0 = λ y. is_quote y ≡ false in
    no_false (subst P q begins.no_quote)
pieces_apart (Quoted s) (Digits f) a b hp hq e =
    let begins = letters_begin f in
    let q : 39 ≡ begins.byte = first_is _ _ _ _ (rw begins.is at e) in
    let P : ℕ → Type 0 = λ y. is_quote y ≡ false in
    no_false (subst P (sym q) begins.no_quote)
pieces_apart (Plain c) (Plain d) a b hp hq e = (ap Plain (first_is _ _ _ _ e), rest_is _ _ _ _ e)
pieces_apart (Plain c) (Quoted t) a b hp hq e = absurd (plain_not_quote c hp (first_is _ _ _ _ e))
pieces_apart (Quoted s) (Plain c) a b hp hq e = absurd (plain_not_quote c hq (sym (first_is _ _ _ _ e)))
pieces_apart (Quoted s) (Quoted t) a b hp hq e =
    let apart = quoted_apart s t a b hp hq (rest_is _ _ _ _ (sym (spelled_quoted s a) ∙ e ∙ spelled_quoted t b)) in
    (ap Quoted apart.0, apart.1)

-- a piece takes at least a byte
pub spelled_some : (p : Piece) (a : List ℕ) → [] ≡ spelled p ++ a → ⊥
spelled_some (Digits Year) a e = cc
spelled_some (Digits Month) a e = cc
spelled_some (Digits Day) a e = cc
spelled_some (Digits Hour) a e = cc
spelled_some (Digits Minute) a e = cc
spelled_some (Digits Second) a e = cc
spelled_some (Digits Millisecond) a e = cc
spelled_some (Plain c) a e = cc
spelled_some (Quoted text) a e = cc

-- the pieces that go on after these ones
pub record GoesOn (front all : List Piece) (rest : List ℕ) : Type 0 where
  pub more : List Piece
  pub is : all ≡ front ++ more
  pub text : flat_map spelled more ≡ rest
  pub right : AllByRecursion IsPiece more

-- the pieces of a text whose front is that of some pieces begin with these
pub goes_on : (front all : List Piece) (rest : List ℕ) → AllByRecursion IsPiece front → AllByRecursion IsPiece all → flat_map spelled all ≡ flat_map spelled front ++ rest → GoesOn front all rest
goes_on [] all rest hf ha e = record { more = all; is = refl; text = e; right = ha }
goes_on (p ∷ front) [] rest hf ha e = absurd (spelled_some p (flat_map spelled front ++ rest) (e ∙ append_assoc (spelled p) (flat_map spelled front) rest))
goes_on (p ∷ front) (q ∷ all) rest hf ha e =
    let apart = pieces_apart q p (flat_map spelled all) (flat_map spelled front ++ rest) ha.0 hf.0 (e ∙ append_assoc (spelled p) (flat_map spelled front) rest) in
    let later = goes_on front all rest hf.1 ha.1 apart.1 in
    record { more = later.more; is = ap (λ (x : Piece). x ∷ all) apart.0 ∙ ap (λ (xs : List Piece). p ∷ xs) later.is; text = later.text; right = later.right }

-- where no piece stands after these ones, the text is no pattern
pub none_behind : (front : List Piece) (text rest : List ℕ) → text ≡ flat_map spelled front ++ rest → AllByRecursion IsPiece front → 0 < length rest → BeginsNone rest → IsNoDatePattern text
none_behind front text rest e hf some none all pattern =
    let more = goes_on front all rest hf pattern.right (sym pattern.is ∙ e) in
    first_of more.more more.text more.right
  where
    first_of : (more : List Piece) → flat_map spelled more ≡ rest → AllByRecursion IsPiece more → ⊥
    first_of [] t h = let n : 0 ≡ length rest = ap length t in omega arith
    first_of (p ∷ more) t h = none p (flat_map spelled more) h.0 (sym t)

-- where each field stands once, none that stands before a piece is that piece's
pub once_before : (front more : List Piece) (p : Piece) → are_once (front ++ p ∷ more) ≡ true → repeats front p ≡ false
once_before front more (Plain c) h = refl
once_before front more (Quoted text) h = refl
once_before [] more (Digits f) h = refl
once_before (Plain c ∷ front) more (Digits f) h = once_before front more (Digits f) h
once_before (Quoted text ∷ front) more (Digits f) h = once_before front more (Digits f) h
once_before (Digits g ∷ front) more (Digits f) h = either (same f g) refl (λ e. once_before front more (Digits f) e)
  where
    over : (f : Field) (front more : List Piece) (b : Bool) → (not (b || true) && are_once (front ++ Digits f ∷ more)) ≡ false
    over f front more true = refl
    over f front more false = refl

    hidden : (f : Field) (front more : List Piece) → (not (has f (front ++ Digits f ∷ more)) && are_once (front ++ Digits f ∷ more)) ≡ false
    hidden f front more = rw (list_any-append (is_field f) front (Digits f ∷ more), same-refl f) (over f front more (has f front))

    and_right : (p q : Bool) → (p && q) ≡ true → q ≡ true
    and_right true q h = h
    and_right false q h = no_true h

    either : (b : Bool) → same f g ≡ b → (are_once (front ++ Digits f ∷ more) ≡ true → has f front ≡ false) → (same f g || has f front) ≡ false
    either true e later =
        let fg = same_field f g e in
        let P : Field → Type 0 = λ k. (not (has k (front ++ Digits f ∷ more)) && are_once (front ++ Digits f ∷ more)) ≡ true in
        no_true (sym (hidden f front more) ∙ subst P (sym fg) h)
    either false e later = rw e (later (and_right _ _ h))

-- a field that stands twice makes no pattern
pub repeated_behind : (front : List Piece) (p : Piece) (text rest behind : List ℕ) → text ≡ flat_map spelled front ++ rest → AllByRecursion IsPiece front → rest ≡ spelled p ++ behind → IsPiece p → repeats front p ≡ true → IsNoDatePattern text
repeated_behind front p text rest behind e hf is hp twice all pattern =
    let more = goes_on front all rest hf pattern.right (sym pattern.is ∙ e) in
    first_of more.more more.is more.text more.right
  where
    first_of : (more : List Piece) → all ≡ front ++ more → flat_map spelled more ≡ rest → AllByRecursion IsPiece more → ⊥
    first_of [] i t h = spelled_some p behind (t ∙ is)
    first_of (q ∷ more) i t h =
        let apart = pieces_apart q p (flat_map spelled more) behind h.0 hp (t ∙ is) in
        let P : Piece → Type 0 = λ x. are_once (front ++ x ∷ more) ≡ true in
        let once = subst P apart.0 (ap are_once (sym i) ∙ pattern.once) in
        no_false (sym twice ∙ once_before front more p once)

-- one more piece
pub right_more : (front : List Piece) (p : Piece) → AllByRecursion IsPiece front → IsPiece p → AllByRecursion IsPiece (front ++ p ∷ [])
right_more [] p hf hp = (hp, tt)
right_more (q ∷ front) p hf hp = (hf.0, right_more front p hf.1 hp)

-- fields still stand once with a piece more whose field was not there
pub once_more : (front : List Piece) (p : Piece) → are_once front ≡ true → repeats front p ≡ false → are_once (front ++ p ∷ []) ≡ true
once_more [] (Digits f) h n = refl
once_more [] (Plain c) h n = refl
once_more [] (Quoted text) h n = refl
once_more (Plain c ∷ front) p h n = once_more front p h (later p n)
  where
    later : (p : Piece) → repeats (Plain c ∷ front) p ≡ false → repeats front p ≡ false
    later (Digits f) n = n
    later (Plain d) n = refl
    later (Quoted text) n = refl
once_more (Quoted s ∷ front) p h n = once_more front p h (later p n)
  where
    later : (p : Piece) → repeats (Quoted s ∷ front) p ≡ false → repeats front p ≡ false
    later (Digits f) n = n
    later (Plain d) n = refl
    later (Quoted text) n = refl
once_more (Digits g ∷ front) p h n = both (not (has g (front ++ p ∷ []))) (are_once (front ++ p ∷ [])) (fresh p n) (once_more front p (and_right (not (has g front)) (are_once front) h) (later p n))
  where
    both : (a b : Bool) → a ≡ true → b ≡ true → (a && b) ≡ true
    both true b ea eb = eb
    both false b ea eb = no_true ea

    and_right : (p q : Bool) → (p && q) ≡ true → q ≡ true
    and_right true q h = h
    and_right false q h = no_true h

    and_first : (p q : Bool) → (not p && q) ≡ true → p ≡ false
    and_first true q h = no_true h
    and_first false q h = refl

    or_right : (p q : Bool) → (p || q) ≡ false → q ≡ false
    or_right true q h = no_false h
    or_right false q h = h

    later : (p : Piece) → repeats (Digits g ∷ front) p ≡ false → repeats front p ≡ false
    later (Digits f) n = or_right (same f g) (has f front) n
    later (Plain d) n = refl
    later (Quoted text) n = refl

    not_field : (p : Piece) → repeats (Digits g ∷ front) p ≡ false → is_field g p ≡ false
    not_field (Plain d) n = refl
    not_field (Quoted text) n = refl
    not_field (Digits f) n = turned (same g f) refl
      where
        or_first : (p q : Bool) → (p || q) ≡ false → p ≡ false
        or_first true q h = h
        or_first false q h = refl

        turned : (b : Bool) → same g f ≡ b → b ≡ false
        turned false e = refl
        turned true e =
            let P : Field → Type 0 = λ k. (same k g || has k front) ≡ false in
            let here = subst P (sym (same_field g f e)) n in
            no_false (sym (same-refl g) ∙ or_first (same g g) (has g front) here)

    fresh : (p : Piece) → repeats (Digits g ∷ front) p ≡ false → not (has g (front ++ p ∷ [])) ≡ true
    fresh p n = rw (list_any-append (is_field g) front (p ∷ []), and_first (has g front) (are_once front) h, not_field p n) refl

-- one more part of a pattern
pub record IsFront (text rest : List ℕ) (pieces : List Piece) : Type 0 where
  pub is : text ≡ flat_map spelled pieces ++ rest
  pub right : AllByRecursion IsPiece pieces
  pub once : are_once pieces ≡ true

-- a part more that fits behind a front makes a longer front
pub front_more : (parts : List Part) (p : Part) (text rest next : List ℕ) → IsFront text rest (map piece parts) → rest ≡ spelled (piece p) ++ next → IsPiece (piece p) → repeats (map piece parts) (piece p) ≡ false → IsFront text next (map piece (parts ++ p ∷ []))
front_more parts p text rest next h e right fresh =
    let ps = map piece parts in
    let P : List Piece → Type 0 = λ pieces. IsFront text next pieces in
    subst P (sym (map-append piece parts (p ∷ []))) (record {
      is = h.is ∙ ap (λ (x : List ℕ). flat_map spelled ps ++ x) e ∙ sym (append_assoc (flat_map spelled ps) (spelled (piece p)) next)
          ∙ ap (λ (x : List ℕ). x ++ next) (ap (λ (x : List ℕ). flat_map spelled ps ++ x) (sym (append-nil (spelled (piece p)))) ∙ sym (flat_map-append spelled ps (piece p ∷ [])));
      right = right_more ps (piece p) h.right right;
      once = once_more ps (piece p) h.once fresh;
    })

-- before the first part
pub front_none : (text rest : List ℕ) → text ≡ rest → IsFront text rest []
front_none text rest e = record { is = e; right = tt; once = refl }

-- a front after which nothing is left is the whole pattern
pub whole_is : (text rest : List ℕ) (pieces : List Piece) → IsFront text rest pieces → length rest ≡ 0 → IsPattern text pieces
whole_is text [] pieces h none = record { is = h.is ∙ append-nil (flat_map spelled pieces); right = h.right; once = h.once }
whole_is text (c ∷ rest) pieces h none = absurd (omega arith)

-- a rest whose length is not zero has a byte
pub some_left : (rest : List ℕ) → (length rest == 0) ≡ false → 0 < length rest
some_left [] h = no_false h
some_left (c ∷ rest) h = omega arith

-- a rest whose length is zero has none
pub none_left : (rest : List ℕ) → (length rest == 0) ≡ true → length rest ≡ 0
none_left [] h = refl
none_left (c ∷ rest) h = absurd (omega (arith, (Decides-eqb (length (c ∷ rest)) 0).0 h))
