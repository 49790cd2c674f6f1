-- Lists in which each name stands once, as they are made and as they are counted.
use Rattle.std.proofs.Common.{◌≡◌, ℕ, ◌≤◌, Bool, true, false, ◌||◌, List, [], ◌∷◌, ◌++◌, fold, length, refl, sym, ap, ◌∙◌, append_assoc, append-nil, arith, if◌then◌else◌, nat_lt, ⊎_elim}
use Rattle.std.proofs.lemmas.Bool.{cond-true, cond-false, cases_Bool, lt-ltb, le-ltb, ltb-true, ltb-false}
use Rattle.std.proofs.lemmas.List.Folds.{list_any-append}
use Rattle.std.specs.List.{list_any}
use Rattle.std.specs.Borrow.{Bor}
use Rattle.std.specs.Str.{bytes_eq}
use Rattle.std.specs.Cmp.Lexicographic.{bytes_decides, nat_list_eq_equiv}
use Rattle.indexmap.specs.IndexSet.{insert_key}
use Rattle.prop_text.specs.Views.{texts}
use Rattle.plan_judging.specs.Words.{is_among, has_twice}
use Rattle.plan_judging.specs.Components.{first_times, once}

-- the names that are kept, and one more
abbrev pub kept_with : List (List ℕ) → List ℕ → List (List ℕ)
kept_with kept name = if is_among name kept then kept else kept ++ name ∷ []

-- what is among the one list is among the other
abbrev AreSame : List (List ℕ) → List (List ℕ) → Type 0
AreSame kept before = (x : List ℕ) → is_among x kept ≡ is_among x before

or_false : (b : Bool) → (b || false) ≡ b
or_false true = refl
or_false false = refl

or_true : (b : Bool) → (b || true) ≡ true
or_true true = refl
or_true false = refl

among_more : (x w : List ℕ) (ws : List (List ℕ)) → is_among x (ws ++ w ∷ []) ≡ (is_among x ws || bytes_eq x w)
among_more x w ws = list_any-append (λ o. bytes_eq x o) ws (w ∷ []) ∙ ap (λ b. is_among x ws || b) (or_false (bytes_eq x w))

same_new : (kept before : List (List ℕ)) (w : List ℕ) → AreSame kept before → AreSame (kept ++ w ∷ []) (before ++ w ∷ [])
same_new kept before w same x = among_more x w kept ∙ ap (λ b. b || bytes_eq x w) (same x) ∙ sym (among_more x w before)

same_old : (kept before : List (List ℕ)) (w : List ℕ) → is_among w before ≡ true → AreSame kept before → AreSame kept (before ++ w ∷ [])
same_old kept before w there same x = same x ∙ more ∙ sym (among_more x w before)
  where
    more : is_among x before ≡ (is_among x before || bytes_eq x w)
    more = ⊎_elim
        (λ t. (ap (λ y. is_among y before) ((bytes_decides x w).0 t) ∙ there) ∙ sym (ap (λ b. is_among x before || b) t ∙ or_true (is_among x before)))
        (λ f. sym (ap (λ b. is_among x before || b) f ∙ or_false (is_among x before)))
        (cases_Bool (bytes_eq x w))

-- keeping one name after another gives each once
kept_first : (kept before ws : List (List ℕ)) → AreSame kept before → fold kept_with kept ws ≡ kept ++ first_times before ws
kept_first kept before [] same = sym (append-nil kept)
kept_first kept before (w ∷ ws) same =
    ⊎_elim
    (λ t. ap (λ l. fold kept_with l ws) (cond-true (is_among w kept) kept (kept ++ w ∷ []) (same w ∙ t))
    ∙ kept_first kept (before ++ w ∷ []) ws (same_old kept before w t same)
    ∙ ap (λ l. kept ++ l) (sym (cond-true (is_among w before) _ _ t)))
    (λ f. ap (λ l. fold kept_with l ws) (cond-false (is_among w kept) kept (kept ++ w ∷ []) (same w ∙ f))
    ∙ kept_first (kept ++ w ∷ []) (before ++ w ∷ []) ws (same_new kept before w same)
    ∙ append_assoc kept (w ∷ []) (first_times (before ++ w ∷ []) ws)
    ∙ ap (λ l. kept ++ l) (sym (cond-false (is_among w before) _ _ f)))
    (cases_Bool (is_among w before))

-- names that are kept one after another are each kept once, where they stand first
pub kept_is_once : (ws : List (List ℕ)) → fold kept_with [] ws ≡ once ws
kept_is_once ws = kept_first [] [] ws (λ x. refl)

-- a name is among the texts of a set's keys where the set has it
pub among_texts : (name : List ℕ) (keys : List (Bor (List ℕ))) → list_any (λ k. bytes_eq name k.now) keys ≡ is_among name (texts keys)
among_texts name [] = refl
among_texts name (k ∷ ks) = ap (λ b. bytes_eq name k.now || b) (among_texts name ks)

-- a name that a set takes
pub key_is_kept : (keys : List (Bor (List ℕ))) (name : Bor (List ℕ)) → texts (insert_key (λ a b. bytes_eq a.now b.now) keys name) ≡ kept_with (texts keys) name.now
key_is_kept keys name =
    ⊎_elim
    (λ t. ap texts (cond-true there keys (keys ++ name ∷ []) t) ∙ sym (cond-true (is_among name.now (texts keys)) _ _ (sym (among_texts name.now keys) ∙ t)))
    (λ f. ap texts (cond-false there keys (keys ++ name ∷ []) f) ∙ texts_more keys ∙ sym (cond-false (is_among name.now (texts keys)) _ _ (sym (among_texts name.now keys) ∙ f)))
    (cases_Bool there)
  where
    there : Bool
    there = list_any (λ k. bytes_eq name.now k.now) keys

    texts_more : (ks : List (Bor (List ℕ))) → texts (ks ++ name ∷ []) ≡ texts ks ++ name.now ∷ []
    texts_more [] = refl
    texts_more (k ∷ ks) = ap (λ l. k.now ∷ l) (texts_more ks)

-- some of the names stands before them
abbrev stands : List (List ℕ) → List (List ℕ) → Bool
stands before ws = list_any (λ w. is_among w before) ws

or_swaps : (a b c d : Bool) → ((a || b) || (c || d)) ≡ ((a || c) || (b || d))
or_swaps true b c d = refl
or_swaps false true c d = sym (or_true c)
or_swaps false false c d = refl

or_turns : (h s m : Bool) → (h || (s || m)) ≡ ((m || h) || s)
or_turns true s true = refl
or_turns true s false = refl
or_turns false true true = refl
or_turns false true false = refl
or_turns false false true = refl
or_turns false false false = refl

stands_more : (before : List (List ℕ)) (w : List ℕ) (ws : List (List ℕ)) → stands (before ++ w ∷ []) ws ≡ (stands before ws || is_among w ws)
stands_more before w [] = refl
stands_more before w (v ∷ vs) =
    let here : is_among v (before ++ w ∷ []) ≡ (is_among v before || bytes_eq w v) = among_more v w before ∙ ap (λ b. is_among v before || b) (nat_list_eq_equiv.symm v w) in
    (λ i. here i || stands_more before w vs i) ∙ or_swaps (is_among v before) (bytes_eq w v) (stands before vs) (is_among w vs)

none_stands : (ws : List (List ℕ)) → stands [] ws ≡ false
none_stands [] = refl
none_stands (w ∷ ws) = none_stands ws

first_is_less : (before ws : List (List ℕ)) → length (first_times before ws) ≤ length ws
first_is_less before [] = omega arith
first_is_less before (w ∷ ws) =
    let less = first_is_less (before ++ w ∷ []) ws in
    ⊎_elim
    (λ t. let same = count_old t in omega (arith, less, same))
    (λ f. let same = count_new f in omega (arith, less, same))
    (cases_Bool (is_among w before))
  where
    later : List (List ℕ)
    later = first_times (before ++ w ∷ []) ws

    count_old : is_among w before ≡ true → length (first_times before (w ∷ ws)) ≡ length later
    count_old t = ap length (cond-true (is_among w before) later (w ∷ later) t)

    count_new : is_among w before ≡ false → length (first_times before (w ∷ ws)) ≡ length (w ∷ later)
    count_new f = ap length (cond-false (is_among w before) later (w ∷ later) f)

fewer_more : (w : List ℕ) (xs ys : List (List ℕ)) → nat_lt (length (w ∷ xs)) (length (w ∷ ys)) ≡ nat_lt (length xs) (length ys)
fewer_more w xs ys =
    ⊎_elim
    (λ t. let less = ltb-true _ _ t in lt-ltb _ _ (omega (arith, less)) ∙ sym t)
    (λ f. let more = ltb-false _ _ f in le-ltb _ _ (omega (arith, more)) ∙ sym f)
    (cases_Bool (nat_lt (length xs) (length ys)))

-- those that stand first are fewer where some name stands twice, or before them
first_are_fewer : (before ws : List (List ℕ)) → nat_lt (length (first_times before ws)) (length ws) ≡ (has_twice ws || stands before ws)
first_are_fewer before [] = refl
first_are_fewer before (w ∷ ws) =
    let less = first_is_less (before ++ w ∷ []) ws in
    ⊎_elim
    (λ t.
    let later = first_times (before ++ w ∷ []) ws in
    let same : length (first_times before (w ∷ ws)) ≡ length later = ap length (cond-true (is_among w before) later (w ∷ later) t) in
    lt-ltb _ _ (omega (arith, less, same)) ∙ sym (ap (λ b. (is_among w ws || has_twice ws) || (b || stands before ws)) t ∙ or_true (is_among w ws || has_twice ws)))
    (λ f.
    ap (λ l. nat_lt (length l) (length (w ∷ ws))) (cond-false (is_among w before) _ _ f)
    ∙ fewer_more w _ ws
    ∙ first_are_fewer (before ++ w ∷ []) ws
    ∙ ap (λ b. has_twice ws || b) (stands_more before w ws)
    ∙ or_turns (has_twice ws) (stands before ws) (is_among w ws)
    ∙ sym (ap (λ b. (is_among w ws || has_twice ws) || (b || stands before ws)) f))
    (cases_Bool (is_among w before))

-- names that are kept once are fewer exactly where one stands twice
pub once_is_shorter : (ws : List (List ℕ)) → nat_lt (length (once ws)) (length ws) ≡ has_twice ws
once_is_shorter ws = first_are_fewer [] ws ∙ ap (λ b. has_twice ws || b) (none_stands ws) ∙ or_false (has_twice ws)
