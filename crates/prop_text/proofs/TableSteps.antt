-- The table of keys, seen as pairs.
use Rattle.std.proofs.Common.{◌≡◌, ℕ, Bool, true, false, cond, not, List, [], ◌∷◌, ◌++◌, filter, find, Option, Some, option_map, Result, Ok, Err, refl, sym, ap, append_assoc, ◌∙◌, string_bytes, nat_lt, length, ⊎_elim, Global, String}
use Rattle.std.specs.Map.{lookup}
use Rattle.std.specs.Str.{bytes_eq}
use Rattle.std.specs.String.{string_eq}
use Rattle.std.proofs.lemmas.Bool.{cond-true, cond-false, cases_Bool, cond_both, false≢true}
use Rattle.std.proofs.lemmas.Slice.Eq.{bytes_eq-Decides}
use Rattle.indexmap.specs.IndexMap.{insert_entry}
use Rattle.prop_text.specs.declared.table.Entry.{Entry}
use Rattle.prop_text.specs.Pairs.{Pair, with_pair}
use Rattle.prop_text.specs.Winners.{same_key, last_with_key, winners, has_value}
use Rattle.prop_text.specs.Table.{entry_pair, pairs_in, put}

-- equal keys are one
same_bytes : (x y : List ℕ) → bytes_eq x y ≡ true → x ≡ y
same_bytes x y h = (bytes_eq-Decides x y).0 h

equal_bytes : (x : List ℕ) → bytes_eq x x ≡ true
equal_bytes x = (bytes_eq-Decides x x).1 refl

swapped : (x y : List ℕ) (b : Bool) → bytes_eq x y ≡ b → bytes_eq y x ≡ b
swapped x y true h = (bytes_eq-Decides y x).1 (sym (same_bytes x y h))
swapped x y false h = ⊎_elim (λ t. absurd (false≢true (sym h ∙ (bytes_eq-Decides x y).1 (sym (same_bytes y x t))))) (λ f. f) (cases_Bool (bytes_eq y x))

-- an insert puts the pair
pub insert_pairs : (es : List (String Global × Entry)) (k : String Global) (v : Entry) → pairs_in (insert_entry string_eq es k v) ≡ put (entry_pair (k, v)) (pairs_in es)
insert_pairs [] k v = refl
insert_pairs (e ∷ es) k v =
    ⊎_elim
    (λ t.
    let same = same_bytes (string_bytes k) (string_bytes e.0) t in
    ap pairs_in (cond-true (string_eq k e.0) ((e.0, v) ∷ es) (e ∷ insert_entry string_eq es k v) t)
    ∙ ap (λ (x : List ℕ). record { key = x; value = string_bytes v.value; line = v.line } ∷ pairs_in es) (sym same)
    ∙ sym (cond-true (same_key (entry_pair e) (entry_pair (k, v))) _ _ (swapped (string_bytes k) (string_bytes e.0) true t)))
    (λ f.
    ap pairs_in (cond-false (string_eq k e.0) ((e.0, v) ∷ es) (e ∷ insert_entry string_eq es k v) f)
    ∙ ap (λ (x : List Pair). entry_pair e ∷ x) (insert_pairs es k v)
    ∙ sym (cond-false (same_key (entry_pair e) (entry_pair (k, v))) _ _ (swapped (string_bytes k) (string_bytes e.0) false f)))
    (cases_Bool (string_eq k e.0))

abbrev kept : List (String Global × Entry) → List (String Global × Entry)
kept es = filter (λ e. nat_lt 0 (length (string_bytes e.1.value))) es

-- a filter of the entries is one of the pairs
pub filter_pairs : (es : List (String Global × Entry)) → pairs_in (filter (λ e. nat_lt 0 (length (string_bytes e.1.value))) es) ≡ filter has_value (pairs_in es)
filter_pairs [] = refl
filter_pairs (e ∷ es) =
    cond_both (has_value (entry_pair e)) (e ∷ kept es) (kept es)
    (λ x. pairs_in x ≡ filter has_value (pairs_in (e ∷ es)))
    (λ t. ap (λ (x : List Pair). entry_pair e ∷ x) (filter_pairs es) ∙ sym (cond-true (has_value (entry_pair e)) _ _ t))
    (λ f. filter_pairs es ∙ sym (cond-false (has_value (entry_pair e)) _ _ f))

abbrev with_key : List ℕ → Entry → Option Pair
with_key k v = Some (record { key = k; value = string_bytes v.value; line = v.line })

-- a look-up finds the pair
pub find_pairs : (q : List ℕ) (es : List (String Global × Entry)) → find (λ p. bytes_eq q p.key) (pairs_in es) ≡ option_map (λ v. record { key = q; value = string_bytes v.value; line = v.line }) (lookup (λ k. bytes_eq q (string_bytes k)) es)
find_pairs q [] = refl
find_pairs q (e ∷ es) =
    let test = bytes_eq q (string_bytes e.0) in
    let found : Entry → Pair = λ v. record { key = q; value = string_bytes v.value; line = v.line } in
    ⊎_elim
    (λ t. cond-true test (Some (entry_pair e)) _ t ∙ ap (λ (k : List ℕ). with_key k e.1) (sym (same_bytes q (string_bytes e.0) t)) ∙ ap (option_map found) (sym (cond-true test (Some e.1) (lookup (λ k. bytes_eq q (string_bytes k)) es) t)))
    (λ f. cond-false test (Some (entry_pair e)) _ f ∙ find_pairs q es ∙ ap (option_map found) (sym (cond-false test (Some e.1) (lookup (λ k. bytes_eq q (string_bytes k)) es) f)))
    (cases_Bool test)

-- one more pair is put
same_key_is : (p q : Pair) → same_key p q ≡ true → p.key ≡ q.key
same_key_is p q h = same_bytes p.key q.key h

abbrev others : Pair → List Pair → List Pair
others p ps = filter (λ q. not (same_key q p)) ps

others-drops : (p q : Pair) (qs : List Pair) → same_key q p ≡ true → others p (q ∷ qs) ≡ others p qs
others-drops p q qs h = cond-false (not (same_key q p)) _ _ (ap not h)

others-keeps : (p q : Pair) (qs : List Pair) → same_key q p ≡ false → others p (q ∷ qs) ≡ q ∷ others p qs
others-keeps p q qs h = cond-true (not (same_key q p)) _ _ (ap not h)

put-there : (r q : Pair) (qs : List Pair) → same_key q r ≡ true → put r (q ∷ qs) ≡ r ∷ qs
put-there r q qs h = cond-true (same_key q r) _ _ h

put-further : (r q : Pair) (qs : List Pair) → same_key q r ≡ false → put r (q ∷ qs) ≡ q ∷ put r qs
put-further r q qs h = cond-false (same_key q r) _ _ h

same_through : (p q r : Pair) → same_key q r ≡ true → same_key q p ≡ same_key r p
same_through p q r h = ap (λ (k : List ℕ). bytes_eq k p.key) (same_key_is q r h)

others-put_same : (p r : Pair) (qs : List Pair) → same_key r p ≡ true → others p (put r qs) ≡ others p qs
others-put_same p r [] h = others-drops p r [] h
others-put_same p r (q ∷ qs) h =
    ⊎_elim
    (λ t. ap (others p) (put-there r q qs t) ∙ others-drops p r qs h ∙ sym (others-drops p q qs (same_through p q r t ∙ h)))
    (λ f. ap (others p) (put-further r q qs f) ∙
    ⊎_elim
    (λ x. others-drops p q (put r qs) x ∙ others-put_same p r qs h ∙ sym (others-drops p q qs x))
    (λ y. others-keeps p q (put r qs) y ∙ ap (λ (l : List Pair). q ∷ l) (others-put_same p r qs h) ∙ sym (others-keeps p q qs y))
    (cases_Bool (same_key q p)))
    (cases_Bool (same_key q r))

others-put_other : (p r : Pair) (qs : List Pair) → same_key r p ≡ false → others p (put r qs) ≡ put r (others p qs)
others-put_other p r [] h = others-keeps p r [] h
others-put_other p r (q ∷ qs) h =
    ⊎_elim
    (λ t. ap (others p) (put-there r q qs t) ∙ others-keeps p r qs h ∙ sym (put-there r q (others p qs) t) ∙ ap (put r) (sym (others-keeps p q qs (same_through p q r t ∙ h))))
    (λ f. ap (others p) (put-further r q qs f) ∙
    ⊎_elim
    (λ x. others-drops p q (put r qs) x ∙ others-put_other p r qs h ∙ ap (put r) (sym (others-drops p q qs x)))
    (λ y. others-keeps p q (put r qs) y ∙ ap (λ (l : List Pair). q ∷ l) (others-put_other p r qs h) ∙ sym (put-further r q (others p qs) f) ∙ ap (put r) (sym (others-keeps p q qs y)))
    (cases_Bool (same_key q p)))
    (cases_Bool (same_key q r))

key_kept : (p q r : Pair) → same_key r (cond (same_key q p) q p) ≡ same_key r p
key_kept p q r = cond_both (same_key q p) q p (λ x. same_key r x ≡ same_key r p) (λ t. ap (bytes_eq r.key) (same_key_is q p t)) (λ _. refl)

last_same : (p r : Pair) (qs : List Pair) → same_key r (last_with_key p qs) ≡ same_key r p
last_same p r [] = refl
last_same p r (q ∷ qs) = last_same (cond (same_key q p) q p) r qs ∙ key_kept p q r

last_push : (p r : Pair) (qs : List Pair) → last_with_key p (qs ++ r ∷ []) ≡ cond (same_key r p) r (last_with_key p qs)
last_push p r [] = refl
last_push p r (q ∷ qs) = last_push (cond (same_key q p) q p) r qs ∙ ap (λ (b : Bool). cond b r (last_with_key (cond (same_key q p) q p) qs)) (key_kept p q r)

-- one more pair is put among the last pairs of their keys
pub winners_push : (ps : List Pair) (r : Pair) → winners (ps ++ r ∷ []) ≡ put r (winners ps)
winners_push [] r = refl
winners_push (p ∷ ps) r =
    let last = last_with_key p ps in
    let rest = others p (winners ps) in
    ap (λ (x : List Pair). last_with_key p (ps ++ r ∷ []) ∷ others p x) (winners_push ps r) ∙
    ⊎_elim
    (λ t.
    ap (λ (x : Pair). x ∷ others p (put r (winners ps))) (last_push p r ps ∙ cond-true (same_key r p) r last t)
    ∙ ap (λ (x : List Pair). r ∷ x) (others-put_same p r (winners ps) t)
    ∙ sym (put-there r last rest (swapped r.key last.key true (last_same p r ps ∙ t))))
    (λ f.
    ap (λ (x : Pair). x ∷ others p (put r (winners ps))) (last_push p r ps ∙ cond-false (same_key r p) r last f)
    ∙ ap (λ (x : List Pair). last ∷ x) (others-put_other p r (winners ps) f)
    ∙ sym (put-further r last rest (swapped r.key last.key false (last_same p r ps ∙ f))))
    (cases_Bool (same_key r p))

-- pairs that were read, in front of those of the lines after them
abbrev pub onto : List Pair → Result (List Pair) ℕ → Result (List Pair) ℕ
onto done (Ok ps) = Ok (done ++ ps)
onto done (Err line) = Err line

-- a pair that was read joins those in front of the further lines
pub onto_push : (done : List Pair) (number : ℕ) (p : Pair) (rest : Result (List Pair) ℕ) → onto done (with_pair number (Some p) rest) ≡ onto (done ++ p ∷ []) rest
onto_push done number p (Ok ps) = ap (λ (x : List Pair). Ok x) (sym (append_assoc done (p ∷ []) ps))
onto_push done number p (Err line) = refl

-- before the first pair there is nothing in front
pub onto_none : (rest : Result (List Pair) ℕ) → onto [] rest ≡ rest
onto_none (Ok ps) = refl
onto_none (Err line) = refl
