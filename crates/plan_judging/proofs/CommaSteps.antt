-- One more byte of a list with commas, and one more pair of a configuration.
use Rattle.std.proofs.Common.{◌≡◌, ℕ, ◌+◌, ◌<◌, ◌≤◌, Bool, true, false, ◌==◌, List, [], ◌∷◌, ◌++◌, filter, map, length, get_or, drop, slice_get, Some, refl, sym, ap, ◌∙◌, append_assoc}
use Rattle.std.proofs.lemmas.Bool.{cond-true, cond-false, cond_both}
use Rattle.std.proofs.lemmas.List.{drop_more, drop_all, append-nil}
use Rattle.std.proofs.lemmas.Bool.Decides.{Decides-eqb}
use Rattle.std.specs.List.{flat_map}
use Rattle.prop_text.specs.Pairs.{trim}
use Rattle.prop_text.specs.Lines.{with_front}
use Rattle.prop_text.specs.Pairs.{Pair}
use Rattle.plan_judging.specs.Words.{is_word, comma_pieces, trimmed_names, listed}
use Rattle.plan_judging.proofs.Joins.{drop_from_get}
use Rattle.plan_judging.proofs.WordSteps.{with_front-nil, with_front-with_front, front_kept}

-- an empty front before a list with commas changes no piece of it
pub comma_front : (bs : List ℕ) → with_front [] (comma_pieces bs) ≡ comma_pieces bs
comma_front [] = refl
comma_front (b ∷ bs) =
    let P : List (List ℕ) → Type 0 = λ x. with_front [] x ≡ x in
    cond_both (b == 44) _ _ P (λ _. refl) (λ _. front_kept b (comma_pieces bs))

split_first : (w : List ℕ) (ws : List (List ℕ)) → filter is_word (w ∷ ws) ≡ filter is_word (w ∷ []) ++ filter is_word ws
split_first w ws = cond_both (is_word w) (w ∷ filter is_word ws) (filter is_word ws) (λ x. x ≡ filter is_word (w ∷ []) ++ filter is_word ws)
    (λ t. ap (λ (x : List (List ℕ)). x ++ filter is_word ws) (sym (cond-true (is_word w) (w ∷ []) [] t)))
    (λ f. ap (λ (x : List (List ℕ)). x ++ filter is_word ws) (sym (cond-false (is_word w) (w ∷ []) [] f)))

-- a piece that has ended joins the names so far
pub comma_joins : (text piece : List ℕ) (i : ℕ) (names whole : List (List ℕ)) → i < length text → (get_or text i 0 == 44) ≡ true → names ++ trimmed_names (with_front piece (comma_pieces (drop i text))) ≡ whole → (names ++ trimmed_names (piece ∷ [])) ++ trimmed_names (with_front [] (comma_pieces (drop (i + 1) text))) ≡ whole
comma_joins text piece i names whole lt h was =
    let rest = comma_pieces (drop (i + 1) text) in
    let ends : with_front piece (comma_pieces (drop i text)) ≡ piece ∷ rest = ap (with_front piece) (ap comma_pieces (drop_more text i 0 lt) ∙ cond-true (get_or text i 0 == 44) _ _ h) ∙ with_front-nil piece rest in
    ap (λ (x : List (List ℕ)). (names ++ trimmed_names (piece ∷ [])) ++ trimmed_names x) (comma_front (drop (i + 1) text))
    ∙ append_assoc names (trimmed_names (piece ∷ [])) (trimmed_names rest)
    ∙ sym (ap (λ (x : List (List ℕ)). names ++ x) (ap trimmed_names ends ∙ split_first (trim piece) (map trim rest))) ∙ was

-- one more byte of a piece
pub comma_goes : (text piece : List ℕ) (i : ℕ) (names whole : List (List ℕ)) → i < length text → (get_or text i 0 == 44) ≡ false → names ++ trimmed_names (with_front piece (comma_pieces (drop i text))) ≡ whole → names ++ trimmed_names (with_front (piece ++ get_or text i 0 ∷ []) (comma_pieces (drop (i + 1) text))) ≡ whole
comma_goes text piece i names whole lt h was =
    let rest = comma_pieces (drop (i + 1) text) in
    let read = ap comma_pieces (drop_more text i 0 lt) ∙ cond-false (get_or text i 0 == 44) _ _ h in
    sym (ap (λ (x : List (List ℕ)). names ++ trimmed_names x) (ap (with_front piece) read ∙ with_front-with_front piece (get_or text i 0) rest)) ∙ was

-- before the first byte the names that are to come are those of the list
pub comma_begins : (text : List ℕ) (names : List (List ℕ)) → names ++ trimmed_names (with_front [] (comma_pieces text)) ≡ names ++ listed text
comma_begins text names = ap (λ (x : List (List ℕ)). names ++ trimmed_names x) (comma_front text)

-- the last piece
pub comma_ends : (text piece : List ℕ) (i : ℕ) (names whole : List (List ℕ)) → length text ≤ i → names ++ trimmed_names (with_front piece (comma_pieces (drop i text))) ≡ whole → names ++ trimmed_names (piece ∷ []) ≡ whole
comma_ends text piece i names whole le was =
    sym (ap (λ (x : List (List ℕ)). names ++ trimmed_names x) (ap (λ (x : List ℕ). with_front piece (comma_pieces x)) (drop_all i text le) ∙ with_front-nil piece [])) ∙ was

-- one more pair
pub pair_goes : {B : Type 0} (f : Pair → List B) (pairs : List Pair) (n : ℕ) (p : Pair) (old new whole : List B) → slice_get pairs n ≡ Some p → new ≡ old ++ f p → old ++ flat_map f (drop n pairs) ≡ whole → new ++ flat_map f (drop (n + 1) pairs) ≡ whole
pair_goes {B} f pairs n p old new whole there is was =
    ap (λ (x : List B). x ++ flat_map f (drop (n + 1) pairs)) is ∙ append_assoc old (f p) (flat_map f (drop (n + 1) pairs))
    ∙ sym (ap (λ (x : List Pair). old ++ flat_map f x) (drop_from_get pairs n p there)) ∙ was

-- after the last pair all that the pairs give was gathered
pub pairs_end : {B : Type 0} (f : Pair → List B) (pairs : List Pair) (n : ℕ) (old whole : List B) → length pairs ≤ n → old ++ flat_map f (drop n pairs) ≡ whole → old ≡ whole
pairs_end {B} f pairs n old whole le was = sym (ap (λ (x : List Pair). old ++ flat_map f x) (drop_all n pairs le) ∙ append-nil old) ∙ was

-- the byte of a comma is tested to be one
pub is_comma : (b : ℕ) → b ≡ 44 → (b == 44) ≡ true
is_comma b e = (Decides-eqb b 44).1 e

-- any other byte is tested not to be one
pub no_comma : (b : ℕ) → (b ≡ 44 → ⊥) → (b == 44) ≡ false
no_comma b h = either (b == 44) refl
  where
    either : (t : Bool) → (b == 44) ≡ t → t ≡ false
    either true e = absurd (h ((Decides-eqb b 44).0 e))
    either false e = refl
