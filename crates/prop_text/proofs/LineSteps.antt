-- What one more byte does to the natural lines of a text.
use Rattle.std.proofs.Common.{◌≡◌, ℕ, ◌+◌, ◌-◌, ◌<◌, ◌≤◌, true, cond, ◌&&◌, ◌||◌, ◌==◌, List, [], ◌∷◌, ◌++◌, length, get_or, drop, take, refl, sym, ap, ◌∙◌, subst, append_assoc, arith, slice_index, ⊎_elim}
use Rattle.std.proofs.lemmas.Bool.{and_parts, eqb-true, cond-true, cond-false, cond_both, or_cases}
use Rattle.std.proofs.lemmas.List.{drop_more, take_more, get_or-drop, length-drop, drop-drop, append-nil}
use Rattle.std.proofs.lemmas.List.Sums.{prefix_len_passes}
use Rattle.std.proofs.lemmas.Str.{IsCharBoundary-after_ascii, IsCharBoundary-before_ascii}
use Rattle.std.specs.List.{prefix_len}
use Rattle.std.specs.Str.{IsUtf8, IsCharBoundary}
use Rattle.prop_text.specs.Lines.{natural_lines, with_front, end_len, is_white_space}

with_front-nil : (xs : List ℕ) (ls : List (List ℕ)) → with_front xs ([] ∷ ls) ≡ xs ∷ ls
with_front-nil xs ls = ap (λ (x : List ℕ). x ∷ ls) (append-nil xs)

with_front-with_front : (xs : List ℕ) (b : ℕ) (ls : List (List ℕ)) → with_front xs (with_front (b ∷ []) ls) ≡ with_front (xs ++ b ∷ []) ls
with_front-with_front xs b [] = refl
with_front-with_front xs b (l ∷ ls) = ap (λ (x : List ℕ). x ∷ ls) (sym (append_assoc xs (b ∷ []) l))

front_kept : (b : ℕ) (ls : List (List ℕ)) → with_front [] (with_front (b ∷ []) ls) ≡ with_front (b ∷ []) ls
front_kept b [] = refl
front_kept b (l ∷ ls) = refl

-- there is always a line
pub with_front-natural_lines : (bs : List ℕ) → with_front [] (natural_lines bs) ≡ natural_lines bs
with_front-natural_lines [] = refl
with_front-natural_lines (b ∷ bs) =
    let P : List (List ℕ) → Type 0 = λ x. with_front [] x ≡ x in
    cond_both (b == 13 && slice_index bs 0 == 10) _ _ P (λ _. with_front-natural_lines bs)
    (λ _. cond_both (b == 10 || b == 13) _ _ P (λ _. refl) (λ _. front_kept b (natural_lines bs)))

newline_first : (bs : List ℕ) → slice_index bs 0 ≡ 10 → natural_lines bs ≡ [] ∷ natural_lines (drop 1 bs)
newline_first [] h = absurd (omega arith)
newline_first (c ∷ cs) h = rw h refl

-- a line end ends the line
ends : (b : ℕ) (bs : List ℕ) → 0 < end_len (b ∷ bs) → natural_lines (b ∷ bs) ≡ [] ∷ natural_lines (drop (end_len (b ∷ bs)) (b ∷ bs))
ends b bs =
    let X = b == 13 && slice_index bs 0 == 10 in
    let Y = b == 10 || b == 13 in
    let P : ℕ → Type 0 = λ n. 0 < n → natural_lines (b ∷ bs) ≡ [] ∷ natural_lines (drop n (b ∷ bs)) in
    cond_both X 2 (cond Y 1 0) P
    (λ e h. cond-true X _ _ e ∙ newline_first bs (eqb-true _ _ (and_parts (b == 13) (slice_index bs 0 == 10) e).1))
    (λ e. cond_both Y 1 0 P (λ f h. cond-false X _ _ e ∙ cond-true Y _ _ f) (λ f h. absurd (omega arith)))

-- any other byte stays in it
goes : (b : ℕ) (bs : List ℕ) → end_len (b ∷ bs) ≡ 0 → natural_lines (b ∷ bs) ≡ with_front (b ∷ []) (natural_lines bs)
goes b bs =
    let X = b == 13 && slice_index bs 0 == 10 in
    let Y = b == 10 || b == 13 in
    let P : ℕ → Type 0 = λ n. n ≡ 0 → natural_lines (b ∷ bs) ≡ with_front (b ∷ []) (natural_lines bs) in
    cond_both X 2 (cond Y 1 0) P
    (λ e h. absurd (omega arith))
    (λ e. cond_both Y 1 0 P (λ f h. absurd (omega arith)) (λ f h. cond-false X _ _ e ∙ cond-false Y _ _ f))

module _ (text : List ℕ) (start at : ℕ) (ordered : start ≤ at) (within : at < length text) where
  -- the text of the line so far
  abbrev so_far : List ℕ
  so_far = take (at - start) (drop start text)

  -- a byte that ends no line is added to the line so far
  pub line_goes : end_len (drop at text) ≡ 0 → with_front (take (at - start) (drop start text)) (natural_lines (drop at text)) ≡ with_front (take (at + 1 - start) (drop start text)) (natural_lines (drop (at + 1) text))
  line_goes h =
      let cons = drop_more text at 0 within in
      let read = ap natural_lines cons ∙ goes (get_or text at 0) (drop (at + 1) text) (sym (ap end_len cons) ∙ h) in
      let places : at + 1 - start ≡ at - start + 1 = omega arith in
      let same : start + (at - start) ≡ at = omega arith in
      let longer = take_more (drop start text) (at - start) 0 (omega (arith, length-drop start text)) ∙ ap (λ (x : ℕ). so_far ++ x ∷ []) (get_or-drop start text (at - start) 0 ∙ ap (λ k. get_or text k 0) same) in
      ap (with_front so_far) read ∙ with_front-with_front so_far (get_or text at 0) (natural_lines (drop (at + 1) text)) ∙ ap (λ (x : List ℕ). with_front x (natural_lines (drop (at + 1) text))) (sym (ap (λ k. take k (drop start text)) places ∙ longer))

  -- a line end closes the line so far, and another line begins after it
  pub line_ends : 0 < end_len (drop at text) → with_front (take (at - start) (drop start text)) (natural_lines (drop at text)) ≡ take (at - start) (drop start text) ∷ natural_lines (drop (at + end_len (drop at text)) text)
  line_ends h =
      let P : List ℕ → Type 0 = λ x. 0 < end_len x → natural_lines x ≡ [] ∷ natural_lines (drop (end_len x) x) in
      let read = subst P (sym (drop_more text at 0 within)) (ends (get_or text at 0) (drop (at + 1) text)) h in
      ap (with_front so_far) read ∙ with_front-nil so_far _ ∙ ap (λ (x : List ℕ). so_far ∷ natural_lines x) (drop-drop (end_len (drop at text)) at text)

  module _ (n : ℕ) (old : List (List ℕ)) (len : end_len (drop at text) ≡ n) (some : 0 < n) where
    -- a line that has ended joins the lines so far
    pub line_joins : old ++ with_front (take (at - start) (drop start text)) (natural_lines (drop at text)) ≡ natural_lines text → (old ++ take (at - start) (drop start text) ∷ []) ++ with_front (take (at + n - (at + n)) (drop (at + n) text)) (natural_lines (drop (at + n) text)) ≡ natural_lines text
    line_joins was =
        let none : at + n - (at + n) ≡ 0 = omega arith in
        let positive : 0 < end_len (drop at text) = omega arith in
        let rest = natural_lines (drop (at + n) text) in
        let empty = ap (λ k. with_front (take k (drop (at + n) text)) rest) none ∙ with_front-natural_lines (drop (at + n) text) in
        ap (λ (x : List (List ℕ)). (old ++ so_far ∷ []) ++ x) empty ∙ append_assoc old (so_far ∷ []) rest
        ∙ sym (ap (λ (x : List (List ℕ)). old ++ x) (line_ends positive ∙ ap (λ k. so_far ∷ natural_lines (drop (at + k) text)) len)) ∙ was

-- a line end is ASCII, from its first byte to its last
pub end_is_ascii : (bs : List ℕ) → 0 < end_len bs → (slice_index bs 0 < 128) × (slice_index bs (end_len bs - 1) < 128)
end_is_ascii [] = λ h. absurd (omega arith)
end_is_ascii (b ∷ bs) =
    let X = b == 13 && slice_index bs 0 == 10 in
    let Y = b == 10 || b == 13 in
    let P : ℕ → Type 0 = λ n. 0 < n → (b < 128) × (slice_index (b ∷ bs) (n - 1) < 128) in
    cond_both X 2 (cond Y 1 0) P
    (λ e h. let both = and_parts (b == 13) (slice_index bs 0 == 10) e in let first = eqb-true _ _ both.0 in let second : slice_index bs 0 ≡ 10 = eqb-true _ _ both.1 in (omega arith, omega arith))
    (λ e. cond_both Y 1 0 P
    (λ f h. let low : b < 128 = ⊎_elim (λ x. omega (arith, eqb-true b 10 x)) (λ x. omega (arith, eqb-true b 13 x)) (or_cases (b == 10) (b == 13) f) in (low, low))
    (λ f h. absurd (omega arith)))

-- white space is ASCII
pub white_space_is_ascii : (b : ℕ) → is_white_space b ≡ true → b < 128
white_space_is_ascii b h = ⊎_elim
    (λ x. ⊎_elim (λ y. omega (arith, eqb-true b 32 y)) (λ y. omega (arith, eqb-true b 9 y)) (or_cases (b == 32) (b == 9) x))
    (λ x. omega (arith, eqb-true b 12 x)) (or_cases (b == 32 || b == 9) (b == 12) h)

-- a text may be cut after its white space
pub after_white_space : (text : List ℕ) (n : ℕ) → IsUtf8 text → n ≡ prefix_len is_white_space text → n ≤ length text → 0 < n → IsCharBoundary text n
after_white_space text n utf8 is within some =
    let low : get_or text (n - 1) 0 < 128 = white_space_is_ascii _ (prefix_len_passes is_white_space text (n - 1) 0 (omega arith)) in
    let place : n - 1 + 1 ≡ n = omega arith in
    subst (IsCharBoundary text) place (IsCharBoundary-after_ascii text (n - 1) utf8 (omega arith) low)

-- and after a line end
pub after_end : (text : List ℕ) (at : ℕ) → IsUtf8 text → at < length text → 0 < end_len (drop at text) → at + end_len (drop at text) ≤ length text → IsCharBoundary text (at + end_len (drop at text))
after_end text at utf8 lt some within =
    let n = end_len (drop at text) in
    let low = (end_is_ascii (drop at text) some).1 in
    let at_last : get_or text (at + (n - 1)) 0 < 128 = subst (λ (x : ℕ). x < 128) (get_or-drop at text (n - 1) 0) low in
    let place : at + (n - 1) + 1 ≡ at + n = omega arith in
    subst (IsCharBoundary text) place (IsCharBoundary-after_ascii text (at + (n - 1)) utf8 (omega arith) at_last)

-- and before it
pub before_end : (text : List ℕ) (at : ℕ) → at < length text → 0 < end_len (drop at text) → IsCharBoundary text at
before_end text at lt some =
    let low = (end_is_ascii (drop at text) some).0 in
    let at_first : get_or text at 0 < 128 = subst (λ (x : ℕ). x < 128) (get_or-drop at text 0 0 ∙ ap (λ k. get_or text k 0) (omega arith)) low in
    IsCharBoundary-before_ascii text at lt at_first
