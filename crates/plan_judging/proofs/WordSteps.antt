-- What one more byte does to lists and numbers.
use Rattle.std.proofs.Common.{◌≡◌, ℕ, ◌+◌, ◌-◌, ◌*◌, ◌<◌, ◌≤◌, true, false, List, [], ◌∷◌, ◌++◌, filter, length, get_or, drop, take, refl, sym, ap, ◌∙◌, append_assoc, arith, Option, None, Some, option_and_then, nat_le, if◌then◌else◌, ◌&&◌, ⊎_elim}
use Rattle.std.proofs.lemmas.Bool.{cond-true, cond-false, cond_both, cases_Bool, and_right, lt-leb}
use Rattle.std.proofs.lemmas.List.{drop_more, take_more, get_or-drop, length-drop, append-nil}
use Rattle.std.specs.Char.{is_ascii_digit}
use Rattle.prop_text.specs.Lines.{is_white_space, with_front}
use Rattle.plan_judging.specs.Words.{pieces, is_word, words, decimal, decimal_behind, number_in}

-- a number only grows
decimal_behind_grows : (bs : List ℕ) (number n : ℕ) → decimal_behind number bs ≡ Some n → number ≤ n
decimal_behind_grows [] number n e = let same : number ≡ n = cc in omega arith
decimal_behind_grows (b ∷ bs) number n e =
    ⊎_elim
    (λ t. let more = decimal_behind_grows bs (number * 10 + (b - 48)) n (sym (cond-true (is_ascii_digit b) _ _ t) ∙ e) in omega (arith, more))
    (λ f. let none : None ≡ Some n = sym (cond-false (is_ascii_digit b) _ _ f) ∙ e in absurd (none_some none))
    (cases_Bool (is_ascii_digit b))
  where
    none_some : {n : ℕ} → None ≡ Some n → ⊥
    none_some e = cc

above : (max : ℕ) (o : Option ℕ) → ((n : ℕ) → o ≡ Some n → max < n) → option_and_then (λ n. if nat_le 0 n && nat_le n max then Some n else None) o ≡ None
above max None h = refl
above max (Some n) h = cond-false (nat_le 0 n && nat_le n max) _ _ (and_right (nat_le 0 n) (nat_le n max) (lt-leb n max (h n refl)))

behind_any : (text : List ℕ) → 0 < length text → decimal text ≡ decimal_behind 0 text
behind_any [] h = absurd (omega arith)
behind_any (b ∷ bs) h = refl

-- a number that has passed the greatest is none
pub passes : (max number i : ℕ) (text : List ℕ) → i < length text → is_ascii_digit (get_or text i 0) ≡ true → decimal_behind number (drop i text) ≡ decimal_behind 0 text → max < number * 10 + (get_or text i 0 - 48) → number_in 0 max text ≡ None
passes max number i text lt digit kept over =
    above max (decimal text) (λ n e.
    let b = get_or text i 0 in
    let step = ap (decimal_behind number) (drop_more text i 0 lt) ∙ cond-true (is_ascii_digit b) _ _ digit in
    let grows = decimal_behind_grows (drop (i + 1) text) (number * 10 + (b - 48)) n (sym step ∙ kept ∙ sym (behind_any text (omega arith)) ∙ e) in
    omega (arith, grows))

-- bytes before a list whose first piece is empty are its first piece
pub with_front-nil : (xs : List ℕ) (ls : List (List ℕ)) → with_front xs ([] ∷ ls) ≡ xs ∷ ls
with_front-nil xs ls = ap (λ (x : List ℕ). x ∷ ls) (append-nil xs)

-- one byte before a list and bytes before that are one front
pub with_front-with_front : (xs : List ℕ) (b : ℕ) (ls : List (List ℕ)) → with_front xs (with_front (b ∷ []) ls) ≡ with_front (xs ++ b ∷ []) ls
with_front-with_front xs b [] = refl
with_front-with_front xs b (l ∷ ls) = ap (λ (x : List ℕ). x ∷ ls) (sym (append_assoc xs (b ∷ []) l))

-- an empty front before a list that begins with a byte changes nothing
pub front_kept : (b : ℕ) (ls : List (List ℕ)) → with_front [] (with_front (b ∷ []) ls) ≡ with_front (b ∷ []) ls
front_kept b [] = refl
front_kept b (l ∷ ls) = refl

-- there is always a piece
pub with_front-pieces : (bs : List ℕ) → with_front [] (pieces bs) ≡ pieces bs
with_front-pieces [] = refl
with_front-pieces (b ∷ bs) =
    let P : List (List ℕ) → Type 0 = λ x. with_front [] x ≡ x in
    cond_both (is_white_space b) _ _ P (λ _. refl) (λ _. front_kept b (pieces bs))

module _ (text : List ℕ) (start at : ℕ) (ordered : start ≤ at) (within : at < length text) where
  -- the text of the word so far
  abbrev so_far : List ℕ
  so_far = take (at - start) (drop start text)

  -- one more byte of a word
  pub word_goes : is_white_space (get_or text at 0) ≡ false → with_front (take (at - start) (drop start text)) (pieces (drop at text)) ≡ with_front (take (at + 1 - start) (drop start text)) (pieces (drop (at + 1) text))
  word_goes h =
      let cons = drop_more text at 0 within in
      let read = ap pieces cons ∙ cond-false (is_white_space (get_or text at 0)) _ _ h in
      let places : at + 1 - start ≡ at - start + 1 = omega arith in
      let same : start + (at - start) ≡ at = omega arith in
      let longer = take_more (drop start text) (at - start) 0 (omega (arith, length-drop start text)) ∙ ap (λ (x : ℕ). so_far ++ x ∷ []) (get_or-drop start text (at - start) 0 ∙ ap (λ k. get_or text k 0) same) in
      ap (with_front so_far) read ∙ with_front-with_front so_far (get_or text at 0) (pieces (drop (at + 1) text)) ∙ ap (λ (x : List ℕ). with_front x (pieces (drop (at + 1) text))) (sym (ap (λ k. take k (drop start text)) places ∙ longer))

  word_ends : is_white_space (get_or text at 0) ≡ true → with_front (take (at - start) (drop start text)) (pieces (drop at text)) ≡ take (at - start) (drop start text) ∷ pieces (drop (at + 1) text)
  word_ends h = ap (with_front so_far) (ap pieces (drop_more text at 0 within) ∙ cond-true (is_white_space (get_or text at 0)) _ _ h) ∙ with_front-nil so_far (pieces (drop (at + 1) text))

  split_first : (w : List ℕ) (ws : List (List ℕ)) → filter is_word (w ∷ ws) ≡ filter is_word (w ∷ []) ++ filter is_word ws
  split_first w ws = cond_both (is_word w) (w ∷ filter is_word ws) (filter is_word ws) (λ x. x ≡ filter is_word (w ∷ []) ++ filter is_word ws)
      (λ t. ap (λ (x : List (List ℕ)). x ++ filter is_word ws) (sym (cond-true (is_word w) (w ∷ []) [] t)))
      (λ f. ap (λ (x : List (List ℕ)). x ++ filter is_word ws) (sym (cond-false (is_word w) (w ∷ []) [] f)))

  -- a word that has ended joins the words so far
  pub word_joins : (old : List (List ℕ)) → is_white_space (get_or text at 0) ≡ true → old ++ filter is_word (with_front (take (at - start) (drop start text)) (pieces (drop at text))) ≡ words text → (old ++ filter is_word (take (at - start) (drop start text) ∷ [])) ++ filter is_word (with_front (take (at + 1 - (at + 1)) (drop (at + 1) text)) (pieces (drop (at + 1) text))) ≡ words text
  word_joins old h was =
      let none : at + 1 - (at + 1) ≡ 0 = omega arith in
      let rest = pieces (drop (at + 1) text) in
      let empty = ap (λ k. with_front (take k (drop (at + 1) text)) rest) none ∙ with_front-pieces (drop (at + 1) text) in
      ap (λ (x : List (List ℕ)). (old ++ filter is_word (so_far ∷ [])) ++ filter is_word x) empty
      ∙ append_assoc old (filter is_word (so_far ∷ [])) (filter is_word rest)
      ∙ sym (ap (λ (x : List (List ℕ)). old ++ x) (ap (filter is_word) (word_ends h) ∙ split_first so_far rest)) ∙ was
