-- What one more byte does to a key and to a spelling.
use Rattle.std.proofs.Common.{◌≡◌, ℕ, ◌+◌, ◌<◌, true, false, cond, ◌==◌, List, [], ◌∷◌, ◌++◌, length, get_or, drop, refl, sym, ap, ◌∙◌, append_assoc, arith, suc, zero, option_map, option_and_then, Some, None, Option}
use Rattle.std.proofs.lemmas.Bool.{cond-true, cond-false, eq-eqb, ne_eqb, cond_both}
use Rattle.std.proofs.lemmas.List.{drop_more}
use Rattle.prop_text.specs.Pairs.{unescaped, escape, key_len, key_step, ends_key}

-- bytes that are passed over are gone
pub unescaped_passes : (n : ℕ) (bs : List ℕ) → unescaped n bs ≡ unescaped 0 (drop n bs)
unescaped_passes zero bs = refl
unescaped_passes (suc n) [] = refl
unescaped_passes (suc n) (b ∷ bs) = unescaped_passes n bs

-- bytes in front of bytes in front of what follows
pub put_front : (xs ys : List ℕ) (o : Option (List ℕ)) → option_map (λ rest. xs ++ rest) (option_map (λ rest. ys ++ rest) o) ≡ option_map (λ rest. (xs ++ ys) ++ rest) o
put_front xs ys None = refl
put_front xs ys (Some r) = ap (λ (x : List ℕ). Some x) (sym (append_assoc xs ys r))

-- a byte that is no backslash stands for itself
pub unescaped_plain : (out raw : List ℕ) (at : ℕ) → at < length raw → (get_or raw at 0 ≡ 92 → ⊥) → option_map (λ rest. out ++ rest) (unescaped 0 (drop at raw)) ≡ option_map (λ rest. (out ++ get_or raw at 0 ∷ []) ++ rest) (unescaped 0 (drop (at + 1) raw))
unescaped_plain out raw at lt ne =
    let b = get_or raw at 0 in
    ap (λ (x : List ℕ). option_map (λ rest. out ++ rest) (unescaped 0 x)) (drop_more raw at 0 lt)
    ∙ ap (option_map (λ rest. out ++ rest)) (cond-false (b == 92) _ _ (ne_eqb b 92 ne))
    ∙ put_front out (b ∷ []) (unescaped 0 (drop (at + 1) raw))

-- an escape stands for what it spells
pub unescaped_escape : (out raw spelled : List ℕ) (at taken : ℕ) → at < length raw → get_or raw at 0 ≡ 92 → escape (drop (at + 1) raw) ≡ Some (spelled, taken) → option_map (λ rest. out ++ rest) (unescaped 0 (drop at raw)) ≡ option_map (λ rest. (out ++ spelled) ++ rest) (unescaped 0 (drop taken (drop (at + 1) raw)))
unescaped_escape out raw spelled at taken lt eq found =
    let b = get_or raw at 0 in
    let rest = drop (at + 1) raw in
    ap (λ (x : List ℕ). option_map (λ rest. out ++ rest) (unescaped 0 x)) (drop_more raw at 0 lt)
    ∙ ap (option_map (λ rest. out ++ rest)) (cond-true (b == 92) _ _ (eq-eqb b 92 eq))
    ∙ ap (λ (e : Option (List ℕ × ℕ)). option_map (λ rest. out ++ rest) (option_and_then (λ s. option_map (λ x. s.0 ++ x) (unescaped s.1 rest)) e)) found
    ∙ put_front out spelled (unescaped taken rest)
    ∙ ap (option_map (λ x. (out ++ spelled) ++ x)) (unescaped_passes taken rest)

-- a step within a key
key_step_more : (b : ℕ) (bs : List ℕ) → ends_key b ≡ false → key_len (b ∷ bs) ≡ key_step (b ∷ bs) + key_len (drop (key_step (b ∷ bs)) (b ∷ bs))
key_step_more b [] keeps = cond-false (ends_key b) _ _ keeps
key_step_more b (c ∷ bs) keeps =
    cond-false (ends_key b) _ _ keeps ∙
    cond_both (b == 92) 2 1 (λ n. cond (b == 92) (2 + key_len bs) (1 + key_len (c ∷ bs)) ≡ n + key_len (drop n (b ∷ c ∷ bs))) (λ e. cond-true (b == 92) _ _ e) (λ e. cond-false (b == 92) _ _ e)

-- a byte that ends no key makes it longer by its step
pub key_len_step : (line : List ℕ) (at : ℕ) → at < length line → ends_key (get_or line at 0) ≡ false → key_len (drop at line) ≡ key_step (drop at line) + key_len (drop (key_step (drop at line)) (drop at line))
key_len_step line at lt keeps = rw (drop_more line at 0 lt) (key_step_more (get_or line at 0) (drop (at + 1) line) keeps)

key_step_positive_cons : (b : ℕ) (bs : List ℕ) → 0 < key_step (b ∷ bs)
key_step_positive_cons b [] = omega arith
key_step_positive_cons b (c ∷ bs) = cond_both (b == 92) 2 1 (λ n. 0 < n) (λ _. omega arith) (λ _. omega arith)

-- a step within a key takes some bytes
pub key_step_positive : (bs : List ℕ) → 0 < length bs → 0 < key_step bs
key_step_positive [] h = absurd (omega arith)
key_step_positive (b ∷ bs) h = key_step_positive_cons b bs

-- a key ends where a byte that ends keys stands
pub key_len_end : (line : List ℕ) (at : ℕ) → at < length line → ends_key (get_or line at 0) ≡ true → key_len (drop at line) ≡ 0
key_len_end line at lt stops = rw (drop_more line at 0 lt) (key_len_ends (get_or line at 0) (drop (at + 1) line) stops)
  where
    key_len_ends : (b : ℕ) (bs : List ℕ) → ends_key b ≡ true → key_len (b ∷ bs) ≡ 0
    key_len_ends b [] h = cond-true (ends_key b) _ _ h
    key_len_ends b (c ∷ bs) h = cond-true (ends_key b) _ _ h
