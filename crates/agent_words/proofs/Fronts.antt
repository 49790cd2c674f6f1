-- Words by their front.
use Rattle.std.proofs.Common.{zero, suc, ◌≡◌, ◌≤◌, ◌-◌, List, ℕ, [], ◌∷◌, String, length, drop, take, get_or, sym, ap, ◌∙◌, arith}
use Rattle.std.specs.declared.alloc.Global.{Global}
use Rattle.std.proofs.lemmas.List.{take_all}

-- where there is a word, the first one and those behind it are all
pub front_one : (ws : List (String Global)) (a : String Global) → 1 ≤ length ws → a ≡ get_or ws 0 a → ws ≡ a ∷ drop 1 ws
front_one [] a low p = absurd (omega arith)
front_one (x ∷ ws) a low p = ap (λ (y : String Global). y ∷ ws) (sym p)

-- where there are two words, those and the words behind them are all
pub front_two : (ws : List (String Global)) (a b : String Global) → 2 ≤ length ws → a ≡ get_or ws 0 a → b ≡ get_or ws 1 b → ws ≡ a ∷ b ∷ drop 2 ws
front_two [] a b low p q = absurd (omega arith)
front_two (x ∷ []) a b low p q = absurd (omega arith)
front_two (x ∷ y ∷ ws) a b low p q = ap (λ (z : String Global). z ∷ y ∷ ws) (sym p) ∙ ap (λ (z : String Global). a ∷ z ∷ ws) (sym q)

-- what is taken whole
pub whole_after : (n : ℕ) (ws : List (String Global)) → take (length ws - n) (drop n ws) ≡ drop n ws
whole_after n ws = take_all (length ws - n) (drop n ws) (omega (arith, length_after n ws))
  where
    length_after : (n : ℕ) (ws : List (String Global)) → length (drop n ws) ≤ length ws - n
    length_after zero ws = omega arith
    length_after (suc n) [] = omega arith
    length_after (suc n) (x ∷ ws) = omega (arith, length_after n ws)
