-- Lists that are copied, by what is seen of each item.
use Rattle.std.proofs.Common.{◌≡◌, ◌∙◌, ◌<◌, ◌+◌, ℕ, List, [], ◌∷◌, ◌++◌, length, get_or, map, take, refl, sym, ap}
use Rattle.std.proofs.lemmas.List.{map-append, map_more}
use Rattle.std.specs.List.{AllZip}

module _ {A V : Type 0} (seen : A → V) where
  -- all at once
  pub seen_all : (xs ys : List A) → AllZip (λ x y. seen y ≡ seen x) xs ys → map seen ys ≡ map seen xs
  seen_all [] [] all = refl
  seen_all [] (y ∷ ys) all = absurd all
  seen_all (x ∷ xs) [] all = absurd all
  seen_all (x ∷ xs) (y ∷ ys) all = λ i. all.0 i ∷ seen_all xs ys all.1 i

  -- one more
  pub seen_more : (xs copies after : List A) (i : ℕ) (x y : A) → i < length xs → x ≡ get_or xs i x → seen y ≡ seen x → after ≡ copies ++ y ∷ []
      → map seen copies ≡ map seen (take i xs) → map seen after ≡ map seen (take (i + 1) xs)
  seen_more xs copies after i x y below at same is before =
      ap (map seen) is ∙ map-append seen copies (y ∷ []) ∙ (λ j. before j ++ (same ∙ ap seen at) j ∷ []) ∙ sym (map_more seen xs i x below)
