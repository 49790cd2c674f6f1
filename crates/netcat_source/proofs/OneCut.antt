-- A text is cut into lines in one way.
use Rattle.std.proofs.Common.{◌≡◌, ℕ, List, [], ◌∷◌, ◌++◌, length, take, get_or, All, refl, sym, ap, ◌∙◌, arith, append_assoc, length-append}
use Rattle.std.proofs.lemmas.List.{get_or_at, get_or-take, length-take-le}
use Rattle.std.proofs.lemmas.List.Elements.{All-head, All-tail, All-get_or}
use Rattle.netcat_source.specs.Lines.{IsLine, IsUnbroken, IsEnd, IsCut, LinesEnd, Rest, TooLong, joined, ended}

-- a newline stands after an unbroken front in one place
same_front : (l m x y : List ℕ) → IsUnbroken l → IsUnbroken m → l ++ 10 ∷ x ≡ m ++ 10 ∷ y → (l ≡ m) × (x ≡ y)
same_front [] [] x y p q e = (refl, cc)
same_front [] (b ∷ m) x y p q e = let h : b ≡ 10 = cc in absurd (All-head (λ b. b ≡ 10 → ⊥) b m q h)
same_front (a ∷ l) [] x y p q e = let h : a ≡ 10 = cc in absurd (All-head (λ b. b ≡ 10 → ⊥) a l p h)
same_front (a ∷ l) (b ∷ m) x y p q e =
    let head : a ≡ b = cc in
    let tail : l ++ 10 ∷ x ≡ m ++ 10 ∷ y = cc in
    let r = same_front l m x y (All-tail (λ b. b ≡ 10 → ⊥) a l p) (All-tail (λ b. b ≡ 10 → ⊥) b m q) tail in
    let s = r.0 in
    (cc, r.1)

-- an end holds no whole line
no_line : (max : ℕ) (end : LinesEnd) (rest l x : List ℕ) → IsEnd max end rest → IsLine max l → rest ≡ l ++ 10 ∷ x → ⊥
no_line max Rest rest l x is line e =
    let at : get_or rest (length l) 0 ≡ 10 = ap (λ r. get_or r (length l) 0) e ∙ get_or_at l 10 x 0 (length l) refl in
    All-get_or (λ b. b ≡ 10 → ⊥) rest (length l) 0 (omega (arith, ap length e, length-append l (10 ∷ x))) is.unbroken at
no_line max TooLong rest l x is line e =
    let at : get_or rest (length l) 0 ≡ 10 = ap (λ r. get_or r (length l) 0) e ∙ get_or_at l 10 x 0 (length l) refl in
    let front : get_or (take max rest) (length l) 0 ≡ 10 = get_or-take max rest (length l) 0 line.short ∙ at in
    All-get_or (λ b. b ≡ 10 → ⊥) (take max rest) (length l) 0 (omega (arith, length-take-le max rest is.long, line.short)) is.unbroken front

same_end : (max : ℕ) (d e : LinesEnd) (rest rest' : List ℕ) → rest ≡ rest' → IsEnd max d rest → IsEnd max e rest' → d ≡ e
same_end max Rest Rest r s h p q = refl
same_end max Rest TooLong r s h p q = absurd (omega (arith, p.short, q.long, ap length h))
same_end max TooLong Rest r s h p q = absurd (omega (arith, p.long, q.short, ap length h))
same_end max TooLong TooLong r s h p q = refl

same_cut : (max : ℕ) (ls ms : List (List ℕ)) (d e : LinesEnd) (r s : List ℕ) → joined ls ++ r ≡ joined ms ++ s → All (IsLine max) ls → All (IsLine max) ms → IsEnd max d r → IsEnd max e s → (ls ≡ ms) × (d ≡ e)
same_cut max [] [] d e r s h p q u v = (refl, same_end max d e r s h u v)
same_cut max [] (m ∷ ms) d e r s h p q u v =
    absurd (no_line max d r m (joined ms ++ s) u (All-head (IsLine max) m ms q) (h ∙ append_assoc (ended m) (joined ms) s ∙ append_assoc m (10 ∷ []) (joined ms ++ s)))
same_cut max (l ∷ ls) [] d e r s h p q u v =
    absurd (no_line max e s l (joined ls ++ r) v (All-head (IsLine max) l ls p) (sym h ∙ append_assoc (ended l) (joined ls) r ∙ append_assoc l (10 ∷ []) (joined ls ++ r)))
same_cut max (l ∷ ls) (m ∷ ms) d e r s h p q u v =
    let left = append_assoc (ended l) (joined ls) r ∙ append_assoc l (10 ∷ []) (joined ls ++ r) in
    let right = append_assoc (ended m) (joined ms) s ∙ append_assoc m (10 ∷ []) (joined ms ++ s) in
    let lp = All-head (IsLine max) l ls p in
    let mp = All-head (IsLine max) m ms q in
    let f = same_front l m (joined ls ++ r) (joined ms ++ s) lp.unbroken mp.unbroken (sym left ∙ h ∙ right) in
    let c = same_cut max ls ms d e r s f.1 (All-tail (IsLine max) l ls p) (All-tail (IsLine max) m ms q) u v in
    let a = f.0 in
    let b = c.0 in
    (cc, c.1)

-- as what stands after the lines is no line
pub one_cut : (max : ℕ) (bytes : List ℕ) (ls ms : List (List ℕ)) (d e : LinesEnd) → IsCut max bytes ls d → IsCut max bytes ms e → (ls ≡ ms) × (d ≡ e)
one_cut max bytes ls ms d e p q = same_cut max ls ms d e p.rest q.rest (sym p.whole ∙ q.whole) p.each q.each p.ends q.ends
