-- No spelling begins another.
use Rattle.std.proofs.Common.{◌≡◌, ℕ, suc, true, false, List, [], ◌∷◌, ◌++◌, length, refl, sym, ap, ◌∙◌, append_assoc, arith}
use Rattle.std.specs.Prelude.{ℤ, pos, negsuc}
use Rattle.std.proofs.lemmas.List.{append_cancel_left}
use Rattle.avro_binary.specs.Number.{IsGroups, IsNumber, zigzag, IsInt, IsLong}
use Rattle.avro_binary.specs.Value.{IsBoolean, IsBytes, IsText, IsFixed}
use Rattle.avro_binary.specs.Items.{IsCount, Plain, Sized, IsItems, Next, Open, Close, IsEntry, IsMeta, IsMap}
use Rattle.avro_binary.specs.Event.{IsEvent, IsBatch, headers_of}
use Rattle.event_core.specs.Content.{Content, Header, content}
use Rattle.avro_binary.specs.Laws.{IsPrefixFree}
use Rattle.avro_binary.proofs.Lists.{same_front}

-- two lists that are equal begin with the same byte and go on alike
pub same_head : (b c : ℕ) (x y : List ℕ) → (b ∷ x) ≡ (c ∷ y) → (b ≡ c) × (x ≡ y)
same_head b c x y e = (cc, cc)

-- groups that begin the same bytes are the same and stand for one number
pub same_groups : (a b x y : List ℕ) (m n : ℕ) → IsGroups a m → IsGroups b n → a ++ x ≡ b ++ y → (a ≡ b) × (m ≡ n)
same_groups [] b x y m n g h e = absurd g
same_groups (i ∷ a) [] x y m n g h e = absurd h
same_groups (i ∷ []) (k ∷ []) x y m n g h e =
    let s = same_head i k x y e in
    let p = s.0 in
    (ap (λ (t : ℕ). t ∷ []) p, omega (arith, g.1, h.1))
same_groups (i ∷ []) (k ∷ l ∷ b) x y m n g h e =
    let s = same_head i k x (l ∷ (b ++ y)) e in
    absurd (omega (arith, s.0, g.0, h.0))
same_groups (i ∷ j ∷ a) (k ∷ []) x y m n g h e =
    let s = same_head i k (j ∷ (a ++ x)) y e in
    absurd (omega (arith, s.0, g.0, h.0))
same_groups (i ∷ j ∷ a) (k ∷ l ∷ b) x y m n g h e =
    let s = same_head i k (j ∷ (a ++ x)) (l ∷ (b ++ y)) e in
    let r = same_groups (j ∷ a) (l ∷ b) x y g.2 h.2 g.4 h.4 s.1 in
    let p = s.0 in
    let q = r.0 in
    (cc, omega (arith, s.0, r.1, g.3, h.3))

-- zigzag gives different numbers different codes
pub same_sign : (y z : ℤ) → zigzag y ≡ zigzag z → y ≡ z
same_sign (pos m) (pos n) e = ap pos (omega (arith, e))
same_sign (pos m) (negsuc n) e = absurd (omega (arith, e))
same_sign (negsuc m) (pos n) e = absurd (omega (arith, e))
same_sign (negsuc m) (negsuc n) e = ap negsuc (omega (arith, e))

-- no spelling of a signed number begins another, whatever its width
pub same_number : (most max : ℕ) → IsPrefixFree (λ (bytes : List ℕ) (z : ℤ). IsNumber most max bytes (zigzag z))
same_number most max a b x y v w g h e =
    let s = same_groups a b x y (zigzag v) (zigzag w) g.groups h.groups e in
    (s.0, same_sign v w s.1)

-- no int begins another
pub same_int : IsPrefixFree IsInt
same_int = same_number 5 0xffff_ffff

-- no long begins another
pub same_long : IsPrefixFree IsLong
same_long = same_number 10 0xffff_ffff_ffff_ffff

-- numbers that are equal as integers are equal
pub same_natural : (m n : ℕ) → pos m ≡ pos n → m ≡ n
same_natural m n e = cc

same_negative : (m n : ℕ) → negsuc m ≡ negsuc n → m ≡ n
same_negative m n e = cc

-- no boolean begins another
pub same_boolean : IsPrefixFree IsBoolean
same_boolean a b x y true true p q e = (p ∙ sym q, refl)
same_boolean a b x y false false p q e = (p ∙ sym q, refl)
same_boolean a b x y true false p q e =
    let f : (1 ∷ x) ≡ (0 ∷ y) = ap (λ (t : List ℕ). t ++ x) (sym p) ∙ e ∙ ap (λ (t : List ℕ). t ++ y) q in
    absurd (omega (arith, (same_head 1 0 x y f).0))
same_boolean a b x y false true p q e =
    let f : (0 ∷ x) ≡ (1 ∷ y) = ap (λ (t : List ℕ). t ++ x) (sym p) ∙ e ∙ ap (λ (t : List ℕ). t ++ y) q in
    absurd (omega (arith, (same_head 0 1 x y f).0))

-- two lists that are joined of two parts each
pub regroup : (a b x c d y w z : List ℕ) → w ≡ a ++ b → z ≡ c ++ d → w ++ x ≡ z ++ y → a ++ (b ++ x) ≡ c ++ (d ++ y)
regroup a b x c d y w z p q e = sym (append_assoc a b x) ∙ ap (λ (t : List ℕ). t ++ x) (sym p) ∙ e ∙ ap (λ (t : List ℕ). t ++ y) q ∙ append_assoc c d y

-- what follows the same front in the same bytes is the same
pub rest_same : (a c s t : List ℕ) → a ≡ c → a ++ s ≡ c ++ t → s ≡ t
rest_same a c s t p e = append_cancel_left c s t (ap (λ (u : List ℕ). u ++ s) (sym p) ∙ e)

whole_same : (a b c d w z : List ℕ) → w ≡ a ++ b → z ≡ c ++ d → a ≡ c → b ≡ d → w ≡ z
whole_same a b c d w z p q e f = cc

-- no bytes with their length begin others
pub same_bytes : IsPrefixFree IsBytes
same_bytes a b x y v w p q e =
    let f = regroup p.front v x q.front w y a b p.whole q.whole e in
    let s = same_long p.front q.front (v ++ x) (w ++ y) (pos (length v)) (pos (length w)) p.counted q.counted f in
    let r = same_front v w x y (same_natural (length v) (length w) s.1) (rest_same p.front q.front (v ++ x) (w ++ y) s.0 f) in
    (whole_same p.front v q.front w a b p.whole q.whole s.0 r.0, r.0)

-- no text begins another
pub same_text : IsPrefixFree IsText
same_text a b x y v w p q e = same_bytes a b x y v w p.counted q.counted e

-- no fixed value begins another
pub same_fixed : IsPrefixFree IsFixed
same_fixed a b x y v w p q e =
    let s = same_front a b x y (ap length p.0 ∙ p.1 ∙ sym q.1 ∙ sym (ap length q.0)) e in
    (s.0, sym p.0 ∙ s.0 ∙ q.0)

-- two counts at the front of the same bytes are one
pub same_count : (a b x y : List ℕ) (m n : ℕ) → IsCount a m → IsCount b n → a ++ x ≡ b ++ y → (a ≡ b) × (m ≡ n)
same_count a b x y m n (Plain p) (Plain q) e =
    let s = same_long a b x y (pos m) (pos n) p q e in
    (s.0, same_natural m n s.1)
same_count a b x y m n (Plain p) (Sized front back k size whole first second e2) e =
    let f : a ++ x ≡ front ++ (back ++ y) = e ∙ ap (λ (t : List ℕ). t ++ y) whole ∙ append_assoc front back y in
    let s = same_long a front x (back ++ y) (pos m) (negsuc k) p first f in
    absurd (let h = s.1 in cc)
same_count a b x y m n (Sized front back k size whole first second e2) (Plain q) e =
    let f : front ++ (back ++ x) ≡ b ++ y = sym (append_assoc front back x) ∙ ap (λ (t : List ℕ). t ++ x) (sym whole) ∙ e in
    let s = same_long front b (back ++ x) y (negsuc k) (pos n) first q f in
    absurd (let h = s.1 in cc)
same_count a b x y m n (Sized front back k size whole first second e2) (Sized front' back' k' size' whole' first' second' e2') e =
    let f = regroup front back x front' back' y a b whole whole' e in
    let s = same_long front front' (back ++ x) (back' ++ y) (negsuc k) (negsuc k') first first' f in
    let r = same_long back back' x y size size' second second' (rest_same front front' (back ++ x) (back' ++ y) s.0 f) in
    (whole_same front back front' back' a b whole whole' s.0 r.0, e2 ∙ ap suc (same_negative k k' s.1) ∙ sym e2')

-- no block's count begins another
pub same_counts : IsPrefixFree IsCount
same_counts a b x y m n p q e = same_count a b x y m n p q e

-- no run of items begins another, if no item does
pub same_items : {V : Type 0} (Item : List ℕ → V → Type 0) → IsPrefixFree Item → (j k : ℕ) (a b x y : List ℕ) (v w : List V) → j ≡ k → IsItems Item j a v → IsItems Item k b w → a ++ x ≡ b ++ y → (a ≡ b) × (v ≡ w)
same_items {V} Item free j k a b x y v w jk (Next left all front rest value values whole i more) (Next left' all' front' rest' value' values' whole' i' more') e =
    let f = regroup front rest x front' rest' y a b whole whole' e in
    let s = free front front' (rest ++ x) (rest' ++ y) value value' i i' f in
    let r = same_items Item free left left' rest rest' x y values values' (omega arith) more more' (rest_same front front' (rest ++ x) (rest' ++ y) s.0 f) in
    let p = s.1 in
    let q = r.1 in
    (whole_same front rest front' rest' a b whole whole' s.0 r.0, cc)
same_items {V} Item free j k a b x y v w jk (Next left all front rest value values whole i more) (Open n all' front' rest' values' whole' count some more') e = absurd (omega arith)
same_items {V} Item free j k a b x y v w jk (Next left all front rest value values whole i more) (Close all' count) e = absurd (omega arith)
same_items {V} Item free j k a b x y v w jk (Open n all front rest values whole count some more) (Next left' all' front' rest' value' values' whole' i' more') e = absurd (omega arith)
same_items {V} Item free j k a b x y v w jk (Open n all front rest values whole count some more) (Open n' all' front' rest' values' whole' count' some' more') e =
    let f = regroup front rest x front' rest' y a b whole whole' e in
    let s = same_count front front' (rest ++ x) (rest' ++ y) n n' count count' f in
    let r = same_items Item free n n' rest rest' x y v w s.1 more more' (rest_same front front' (rest ++ x) (rest' ++ y) s.0 f) in
    (whole_same front rest front' rest' a b whole whole' s.0 r.0, r.1)
same_items {V} Item free j k a b x y v w jk (Open n all front rest values whole count some more) (Close all' count') e =
    let f : front ++ (rest ++ x) ≡ b ++ y = sym (append_assoc front rest x) ∙ ap (λ (t : List ℕ). t ++ x) (sym whole) ∙ e in
    let s = same_count front b (rest ++ x) y n 0 count count' f in
    absurd (omega (arith, s.1))
same_items {V} Item free j k a b x y v w jk (Close all count) (Next left' all' front' rest' value' values' whole' i' more') e = absurd (omega arith)
same_items {V} Item free j k a b x y v w jk (Close all count) (Open n' all' front' rest' values' whole' count' some' more') e =
    let f : a ++ x ≡ front' ++ (rest' ++ y) = e ∙ ap (λ (t : List ℕ). t ++ y) whole' ∙ append_assoc front' rest' y in
    let s = same_count a front' x (rest' ++ y) 0 n' count count' f in
    absurd (omega (arith, s.1))
same_items {V} Item free j k a b x y v w jk (Close all count) (Close all' count') e =
    let s = same_count a b x y 0 0 count count' e in
    (s.0, refl)

abbrev pair_of : List ℕ → List ℕ → Header
pair_of key value = (key, value)

same_pair : (p q : List ℕ × List ℕ) → p.0 ≡ q.0 → p.1 ≡ q.1 → p ≡ q
same_pair p q a b = ap (λ (k : List ℕ). pair_of k p.1) a ∙ ap (λ (v : List ℕ). pair_of q.0 v) b

-- no entry begins another, if no value of its kind does
pub same_entry : (Spells : List ℕ → List ℕ → Type 0) → IsPrefixFree Spells → IsPrefixFree (IsEntry Spells)
same_entry Spells free a b x y v w p q e =
    let f = regroup p.front p.back x q.front q.back y a b p.whole q.whole e in
    let s = same_text p.front q.front (p.back ++ x) (q.back ++ y) v.0 w.0 p.key q.key f in
    let r = free p.back q.back x y v.1 w.1 p.value q.value (rest_same p.front q.front (p.back ++ x) (q.back ++ y) s.0 f) in
    (whole_same p.front p.back q.front q.back a b p.whole q.whole s.0 r.0, same_pair v w s.1 r.1)

-- no map of bytes begins another
pub same_meta : IsPrefixFree IsMeta
same_meta a b x y v w p q e = same_items (IsEntry IsBytes) (same_entry IsBytes same_bytes) 0 0 a b x y v w refl p q e

-- no map of texts begins another
pub same_map : IsPrefixFree IsMap
same_map a b x y v w p q e = same_items (IsEntry IsText) (same_entry IsText same_text) 0 0 a b x y v w refl p q e

same_content : (v w : Content) → v.headers ≡ w.headers → v.body ≡ w.body → v ≡ w
same_content v w p q = ap (λ (h : List Header). content h v.body) p ∙ ap (λ (b : List ℕ). content w.headers b) q

-- no event begins another
pub same_event : IsPrefixFree IsEvent
same_event a b x y v w p q e =
    let f = regroup p.front p.back x q.front q.back y a b p.whole q.whole e in
    let s = same_map p.front q.front (p.back ++ x) (q.back ++ y) p.entries q.entries p.map q.map f in
    let r = same_bytes p.back q.back x y v.body w.body p.body q.body (rest_same p.front q.front (p.back ++ x) (q.back ++ y) s.0 f) in
    (whole_same p.front p.back q.front q.back a b p.whole q.whole s.0 r.0, same_content v w (p.headers ∙ ap headers_of s.1 ∙ sym q.headers) r.1)

-- no batch begins another
pub same_batch : IsPrefixFree IsBatch
same_batch a b x y v w p q e = same_items IsEvent same_event 0 0 a b x y v w refl p q e
