-- Lists of calls, and their beginnings.
use Rattle.std.proofs.Common.{◌≡◌, ◌⊎◌, ℕ, suc, ◌<◌, ◌≤◌, List, [], ◌∷◌, ◌++◌, length, Bool, true, false, true≢false, ne_eqb, refl, sym, ap, ◌∙◌, subst, ⊎_elim, inl, inr, arith, length-append, append_assoc}
use Rattle.std.proofs.lemmas.List.{append-nil}
use Rattle.std.specs.Prelude.{◌||◌, ◌==◌}
use mathlib.Core.List.{IsPrefix}
use mathlib.Core.Logic.{dite}
use native.Mathlib.Decide.{ℕ_discrete}
use Rattle.channel_face.specs.History.{Step}
use Rattle.channel_lock.specs.Calls.{has, keep, calls_by, Below}
use Rattle.channel_lock.specs.Views.{longer}

-- each history begins with itself
pub begins_self : (xs : List Step) → IsPrefix xs xs
begins_self xs = ([], append-nil xs)

-- each history begins with no call at all
pub begins_empty : (xs : List Step) → IsPrefix [] xs
begins_empty xs = (xs, refl)

-- a beginning stays one when the history gains a call
pub begins_more : (xs log : List Step) (e : Step) → IsPrefix xs log → IsPrefix xs (log ++ e ∷ [])
begins_more xs log e p = (p.0 ++ e ∷ [], sym (append_assoc xs p.0 (e ∷ [])) ∙ ap (λ l. l ++ e ∷ []) p.1)

keep_append : (b : Bool) (e : Step) (xs ys : List Step) → keep b e (xs ++ ys) ≡ keep b e xs ++ ys
keep_append true e xs ys = refl
keep_append false e xs ys = refl

-- the calls of some passes in two histories, one after the other
pub calls_by-append : (ns : List ℕ) (xs ys : List Step) → calls_by ns (xs ++ ys) ≡ calls_by ns xs ++ calls_by ns ys
calls_by-append ns [] ys = refl
calls_by-append ns (x ∷ xs) ys = ap (keep (has ns x.pass) x) (calls_by-append ns xs ys) ∙ keep_append (has ns x.pass) x (calls_by ns xs) (calls_by ns ys)

-- a further call of another
pub calls_by-other : (ns : List ℕ) (xs : List Step) (e : Step) → has ns e.pass ≡ false → calls_by ns (xs ++ e ∷ []) ≡ calls_by ns xs
calls_by-other ns xs e apart = calls_by-append ns xs (e ∷ []) ∙ ap (λ b. calls_by ns xs ++ keep b e []) apart ∙ append-nil (calls_by ns xs)

-- a further call of one's own
pub calls_by-own : (ns : List ℕ) (xs : List Step) (e : Step) → has ns e.pass ≡ true → calls_by ns (xs ++ e ∷ []) ≡ calls_by ns xs ++ e ∷ []
calls_by-own ns xs e own = calls_by-append ns xs (e ∷ []) ∙ ap (λ b. calls_by ns xs ++ keep b e []) own

-- no number has a call
pub no_numbers : (xs : List Step) → calls_by [] xs ≡ []
no_numbers [] = refl
no_numbers (x ∷ xs) = no_numbers xs

-- one call more of a pass with a number below the bound
pub below-more : (bound : ℕ) (xs : List Step) (e : Step) → Below bound xs → e.pass < bound → Below bound (xs ++ e ∷ [])
below-more bound [] e all lt = (lt, tt)
below-more bound (x ∷ xs) e all lt = (all.0, below-more bound xs e all.1 lt)

-- of two beginnings of one history, the longer

rest_of : List Step → List Step
rest_of [] = []
rest_of (x ∷ xs) = xs

first_or : Step → List Step → Step
first_or e [] = e
first_or e (x ∷ xs) = x

-- the longer of two beginnings is one of the two, and has both as its own beginnings
pub longer_begins : (a b log : List Step) → IsPrefix a log → IsPrefix b log → IsPrefix a (longer a b) × IsPrefix b (longer a b) × IsPrefix (longer a b) log × ((longer a b ≡ a) ⊎ (longer a b ≡ b))
unfolding rest_of first_or
longer_begins [] b log p q = (begins_empty b, begins_self b, q, inr refl)
longer_begins (x ∷ xs) [] log p q = (begins_self (x ∷ xs), begins_empty (x ∷ xs), p, inl refl)
longer_begins (x ∷ xs) (y ∷ ys) [] p q = let e = p.1 in absurd (cc)
longer_begins (x ∷ xs) (y ∷ ys) (z ∷ zs) p q =
    let r = longer_begins xs ys zs (p.0, ap rest_of p.1) (q.0, ap rest_of q.1) in
    let xz : x ≡ z = ap (first_or x) p.1 in
    let yx : y ≡ x = ap (first_or y) q.1 ∙ sym xz in (
      (r.0.0, ap (λ l. x ∷ l) r.0.1),
      (r.1.0, λ i. yx i ∷ r.1.1 i),
      (r.2.0, λ i. xz i ∷ r.2.1 i),
      ⊎_elim (λ (e : longer xs ys ≡ xs). inl (ap (λ l. x ∷ l) e)) (λ (e : longer xs ys ≡ ys). inr (λ i. sym yx i ∷ e i)) r.3,
    )

-- a history of length 0 has no call
pub nil_of : (xs : List Step) → length xs ≡ 0 → xs ≡ []
nil_of [] e = refl
nil_of (x ∷ xs) e = absurd (omega arith)

-- what stood after a history that comes out the same was nothing
pub cut : (xs ys zs : List Step) → (xs ++ ys) ++ zs ≡ xs → (ys ≡ []) × (zs ≡ [])
cut xs ys zs e = let n = ap length e in (nil_of ys (omega (arith, length-append (xs ++ ys) zs, length-append xs ys)), nil_of zs (omega (arith, length-append (xs ++ ys) zs, length-append xs ys)))

-- the calls between, and after, where none was made since the first
parts : (ns : List ℕ) (a l log : List Step) (p : IsPrefix a l) (q : IsPrefix l log) → calls_by ns log ≡ calls_by ns a → (calls_by ns p.0 ≡ []) × (calls_by ns q.0 ≡ [])
parts ns a l log p q e = cut (calls_by ns a) (calls_by ns p.0) (calls_by ns q.0)
    (sym (ap (λ c. c ++ calls_by ns q.0) (calls_by-append ns a p.0)) ∙ ap (λ c. calls_by ns c ++ calls_by ns q.0) p.1 ∙ sym (calls_by-append ns l q.0) ∙ ap (calls_by ns) q.1 ∙ e)

-- passes that made no call up to the end made none up to a moment between
pub between : (ns : List ℕ) (a l log : List Step) → IsPrefix a l → IsPrefix l log → calls_by ns log ≡ calls_by ns a → calls_by ns l ≡ calls_by ns a
between ns a l log p q e = sym (ap (calls_by ns) p.1) ∙ calls_by-append ns a p.0 ∙ ap (λ c. calls_by ns a ++ c) (parts ns a l log p q e).0 ∙ append-nil (calls_by ns a)

or_assoc : (a b c : Bool) → (a || (b || c)) ≡ ((a || b) || c)
or_assoc true b c = refl
or_assoc false b c = refl

-- a number of two lists joined is one of the first or one of the second
pub has-append : (ns ms : List ℕ) (n : ℕ) → has (ns ++ ms) n ≡ (has ns n || has ms n)
has-append [] ms n = refl
has-append (m ∷ ns) ms n = ap (λ b. (m == n) || b) (has-append ns ms n) ∙ or_assoc (m == n) (has ns n) (has ms n)

or_true : (a b : Bool) → (a || b) ≡ true → (a ≡ true) ⊎ (b ≡ true)
or_true true b e = inl refl
or_true false b e = inr e

or_right : (a b : Bool) → b ≡ true → (a || b) ≡ true
or_right true b e = refl
or_right false b e = e

-- who has a number of two lists joined finds it in either
pub has_either : (ns ms : List ℕ) (n : ℕ) → has (ns ++ ms) n ≡ true → (has ns n ≡ true) ⊎ (has ms n ≡ true)
has_either ns ms n e = or_true (has ns n) (has ms n) (sym (has-append ns ms n) ∙ e)

-- a number of the first list is one of both
pub has_left : (ns ms : List ℕ) (n : ℕ) → has ns n ≡ true → has (ns ++ ms) n ≡ true
has_left ns ms n e = has-append ns ms n ∙ ap (λ b. b || has ms n) e

-- a number of the second list is one of both
pub has_right : (ns ms : List ℕ) (n : ℕ) → has ms n ≡ true → has (ns ++ ms) n ≡ true
has_right ns ms n e = has-append ns ms n ∙ or_right (has ns n) (has ms n) e

keep_none : (b : Bool) (e : Step) (es : List Step) → keep b e es ≡ [] → (b ≡ false) × (es ≡ [])
keep_none true e es h = absurd (cc)
keep_none false e es h = (refl, h)

none_of_both : (ns ms : List ℕ) (r : List Step) → calls_by ns r ≡ [] → calls_by ms r ≡ [] → calls_by (ns ++ ms) r ≡ []
none_of_both ns ms [] p q = refl
none_of_both ns ms (x ∷ xs) p q =
    let a = keep_none (has ns x.pass) x (calls_by ns xs) p in
    let b = keep_none (has ms x.pass) x (calls_by ms xs) q in
    ap (λ h. keep h x (calls_by (ns ++ ms) xs)) (has-append ns ms x.pass ∙ ap (λ h. h || has ms x.pass) a.0 ∙ b.0) ∙ none_of_both ns ms xs a.1 b.1

-- the longer of two beginnings has all calls of both
pub calls_of_both : (ns ms : List ℕ) (a b log : List Step) → IsPrefix a log → IsPrefix b log → calls_by ns log ≡ calls_by ns a → calls_by ms log ≡ calls_by ms b → calls_by (ns ++ ms) log ≡ calls_by (ns ++ ms) (longer a b)
calls_of_both ns ms a b log p q e f =
    let l = longer_begins a b log p q in
    let x = parts ns a (longer a b) log l.0 l.2 e in
    let y = parts ms b (longer a b) log l.1 l.2 f in
    sym (ap (calls_by (ns ++ ms)) l.2.1) ∙ calls_by-append (ns ++ ms) (longer a b) l.2.0 ∙ ap (λ c. calls_by (ns ++ ms) (longer a b) ++ c) (none_of_both ns ms l.2.0 x.1 y.1) ∙ append-nil (calls_by (ns ++ ms) (longer a b))

-- a number that was not drawn has no call
fresh_has : (d n : ℕ) → n < d → has (d ∷ []) n ≡ false
fresh_has d n lt = ap (λ b. b || false) (ne_eqb d n (λ e. absurd (omega arith)))

-- the number that is drawn next has no call so far
pub fresh : (d : ℕ) (xs : List Step) → Below d xs → calls_by (d ∷ []) xs ≡ []
fresh d [] all = refl
fresh d (x ∷ xs) all = ap (λ b. keep b x (calls_by (d ∷ []) xs)) (fresh_has d x.pass all.0) ∙ fresh d xs all.1

-- what is below a bound in a history is so in each beginning
pub below_front : (d : ℕ) (a r : List Step) → Below d (a ++ r) → Below d a
below_front d [] r all = tt
below_front d (x ∷ xs) r all = (all.0, below_front d xs r all.1)

-- all calls stay below where one number more is drawn
pub below_next : (d : ℕ) (xs : List Step) → Below d xs → Below (suc d) xs
below_next d [] all = tt
below_next d (x ∷ xs) all = (omega arith, below_next d xs all.1)

-- a list of one number has no other
pub has_only : (d n : ℕ) → has (d ∷ []) n ≡ true → n ≡ d
has_only d n e = dite (ℕ_discrete d n) (λ same. sym same) (λ apart. absurd (true≢false (sym e ∙ ap (λ b. b || false) (ne_eqb d n apart))))

-- all calls stay below a higher bound
pub below_up : (d e : ℕ) (xs : List Step) → d ≤ e → Below d xs → Below e xs
below_up d e [] le all = tt
below_up d e (x ∷ xs) le all = (let lt = all.0 in omega arith, below_up d e xs le all.1)

-- all calls are one's own, where one has each number
pub all_own : (ns : List ℕ) (bound : ℕ) (xs : List Step) → ((n : ℕ) → n < bound → has ns n ≡ true) → Below bound xs → calls_by ns xs ≡ xs
all_own ns bound [] every all = refl
all_own ns bound (x ∷ xs) every all = ap (λ b. keep b x (calls_by ns xs)) (every x.pass all.0) ∙ ap (λ l. x ∷ l) (all_own ns bound xs every all.1)

-- the calls of a front are below the bound, where the history is spelled as that front and a rest
pub below_front' : (d : ℕ) (a r l : List Step) → a ++ r ≡ l → Below d l → Below d a
below_front' d a r l e all = below_front d a r (subst (Below d) (sym e) all)

bool_cases : (b : Bool) → (b ≡ true) ⊎ (b ≡ false)
bool_cases true = inl refl
bool_cases false = inr refl

none_among : (ks ns : List ℕ) (r : List Step) → ((n : ℕ) → has ns n ≡ true → has ks n ≡ true) → calls_by ks r ≡ [] → calls_by ns r ≡ []
none_among ks ns [] sub p = refl
none_among ks ns (x ∷ xs) sub p =
    let a = keep_none (has ks x.pass) x (calls_by ks xs) p in
    let apart : has ns x.pass ≡ false = ⊎_elim (λ (h : has ns x.pass ≡ true). absurd (true≢false (sym (sub x.pass h) ∙ a.0))) (λ (h : has ns x.pass ≡ false). h) (bool_cases (has ns x.pass)) in
    ap (λ b. keep b x (calls_by ns xs)) apart ∙ none_among ks ns xs sub a.1

-- where a longer history has no further call of some numbers, it has none of fewer numbers
pub fewer : (ks ns : List ℕ) (a l : List Step) → ((n : ℕ) → has ns n ≡ true → has ks n ≡ true) → IsPrefix a l → calls_by ks l ≡ calls_by ks a → calls_by ns l ≡ calls_by ns a
fewer ks ns a l sub p e =
    let q = parts ks a l l p (begins_self l) e in
    sym (ap (calls_by ns) p.1) ∙ calls_by-append ns a p.0 ∙ ap (λ c. calls_by ns a ++ c) (none_among ks ns p.0 sub q.0) ∙ append-nil (calls_by ns a)
