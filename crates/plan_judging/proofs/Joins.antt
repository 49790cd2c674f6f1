-- Candidates that are added one after another.
use Rattle.std.proofs.lemmas.List.{drop_all, drop_more, drop-map, length-map}
use Rattle.std.specs.Borrow.{Bor}
use Rattle.std.specs.List.{flat_map}
use Rattle.plan_judging.specs.Claims.{Wish, Claims, plugin_wish, step_wish, sink_wish}
use Rattle.plan_judging.specs.declared.claims.Claimed.TheVariants.{Plugin, Step}
use Rattle.prop_text.specs.Views.{texts}
use Rattle.std.proofs.Common.{◌≡◌, ℕ, ◌+◌, ◌≤◌, ◌<◌, map, get_or, drop, length, subst, slice_get, Option, None, Some, zero, suc, arith, List, [], ◌∷◌, ◌++◌, refl, sym, ap, ◌∙◌, append-nil, append_assoc, Result, Ok, Err, OnOk}
use Rattle.std.proofs.lemmas.List.Sums.{fold-append}
use Rattle.prop_text.specs.Pairs.{Pair}
use Rattle.plan_judging.specs.declared.rules.Row.{Row}
use Rattle.plan_judging.specs.Rows.{row_of, rows_after, rows_of}
use Rattle.plan_judging.specs.Candidates.{Seen, Candidates, adds, Adds, ◌⊕◌, first_of, least_of, nothing, each}

-- candidates that are added in two steps are added together
pub adds_more : (s : Seen) (a b : Candidates) → adds (adds s a) b ≡ adds s (a ⊕ b)
unfolding adds ◌⊕◌
adds_more s a b =
    let faults = fold-append first_of s.fault a.faults b.faults in
    let missing = fold-append least_of s.missing a.missing b.missing in
    λ i. record { fault = sym faults i; missing = sym missing i }

-- no candidates change nothing of what was seen
pub adds_nothing : (s : Seen) → adds s nothing ≡ s
unfolding adds
adds_nothing s = refl

-- a step that adds candidates, and another one after it
pub join : {s t u : Seen} {a b : Candidates} → Adds s t a → Adds t u b → Adds s u (a ⊕ b)
join {s} {t} {u} {a} {b} first second = record { is = second.is ∙ ap (λ (x : Seen). adds x b) first.is ∙ adds_more s a b }

-- the same, where what comes last may fail
pub join_last : {s t : Seen} {a : Candidates} {T E : Type 0} (r : Result T E) (u : Seen) (b : Candidates) → Adds s t a → OnOk r (Adds t u b) → OnOk r (Adds s u (a ⊕ b))
join_last (Ok x) u b first last = join first last
join_last (Err e) u b first last = tt

-- what holds whatever comes
pub whatever : {P : Type 0} {T E : Type 0} (r : Result T E) → P → OnOk r P
whatever (Ok x) p = p
whatever (Err e) p = tt

-- a step that changes nothing adds no candidates
pub add_nothing : (s : Seen) → Adds s s nothing
add_nothing s = record { is = sym (adds_nothing s) }

-- rows one after another
join_nothing : (c : Candidates) → c ⊕ nothing ≡ c
unfolding ◌⊕◌
join_nothing c = λ i. record { faults = append-nil c.faults i; missing = append-nil c.missing i }

join_assoc : (a b c : Candidates) → a ⊕ (b ⊕ c) ≡ (a ⊕ b) ⊕ c
unfolding ◌⊕◌
join_assoc a b c = λ i. record { faults = sym (append_assoc a.faults b.faults c.faults) i; missing = sym (append_assoc a.missing b.missing c.missing) i }

each_after : (pairs : List Pair) (at : List ℕ) (c : Candidates) (rs : List Row) → c ⊕ each (row_of pairs at) rs ≡ rows_after pairs at c rs
each_after pairs at c [] = join_nothing c
each_after pairs at c (r ∷ rs) = join_assoc c (row_of pairs at r) (each (row_of pairs at) rs) ∙ each_after pairs at (c ⊕ row_of pairs at r) rs

-- the rows of a component are judged one by one
pub rows_each : (pairs : List Pair) (at : List ℕ) (rs : List Row) → each (row_of pairs at) rs ≡ rows_of pairs at rs
rows_each pairs at [] = refl
rows_each pairs at (r ∷ rs) = each_after pairs at (row_of pairs at r) rs

-- a loop over some things, of which the first n are judged: what is left completes the candidates
pub record Goes {A : Type 0} (f : A → Candidates) (n : ℕ) (xs : List A) (old now : Seen) : Type 0 where
  pub rest : (end : Seen) → Adds now end (each f (drop n xs)) → Adds old end (each f xs)

-- before the first of the things none is judged
pub begins : {A : Type 0} (f : A → Candidates) (xs : List A) (s : Seen) → Goes f 0 xs s s
begins f xs s = record { rest = λ end h. h }

-- one thing more is judged
pub goes_on : {A : Type 0} {f : A → Candidates} {n : ℕ} {xs : List A} {old now next : Seen} (x : A) → drop n xs ≡ x ∷ drop (n + 1) xs → Goes f n xs old now → Adds now next (f x) → Goes f (n + 1) xs old next
goes_on {A} {f} {n} {xs} {old} {now} {next} x split before step = record { rest = λ end h. before.rest end (subst (λ (l : List A). Adds now end (each f l)) (sym split) (join step h)) }

-- after the last of the things all are judged
pub ends : {A : Type 0} {f : A → Candidates} {n : ℕ} {xs : List A} {old now : Seen} → length xs ≤ n → Goes f n xs old now → Adds old now (each f xs)
ends {A} {f} {n} {xs} {old} {now} past before = before.rest now (subst (λ (l : List A). Adds now now (each f l)) (sym (drop_all n xs past)) (add_nothing now))

-- what is left at a place is what stands there and the rest
pub drop_from_get : {X : Type 0} (xs : List X) (n : ℕ) (x : X) → slice_get xs n ≡ Some x → drop n xs ≡ x ∷ drop (n + 1) xs
drop_from_get [] n x h = cc
drop_from_get {X} (y ∷ ys) zero x h = let same : y ≡ x = cc in ap (λ (z : X). z ∷ ys) same
drop_from_get {X} (y ∷ ys) (suc n) x h =
    let place : suc n + 1 ≡ suc (n + 1) = omega arith in
    drop_from_get ys n x h ∙ ap (λ (l : List X). x ∷ l) (sym (ap (λ k. drop k (y ∷ ys)) place))

-- one more name of a list
pub drop_texts : (names : List (Bor (List ℕ))) (i : ℕ) (d : Bor (List ℕ)) → i < length names → drop i (texts names) ≡ (get_or names i d).now ∷ drop (i + 1) (texts names)
drop_texts names i d lt =
    drop-map (λ x. x.now) i names ∙ ap texts (drop_more names i d lt) ∙ ap (λ (l : List (List ℕ)). (get_or names i d).now ∷ l) (sym (drop-map (λ x. x.now) (i + 1) names))

-- one name more of a list is judged
pub goes_on_texts : {f : List ℕ → Candidates} {n : ℕ} {old now next : Seen} (names : List (Bor (List ℕ))) (d : Bor (List ℕ)) → n < length names → Goes f n (texts names) old now → Adds now next (f (get_or names n d).now) → Goes f (n + 1) (texts names) old next
goes_on_texts names d lt before step = goes_on _ (drop_texts names _ d lt) before step

-- after the last name the whole list is judged
pub ends_texts : {f : List ℕ → Candidates} {n : ℕ} {old now : Seen} (names : List (Bor (List ℕ))) → length names ≤ n → Goes f n (texts names) old now → Adds old now (each f (texts names))
ends_texts names past before = ends (omega (arith, past, length-map names (λ (x : Bor (List ℕ)). x.now))) before

-- one more thing, as it is seen
pub drop_seen : {X Y : Type 0} (f : X → Y) (xs : List X) (i : ℕ) (x : X) → i < length xs → x ≡ get_or xs i x → drop i (map f xs) ≡ f x ∷ drop (i + 1) (map f xs)
drop_seen {X} {Y} f xs i x lt is =
    drop-map f i xs ∙ ap (map f) (drop_more xs i x lt ∙ ap (λ (y : X). y ∷ drop (i + 1) xs) (sym is)) ∙ ap (λ (l : List Y). f x ∷ l) (sym (drop-map f (i + 1) xs))

-- a loop that gathers claims
pub record Gathers (f : List ℕ → List Wish) (n : ℕ) (names : List (Bor (List ℕ))) (old now : List Wish) : Type 0 where
  pub rest : now ++ flat_map f (drop n (texts names)) ≡ old ++ flat_map f (texts names)

-- before the first name no claims are gathered
pub gathers : (f : List ℕ → List Wish) (names : List (Bor (List ℕ))) (now : List Wish) → Gathers f 0 names now now
gathers f names now = record { rest = refl }

-- the claims of one name more are gathered
pub gathers_on : {f : List ℕ → List Wish} {n : ℕ} {names : List (Bor (List ℕ))} {old now next : List Wish} (d : Bor (List ℕ)) → n < length names → Gathers f n names old now → Claims now next (f (get_or names n d).now) → Gathers f (n + 1) names old next
gathers_on {f} {n} {names} {old} {now} {next} d lt before step = record {
  rest =
      let left = flat_map f (drop (n + 1) (texts names)) in
      ap (λ (l : List Wish). l ++ left) step.is ∙ append_assoc now (f (get_or names n d).now) left ∙ sym (ap (λ (l : List (List ℕ)). now ++ flat_map f l) (drop_texts names n d lt)) ∙ before.rest;
}

-- after the last name all their claims are gathered
pub gathered : {f : List ℕ → List Wish} {n : ℕ} {names : List (Bor (List ℕ))} {old now : List Wish} → length names ≤ n → Gathers f n names old now → Claims old now (flat_map f (texts names))
gathered {f} {n} {names} {old} {now} past before = record {
  is =
      sym (append-nil now) ∙ ap (λ (l : List (List ℕ)). now ++ flat_map f l) (sym (drop_all n (texts names) (omega (arith, past, length-map names (λ (x : Bor (List ℕ)). x.now))))) ∙ before.rest;
}

-- some claims and then others are both added
pub claims_join : {a b c x y : List Wish} → Claims a b x → Claims b c y → Claims a c (x ++ y)
claims_join {a} {b} {c} {x} {y} first second = record { is = second.is ∙ ap (λ (l : List Wish). l ++ y) first.is ∙ append_assoc a x y }

-- some claims and then others that may fail to be added
pub claims_last : {a b x : List Wish} {T E : Type 0} (r : Result T E) (c y : List Wish) → Claims a b x → OnOk r (Claims b c y) → OnOk r (Claims a c (x ++ y))
claims_last (Ok v) c y first last = claims_join first last
claims_last (Err e) c y first last = tt

-- one claim for each name
pub flat_one : (f : List ℕ → Wish) (names : List (List ℕ)) → flat_map (λ name. f name ∷ []) names ≡ map f names
flat_one f [] = refl
flat_one f (name ∷ names) = ap (λ (l : List Wish). f name ∷ l) (flat_one f names)

-- what is handed in, at an interceptor and at a sink
pub plugin_step : (o : Option Pair) → plugin_wish Step o ≡ step_wish o
plugin_step None = refl
plugin_step (Some kind) = refl

-- an object handed in at a sink is claimed as a plugin
pub plugin_sink : (o : Option Pair) → plugin_wish Plugin o ≡ sink_wish o
plugin_sink None = refl
plugin_sink (Some kind) = refl
