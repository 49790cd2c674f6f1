-- Sinks at places.
use Rattle.std.proofs.Common.{◌≡◌, ◌∙◌, ◌≢◌, ◌<◌, ◌++◌, append-nil, append_assoc, ℕ, zero, suc, List, [], ◌∷◌, Option, Some, None, length, length-set, get_or, set, slice_get, take, flat_map, refl, sym, ap, subst, arith}
use Rattle.std.specs.List.{AllByRecursion}
use Rattle.agent_plan.specs.declared.plan.GroupPlan.{GroupPlan}
use Rattle.sink_groups.specs.Scheduler.{Group as Schedule}
use Rattle.std.specs.declared.alloc.Global.{Global}
use Rattle.std.specs.declared.vec.Vec.{Vec}
use Rattle.grouped_sinks.specs.Frames.{IsFrame}
use Rattle.grouped_sinks.specs.declared.frame.Frame.{Frame}
use Rattle.grouped_sinks.specs.declared.frame.Frame.TheVariants as frame
use Rattle.grouped_sinks.specs.Picks.{AreDealt, ArePicked, KeepsOthers}
use Rattle.grouped_sinks.specs.Rows.{Zips, places_of}
use Rattle.plan_laws.specs.Once.{AreDistinct, AreOthers}
use Rattle.grouped_sinks.specs.Runners.{members_of}
use Rattle.grouped_sinks.specs.declared.runner.Runner.{Runner}
use Rattle.grouped_sinks.specs.declared.row.SinkRow.{SinkRow}

-- ---- lists

-- what is so of all of two lists is so of the first
pub all_front : {X : Type 0} (P : X → Type 0) (xs ys : List X) → AllByRecursion P (xs ++ ys) → AllByRecursion P xs
all_front P [] ys all = tt
all_front P (x ∷ xs) ys all = (all.0, all_front P xs ys all.1)

-- what is so of all of two lists is so of the second
pub all_back : {X : Type 0} (P : X → Type 0) (xs ys : List X) → AllByRecursion P (xs ++ ys) → AllByRecursion P ys
all_back P [] ys all = all
all_back P (x ∷ xs) ys all = all_back P xs ys all.1

-- what is so of all of two lists, one by one, is so of both together
pub all_join : {X : Type 0} (P : X → Type 0) (xs ys : List X) → AllByRecursion P xs → AllByRecursion P ys → AllByRecursion P (xs ++ ys)
all_join P [] ys a b = b
all_join P (x ∷ xs) ys a b = (a.0, all_join P xs ys a.1 b)

-- none stands twice in a front
pub distinct_front : (xs ys : List ℕ) → AreDistinct (xs ++ ys) → AreDistinct xs
distinct_front [] ys is = tt
distinct_front (x ∷ xs) ys is = (all_front (λ other. other ≢ x) xs ys is.0, distinct_front xs ys is.1)

-- none stands twice in the rest
pub distinct_back : (xs ys : List ℕ) → AreDistinct (xs ++ ys) → AreDistinct ys
distinct_back [] ys is = is
distinct_back (x ∷ xs) ys is = distinct_back xs ys is.1

-- no number of the one list is one of the other
abbrev pub AreApart : List ℕ → List ℕ → Type 0
AreApart xs ys = AllByRecursion (λ y. AreOthers y xs) ys

apart_cons : (x : ℕ) (xs ys : List ℕ) → AreOthers x ys → AreApart xs ys → AreApart (x ∷ xs) ys
apart_cons x xs [] others is = tt
apart_cons x xs (y ∷ ys) others is = ((λ e. others.0 (sym e), is.0), apart_cons x xs ys others.1 is.1)

apart_none : (ys : List ℕ) → AreApart [] ys
apart_none [] = tt
apart_none (y ∷ ys) = (tt, apart_none ys)

-- where none stands twice in two lists together, none of the one stands in the other
pub distinct_apart : (xs ys : List ℕ) → AreDistinct (xs ++ ys) → AreApart xs ys
distinct_apart [] ys is = apart_none ys
distinct_apart (x ∷ xs) ys is = apart_cons x xs ys (all_back (λ other. other ≢ x) xs ys is.0) (distinct_apart xs ys is.1)

apart_one : (x : ℕ) (ys : List ℕ) (xs : List ℕ) → AreApart (x ∷ xs) ys → AreOthers x ys
apart_one x [] xs is = tt
apart_one x (y ∷ ys) xs is = (λ e. is.0.0 (sym e), apart_one x ys xs is.1)

apart_rest : (x : ℕ) (xs ys : List ℕ) → AreApart (x ∷ xs) ys → AreApart xs ys
apart_rest x xs [] is = tt
apart_rest x xs (y ∷ ys) is = (is.0.1, apart_rest x xs ys is.1)

-- it does not matter which of the two lists is named first
pub apart_turned : (xs ys : List ℕ) → AreApart xs ys → AreApart ys xs
apart_turned [] ys is = tt
apart_turned (x ∷ xs) ys is = (apart_one x ys xs is, apart_turned xs ys (apart_rest x xs ys is))

-- ---- places of a list

same_there : {X : Type 0} (xs : List X) (i j : ℕ) (x : X) → j ≢ i → slice_get (set xs i x) j ≡ slice_get xs j
same_there [] i j x other = refl
same_there (y ∷ xs) zero zero x other = absurd (other refl)
same_there (y ∷ xs) zero (suc j) x other = refl
same_there (y ∷ xs) (suc i) zero x other = refl
same_there (y ∷ xs) (suc i) (suc j) x other = same_there xs i j x (λ e. other (ap suc e))

-- what was put at a place is there
pub set_there : {X : Type 0} (xs : List X) (i : ℕ) (x : X) → i < length xs → slice_get (set xs i x) i ≡ Some x
set_there [] i x below = absurd (omega (arith, below))
set_there (y ∷ xs) zero x below = refl
set_there (y ∷ xs) (suc i) x below = set_there xs i x (omega (arith, below))

-- where nothing changed all is as it was
pub keeps_none : {S : Type 0} (xs : List S) → KeepsOthers [] xs xs
keeps_none xs = record { many = refl; others = λ other is. refl }

-- where one place changed the others are as they were
pub keeps_set : {S : Type 0} (xs : List S) (i : ℕ) (x : S) → KeepsOthers (i ∷ []) xs (set xs i x)
keeps_set xs i x = record { many = length-set xs i x; others = λ other is. same_there xs i other x (λ e. is.0 (sym e)) }

-- one change after another
pub keeps_then : {S : Type 0} (ps qs : List ℕ) (a b c : List S) → KeepsOthers ps a b → KeepsOthers qs b c → KeepsOthers (ps ++ qs) a c
keeps_then ps qs a b c f g = record {
  many = g.many ∙ f.many;
  others = λ other is. g.others other (all_back (λ place. place ≢ other) ps qs is) ∙ f.others other (all_front (λ place. place ≢ other) ps qs is);
}

-- what was picked elsewhere is still there
pub picked_kept : {S : Type 0} (ps places : List ℕ) (a b members : List S) → KeepsOthers ps a b → AreApart ps places → ArePicked a places members → ArePicked b places members
picked_kept ps [] a b [] keeps apart is = tt
picked_kept ps [] a b (m ∷ members) keeps apart is = absurd is
picked_kept ps (p ∷ places) a b [] keeps apart is = absurd is
picked_kept ps (p ∷ places) a b (m ∷ members) keeps apart is =
    (keeps.others p apart.0 ∙ is.0, picked_kept ps places a b members keeps apart.1 is.1)

-- what was picked is what was there before other places changed
pub picked_before : {S : Type 0} (ps places : List ℕ) (a b members : List S) → KeepsOthers ps a b → AreApart ps places → ArePicked b places members → ArePicked a places members
picked_before ps [] a b [] keeps apart is = tt
picked_before ps [] a b (m ∷ members) keeps apart is = absurd is
picked_before ps (p ∷ places) a b [] keeps apart is = absurd is
picked_before ps (p ∷ places) a b (m ∷ members) keeps apart is =
    (sym (keeps.others p apart.0) ∙ is.0, picked_before ps places a b members keeps apart.1 is.1)

-- two lists in step, each with one more
pub zips_push : {A B : Type 0} (R : A → B → Type 0) (xs : List A) (ys : List B) (a : A) (b : B) → Zips R xs ys → R a b → Zips R (xs ++ a ∷ []) (ys ++ b ∷ [])
zips_push R [] [] a b z r = (r, tt)
zips_push R [] (y ∷ ys) a b z r = absurd z
zips_push R (x ∷ xs) [] a b z r = absurd z
zips_push R (x ∷ xs) (y ∷ ys) a b z r = (z.0, zips_push R xs ys a b z.1 r)

-- the fronts and the last ones of two lists in step
pub zips-append : {A B : Type 0} (R : A → B → Type 0) (xs : List A) (ys : List B) (a : A) (b : B) → Zips R (xs ++ a ∷ []) (ys ++ b ∷ []) → Zips R xs ys × R a b
zips-append R [] [] a b z = (tt, z.0)
zips-append R [] (y ∷ []) a b z = absurd z.1
zips-append R [] (y ∷ (w ∷ ys)) a b z = absurd z.1
zips-append R (x ∷ []) [] a b z = absurd z.1
zips-append R (x ∷ (w ∷ xs)) [] a b z = absurd z.1
zips-append R (x ∷ xs) (y ∷ ys) a b z = let r = zips-append R xs ys a b z.1 in ((z.0, r.0), r.1)

-- lists in step are of one length
pub zips_length : {A B : Type 0} (R : A → B → Type 0) (xs : List A) (ys : List B) → Zips R xs ys → length xs ≡ length ys
zips_length R [] [] z = refl
zips_length R [] (b ∷ ys) z = absurd z
zips_length R (a ∷ xs) [] z = absurd z
zips_length R (a ∷ xs) (b ∷ ys) z = ap suc (zips_length R xs ys z.1)

-- beside an empty list in step stands an empty one
pub zips_none : {A B : Type 0} (R : A → B → Type 0) (xs : List A) (ys : List B) → Zips R xs ys → ys ≡ [] → xs ≡ []
zips_none R [] ys z none = refl
zips_none {A} {B} R (a ∷ xs) ys z none = absurd (subst (λ (l : List B). Zips R (a ∷ xs) l) none z)

-- the same from the other side
pub zips_empty : {A B : Type 0} (R : A → B → Type 0) (xs : List A) (ys : List B) → Zips R xs ys → xs ≡ [] → ys ≡ []
zips_empty R xs [] z none = refl
zips_empty {A} {B} R xs (b ∷ ys) z none = absurd (subst (λ (l : List A). Zips R l (b ∷ ys)) none z)

-- what a list with one more comes to, laid flat
pub flat-append : {A B : Type 0} (f : A → List B) (xs : List A) (a : A) → flat_map f (xs ++ a ∷ []) ≡ flat_map f xs ++ f a
flat-append f [] a = append-nil (f a)
flat-append {A} {B} f (x ∷ xs) a = ap (λ (l : List B). f x ++ l) (flat-append f xs a) ∙ sym (append_assoc (f x) (flat_map f xs) (f a))

-- as many elements and the next
pub take_next : {A : Type 0} (xs : List A) (k : ℕ) (x : A) → k < length xs → x ≡ get_or xs k x → take (suc k) xs ≡ take k xs ++ x ∷ []
take_next [] k x low is = absurd (omega (arith, low))
take_next {A} (y ∷ xs) zero x low is = ap (λ (z : A). z ∷ []) (sym is)
take_next {A} (y ∷ xs) (suc k) x low is = ap (λ (l : List A). y ∷ l) (take_next xs k x (omega (arith, low)) is)

-- the only place
pub one_is : (places : List ℕ) → length places ≡ 1 → places ≡ get_or places 0 0 ∷ []
one_is [] one = absurd (omega (arith, one))
one_is (p ∷ []) one = refl
one_is (p ∷ (q ∷ places)) one = absurd (omega (arith, one))

-- what rows were dealt is still there once other places changed
pub dealt_kept : {S N : Type 0} (ps : List ℕ) (a b : List S) (rows : List SinkRow) (runners : List (Runner S N)) → KeepsOthers ps a b → AreApart ps (places_of rows) → AreDealt a rows runners
    → AreDealt b rows runners
dealt_kept ps a b [] [] keeps apart is = tt
dealt_kept ps a b [] (r ∷ runners) keeps apart is = absurd is
dealt_kept ps a b (row ∷ rows) [] keeps apart is = absurd is
dealt_kept ps a b (row ∷ rows) (r ∷ runners) keeps apart is = (
  picked_kept ps row.places.items a b (members_of r) keeps (all_front (λ y. AreOthers y ps) row.places.items (places_of rows) apart) is.0,
  dealt_kept ps a b rows runners keeps (all_back (λ y. AreOthers y ps) row.places.items (places_of rows) apart) is.1,
)

-- what is kept for a group has as many members as there are places
pub group_frame : {S N : Type 0} (groups : List GroupPlan) (group : Option ℕ) (many : ℕ) (kept : Frame S N) (schedule : Schedule) (room : Vec S Global) (random : N)
    → kept ≡ frame.Group schedule room random → IsFrame groups group many kept → many ≡ length schedule.members
group_frame {S} {N} groups group many kept schedule room random same is = by group (subst (IsFrame {S = S} {N = N} groups group many) same is)
  where
    by : (group : Option ℕ) → IsFrame {S = S} {N = N} groups group many (frame.Group schedule room random) → many ≡ length schedule.members
    by None is = absurd is
    by (Some at) is = is.1

-- a row of one sink has one place
pub alone_frame : {S N : Type 0} (groups : List GroupPlan) (group : Option ℕ) (many : ℕ) (kept : Frame S N) → kept ≡ frame.Alone → IsFrame groups group many kept → many ≡ 1
alone_frame {S} {N} groups group many kept same is = by group (subst (IsFrame {S = S} {N = N} groups group many) same is)
  where
    by : (group : Option ℕ) → IsFrame {S = S} {N = N} groups group many frame.Alone → many ≡ 1
    by None is = is
    by (Some at) is = absurd is
