-- Passes that took others in.
use Rattle.std.proofs.Common.{◌≡◌, ◌∙◌, ◌<◌, ℕ, suc, List, [], ◌∷◌, ◌++◌, ◌+◌, true, length, set, take, get_or, refl, sym, ap, subst, append_assoc, arith, rules, length-set}
use Rattle.std.proofs.lemmas.List.{get_or-set_same, get_or-set_other, get_or_append_left, get_or_push, length-append}
use mathlib.Core.Logic.{dite}
use native.Mathlib.Decide.{ℕ_discrete}
use Rattle.atomic_table.specs.Seated.{TableId}
use mathlib.Core.List.{IsPrefix}
use Rattle.channel_face.specs.History.{Step}
use Rattle.channel_lock.specs.Calls.{has}
use Rattle.channel_lock.specs.Turns.{Has}
use Rattle.channel_lock.specs.Views.{View, part, both, joined}
use Rattle.channel_lock.proofs.Histories.{begins_self, fewer, has_left, has_right}
use Rattle.shared_channel.specs.Passes.{Known}
use Rattle.run_tracks.specs.Homes.{Took, AreHomes, TookAt, EachTook, StayElsewhere}
use Rattle.run_tracks.specs.Places.{Zips, TookEach}

-- a first part of a first part is one of the whole
pub prefix_then : (a b c : List Step) → IsPrefix a b → IsPrefix b c → IsPrefix a c
prefix_then a b c p q = (p.0 ++ q.0, sym (append_assoc a p.0 q.0) ∙ ap (λ (l : List Step). l ++ q.0) p.1 ∙ q.1)

-- a pass has taken itself in
pub took_self : (p : Known) → Took p p
took_self p = record { table = refl; base = refl; passes = refl; seen = (begins_self p.view.seen, refl); numbers = λ n h. h }

-- who took in a pass that took in another took that in too
pub took_then : (p q r : Known) → Took p q → Took q r → Took p r
took_then p q r f g = record {
  table = f.table ∙ g.table;
  base = f.base ∙ g.base;
  passes = f.passes ∙ g.passes;
  seen = (prefix_then r.view.seen q.view.seen p.view.seen g.seen.0 f.seen.0, fewer q.view.numbers r.view.numbers q.view.seen p.view.seen g.numbers f.seen.0 f.seen.1 ∙ g.seen.1);
  numbers = λ n h. f.numbers n (g.numbers n h);
}

-- after a join
pub joined_old : (p q n : Known) → n.table_id ≡ p.table_id → n.view ≡ joined (both p.view q.view) → Has n.view.seen (part p.view) → Took n p
joined_old p q n table is seen = record {
  table = table;
  base = ap (λ (v : View). v.base) is;
  passes = ap (λ (v : View). v.passes) is;
  seen = seen;
  numbers = λ m h. subst (λ (v : View). has v.numbers m ≡ true) (sym is) (has_left p.view.numbers q.view.numbers m h);
}

-- a join takes in the pass that came from elsewhere
pub joined_from : (p q n : Known) → n.table_id ≡ p.table_id → p.table_id ≡ q.table_id → n.view ≡ joined (both p.view q.view) → Has n.view.seen (part q.view) → q.view.base ≡ p.view.base → q.view.passes ≡ p.view.passes → Took n q
joined_from p q n table same is seen base passes = record {
  table = table ∙ same;
  base = ap (λ (v : View). v.base) is ∙ sym base;
  passes = ap (λ (v : View). v.passes) is ∙ sym passes;
  seen = seen;
  numbers = λ m h. subst (λ (v : View). has v.numbers m ≡ true) (sym is) (has_right p.view.numbers q.view.numbers m h);
}

-- one of the passes at home goes on
pub set_took : (homes : List Known) (place : ℕ) (n : Known) → place < length homes → ((d : Known) → Took n (get_or homes place d)) → ((d : Known) → n.number ≡ (get_or homes place d).number) → EachTook homes (set homes place n)
set_took homes place n below t number = record {
  as_many = length-set homes place n;
  each = λ i d low. dite (ℕ_discrete place i)
      (λ same. subst (λ (k : ℕ). Took (get_or (set homes place n) k d) (get_or homes k d)) same (subst (λ (p : Known). Took p (get_or homes place d)) (sym (get_or-set_same homes place n d below)) (t d)))
      (λ other. subst (λ (p : Known). Took p (get_or homes i d)) (sym (get_or-set_other homes place i n d (λ e. other (sym e)))) (took_self (get_or homes i d)));
  number = λ i d low. dite (ℕ_discrete place i)
      (λ same. subst (λ (k : ℕ). (get_or (set homes place n) k d).number ≡ (get_or homes k d).number) same (ap (λ (p : Known). p.number) (get_or-set_same homes place n d below) ∙ number d))
      (λ other. ap (λ (p : Known). p.number) (get_or-set_other homes place i n d (λ e. other (sym e))));
}

-- where one pass at home is set, those at all other places stay
pub set_elsewhere : (homes : List Known) (place : ℕ) (n : Known) → StayElsewhere (place ∷ []) homes (set homes place n)
set_elsewhere homes place n i d apart = get_or-set_other homes place i n d apart.0

-- where the pass at home that took one in is set, its place took that in
pub set_took_at : (homes : List Known) (place : ℕ) (n q : Known) → place < length homes → Took n q → TookAt (set homes place n) place q
set_took_at homes place n q below t = (omega (arith, length-set homes place n), λ d. subst (λ (p : Known). Took p q) (sym (get_or-set_same homes place n d below)) t)

-- homes that go on stay homes
pub homes_kept : {S : Type 0} (table : S → TableId) (shares : List S) (old new : List Known) → AreHomes table shares old → EachTook old new → AreHomes table shares new
homes_kept table shares old new are took = record {
  as_many = took.as_many ∙ are.as_many;
  each = λ place d below.
      let low : place < length old = let e = took.as_many in omega arith in
      let at = are.each place d low in
      record { below = at.below; here = λ s. (took.each place d low).table ∙ at.here s };
}

-- passes at home that stayed as they were each took in themselves
pub each_took_self : (homes : List Known) → EachTook homes homes
each_took_self homes = record { as_many = refl; each = λ place d below. took_self (get_or homes place d); number = λ place d below. refl }

-- passes at home that went on twice took in what was there at first
pub each_took_then : (a b c : List Known) → EachTook a b → EachTook b c → EachTook a c
each_took_then a b c f g = record {
  as_many = g.as_many ∙ f.as_many;
  each = λ place d below. took_then (get_or c place d) (get_or b place d) (get_or a place d) (g.each place d (let e = f.as_many in omega arith)) (f.each place d below);
  number = λ place d below. g.number place d (let e = f.as_many in omega arith) ∙ f.number place d below;
}

-- a pass that was taken in at a place stays taken in as homes go on
pub took_at_later : (a b : List Known) (place : ℕ) (q : Known) → EachTook a b → TookAt a place q → TookAt b place q
took_at_later a b place q f t = (let e = f.as_many in let l = t.0 in omega arith, λ d. took_then (get_or b place d) (get_or a place d) q (f.each place d t.0) (t.1 d))

-- a list of one number has it
pub has_one : (n : ℕ) → has (n ∷ []) n ≡ true
has_one n = search rules

-- who took in a worker's pass has the worker's number
pub has_numbers : (home q : Known) (n : ℕ) → Took home q → q.view.numbers ≡ n ∷ [] → has home.view.numbers n ≡ true
has_numbers home q n t e = t.numbers n (subst (λ (l : List ℕ). has l n ≡ true) (sym e) (has_one n))

-- pairs of lists

-- of lists that stand beside each other, those before the last do, and the last two
pub zips-append : {A B : Type 0} (R : A → B → Type 0) (xs : List A) (ys : List B) (a : A) (b : B) → Zips R (xs ++ a ∷ []) (ys ++ b ∷ []) → Zips R xs ys × R a b
zips-append R [] [] a b z = (tt, z.0)
zips-append R [] (y ∷ []) a b z = absurd z.1
zips-append R [] (y ∷ (w ∷ ys)) a b z = absurd z.1
zips-append R (x ∷ []) [] a b z = absurd z.1
zips-append R (x ∷ (w ∷ xs)) [] a b z = absurd z.1
zips-append R (x ∷ xs) (y ∷ ys) a b z = let r = zips-append R xs ys a b z.1 in ((z.0, r.0), r.1)

-- lists that stand beside each other are of one length
pub zips_length : {A B : Type 0} (R : A → B → Type 0) (xs : List A) (ys : List B) → Zips R xs ys → length xs ≡ length ys
zips_length R [] [] z = refl
zips_length R [] (b ∷ ys) z = absurd z
zips_length R (a ∷ xs) [] z = absurd z
zips_length R (a ∷ xs) (b ∷ ys) z = ap (λ (n : ℕ). suc n) (zips_length R xs ys z.1)

-- the ports' passes stay taken in as homes go on
pub took_each_later : {F : Type 0} (pass : F → Known) (a b : List Known) (cs : List ℕ) (ps : List F) → EachTook a b → TookEach a pass cs ps → TookEach b pass cs ps
took_each_later pass a b [] [] f z = tt
took_each_later pass a b [] (p ∷ ps) f z = absurd z
took_each_later pass a b (c ∷ cs) [] f z = absurd z
took_each_later pass a b (c ∷ cs) (p ∷ ps) f z = (took_at_later a b c (pass p) f z.0, took_each_later pass a b cs ps f z.1)

-- lists that stand beside each other, and one thing more of each
pub zips_push : {A B : Type 0} (R : A → B → Type 0) (xs : List A) (ys : List B) (a : A) (b : B) → Zips R xs ys → R a b → Zips R (xs ++ a ∷ []) (ys ++ b ∷ [])
zips_push R [] [] a b z r = (r, tt)
zips_push R [] (y ∷ ys) a b z r = absurd z
zips_push R (x ∷ xs) [] a b z r = absurd z
zips_push R (x ∷ xs) (y ∷ ys) a b z r = (z.0, zips_push R xs ys a b z.1 r)

-- homes without the last
pub are_homes_pop : {S : Type 0} (table : S → TableId) (shares : List S) (homes : List Known) (s : S) (p : Known) → AreHomes table (shares ++ s ∷ []) (homes ++ p ∷ []) → AreHomes table shares homes × (p.table_id ≡ table s)
are_homes_pop table shares homes s p are =
    let many : length homes ≡ length shares = let e = are.as_many in let a = length-append homes (p ∷ []) in let b = length-append shares (s ∷ []) in omega arith in (
      record {
        as_many = many;
        each = λ place d below.
            let low : place < length (homes ++ p ∷ []) = let a = length-append homes (p ∷ []) in omega arith in
            let in_shares : place < length shares = omega arith in
            record { below = in_shares; here = λ e. ap (λ (q : Known). q.table_id) (sym (get_or_append_left homes (p ∷ []) d place below)) ∙ (are.each place d low).here e ∙ ap table (get_or_append_left shares (s ∷ []) e place in_shares) };
      },
      let low : length homes < length (homes ++ p ∷ []) = let a = length-append homes (p ∷ []) in omega arith in
          ap (λ (q : Known). q.table_id) (sym (get_or_push homes p p (length homes) refl)) ∙ (are.each (length homes) p low).here s ∙ ap (λ (n : ℕ). table (get_or (shares ++ s ∷ []) n s)) many ∙ ap table (get_or_push shares s s (length shares) refl),
    )

-- nothing stands beside nothing
pub zips_none : {A B : Type 0} (R : A → B → Type 0) (xs : List A) (ys : List B) → Zips R xs ys → ys ≡ [] → xs ≡ []
zips_none R [] ys z none = refl
zips_none R (a ∷ xs) ys z none = absurd (subst (λ (l : List _). Zips R (a ∷ xs) l) none z)

-- what stands beside the last of a list, and what stands beside those before it
pub zips_last : {A B : Type 0} (R : A → B → Type 0) (xs : List A) (ys : List B) (b : B) (d : A) → Zips R xs (ys ++ b ∷ []) → (length ys < length xs) × (Zips R (take (length ys) xs) ys × R (get_or xs (length ys) d) b)
zips_last R [] [] b d z = absurd z
zips_last R [] (y ∷ ys) b d z = absurd z
zips_last R (a ∷ xs) [] b d z = (omega arith, (tt, z.0))
zips_last R (a ∷ xs) (y ∷ ys) b d z = let r = zips_last R xs ys b d z.1 in (let l = r.0 in omega arith, ((z.0, r.1.0), r.1.1))

-- what stands beside the front of a list, and what stands beside its last
pub zips_join : {A B : Type 0} (R : A → B → Type 0) (xs : List A) (ys : List B) (b : B) (d : A) → length xs ≡ length ys + 1 → Zips R (take (length ys) xs) ys → R (get_or xs (length ys) d) b → Zips R xs (ys ++ b ∷ [])
zips_join R [] ys b d e z r = absurd (let x = e in omega arith)
zips_join R (a ∷ []) [] b d e z r = (r, tt)
zips_join R (a ∷ (x ∷ xs)) [] b d e z r = absurd (let x = e in omega arith)
zips_join R (a ∷ xs) (y ∷ ys) b d e z r = (z.0, zips_join R xs ys b d (let x = e in omega arith) z.1 r)
