-- Pairs of lists, pair by pair.
use Rattle.std.proofs.Common.{suc, List, [], ◌∷◌, All, arith}
use Rattle.std.proofs.lemmas.List.Elements.{All-cons, All-head, All-nil, All-tail}
use Rattle.crew.specs.Rows.{EachRan}
use Rattle.run_tracks.specs.Places.{Zips}

-- what follows for each pair follows for the pairs of two lists
pub zips_map : {A B : Type 0} (R S : A → B → Type 0) → ((a : A) (b : B) → R a b → S a b) → (xs : List A) (ys : List B) → Zips R xs ys → Zips S xs ys
zips_map R S f [] [] z = tt
zips_map R S f [] (b ∷ ys) z = absurd z
zips_map R S f (a ∷ xs) [] z = absurd z
zips_map R S f (a ∷ xs) (b ∷ ys) z = (f a b z.0, zips_map R S f xs ys z.1)

-- what holds of each thing with itself holds of a list with itself
pub zips_self : {A : Type 0} (R : A → A → Type 0) → ((a : A) → R a a) → (xs : List A) → Zips R xs xs
zips_self R f [] = tt
zips_self R f (a ∷ xs) = (f a, zips_self R f xs)

-- one after the other
pub zips_then : {A B C : Type 0} (R : A → B → Type 0) (S : B → C → Type 0) (T : A → C → Type 0) → ((a : A) (b : B) (c : C) → R a b → S b c → T a c)
    → (xs : List A) (ys : List B) (zs : List C) → Zips R xs ys → Zips S ys zs → Zips T xs zs
zips_then R S T f [] [] [] z w = tt
zips_then R S T f [] [] (c ∷ zs) z w = absurd w
zips_then R S T f [] (b ∷ ys) zs z w = absurd z
zips_then R S T f (a ∷ xs) [] zs z w = absurd z
zips_then R S T f (a ∷ xs) (b ∷ ys) [] z w = absurd w
zips_then R S T f (a ∷ xs) (b ∷ ys) (c ∷ zs) z w = (f a b c z.0 w.0, zips_then R S T f xs ys zs z.1 w.1)

-- of each first of a pair something holds, so of each second
pub zips_all : {A B : Type 0} (R : A → B → Type 0) (P : A → Type 0) (Q : B → Type 0) → ((a : A) (b : B) → P a → R a b → Q b)
    → (xs : List A) (ys : List B) → All P xs → Zips R xs ys → All Q ys
zips_all R P Q f [] [] all z = All-nil Q
zips_all R P Q f [] (b ∷ ys) all z = absurd z
zips_all R P Q f (a ∷ xs) [] all z = absurd z
zips_all R P Q f (a ∷ xs) (b ∷ ys) all z = All-cons Q b ys (f a b (All-head P a xs all) z.0) (zips_all R P Q f xs ys (All-tail P a xs all) z.1)

-- what follows for each thing of a list follows for all
pub all_map : {A : Type 0} (P Q : A → Type 0) → ((a : A) → P a → Q a) → (xs : List A) → All P xs → All Q xs
all_map P Q f [] all = All-nil Q
all_map P Q f (a ∷ xs) all = All-cons Q a xs (f a (All-head P a xs all)) (all_map P Q f xs (All-tail P a xs all))

-- each worker of a row ran
pub ran_zips : {W : Type 0} (Ran : W → W → Type 0) (old new : List W) → EachRan Ran old new → Zips Ran old new
ran_zips Ran [] [] r = tt
ran_zips Ran [] (w ∷ ws) r = absurd (let e = r.as_many in omega arith)
ran_zips Ran (v ∷ vs) [] r = absurd (let e = r.as_many in omega arith)
ran_zips Ran (v ∷ vs) (w ∷ ws) r = (
  r.each 0 v (omega arith),
  ran_zips Ran vs ws (record {
    as_many = let e = r.as_many in omega arith;
    each = λ i d below. r.each (suc i) d (omega arith);
  }),
)

-- of each first something holds, and it is in four pairs, one after the other
pub zips_four : {A B C D : Type 0} (P : A → Type 0) (R : A → B → Type 0) (S : B → C → Type 0) (T : C → D → Type 0) (U : A → D → Type 0)
    → ((a : A) (b : B) (c : C) (d : D) → P a → R a b → S b c → T c d → U a d)
    → (ws : List A) (xs : List B) (ys : List C) (zs : List D) → All P ws → Zips R ws xs → Zips S xs ys → Zips T ys zs → Zips U ws zs
zips_four P R S T U f [] [] [] [] all r s t = tt
zips_four P R S T U f [] [] [] (d ∷ zs) all r s t = absurd t
zips_four P R S T U f [] [] (c ∷ ys) zs all r s t = absurd s
zips_four P R S T U f [] (b ∷ xs) ys zs all r s t = absurd r
zips_four P R S T U f (a ∷ ws) [] ys zs all r s t = absurd r
zips_four P R S T U f (a ∷ ws) (b ∷ xs) [] zs all r s t = absurd s
zips_four P R S T U f (a ∷ ws) (b ∷ xs) (c ∷ ys) [] all r s t = absurd t
zips_four P R S T U f (a ∷ ws) (b ∷ xs) (c ∷ ys) (d ∷ zs) all r s t =
    (f a b c d (All-head P a ws all) r.0 s.0 t.0, zips_four P R S T U f ws xs ys zs (All-tail P a ws all) r.1 s.1 t.1)
