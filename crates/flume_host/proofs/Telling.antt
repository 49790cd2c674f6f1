-- What is told before and after calls.
use Rattle.std.proofs.Common.{◌≡◌, Option, Some, None, refl, subst}
use Rattle.flume_host.specs.Told.{Tells}

-- two shown contents that are the same have the same in them
pub some_same : {A : Type 0} (x y : A) → Some x ≡ Some y → x ≡ y
some_same x y is = cc

-- what shows nothing shows no contents
pub silent : {A : Type 0} (x : A) → None ≡ Some x → ⊥
silent x is = cc

-- a disk that shows its contents afterwards did so before
pub back : {T : Type 0} (old new : Option T) (P : T → T → Type 0) → Tells old new P → (u : T) → new ≡ Some u → (t : T) × (old ≡ Some t) × P t u
back None None P tells u is = absurd (silent u is)
back None (Some v) P tells u is = absurd tells
back (Some t) None P tells u is = absurd tells
back (Some t) (Some v) P tells u is = (t, refl, subst (λ w. P t w) (some_same v u is) tells)

-- a disk that showed its contents before shows them afterwards
pub forth : {T : Type 0} (old new : Option T) (P : T → T → Type 0) → Tells old new P → (t : T) → old ≡ Some t → (u : T) × (new ≡ Some u) × P t u
forth None None P tells t is = absurd (silent t is)
forth None (Some v) P tells t is = absurd tells
forth (Some s) None P tells t is = absurd tells
forth (Some s) (Some v) P tells t is = (v, refl, subst (λ w. P w v) (some_same s t is) tells)

-- what it shows may be used for what it showed
pub tells_more : {T : Type 0} (old new : Option T) (P Q : T → T → Type 0) → ((t u : T) → old ≡ Some t → new ≡ Some u → P t u → Q t u) → Tells old new P → Tells old new Q
tells_more None None P Q more tells = tt
tells_more None (Some v) P Q more tells = absurd tells
tells_more (Some t) None P Q more tells = absurd tells
tells_more (Some t) (Some v) P Q more tells = more t v refl refl tells

-- nothing was called
pub tells_same : {T : Type 0} (told : Option T) (P : T → T → Type 0) → ((t : T) → told ≡ Some t → P t t) → Tells told told P
tells_same None P same = tt
tells_same (Some t) P same = same t refl

-- one call after another
pub follows : {T : Type 0} (first second third : Option T) (P Q R : T → T → Type 0) → ((t u v : T) → first ≡ Some t → second ≡ Some u → third ≡ Some v → P t u → Q u v → R t v) → Tells first second P → Tells second third Q → Tells first third R
follows None None None P Q R both p q = tt
follows None None (Some v) P Q R both p q = absurd q
follows None (Some u) third P Q R both p q = absurd p
follows (Some t) None third P Q R both p q = absurd p
follows (Some t) (Some u) None P Q R both p q = absurd q
follows (Some t) (Some u) (Some v) P Q R both p q = both t u v refl refl refl p q
