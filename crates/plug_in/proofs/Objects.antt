-- The object after a box.
use Rattle.std.proofs.Common.{◌≡◌, subst}

-- what is true of an object is true of the same object
pub same_object : {V : Type 0} {H : V → Type 0} (P : (v : V) → H v → Type 0) (i j : V) (x : H i) (y : H j) → ◌≡◌ {A = (k : V) × H k} (i, x) (j, y) → P i x → P j y
same_object P i j x y same p = subst (λ z. P z.0 z.1) same p
