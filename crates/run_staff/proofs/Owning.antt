-- Of new passes the first carries a number of its own.
use Rattle.std.proofs.Common.{◌||◌, ℕ, zero, suc, List, [], ◌∷◌, ◌++◌, Bool, false, refl, ap, subst, eq-eqb}
use Rattle.std.specs.List.{AllByRecursion}
use Rattle.atomic_table.specs.Seated.{TableId}
use Rattle.channel_face.specs.History.{Opening}
use Rattle.shared_channel.specs.Passes.{Known, new_pass, new_passes}
use Rattle.run_settling.specs.Draining.{FirstHasOwn, HasOwn}

own_push : (ps : List Known) (p : Known) → AllByRecursion HasOwn ps → HasOwn p → AllByRecursion HasOwn (ps ++ p ∷ [])
own_push [] p all one = (one, tt)
own_push (q ∷ ps) p all one = (all.0, own_push ps p all.1 one)

own_new : (table : TableId) (start : Opening) (passes k : ℕ) → AllByRecursion HasOwn (new_passes table start passes k)
own_new table start passes zero = tt
own_new table start passes (suc k) =
    own_push (new_passes table start passes k) (new_pass table start passes k) (own_new table start passes k) (ap (λ (b : Bool). b || false) (eq-eqb k k refl))

-- the first of a channel's new passes carries a number of its own
pub first_own : FirstHasOwn
first_own table start passes home hand is = (subst (AllByRecursion HasOwn) is (own_new table start passes passes)).0
