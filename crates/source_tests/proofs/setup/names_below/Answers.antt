use Rattle.std.proofs.Common.{◌<◌, ℕ, List, All, subst}
use Rattle.std.specs.declared.string.String.{String}
use Rattle.std.specs.declared.vec.Vec.{Vec}
use Rattle.std.specs.declared.alloc.Global.{Global}
use Rattle.source_tests.proofs.setup.names_below.Goals as goal

pub returns-else-not-are_below : goal.returns-else-not-are_below
returns-else-not-are_below c = λ yes.
    let P : List (String Global × Vec ℕ Global) → Type 0 = λ pairs. All (λ pair. All (λ place. place < c.args.count) pair.1.items) pairs in
    let Q : List ℕ → Type 0 = λ places. All (λ place. place < c.args.count) places in
    let mapping = subst P c.as_slice-in-Multiplexing.ensures.value (c.pairs_are_below.ensures c.if-not-pairs_are_below.false) in
    let default = subst Q c.as_slice-in-Multiplexing-2.ensures.value (c.are_below-in-Multiplexing.ensures.0 c.if-not-are_below.false) in
    let optional = subst P c.as_slice-in-Multiplexing-3.ensures.value (c.pairs_are_below-in-Multiplexing.ensures yes) in
    rw c.in-Multiplexing.is (mapping, default, optional)
