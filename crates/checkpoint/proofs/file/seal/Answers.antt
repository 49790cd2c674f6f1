use Rattle.std.proofs.Common.{refl, Option, List, ℕ, subst, sym}
use Rattle.std.specs.Option.{IsSome}
use Rattle.checkpoint.proofs.Laying.{seal_moment, sealed_if}
use Rattle.checkpoint.proofs.file.seal.Goals as goal

pub sync-requires : goal.sync-requires
sync-requires g c = λ t is. subst (λ (file : Option (List ℕ)). IsSome file) (sym (c.requires t is).1.reads) refl

pub returns-clause-any_moment : goal.returns-clause-any_moment
returns-clause-any_moment g c =
    let law = g.met.D.Disk.reads_are_left in
    seal_moment c.args.number _ _ (λ t is. law c.args.disk.now t is) c.sync.result c.requires c.sync.ensures.done

pub returns-clause-sealed : goal.returns-clause-sealed
returns-clause-sealed g c =
    let law = g.met.D.Disk.reads_are_left in
    sealed_if c.args.number _ _ (λ t is. law c.args.disk.now t is) c.sync.result c.sync.ensures.done
