use Rattle.std.proofs.Common.{◌<◌, ℕ, subst, sym}
use Rattle.record_form.specs.declared.record.Pointer.{Pointer}
use Rattle.open_table.specs.Tables.{MayMoveOne, moved_pointer}
use Rattle.open_table.proofs.Moving.{same_here, front_more, rest_more}
use Rattle.open_table.proofs.table.move_pointers.Goals as goal

abbrev pub none : Pointer
none = record { file = 0; at = 0; length = 0 }

pub move_pointer-requires : goal.move_pointer-requires
move_pointer-requires c =
    let loop = c.loop-pointer in
    subst (λ (p : Pointer). MayMoveOne c.args.file c.args.at c.args.to_at p) (sym (same_here loop.pointers c.args.pointers.now loop.pointer-index none loop.invariant.1))
    (c.requires loop.pointer-index none c.loop-pointer-test.true)

pub loop-pointer-preserved : goal.loop-pointer-preserved
loop-pointer-preserved c =
    let loop = c.loop-pointer in (
      front_more (moved_pointer c.args.file c.args.at c.args.to_file c.args.to_at) loop.pointers c.args.pointers.now loop.pointer-index none c.move_pointer.new.pointer (subst (λ (n : ℕ). loop.pointer-index < n) (sym loop.auto.pointers) c.loop-pointer-test.true) c.loop-pointer-test.true loop.invariant.0 loop.invariant.1 c.move_pointer.ensures,
      rest_more loop.pointers c.args.pointers.now loop.pointer-index c.move_pointer.new.pointer loop.invariant.1,
    )
