use Rattle.std.proofs.Common.{◌∙◌, ◌++◌, ◌∷◌, ◌≤◌, [], refl, arith, length-append}
use Rattle.open_table.specs.declared.table.Item.TheVariants.{Put}
use Rattle.open_table.specs.Tables.{Puts}
use Rattle.checkpoint_reading.proofs.Listing.{may_list, no_puts_yet, puts_more, puts_stop}
use Rattle.checkpoint_reading.proofs.Stepping.{same_then, when_none, when_some}
use Rattle.checkpoint_reading.proofs.puts.read_pointers.Goals as goal

pub loop-more-init : goal.loop-more-init
loop-more-init g c = record {
  way = record { same = refl; well = refl; held = c.requires.held; file = record { number = refl; size = refl }; known_is = c.requires.known };
  read = [];
  has = no_puts_yet _ c.args.reader.now c.args.txn c.args.draft.now c.requires.begun;
  many = omega arith;
}

pub returns-in_default-clause-wrong : goal.returns-in_default-clause-wrong
returns-in_default-clause-wrong g c = λ same.
    let some : 1 ≤ c.loop-more.more = omega (arith, c.loop-more-test.true) in
    puts_stop _ _ c.args.reader.now c.loop-more.reader c.args.txn c.args.draft.now c.loop-more.draft c.loop-more.invariant.read c.loop-more.more c.args.count c.loop-more.invariant.way.same c.loop-more.invariant.has c.loop-more.invariant.many some
    (when_none _ _ _ c.in_default.not-Some c.in_ok-pointer.ensures.right)

pub add-requires : goal.add-requires
add-requires g c = may_list c.args.txn (Puts c.loop-more.invariant.read) c.loop-more.draft.table (Put c.in-Some.pointer) c.loop-more.invariant.has.here tt

pub loop-more-preserved : goal.loop-more-preserved
loop-more-preserved g c =
    let right = when_some _ _ _ _ c.in-Some.is c.in_ok-pointer.ensures.right in
    let sized = when_some _ _ _ _ c.in-Some.is c.in_ok-pointer.ensures.sized in
    record {
      way = record {
        same = c.next_put.ensures.same ∙ c.loop-more.invariant.way.same;
        well = c.in_ok-pointer.ensures.cause.well (λ e. cc) ∙ c.loop-more.invariant.way.well;
        held = c.in_ok-pointer.ensures.held;
        file = same_then _ _ _ c.loop-more.invariant.way.file c.next_put.ensures.file;
        known_is = c.next_put.ensures.known;
      };
      read = c.loop-more.invariant.read ++ c.in-Some.pointer ∷ [];
      has = puts_more _ _ c.args.reader.now c.loop-more.reader c.next_put.new.reader c.args.txn c.args.draft.now c.loop-more.draft c.add.new.self c.loop-more.invariant.read c.in-Some.pointer c.loop-more.invariant.way.same c.loop-more.invariant.has right.0 sized.0 sized.1 right.1
          c.in-Ok.ensures.added c.in-Ok.ensures.here c.add.ensures.rest;
      many = omega (arith, c.loop-more.invariant.many, c.loop-more-test.true, length-append c.loop-more.invariant.read (c.in-Some.pointer ∷ []));
    }

pub returns-clause-right : goal.returns-clause-right
returns-clause-right g c = λ same. (c.loop-more.invariant.read, c.loop-more.invariant.has, omega (arith, c.loop-more.invariant.many, c.loop-more-test.false))
