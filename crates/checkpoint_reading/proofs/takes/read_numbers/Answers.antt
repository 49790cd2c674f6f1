use Rattle.std.proofs.Common.{◌∙◌, ◌++◌, ◌∷◌, ◌≤◌, [], ℕ, ap, arith, length-append, refl, subst, sym}
use Rattle.open_table.specs.declared.table.Item.TheVariants.{Take}
use Rattle.open_table.specs.Tables as tables
use Rattle.open_table.specs.Tables.{Table}
use Rattle.checkpoint_reading.specs.declared.draft.Draft.{Draft}
use Rattle.checkpoint_reading.specs.Opens.{IsListing, MayTake}
use Rattle.checkpoint_reading.proofs.Listing.{may_list, no_takes_yet, takes_more, takes_stop}
use Rattle.checkpoint_reading.proofs.Stepping.{same_then, short_u64, when_none, when_some}
use Rattle.checkpoint_reading.proofs.Unique.{one_u64}
use Rattle.checkpoint_reading.proofs.takes.read_numbers.Goals as goal

pub loop-more-init : goal.loop-more-init
loop-more-init g c = record {
  way = record { same = refl; well = refl; held = c.requires.held; file = record { number = refl; size = refl }; known_is = tt };
  read = [];
  has = no_takes_yet _ c.args.reader.now c.args.txn c.args.draft.now c.requires.begun;
  many = omega arith;
}

pub returns-in_default-clause-wrong : goal.returns-in_default-clause-wrong
returns-in_default-clause-wrong g c = λ same.
    let some : 1 ≤ c.loop-more.more = omega (arith, c.loop-more-test.true) in
    takes_stop _ _ c.args.reader.now c.loop-more.reader c.args.txn c.args.draft.now c.loop-more.draft c.loop-more.invariant.read c.loop-more.more c.args.count c.loop-more.invariant.way.same c.loop-more.invariant.has c.loop-more.invariant.many some
    (λ t is n m there fits taken behind has may. short_u64 _ (when_none _ _ _ c.in_default.not-Some c.in_ok-number.ensures.taken t is) n m there)

pub returns-then-not-held-clause-wrong : goal.returns-then-not-held-clause-wrong
returns-then-not-held-clause-wrong g c = λ same.
    let some : 1 ≤ c.loop-more.more = omega (arith, c.loop-more-test.true) in
    takes_stop _ _ c.args.reader.now c.loop-more.reader c.args.txn c.args.draft.now c.loop-more.draft c.loop-more.invariant.read c.loop-more.more c.args.count c.loop-more.invariant.way.same c.loop-more.invariant.has c.loop-more.invariant.many some
    (λ t is n m there fits taken behind has may.
    let one = one_u64 c.in-Some.number n _ m (sym (when_some _ _ _ _ c.in-Some.is c.in_ok-number.ensures.taken t is) ∙ there) (omega arith) fits in
    c.hold-held.ensures.other c.if-not-held.true taken behind has (subst (λ (k : ℕ). MayTake c.loop-more.draft.ring.live taken (k ∷ behind)) (sym one.0) may))

pub add-requires : goal.add-requires
add-requires g c =
    let here = subst (λ (x : Table). IsListing c.args.txn (tables.Takes c.loop-more.invariant.read) x) (sym (ap (λ (x : Draft). x.table) c.hold-held.ensures.rest)) c.loop-more.invariant.has.here in
    may_list c.args.txn (tables.Takes c.loop-more.invariant.read) c.hold-held.new.self.table (Take c.in-Some.number) here tt

pub loop-more-preserved : goal.loop-more-preserved
loop-more-preserved g c =
    let reads = when_some _ _ _ _ c.in-Some.is c.in_ok-number.ensures.taken in
    record {
      way = record {
        same = c.next_u64.ensures.same ∙ c.loop-more.invariant.way.same;
        well = c.in_ok-number.ensures.cause.well (λ e. cc) ∙ c.loop-more.invariant.way.well;
        held = c.in_ok-number.ensures.held;
        file = same_then _ _ _ c.loop-more.invariant.way.file c.next_u64.ensures.file;
        known_is = tt;
      };
      read = c.loop-more.invariant.read ++ c.in-Some.number ∷ [];
      has = takes_more _ _ c.args.reader.now c.loop-more.reader c.next_u64.new.self c.args.txn c.args.draft.now c.loop-more.draft c.hold-held.new.self c.add.new.self c.loop-more.invariant.read c.in-Some.number c.loop-more.invariant.way.same c.loop-more.invariant.has reads (omega arith)
          (c.hold-held.ensures.held c.if-not-held.false) c.hold-held.ensures.events c.hold-held.ensures.rest c.in-Ok.ensures.added c.in-Ok.ensures.here c.add.ensures.rest;
      many = omega (arith, c.loop-more.invariant.many, c.loop-more-test.true, length-append c.loop-more.invariant.read (c.in-Some.number ∷ []));
    }

pub returns-clause-right : goal.returns-clause-right
returns-clause-right g c = λ same. (c.loop-more.invariant.read, c.loop-more.invariant.has, omega (arith, c.loop-more.invariant.many, c.loop-more-test.false))
