use Rattle.std.proofs.Common.{◌≡◌, List, ap, arith, length, map, subst, sym}
use Rattle.open_table.specs.Tables.{Listed, MayAdd, listed_of, moved, open_at}
use Rattle.open_table.specs.declared.table.Item.TheVariants.{Put, Take}
use Rattle.channel_places.specs.Ends.{one_if_staged}
use Rattle.channel_places.specs.Looks.{IsWithinRoom, Looks, MayPut, MayTake, Places, puts_in}
use Rattle.channel_places.specs.View.{places_of}
use Rattle.channel_places.proofs.Moved.{all_moved, known_moved, length-moved, may_moved, moved_looks, moved_within, one_if-moved, open_may, puts_in-moved, staged_may}
use Rattle.channel_places.proofs.places.Held.moved.Goals as goal

pub moved-requires : goal.moved-requires
moved-requires c = λ txn. open_may c.args.file c.args.at c.args.to_at (open_at c.self.inside.table txn) c.requires

pub move_staged-requires : goal.move_staged-requires
move_staged-requires c = staged_may c.args.file c.args.at c.args.to_at (map listed_of c.self.inside.staged.items) c.requires

pub invariant_of-self : goal.invariant_of-self
invariant_of-self c =
    let i = c.self.invariant in
    let p : Places = places_of c.self.inside in
    let file = c.args.file in
    let at = c.args.at in
    let to_file = c.args.to_file in
    let to_at = c.args.to_at in
    let staged : map listed_of c.move_staged.new.staged.items ≡ map (moved file at to_file to_at) p.staged = c.move_staged.ensures.items in
    record {
      settled = i.settled;
      known = known_moved file at to_file to_at i.known;
      state = i.state;
      looks = moved_looks i.settled i.known (known_moved file at to_file to_at i.known) file at to_file to_at p i.state c.moved.new.self (map listed_of c.move_staged.new.staged.items) i.looks (all_moved file at to_file to_at i.known)
          c.moved.ensures.moved c.moved.ensures.count staged;
      open_are = omega (arith, i.open_are, c.moved.ensures.count);
      open_few = i.open_few;
      lists = λ txn. subst IsWithinRoom (sym (c.moved.ensures.moved txn)) (moved_within file at to_file to_at (open_at p.opened txn) (i.lists txn));
      staged_puts_are = omega (arith, i.staged_puts_are, ap (λ (l : List Listed). puts_in l) staged, puts_in-moved file at to_file to_at p.staged);
      slots_are = i.slots_are;
      few = i.few;
      within = omega (arith, i.within, ap (λ (l : List Listed). puts_in l) staged, puts_in-moved file at to_file to_at p.staged);
      below = i.below;
      numbers = i.numbers;
      fits = omega (arith, i.fits, c.move_staged.ensures.room, ap (λ (l : List Listed). length l) staged, length-moved file at to_file to_at p.staged);
      frames = omega (arith, i.frames, c.moved.ensures.count, ap (λ (l : List Listed). one_if_staged l) staged, one_if-moved file at to_file to_at p.staged);
    }

pub returns-clause-moved : goal.returns-clause-moved
returns-clause-moved c = λ settled known more s looks moves.
    let p : Places = places_of c.self.inside in
    let here : Looks settled known p s = subst (λ (q : Places). Looks settled known q s) (sym c.self.view_is) looks in
    let staged : map listed_of c.move_staged.new.staged.items ≡ map (moved c.args.file c.args.at c.args.to_file c.args.to_at) p.staged = c.move_staged.ensures.items in
    moved_looks settled known more c.args.file c.args.at c.args.to_file c.args.to_at p s c.moved.new.self (map listed_of c.move_staged.new.staged.items) here moves c.moved.ensures.moved c.moved.ensures.count staged

pub returns-clause-put : goal.returns-clause-put
returns-clause-put c = λ token pointer may.
    let p : Places = places_of c.self.inside in
    let old : MayPut p token pointer = subst (λ (q : Places). MayPut q token pointer) (sym c.self.view_is) may in
    let staged : map listed_of c.move_staged.new.staged.items ≡ map (moved c.args.file c.args.at c.args.to_file c.args.to_at) p.staged = c.move_staged.ensures.items in
    record {
      life = old.life;
      room = subst (MayAdd (Put pointer)) (sym (c.moved.ensures.moved token.number)) (may_moved c.args.file c.args.at c.args.to_file c.args.to_at (Put pointer) (open_at p.opened token.number) old.room);
      few = omega (arith, old.few, ap (λ (l : List Listed). puts_in l) staged, puts_in-moved c.args.file c.args.at c.args.to_file c.args.to_at p.staged);
    }

pub returns-clause-take : goal.returns-clause-take
returns-clause-take c = λ token may.
    let p : Places = places_of c.self.inside in
    let old : MayTake p token = subst (λ (q : Places). MayTake q token) (sym c.self.view_is) may in
    record { life = old.life; room = subst (MayAdd (Take 0)) (sym (c.moved.ensures.moved token.number)) (may_moved c.args.file c.args.at c.args.to_file c.args.to_at (Take 0) (open_at p.opened token.number) old.room) }

pub returns-clause-opened : goal.returns-clause-opened
returns-clause-opened c = rw (← c.self.view_is) c.moved.ensures.moved
