use Rattle.std.proofs.Common.{◌≡◌, ◌+◌, ◌-◌, ◌<◌, ◌^◌, List, None, ap, arith, length, length-append, map, subst, sym}
use Rattle.open_table.specs.Tables.{Listed, listed_of, open_at}
use Rattle.channel_face.specs.Machine.{entry_of, stage}
use Rattle.channel_places.specs.Ends.{one_if_staged}
use Rattle.channel_places.specs.Looks.{Looks, Places, puts_in, puts_of_open, staged_of}
use Rattle.channel_places.specs.View.{places_of}
use Rattle.channel_places.proofs.Looking.{rooms_stay}
use Rattle.channel_places.proofs.Ending.{both_of, one_more, one_staged, open_fits, open_size, puts_in-append, puts_in-staged, stage_looks}
use Rattle.channel_places.proofs.Keeping.{keeps_ended}
use Rattle.channel_places.proofs.places.Held.stage.Goals as goal

pub overflow_sub-self-2 : goal.overflow_sub-self-2
overflow_sub-self-2 c =
    let i = c.self.invariant in
    let p : Places = places_of c.self.inside in
    let l : Listed = listed_of c.end-ended.result in
    let both = both_of i.known i.state.rules.limits.txn_capacity (open_at p.opened c.args.number) (entry_of c.args.number i.state.opened) l (i.looks.opened c.args.number) c.end-ended.ensures.ended in
    omega (arith, open_fits i.settled i.known p i.state c.args.number l i.looks both, c.put_count-puts.ensures)

pub invariant_of-self : goal.invariant_of-self
invariant_of-self c =
    let i = c.self.invariant in
    let p : Places = places_of c.self.inside in
    let n = c.args.number in
    let l : Listed = listed_of c.end-ended.result in
    let now : List Listed = map listed_of c.push_ended.new.staged.items in
    let both = both_of i.known i.state.rules.limits.txn_capacity (open_at p.opened n) (entry_of n i.state.opened) l (i.looks.opened n) c.end-ended.ensures.ended in
    let fits = open_fits i.settled i.known p i.state n l i.looks both in
    let more : puts_in now ≡ puts_in p.staged + length (Rattle.open_table.specs.Tables.puts_of l) =
    omega (arith, ap (λ (x : List Listed). puts_in x) c.push_ended.ensures.items, puts_in-append p.staged (staged_of l), puts_in-staged l) in
    let below : p.numbers.first + puts_in p.staged + puts_of_open (open_at p.opened n) < 2 ^ 64 =
    subst (λ (q : Places). q.numbers.first + puts_in q.staged + puts_of_open (open_at q.opened n) < 2 ^ 64) (sym c.self.view_is) c.requires.numbers in
    record {
      settled = i.settled;
      known = i.known;
      state = stage n (entry_of n i.state.opened) i.state;
      looks = stage_looks i.settled i.known p i.state c.end-ended.new.self n l now (c.self.inside.open_puts - c.put_count-puts.result) i.looks both c.end-ended.ensures.rest c.end-ended.ensures.count c.push_ended.ensures.items (omega (arith, fits, c.put_count-puts.ensures));
      open_are = omega (arith, i.open_are, c.end-ended.ensures.count);
      open_few = omega (arith, i.open_few);
      lists = rooms_stay p.opened c.end-ended.new.self n None c.end-ended.ensures.rest tt i.lists;
      staged_puts_are = omega (arith, i.staged_puts_are, more, c.put_count-puts.ensures);
      slots_are = i.slots_are;
      few = i.few;
      within = omega (arith, i.within, more, fits, c.put_count-puts.ensures);
      below = i.below;
      numbers = omega (arith, below, i.staged_puts_are, open_size (open_at p.opened n) l c.end-ended.ensures.ended, c.put_count-puts.ensures);
      fits = omega (arith, i.fits, i.open_are, c.end-ended.ensures.count, c.push_ended.ensures.room, one_staged l, length-append p.staged (staged_of l), ap (λ (x : List Listed). length x) c.push_ended.ensures.items);
      frames = omega (arith, i.frames, c.end-ended.ensures.count, ap (λ (x : List Listed). one_if_staged x) c.push_ended.ensures.items, one_more p.staged l);
    }

pub returns-clause-looks : goal.returns-clause-looks
returns-clause-looks c = λ settled known s looks.
    let p : Places = places_of c.self.inside in
    let here : Looks settled known p s = subst (λ (q : Places). Looks settled known q s) (sym c.self.view_is) looks in
    let n = c.args.number in
    let l : Listed = listed_of c.end-ended.result in
    let both = both_of known s.rules.limits.txn_capacity (open_at p.opened n) (entry_of n s.opened) l (here.opened n) c.end-ended.ensures.ended in
    stage_looks settled known p s c.end-ended.new.self n l (map listed_of c.push_ended.new.staged.items) (c.self.inside.open_puts - c.put_count-puts.result) here both c.end-ended.ensures.rest c.end-ended.ensures.count c.push_ended.ensures.items
    (omega (arith, open_fits settled known p s n l here both, c.put_count-puts.ensures))

pub returns-clause-opened : goal.returns-clause-opened
returns-clause-opened c = rw (← c.self.view_is) (keeps_ended c.args.number c.self.inside.table c.end-ended.new.self c.end-ended.ensures.rest)
