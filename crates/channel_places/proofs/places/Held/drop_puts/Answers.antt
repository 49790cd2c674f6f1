use Rattle.std.proofs.Common.{◌≡◌, ◌-◌, None, arith, subst, sym, true}
use Rattle.open_table.specs.Tables.{Listed, is_open, listed_of, open_at}
use Rattle.channel_face.specs.Machine.{close, entry_of}
use Rattle.channel_places.specs.Looks.{Looks, Places}
use Rattle.channel_places.specs.View.{places_of}
use Rattle.channel_places.proofs.Looking.{rooms_stay}
use Rattle.channel_places.proofs.Ending.{both_of, drop_looks, open_fits, puts_of_one}
use Rattle.channel_places.proofs.Keeping.{keeps_ended}
use Rattle.channel_places.proofs.places.Held.drop_puts.Goals as goal

pub overflow_sub-self-2 : goal.overflow_sub-self-2
overflow_sub-self-2 c =
    let i = c.self.invariant in
    let p : Places = places_of c.self.inside in
    let l : Listed = listed_of c.end-ended.result in
    let both = both_of i.known i.state.rules.limits.txn_capacity (open_at p.opened c.args.number) (entry_of c.args.number i.state.opened) l (i.looks.opened c.args.number) c.end-ended.ensures.ended in
    omega (arith, open_fits i.settled i.known p i.state c.args.number l i.looks both, c.put_count.ensures)

pub invariant_of-self : goal.invariant_of-self
invariant_of-self c =
    let i = c.self.invariant in
    let p : Places = places_of c.self.inside in
    let n = c.args.number in
    let l : Listed = listed_of c.end-ended.result in
    let both = both_of i.known i.state.rules.limits.txn_capacity (open_at p.opened n) (entry_of n i.state.opened) l (i.looks.opened n) c.end-ended.ensures.ended in
    let fits = open_fits i.settled i.known p i.state n l i.looks both in
    let are = puts_of_one (open_at p.opened n) l (subst (λ (q : Places). is_open true (open_at q.opened n) ≡ true) (sym c.self.view_is) c.requires) c.end-ended.ensures.ended in
    rw c.hand_back.ensures (record {
      settled = i.settled;
      known = i.known;
      state = close n i.state;
      looks = drop_looks i.settled i.known p i.state c.end-ended.new.self n l (c.self.inside.open_puts - c.put_count.result) i.looks both are c.end-ended.ensures.rest c.end-ended.ensures.count (omega (arith, fits, c.put_count.ensures));
      open_are = omega (arith, i.open_are, c.end-ended.ensures.count);
      open_few = omega (arith, i.open_few);
      lists = rooms_stay p.opened c.end-ended.new.self n None c.end-ended.ensures.rest tt i.lists;
      staged_puts_are = i.staged_puts_are;
      slots_are = i.slots_are;
      few = i.few;
      within = omega (arith, i.within);
      below = i.below;
      numbers = i.numbers;
      fits = omega (arith, i.fits);
      frames = omega (arith, i.frames, c.end-ended.ensures.count);
    })

pub returns-clause-looks : goal.returns-clause-looks
returns-clause-looks c = λ settled known s looks.
    let p : Places = places_of c.self.inside in
    let here : Looks settled known p s = subst (λ (q : Places). Looks settled known q s) (sym c.self.view_is) looks in
    let n = c.args.number in
    let l : Listed = listed_of c.end-ended.result in
    let both = both_of known s.rules.limits.txn_capacity (open_at p.opened n) (entry_of n s.opened) l (here.opened n) c.end-ended.ensures.ended in
    let are = puts_of_one (open_at p.opened n) l (subst (λ (q : Places). is_open true (open_at q.opened n) ≡ true) (sym c.self.view_is) c.requires) c.end-ended.ensures.ended in
    rw c.hand_back.ensures (drop_looks settled known p s c.end-ended.new.self n l (c.self.inside.open_puts - c.put_count.result) here both are c.end-ended.ensures.rest c.end-ended.ensures.count
    (omega (arith, open_fits settled known p s n l here both, c.put_count.ensures)))

pub returns-clause-opened : goal.returns-clause-opened
returns-clause-opened c = rw (← c.self.view_is) (rw c.hand_back.ensures (keeps_ended c.args.number c.self.inside.table c.end-ended.new.self c.end-ended.ensures.rest))
