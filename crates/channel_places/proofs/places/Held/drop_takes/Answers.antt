use Rattle.std.proofs.Common.{◌≡◌, ◌∙◌, None, List, ap, arith, length, subst, sym, true, false}
use Rattle.open_table.specs.Tables.{Listed, is_open, listed_of, open_at, takes_of}
use Rattle.event_ring.specs.Slots.{Index, Left}
use Rattle.channel_face.specs.Machine.{close, entry_of}
use Rattle.channel_places.specs.Looks.{Looks, Places}
use Rattle.channel_places.specs.View.{places_of}
use Rattle.channel_places.proofs.Looking.{rooms_stay}
use Rattle.channel_places.proofs.Taking.{relive}
use Rattle.channel_places.proofs.Ending.{both_of}
use Rattle.channel_places.proofs.Freeing.{drop_takes_looks, freed_length, taken_of, takes_live, takes_of_one}
use Rattle.channel_places.proofs.Keeping.{keeps_ended}
use Rattle.channel_places.proofs.places.Held.drop_takes.Goals as goal

pub free_takes-requires : goal.free_takes-requires
free_takes-requires c =
    let i = c.self.invariant in
    let p : Places = places_of c.self.inside in
    let n = c.args.number in
    let l : Listed = listed_of c.end-ended.result in
    let both = both_of i.known i.state.rules.limits.txn_capacity (open_at p.opened n) (entry_of n i.state.opened) l (i.looks.opened n) c.end-ended.ensures.ended in
    let are = takes_of_one (open_at p.opened n) l (subst (λ (q : Places). is_open false (open_at q.opened n) ≡ true) (sym c.self.view_is) c.requires) c.end-ended.ensures.ended in
    takes_live i.settled i.known p i.state n l i.looks (taken_of i.known l (entry_of n i.state.opened) both are)

pub invariant_of-self : goal.invariant_of-self
invariant_of-self c =
    let i = c.self.invariant in
    let p : Places = places_of c.self.inside in
    let n = c.args.number in
    let l : Listed = listed_of c.end-ended.result in
    let both = both_of i.known i.state.rules.limits.txn_capacity (open_at p.opened n) (entry_of n i.state.opened) l (i.looks.opened n) c.end-ended.ensures.ended in
    let are = takes_of_one (open_at p.opened n) l (subst (λ (q : Places). is_open false (open_at q.opened n) ≡ true) (sym c.self.view_is) c.requires) c.end-ended.ensures.ended in
    let has = taken_of i.known l (entry_of n i.state.opened) both are in
    let live = ap (λ (x : Index). x.live) c.free_takes.ensures in
    rw c.hand_back.ensures (record {
      settled = i.settled;
      known = i.known;
      state = close n i.state;
      looks = relive i.settled i.known p _ _ c.end-ended.new.self c.free_takes.new.ring.live live (drop_takes_looks i.settled i.known p i.state c.end-ended.new.self n l i.looks has c.end-ended.ensures.rest c.end-ended.ensures.count);
      open_are = omega (arith, i.open_are, c.end-ended.ensures.count);
      open_few = omega (arith, i.open_few);
      lists = rooms_stay p.opened c.end-ended.new.self n None c.end-ended.ensures.rest tt i.lists;
      staged_puts_are = i.staged_puts_are;
      slots_are = ap (λ (x : Index). x.slots) c.free_takes.ensures ∙ i.slots_are;
      few = omega (arith, i.few, ap (λ (x : Index). x.slots) c.free_takes.ensures);
      within = omega (arith, i.within, ap (λ (x : Index). x.slots) c.free_takes.ensures, ap (λ (x : List Left). length x) live, freed_length (takes_of l) p.live);
      below = omega (arith, i.below, ap (λ (x : Index). x.top) c.free_takes.ensures);
      numbers = i.numbers;
      fits = omega (arith, i.fits);
      frames = omega (arith, i.frames, c.end-ended.ensures.count);
    })

pub returns-clause-looks : goal.returns-clause-looks
returns-clause-looks c = λ settled known s looks.
    let p : Places = places_of c.self.inside in
    let here : Looks settled known p s = subst (λ (q : Places). Looks settled known q s) (sym c.self.view_is) looks in
    let n = c.args.number in
    let l : Listed = listed_of c.end-ended.result in
    let both = both_of known s.rules.limits.txn_capacity (open_at p.opened n) (entry_of n s.opened) l (here.opened n) c.end-ended.ensures.ended in
    let are = takes_of_one (open_at p.opened n) l (subst (λ (q : Places). is_open false (open_at q.opened n) ≡ true) (sym c.self.view_is) c.requires) c.end-ended.ensures.ended in
    rw c.hand_back.ensures (relive settled known p _ _ c.end-ended.new.self c.free_takes.new.ring.live (ap (λ (x : Index). x.live) c.free_takes.ensures)
    (drop_takes_looks settled known p s c.end-ended.new.self n l here (taken_of known l (entry_of n s.opened) both are) c.end-ended.ensures.rest c.end-ended.ensures.count))

pub returns-clause-opened : goal.returns-clause-opened
returns-clause-opened c = rw (← c.self.view_is) (rw c.hand_back.ensures (keeps_ended c.args.number c.self.inside.table c.end-ended.new.self c.end-ended.ensures.rest))
