use Rattle.std.proofs.Common.{◌≡◌, ◌∙◌, ℕ, List, ap, arith, length, refl, subst, sym, true}
use Rattle.open_table.specs.Tables.{HasAt, added, open_at}
use Rattle.open_table.specs.declared.table.Item.TheVariants.{Take}
use Rattle.event_ring.specs.Slots.{Index, Left, marked}
use Rattle.channel_face.specs.Machine.{State, add_take, free, takes_of}
use Rattle.channel_places.specs.Looks.{Looks, MayTake, Places, held_in}
use Rattle.channel_places.specs.View.{places_of}
use Rattle.channel_places.proofs.Looking.{rooms_stay}
use Rattle.channel_places.proofs.Taking.{length-marked, none_number, relive, some_free, take_looks, take_none, take_within}
use Rattle.channel_places.proofs.Keeping.{keeps_same, keeps_taken}
use Rattle.channel_places.proofs.places.Held.take.Goals as goal

pub mark-requires : goal.mark-requires
mark-requires c =
    let i = c.self.invariant in
    (some_free i.settled (held_in i.state) c.self.inside.ring.live i.state.items c.in-Some.number i.looks.left (sym c.first_free.ensures ∙ c.in-Some.is)).live_is

pub invariant_of-self : goal.invariant_of-self
invariant_of-self c =
    let i = c.self.invariant in
    let p : Places = places_of c.self.inside in
    let token = c.args.txn.now in
    let number = c.in-Some.number in
    let may : MayTake p token = subst (λ (q : Places). MayTake q token) (sym c.self.view_is) c.requires in
    let has = subst (λ (n : ℕ). HasAt n (added (Take number) (open_at p.opened n)) p.opened c.add.new.self) c.number.ensures c.add.ensures.added in
    let first = sym c.first_free.ensures ∙ c.in-Some.is in
    let live : c.mark.new.self.live ≡ marked number true p.live = ap (λ (x : Index). x.live) c.mark.ensures in
    record {
      settled = i.settled;
      known = i.known;
      state = add_take i.state token.number (takes_of i.state token) (free i.state);
      looks = relive i.settled i.known p _ _ c.add.new.self c.mark.new.self.live live (take_looks i.settled i.known p i.state c.add.new.self token number i.looks may.life may.room first has c.add.ensures.count);
      open_are = omega (arith, i.open_are, c.add.ensures.count);
      open_few = i.open_few;
      lists = rooms_stay p.opened c.add.new.self token.number (added (Take number) (open_at p.opened token.number)) has (take_within number (open_at p.opened token.number) may.room) i.lists;
      staged_puts_are = i.staged_puts_are;
      slots_are = ap (λ (x : Index). x.slots) c.mark.ensures ∙ i.slots_are;
      few = omega (arith, i.few, ap (λ (x : Index). x.slots) c.mark.ensures);
      within = omega (arith, i.within, ap (λ (x : Index). x.slots) c.mark.ensures, ap (λ (l : List Left). length l) live, length-marked number true p.live);
      below = omega (arith, i.below, ap (λ (x : Index). x.top) c.mark.ensures);
      numbers = i.numbers;
      fits = i.fits;
      frames = omega (arith, i.frames, c.add.ensures.count);
    }

pub returns-in-Some-clause-looks : goal.returns-in-Some-clause-looks
returns-in-Some-clause-looks c = λ settled known s looks.
    let p : Places = places_of c.self.inside in
    let token = c.args.txn.now in
    let number = c.in-Some.number in
    let here : Looks settled known p s = subst (λ (q : Places). Looks settled known q s) (sym c.self.view_is) looks in
    let may : MayTake p token = subst (λ (q : Places). MayTake q token) (sym c.self.view_is) c.requires in
    let has = subst (λ (n : ℕ). HasAt n (added (Take number) (open_at p.opened n)) p.opened c.add.new.self) c.number.ensures c.add.ensures.added in
    let first = sym c.first_free.ensures ∙ c.in-Some.is in
    let live : c.mark.new.self.live ≡ marked number true p.live = ap (λ (x : Index). x.live) c.mark.ensures in
    relive settled known p _ _ c.add.new.self c.mark.new.self.live live (take_looks settled known p s c.add.new.self token number here may.life may.room first has c.add.ensures.count)

pub returns-in_default-clause-looks : goal.returns-in_default-clause-looks
returns-in_default-clause-looks c = λ settled known s looks.
    let p : Places = places_of c.self.inside in
    let token = c.args.txn.now in
    let here : Looks settled known p s = subst (λ (q : Places). Looks settled known q s) (sym c.self.view_is) looks in
    let may : MayTake p token = subst (λ (q : Places). MayTake q token) (sym c.self.view_is) c.requires in
    let none = sym c.first_free.ensures ∙ none_number c.first_free.result c.in_default.not-Some in
    subst (λ (u : State). Looks settled known c.args.self.now u) (sym (take_none settled known p s token here may.life may.room none)) looks

pub returns-in-Some-clause-opened : goal.returns-in-Some-clause-opened
returns-in-Some-clause-opened c =
    let p : Places = places_of c.self.inside in
    let number = c.in-Some.number in
    let has = subst (λ (n : ℕ). HasAt n (added (Take number) (open_at p.opened n)) p.opened c.add.new.self) c.number.ensures c.add.ensures.added in
    rw (← c.self.view_is) (keeps_taken c.args.txn.now.number number p.opened c.add.new.self has)

pub returns-in_default-clause-opened : goal.returns-in_default-clause-opened
returns-in_default-clause-opened c = keeps_same _ _ refl
