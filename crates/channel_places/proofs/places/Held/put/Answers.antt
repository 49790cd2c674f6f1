use Rattle.std.proofs.Common.{◌∷◌, ℕ, arith, subst, sym}
use Rattle.event_core.specs.Content.{content}
use Rattle.open_table.specs.Tables.{HasAt, added, open_at}
use Rattle.open_table.specs.declared.table.Item.TheVariants.{Put}
use Rattle.channel_face.specs.Machine.{add_put, puts_of}
use Rattle.channel_places.specs.Looks.{Looks, MayPut, Places}
use Rattle.channel_places.specs.View.{places_of}
use Rattle.channel_places.proofs.Looking.{rooms_stay}
use Rattle.channel_places.proofs.Putting.{put_looks, put_within}
use Rattle.channel_places.proofs.places.Held.put.Goals as goal

pub invariant_of-self : goal.invariant_of-self
invariant_of-self c =
    let i = c.self.invariant in
    let p : Places = places_of c.self.inside in
    let token = c.args.txn.now in
    let may : MayPut p token c.args.pointer = subst (λ (q : Places). MayPut q token c.args.pointer) (sym c.self.view_is) c.requires in
    let has = subst (λ (n : ℕ). HasAt n (added (Put c.args.pointer) (open_at p.opened n)) p.opened c.add.new.self) c.number.ensures c.add.ensures.added in
    let event = content Rattle.std.proofs.Common.[] Rattle.std.proofs.Common.[] in
    record {
      settled = i.settled;
      known = (c.args.pointer, event) ∷ i.known;
      state = add_put i.state token.number (puts_of i.state token) event;
      looks = put_looks i.settled i.known p i.state c.add.new.self token c.args.pointer event i.looks may.life may.room has c.add.ensures.count;
      open_are = omega (arith, i.open_are, c.add.ensures.count);
      open_few = i.open_few;
      lists = rooms_stay p.opened c.add.new.self token.number (added (Put c.args.pointer) (open_at p.opened token.number)) has (put_within c.args.pointer (open_at p.opened token.number) may.room) i.lists;
      staged_puts_are = i.staged_puts_are;
      slots_are = i.slots_are;
      few = i.few;
      within = omega (arith, i.within, may.few, i.slots_are);
      below = i.below;
      numbers = i.numbers;
      fits = i.fits;
      frames = omega (arith, i.frames, c.add.ensures.count);
    }

pub returns-clause-looks : goal.returns-clause-looks
returns-clause-looks c = λ settled known s event looks.
    let p : Places = places_of c.self.inside in
    let token = c.args.txn.now in
    let here : Looks settled known p s = subst (λ (q : Places). Looks settled known q s) (sym c.self.view_is) looks in
    let may : MayPut p token c.args.pointer = subst (λ (q : Places). MayPut q token c.args.pointer) (sym c.self.view_is) c.requires in
    let has = subst (λ (n : ℕ). HasAt n (added (Put c.args.pointer) (open_at p.opened n)) p.opened c.add.new.self) c.number.ensures c.add.ensures.added in
    put_looks settled known p s c.add.new.self token c.args.pointer event here may.life may.room has c.add.ensures.count

pub returns-clause-added : goal.returns-clause-added
returns-clause-added c =
    let p : Places = places_of c.self.inside in
    rw (← c.self.view_is) (subst (λ (n : ℕ). HasAt n (added (Put c.args.pointer) (open_at p.opened n)) p.opened c.add.new.self) c.number.ensures c.add.ensures.added)
