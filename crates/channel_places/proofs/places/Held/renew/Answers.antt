use Rattle.std.proofs.Common.{◌≡◌, ◌∙◌, ◌++◌, ◌∷◌, [], List, ap, arith, length, map, refl, subst, sym}
use Rattle.std.specs.Prelude.{Ok}
use Rattle.open_table.specs.Tables.{Listed, Table, listed_of, open_at}
use Rattle.open_table.specs.declared.table.Ended.{Ended}
use Rattle.channel_face.specs.Machine.{Read, Reopened, after_reopen}
use Rattle.channel_places.specs.Ends.{one_if_staged}
use Rattle.channel_places.specs.Looks.{IsWithinRoom, Looks, Places, puts_in}
use Rattle.channel_places.specs.View.{places_of}
use Rattle.channel_places.proofs.Renewing.{renew_looks}
use Rattle.channel_places.proofs.places.Held.renew.Goals as goal

pub invariant_of-self : goal.invariant_of-self
invariant_of-self c =
    let i = c.self.invariant in
    let p : Places = places_of c.self.inside in
    let given = c.requires.left in
    let r : Reopened = record { kept = Read (record { items = given.1; first = c.args.first }); txn = c.args.txn } in
    let cleared : map listed_of c.clear.new.self.items ≡ [] = ap (λ (l : List Ended). map listed_of l) c.clear.ensures.items in
    let ends = c.requires.ends ∙ sym (ap (λ (q : Places). q.numbers.ends ++ q.numbers.frame ∷ []) c.self.view_is) in
    let slots = c.requires.slots ∙ sym (ap (λ (q : Places). q.numbers.rules.limits.capacity) c.self.view_is) in
    record {
      settled = given.0;
      known = given.0;
      state = after_reopen i.state (Ok r);
      looks = renew_looks i.settled i.known given.0 given.0 p i.state r c.args.ring.live _ _ c.args.first c.args.txn c.args.ends.items i.looks c.end_all.ensures cleared refl refl ends given.2 given.3;
      open_are = sym (ap (λ (t : Table). length t) c.end_all.ensures);
      open_few = omega arith;
      lists = λ txn. subst (λ (t : Table). IsWithinRoom (open_at t txn)) (sym c.end_all.ensures) tt;
      staged_puts_are = sym (ap (λ (l : List Listed). puts_in l) cleared);
      slots_are = slots;
      few = omega (arith, i.few, i.slots_are, slots);
      within = omega (arith, c.requires.room, c.requires.slots, ap (λ (l : List Listed). puts_in l) cleared);
      below = c.requires.below;
      numbers = omega (arith, c.ranges.first.fits);
      fits = omega (arith, ap (λ (l : List Listed). length l) cleared);
      frames = omega (arith, c.requires.txn, ap (λ (l : List Listed). one_if_staged l) cleared, ap (λ (t : Table). length t) c.end_all.ensures);
    }

pub returns-clause-looks : goal.returns-clause-looks
returns-clause-looks c = λ before old settled known s r looks txn first left base.
    let p : Places = places_of c.self.inside in
    let here : Looks before old p s = subst (λ (q : Places). Looks before old q s) (sym c.self.view_is) looks in
    let cleared : map listed_of c.clear.new.self.items ≡ [] = ap (λ (l : List Ended). map listed_of l) c.clear.ensures.items in
    let ends = c.requires.ends ∙ sym (ap (λ (q : Places). q.numbers.ends ++ q.numbers.frame ∷ []) c.self.view_is) in
    renew_looks before old settled known p s r c.args.ring.live _ _ c.args.first c.args.txn c.args.ends.items here c.end_all.ensures cleared first txn ends left base

pub returns-clause-opened : goal.returns-clause-opened
returns-clause-opened c = c.end_all.ensures
