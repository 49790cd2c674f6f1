use Rattle.std.proofs.Common.{◌≡◌, ◌++◌, ◌∷◌, [], ◌+◌, List, Some, ap, arith, length, map, refl, subst, sym}
use Rattle.std.proofs.lemmas.List.{length-map}
use Rattle.open_table.specs.Tables.{Listed, listed_of}
use Rattle.open_table.specs.declared.table.Ended.{Ended}
use Rattle.channel_places.specs.Ends.{one_if_staged}
use Rattle.channel_places.specs.Looks.{Looks, Places, no_entry, puts_in}
use Rattle.channel_places.specs.View.{places_of}
use Rattle.channel_places.proofs.Looking.{begun_looks, begun_within, next_not_open, restaged, rooms_stay}
use Rattle.channel_places.proofs.Keeping.{keeps_begun}
use Rattle.channel_places.proofs.places.Held.add_open.Goals as goal

pub begin-requires : goal.begin-requires
begin-requires c = next_not_open c.self.invariant.settled c.self.invariant.known (places_of c.self.inside) c.self.invariant.state c.self.invariant.looks

pub invariant_of-self-in-Ok : goal.invariant_of-self-in-Ok
invariant_of-self-in-Ok c =
    let i = c.self.invariant in
    let p : Places = places_of c.self.inside in
    let begun = begun_looks i.settled i.known p i.state c.begin.new.self c.args.puts c.self.inside.limits.txn_capacity i.looks refl c.in-Ok.ensures.begun.0 c.in-Ok.ensures.begun.1 in
    let staged : map listed_of c.reserve.new.self.items ≡ p.staged = ap (λ (l : List Ended). map listed_of l) c.reserve.ensures.items in
    record {
      settled = i.settled;
      known = i.known;
      state = record i.state { opened = i.state.opened ++ (i.state.txn, no_entry c.args.puts) ∷ []; txn = i.state.txn + 1 };
      looks = restaged i.settled i.known _ _ (map listed_of c.reserve.new.self.items) staged begun;
      open_are = omega (arith, i.open_are, c.in-Ok.ensures.begun.1);
      open_few = omega (arith, i.open_are, c.requires.few, ap (λ (q : Places). length q.opened) c.self.view_is);
      lists = rooms_stay c.self.inside.table c.begin.new.self c.self.inside.txn (Some (Rattle.open_table.specs.Tables.begun c.args.puts c.self.inside.limits.txn_capacity)) c.in-Ok.ensures.begun.0 (begun_within c.args.puts c.self.inside.limits.txn_capacity) i.lists;
      staged_puts_are = subst (λ (l : List Listed). c.self.inside.staged_puts ≡ puts_in l) (sym staged) i.staged_puts_are;
      slots_are = i.slots_are;
      few = i.few;
      within = omega (arith, i.within, ap (λ (l : List Listed). puts_in l) staged);
      below = i.below;
      numbers = i.numbers;
      fits = omega (arith, c.in_ok-reserve.ensures.ok, length-map c.reserve.new.self.items listed_of);
      frames = omega (arith, i.frames, c.in-Ok.ensures.begun.1, ap (λ (l : List Listed). one_if_staged l) staged);
    }

pub returns-in-Ok-clause-ok : goal.returns-in-Ok-clause-ok
returns-in-Ok-clause-ok c = λ settled known s looks.
    let p : Places = places_of c.self.inside in
    let here : Looks settled known p s = subst (λ (q : Places). Looks settled known q s) (sym c.self.view_is) looks in
    let begun = begun_looks settled known p s c.begin.new.self c.args.puts c.self.inside.limits.txn_capacity here refl c.in-Ok.ensures.begun.0 c.in-Ok.ensures.begun.1 in
    restaged settled known _ _ (map listed_of c.reserve.new.self.items) (ap (λ (l : List Ended). map listed_of l) c.reserve.ensures.items) begun

pub returns-in-Ok-clause-opened : goal.returns-in-Ok-clause-opened
returns-in-Ok-clause-opened c = rw (← c.self.view_is) (keeps_begun c.self.inside.txn c.self.inside.limits.txn_capacity c.args.puts c.self.inside.table c.begin.new.self c.in-Ok.ensures.begun.0)
