use Rattle.std.proofs.Common.{◌≡◌, ◌∙◌, ◌+◌, ◌++◌, List, ap, arith, length, length-append, map, subst, sym}
use Rattle.open_table.specs.Tables.{Listed, listed_of}
use Rattle.open_table.specs.declared.table.Ended.{Ended}
use Rattle.event_ring.specs.Slots.{Index, Left}
use Rattle.channel_face.specs.Machine as face
use Rattle.channel_places.specs.Ends.{AreApart, one_if_staged, placed, pointers_in, takes_in}
use Rattle.channel_places.specs.Looks.{Known, Looks, MayPut, MayTake, Places, puts_in}
use Rattle.channel_places.specs.View.{places_of}
use Rattle.channel_places.proofs.Batches.{length_placed}
use Rattle.channel_places.proofs.Opening.{grows_behind, grows_front, looks_grow}
use Rattle.channel_places.proofs.Leaving.{lacking_length, pointers_length, replaced, settle_looks, settled_same, staged_apart}
use Rattle.channel_places.proofs.places.Held.settle.Goals as goal

pub remove_staged-requires : goal.remove_staged-requires
remove_staged-requires c =
    let i = c.self.invariant in
    let p : Places = places_of c.self.inside in
    let same : map listed_of c.deref-2.result.now ≡ p.staged = ap (λ (l : List Ended). map listed_of l) c.deref-2.ensures.value in
    subst (λ (l : List Listed). AreApart p.live (takes_in l)) (sym same) (staged_apart i.settled i.known p i.state i.looks)

pub append_staged-self-inside-requires-clause-low : goal.append_staged-self-inside-requires-clause-low
append_staged-self-inside-requires-clause-low c =
    let i = c.self.invariant in
    let p : Places = places_of c.self.inside in
    let same : map listed_of c.deref-3.result.now ≡ p.staged = ap (λ (l : List Ended). map listed_of l) c.deref-3.ensures.value in
    omega (arith, i.numbers, i.staged_puts_are, ap (λ (l : List Listed). length (pointers_in l)) same, pointers_length p.staged)

pub append_staged-self-inside-requires-clause-room : goal.append_staged-self-inside-requires-clause-room
append_staged-self-inside-requires-clause-room c =
    let i = c.self.invariant in
    let p : Places = places_of c.self.inside in
    let same : map listed_of c.deref-3.result.now ≡ p.staged = ap (λ (l : List Ended). map listed_of l) c.deref-3.ensures.value in
    omega (
      arith,
      i.within,
      ap (λ (r : Index). r.slots) c.remove_staged.ensures,
      ap (λ (r : Index). length r.live) c.remove_staged.ensures,
      lacking_length (takes_in (map listed_of c.deref-2.result.now)) p.live,
      ap (λ (l : List Listed). length (pointers_in l)) same,
      pointers_length p.staged,
    )

pub invariant_of-self : goal.invariant_of-self
invariant_of-self c =
    let i = c.self.invariant in
    let p : Places = places_of c.self.inside in
    let counted : map listed_of c.deref.result.now ≡ p.staged = ap (λ (l : List Ended). map listed_of l) c.deref.ensures.value in
    let removed : map listed_of c.deref-2.result.now ≡ p.staged = ap (λ (l : List Ended). map listed_of l) c.deref-2.ensures.value in
    let added : map listed_of c.deref-3.result.now ≡ p.staged = ap (λ (l : List Ended). map listed_of l) c.deref-3.ensures.value in
    let cleared : map listed_of c.hand_back_all.new.staged.items ≡ Rattle.std.proofs.Common.[] = ap (λ (l : List Ended). map listed_of l) c.hand_back_all.ensures.items in
    let same = settled_same p _ _ _ _ _ _ _ _ counted removed added cleared (ap (λ (r : Index). r.live) c.remove_staged.ensures) c.append_staged-self-inside.ensures.appended.live c.append_staged-self-inside.ensures.next c.one_if_staged.ensures in
    let many : length (pointers_in (map listed_of c.deref-3.result.now)) ≡ puts_in p.staged = ap (λ (l : List Listed). length (pointers_in l)) added ∙ pointers_length p.staged in
    let all : Known = i.settled ++ i.known in
    rw c.hand_back_all.ensures.same (record {
      settled = all;
      known = all;
      state = face.settle i.state;
      looks = replaced all all _ _ _ same (settle_looks all p i.state (looks_grow i.settled i.known all p i.state (grows_front i.settled i.known) (grows_behind i.settled i.known) i.looks));
      open_are = i.open_are;
      open_few = i.open_few;
      lists = i.lists;
      staged_puts_are = sym (ap (λ (l : List Listed). puts_in l) cleared);
      slots_are = c.append_staged-self-inside.ensures.appended.slots ∙ (ap (λ (r : Index). r.slots) c.remove_staged.ensures ∙ i.slots_are);
      few = omega (arith, i.few, c.append_staged-self-inside.ensures.appended.slots, ap (λ (r : Index). r.slots) c.remove_staged.ensures);
      within = omega (
        arith,
        i.within,
        c.append_staged-self-inside.ensures.appended.slots,
        ap (λ (r : Index). r.slots) c.remove_staged.ensures,
        ap (λ (l : List Left). length l) c.append_staged-self-inside.ensures.appended.live,
        length-append c.remove_staged.new.ring.live (placed c.self.inside.first (pointers_in (map listed_of c.deref-3.result.now))),
        length_placed c.self.inside.first (pointers_in (map listed_of c.deref-3.result.now)),
        ap (λ (r : Index). length r.live) c.remove_staged.ensures,
        lacking_length (takes_in (map listed_of c.deref-2.result.now)) p.live,
        many,
        ap (λ (l : List Listed). puts_in l) cleared,
      );
      below = omega (arith, c.append_staged-self-inside.ensures.appended.top, c.append_staged-self-inside.ensures.next);
      numbers = omega (arith, i.numbers, i.staged_puts_are, c.append_staged-self-inside.ensures.next, many);
      fits = omega (arith, i.fits, c.hand_back_all.ensures.room, ap (λ (l : List Listed). length l) cleared);
      frames = omega (arith, i.frames, c.one_if_staged.ensures, ap (λ (l : List Listed). one_if_staged l) counted, ap (λ (l : List Listed). one_if_staged l) cleared);
    })

pub returns-clause-step : goal.returns-clause-step
returns-clause-step c = λ known s looks.
    let p : Places = places_of c.self.inside in
    let here : Looks known known p s = subst (λ (q : Places). Looks known known q s) (sym c.self.view_is) looks in
    let counted : map listed_of c.deref.result.now ≡ p.staged = ap (λ (l : List Ended). map listed_of l) c.deref.ensures.value in
    let removed : map listed_of c.deref-2.result.now ≡ p.staged = ap (λ (l : List Ended). map listed_of l) c.deref-2.ensures.value in
    let added : map listed_of c.deref-3.result.now ≡ p.staged = ap (λ (l : List Ended). map listed_of l) c.deref-3.ensures.value in
    let cleared : map listed_of c.hand_back_all.new.staged.items ≡ Rattle.std.proofs.Common.[] = ap (λ (l : List Ended). map listed_of l) c.hand_back_all.ensures.items in
    let same = settled_same p _ _ _ _ _ _ _ _ counted removed added cleared (ap (λ (r : Index). r.live) c.remove_staged.ensures) c.append_staged-self-inside.ensures.appended.live c.append_staged-self-inside.ensures.next c.one_if_staged.ensures in
    rw c.hand_back_all.ensures.same (replaced known known _ _ _ same (settle_looks known p s here))

pub returns-clause-put : goal.returns-clause-put
returns-clause-put c = λ token pointer may.
    let p : Places = places_of c.self.inside in
    let old : MayPut p token pointer = subst (λ (q : Places). MayPut q token pointer) (sym c.self.view_is) may in
    let added : map listed_of c.deref-3.result.now ≡ p.staged = ap (λ (l : List Ended). map listed_of l) c.deref-3.ensures.value in
    let cleared : map listed_of c.hand_back_all.new.staged.items ≡ Rattle.std.proofs.Common.[] = ap (λ (l : List Ended). map listed_of l) c.hand_back_all.ensures.items in
    let many : length (pointers_in (map listed_of c.deref-3.result.now)) ≡ puts_in p.staged = ap (λ (l : List Listed). length (pointers_in l)) added ∙ pointers_length p.staged in
    record {
      life = old.life;
      room = rw c.hand_back_all.ensures.same old.room;
      few = omega (
        arith,
        old.few,
        ap (λ (l : List Left). length l) c.append_staged-self-inside.ensures.appended.live,
        length-append c.remove_staged.new.ring.live (placed c.self.inside.first (pointers_in (map listed_of c.deref-3.result.now))),
        length_placed c.self.inside.first (pointers_in (map listed_of c.deref-3.result.now)),
        ap (λ (r : Index). length r.live) c.remove_staged.ensures,
        lacking_length (takes_in (map listed_of c.deref-2.result.now)) p.live,
        many,
        ap (λ (l : List Listed). puts_in l) cleared,
      );
    }

pub returns-clause-take : goal.returns-clause-take
returns-clause-take c = λ token may.
    let old : MayTake (places_of c.self.inside) token = subst (λ (q : Places). MayTake q token) (sym c.self.view_is) may in
    record { life = old.life; room = rw c.hand_back_all.ensures.same old.room }

pub returns-clause-opened : goal.returns-clause-opened
returns-clause-opened c = rw (← c.self.view_is) c.hand_back_all.ensures.same
