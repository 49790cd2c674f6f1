use Rattle.std.proofs.Common.{subst, sym}
use Rattle.channel_face.specs.Machine.{broken_state}
use Rattle.channel_places.specs.Looks.{Looks, Places}
use Rattle.channel_places.specs.View.{places_of}
use Rattle.channel_places.proofs.Looking.{broken_looks}
use Rattle.channel_places.proofs.places.Held.set_broken.Goals as goal

pub invariant_of-self : goal.invariant_of-self
invariant_of-self c =
    let i = c.self.invariant in
    record {
      settled = i.settled;
      known = i.known;
      state = broken_state i.state;
      looks = broken_looks i.settled i.known (places_of c.self.inside) i.state i.looks;
      open_are = i.open_are;
      open_few = i.open_few;
      lists = i.lists;
      staged_puts_are = i.staged_puts_are;
      slots_are = i.slots_are;
      few = i.few;
      within = i.within;
      below = i.below;
      numbers = i.numbers;
      fits = i.fits;
      frames = i.frames;
    }

pub returns-clause-looks : goal.returns-clause-looks
returns-clause-looks c = λ settled known s looks.
    broken_looks settled known (places_of c.self.inside) s (subst (λ (q : Places). Looks settled known q s) (sym c.self.view_is) looks)
