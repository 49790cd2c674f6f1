use Rattle.std.proofs.Common.{◌∙◌, subst, sym}
use Rattle.channel_places.specs.Looks.{Looks, Places}
use Rattle.channel_places.specs.View.{places_of}
use Rattle.channel_places.proofs.Taking.{first_of, live_pointer, none_of, some_free}
use Rattle.channel_places.specs.Looks.{held_in}
use Rattle.channel_places.proofs.places.Held.first_free.Goals as goal

pub returns-in-Some-pointer : goal.returns-in-Some-pointer
returns-in-Some-pointer c = λ settled known s looks.
    let p : Places = places_of c.self.inside in
    let here : Looks settled known p s = subst (λ (q : Places). Looks settled known q s) (sym c.self.view_is) looks in
    first_of settled known p s c.in-Some.number c.in-Some-pointer.pointer here (sym c.first_free.ensures ∙ c.in-Some.is) (sym c.pointer.ensures ∙ c.in-Some-pointer.is)

pub returns-in-None-pointer : goal.returns-in-None-pointer
returns-in-None-pointer c = λ settled known s looks.
    let p : Places = places_of c.self.inside in
    let here : Looks settled known p s = subst (λ (q : Places). Looks settled known q s) (sym c.self.view_is) looks in
    let f = some_free settled (held_in s) p.live s.items c.in-Some.number here.left (sym c.first_free.ensures ∙ c.in-Some.is) in
    absurd (live_pointer p.live c.in-Some.number f.live_is (sym c.pointer.ensures ∙ c.in-None-pointer.is))

pub returns-in-None : goal.returns-in-None
returns-in-None c = λ settled known s looks.
    let p : Places = places_of c.self.inside in
    let here : Looks settled known p s = subst (λ (q : Places). Looks settled known q s) (sym c.self.view_is) looks in
    none_of settled known p s here (sym c.first_free.ensures ∙ c.in-None.is)
