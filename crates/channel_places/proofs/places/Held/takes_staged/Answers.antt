use Rattle.std.proofs.Common.{◌∙◌, ℕ, List, ap, length, map, subst, sym}
use Rattle.channel_face.specs.Counters.{capped}
use Rattle.open_table.specs.Tables.{listed_of}
use Rattle.open_table.specs.declared.table.Ended.{Ended}
use Rattle.channel_places.specs.Ends.{takes_in}
use Rattle.channel_places.specs.Looks.{Looks, Places}
use Rattle.channel_places.specs.View.{places_of}
use Rattle.channel_places.proofs.Leaving.{takes_same}
use Rattle.channel_places.proofs.places.Held.takes_staged.Goals as goal

pub returns : goal.returns
returns c = λ settled known s looks.
    let here : Looks settled known (places_of c.self.inside) s = subst (λ (q : Places). Looks settled known q s) (sym c.self.view_is) looks in
    c.count_takes.ensures ∙ (ap (λ (l : List Ended). capped (length (takes_in (map listed_of l)))) c.deref.ensures.value ∙ ap (λ (l : List ℕ). capped (length l)) (takes_same known (places_of c.self.inside).staged s.staged here.staged))
