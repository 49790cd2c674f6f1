use Rattle.std.proofs.Common.{inl, ◌≡◌, ◌∙◌, ◌++◌, ◌∷◌, [], List, ap, arith, false, refl, subst, sym}
use Rattle.event_core.specs.Content.{Content, content}
use Rattle.record_form.specs.declared.record.Pointer.{Pointer}
use Rattle.event_ring.specs.Slots.{Index, Left}
use Rattle.channel_face.proofs.Numbers.{base_rising}
use Rattle.channel_places.specs.Looks.{LookLeft}
use Rattle.log_tests.proofs.places.second_life.Goals as goal

pub renew-requires-clause-left : goal.renew-requires-clause-left
renew-requires-clause-left c =
    let event : Content = content [] [] in
    let pointer : Pointer = record { file = 1; at = 30; length = 9 } in
    let one : Left = record { number = 4; pointer = pointer; held = false } in
    let live : c.push.new.self.live ≡ one ∷ [] = ap (λ (r : Index). r.live) c.push.ensures ∙ ap (λ (r : Index). r.live ++ one ∷ []) c.in_ok-ring.ensures in (
      (pointer, event) ∷ [],
      (4, event) ∷ [],
      subst (λ (l : List Left). LookLeft ((pointer, event) ∷ []) [] l ((4, event) ∷ [])) (sym live) ((refl, refl, inl refl), tt),
      base_rising (record { items = (4, event) ∷ []; first = 5 }) (omega arith, omega arith),
    )
