-- Whether a work has passed the channels of a node, one after another.
use Rattle.std.proofs.Common.{◌≡◌, ◌∙◌, ◌<◌, ◌+◌, ◌∷◌, ◌&&◌, ◌||◌, [], ℕ, zero, suc, List, length, drop, Bool, true, false, refl, ap, arith}
use Rattle.world_laws.specs.World.{Channel, Node, Work, share}
use Rattle.world_laws.specs.Channels.{is_empty}
use Rattle.world_laws.specs.Steps.{is_passed, is_passed_by}

-- the channel at a place, before those after it
channel_at : (cs : List Channel) (place : ℕ) → place < length cs → (c : Channel) × (drop place cs ≡ c ∷ drop (place + 1) cs)
channel_at [] place h = absurd (omega arith)
channel_at (x ∷ cs) zero h = (x, refl)
channel_at (x ∷ cs) (suc place) h =
    let rest = channel_at cs place (omega arith) in
    let further : suc (place + 1) ≡ suc place + 1 = omega arith in
    (rest.0, rest.1 ∙ ap (λ (i : ℕ). rest.0 ∷ drop i (x ∷ cs)) further)

stepped : (node : Node) (work : Work) (cs : List Channel) (place : ℕ) → place < length cs
    → is_passed_by node work place (drop place cs) ≡ ((is_empty (share node work.made place) || is_passed work place) && is_passed_by node work (place + 1) (drop (place + 1) cs))
stepped node work cs place h = let at = channel_at cs place h in ap (λ (l : List Channel). is_passed_by node work place l) at.1

or_true : (b : Bool) → (b || true) ≡ true
or_true true = refl
or_true false = refl

-- the work has passed it, or it has nothing to take
pub passed_here : (node : Node) (work : Work) (cs : List Channel) (place : ℕ) → place < length cs → is_passed work place ≡ true → is_passed_by node work place (drop place cs) ≡ is_passed_by node work (place + 1) (drop (place + 1) cs)
passed_here node work cs place h is =
    stepped node work cs place h
    ∙ (ap (λ (b : Bool). (is_empty (share node work.made place) || b) && is_passed_by node work (place + 1) (drop (place + 1) cs)) is
    ∙ ap (λ (b : Bool). b && is_passed_by node work (place + 1) (drop (place + 1) cs)) (or_true (is_empty (share node work.made place))))

-- the channel has nothing to take, and so the work goes past it
pub empty_here : (node : Node) (work : Work) (cs : List Channel) (place : ℕ) → place < length cs → is_empty (share node work.made place) ≡ true → is_passed_by node work place (drop place cs) ≡ is_passed_by node work (place + 1) (drop (place + 1) cs)
empty_here node work cs place h is = stepped node work cs place h ∙ ap (λ (b : Bool). (b || is_passed work place) && is_passed_by node work (place + 1) (drop (place + 1) cs)) is

-- it has something to take, and the work hasn't passed it
pub stops_here : (node : Node) (work : Work) (cs : List Channel) (place : ℕ) → place < length cs → is_empty (share node work.made place) ≡ false → is_passed work place ≡ false → is_passed_by node work place (drop place cs) ≡ false
stops_here node work cs place h some un_passed =
    stepped node work cs place h
    ∙ (ap (λ (b : Bool). (b || is_passed work place) && is_passed_by node work (place + 1) (drop (place + 1) cs)) some
    ∙ ap (λ (b : Bool). b && is_passed_by node work (place + 1) (drop (place + 1) cs)) un_passed)
