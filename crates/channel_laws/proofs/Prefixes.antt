-- What a pass saw is a fact of each history that begins with what it has seen.
use Rattle.std.proofs.Common.{◌≤◌, ℕ, List, ◌++◌, length, length-append, sym, ◌∙◌, ap, append_assoc, arith}
use mathlib.Core.List.{IsPrefix}
use Rattle.channel_face.specs.Machine.{State}
use Rattle.channel_face.specs.History.{Opening, Step}
use Rattle.channel_face.specs.Faces.{Own}
use Rattle.channel_lock.specs.Views.{View}
use Rattle.shared_channel.specs.Ports.{Saw, Stood}

-- a front of a front
pub front_then : (a b c : List Step) → IsPrefix a b → IsPrefix b c → IsPrefix a c
front_then a b c x y = (x.0 ++ y.0, sym (append_assoc a x.0 y.0) ∙ ap (λ (l : List Step). l ++ y.0) x.1 ∙ y.1)

-- a front is no longer
pub front_few : (a b : List Step) → IsPrefix a b → length a ≤ length b
front_few a b x = omega (arith, length-append a x.0, ap (λ (l : List Step). length l) x.1)

-- the state in which a pass left the channel is one at a front of what begins with what the pass has seen
pub stood : {C : Type 0} (stands : C → Opening → List Step → Type 0) (v : View) (h : List Step) → IsPrefix v.seen h → (own : List Own) (s : State) → Saw stands v own s → Stood v.base h v.numbers own s
stood stands v h begins own s saw = (v.seen, begins, saw.own_all, saw.state)
