-- The worked world, computed.
use Rattle.std.proofs.Common.{◌≡◌, ◌++◌, ◌∷◌, [], ℕ, zero, suc, List, slice_get, Some, None, Bool, refl, subst}
use Rattle.event_core.specs.Content.{event_bytes}
use Rattle.event_core.specs.Numbers.{u32_bytes}
use Rattle.world_laws.specs.World.{Channel, Node, live}
use Rattle.world_laws.specs.Steps.{Reply}
use Rattle.world_laws.specs.Held.{AtNode}
use Rattle.world_laws.specs.New.{IsNewChannel, IsNewNode, IsNew}
use Rattle.world_laws.specs.Rows.{small, agent, start, twice, committed, LeadsTo, AreTwo, IsTwiceThere, CallsAreItsSteps}
use Rattle.world_laws.proofs.Lists.{same_some, no_some}

new_agent : (later : List ℕ) (last : Bool) → IsNewNode (agent later last)
new_agent later last = record { acks = refl; outputs = refl; works = refl; attempts = refl; channels = channels }
  where
    channels : (place : ℕ) (c : Channel) → slice_get (agent later last).channels place ≡ Some c → IsNewChannel c
    channels zero c is = subst IsNewChannel (same_some _ c is) (record { start = small; empty = refl; kind = refl; state = refl; journal = refl; named = refl })
    channels (suc place) c is = absurd (no_some c is)

-- the worked world is new at the start
pub begins : IsNew start
begins = record { sent = refl; nodes = nodes }
  where
    nodes : (n : ℕ) (node : Node) → AtNode start n node → IsNewNode node
    nodes zero node is = subst IsNewNode (same_some _ node is) (new_agent (1 ∷ []) _)
    nodes (suc zero) node is = subst IsNewNode (same_some _ node is) (new_agent [] _)
    nodes (suc (suc n)) node is = absurd (no_some node is)

-- after a lost reply and a second delivery the event is there twice, and the take is committed
pub twice_there : LeadsTo (Some start) (twice ++ committed) (AreTwo IsTwiceThere)
unfolding event_bytes u32_bytes
twice_there = (_, _, refl, record { first_acks = refl; second_acks = refl; first_has = (_, refl, refl, refl, refl); second_has = (_, refl, refl, refl) })

-- with the first reply in place of the second the attempt has ended
pub rolled_back : LeadsTo (Some start) (twice ++ Reply 0 1 3 ∷ []) (AreTwo (λ first second. live first.attempts 1 ≡ None))
unfolding event_bytes u32_bytes
rolled_back = (_, _, refl, refl)

-- the first agent's calls are its steps of the worked world
pub its_steps : CallsAreItsSteps
its_steps = record {
  batch = ((([], _, refl, tt, tt), tt), refl);
  sink_run = (tt, refl, (([], _, refl, tt, tt), tt), refl);
}
