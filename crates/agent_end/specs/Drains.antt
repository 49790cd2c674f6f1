-- A sink that empties its channel: runs one after the other, each where a look found events left.
use Rattle.std.specs.Prelude.{◌≡◌, ◌<◌, ◌≤◌, ℕ, List, [], ◌∷◌, length, Bool, true, false}
use Rattle.channel_face.specs.Faces.{Gains}
use Rattle.channel_face.specs.Keeps.{IsLook}
use Rattle.sink_runner.specs.declared.turn.Turn.{Turn}
use Rattle.sink_runner.specs.declared.turn.Turn.TheVariants.{Delivered}
use Rattle.sink_worker.specs.Rounds.{Face, Taking}
use Rattle.agent_end.specs.declared.draining.ChannelDrain.{ChannelDrain}
use Rattle.agent_end.specs.declared.draining.ChannelDrain.TheVariants.{Emptied, Stopped}

-- a look at the channel found so many events left; it is no call
pub record LooksOnce {F : Type 0} (face : Face F) {S : Type 0} (old : Taking F S) (size : ℕ) (new : Taking F S) : Type 0 where
  pub later : face.seen old.from ≤ face.seen new.from
  pub same : face.kept old.from new.from
  pub sink : new.sink ≡ old.sink
  pub moments : new.moments ≡ old.moments
  pub calls : Gains (face.own old.from) (face.own new.from) (IsLook (face.saw new.from) (λ s. size ≡ length s.items))

abbrev pub is_delivery : Turn → Bool
is_delivery (Delivered count) = true
is_delivery turn = false

module _ {P : Type 0} (Turns : P → Turn → P → Type 0) (Looks : P → ℕ → P → Type 0) where
  -- a look found events left, and then the sink was run
  abbrev pub RunsOnEvents : P → Turn → P → Type 0
  RunsOnEvents old turn new = (size : ℕ) × (between : P) × (0 < size) × Looks old size between × Turns between turn new

  -- such runs one after the other, which delivered so many events each
  abbrev pub Deliveries : List ℕ → P → P → Type 0
  Deliveries [] old new = new ≡ old
  Deliveries (count ∷ counts) old new = (next : P) × RunsOnEvents old (Delivered count) next × Deliveries counts next new

  -- no event was left, or a run did not deliver
  abbrev pub EndsDrain : ChannelDrain → P → P → Type 0
  EndsDrain Emptied old new = Looks old 0 new
  EndsDrain (Stopped turn) old new = (is_delivery turn ≡ false) × RunsOnEvents old turn new

  -- The sink was run while events were left, up to its first run that did not deliver.
  pub record Drains (end : ChannelDrain) (old new : P) : Type 0 where
    pub counts : List ℕ
    pub between : P
    pub deliveries : Deliveries counts old between
    pub ends : EndsDrain end between new
