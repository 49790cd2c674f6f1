-- A port of a channel of either kind, as its faces see it.
use Rattle.std.specs.Prelude.{ℕ, List, length}
use Rattle.channel_face.specs.Faces.{Own}
use Rattle.channel_face.specs.History.{Opening, Step}
use Rattle.channel_face.specs.Machine.{State}
use Rattle.channel_lock.specs.Views.{View}
use Rattle.shared_channel.specs.Passes.{Known}
use Rattle.shared_channel.specs.Ports.{AreOwned, Later, Saw, later_none, later_then}
use Rattle.two_channels.specs.declared.port.EitherPort.{EitherPort}
use Rattle.two_channels.specs.declared.port.EitherPort.TheVariants.{Disk, Memory}

module _ {R A B : Type 0} where
  abbrev pub pass_of : EitherPort R A B → Known
  pass_of (Disk port) = port.pass
  pass_of (Memory port) = port.pass

  -- the channel is on a disk
  abbrev pub IsOnDisk : EitherPort R A B → Type 0
  IsOnDisk (Disk port) = Unit {0}
  IsOnDisk (Memory port) = ⊥

  -- what it saw of its channel
  abbrev pub SawIn : (A → Opening → List Step → Type 0) → (B → Opening → List Step → Type 0) → EitherPort R A B → List Own → State → Type 0
  SawIn disk memory (Disk port) = Saw disk port.pass.view
  SawIn disk memory (Memory port) = Saw memory port.pass.view

  -- The channel is on a disk, and this is so of what was seen of it.
  abbrev pub SawOnDisk : (View → Type 0) → EitherPort R A B → Type 0
  SawOnDisk P (Disk port) = P port.pass.view
  SawOnDisk P (Memory port) = ⊥

  -- the same port after some calls
  abbrev pub LaterPort : EitherPort R A B → EitherPort R A B → Type 0
  LaterPort (Disk p) (Disk q) = Later p.pass q.pass
  LaterPort (Memory p) (Memory q) = Later p.pass q.pass
  LaterPort p q = ⊥

  abbrev pub own_of : EitherPort R A B → Opening → List Step → List Own → Type 0
  own_of p = AreOwned (pass_of p).view

  abbrev pub seen_of : EitherPort R A B → ℕ
  seen_of p = length (pass_of p).view.seen

  -- no call
  pub later_port_none : (p : EitherPort R A B) → LaterPort p p
  later_port_none (Disk p) = later_none p.pass
  later_port_none (Memory p) = later_none p.pass

  -- calls after calls
  pub later_port_then : (p q r : EitherPort R A B) → LaterPort p q → LaterPort q r → LaterPort p r
  later_port_then (Disk p) (Disk q) (Disk r) f g = later_then p.pass q.pass r.pass f g
  later_port_then (Disk p) (Disk q) (Memory r) f g = absurd g
  later_port_then (Disk p) (Memory q) r f g = absurd f
  later_port_then (Memory p) (Disk q) r f g = absurd f
  later_port_then (Memory p) (Memory q) (Disk r) f g = absurd g
  later_port_then (Memory p) (Memory q) (Memory r) f g = later_then p.pass q.pass r.pass f g
