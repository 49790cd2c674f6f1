-- What a packet stands for.
use Rattle.std.specs.Prelude.{ℕ}
use Rattle.world_laws.specs.World.{Tag, Packet}
use Rattle.hop_core.specs.declared.packets.Body.{Body}
use Rattle.hop_core.specs.declared.packets.Body.TheVariants as Has

abbrev pub packet_of : ℕ → Tag → Body → Packet
packet_of node tag (Has.Request batch) = Packet.Request node tag batch
packet_of node tag (Has.Reply place) = Packet.Reply tag node place
