use Rattle.std.proofs.Common.{◌≡◌, ◌+◌, length, ap, arith}
use Rattle.shared_channel.specs.Passes.{new_passes}
use Rattle.agent_channels.proofs.Opening.{length_new}
use Rattle.agent_channels.proofs.sharing.share.Goals as goal

pub part-home-requires : goal.part-home-requires
part-home-requires g c =
    let n : length (new_passes c.in-Ok.shared.turn.table.shared.table_id g.start (c.args.users + 1) (c.args.users + 1)) ≡ c.args.users + 1 = length_new _ _ _ _ in
    let e = ap length c.in-Ok.ensures.shared in
    omega (arith, e, n)
