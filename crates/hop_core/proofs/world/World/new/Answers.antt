use Rattle.std.proofs.Common.{◌≡◌, sym, subst}
use Rattle.std.proofs.lemmas.Result.{IfOk-weaker}
use Rattle.world_laws.specs.World.{World}
use Rattle.world_laws.specs.Held.{Held}
use Rattle.world_laws.specs.New.{IsNew}
use Rattle.hop_core.specs.Start.{new_world}
use Rattle.hop_core.proofs.Starts.{world_is_new}
use Rattle.hop_core.proofs.world.World.new.Goals as goal

pub returns-clause-begins : goal.returns-clause-begins
returns-clause-begins c =
    IfOk-weaker c.made.result (λ (w : World). w ≡ new_world c.args.plan) IsNew (λ w same. subst IsNew (sym same) (world_is_new c.args.plan)) c.made.ensures

pub returns-clause-held : goal.returns-clause-held
returns-clause-held c =
    let start = new_world c.args.plan in
    IfOk-weaker c.made.result (λ (w : World). w ≡ start) Held (λ w same. subst Held (sym same) (c.new_is_held.ensures start (world_is_new c.args.plan))) c.made.ensures
