use Rattle.std.proofs.Common.{◌∙◌, List, [], ◌∷◌, ◌++◌, Option, refl, string_bytes, sym, ap, subst}
use Rattle.shared_channel.specs.Passes.{Known}
use Rattle.agent_run.specs.PipeRan.{IsChannelOf}
use Rattle.run_opening.specs.declared.channel_end.ChannelEnd.{ChannelEnd}
use Rattle.agent_run.proofs.run.listed.Goals as goal

pub returns : goal.returns
returns c =
    let end : ChannelEnd = record { name = c.args.dir; pass = c.in-Some.pass; workers = c.new.result } in
    let one = c.push_reserved.ensures.items ∙ ap (λ (l : List ChannelEnd). l ++ end ∷ []) c.requires.none in
    subst (λ (p : Option Known). IsChannelOf (string_bytes c.args.dir) p c.push_reserved.new.self.items) (sym c.in-Some.is) (end, one, refl, refl, c.new.ensures.items)
