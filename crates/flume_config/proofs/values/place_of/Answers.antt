use Rattle.std.proofs.Common.{◌∙◌, sym}
use Rattle.flume_config.proofs.Placing.{place_found, place_missing}
use Rattle.flume_config.proofs.values.place_of.Goals as goal

pub returns-in-Some : goal.returns-in-Some
returns-in-Some c = place_found c.args.name.now c.args.names.now.keys c.in-Some.place (sym c.in-Some.is ∙ c.get_index_of.ensures.index)

pub returns-in-None : goal.returns-in-None
returns-in-None c = c.len.ensures.len ∙ place_missing c.args.name.now c.args.names.now.keys (sym c.in-None.is ∙ c.get_index_of.ensures.index)
