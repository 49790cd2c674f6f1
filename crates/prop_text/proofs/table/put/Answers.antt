use Rattle.std.proofs.Common.{ap, ◌∙◌}
use Rattle.prop_text.specs.Table.{pairs_in}
use Rattle.prop_text.proofs.TableSteps.{insert_pairs}
use Rattle.prop_text.proofs.table.put.Goals as goal

pub returns : goal.returns
returns c = ap pairs_in c.in_ok-insert.ensures.entries ∙ insert_pairs c.args.table.now.entries c.args.key c.args.entry
