use Rattle.checkpoint.proofs.Spooling.{adds_more}
use Rattle.checkpoint.proofs.writing.add_one.Goals as goal

pub returns-clause-added : goal.returns-clause-added
returns-clause-added g c = adds_more c.args.number _ _ _ _ _ _ c.in_ok-next.ensures.same c.put_live.ensures.items
