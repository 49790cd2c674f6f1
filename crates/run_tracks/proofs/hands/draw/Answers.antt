use Rattle.run_tracks.proofs.Handing.{drawn}
use Rattle.run_tracks.proofs.hands.draw.Goals as goal

pub returns : goal.returns
returns c =
    drawn c.args.hands.now c.args.place c.index-hands-place.result c.pop.new.self c.in-Some.pass c.requires.there c.in-Some.ensures.items
