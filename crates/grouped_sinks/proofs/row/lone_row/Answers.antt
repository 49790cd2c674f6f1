use Rattle.std.proofs.Common.{rules, length, refl}
use Rattle.std.proofs.lemmas.Option.{slice_get_read}
use Rattle.grouped_sinks.proofs.row.lone_row.Goals as goal

pub returns : goal.returns
returns c = record {
  sink = c.index-sinks-place.result;
  here = slice_get_read c.args.sinks.now (length c.args.sinks.now) c.args.place c.index-sinks-place.result refl c.requires c.index-sinks-place.is;
  component = search rules;
  channel = c.channel_at.ensures;
  batch = c.batch_at.ensures;
  places = c.in_ok-places.ensures.items;
  alone = refl;
}
