use Rattle.file_channel.proofs.Images.{in_each_image}
use Rattle.file_channel.proofs.laws.an_event_stands_in_each_image.Goals as goal

pub returns : goal.returns
returns c = in_each_image
