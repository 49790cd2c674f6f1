use Rattle.avro_hop.proofs.Fitting.{fits_pack}
use Rattle.avro_hop.proofs.ask.asking_fits.Goals as goal

pub returns : goal.returns
returns c = fits_pack
