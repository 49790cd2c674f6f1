use Rattle.avro_requests.proofs.Carrying.{all_requested}
use Rattle.avro_requests.proofs.laws.requests_are_on_links.Goals as goal

pub returns : goal.returns
returns g c = λ links troubles told faults done s t none fresh all. all_requested links troubles told faults done s t none fresh all
