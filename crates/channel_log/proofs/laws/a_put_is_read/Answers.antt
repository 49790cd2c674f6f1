use Rattle.record_form.proofs.Pointed.{put_read}
use Rattle.channel_log.proofs.laws.a_put_is_read.Goals as goal

pub returns : goal.returns
returns c = put_read
