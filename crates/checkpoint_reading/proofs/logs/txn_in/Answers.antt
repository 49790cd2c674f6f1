use Rattle.record_form.proofs.Pointed.{none_unread}
use Rattle.checkpoint_reading.proofs.Naming.{put_rec}
use Rattle.checkpoint_reading.proofs.logs.txn_in.Goals as goal

pub returns-in_default : goal.returns-in_default
returns-in_default c = record {
  put = λ p zero long. none_unread c.args.bytes.now c.read_record.result c.read_record.ensures c.in_default.not-Whole p zero;
  memory = tt;
}

pub returns-in-Ok-clause-put : goal.returns-in-Ok-clause-put
returns-in-Ok-clause-put c = λ p zero long. put_rec c.args.bytes.now c.in-Ok.rec p c.args.length c.txn_of.result c.in-Ok.ensures.read c.in-Ok.ensures.spelled zero long c.txn_of.ensures
