-- Which refusals of a machine's calls are its state's.
use Rattle.std.specs.Prelude.{Bool, true, false}
use Rattle.channel_face.specs.declared.replies.BeginRefused.{BeginRefused}
use Rattle.channel_face.specs.declared.replies.BeginRefused.TheVariants as Begin
use Rattle.channel_face.specs.declared.replies.PutRefused.{PutRefused}
use Rattle.channel_face.specs.declared.replies.PutRefused.TheVariants as PutNo
use Rattle.channel_face.specs.declared.replies.TakeRefused.{TakeRefused}
use Rattle.channel_face.specs.declared.replies.TakeRefused.TheVariants as TakeNo

abbrev pub is_begin_refusal : BeginRefused → Bool
is_begin_refusal Begin.NoMemory = false
is_begin_refusal refused = true

abbrev pub is_put_refusal : PutRefused → Bool
is_put_refusal PutNo.NoMemory = false
is_put_refusal PutNo.DiskFault = false
is_put_refusal (PutNo.Spent counter) = false
is_put_refusal refused = true

abbrev pub is_take_refusal : TakeRefused → Bool
is_take_refusal TakeNo.Stale = true
is_take_refusal TakeNo.Broken = true
is_take_refusal (TakeNo.TxnFull count) = true
is_take_refusal refused = false
