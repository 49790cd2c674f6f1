-- What a checkpoint and a prune leave, in the words of a durable channel.
use Rattle.std.proofs.Common.{◌≡◌, ℕ, Option, Some, None, IfSome, Result, Ok, Err, OnOk, sym, subst}
use Rattle.flume_host.specs.Told.{Told, WhereTold}
use Rattle.channel_face.specs.Machine.{State}
use Rattle.checkpoint_opening.specs.declared.opening.NewestCheck.{NewestCheck}
use Rattle.file_channel.specs.Laid.{HasLaid, IsLaid}
use Rattle.file_channel.specs.Pruned.{IsPruned, IsPrunedBy}

on_ok : {T E A B : Type 0} (reply : Result T E) → (A → B) → OnOk reply A → OnOk reply B
on_ok (Ok done) then so = then so
on_ok (Err refused) then so = tt

-- a checkpoint that was laid under this number was laid
pub has_laid : {T E : Type 0} (told : Option Told) (number : ℕ) (reply : Result T E) (s : State) → OnOk reply (WhereTold told (IsLaid number s)) → OnOk reply (WhereTold told (HasLaid s))
has_laid told number reply s = on_ok reply (λ laid t is. (number, laid t is))

where_told : (told : Option Told) (laid : Option NewestCheck) → IfSome laid (λ named. WhereTold told (λ t. IsPruned t.reads named)) → WhereTold told (IsPrunedBy laid)
where_told told None gone t is = tt
where_told told (Some named) gone t is = gone t is

-- what a prune left of old files, by the newest checkpoint that the channel knows after it
pub pruned_by : {T E : Type 0} (told : Option Told) (reply : Result T E) (old new : Option NewestCheck) → new ≡ old → OnOk reply (IfSome old (λ named. WhereTold told (λ t. IsPruned t.reads named))) → OnOk reply (WhereTold told (IsPrunedBy new))
pruned_by told reply old new same =
    on_ok reply (λ gone. subst (λ (laid : Option NewestCheck). WhereTold told (IsPrunedBy laid)) (sym same) (where_told told old gone))
