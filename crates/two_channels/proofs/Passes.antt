-- A pass after calls of a channel of either kind.
use Rattle.std.proofs.Common.{◌≡◌, ℕ, List, Bool, Result, sym, subst}
use Rattle.channel_face.specs.History.{Opening, Step}
use Rattle.channel_face.specs.Machine.{Call}
use Rattle.channel_face.specs.declared.replies.OpenCause.{OpenCause}
use Rattle.shared_channel.specs.Calls.{Answers}
use Rattle.shared_channel.specs.Passes.{Known}
use Rattle.shared_channel.specs.Ports.{Later, later_none}
use Rattle.shared_channel.proofs.Porting.{later, mended_goes, one_call}
use Rattle.two_channels.specs.Shares.{MendsIn}
use Rattle.two_channels.specs.declared.shared.EitherShared.{EitherShared}
use Rattle.two_channels.specs.declared.shared.EitherShared.TheVariants as share

-- nothing of it changed but what its view says
unseen : (p q : Known) → (q.table_id ≡ p.table_id) × (q.number ≡ p.number) → q.view ≡ p.view → Later p q
unseen p q same view = subst (λ (x : Known). Later p x) (λ i. record { table_id = sym same.0 i; number = sym same.1 i; view = sym view i }) (later_none p)

-- the same pass after a mend
pub mend_later : {A B : Type 0} (disk : A → Opening → List Step → Type 0) (tells : A → Bool) (moment : A → ℕ) (s : EitherShared A B) (p q : Known) (result : Result Bool OpenCause) → (q.table_id ≡ p.table_id) × (q.number ≡ p.number) → MendsIn disk tells moment s p.view p.number result q.view → Later p q
mend_later disk tells moment (share.Disk s) p q result same m = later p q (λ earlier more. Unit {0}) same (mended_goes disk tells moment p.view q.view p.number result m)
mend_later disk tells moment (share.Memory s) p q result same m = unseen p q same m.0

-- after one call
pub answered_later : {A : Type 0} (stands : A → Opening → List Step → Type 0) (tells : A → Bool) (moment : A → ℕ) (spent : Bool) (call : Call) (p q : Known) → (q.table_id ≡ p.table_id) × (q.number ≡ p.number) → Answers stands tells moment spent p.view p.number call q.view → Later p q
answered_later stands tells moment spent call p q same a =
    let f = one_call stands tells moment spent p.view q.view p.number call a in
    later p q (λ earlier more. Unit {0}) same (f.0, f.1, tt)
