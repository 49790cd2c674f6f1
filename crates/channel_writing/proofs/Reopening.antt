-- A channel that is opened, and one that is opened anew.
use Rattle.std.proofs.Common.{◌⊎◌, inl, inr, ◌≡◌, ◌<◌, ◌-◌, ◌^◌, ℕ, Option, Some, Result, Ok, Err, IfErr, Bool, true, false, refl, sym, ◌∙◌, ap, subst, arith}
use Rattle.flume_host.specs.Folder.{Files}
use Rattle.flume_host.specs.Told.{LeavesOnly, Tells, Told}
use Rattle.flume_host.proofs.Telling.{tells_more, tells_same}
use Rattle.flume_host.proofs.Moments.{started}
use Rattle.event_core.specs.Journal.{Base, IsBase, after_journal}
use Rattle.channel_log.specs.Writer.{Writer}
use Rattle.channel_face.specs.History.{Moves, Opening, opening}
use Rattle.channel_face.specs.Machine.{Admits, Front, Read, Reopen, Reopened, State, after_reopen, base_of, broken_state}
use Rattle.channel_face.specs.declared.replies.Counter.TheVariants.{Life}
use Rattle.channel_face.specs.declared.replies.Kind.TheVariants.{File as OnFile}
use Rattle.channel_face.specs.declared.replies.OpenCause.{OpenCause}
use Rattle.channel_face.specs.declared.replies.OpenCause.TheVariants as causes
use Rattle.channel_face.proofs.LawLemmas.{sound_opening}
use Rattle.channel_face.proofs.Numbers.{rising_base}
use Rattle.channel_face.specs.Sound.{IsSoundState}
use Rattle.channel_writing.specs.Folders.{IsAsBefore, IsOfFile, OpensOver}
use Rattle.channel_writing.specs.Written.{IsFresh, IsLogged, MayRecover, MayRest, Waits}
use Rattle.channel_writing.specs.Whole.{IsWhole}
use Rattle.channel_writing.proofs.Flushing.{rest_recovers}
use Rattle.channel_writing.proofs.Opening.{EitherImage, ReadsAreLeft, as_before_opens, only_more}

differ : {A : Type 0} → true ≡ false → A
differ is = absurd (cc)

-- opened

-- a channel that was opened has nothing open or staged
pub opened_fresh : (s : State) (o : Opening) → s ≡ opening o → IsFresh s o.base o.txn
opened_fresh s o is = rw is (record { base_is = refl; txn_is = refl; opened = refl; staged = refl })

-- a channel that was opened, and whose log has it, is whole
pub opened_whole : (told : Option Told) (w : Writer) (b : ℕ) (s : State) (o : Opening) → s ≡ opening o → o.rules.kind ≡ OnFile → IsBase o.base → IsLogged told w b s → IsWhole told w b s
opened_whole told w b s o is kind base log = record {
  logged = λ _. log;
  left = λ broken. differ (sym broken ∙ ap (λ (v : State). v.broken) is);
  sound = subst IsSoundState (sym is) (sound_opening o base);
  kind = ap (λ (v : State). v.rules.kind) is ∙ kind;
}

-- what a crash may leave before

-- a crash leaves of a whole channel what may be recovered to
pub whole_may_rest : (told : Option Told) (w : Writer) (b : ℕ) (s : State) → IsWhole told w b s → MayRest told s
whole_may_rest told w b s whole = by_broken s.broken refl
  where
    by_broken : (broken : Bool) → s.broken ≡ broken → MayRest told s
    by_broken true is = whole.left is
    by_broken false is = λ t told_is image are.
        let waits : Waits told w s = (whole.logged is).waits is in
        rest_recovers t w s waits.records image (waits.disk t told_is) are

-- where nothing is called, a crash leaves what it could
pub rests_still : (told : Option Told) (s : State) → MayRest told s → Tells told told (λ t u. LeavesOnly t u (MayRecover s))
rests_still told s rests = tells_same told (λ t u. LeavesOnly t u (MayRecover s)) (λ t is. started t (MayRecover s) (rests t is))

may_recover_as : (s : State) (files image : Files) → IsAsBefore files image → MayRecover s files → MayRecover s image
may_recover_as s files image as_before (n, low, inl found) = (n, low, inl (as_before_opens files image (base_of s) n as_before found))
may_recover_as s files image as_before (n, low, inr found) = (n, low, inr (as_before_opens files image (after_journal (base_of s) s.staged) n as_before found))

-- while a channel is opened anew, a crash leaves what may be recovered to
pub opens_leaves : (told told' : Option Told) (s : State) → MayRest told s → ReadsAreLeft told → Tells told told' OpensOver → Tells told told' (λ t u. LeavesOnly t u (MayRecover s))
opens_leaves told told' s rests reads tells = tells_more told told' OpensOver (λ t u. LeavesOnly t u (MayRecover s)) over tells
  where
    over : (t u : Told) → told ≡ Some t → told' ≡ Some u → OpensOver t u → LeavesOnly t u (MayRecover s)
    over t u old new run = only_more t u (EitherImage t) (MayRecover s) maps run
      where
        maps : (image : Files) → EitherImage t image → MayRecover s image
        maps image (inl are) = rests t old image are
        maps image (inr as_before) = may_recover_as s t.reads image as_before (rests t old t.reads (reads t old))

-- opened anew

abbrev pub renewal : Base → ℕ → Reopened
renewal base txn = record { kept = Read base; txn = txn }

-- a channel that was opened anew has nothing open or staged
pub renewed_fresh : (s s' : State) (base : Base) (txn : ℕ) → s' ≡ after_reopen s (Ok (renewal base txn)) → IsFresh s' base txn
renewed_fresh s s' base txn is = rw is (record { base_is = refl; txn_is = refl; opened = refl; staged = refl })

-- a channel that was opened anew, and whose log has it, is whole
pub renewed_whole : (told : Option Told) (w : Writer) (b : ℕ) (s s' : State) (base : Base) (txn : ℕ) → s' ≡ after_reopen s (Ok (renewal base txn)) → s.rules.kind ≡ OnFile → IsBase base → IsLogged told w b s' → IsWhole told w b s'
renewed_whole told w b s s' base txn is kind rises log = record {
  logged = λ _. log;
  left = λ broken. differ (sym broken ∙ ap (λ (v : State). v.broken) is);
  sound = subst IsSoundState (sym is) (record { rising = rising_base base rises; held = λ n. omega arith; numbered = tt; staged = tt });
  kind = ap (λ (v : State). v.rules.kind) is ∙ kind;
}

-- a refusal

refused_admits : (tells : Bool) (s : State) (e : OpenCause) → s.life < 2 ^ 64 - 1 → s.rules.kind ≡ OnFile → IsOfFile e → Admits tells s (Reopen (Err e))
refused_admits tells s causes.DiskFault life kind counter = (life, kind)
refused_admits tells s (causes.BadCheck file at) life kind counter = (life, kind)
refused_admits tells s (causes.BadLog file at) life kind counter = (life, kind)
refused_admits tells s (causes.OverCapacity count) life kind counter = (life, kind)
refused_admits tells s (causes.Spent c) life kind counter = (inr (counter, life), kind)
refused_admits tells s causes.NoMemory life kind counter = (tt, kind)

-- an opening anew that was refused breaks the channel
pub refused_moves : (tells : Bool) (s s' : State) (e : OpenCause) → s.life < 2 ^ 64 - 1 → s.rules.kind ≡ OnFile → IsOfFile e → s' ≡ broken_state s → (kept : Reopened) × Moves tells s (Reopen (Err e)) s'
refused_moves tells s s' e life kind counter is = (record { kept = Front 0; txn = 0 }, record { admitted = refused_admits tells s e life kind counter; state = is })

-- an opening anew is refused where the channel's lives are spent
pub spent_moves : (tells : Bool) (s s' : State) → s.life ≡ 2 ^ 64 - 1 → s.rules.kind ≡ OnFile → s' ≡ broken_state s → (kept : Reopened) × Moves tells s (Reopen (Err (causes.Spent Life))) s'
spent_moves tells s s' life kind is = (record { kept = Front 0; txn = 0 }, record { admitted = (inl (refl, life), kind); state = is })

-- the causes of a refusal, each with more known
pub refused_as : (r : Result (Unit {0}) OpenCause) (A B : OpenCause → Type 0) (X Y Z : Type 0) → (X → Y) → (X → Z) → IfErr r (λ e. (A e × X) ⊎ B e) → IfErr r (λ e. (A e × Y × Z) ⊎ B e)
refused_as (Ok done) A B X Y Z y z refused = refused
refused_as (Err e) A B X Y Z y z (inl spent) = inl (spent.0, y spent.1, z spent.1)
refused_as (Err e) A B X Y Z y z (inr other) = inr other
