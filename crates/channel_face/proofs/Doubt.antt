-- Where a commit is in doubt, its flush was refused because the disk failed.
use Rattle.std.proofs.Common.{◌≡◌, ◌-◌, ◌+◌, ◌^◌, ℕ, List, [], ◌∷◌, ◌++◌, length, nat_lt, Option, Some, None, Err, Ok, Bool, true, false, cond, refl, sym, ◌∙◌, ap, subst}
use Rattle.event_core.specs.Content.{Content}
use Rattle.event_core.specs.declared.journal.Entry.{Entry}
use Rattle.event_core.specs.declared.journal.Entry.TheVariants.{Puts, Takes}
use Rattle.channel_face.specs.Token.{Token}
use Rattle.channel_face.specs.History.{AddsOne, IsRun, Opening, Step, opening, state_after}
use Rattle.channel_face.specs.Machine.{Admits, AdmitsFlush, Call, Flush, StagePut, StageTake, State, after, entry_of, next_number, or_else, puts_of, room_refusal, stage, stage_put_refusal, stage_take_refusal, takes_of}
use Rattle.channel_face.specs.declared.replies.Counter.TheVariants.{Number}
use Rattle.channel_face.specs.declared.replies.FlushRefused.{FlushRefused}
use Rattle.channel_face.specs.declared.replies.FlushRefused.TheVariants as FlushNo
use Rattle.channel_face.specs.declared.replies.StageCause.{StageCause}
use Rattle.channel_face.specs.declared.replies.StageCause.TheVariants as StageNo
use Rattle.channel_face.specs.declared.replies.Ticket.{Ticket}
use Rattle.channel_face.proofs.Adding.{run-last, state-push}

unless : (b : Bool) (other : Option StageCause) → cond b (Some StageNo.Broken) other ≡ None → b ≡ false
unless true other is = absurd (cc)
unless false other is = refl

put_whole : (s : State) (puts : Option (List Content)) → stage_put_refusal s puts ≡ None → s.broken ≡ false
put_whole s None is = absurd (cc)
put_whole s (Some events) is = unless s.broken _ is

take_whole : (s : State) (takes : Option (List ℕ)) → stage_take_refusal s takes ≡ None → s.broken ≡ false
take_whole s None is = absurd (cc)
take_whole s (Some numbers) is = unless s.broken _ is

stage_breaks_none : (number : ℕ) (entry : Option Entry) (s : State) → (stage number entry s).broken ≡ s.broken
stage_breaks_none number None s = refl
stage_breaks_none number (Some (Puts [])) s = refl
stage_breaks_none number (Some (Takes [])) s = refl
stage_breaks_none number (Some (Puts (e ∷ events))) s = refl
stage_breaks_none number (Some (Takes (n ∷ numbers))) s = refl

-- a channel that staged is whole
pub put_staged_whole : (tells : Bool) (token : Token) (ticket : Ticket) (s : State) → Admits tells s (StagePut token (Ok ticket)) → (after s (StagePut token (Ok ticket))).broken ≡ false
put_staged_whole tells token ticket s may = stage_breaks_none token.number (entry_of token.number s.opened) s ∙ put_whole s (puts_of s token) may.0

-- also where what it staged are takes
pub take_staged_whole : (tells : Bool) (token : Token) (ticket : Ticket) (s : State) → Admits tells s (StageTake token (Ok ticket)) → (after s (StageTake token (Ok ticket))).broken ≡ false
take_staged_whole tells token ticket s may = stage_breaks_none token.number (entry_of token.number s.opened) s ∙ take_whole s (takes_of s token) may.0

only_fault : (s : State) (e : FlushRefused) → s.broken ≡ false → AdmitsFlush s (Err e) → e ≡ FlushNo.DiskFault
only_fault s FlushNo.Broken whole may = absurd (let no = sym whole ∙ may in cc)
only_fault s FlushNo.DiskFault whole may = refl
only_fault s (FlushNo.Spent counter) whole may = absurd may

-- a flush that is refused after a stage is refused for a fault of the disk
pub flush_fault_behind : (tells tells' : Bool) (a b d : Opening → List Step → Type 0) (call : Call) (e : FlushRefused) (m m' : ℕ) → AddsOne a b call m → AddsOne b d (Flush (Err e)) m'
    → ((start : Opening) (h : List Step) → b start h → IsRun tells (opening start) h) → ((start : Opening) (h : List Step) → d start h → IsRun tells' (opening start) h)
    → ((s : State) → Admits tells s call → (after s call).broken ≡ false) → (start : Opening) (h : List Step) → a start h → e ≡ FlushNo.DiskFault
flush_fault_behind tells tells' a b d call e m m' first second law law' whole start h here =
    let one : Step = record { pass = 0; call = call; moment = m } in
    let two : Step = record { pass = 0; call = Flush (Err e); moment = m' } in
    let staged : b start (h ++ one ∷ []) = first start h 0 here in
    let flushed : d start ((h ++ one ∷ []) ++ two ∷ []) = second start (h ++ one ∷ []) 0 staged in
    let s : State = state_after (opening start) h in
    let may : Admits tells s call = run-last tells (opening start) h one (law start (h ++ one ∷ []) staged) in
    let then : AdmitsFlush (state_after (opening start) (h ++ one ∷ [])) (Err e) = run-last tells' (opening start) (h ++ one ∷ []) two (law' start ((h ++ one ∷ []) ++ two ∷ []) flushed) in
    only_fault (after s call) e (whole s may) (subst (λ (v : State). AdmitsFlush v (Err e)) (state-push (opening start) h one) then)
