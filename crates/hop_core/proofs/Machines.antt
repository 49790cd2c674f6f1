-- What the calls of a machine are in a step of the world.
use Rattle.std.proofs.Common.{◌≡◌, ◌∙◌, ◌∷◌, ◌+◌, [], ℕ, List, drop, zero, suc, Option, Some, None, Ok, Err, Bool, true, false, refl, ap, sym, arith}
use Rattle.std.proofs.lemmas.List.{append-nil}
use Rattle.std.specs.List.{slice_get}
use Rattle.event_core.specs.Content.{Content}
use Rattle.channel_face.specs.Token.{Token}
use Rattle.channel_face.specs.Machine.{State, Put, Take, puts_of, put_refusal, take_refusal, begin_refusal, after_put, add_put, add_take, free, settle_if, takes_of, AdmitsPut, AdmitsTake, AdmitsBegin}
use Rattle.channel_face.specs.History.{Moves}
use Rattle.channel_face.specs.declared.replies.Put.{Put as PutDone}
use Rattle.channel_face.specs.declared.replies.PutRefused.{PutRefused}
use Rattle.channel_face.specs.declared.replies.PutRefused.TheVariants as PutNo
use Rattle.channel_face.specs.declared.replies.Taken.{Taken}
use Rattle.channel_face.specs.declared.replies.TakeRefused.{TakeRefused}
use Rattle.channel_face.specs.declared.replies.TakeRefused.TheVariants as TakeNo
use Rattle.channel_face.specs.declared.replies.BeginRefused.{BeginRefused}
use Rattle.channel_face.specs.declared.replies.BeginRefused.TheVariants as Begin
use Rattle.txn_core.specs.Shadow.{Journaled, Journals}
use Rattle.world_laws.specs.Channels.{put_all}
use Rattle.hop_core.specs.Refusals.{is_begin_refusal, is_put_refusal, is_take_refusal}

-- the refusals are those of the state

-- a begin is refused as the state says, except when out of memory
pub begin_refused : (s : State) (refused : BeginRefused) → AdmitsBegin s (Err refused) → is_begin_refusal refused ≡ true → begin_refusal s ≡ Some refused
begin_refused s Begin.NoMemory h is = absurd (cc)
begin_refused s Begin.Broken h is = h
begin_refused s (Begin.TooManyOpen held) h is = h
begin_refused s (Begin.Spent counter) h is = h

-- a put is refused as the state says, unless memory, the disk or a count is the cause
pub put_refused : (s : State) (puts : Option (List Content)) (e : Content) (refused : PutRefused) → AdmitsPut s puts e (Err refused) → is_put_refusal refused ≡ true → put_refusal s puts e ≡ Some refused
put_refused s puts e PutNo.NoMemory h is = absurd (cc)
put_refused s puts e PutNo.DiskFault h is = absurd (cc)
put_refused s puts e (PutNo.Spent counter) h is = absurd (cc)
put_refused s puts e PutNo.Stale h is = h
put_refused s puts e PutNo.Broken h is = h
put_refused s puts e (PutNo.TxnFull count) h is = h
put_refused s puts e (PutNo.TooLarge size) h is = h
put_refused s puts e (PutNo.Full count) h is = h

-- a take of a stale token, a broken channel or a full transaction is refused as the state says
pub take_refused : (s : State) (takes : Option (List ℕ)) (refused : TakeRefused) → AdmitsTake true s takes (Err refused) → is_take_refusal refused ≡ true → take_refusal s takes ≡ Some refused
take_refused s takes TakeNo.Stale h is = h
take_refused s takes TakeNo.Broken h is = h
take_refused s takes (TakeNo.TxnFull count) h is = h
take_refused s takes TakeNo.NoMemory h is = absurd (cc)
take_refused s takes TakeNo.DiskFault h is = absurd (cc)
take_refused s takes TakeNo.ReadFault h is = absurd (cc)
take_refused s takes (TakeNo.Damaged kept found) h is = absurd (cc)
take_refused s takes (TakeNo.Spent counter) h is = absurd (cc)

-- a put that was done goes on with the others, and one that is refused ends them

-- a put that was done without a spill goes on with the others
pub put_goes_on : (s s' : State) (token : Token) (e : Content) (events : List Content) (done : PutDone) → Moves true s (Put token e (Ok done)) s' → done.spilled ≡ false → put_all s token (e ∷ events) ≡ put_all s' token events
put_goes_on s s' token e events done moves spills =
    let next : s' ≡ after_put s token (puts_of s token) e (Ok (record { spilled = false })) = moves.state ∙ ap (λ (b : Bool). add_put (settle_if b s) token.number (puts_of s token) e) spills in
    rw (moves.admitted.0) (ap (λ (t : State). put_all t token events) (sym next))

-- a put that the state refuses ends them all
pub put_ends : (s s' : State) (token : Token) (e : Content) (events : List Content) (refused : PutRefused) → Moves true s (Put token e (Err refused)) s' → is_put_refusal refused ≡ true → put_all s token (e ∷ events) ≡ None
put_ends s s' token e events refused moves is = rw (put_refused s (puts_of s token) e refused moves.admitted is) refl

-- a put without a spill leaves the journal as it was
pub put_kept : (old new : Journaled) (token : Token) (e : Content) (done : PutDone) → Journals old (Put token e (Ok done)) new → done.spilled ≡ false → new.journal ≡ old.journal
put_kept old new token e done j spills = j.journal ∙ (rw spills (append-nil old.journal))

settled_rules : (b : Bool) (s : State) → (settle_if b s).rules ≡ s.rules
settled_rules true s = refl
settled_rules false s = refl

added_rules : (s : State) (number : ℕ) (puts : Option (List Content)) (e : Content) → (add_put s number puts e).rules ≡ s.rules
added_rules s number None e = refl
added_rules s number (Some events) e = refl

-- a put leaves the rules as they are
pub put_rules : (s s' : State) (token : Token) (e : Content) (done : PutDone) → Moves true s (Put token e (Ok done)) s' → s'.rules ≡ s.rules
put_rules s s' token e done moves = ap (λ (t : State). t.rules) moves.state ∙ (added_rules (settle_if done.spilled s) token.number (puts_of s token) e ∙ settled_rules done.spilled s)

more_rules : (s : State) (number : ℕ) (takes : Option (List ℕ)) (items : List (ℕ × Content)) → (add_take s number takes items).rules ≡ s.rules
more_rules s number None items = refl
more_rules s number (Some numbers) [] = refl
more_rules s number (Some numbers) (item ∷ items) = refl

-- a take leaves the rules as they are
pub take_rules : (s s' : State) (token : Token) (done : Taken) → Moves true s (Take token (Ok done)) s' → s'.rules ≡ s.rules
take_rules s s' token done moves = ap (λ (t : State). t.rules) moves.state ∙ (more_rules (settle_if done.spilled s) token.number (takes_of s token) (free s) ∙ settled_rules done.spilled s)

-- at its place in a list
pub here : {A : Type 0} (es : List A) (place : ℕ) (e : A) → slice_get es place ≡ Some e → drop place es ≡ e ∷ drop (place + 1) es
here [] place e is = absurd (cc)
here {A = A} (x ∷ es) zero e is = (let same : x ≡ e = cc in ap (λ (y : A). y ∷ es) same)
here (x ∷ es) (suc place) e is = let further : suc (place + 1) ≡ suc place + 1 = omega arith in here es place e is ∙ ap (λ (i : ℕ). e ∷ drop i (x ∷ es)) further
