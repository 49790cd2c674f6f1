-- The batch of one event that a pass gives to a channel whose history is undisturbed.
use Rattle.std.proofs.Common.{◌⊎◌, inl, inr, ◌≡◌, ◌≤◌, ◌-◌, ◌^◌, ◌++◌, ◌∷◌, [], ℕ, List, length, length-append, Option, Some, Result, Ok, Err, Bool, true, false, cond, ◌==◌, refl, sym, ◌∙◌, ap, subst, append_assoc, arith}
use Rattle.std.specs.Prelude.{is_ok}
use mathlib.Core.List.{IsPrefix}
use Rattle.event_core.specs.Content.{Content}
use Rattle.event_core.specs.declared.journal.Entry.TheVariants.{Puts}
use Rattle.channel_face.specs.Faces.{Own, one, ArePut, ArePutUpTo, Ends, EndsAs, EndsPuts, IsFound, IsMade, IsPutBatch, IsPutStage, in_doubt_unless, is_spent_begin, is_spent_flush, is_spent_put, is_spent_stage}
use Rattle.channel_face.specs.History.{Opening, Step, opening, state_after}
use Rattle.channel_face.specs.Machine.{State, Call, BeginPut, Put as PutCall, StagePut, Flush, Admits, AdmitsBegin, AdmitsPut, AdmitsStage, after, entry_of, frame_for, next_number, puts_of, settled, settle_if, add_put, size_of_list, stage_put_refusal, ticket}
use Rattle.channel_face.specs.Token.{Token}
use Rattle.channel_face.specs.declared.replies.BeginRefused.{BeginRefused}
use Rattle.channel_face.specs.declared.replies.BeginRefused.TheVariants as begin
use Rattle.channel_face.specs.declared.replies.FaceRefused.{FaceRefused}
use Rattle.channel_face.specs.declared.replies.FaceRefused.TheVariants.{Begin, Put, Stage, InDoubt}
use Rattle.channel_face.specs.declared.replies.FlushRefused.{FlushRefused}
use Rattle.channel_face.specs.declared.replies.Put.{Put as PutDone}
use Rattle.channel_face.specs.declared.replies.PutRefused.{PutRefused}
use Rattle.channel_face.specs.declared.replies.PutRefused.TheVariants as put
use Rattle.channel_face.specs.declared.replies.Settled.{Settled}
use Rattle.channel_face.specs.declared.replies.Settled.TheVariants as ticket_is
use Rattle.channel_face.specs.declared.replies.StageCause.{StageCause}
use Rattle.channel_face.specs.declared.replies.Ticket.{Ticket}
use Rattle.channel_face.proofs.Adding.{state-push}
use Rattle.channel_face.specs.Sound.{AreNumbered}
use Rattle.channel_face.proofs.Opened.{entry_of-push, entry_of-with}
use Rattle.shared_channel.specs.Ports.{Stood, own_calls}
use Rattle.sound_lines.specs.Limits.{IsForLimit, Limits}
use Rattle.sound_lines.specs.Undisturbed.{Began, IsUndisturbed}
use Rattle.sound_lines.proofs.Course.{admitted, began_last, began_later, front_of, grown, grown_all, kept}
use Rattle.sound_lines.proofs.Others.{HasPuts, puts_are}
use Rattle.sound_lines.proofs.Places.{Found, Place, behind, first_place, found, past, state_behind, within}
use Rattle.sound_lines.proofs.Refusing.{begin_limit, begin_out, flush_limit, no_doubt, put_limit, put_out, stage_limit, stage_out}

tt_ff : true ≡ false → ⊥
tt_ff is = cc

-- a call was made, or no more calls are counted
made_or_not : (seen : ℕ) (b : Bool) (call : Call) (s : State) (own : List Own) → IsMade seen b call s own
    → ((moment : ℕ) × (own ≡ one call s moment)) ⊎ ((b ≡ true) × (own ≡ []) × (2 ^ 64 - 1025 ≤ seen))
made_or_not seen true call s own is = inr (refl, is.0, is.1)
made_or_not seen false call s own is = inl is

-- the one event is the only one that can be refused
only_one : (event x : Content) (front back : List Content) → event ∷ [] ≡ front ++ x ∷ back → (front ≡ []) × (event ≡ x)
only_one event x [] back is = (refl, cc)
only_one event x (y ∷ front) back is =
    absurd (omega (arith, ap length is, length-append (y ∷ front) (x ∷ back)))

one_put : (token : Token) (event : Content) (own : List Own) → ArePut token (event ∷ []) own
    → (done : PutDone) × (s : State) × (moment : ℕ) × (own ≡ one (PutCall token event (Ok done)) s moment)
one_put token event own (done, s, moment, rest, is, none) = (done, s, moment, is ∙ ap (λ (l : List Own). one (PutCall token event (Ok done)) s moment ++ l) none)

module _ (start : Opening) (whole : List Step) (calm : IsUndisturbed start whole) (number : ℕ) where
  abbrev At : List Step → State
  At front = state_after (opening start) front

  abbrev Here : List Own → Type 0
  Here left = Place number (opening start) whole left

  abbrev Finds : List Step → Call → State → List Own → Type 0
  Finds = Found number (opening start) whole

  as_own : (a b : List Own) → a ≡ b → Here a → Here b
  as_own a b is p = subst Here is p

  -- a call in its state at its place, and that it was answered as the machine answers it there
  answered : (from : List Step) (call : Call) (s : State) (left : List Own) (f : Finds from call s left) → Admits calm.tells (At (from ++ f.others)) call
  answered from call s left f =
      subst (λ (c : Call). Admits calm.tells (At (from ++ f.others)) c) f.call_is
      (admitted calm.tells (opening start) whole (from ++ f.others) f.step calm.run (within number (opening start) whole from call s left f))

  sound_at : (front : List Step) → IsPrefix front whole → (At front).broken ≡ false
  sound_at = calm.unbroken

  up_to : (from : List Step) (call : Call) (s : State) (left : List Own) (f : Finds from call s left) → IsPrefix (from ++ f.others) whole
  up_to from call s left f = front_of (from ++ f.others) (f.step ∷ []) whole (within number (opening start) whole from call s left f)

  -- a limit that the call met
  met : (cause : FaceRefused) (from : List Step) (call : Call) (s : State) (left : List Own) (f : Finds from call s left) → Limits cause (At (from ++ f.others)) call → IsForLimit start whole number cause
  met cause from call s left f is = inl (record {
    front = from ++ f.others;
    step = f.step;
    within = within number (opening start) whole from call s left f;
    pass = f.by;
    is = subst (Limits cause (At (from ++ f.others))) (sym f.call_is) is;
  })

  -- after a call that breaks the channel it would be broken
  not_broken : (from : List Step) (call : Call) (s : State) (left : List Own) → Finds from call s left → (after s call).broken ≡ true → ⊥
  not_broken from call s left f breaks =
      tt_ff (sym breaks ∙ sym (ap (λ (t : State). t.broken) (state_behind number (opening start) whole from call s left f)) ∙ sound_at ((from ++ f.others) ++ f.step ∷ []) (within number (opening start) whole from call s left f))

  -- What a channel may answer to the batch: it takes it; or it lacks memory; or a limit is met.
  abbrev pub IsFine : Result ℕ FaceRefused → Type 0
  IsFine (Ok first) = Unit {0}
  IsFine (Err (Begin begin.NoMemory)) = Unit {0}
  IsFine (Err (Put put.NoMemory)) = Unit {0}
  IsFine (Err cause) = IsForLimit start whole number cause

  fine_begin : (e : BeginRefused) → (e ≡ begin.NoMemory) ⊎ IsForLimit start whole number (Begin e) → IsFine (Err (Begin e))
  fine_begin begin.NoMemory is = tt
  fine_begin begin.Broken (inl is) = absurd (cc)
  fine_begin begin.Broken (inr is) = is
  fine_begin (begin.TooManyOpen held) (inl is) = absurd (cc)
  fine_begin (begin.TooManyOpen held) (inr is) = is
  fine_begin (begin.Spent counter) (inl is) = absurd (cc)
  fine_begin (begin.Spent counter) (inr is) = is

  fine_put : (e : PutRefused) → (e ≡ put.NoMemory) ⊎ IsForLimit start whole number (Put e) → IsFine (Err (Put e))
  fine_put put.NoMemory is = tt
  fine_put put.Stale (inl is) = absurd (cc)
  fine_put put.Stale (inr is) = is
  fine_put put.Broken (inl is) = absurd (cc)
  fine_put put.Broken (inr is) = is
  fine_put (put.Spent counter) (inl is) = absurd (cc)
  fine_put (put.Spent counter) (inr is) = is
  fine_put (put.TxnFull many) (inl is) = absurd (cc)
  fine_put (put.TxnFull many) (inr is) = is
  fine_put (put.TooLarge size) (inl is) = absurd (cc)
  fine_put (put.TooLarge size) (inr is) = is
  fine_put (put.Full many) (inl is) = absurd (cc)
  fine_put (put.Full many) (inr is) = is
  fine_put put.DiskFault (inl is) = absurd (cc)
  fine_put put.DiskFault (inr is) = is

  -- a begin that was refused
  begin_fine : (e : BeginRefused) (s : State) (own left : List Own) → IsMade (length whole) (is_spent_begin (Err e)) (BeginPut (Err e)) s own → Here (own ++ left) → IsFine (Err (Begin e))
  begin_fine e s own left made p = fine_begin e (from (made_or_not (length whole) (is_spent_begin (Err e)) (BeginPut (Err e)) s own made))
    where
      from : ((moment : ℕ) × (own ≡ one (BeginPut (Err e)) s moment)) ⊎ ((is_spent_begin (Err e) ≡ true) × (own ≡ []) × (2 ^ 64 - 1025 ≤ length whole)) → (e ≡ begin.NoMemory) ⊎ IsForLimit start whole number (Begin e)
      from (inr out) = inr (inr (begin_out e out.0, out.2))
      from (inl call) =
          let q = as_own (own ++ left) (one (BeginPut (Err e)) s call.0 ++ left) (ap (λ (l : List Own). l ++ left) call.1) p in
          let f = found number (opening start) whole (BeginPut (Err e)) s call.0 left q in
          by_cause (begin_limit (At (q.front ++ f.others)) e (sound_at (q.front ++ f.others) (up_to q.front (BeginPut (Err e)) s left f)) (answered q.front (BeginPut (Err e)) s left f)) (λ is. met (Begin e) q.front (BeginPut (Err e)) s left f (refl, is))
        where
          by_cause : {L : Type 0} → (e ≡ begin.NoMemory) ⊎ L → (L → IsForLimit start whole number (Begin e)) → (e ≡ begin.NoMemory) ⊎ IsForLimit start whole number (Begin e)
          by_cause (inl want) as_limit = inl want
          by_cause (inr limit) as_limit = inr (as_limit limit)

  -- A place behind a begin: this transaction is the pass's own, and has these puts.
  record Holds (token : Token) (events : List Content) (left : List Own) : Type 0 where
    here : Here left
    began : Began number token here.front
    has : HasPuts token events (At here.front)

  front_is : (left : List Own) (p : Here left) → IsPrefix p.front whole
  front_is left p = (p.back, p.whole)

  -- until its next own call
  still : (token : Token) (events : List Content) (call : Call) (s : State) (moment : ℕ) (left : List Own) (h : Holds token events (one call s moment ++ left))
      → (f : Finds h.here.front call s left) → HasPuts token events (At (h.here.front ++ f.others))
  still token events call s moment left h f = kept start whole calm number token events h.here.front f.others (up_to h.here.front call s left f) f.none h.began h.has

  begun : (token : Token) (s : State) (moment : ℕ) (left : List Own) → Here (one (BeginPut (Ok token)) s moment ++ left) → Holds token [] left
  begun token s moment left p =
      let f = found number (opening start) whole (BeginPut (Ok token)) s moment left p in
      let may : AdmitsBegin (At (p.front ++ f.others)) (Ok token) = answered p.front (BeginPut (Ok token)) s left f in
      let there : At ((p.front ++ f.others) ++ f.step ∷ []) ≡ after (At (p.front ++ f.others)) (BeginPut (Ok token)) =
      state-push (opening start) (p.front ++ f.others) f.step ∙ ap (λ (c : Call). after (At (p.front ++ f.others)) c) f.call_is in
      let numbered : AreNumbered (At (p.front ++ f.others)).txn (At (p.front ++ f.others)).opened = (grown_all start whole calm (p.front ++ f.others) (up_to p.front (BeginPut (Ok token)) s left f)).numbered tt in
      let entry : entry_of token.number ((At (p.front ++ f.others)).opened ++ ((At (p.front ++ f.others)).txn, Puts []) ∷ []) ≡ Some (Puts []) =
      ap (λ (n : ℕ). entry_of n ((At (p.front ++ f.others)).opened ++ ((At (p.front ++ f.others)).txn, Puts []) ∷ [])) (ap (λ (t : Token). t.number) may.1) ∙ entry_of-push (At (p.front ++ f.others)).txn (Puts []) (At (p.front ++ f.others)).opened numbered in
      record {
        here = behind number (opening start) whole p.front (BeginPut (Ok token)) s left f;
        began = began_last number token (p.front ++ f.others) f.step f.by f.call_is;
        has = subst (HasPuts token []) (sym there) (record { life = ap (λ (t : Token). t.life) may.1; entry = entry });
      }

  -- a put that was refused
  put_fine : (token : Token) (event : Content) (e : PutRefused) (s : State) (own left : List Own) → IsMade (length whole) (is_spent_put (Err e)) (PutCall token event (Err e)) s own → Holds token [] (own ++ left) → IsFine (Err (Put e))
  put_fine token event e s own left made h = fine_put e (from (made_or_not (length whole) (is_spent_put (Err e)) (PutCall token event (Err e)) s own made))
    where
      from : ((moment : ℕ) × (own ≡ one (PutCall token event (Err e)) s moment)) ⊎ ((is_spent_put (Err e) ≡ true) × (own ≡ []) × (2 ^ 64 - 1025 ≤ length whole)) → (e ≡ put.NoMemory) ⊎ IsForLimit start whole number (Put e)
      from (inr out) = inr (inr (put_out e out.0, out.2))
      from (inl call) =
          let g : Holds token [] (one (PutCall token event (Err e)) s call.0 ++ left) = subst (Holds token []) (ap (λ (l : List Own). l ++ left) call.1) h in
          let f = found number (opening start) whole (PutCall token event (Err e)) s call.0 left g.here in
          let puts : puts_of (At (g.here.front ++ f.others)) token ≡ Some [] = puts_are token [] (At (g.here.front ++ f.others)) (still token [] (PutCall token event (Err e)) s call.0 left g f) in
          let may : AdmitsPut (At (g.here.front ++ f.others)) (Some []) event (Err e) =
          subst (λ (p : Option (List Content)). AdmitsPut (At (g.here.front ++ f.others)) p event (Err e)) puts (answered g.here.front (PutCall token event (Err e)) s left f) in
          let prefix = up_to g.here.front (PutCall token event (Err e)) s left f in
          let some : 1 ≤ (At (g.here.front ++ f.others)).rules.limits.txn_capacity = subst (λ r. 1 ≤ r.limits.txn_capacity) (sym (grown_all start whole calm (g.here.front ++ f.others) prefix).rules) calm.some in
          by_cause (put_limit (At (g.here.front ++ f.others)) event e (sound_at (g.here.front ++ f.others) prefix) some may)
          (λ is. met (Put e) g.here.front (PutCall token event (Err e)) s left f (token, event, refl, is))
          (λ fault. not_broken g.here.front (PutCall token event (Err e)) s left f (ap (λ (x : PutRefused). (after s (PutCall token event (Err x))).broken) fault))
        where
          by_cause : {L : Type 0} → (e ≡ put.NoMemory) ⊎ (e ≡ put.DiskFault) ⊎ L → (L → IsForLimit start whole number (Put e)) → (e ≡ put.DiskFault → ⊥) → (e ≡ put.NoMemory) ⊎ IsForLimit start whole number (Put e)
          by_cause (inl want) as_limit no_fault = inl want
          by_cause (inr (inl fault)) as_limit no_fault = absurd (no_fault fault)
          by_cause (inr (inr limit)) as_limit no_fault = inr (as_limit limit)

  put_puts : (s : State) (token : Token) (event : Content) (done : PutDone) → HasPuts token [] s → HasPuts token (event ∷ []) (after s (PutCall token event (Ok done)))
  put_puts s token event done has = subst (λ (p : Option (List Content)). HasPuts token (event ∷ []) (add_put (settle_if done.spilled s) token.number p event)) (sym (puts_are token [] s has)) (from done.spilled)
    where
      from : (spilled : Bool) → HasPuts token (event ∷ []) (add_put (settle_if spilled s) token.number (Some []) event)
      from true = record { life = has.life; entry = entry_of-with token.number s.opened (Puts []) (Puts (event ∷ [])) has.entry }
      from false = record { life = has.life; entry = entry_of-with token.number s.opened (Puts []) (Puts (event ∷ [])) has.entry }

  was_put : (token : Token) (event : Content) (done : PutDone) (s : State) (moment : ℕ) (left : List Own) → Holds token [] (one (PutCall token event (Ok done)) s moment ++ left) → Holds token (event ∷ []) left
  was_put token event done s moment left h =
      let call : Call = PutCall token event (Ok done) in
      let f = found number (opening start) whole call s moment left h.here in
      let there : At ((h.here.front ++ f.others) ++ f.step ∷ []) ≡ after (At (h.here.front ++ f.others)) call =
      state-push (opening start) (h.here.front ++ f.others) f.step ∙ ap (λ (c : Call). after (At (h.here.front ++ f.others)) c) f.call_is in
      record {
        here = behind number (opening start) whole h.here.front call s left f;
        began = began_later number token (h.here.front ++ f.others) (f.step ∷ []) (began_later number token h.here.front f.others h.began);
        has = subst (HasPuts token (event ∷ [])) (sym there) (put_puts (At (h.here.front ++ f.others)) token event done (still token [] call s moment left h f));
      }

  -- a stage that was refused
  stage_fine : (token : Token) (event : Content) (e : StageCause) (s : State) (own left : List Own) → IsMade (length whole) (is_spent_stage (Err e)) (StagePut token (Err e)) s own → Holds token (event ∷ []) (own ++ left) → IsForLimit start whole number (Stage e)
  stage_fine token event e s own left made h = from (made_or_not (length whole) (is_spent_stage (Err e)) (StagePut token (Err e)) s own made)
    where
      from : ((moment : ℕ) × (own ≡ one (StagePut token (Err e)) s moment)) ⊎ ((is_spent_stage (Err e) ≡ true) × (own ≡ []) × (2 ^ 64 - 1025 ≤ length whole)) → IsForLimit start whole number (Stage e)
      from (inr out) = inr (stage_out e out.0, out.2)
      from (inl call) =
          let g : Holds token (event ∷ []) (one (StagePut token (Err e)) s call.0 ++ left) = subst (Holds token (event ∷ [])) (ap (λ (l : List Own). l ++ left) call.1) h in
          let f = found number (opening start) whole (StagePut token (Err e)) s call.0 left g.here in
          let t = At (g.here.front ++ f.others) in
          let puts : puts_of t token ≡ Some (event ∷ []) = puts_are token (event ∷ []) t (still token (event ∷ []) (StagePut token (Err e)) s call.0 left g f) in
          let its = ticket t (next_number t) (size_of_list (puts_of t token)) in
          let may : AdmitsStage (stage_put_refusal t (Some (event ∷ []))) its (Err e) =
          subst (λ (p : Option (List Content)). AdmitsStage (stage_put_refusal t p) its (Err e)) puts (answered g.here.front (StagePut token (Err e)) s left f) in
          met (Stage e) g.here.front (StagePut token (Err e)) s left f (token, refl, stage_limit t event its e (sound_at (g.here.front ++ f.others) (up_to g.here.front (StagePut token (Err e)) s left f)) may)

  -- ---- a stage that went well

  some_frame : (s : State) (many : ℕ) → frame_for s many ≤ s.frame
  some_frame s many = from (many == 0)
    where
      from : (none : Bool) → cond none 0 s.frame ≤ s.frame
      from true = omega arith
      from false = omega arith

  -- its ticket is of the state in which it was made
  ticket_of : (token : Token) (t : Ticket) (from : List Step) (s : State) (left : List Own) → Finds from (StagePut token (Ok t)) s left → (t.life ≡ s.life) × (t.frame ≤ s.frame)
  ticket_of token t from s left f =
      let u = At (from ++ f.others) in
      let may : AdmitsStage (stage_put_refusal u (puts_of u token)) (ticket u (next_number u) (size_of_list (puts_of u token))) (Ok t) = answered from (StagePut token (Ok t)) s left f in (
        ap (λ (x : Ticket). x.life) may.1 ∙ ap (λ (x : State). x.life) f.state,
        omega (arith, ap (λ (x : Ticket). x.frame) may.1, some_frame u (size_of_list (puts_of u token)), ap (λ (x : State). x.frame) f.state),
      )

  -- wherever the pass then left the channel, it is in no doubt
  sure_there : (token : Token) (t : Ticket) (s u : State) (moment : ℕ) (earlier : List Own) → (t.life ≡ s.life) × (t.frame ≤ s.frame)
      → Stood start whole (number ∷ []) (earlier ++ one (StagePut token (Ok t)) s moment) u → settled u t ≡ ticket_is.InDoubt → ⊥
  sure_there token t s u moment earlier its (front, prefix, own, state) doubt =
      let call : Call = StagePut token (Ok t) in
      let p : Place number (opening start) front (one call s moment ++ []) = past number (opening start) front earlier (one call s moment) (first_place number (opening start) front (earlier ++ one call s moment) own) in
      let f = found number (opening start) front call s moment [] p in
      let stage_front = p.front ++ f.others in
      let more = f.step ∷ f.rest in
      let is : stage_front ++ more ≡ front = sym (append_assoc stage_front (f.step ∷ []) f.rest) ∙ f.whole in
      let g = grown start whole calm stage_front more (subst (λ (l : List Step). IsPrefix l whole) (sym is) prefix) in
      let there : At (stage_front ++ more) ≡ u = ap At is ∙ state in
      let life : u.life ≡ s.life = sym (ap (λ (x : State). x.life) there) ∙ g.life ∙ ap (λ (x : State). x.life) f.state in
      let frame : s.frame ≤ u.frame = omega (arith, g.frame, ap (λ (x : State). x.frame) there, ap (λ (x : State). x.frame) f.state) in
      no_doubt u t (its.0 ∙ sym life) (omega (arith, its.1, frame)) (sym (ap (λ (x : State). x.broken) state) ∙ sound_at front prefix) doubt

  in_doubt_fine : (first : ℕ) (sure : Bool) → (sure ≡ false → IsForLimit start whole number InDoubt) → IsFine (in_doubt_unless sure first)
  in_doubt_fine first true limit = tt
  in_doubt_fine first false limit = limit refl

  ending_fine : (token : Token) (t : Ticket) (s : State) (moment : ℕ) (earlier ending left : List Own) (sure : Bool) → (t.life ≡ s.life) × (t.frame ≤ s.frame)
      → Here (ending ++ left) → Ends (Stood start whole (number ∷ [])) (length whole) t (earlier ++ one (StagePut token (Ok t)) s moment) ending sure → sure ≡ false → IsForLimit start whole number InDoubt
  ending_fine token t s moment earlier ending left sure its p (u, seen, ends) unsure = by_ticket (settled u t) refl ends
    where
      by_reply : (reply : Result (Unit {0}) FlushRefused) → IsMade (length whole) (is_spent_flush reply) (Flush reply) u ending → sure ≡ is_ok reply → IsForLimit start whole number InDoubt
      by_reply (Ok done) made is = absurd (tt_ff (sym is ∙ unsure))
      by_reply (Err e) made is = from (made_or_not (length whole) (is_spent_flush (Err e)) (Flush (Err e)) u ending made)
        where
          from : ((at : ℕ) × (ending ≡ one (Flush (Err e)) u at)) ⊎ ((is_spent_flush (Err e) ≡ true) × (ending ≡ []) × (2 ^ 64 - 1025 ≤ length whole)) → IsForLimit start whole number InDoubt
          from (inr out) = inr (tt, out.2)
          from (inl call) =
              let q = as_own (ending ++ left) (one (Flush (Err e)) u call.0 ++ left) (ap (λ (l : List Own). l ++ left) call.1) p in
              let f = found number (opening start) whole (Flush (Err e)) u call.0 left q in
              let fault = flush_limit (At (q.front ++ f.others)) e (sound_at (q.front ++ f.others) (up_to q.front (Flush (Err e)) u left f)) (answered q.front (Flush (Err e)) u left f) in
              absurd (not_broken q.front (Flush (Err e)) u left f (ap (λ (x : FlushRefused). (after u (Flush (Err x))).broken) fault))

      by_ticket : (is : Settled) → settled u t ≡ is → EndsAs (length whole) u is ending sure → IsForLimit start whole number InDoubt
      by_ticket ticket_is.Yes is ends = absurd (tt_ff (sym ends.1 ∙ unsure))
      by_ticket ticket_is.No is ends = by_reply ends.0 ends.1 ends.2
      by_ticket ticket_is.InDoubt is ends =
          absurd (sure_there token t s u moment earlier its (subst (λ (l : List Own). IsFound (Stood start whole (number ∷ [])) (earlier ++ one (StagePut token (Ok t)) s moment) l u) ends.0 seen) is)

  -- ---- the whole batch

  staged_fine : (token : Token) (event : Content) (result : Result ℕ FaceRefused) (earlier own left : List Own) → IsPutStage (Stood start whole (number ∷ [])) (length whole) token result earlier own
      → Holds token (event ∷ []) (own ++ left) → IsFine result
  staged_fine token event result earlier own left (Err e, s, staged, ending, split, made, ends) h =
      let g : Holds token (event ∷ []) (staged ++ (ending ++ left)) = subst (Holds token (event ∷ [])) (ap (λ (l : List Own). l ++ left) split ∙ append_assoc staged ending left) h in
      subst IsFine (sym ends.1) (stage_fine token event e s staged (ending ++ left) made g)
  staged_fine token event result earlier own left (Ok t, s, staged, ending, split, made, ends) h =
      let call : Call = StagePut token (Ok t) in
      let g : Holds token (event ∷ []) (one call s made.0 ++ (ending ++ left)) =
      subst (Holds token (event ∷ [])) (ap (λ (l : List Own). l ++ left) split ∙ append_assoc staged ending left ∙ ap (λ (l : List Own). l ++ (ending ++ left)) made.1) h in
      let f = found number (opening start) whole call s made.0 (ending ++ left) g.here in
      let last : Ends (Stood start whole (number ∷ [])) (length whole) t (earlier ++ one call s made.0) ending ends.0 =
      subst (λ (l : List Own). Ends (Stood start whole (number ∷ [])) (length whole) t (earlier ++ l) ending ends.0) made.1 ends.1 in
      subst IsFine (sym ends.2) (in_doubt_fine t.first ends.0 (ending_fine token t s made.0 earlier ending left ends.0 (ticket_of token t g.here.front s (ending ++ left) f) (behind number (opening start) whole g.here.front call s (ending ++ left) f) last))

  puts_fine : (token : Token) (event : Content) (reply : Result (Unit {0}) PutRefused) (result : Result ℕ FaceRefused) (earlier puts ending left : List Own) → ArePutUpTo (length whole) token (event ∷ []) reply puts
      → EndsPuts (Stood start whole (number ∷ [])) (length whole) token reply earlier ending result → Holds token [] (puts ++ (ending ++ left)) → IsFine result
  puts_fine token event (Ok done) result earlier puts ending left are ends h =
      let put_one = one_put token event puts are in
      let g : Holds token [] (one (PutCall token event (Ok put_one.0)) put_one.1 put_one.2 ++ (ending ++ left)) = subst (Holds token []) (ap (λ (l : List Own). l ++ (ending ++ left)) put_one.3) h in
      staged_fine token event result earlier ending left ends (was_put token event put_one.0 put_one.1 put_one.2 (ending ++ left) g)
  puts_fine token event (Err e) result earlier puts ending left (front, back, x, s, before, last, events, own, are, made) ends h =
      let which = only_one event x front back events in
      let none : before ≡ [] = subst (λ (l : List Content). ArePut token l before) which.0 are in
      let is : puts ≡ last = own ∙ ap (λ (l : List Own). l ++ last) none in
      let g : Holds token [] (last ++ (ending ++ left)) = subst (Holds token []) (ap (λ (l : List Own). l ++ (ending ++ left)) is) h in
      subst IsFine (sym ends.1) (put_fine token x e s last (ending ++ left) made g)

  -- The batch of one event, which is all calls of the pass between these, is fine.
  pub batch_fine : (event : Content) (result : Result ℕ FaceRefused) (earlier own later : List Own) → own_calls (number ∷ []) (opening start) whole ≡ earlier ++ (own ++ later)
      → IsPutBatch (Stood start whole (number ∷ [])) (length whole) (event ∷ []) result earlier own → IsFine result
  batch_fine event result earlier own later all batch = from batch (past number (opening start) whole earlier (own ++ later) (first_place number (opening start) whole (earlier ++ (own ++ later)) all))
    where
      from : IsPutBatch (Stood start whole (number ∷ [])) (length whole) (event ∷ []) result earlier own → Here (own ++ later) → IsFine result
      from (Err e, s, first, ending, split, made, ends) p =
          subst IsFine (sym ends.1) (begin_fine e s first (ending ++ later) made (as_own (own ++ later) (first ++ (ending ++ later)) (ap (λ (l : List Own). l ++ later) split ∙ append_assoc first ending later) p))
      from (Ok token, s, first, ending, split, made, (reply, puts, last, split', are, ends)) p =
          let call : Call = BeginPut (Ok token) in
          let q = as_own (own ++ later) (one call s made.0 ++ (ending ++ later)) (ap (λ (l : List Own). l ++ later) split ∙ append_assoc first ending later ∙ ap (λ (l : List Own). l ++ (ending ++ later)) made.1) p in
          let h : Holds token [] (puts ++ (last ++ later)) = subst (Holds token []) (ap (λ (l : List Own). l ++ later) split' ∙ append_assoc puts last later) (begun token s made.0 (ending ++ later) q) in
          puts_fine token event reply result ((earlier ++ first) ++ puts) puts last later are ends h
