-- What the calls of whole transactions are as marks.
use Rattle.std.proofs.Common.{◌⊎◌, inl, inr, ◌≡◌, ◌++◌, ◌∷◌, [], ℕ, List, Option, Some, None, Result, Ok, Err, Bool, true, false, refl, sym, ◌∙◌, ap, subst, append_assoc}
use Rattle.std.proofs.lemmas.List.{append-nil}
use Rattle.event_core.specs.Content.{Content}
use Rattle.channel_face.specs.Token.{Token}
use Rattle.channel_face.specs.Machine.{State, Call, BeginPut, BeginTake, Put, Take, StagePut, StageTake, Flush, RollbackPut, RollbackTake, settled}
use Rattle.channel_face.specs.Faces.{Own, one, IsMade, IsPutBatch, IsPutRolledBack, ArePut, ArePutUpTo, EndsBegin, EndsPuts, IsPutStage, EndsStage, EndsAs, IsTakeBegun, IsTake, IsTakeCommit, EndsTakeStage, IsTakeRolledBack, in_doubt_unless, taken_event, begun_as, is_spent_flush, is_spent_stage, is_spent_begin, is_spent_put, is_spent_take}
use Rattle.channel_face.specs.declared.replies.Settled.{Settled}
use Rattle.channel_face.specs.declared.replies.Settled.TheVariants.{Yes, No, InDoubt}
use Rattle.channel_face.specs.declared.replies.Ticket.{Ticket}
use Rattle.channel_face.specs.declared.replies.StageCause.{StageCause}
use Rattle.channel_face.specs.declared.replies.BeginRefused.{BeginRefused}
use Rattle.channel_face.specs.declared.replies.PutRefused.{PutRefused}
use Rattle.channel_face.specs.declared.replies.FlushRefused.{FlushRefused}
use Rattle.channel_face.specs.declared.replies.FlushRefused.TheVariants as FlushNo
use Rattle.channel_face.specs.declared.replies.FaceRefused.{FaceRefused}
use Rattle.channel_face.specs.declared.replies.FaceRefused.TheVariants as Face
use Rattle.channel_face.specs.declared.replies.PutRefused.TheVariants as PutNo
use Rattle.channel_face.specs.declared.replies.TakeRefused.{TakeRefused}
use Rattle.channel_face.specs.declared.replies.TakeRefused.TheVariants as TakeNo
use Rattle.channel_face.specs.declared.replies.Taken.{Taken}
use Rattle.world_laws.specs.Marks.{Mark, Settles, Breaks, Stores, if_spilled, event_marks, puts_marks, takes_marks, OnlySettles}
use Rattle.world_laws.specs.MarkLaws.{StoresBy, BeginsBy, TakesBy, IsGivenUp, CommitsBy}

only_append : (a b : List Mark) → OnlySettles a → OnlySettles b → OnlySettles (a ++ b)
only_append [] b x y = y
only_append (Settles ∷ a) b x y = only_append a b x y
only_append (Breaks ∷ a) b x y = only_append a b x y
only_append (Stores events ∷ a) b x y = absurd x
only_append (Mark.Begins ∷ a) b x y = absurd x
only_append (Mark.Takes e ∷ a) b x y = absurd x
only_append (Mark.Commits ∷ a) b x y = absurd x
only_append (Mark.GivesUp ∷ a) b x y = absurd x

spill_only : (b : Bool) → OnlySettles (if_spilled b [])
spill_only true = tt
spill_only false = tt

puts_so : (token : Token) (events done : List Content) (own : List Own) → ArePut token events own → (marks : List Mark) × OnlySettles marks × ((rest : List Own) → puts_marks done (own ++ rest) ≡ marks ++ puts_marks (done ++ events) rest)
puts_so token [] done own is = ([], tt, λ rest. ap (λ (l : List Own). puts_marks done (l ++ rest)) is ∙ ap (λ (l : List Content). puts_marks l rest) (sym (append-nil done)))
puts_so token (e ∷ events) done own is =
    let more = puts_so token events (done ++ e ∷ []) is.3 is.5 in
    let first : List Mark = if_spilled is.0.spilled [] in (
      first ++ more.0,
      only_append first more.0 (spill_only is.0.spilled) more.1,
      λ rest.
          ap (λ (l : List Own). puts_marks done (l ++ rest)) is.4
          ∙ (ap (λ (l : List Mark). first ++ l) (more.2 rest ∙ ap (λ (l : List Content). more.0 ++ puts_marks l rest) (append_assoc done (e ∷ []) events))
          ∙ sym (append_assoc first more.0 (puts_marks (done ++ e ∷ events) rest))),
    )

flush_marks : (put : List Content) (reply : Result (Unit {0}) FlushRefused) (s : State) (moment : ℕ) → OnlySettles (puts_marks put (one (Flush reply) s moment))
flush_marks [] (Ok done) s moment = tt
flush_marks [] (Err FlushNo.Broken) s moment = tt
flush_marks [] (Err FlushNo.DiskFault) s moment = tt
flush_marks [] (Err (FlushNo.Spent counter)) s moment = tt
flush_marks (e ∷ put) (Ok done) s moment = tt
flush_marks (e ∷ put) (Err FlushNo.Broken) s moment = tt
flush_marks (e ∷ put) (Err FlushNo.DiskFault) s moment = tt
flush_marks (e ∷ put) (Err (FlushNo.Spent counter)) s moment = tt

none_only : (put : List Content) (own : List Own) → own ≡ [] → OnlySettles (puts_marks put own)
none_only put own is = subst (λ (l : List Own). OnlySettles (puts_marks put l)) (sym is) tt

made_only : (put : List Content) (seen : ℕ) (spent : Bool) (reply : Result (Unit {0}) FlushRefused) (s : State) (own : List Own) → IsMade seen spent (Flush reply) s own → OnlySettles (puts_marks put own)
made_only put seen false reply s own is = subst (λ (l : List Own). OnlySettles (puts_marks put l)) (sym is.1) (flush_marks put reply s is.0)
made_only put seen true reply s own is = none_only put own is.0

ends_only : (put : List Content) (seen : ℕ) (s : State) (answer : Settled) (own : List Own) (sure : Bool) → EndsAs seen s answer own sure → OnlySettles (puts_marks put own)
ends_only put seen s Yes own sure is = none_only put own is.0
ends_only put seen s No own sure is = made_only put seen (is_spent_flush is.0) is.0 s own is.1
ends_only put seen s InDoubt own sure is = none_only put own is.0

-- a call that a face made, or that was not counted
made_marks : (P : List Own → Type 0) (seen : ℕ) (spent : Bool) (call : Call) (s : State) (own : List Own) → P [] → ((moment : ℕ) → P (one call s moment)) → IsMade seen spent call s own → P own
made_marks P seen false call s own none some is = subst P (sym is.1) (some is.0)
made_marks P seen true call s own none some is = subst P (sym is.0) none

-- puts

-- a rollback of puts is no step
put_rolled_back : (put : List Content) (saw : List Own → State → Type 0) (token : Token) (earlier own : List Own) → IsPutRolledBack saw token earlier own → OnlySettles (puts_marks put own)
put_rolled_back put saw token earlier own (inl is) = subst (λ (l : List Own). OnlySettles (puts_marks put l)) (sym is.2) (none put is.0 is.1)
  where
    none : (put : List Content) (s : State) (moment : ℕ) → OnlySettles (puts_marks put (one (RollbackPut token true) s moment))
    none [] s moment = tt
    none (e ∷ put) s moment = tt
put_rolled_back put saw token earlier own (inr is) = from is.3
  where
    none : (put : List Content) (s : State) (moment : ℕ) → OnlySettles (puts_marks put (one (RollbackPut token false) s moment))
    none [] s moment = tt
    none (e ∷ put) s moment = tt

    from : (own ≡ []) ⊎ ((moment : ℕ) × (own ≡ one (RollbackPut token false) is.0 moment)) → OnlySettles (puts_marks put own)
    from (inl empty) = none_only put own empty
    from (inr one_call) = subst (λ (l : List Own). OnlySettles (puts_marks put l)) (sym one_call.1) (none put is.0 one_call.0)

-- a put that was refused, before the rest
refused_then : (put : List Content) (token : Token) (e : Content) (refused : PutRefused) (s : State) (moment : ℕ) (rest : List Own) → OnlySettles (puts_marks put rest) → OnlySettles (puts_marks put (one (Put token e (Err refused)) s moment ++ rest))
refused_then put token e PutNo.DiskFault s moment rest is = is
refused_then put token e refused s moment rest is = is

-- settlings before a batch
stores_behind : (front : List Mark) (result : Result ℕ FaceRefused) (events : List Content) (marks : List Mark) → OnlySettles front → StoresBy result events marks → StoresBy result events (front ++ marks)
stores_behind front (Ok number) events marks only is = (front ++ is.0, is.1, ap (λ (l : List Mark). front ++ l) is.2 ∙ sym (append_assoc front is.0 (Stores events ∷ is.1)), only_append front is.0 only is.3, is.4)
stores_behind front (Err Face.InDoubt) events marks only is = (front ++ is.0, is.1, ap (λ (l : List Mark). front ++ l) is.2 ∙ sym (append_assoc front is.0 (Stores events ∷ is.1)), only_append front is.0 only is.3, is.4)
stores_behind front (Err refused) events marks only is = only_append front marks only is

-- what follows the puts
stage_marks : (saw : List Own → State → Type 0) (seen : ℕ) (token : Token) (e : Content) (events : List Content) (result : Result ℕ FaceRefused) (earlier own : List Own) → IsPutStage saw seen token result earlier own → StoresBy result (e ∷ events) (puts_marks (e ∷ events) own)
stage_marks saw seen token e events result earlier own is = subst (λ (l : List Own). StoresBy result (e ∷ events) (puts_marks (e ∷ events) l)) (sym is.4) (from is.0 is.5 is.6)
  where
    put : List Content
    put = e ∷ events

    by : (sure : Bool) (ticket : Ticket) (moment : ℕ) → OnlySettles (puts_marks put is.3) → StoresBy (in_doubt_unless sure ticket.first) put (puts_marks put (one (StagePut token (Ok ticket)) is.1 moment ++ is.3))
    by true ticket moment rest = ([], puts_marks put is.3, refl, tt, rest)
    by false ticket moment rest = ([], puts_marks put is.3, refl, tt, rest)

    from : (reply : Result Ticket StageCause) → IsMade seen (is_spent_stage reply) (StagePut token reply) is.1 is.2 → EndsStage saw seen token reply (earlier ++ is.2) is.3 result → StoresBy result put (puts_marks put (is.2 ++ is.3))
    from (Err cause) made ends =
        let rest = put_rolled_back put saw token (earlier ++ is.2) is.3 ends.0 in
        subst (λ (r : Result ℕ FaceRefused). StoresBy r put (puts_marks put (is.2 ++ is.3))) (sym ends.1)
        (made_marks (λ l. OnlySettles (puts_marks put (l ++ is.3))) seen (is_spent_stage (Err cause)) (StagePut token (Err cause)) is.1 is.2 rest (λ moment. rest) made)
    from (Ok ticket) made ends =
        let rest = ends_only put seen ends.1.0 (settled ends.1.0 ticket) is.3 ends.0 ends.1.2 in
        subst (λ (l : List Own). StoresBy result put (puts_marks put (l ++ is.3))) (sym made.1)
        (subst (λ (r : Result ℕ FaceRefused). StoresBy r put (puts_marks put (one (StagePut token (Ok ticket)) is.1 made.0 ++ is.3))) (sym ends.2) (by ends.0 ticket made.0 rest))

-- a whole transaction of puts
pub batch_marks : (saw : List Own → State → Type 0) (seen : ℕ) (e : Content) (events : List Content) (result : Result ℕ FaceRefused) (earlier own : List Own) → IsPutBatch saw seen (e ∷ events) result earlier own → StoresBy result (e ∷ events) (puts_marks [] own)
batch_marks saw seen e events result earlier own is = subst (λ (l : List Own). StoresBy result (e ∷ events) (puts_marks [] l)) (sym is.4) (from is.0 is.5 is.6)
  where
    all : List Content
    all = e ∷ events

    put : (token : Token) (moment : ℕ) → EndsBegin saw seen all (Ok token) (earlier ++ is.2) is.3 result → StoresBy result all (puts_marks [] is.3)
    put token moment ends = subst (λ (l : List Own). StoresBy result all (puts_marks [] l)) (sym ends.3) (by ends.0 ends.4 ends.5)
      where
        by : (reply : Result (Unit {0}) PutRefused) → ArePutUpTo seen token all reply ends.1 → EndsPuts saw seen token reply ((earlier ++ is.2) ++ ends.1) ends.2 result → StoresBy result all (puts_marks [] (ends.1 ++ ends.2))
        by (Ok done) puts after =
            let p = puts_so token all [] ends.1 puts in
            subst (λ (l : List Mark). StoresBy result all l) (sym (p.2 ends.2)) (stores_behind p.0 result all (puts_marks all ends.2) p.1 (stage_marks saw seen token e events result ((earlier ++ is.2) ++ ends.1) ends.2 after))
        by (Err refused) puts after =
            let p = puts_so token puts.0 [] puts.4 puts.8 in
            let rolled = put_rolled_back puts.0 saw token ((earlier ++ is.2) ++ ends.1) ends.2 after.0 in
            let behind = made_marks (λ l. OnlySettles (puts_marks puts.0 (l ++ ends.2))) seen (is_spent_put (Err refused)) (Put token puts.2 (Err refused)) puts.3 puts.5 rolled (λ m. refused_then puts.0 token puts.2 refused puts.3 m ends.2 rolled) puts.9 in
            let whole : ends.1 ++ ends.2 ≡ puts.4 ++ (puts.5 ++ ends.2) = ap (λ (l : List Own). l ++ ends.2) puts.7 ∙ append_assoc puts.4 puts.5 ends.2 in
            let marks : puts_marks [] (ends.1 ++ ends.2) ≡ p.0 ++ puts_marks puts.0 (puts.5 ++ ends.2) = ap (λ (l : List Own). puts_marks [] l) whole ∙ p.2 (puts.5 ++ ends.2) in
            subst (λ (r : Result ℕ FaceRefused). StoresBy r all (puts_marks [] (ends.1 ++ ends.2))) (sym after.1)
            (subst OnlySettles (sym marks) (only_append p.0 (puts_marks puts.0 (puts.5 ++ ends.2)) p.1 behind))

    from : (reply : Result Token BeginRefused) → IsMade seen (is_spent_begin reply) (BeginPut reply) is.1 is.2 → EndsBegin saw seen all reply (earlier ++ is.2) is.3 result → StoresBy result all (puts_marks [] (is.2 ++ is.3))
    from (Err refused) made ends =
        let rest : OnlySettles (puts_marks [] is.3) = none_only [] is.3 ends.0 in
        subst (λ (r : Result ℕ FaceRefused). StoresBy r all (puts_marks [] (is.2 ++ is.3))) (sym ends.1)
        (made_marks (λ l. OnlySettles (puts_marks [] (l ++ is.3))) seen (is_spent_begin (Err refused)) (BeginPut (Err refused)) is.1 is.2 rest (λ moment. rest) made)
    from (Ok token) made ends = subst (λ (l : List Own). StoresBy result all (puts_marks [] (l ++ is.3))) (sym made.1) (put token made.0 ends)

-- takes

-- a begin of takes is marked where it was answered with a token, and only there
pub begun_marks : (seen : ℕ) (result : Result Token FaceRefused) (own : List Own) → IsTakeBegun seen result own → BeginsBy result (takes_marks own)
begun_marks seen result own is = subst (λ (r : Result Token FaceRefused). BeginsBy r (takes_marks own)) (sym is.3) (from is.0 is.2)
  where
    from : (reply : Result Token BeginRefused) → IsMade seen (is_spent_begin reply) (BeginTake reply) is.1 own → BeginsBy (begun_as reply) (takes_marks own)
    from (Ok token) made = ap takes_marks made.1
    from (Err refused) made = made_marks (λ l. takes_marks l ≡ []) seen (is_spent_begin (Err refused)) (BeginTake (Err refused)) is.1 own refl (λ moment. refl) made

take_refused : (token : Token) (refused : TakeRefused) (s : State) (moment : ℕ) → OnlySettles (takes_marks (one (Take token (Err refused)) s moment))
take_refused token TakeNo.DiskFault s moment = tt
take_refused token refused s moment = tt

-- a take is marked by the event that it gave, and otherwise at most settles
pub taken_marks : (seen : ℕ) (token : Token) (result : Result (Option Content) FaceRefused) (own : List Own) → IsTake seen token result own → TakesBy result (takes_marks own)
taken_marks seen token result own is = subst (λ (r : Result (Option Content) FaceRefused). TakesBy r (takes_marks own)) (sym is.3) (from is.0 is.2)
  where
    by : (spilled : Bool) (event : Option Content) → TakesBy (Ok event) (if_spilled spilled (event_marks event) ++ [])
    by true (Some e) = (Settles ∷ [], refl, tt)
    by false (Some e) = ([], refl, tt)
    by true None = tt
    by false None = tt

    from : (reply : Result Taken TakeRefused) → IsMade seen (is_spent_take reply) (Take token reply) is.1 own → TakesBy (taken_event reply) (takes_marks own)
    from (Ok taken) made = subst (λ (l : List Own). TakesBy (Ok taken.event) (takes_marks l)) (sym made.1) (by taken.spilled taken.event)
    from (Err refused) made = made_marks (λ l. OnlySettles (takes_marks l)) seen (is_spent_take (Err refused)) (Take token (Err refused)) is.1 own tt (take_refused token refused is.1) made

-- a transaction of takes that is rolled back is marked so, or not at all
pub rolled_back_marks : (saw : List Own → State → Type 0) (token : Token) (earlier own : List Own) → IsTakeRolledBack saw token earlier own → IsGivenUp (takes_marks own)
rolled_back_marks saw token earlier own (inl is) = inl (ap takes_marks is.2)
rolled_back_marks saw token earlier own (inr is) = from is.3
  where
    from : (own ≡ []) ⊎ ((moment : ℕ) × (own ≡ one (RollbackTake token false) is.0 moment)) → IsGivenUp (takes_marks own)
    from (inl empty) = inr (ap takes_marks empty)
    from (inr one_call) = inr (ap takes_marks one_call.1)

flush_only : (reply : Result (Unit {0}) FlushRefused) (s : State) (moment : ℕ) → OnlySettles (takes_marks (one (Flush reply) s moment))
flush_only (Ok done) s moment = tt
flush_only (Err FlushNo.DiskFault) s moment = tt
flush_only (Err refused) s moment = tt

ends_taking : (seen : ℕ) (s : State) (answer : Settled) (own : List Own) (sure : Bool) → EndsAs seen s answer own sure → OnlySettles (takes_marks own)
ends_taking seen s Yes own sure is = subst (λ (l : List Own). OnlySettles (takes_marks l)) (sym is.0) tt
ends_taking seen s No own sure is = made_marks (λ l. OnlySettles (takes_marks l)) seen (is_spent_flush is.0) (Flush is.0) s own tt (flush_only is.0 s) is.1
ends_taking seen s InDoubt own sure is = subst (λ (l : List Own). OnlySettles (takes_marks l)) (sym is.0) tt

-- a commit of takes is marked by its answer, also where that is in doubt
pub committed_marks : (saw : List Own → State → Type 0) (seen : ℕ) (token : Token) (result : Result (Unit {0}) FaceRefused) (earlier own : List Own) → IsTakeCommit saw seen token result earlier own → CommitsBy result (takes_marks own)
committed_marks saw seen token result earlier own is = subst (λ (l : List Own). CommitsBy result (takes_marks l)) (sym is.4) (from is.0 is.5 is.6)
  where
    by : (sure : Bool) (ticket : Ticket) (moment : ℕ) → OnlySettles (takes_marks is.3) → CommitsBy (in_doubt_unless sure tt) (takes_marks (one (StageTake token (Ok ticket)) is.1 moment ++ is.3))
    by true ticket moment rest = (takes_marks is.3, refl, rest)
    by false ticket moment rest = (takes_marks is.3, refl, rest)

    from : (reply : Result Ticket StageCause) → IsMade seen (is_spent_stage reply) (StageTake token reply) is.1 is.2 → EndsTakeStage saw seen token reply (earlier ++ is.2) is.3 result → CommitsBy result (takes_marks (is.2 ++ is.3))
    from (Err cause) made ends =
        let rest = rolled_back_marks saw token (earlier ++ is.2) is.3 ends.0 in
        subst (λ (r : Result (Unit {0}) FaceRefused). CommitsBy r (takes_marks (is.2 ++ is.3))) (sym ends.1)
        (made_marks (λ l. IsGivenUp (takes_marks (l ++ is.3))) seen (is_spent_stage (Err cause)) (StageTake token (Err cause)) is.1 is.2 rest (λ moment. rest) made)
    from (Ok ticket) made ends =
        let rest = ends_taking seen ends.1.0 (settled ends.1.0 ticket) is.3 ends.0 ends.1.2 in
        subst (λ (l : List Own). CommitsBy result (takes_marks (l ++ is.3))) (sym made.1)
        (subst (λ (r : Result (Unit {0}) FaceRefused). CommitsBy r (takes_marks (one (StageTake token (Ok ticket)) is.1 made.0 ++ is.3))) (sym ends.2) (by ends.0 ticket made.0 rest))
