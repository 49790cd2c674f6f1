-- Whole transactions on a channel of one's own, from the calls that they make.
use Rattle.std.proofs.Common.{◌≡◌, inl, inr, ◌+◌, ℕ, zero, suc, List, [], ◌∷◌, ◌++◌, take, drop, slice_get, Option, None, Some, Result, Ok, Err, Bool, true, false, is_ok, refl, sym, ◌∙◌, ap, subst, append_assoc, arith}
use Rattle.std.proofs.lemmas.List.{append-nil}
use Rattle.event_core.specs.Content.{Content}
use Rattle.channel_face.specs.Token.{Token}
use Rattle.channel_face.specs.Machine.{State, Call, BeginPut, BeginTake, Put, Take, StagePut, StageTake, Flush, RollbackPut, RollbackTake, Admits, after, puts_of, takes_of, settled, is_some_of, ticket, next_number, size_of_list}
use Rattle.channel_face.specs.History.{Opening, opening, Step, AddsOne, IsRun, Shows}
use Rattle.channel_face.specs.declared.replies.Ticket.{Ticket}
use Rattle.channel_face.specs.declared.replies.Settled.{Settled}
use Rattle.channel_face.specs.declared.replies.Settled.TheVariants.{Yes, No, InDoubt}
use Rattle.channel_face.specs.declared.replies.Put.{Put as PutDone}
use Rattle.channel_face.specs.declared.replies.Taken.{Taken}
use Rattle.channel_face.specs.declared.replies.BeginRefused.{BeginRefused}
use Rattle.channel_face.specs.declared.replies.PutRefused.{PutRefused}
use Rattle.channel_face.specs.declared.replies.TakeRefused.{TakeRefused}
use Rattle.channel_face.specs.declared.replies.StageCause.{StageCause}
use Rattle.channel_face.specs.declared.replies.FlushRefused.{FlushRefused}
use Rattle.channel_face.specs.declared.replies.FaceRefused.{FaceRefused}
use Rattle.channel_face.specs.declared.replies.FaceRefused.TheVariants as Face
use Rattle.channel_face.specs.Faces.{Own, one, Gains, picked_events, is_spent_begin, is_spent_put, is_spent_take, is_spent_stage, is_spent_flush, taken_event, begun_as, in_doubt_unless, IsMade, IsPutRolledBack, IsTakeRolledBack, EndsAs, Ends, IsFound, ArePut, ArePutUpTo, IsPutStage, EndsPuts, EndsBegin, IsPutBatch, IsTakeBegun, IsTake, IsTakeCommit}
use Rattle.channel_face.specs.OwnCalls.{HasMade, Was, Goes}
use Rattle.channel_face.proofs.Going.{Standing, goes_one, goes_shown_one, goes_shown, goes_none, goes_then, goes_as, gains}
use Rattle.channel_face.proofs.Spent.{begin_spares, put_spares, take_spares, stage_put_spares, stage_take_spares, flush_spares}

abbrev pub Law : Bool → Standing → Type 0
Law tells a = (start : Opening) (h : List Step) → a start h → IsRun tells (opening start) h

made : (spent : Bool) (call : Call) (s : State) (moment : ℕ) (own : List Own) → spent ≡ false → own ≡ one call s moment → IsMade 0 spent call s own
made spent call s moment own spares is = subst (λ (b : Bool). IsMade 0 b call s own) (sym spares) (moment, is)

none_of : {A : Type 0} (o : Option A) → false ≡ is_some_of o → o ≡ None
none_of None is = refl
none_of (Some x) is = absurd (cc)

found_none : (saw : List Own → State → Type 0) (own x : List Own) (s : State) → x ≡ [] → saw own s → IsFound saw own x s
found_none saw own x s is was = subst (λ (l : List Own). IsFound saw own l s) (sym is) was

found_one : (saw : List Own → State → Type 0) (own x : List Own) (s : State) (call : Call) (moment : ℕ) → x ≡ one call s moment → IsFound saw own x s
found_one saw own x s call moment is = subst (λ (l : List Own). IsFound saw own l s) (sym is) refl

-- the end of a staged transaction

-- its ticket is settled already: no flush, and it is sure
pub settle_yes : (a : Standing) (t : Ticket) → Shows a (λ s. Yes ≡ settled s t) → Goes a a (λ own s more new. Ends (Was a) 0 t own more true)
settle_yes a t shows =
    goes_as a a (λ own s more new. (Yes ≡ settled s t) × (more ≡ []) × (new ≡ s) × Was a own s) (λ own s more new. Ends (Was a) 0 t own more true)
    (goes_shown a (λ s. Yes ≡ settled s t) shows) (λ own s x u h. (s, found_none (Was a) own x s h.1 h.3, subst (λ (v : Settled). EndsAs 0 s v x true) h.0 (h.1, refl)))

-- its ticket is in doubt: no flush, and it is not sure
pub settle_doubt : (a : Standing) (t : Ticket) → Shows a (λ s. InDoubt ≡ settled s t) → Goes a a (λ own s more new. Ends (Was a) 0 t own more false)
settle_doubt a t shows =
    goes_as a a (λ own s more new. (InDoubt ≡ settled s t) × (more ≡ []) × (new ≡ s) × Was a own s) (λ own s more new. Ends (Was a) 0 t own more false)
    (goes_shown a (λ s. InDoubt ≡ settled s t) shows) (λ own s x u h. (s, found_none (Was a) own x s h.1 h.3, subst (λ (v : Settled). EndsAs 0 s v x false) h.0 (h.1, refl)))

-- its ticket is not settled yet: one flush, and it is sure where that succeeds
pub settle_no : (tells : Bool) (a b : Standing) (t : Ticket) (reply : Result (Unit {0}) FlushRefused) (moment : ℕ) (sure : Bool) → Shows a (λ s. No ≡ settled s t) → AddsOne a b (Flush reply) moment → Law tells b → sure ≡ is_ok reply
    → Goes a b (λ own s more new. Ends (Was b) 0 t own more sure)
settle_no tells a b t reply moment sure shows adds law is =
    goes_as a b (λ own s more new. (No ≡ settled s t) × (more ≡ one (Flush reply) s moment) × Admits tells s (Flush reply) × (new ≡ after s (Flush reply))) (λ own s more new. Ends (Was b) 0 t own more sure)
    (goes_shown_one tells a b (λ s. No ≡ settled s t) (Flush reply) moment shows adds law)
    (λ own s x u h. (s, found_one (Was b) own x s (Flush reply) moment h.1, subst (λ (v : Settled). EndsAs 0 s v x sure) h.0 (reply, made (is_spent_flush reply) (Flush reply) s moment x (flush_spares s reply h.2) h.1, is)))

-- the rollback of a put, of a token that is open or stale
pub rolled_put : (tells : Bool) (a b : Standing) (token : Token) (ended : Bool) (moment : ℕ) → AddsOne a b (RollbackPut token ended) moment → Law tells b → Goes a b (λ own s more new. IsPutRolledBack (Was b) token own more)
rolled_put tells a b token ended moment adds law =
    goes_as a b (λ own s more new. (more ≡ one (RollbackPut token ended) s moment) × Admits tells s (RollbackPut token ended) × (new ≡ after s (RollbackPut token ended))) (λ own s more new. IsPutRolledBack (Was b) token own more)
    (goes_one tells a b (RollbackPut token ended) moment adds law) (λ own s x u h. by_answer ended own s x h.0 h.1)
  where
    by_answer : (e : Bool) (own : List Own) (s : State) (x : List Own) → x ≡ one (RollbackPut token e) s moment → e ≡ is_some_of (puts_of s token) → IsPutRolledBack (Was b) token own x
    by_answer true own s x is may = inl (s, moment, is)
    by_answer false own s x is may = inr (s, found_one (Was b) own x s (RollbackPut token false) moment is, none_of (puts_of s token) may, inr (moment, is))

-- the rollback of a take, of a token that is open or stale
pub rolled_take : (tells : Bool) (a b : Standing) (token : Token) (ended : Bool) (moment : ℕ) → AddsOne a b (RollbackTake token ended) moment → Law tells b → Goes a b (λ own s more new. IsTakeRolledBack (Was b) token own more)
rolled_take tells a b token ended moment adds law =
    goes_as a b (λ own s more new. (more ≡ one (RollbackTake token ended) s moment) × Admits tells s (RollbackTake token ended) × (new ≡ after s (RollbackTake token ended))) (λ own s more new. IsTakeRolledBack (Was b) token own more)
    (goes_one tells a b (RollbackTake token ended) moment adds law) (λ own s x u h. by_answer ended own s x h.0 h.1)
  where
    by_answer : (e : Bool) (own : List Own) (s : State) (x : List Own) → x ≡ one (RollbackTake token e) s moment → e ≡ is_some_of (takes_of s token) → IsTakeRolledBack (Was b) token own x
    by_answer true own s x is may = inl (s, moment, is)
    by_answer false own s x is may = inr (s, found_one (Was b) own x s (RollbackTake token false) moment is, none_of (takes_of s token) may, inr (moment, is))

-- a stage and what follows

-- puts were staged, and their ticket was asked for
pub staged_put : (tells : Bool) (a b c : Standing) (token : Token) (t : Ticket) (moment : ℕ) (sure : Bool) (result : Result ℕ FaceRefused) → AddsOne a b (StagePut token (Ok t)) moment → Law tells b
    → Goes b c (λ own s more new. Ends (Was c) 0 t own more sure) → result ≡ in_doubt_unless sure t.first → Goes a c (λ own s more new. IsPutStage (Was c) 0 token result own more)
staged_put tells a b c token t moment sure result adds law ends is =
    goes_then a b c (λ own s more new. (more ≡ one (StagePut token (Ok t)) s moment) × Admits tells s (StagePut token (Ok t)) × (new ≡ after s (StagePut token (Ok t)))) (λ own s more new. Ends (Was c) 0 t own more sure)
    (λ own s more new. IsPutStage (Was c) 0 token result own more) (goes_one tells a b (StagePut token (Ok t)) moment adds law) ends
    (λ own s x u y v h e. (Ok t, s, x, y, refl, (moment, h.0), (sure, e, is)))

-- puts were not staged, and so they were rolled back
pub unstaged_put : (tells : Bool) (a b c : Standing) (token other : Token) (cause : StageCause) (moment : ℕ) → AddsOne a b (StagePut token (Err cause)) moment → Law tells b → other ≡ token
    → Goes b c (λ own s more new. IsPutRolledBack (Was c) other own more) → Goes a c (λ own s more new. IsPutStage (Was c) 0 token (Err (Face.Stage cause)) own more)
unstaged_put tells a b c token other cause moment adds law same rolled =
    goes_then a b c (λ own s more new. (more ≡ one (StagePut token (Err cause)) s moment) × Admits tells s (StagePut token (Err cause)) × (new ≡ after s (StagePut token (Err cause)))) (λ own s more new. IsPutRolledBack (Was c) other own more)
    (λ own s more new. IsPutStage (Was c) 0 token (Err (Face.Stage cause)) own more) (goes_one tells a b (StagePut token (Err cause)) moment adds law) rolled
    (λ own s x u y v h e. (
      Err cause,
      s,
      x,
      y,
      refl,
      made (is_spent_stage (Err cause)) (StagePut token (Err cause)) s moment x (stage_put_spares s (puts_of s token) (ticket s (next_number s) (size_of_list (puts_of s token))) (Err cause) h.1) h.0,
      (subst (λ (k : Token). IsPutRolledBack (Was c) k (own ++ x) y) same e, refl),
    ))

-- takes were staged, and their ticket was asked for: a commit of takes
pub staged_take : (tells : Bool) (a b c : Standing) (token : Token) (t : Ticket) (moment : ℕ) (sure : Bool) (result : Result (Unit {0}) FaceRefused) → AddsOne a b (StageTake token (Ok t)) moment → Law tells b
    → Goes b c (λ own s more new. Ends (Was c) 0 t own more sure) → result ≡ in_doubt_unless sure tt → Gains (HasMade a) (HasMade c) (IsTakeCommit (Was c) 0 token result)
staged_take tells a b c token t moment sure result adds law ends is =
    gains a c (IsTakeCommit (Was c) 0 token result)
    (goes_then a b c (λ own s more new. (more ≡ one (StageTake token (Ok t)) s moment) × Admits tells s (StageTake token (Ok t)) × (new ≡ after s (StageTake token (Ok t)))) (λ own s more new. Ends (Was c) 0 t own more sure)
    (λ own s more new. IsTakeCommit (Was c) 0 token result own more) (goes_one tells a b (StageTake token (Ok t)) moment adds law) ends
    (λ own s x u y v h e. (Ok t, s, x, y, refl, (moment, h.0), (sure, e, is))))

-- takes were not staged, and so the commit rolled them back
pub unstaged_take : (tells : Bool) (a b c : Standing) (token other : Token) (cause : StageCause) (moment : ℕ) → AddsOne a b (StageTake token (Err cause)) moment → Law tells b → other ≡ token
    → Goes b c (λ own s more new. IsTakeRolledBack (Was c) other own more) → Gains (HasMade a) (HasMade c) (IsTakeCommit (Was c) 0 token (Err (Face.Stage cause)))
unstaged_take tells a b c token other cause moment adds law same rolled =
    gains a c (IsTakeCommit (Was c) 0 token (Err (Face.Stage cause)))
    (goes_then a b c (λ own s more new. (more ≡ one (StageTake token (Err cause)) s moment) × Admits tells s (StageTake token (Err cause)) × (new ≡ after s (StageTake token (Err cause)))) (λ own s more new. IsTakeRolledBack (Was c) other own more)
    (λ own s more new. IsTakeCommit (Was c) 0 token (Err (Face.Stage cause)) own more) (goes_one tells a b (StageTake token (Err cause)) moment adds law) rolled
    (λ own s x u y v h e. (
      Err cause,
      s,
      x,
      y,
      refl,
      made (is_spent_stage (Err cause)) (StageTake token (Err cause)) s moment x (stage_take_spares s (takes_of s token) (ticket s 0 (size_of_list (takes_of s token))) (Err cause) h.1) h.0,
      (subst (λ (k : Token). IsTakeRolledBack (Was c) k (own ++ x) y) same e, refl),
    )))

-- puts, one after another

puts-push : (token : Token) (events : List Content) (own : List Own) (event : Content) (done : PutDone) (s : State) (moment : ℕ) → ArePut token events own → ArePut token (events ++ event ∷ []) (own ++ one (Put token event (Ok done)) s moment)
puts-push token [] own event done s moment all = (done, s, moment, [], ap (λ (l : List Own). l ++ one (Put token event (Ok done)) s moment) all, refl)
puts-push token (e ∷ events) own event done s moment all = (
  all.0,
  all.1,
  all.2,
  all.3 ++ one (Put token event (Ok done)) s moment,
  ap (λ (l : List Own). l ++ one (Put token event (Ok done)) s moment) all.4 ∙ append_assoc (one (Put token e (Ok all.0)) all.1 all.2) all.3 (one (Put token event (Ok done)) s moment),
  puts-push token events all.3 event done s moment all.5,
)

-- before the first put
pub puts_none : (a : Standing) (token : Token) → Goes a a (λ own s more new. ArePut token [] more)
puts_none a token = goes_as a a (λ own s more new. (more ≡ []) × (new ≡ s)) (λ own s more new. ArePut token [] more) (goes_none a) (λ own s x u h. h.0)

-- one put more that was taken
pub put_one : (tells : Bool) (a b c : Standing) (token other : Token) (events events' : List Content) (event : Content) (done : PutDone) (moment : ℕ) → Goes a b (λ own s more new. ArePut token events more) → AddsOne b c (Put other event (Ok done)) moment → Law tells c → other ≡ token
    → events' ≡ events ++ event ∷ [] → Goes a c (λ own s more new. ArePut token events' more)
put_one tells a b c token other events events' event done moment goes adds law same is =
    goes_then a b c (λ own s more new. ArePut token events more) (λ own s more new. (more ≡ one (Put other event (Ok done)) s moment) × Admits tells s (Put other event (Ok done)) × (new ≡ after s (Put other event (Ok done))))
    (λ own s more new. ArePut token events' more) goes (goes_one tells b c (Put other event (Ok done)) moment adds law)
    (λ own s x u y v all h. rw (is, h.0, same) (puts-push token events x event done u moment all))

-- a put was refused: the events before it were put, the ones behind it were not
pub put_refused : (tells : Bool) (a b c : Standing) (token other : Token) (events all back : List Content) (event : Content) (refused : PutRefused) (moment : ℕ) → Goes a b (λ own s more new. ArePut token events more) → AddsOne b c (Put other event (Err refused)) moment → Law tells c → other ≡ token
    → all ≡ events ++ event ∷ back → Goes a c (λ own s more new. ArePutUpTo 0 token all (Err refused) more)
put_refused tells a b c token other events all back event refused moment goes adds law same is =
    goes_then a b c (λ own s more new. ArePut token events more) (λ own s more new. (more ≡ one (Put other event (Err refused)) s moment) × Admits tells s (Put other event (Err refused)) × (new ≡ after s (Put other event (Err refused))))
    (λ own s more new. ArePutUpTo 0 token all (Err refused) more) goes (goes_one tells b c (Put other event (Err refused)) moment adds law)
    (λ own s x u y v done h. (
      events,
      back,
      event,
      u,
      x,
      y,
      is,
      refl,
      done,
      made (is_spent_put (Err refused)) (Put token event (Err refused)) u moment y (put_spares u (puts_of u other) event (Err refused) h.1) (h.0 ∙ ap (λ (k : Token). one (Put k event (Err refused)) u moment) same),
    ))

-- the same puts, where the events are told in other words
pub puts_as : (a b : Standing) (token : Token) (events events' : List Content) → events ≡ events' → Goes a b (λ own s more new. ArePut token events more) → Goes a b (λ own s more new. ArePut token events' more)
puts_as a b token events events' is goes = subst (λ (l : List Content). Goes a b (λ own s more new. ArePut token l more)) is goes

-- the events at the places so far

picked-append : (batch : List Content) (x y : List ℕ) → picked_events batch (x ++ y) ≡ picked_events batch x ++ picked_events batch y
picked-append batch [] y = refl
picked-append batch (p ∷ x) y = ap (λ (l : List Content). take 1 (drop p batch) ++ l) (picked-append batch x y) ∙ sym (append_assoc (take 1 (drop p batch)) (picked_events batch x) (picked_events batch y))

picked_one : (batch : List Content) (place : ℕ) (event : Content) → slice_get batch place ≡ Some event → take 1 (drop place batch) ≡ event ∷ []
picked_one [] place event is = absurd (cc)
picked_one (e ∷ batch) zero event is = ap (λ (x : Content). x ∷ []) (let same : e ≡ event = cc in same)
picked_one (e ∷ batch) (suc place) event is = picked_one batch place event is

take_next : (picked : List ℕ) (i place : ℕ) → slice_get picked i ≡ Some place → take (i + 1) picked ≡ take i picked ++ place ∷ []
take_next [] i place is = absurd (cc)
take_next (p ∷ picked) zero place is = ap (λ (x : ℕ). x ∷ []) (let same : p ≡ place = cc in same)
take_next (p ∷ picked) (suc i) place is =
    let further : suc i + 1 ≡ suc (i + 1) = omega arith in
    ap (λ (k : ℕ). take k (p ∷ picked)) further ∙ ap (λ (l : List ℕ). p ∷ l) (take_next picked i place is)

split_next : (picked : List ℕ) (i place : ℕ) → slice_get picked i ≡ Some place → picked ≡ take i picked ++ place ∷ drop (i + 1) picked
split_next [] i place is = absurd (cc)
split_next (p ∷ picked) zero place is = ap (λ (x : ℕ). x ∷ picked) (let same : p ≡ place = cc in same)
split_next (p ∷ picked) (suc i) place is =
    let further : suc i + 1 ≡ suc (i + 1) = omega arith in
    ap (λ (l : List ℕ). p ∷ l) (split_next picked i place is) ∙ ap (λ (k : ℕ). p ∷ (take i picked ++ place ∷ drop k (p ∷ picked))) (sym further)

-- one place more picks one event more
pub picked_next : (batch : List Content) (picked : List ℕ) (i place : ℕ) (event : Content) → slice_get picked i ≡ Some place → slice_get batch place ≡ Some event → picked_events batch (take (i + 1) picked) ≡ picked_events batch (take i picked) ++ event ∷ []
picked_next batch picked i place event at is =
    ap (λ (l : List ℕ). picked_events batch l) (take_next picked i place at)
    ∙ (picked-append batch (take i picked) (place ∷ []) ∙ ap (λ (l : List Content). picked_events batch (take i picked) ++ l) (append-nil (take 1 (drop place batch)) ∙ picked_one batch place event is))

-- the event at a place stands between those picked before it and those picked after it
pub picked_split : (batch : List Content) (picked : List ℕ) (i place : ℕ) (event : Content) → slice_get picked i ≡ Some place → slice_get batch place ≡ Some event → picked_events batch picked ≡ picked_events batch (take i picked) ++ event ∷ picked_events batch (drop (i + 1) picked)
picked_split batch picked i place event at is =
    ap (λ (l : List ℕ). picked_events batch l) (split_next picked i place at)
    ∙ (picked-append batch (take i picked) (place ∷ drop (i + 1) picked) ∙ ap (λ (l : List Content). picked_events batch (take i picked) ++ (l ++ picked_events batch (drop (i + 1) picked))) (picked_one batch place event is))

-- a whole batch

-- a batch whose begin was refused makes no other call
pub batch_unbegun : (tells : Bool) (a b : Standing) (events : List Content) (refused : BeginRefused) (moment : ℕ) → AddsOne a b (BeginPut (Err refused)) moment → Law tells b → Gains (HasMade a) (HasMade b) (IsPutBatch (Was b) 0 events (Err (Face.Begin refused)))
batch_unbegun tells a b events refused moment adds law =
    gains a b (IsPutBatch (Was b) 0 events (Err (Face.Begin refused)))
    (goes_as a b (λ own s more new. (more ≡ one (BeginPut (Err refused)) s moment) × Admits tells s (BeginPut (Err refused)) × (new ≡ after s (BeginPut (Err refused)))) (λ own s more new. IsPutBatch (Was b) 0 events (Err (Face.Begin refused)) own more)
    (goes_one tells a b (BeginPut (Err refused)) moment adds law)
    (λ own s x u h. (Err refused, s, x, [], sym (append-nil x), made (is_spent_begin (Err refused)) (BeginPut (Err refused)) s moment x (begin_spares s (Err refused) h.1) h.0, (refl, refl))))

-- a batch that was begun: its puts, and how they end
pub batch_begun : (tells : Bool) (a b c d : Standing) (events : List Content) (token other : Token) (moment : ℕ) (reply : Result (Unit {0}) PutRefused) (result : Result ℕ FaceRefused) → AddsOne a b (BeginPut (Ok token)) moment → Law tells b → other ≡ token
    → Goes b c (λ own s more new. ArePutUpTo 0 token events reply more) → Goes c d (λ own s more new. EndsPuts (Was d) 0 other reply own more result) → Gains (HasMade a) (HasMade d) (IsPutBatch (Was d) 0 events result)
batch_begun tells a b c d events token other moment reply result adds law same puts ends =
    gains a d (IsPutBatch (Was d) 0 events result)
    (goes_then a b d (λ own s more new. (more ≡ one (BeginPut (Ok token)) s moment) × Admits tells s (BeginPut (Ok token)) × (new ≡ after s (BeginPut (Ok token)))) (λ own s more new. EndsBegin (Was d) 0 events (Ok token) own more result)
    (λ own s more new. IsPutBatch (Was d) 0 events result own more) (goes_one tells a b (BeginPut (Ok token)) moment adds law)
    (goes_then b c d (λ own s more new. ArePutUpTo 0 token events reply more) (λ own s more new. EndsPuts (Was d) 0 other reply own more result) (λ own s more new. EndsBegin (Was d) 0 events (Ok token) own more result) puts ends
    (λ own s x u y v all e. (reply, x, y, refl, all, subst (λ (k : Token). EndsPuts (Was d) 0 k reply (own ++ x) y result) same e)))
    (λ own s x u y v h e. (Ok token, s, x, y, refl, (moment, h.0), e)))

-- takes

-- a begin of takes, and what the face answers to it
pub take_begun : (tells : Bool) (a b : Standing) (reply : Result Token BeginRefused) (result : Result Token FaceRefused) (moment : ℕ) → AddsOne a b (BeginTake reply) moment → Law tells b → result ≡ begun_as reply → Gains (HasMade a) (HasMade b) (λ own. IsTakeBegun 0 result)
take_begun tells a b reply result moment adds law is =
    gains a b (λ own. IsTakeBegun 0 result)
    (goes_as a b (λ own s more new. (more ≡ one (BeginTake reply) s moment) × Admits tells s (BeginTake reply) × (new ≡ after s (BeginTake reply))) (λ own s more new. IsTakeBegun 0 result more)
    (goes_one tells a b (BeginTake reply) moment adds law)
    (λ own s x u h. (reply, s, made (is_spent_begin reply) (BeginTake reply) s moment x (begin_spares s reply h.1) h.0, is)))

-- one take, and the event that the face answers with
pub taken : (tells : Bool) (a b : Standing) (token : Token) (reply : Result Taken TakeRefused) (result : Result (Option Content) FaceRefused) (moment : ℕ) → AddsOne a b (Take token reply) moment → Law tells b → result ≡ taken_event reply → Gains (HasMade a) (HasMade b) (λ own. IsTake 0 token result)
taken tells a b token reply result moment adds law is =
    gains a b (λ own. IsTake 0 token result)
    (goes_as a b (λ own s more new. (more ≡ one (Take token reply) s moment) × Admits tells s (Take token reply) × (new ≡ after s (Take token reply))) (λ own s more new. IsTake 0 token result more)
    (goes_one tells a b (Take token reply) moment adds law)
    (λ own s x u h. (reply, s, made (is_spent_take reply) (Take token reply) s moment x (take_spares tells s (takes_of s token) reply h.1) h.0, is)))
