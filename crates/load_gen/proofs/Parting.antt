-- Parts of a run as the functions that make them answer.
use Rattle.std.proofs.Common.{◌≡◌, ◌<◌, ◌≤◌, ◌+◌, ◌++◌, ◌∷◌, [], ℕ, zero, suc, ◌==◌, add-one, append_assoc, List, length, None, Result, Ok, Err, Bool, true, false, refl, sym, ◌∙◌, ap, subst, arith}
use Rattle.std.proofs.lemmas.List.{append-nil}
use Rattle.std.proofs.lemmas.Bool.Decides.{nat_tests}
use Rattle.std.proofs.lemmas.List.FromFn.{map-range_with_len_more}
use Rattle.event_core.specs.Content.{Content}
use Rattle.channel_face.specs.Faces.{is_spent_begin, is_spent_put}
use Rattle.channel_face.specs.History.{Opening, Step}
use Rattle.channel_face.specs.Machine.{BeginPut, Call, Put, RollbackPut, StagePut, State, puts_of}
use Rattle.channel_face.specs.Token.{Token}
use Rattle.channel_face.specs.declared.replies.BeginRefused.{BeginRefused}
use Rattle.channel_face.specs.declared.replies.FaceRefused.TheVariants as FaceNo
use Rattle.channel_face.specs.declared.replies.Put.{Put as PutDone}
use Rattle.channel_face.specs.declared.replies.PutRefused.{PutRefused}
use Rattle.channel_lock.specs.Views.{View}
use Rattle.shared_channel.specs.Calls.{Answers, RolledBack, state_seen}
use Rattle.load_gen.specs.Calls.{IsCalled, Makes}
use Rattle.load_gen.specs.Events.{event, events_from}
use Rattle.load_gen.specs.Parts.{ArePutUpTo, Does, IsCommit, PutFails}
use Rattle.load_gen.specs.Runs.{ArePut, IsPut}
use Rattle.load_gen.specs.declared.refused.LoadRefused.{LoadRefused}
use Rattle.load_gen.specs.declared.refused.LoadRefused.TheVariants.{Check, Face, NoMemory}
use Rattle.load_gen.specs.declared.refused.LoadRefused.TheVariants as load
use Rattle.load_gen.proofs.Composing.{put_committed, put_failed, put_unbegun, put_uncommitted, puts_append}
use Rattle.load_gen.proofs.Making.{back_behind, called_up, makes_as, makes_one, makes_then}

-- one event more
pub next_event : (n i count : ℕ) → events_from n i (count + 1) ≡ events_from n i count ++ event n (i + count) ∷ []
next_event n i count = map-range_with_len_more (event n) i count (i + count) refl

last : (n i count : ℕ) → events_from n i (suc count) ≡ events_from n i count ++ event n (i + count) ∷ []
last n i count = subst (λ (m : ℕ). events_from n i m ≡ events_from n i count ++ event n (i + count) ∷ []) (add-one count) (next_event n i count)

-- so many events, cut at one of them
abbrev pub IsCutAt : ℕ → ℕ → ℕ → ℕ → Type 0
IsCutAt n i count all = (back : List Content) × (events_from n i all ≡ events_from n i count ++ event n (i + count) ∷ back)

cut_more : (n i count all : ℕ) (b : Bool) → (count == all) ≡ b → count < suc all → (count < all → IsCutAt n i count all) → IsCutAt n i count (suc all)
cut_more n i count all true is below more =
    let same : all ≡ count = grind (arith, nat_tests) in
    ([], subst (λ (m : ℕ). events_from n i (suc m) ≡ events_from n i count ++ event n (i + count) ∷ []) (sym same) (last n i count))
cut_more n i count all false other below more =
    let less : count < all = grind (arith, nat_tests) in
    let cut = more less in
    (cut.0 ++ event n (i + all) ∷ [], last n i all ∙ ap (λ (l : List Content). l ++ event n (i + all) ∷ []) cut.1 ∙ append_assoc (events_from n i count) (event n (i + count) ∷ cut.0) (event n (i + all) ∷ []))

-- they are cut at each event that they have
pub events_at : (n i count all : ℕ) → count < all → IsCutAt n i count all
events_at n i count zero below = absurd (omega (arith, below))
events_at n i count (suc all) below = cut_more n i count all (count == all) refl below (events_at n i count all)

module _ {C : Type 0} (stands : C → Opening → List Step → Type 0) (tells : C → Bool) (moment : C → ℕ) where
  -- one put more
  pub put_more : (v w x : View) (by by' : ℕ) (token other : Token) (events events' : List Content) (e : Content) (done : PutDone) → Makes by v w (ArePut token events) → by' ≡ by → other ≡ token → Answers stands tells moment false w by' (Put other e (Ok done)) x → events' ≡ events ++ e ∷ [] → Makes by v x (ArePut token events')
  put_more v w x by by' token other events events' e done made one same answers is =
      let its : Makes by w x (IsCalled (length x.seen) false (Put token e (Ok done))) = subst (λ (p : ℕ × Token). Makes p.0 w x (IsCalled (length x.seen) false (Put p.1 e (Ok done)))) (λ i. (one i, same i)) (makes_one stands tells moment false w x by' (Put other e (Ok done)) answers) in
      makes_then by v w x (ArePut token events) (IsCalled (length x.seen) false (Put token e (Ok done))) (ArePut token events') made its
      (λ a b p q. subst (λ (l : List Content). ArePut token l (a ++ b)) (sym is) (puts_append token events (e ∷ []) a b p (done, [], q, refl)))

  -- the next put was refused
  pub put_no : (v w x : View) (by by' : ℕ) (token other : Token) (all events back : List Content) (e : Content) (cause : PutRefused) → Makes by v w (ArePut token events) → by' ≡ by → other ≡ token → Answers stands tells moment (is_spent_put (Err cause)) w by' (Put other e (Err cause)) x
      → all ≡ events ++ e ∷ back → Makes by v x (ArePutUpTo (length x.seen) token all (Err (Face (FaceNo.Put cause))))
  put_no v w x by by' token other all events back e cause made one same answers is =
      let spent = is_spent_put (Err cause) in
      let its : Makes by w x (IsCalled (length x.seen) spent (Put token e (Err cause))) = subst (λ (p : ℕ × Token). Makes p.0 w x (IsCalled (length x.seen) spent (Put p.1 e (Err cause)))) (λ i. (one i, same i)) (makes_one stands tells moment spent w x by' (Put other e (Err cause)) answers) in
      makes_then by v w x (ArePut token events) (IsCalled (length x.seen) spent (Put token e (Err cause))) (ArePutUpTo (length x.seen) token all (Err (Face (FaceNo.Put cause)))) made its
      (λ a b p q. (events, back, e, a, b, is, refl, p, q))

-- there was no memory for the next event
pub put_none : (v w : View) (by seen : ℕ) (token : Token) (all events back : List Content) (e : Content) → Makes by v w (ArePut token events) → all ≡ events ++ e ∷ back → Makes by v w (ArePutUpTo seen token all (Err NoMemory))
put_none v w by seen token all events back e made is =
    makes_as by v w (ArePut token events) (ArePutUpTo seen token all (Err NoMemory)) made (λ a p. (events, back, e, a, [], is, sym (append-nil a), p, refl))

-- a put that failed, seen later
fails_up : (seen seen' : ℕ) (token : Token) (e : Content) (why : LoadRefused) (made : List Call) → seen ≤ seen' → PutFails seen token e why made → PutFails seen' token e why made
fails_up seen seen' token e (Face (FaceNo.Begin cause)) made le fails = absurd fails
fails_up seen seen' token e (Face (FaceNo.Put cause)) made le fails = called_up seen seen' (is_spent_put (Err cause)) (Put token e (Err cause)) made le fails
fails_up seen seen' token e (Face (FaceNo.Take cause)) made le fails = absurd fails
fails_up seen seen' token e (Face (FaceNo.Stage cause)) made le fails = absurd fails
fails_up seen seen' token e (Face FaceNo.InDoubt) made le fails = absurd fails
fails_up seen seen' token e (Check cause) made le fails = absurd fails
fails_up seen seen' token e (load.Prune cause) made le fails = absurd fails
fails_up seen seen' token e NoMemory made le fails = fails

-- a batch

-- all were put, and the commit was answered so
put_ends : (events : List Content) (seen : ℕ) (s : State) (token : Token) (result : Result (Unit {0}) LoadRefused) (puts made : List Call) → ArePut token events puts → Does (IsCommit (StagePut token)) seen s result made
    → Does (IsPut events) seen s result ((BeginPut (Ok token) ∷ puts) ++ made)
put_ends events seen s token (Ok done) puts made put is = put_committed events token puts made put is
put_ends events seen s token (Err why) puts made put is = put_uncommitted events seen s token why puts made put is

module _ {C : Type 0} (stands : C → Opening → List Step → Type 0) (tells : C → Bool) (moment : C → ℕ) where
  -- its transaction was not begun
  pub batch_unbegun : (v w : View) (by : ℕ) (events : List Content) (cause : BeginRefused) → Answers stands tells moment (is_spent_begin (Err cause)) v by (BeginPut (Err cause)) w → Makes by v w (Does (IsPut events) (length w.seen) (state_seen w) (Err (Face (FaceNo.Begin cause))))
  batch_unbegun v w by events cause answers =
      let spent = is_spent_begin (Err cause) in
      makes_as by v w (IsCalled (length w.seen) spent (BeginPut (Err cause))) (Does (IsPut events) (length w.seen) (state_seen w) (Err (Face (FaceNo.Begin cause)))) (makes_one stands tells moment spent v w by (BeginPut (Err cause)) answers)
      (λ a is. put_unbegun events (length w.seen) (state_seen w) cause a is)

  -- it was begun, and this much was put
  pub batch_put : (v w x : View) (by by' : ℕ) (token : Token) (P : List Call → Type 0) → Answers stands tells moment false v by (BeginPut (Ok token)) w → by' ≡ by → Makes by' w x P
      → Makes by v x (λ made. (puts : List Call) × (made ≡ BeginPut (Ok token) ∷ puts) × P puts)
  batch_put v w x by by' token P answers one puts =
      makes_then by v w x (IsCalled (length w.seen) false (BeginPut (Ok token))) P (λ made. (puts : List Call) × (made ≡ BeginPut (Ok token) ∷ puts) × P puts) (makes_one stands tells moment false v w by (BeginPut (Ok token)) answers)
      (subst (λ (n : ℕ). Makes n w x P) one puts) (λ a b is p. (b, ap (λ (l : List Call). l ++ b) is, p))

  -- not all were put, and the transaction was rolled back
  pub batch_back : (v w x y : View) (by by' by'' : ℕ) (ended : Bool) (token other : Token) (events : List Content) (why : LoadRefused) → Answers stands tells moment false v by (BeginPut (Ok token)) w → by' ≡ by → Makes by' w x (ArePutUpTo (length x.seen) token events (Err why))
      → by'' ≡ by → other ≡ token → RolledBack stands tells moment ended x by'' (RollbackPut other true) (λ s. puts_of s other ≡ None) y → Makes by v y (Does (IsPut events) (length y.seen) (state_seen y) (Err why))
  batch_back v w x y by by' by'' ended token other events why answers one puts two same rolled =
      let P : List Call → Type 0 = ArePutUpTo (length x.seen) token events (Err why) in
      back_behind stands tells moment ended v x y by by'' (λ made. (its : List Call) × (made ≡ BeginPut (Ok token) ∷ its) × P its) (Does (IsPut events) (length y.seen) (state_seen y) (Err why)) (λ t. RollbackPut t true) (λ t s. puts_of s t ≡ None) token other
      (batch_put v w x by by' token P answers one puts) two same rolled
      (λ up a b made back.
      let m = made.2 in
      subst (λ (l : List Call). Does (IsPut events) (length y.seen) (state_seen y) (Err why) (l ++ b)) (sym made.1)
      (put_failed events m.0 m.1 m.2 (length y.seen) (state_seen y) token m.3 m.5 m.7 why m.4 made.0 m.6 (fails_up (length x.seen) (length y.seen) token m.2 why m.4 up m.8) b back))

  -- all were put, and the transaction was committed or not
  pub batch_ends : (v w x y : View) (by by' by'' : ℕ) (token other : Token) (events : List Content) (result : Result (Unit {0}) LoadRefused) → Answers stands tells moment false v by (BeginPut (Ok token)) w → by' ≡ by → Makes by' w x (ArePut token events)
      → by'' ≡ by → other ≡ token → Makes by'' x y (Does (IsCommit (StagePut other)) (length y.seen) (state_seen y) result) → Makes by v y (Does (IsPut events) (length y.seen) (state_seen y) result)
  batch_ends v w x y by by' by'' token other events result answers one puts two same ends =
      makes_then by v x y (λ made. (its : List Call) × (made ≡ BeginPut (Ok token) ∷ its) × ArePut token events its) (Does (IsCommit (StagePut token)) (length y.seen) (state_seen y) result) (Does (IsPut events) (length y.seen) (state_seen y) result)
      (batch_put v w x by by' token (ArePut token events) answers one puts)
      (subst (λ (p : ℕ × Token). Makes p.0 x y (Does (IsCommit (StagePut p.1)) (length y.seen) (state_seen y) result)) (λ i. (two i, same i)) ends)
      (λ a b made is. subst (λ (l : List Call). Does (IsPut events) (length y.seen) (state_seen y) result (l ++ b)) (sym made.1) (put_ends events (length y.seen) (state_seen y) token result made.0 b made.2 is))
