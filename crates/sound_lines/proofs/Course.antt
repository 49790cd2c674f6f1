-- The course of an undisturbed history: whose transactions there are, and that they keep their puts.
use Rattle.std.proofs.Common.{◌⊎◌, inl, inr, ◌≡◌, ◌≢◌, ◌<◌, ◌≤◌, ◌+◌, ◌++◌, ◌∷◌, [], ℕ, List, Ok, Bool, true, false, refl, sym, ◌∙◌, ap, subst, append_assoc, arith}
use Rattle.std.proofs.lemmas.List.{append-nil}
use mathlib.Core.List.{IsPrefix}
use Rattle.event_core.specs.Content.{Content}
use Rattle.channel_face.specs.Token.{Token}
use Rattle.channel_face.specs.Machine.{State, Call, BeginPut, BeginTake, Put, Take, StagePut, StageTake, Flush, RollbackPut, RollbackTake, Checkpoint, Prune, Reopen, Admits, after}
use Rattle.channel_face.specs.History.{Opening, Step, IsRun, opening, state_after}
use Rattle.channel_face.proofs.Adding.{state-push}
use Rattle.sound_lines.specs.Undisturbed.{Began, IsFair, IsUndisturbed}
use Rattle.sound_lines.proofs.Growing.{Grows, IsNoReopen, grows, grows_none, grows_then}
use Rattle.sound_lines.proofs.Others.{HasPuts, Spares, keeps}

-- ---- fronts

-- a front of a front of a history is a front of it
pub front_of : (a b c : List Step) → IsPrefix (a ++ b) c → IsPrefix a c
front_of a b c p = (b ++ p.0, sym (append_assoc a b p.0) ∙ p.1)

-- a whole history is a front of itself
pub whole_prefix : (h : List Step) → IsPrefix h h
whole_prefix h = ([], append-nil h)

-- the call after a front was answered as the machine answers it there
admits : (tells : Bool) (s : State) (front : List Step) (step : Step) (rest : List Step) → IsRun tells s (front ++ step ∷ rest) → Admits tells (state_after s front) step.call
admits tells s [] step rest run = run.0
admits tells s (x ∷ front) step rest run = admits tells (after s x.call) front step rest run.1

-- each call of a run was answered as the machine answers it in its state
pub admitted : (tells : Bool) (s : State) (whole front : List Step) (step : Step) → IsRun tells s whole → IsPrefix (front ++ step ∷ []) whole → Admits tells (state_after s front) step.call
admitted tells s whole front step run p =
    admits tells s front step p.0 (subst (λ (l : List Step). IsRun tells s l) (sym (sym (append_assoc front (step ∷ []) p.0) ∙ p.1)) run)

-- ---- who began what

began_left : (pass : ℕ) (token : Token) (a b : List Step) → Began pass token a → Began pass token (a ++ b)
began_left pass token [] b is = absurd is
began_left pass token (x ∷ a) b (inl here) = inl here
began_left pass token (x ∷ a) b (inr later) = inr (began_left pass token a b later)

-- who began a transaction has begun it also after more calls
pub began_later : (pass : ℕ) (token : Token) (a b : List Step) → Began pass token a → Began pass token (a ++ b)
began_later = began_left

-- a pass whose last call began a transaction has begun it
pub began_last : (pass : ℕ) (token : Token) (a : List Step) (step : Step) → step.pass ≡ pass → step.call ≡ BeginPut (Ok token) → Began pass token (a ++ step ∷ [])
began_last pass token [] step by is = inl (by, is)
began_last pass token (x ∷ a) step by is = inr (began_last pass token a step by is)

began_either : (pass : ℕ) (token : Token) (a : List Step) (step : Step) → Began pass token (a ++ step ∷ []) → Began pass token a ⊎ ((step.pass ≡ pass) × (step.call ≡ BeginPut (Ok token)))
began_either pass token [] step (inl here) = inr here
began_either pass token [] step (inr none) = absurd none
began_either pass token (x ∷ a) step (inl here) = inl (inl here)
began_either pass token (x ∷ a) step (inr later) = from (began_either pass token a step later)
  where
    from : Began pass token a ⊎ ((step.pass ≡ pass) × (step.call ≡ BeginPut (Ok token))) → Began pass token (x ∷ a) ⊎ ((step.pass ≡ pass) × (step.call ≡ BeginPut (Ok token)))
    from (inl early) = inl (inr early)
    from (inr last) = inr last

same_begin : (a b : Token) → BeginPut (Ok a) ≡ BeginPut (Ok b) → a ≡ b
same_begin a b is = cc

-- none of these calls is of the pass with this number
abbrev pub AreOthers : ℕ → List Step → Type 0
AreOthers pass [] = Unit {0}
AreOthers pass (step ∷ h) = (step.pass ≡ pass → ⊥) × AreOthers pass h

module _ (start : Opening) (whole : List Step) (calm : IsUndisturbed start whole) where
  -- the state after a front
  abbrev pub at : List Step → State
  at front = state_after (opening start) front

  no_break : true ≡ false → ⊥
  no_break is = cc

  reopens_none : (front : List Step) (step : Step) → IsPrefix (front ++ step ∷ []) whole → (call : Call) → step.call ≡ call → IsFair (at front) front step.pass call → IsNoReopen call
  reopens_none front step p (BeginPut reply) is fair = tt
  reopens_none front step p (BeginTake reply) is fair = tt
  reopens_none front step p (Put token event reply) is fair = tt
  reopens_none front step p (Take token reply) is fair = tt
  reopens_none front step p (StagePut token reply) is fair = tt
  reopens_none front step p (StageTake token reply) is fair = tt
  reopens_none front step p (Flush reply) is fair = tt
  reopens_none front step p (RollbackPut token ended) is fair = tt
  reopens_none front step p (RollbackTake token ended) is fair = tt
  reopens_none front step p (Checkpoint reply) is fair = tt
  reopens_none front step p (Prune reply) is fair = tt
  reopens_none front step p (Reopen reply) is fair = no_break (sym fair ∙ calm.unbroken front (front_of front (step ∷ []) whole p))

  -- no call reopens the channel
  no_reopen : (front : List Step) (step : Step) → IsPrefix (front ++ step ∷ []) whole → IsNoReopen step.call
  no_reopen front step p = reopens_none front step p step.call refl (calm.fair front step p)

  -- numbers grow along the history
  pub grown : (front more : List Step) → IsPrefix (front ++ more) whole → Grows (at front) (at (front ++ more))
  grown front [] p = subst (λ (l : List Step). Grows (at front) (at l)) (sym (append-nil front)) (grows_none (at front))
  grown front (step ∷ more) p =
      let next = front ++ step ∷ [] in
      let as_next : next ++ more ≡ front ++ step ∷ more = append_assoc front (step ∷ []) more in
      let q : IsPrefix (next ++ more) whole = subst (λ (l : List Step). IsPrefix l whole) (sym as_next) p in
      let one : Grows (at front) (at next) = subst (λ (s : State). Grows (at front) s) (sym (state-push (opening start) front step)) (grows (at front) step.call (no_reopen front step (front_of next more whole q))) in
      subst (λ (l : List Step). Grows (at front) (at l)) as_next (grows_then (at front) (at next) (at (next ++ more)) one (grown next more q))

  -- since the opening, an undisturbed history lets no number fall
  pub grown_all : (front : List Step) → IsPrefix front whole → Grows (opening start) (at front)
  grown_all front p = grown [] front p

  -- The transactions that were begun: their tokens are of this life and have earlier numbers, and each number is of one pass.
  record Deals (front : List Step) : Type 0 where
    below : (pass : ℕ) (token : Token) → Began pass token front → (token.life ≡ 1) × (token.number < (at front).txn)
    one : (p q : ℕ) (t u : Token) → Began p t front → Began q u front → t.number ≡ u.number → p ≡ q

  new_token : (front : List Step) (step : Step) (token : Token) → IsPrefix (front ++ step ∷ []) whole → step.call ≡ BeginPut (Ok token) → (token.life ≡ (at front).life) × (token.number ≡ (at front).txn) × ((at (front ++ step ∷ [])).txn ≡ (at front).txn + 1)
  new_token front step token p is =
      let may : Admits calm.tells (at front) (BeginPut (Ok token)) = subst (λ (c : Call). Admits calm.tells (at front) c) is (admitted calm.tells (opening start) whole front step calm.run p) in
      let next : at (front ++ step ∷ []) ≡ after (at front) (BeginPut (Ok token)) = state-push (opening start) front step ∙ ap (λ (c : Call). after (at front) c) is in
      (ap (λ (t : Token). t.life) may.1, ap (λ (t : Token). t.number) may.1, ap (λ (s : State). s.txn) next)

  life_at : (front : List Step) → IsPrefix front whole → (at front).life ≡ 1
  life_at front p = (grown_all front p).life

  -- this call is such a begin
  abbrev Last : Step → ℕ → Token → Type 0
  Last step pass token = (step.pass ≡ pass) × (step.call ≡ BeginPut (Ok token))

  deals_more : (front : List Step) (step : Step) → IsPrefix (front ++ step ∷ []) whole → Deals front → Deals (front ++ step ∷ [])
  deals_more front step p d = record {
    below = λ pass token is. below pass token (began_either pass token front step is);
    one = λ a b t u x y same. one a b t u (began_either a t front step x) (began_either b u front step y) same;
  }
    where
      more : (at front).txn ≤ (at (front ++ step ∷ [])).txn
      more = (grown front (step ∷ []) p).txn

      below : (pass : ℕ) (token : Token) → Began pass token front ⊎ Last step pass token → (token.life ≡ 1) × (token.number < (at (front ++ step ∷ [])).txn)
      below pass token (inl early) = let b = d.below pass token early in (b.0, omega (arith, b.1, more))
      below pass token (inr last) =
          let new = new_token front step token p last.1 in
          (new.0 ∙ life_at front (front_of front (step ∷ []) whole p), omega (arith, new.1, new.2))

      one : (a b : ℕ) (t u : Token) → Began a t front ⊎ Last step a t → Began b u front ⊎ Last step b u → t.number ≡ u.number → a ≡ b
      one a b t u (inl x) (inl y) same = d.one a b t u x y same
      one a b t u (inl x) (inr y) same = absurd (omega (arith, (d.below a t x).1, (new_token front step u p y.1).1, same))
      one a b t u (inr x) (inl y) same = absurd (omega (arith, (d.below b u y).1, (new_token front step t p x.1).1, same))
      one a b t u (inr x) (inr y) same = sym x.0 ∙ y.0

  deals_along : (front more : List Step) → IsPrefix (front ++ more) whole → Deals front → Deals (front ++ more)
  deals_along front [] p d = subst Deals (sym (append-nil front)) d
  deals_along front (step ∷ more) p d =
      let next = front ++ step ∷ [] in
      let as_next : next ++ more ≡ front ++ step ∷ more = append_assoc front (step ∷ []) more in
      let q : IsPrefix (next ++ more) whole = subst (λ (l : List Step). IsPrefix l whole) (sym as_next) p in
      subst Deals as_next (deals_along next more q (deals_more front step (front_of next more whole q) d))

  deals : (front : List Step) → IsPrefix front whole → Deals front
  deals front p = deals_along [] front p (record { below = λ pass token none. absurd none; one = λ a b t u none. absurd none })

  -- a call of another pass is of none of this one's transactions
  spares : (pass : ℕ) (token : Token) (front : List Step) (step : Step) → IsPrefix (front ++ step ∷ []) whole → Began pass token front → (step.pass ≡ pass → ⊥) → Spares token.number step.call
  spares pass token front step p began other = by_call step.call (no_reopen front step p) (calm.fair front step p)
    where
      apart : (u : Token) → Began step.pass u front → token.number ≢ u.number
      apart u theirs = λ same. other (sym ((deals front (front_of front (step ∷ []) whole p)).one pass step.pass token u began theirs same))

      by_call : (call : Call) → IsNoReopen call → IsFair (at front) front step.pass call → Spares token.number call
      by_call (BeginPut reply) still fair = tt
      by_call (BeginTake reply) still fair = tt
      by_call (Put u event reply) still fair = apart u fair
      by_call (Take u reply) still fair = tt
      by_call (StagePut u reply) still fair = apart u fair
      by_call (StageTake u reply) still fair = tt
      by_call (Flush reply) still fair = tt
      by_call (RollbackPut u ended) still fair = apart u fair
      by_call (RollbackTake u ended) still fair = tt
      by_call (Checkpoint reply) still fair = tt
      by_call (Prune reply) still fair = tt
      by_call (Reopen reply) still fair = still

  -- A transaction keeps its puts while others call.
  pub kept : (pass : ℕ) (token : Token) (events : List Content) (front more : List Step) → IsPrefix (front ++ more) whole → AreOthers pass more → Began pass token front
      → HasPuts token events (at front) → HasPuts token events (at (front ++ more))
  kept pass token events front [] p others began has = subst (λ (l : List Step). HasPuts token events (at l)) (sym (append-nil front)) has
  kept pass token events front (step ∷ more) p others began has =
      let next = front ++ step ∷ [] in
      let as_next : next ++ more ≡ front ++ step ∷ more = append_assoc front (step ∷ []) more in
      let q : IsPrefix (next ++ more) whole = subst (λ (l : List Step). IsPrefix l whole) (sym as_next) p in
      let here = front_of next more whole q in
      let may = admitted calm.tells (opening start) whole front step calm.run here in
      let then : HasPuts token events (at next) = subst (λ (s : State). HasPuts token events s) (sym (state-push (opening start) front step)) (keeps token events calm.tells (at front) step.call may (spares pass token front step here began others.0) has) in
      subst (λ (l : List Step). HasPuts token events (at l)) as_next (kept pass token events next more q others.1 (began_left pass token front (step ∷ []) began) then)
