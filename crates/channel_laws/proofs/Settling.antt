-- Where an entry stands after its stage, and what its ticket shows of that.
use Rattle.std.proofs.Common.{◌⊎◌, inl, inr, ◌≡◌, ◌<◌, ◌≤◌, ◌+◌, ◌++◌, ◌∷◌, [], ℕ, zero, suc, List, take, Bool, false, cond, refl, sym, ◌∙◌, ap, subst, append_assoc, arith}
use Rattle.event_core.specs.declared.journal.Entry.{Entry}
use Rattle.channel_face.specs.Machine.{State, Call, Kept, Front, Read, after, is_none_staged, settled}
use Rattle.channel_face.specs.History.{Step, state_after, kept_by, front_of, journal}
use Rattle.channel_face.specs.declared.replies.Ticket.{Ticket}
use Rattle.channel_face.specs.declared.replies.Settled.TheVariants.{Yes, No}
use Rattle.channel_laws.specs.Tickets.{HasBehind}
use Rattle.channel_laws.proofs.Moving.{Reopens, Moves, moves, IsCounted, counted_moved, frame_grows, life_grows}
use Rattle.channel_laws.proofs.Telling.{end_of, end_stays, end_is, IsWritten, yes_tells, no_tells}

-- Fronts.

-- an entry behind a front stays there when more comes after
pub behind-append : (front : List Entry) (entry : Entry) (all more : List Entry) → HasBehind front entry all → HasBehind front entry (all ++ more)
behind-append front entry all more is = (is.0 ++ more, ap (λ (l : List Entry). l ++ more) is.1 ∙ append_assoc front (entry ∷ is.0) more)

-- an entry behind a front is behind a longer one when something comes before both
pub behind-front : (before front : List Entry) (entry : Entry) (all : List Entry) → HasBehind front entry all → HasBehind (before ++ front) entry (before ++ all)
behind-front before front entry all is = (is.0, ap (λ (l : List Entry). before ++ l) is.1 ∙ sym (append_assoc before front (entry ∷ is.0)))

-- a first part of a list has the entry after the whole front, or hasn't it
behind_or_not : (front : List Entry) (entry : Entry) (more : List Entry) (k : ℕ) → HasBehind front entry (take k (front ++ entry ∷ more)) ⊎ Unit {0}
behind_or_not front entry more zero = inr tt
behind_or_not [] entry more (suc k) = inl (take k more, refl)
behind_or_not (x ∷ front) entry more (suc k) = from (behind_or_not front entry more k)
  where
    from : HasBehind front entry (take k (front ++ entry ∷ more)) ⊎ Unit {0} → HasBehind (x ∷ front) entry (x ∷ take k (front ++ entry ∷ more)) ⊎ Unit {0}
    from (inl is) = inl (is.0, ap (λ (l : List Entry). x ∷ l) is.1)
    from (inr isnt) = inr tt

-- where an entry is staged, it is not so that none is
pub some_staged : (front : List Entry) (entry : Entry) (more : List Entry) → is_none_staged (front ++ entry ∷ more) ≡ false
some_staged [] entry more = refl
some_staged (x ∷ front) entry more = refl

-- Where an entry stands: it is staged, and the frame that is to carry it hasn't been written;
pub record IsStaged (t : Ticket) (front : List Entry) (entry : Entry) (s : State) : Type 0 where
  pub life : s.life ≡ t.life
  pub frame : s.frame ≡ t.frame
  pub more : List Entry
  pub staged : s.staged ≡ front ++ entry ∷ more

-- or its frame is an earlier one;
abbrev pub IsPast : Ticket → State → Type 0
IsPast t s = ((s.life ≡ t.life) × (t.frame < s.frame)) ⊎ (t.life < s.life)

-- or its life ended at its frame.
pub record IsDropped (t : Ticket) (s : State) : Type 0 where
  pub later : t.life < s.life
  pub ended : end_of s t.life ≡ t.frame

-- It is staged and nothing was kept since, or it is among what was kept, or it was dropped.
abbrev pub Stands : Ticket → List Entry → Entry → State → List Entry → Type 0
Stands t front entry s kept = (IsStaged t front entry s × (kept ≡ [])) ⊎ ((IsPast t s × HasBehind front entry kept) ⊎ IsDropped t s)

past_moved : (t : Ticket) (s : State) (call : Call) (new : State) (kept : List Entry) → Moves s call new kept → IsPast t s → IsPast t new
past_moved t s call new kept (inl m) (inl past) = inl (m.life ∙ past.0, omega (arith, past.1, m.frame))
past_moved t s call new kept (inr (inl m)) (inl past) = inl (m.life ∙ past.0, omega (arith, past.1, frame_grows (is_none_staged s.staged) s.frame new.frame m.frame))
past_moved t s call new kept (inr (inr m)) (inl past) = inr (omega (arith, past.0, m.life))
past_moved t s call new kept (inl m) (inr past) = inr (omega (arith, past, m.life))
past_moved t s call new kept (inr (inl m)) (inr past) = inr (omega (arith, past, m.life))
past_moved t s call new kept (inr (inr m)) (inr past) = inr (omega (arith, past, m.life))

past_run : (t : Ticket) (s : State) (h : List Step) → IsPast t s → IsPast t (state_after s h)
past_run t s [] past = past
past_run t s (step ∷ h) past = past_run t (after s step.call) h (past_moved t s step.call (after s step.call) (kept_by s step.call) (moves s step.call) past)

dropped_moved : (t : Ticket) (s : State) (call : Call) (new : State) (kept : List Entry) → 1 ≤ t.life → IsCounted s → Moves s call new kept → IsDropped t s → IsDropped t new
dropped_moved t s call new kept some c m is = record { later = omega (arith, is.later, life_grows s call new kept m); ended = end_stays s call new kept t.life c m some is.later ∙ is.ended }

dropped_run : (t : Ticket) (s : State) (h : List Step) → 1 ≤ t.life → IsCounted s → IsDropped t s → IsDropped t (state_after s h)
dropped_run t s [] some c is = is
dropped_run t s (step ∷ h) some c is =
    let new : State = after s step.call in
    let kept : List Entry = kept_by s step.call in
    let does : Moves s step.call new kept = moves s step.call in
    dropped_run t new h some (counted_moved s step.call new kept c does) (dropped_moved t s step.call new kept some c does is)

module _ (t : Ticket) (front : List Entry) (entry : Entry) where
  -- a reopen kept it, or dropped it
  reopened : (s : State) (call : Call) (new : State) (kept : List Entry) → IsCounted s → IsStaged t front entry s → Reopens s call new kept → (IsPast t new × HasBehind front entry kept) ⊎ IsDropped t new
  reopened s call new kept c is m = by_source m.source m.keeps
    where
      later : t.life < new.life
      later = omega (arith, is.life, m.life)

      dropped : IsDropped t new
      dropped = record { later = later; ended = end_is s new t.life c m.ends is.life ∙ is.frame }

      by_front : (k : ℕ) → kept ≡ take k s.staged → HasBehind front entry (take k (front ++ entry ∷ is.more)) ⊎ Unit {0} → (IsPast t new × HasBehind front entry kept) ⊎ IsDropped t new
      by_front k keeps (inl has) = inl (inr later, (has.0, keeps ∙ (ap (λ (l : List Entry). take k l) is.staged ∙ has.1)))
      by_front k keeps (inr hasnt) = inr dropped

      by_source : (source : Kept) → kept ≡ front_of s.staged source → (IsPast t new × HasBehind front entry kept) ⊎ IsDropped t new
      by_source (Front k) keeps = by_front k keeps (behind_or_not front entry is.more k)
      by_source (Read base) keeps = inr dropped

  staged_moved : (s : State) (call : Call) (new : State) (kept : List Entry) → IsCounted s → IsStaged t front entry s → Moves s call new kept → Stands t front entry new kept
  staged_moved s call new kept c is (inl m) = inl (
    record {
      life = m.life ∙ is.life;
      frame = m.frame ∙ is.frame;
      more = is.more ++ m.more;
      staged = m.staged ∙ (ap (λ (l : List Entry). l ++ m.more) is.staged ∙ append_assoc front (entry ∷ is.more) m.more);
    },
    m.keeps,
  )
  staged_moved s call new kept c is (inr (inl m)) =
      let some : is_none_staged s.staged ≡ false = ap is_none_staged is.staged ∙ some_staged front entry is.more in
      let frame : new.frame ≡ s.frame + 1 = m.frame ∙ ap (λ (none : Bool). cond none s.frame (s.frame + 1)) some in
      inr (inl (inl (m.life ∙ is.life, omega (arith, frame, is.frame)), (is.more, m.keeps ∙ is.staged)))
  staged_moved s call new kept c is (inr (inr m)) = inr (reopened s call new kept c is m)

  -- where an entry stands after any further calls
  pub stands_run : (s : State) (h : List Step) → 1 ≤ t.life → IsCounted s → IsStaged t front entry s → Stands t front entry (state_after s h) (journal s h)
  stands_run s [] some c is = inl (is, refl)
  stands_run s (step ∷ h) some c is = from (staged_moved s step.call new kept c is does) (stands_run new h some counted)
    where
      new : State
      new = after s step.call

      kept : List Entry
      kept = kept_by s step.call

      does : Moves s step.call new kept
      does = moves s step.call

      counted : IsCounted new
      counted = counted_moved s step.call new kept c does

      from : Stands t front entry new kept → (IsStaged t front entry new → Stands t front entry (state_after new h) (journal new h)) → Stands t front entry (state_after new h) (kept ++ journal new h)
      from (inl staged) more = subst (λ (l : List Entry). Stands t front entry (state_after new h) (l ++ journal new h)) (sym staged.1) (more staged.0)
      from (inr (inl past)) more = inr (inl (past_run t new h past.0, behind-append front entry kept (journal new h) past.1))
      from (inr (inr dropped)) more = inr (inr (dropped_run t new h some counted dropped))

-- What a ticket shows of that.

-- the ticket of an entry that is staged yet is not answered Yes
pub staged_not_yes : (t : Ticket) (front : List Entry) (entry : Entry) (s : State) → 1 ≤ t.frame → IsStaged t front entry s → settled s t ≡ Yes → ⊥
staged_not_yes t front entry s some is told = from (yes_tells t s told)
  where
    from : (t.frame ≡ 0) ⊎ IsWritten t s → ⊥
    from (inl none) = absurd (omega (arith, some, none))
    from (inr (inl here)) = absurd (omega (arith, is.frame, here.1))
    from (inr (inr before)) = absurd (omega (arith, is.life, before.1))

-- the ticket of an entry that was dropped is not answered Yes
pub dropped_not_yes : (t : Ticket) (s : State) → 1 ≤ t.frame → IsDropped t s → settled s t ≡ Yes → ⊥
dropped_not_yes t s some is told = from (yes_tells t s told)
  where
    from : (t.frame ≡ 0) ⊎ IsWritten t s → ⊥
    from (inl none) = absurd (omega (arith, some, none))
    from (inr (inl here)) = absurd (omega (arith, is.later, here.0))
    from (inr (inr before)) = absurd (omega (arith, is.ended, before.2))

-- the ticket of an entry whose frame is an earlier one is not answered No
pub past_not_no : (t : Ticket) (s : State) → IsPast t s → settled s t ≡ No → ⊥
past_not_no t s (inl past) told = absurd (omega (arith, past.1, (no_tells t s told).1))
past_not_no t s (inr later) told = absurd (omega (arith, later, (no_tells t s told).0))
