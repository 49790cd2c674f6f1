-- What the answer to a ticket shows of lives and frames, and that it stays Yes.
use Rattle.std.proofs.Common.{◌⊎◌, inl, inr, ◌≡◌, ◌≢◌, ◌<◌, ◌≤◌, ◌-◌, ◌++◌, ◌∷◌, [], ℕ, suc, List, get_or, length, Bool, true, false, cond, nat_lt, ◌==◌, ◌&&◌, not, refl, sym, ◌∙◌, ap, subst, arith}
use Rattle.std.proofs.lemmas.List.{get_or_append_left}
use Rattle.std.proofs.Math.Seq.{get_or-append_seam}
use Rattle.std.proofs.lemmas.Bool.Decides.{eqb_tells, leb_tells, Decides-ltb}
use Rattle.event_core.specs.declared.journal.Entry.{Entry}
use Rattle.channel_face.specs.Machine.{State, Call, after, is_none_staged, settled}
use Rattle.channel_face.specs.History.{Step, Opening, opening, state_after, kept_by}
use Rattle.channel_face.specs.declared.replies.Ticket.{Ticket}
use Rattle.channel_face.specs.declared.replies.Settled.TheVariants.{Yes, No, InDoubt}
use Rattle.channel_face.proofs.Adding.{state-append}
use Rattle.channel_laws.proofs.Moving.{Moves, moves, IsCounted, counted_moved, counted_run, counted_opening, frame_grows, life_grows}

-- the frame that an earlier life ended with
abbrev pub end_of : State → ℕ → ℕ
end_of s life = get_or s.ends (life - 1) 0

-- the ticket's frame was written: in this life, or in an earlier one
abbrev pub IsWritten : Ticket → State → Type 0
IsWritten t s = ((s.life ≡ t.life) × (t.frame < s.frame)) ⊎ ((1 ≤ t.life) × (t.life < s.life) × (t.frame < end_of s t.life))

not_sure : (b : Bool) → cond b No InDoubt ≡ Yes → ⊥
not_sure true is = cc
not_sure false is = cc

all_three : (a b c : Bool) → cond (a && (b && c)) Yes InDoubt ≡ Yes → (a ≡ true) × (b ≡ true) × (c ≡ true)
all_three true true true is = (refl, refl, refl)
all_three true true false is = absurd (cc)
all_three true false c is = absurd (cc)
all_three false b c is = absurd (cc)

less : (a b : ℕ) → nat_lt a b ≡ true → a < b
less a b is = (Decides-ltb a b).0 is

-- where a ticket is answered Yes, its frame was written, or it has none
pub yes_tells : (t : Ticket) (s : State) → settled s t ≡ Yes → (t.frame ≡ 0) ⊎ IsWritten t s
yes_tells t s told = by_frame (eqb_tells t.frame 0)
  where
    by_unwritten : ((t.frame == 0) ≡ false) → ((t.life == s.life) ≡ true) × (t.life ≡ s.life) → ((nat_lt t.frame s.frame ≡ true) × (t.frame < s.frame)) ⊎ ((nat_lt t.frame s.frame ≡ false) × (s.frame < suc t.frame)) → IsWritten t s
    by_unwritten some same (inl written) = inl (sym same.1, written.1)
    by_unwritten some same (inr unwritten) = absurd (not_sure ((t.frame == s.frame) && not s.broken) (rw (some, same.0, unwritten.0) at told))

    by_life : ((t.frame == 0) ≡ false) → ((t.life == s.life) ≡ true) × (t.life ≡ s.life) ⊎ ((t.life == s.life) ≡ false) × (t.life ≢ s.life) → IsWritten t s
    by_life some (inl same) = by_unwritten some same (leb_tells (suc t.frame) s.frame)
    by_life some (inr other) =
        let parts = all_three (nat_lt 0 t.life) (nat_lt t.life s.life) (nat_lt t.frame (end_of s t.life)) (rw (some, other.0) at told) in
        inr (less 0 t.life parts.0, less t.life s.life parts.1, less t.frame (end_of s t.life) parts.2)

    by_frame : ((t.frame == 0) ≡ true) × (t.frame ≡ 0) ⊎ ((t.frame == 0) ≡ false) × (t.frame ≢ 0) → (t.frame ≡ 0) ⊎ IsWritten t s
    by_frame (inl none) = inl none.1
    by_frame (inr some) = inr (by_life some.0 (eqb_tells t.life s.life))

is_less : (a b : ℕ) → a < b → nat_lt a b ≡ true
is_less a b is = (Decides-ltb a b).1 is

-- a ticket whose frame was written, or that has none, is answered Yes
pub tells_yes : (t : Ticket) (s : State) → (t.frame ≡ 0) ⊎ IsWritten t s → settled s t ≡ Yes
tells_yes t s is = by_frame (eqb_tells t.frame 0) is
  where
    by_life : ((t.frame == 0) ≡ false) → ((t.life == s.life) ≡ true) × (t.life ≡ s.life) ⊎ ((t.life == s.life) ≡ false) × (t.life ≢ s.life) → IsWritten t s → settled s t ≡ Yes
    by_life some (inl same) (inl here) = rw (some, same.0, is_less t.frame s.frame here.1) refl
    by_life some (inl same) (inr before) = absurd (omega (arith, same.1, before.1))
    by_life some (inr other) (inl here) = absurd (other.1 (sym here.0))
    by_life some (inr other) (inr before) = rw (some, other.0, is_less 0 t.life before.0, is_less t.life s.life before.1, is_less t.frame (end_of s t.life) before.2) refl

    by_frame : ((t.frame == 0) ≡ true) × (t.frame ≡ 0) ⊎ ((t.frame == 0) ≡ false) × (t.frame ≢ 0) → (t.frame ≡ 0) ⊎ IsWritten t s → settled s t ≡ Yes
    by_frame (inl none) is = rw none.0 refl
    by_frame (inr some) (inl none) = absurd (some.1 none)
    by_frame (inr some) (inr written) = by_life some.0 (eqb_tells t.life s.life) written

yes_not_no : Yes ≡ No → ⊥
yes_not_no is = cc

not_no : (b : Bool) → cond b Yes InDoubt ≡ No → ⊥
not_no true is = cc
not_no false is = cc

same_if_no : (same sound : Bool) → cond (same && sound) No InDoubt ≡ No → same ≡ true
same_if_no true sound is = refl
same_if_no false sound is = absurd (cc)

-- where a ticket is answered No, its life and its frame are the present ones
pub no_tells : (t : Ticket) (s : State) → settled s t ≡ No → (s.life ≡ t.life) × (t.frame ≡ s.frame)
no_tells t s told = by_frame (eqb_tells t.frame 0)
  where
    by_same : ((t.frame == s.frame) ≡ true) × (t.frame ≡ s.frame) ⊎ ((t.frame == s.frame) ≡ false) × (t.frame ≢ s.frame) → (t.frame == s.frame) ≡ true → t.frame ≡ s.frame
    by_same (inl same) is = same.1
    by_same (inr other) is = absurd (cc)

    by_written : ((t.frame == 0) ≡ false) → ((t.life == s.life) ≡ true) → ((nat_lt t.frame s.frame ≡ true) × (t.frame < s.frame)) ⊎ ((nat_lt t.frame s.frame ≡ false) × (s.frame < suc t.frame)) → t.frame ≡ s.frame
    by_written some same (inl written) = absurd (yes_not_no (rw (some, same, written.0) at told))
    by_written some same (inr unwritten) = by_same (eqb_tells t.frame s.frame) (same_if_no (t.frame == s.frame) (not s.broken) (rw (some, same, unwritten.0) at told))

    by_life : ((t.frame == 0) ≡ false) → ((t.life == s.life) ≡ true) × (t.life ≡ s.life) ⊎ ((t.life == s.life) ≡ false) × (t.life ≢ s.life) → (s.life ≡ t.life) × (t.frame ≡ s.frame)
    by_life some (inl same) = (sym same.1, by_written some same.0 (leb_tells (suc t.frame) s.frame))
    by_life some (inr other) = absurd (not_no (nat_lt 0 t.life && (nat_lt t.life s.life && nat_lt t.frame (end_of s t.life))) (rw (some, other.0) at told))

    by_frame : ((t.frame == 0) ≡ true) × (t.frame ≡ 0) ⊎ ((t.frame == 0) ≡ false) × (t.frame ≢ 0) → (s.life ≡ t.life) × (t.frame ≡ s.frame)
    by_frame (inl none) = absurd (yes_not_no (rw none.0 at told))
    by_frame (inr some) = by_life some.0 (eqb_tells t.life s.life)

-- what a life ended with is known for ever
pub end_stays : (s : State) (call : Call) (new : State) (kept : List Entry) (life : ℕ) → IsCounted s → Moves s call new kept → 1 ≤ life → life < s.life → end_of new life ≡ end_of s life
end_stays s call new kept life c (inl m) some later = ap (λ (l : List ℕ). get_or l (life - 1) 0) m.ends
end_stays s call new kept life c (inr (inl m)) some later = ap (λ (l : List ℕ). get_or l (life - 1) 0) m.ends
end_stays s call new kept life c (inr (inr m)) some later = ap (λ (l : List ℕ). get_or l (life - 1) 0) m.ends ∙ get_or_append_left s.ends (s.frame ∷ []) 0 (life - 1) (omega (arith, some, later, c.lives))

-- and a reopen makes it this life's frame
pub end_is : (s : State) (new : State) (life : ℕ) → IsCounted s → new.ends ≡ s.ends ++ s.frame ∷ [] → s.life ≡ life → end_of new life ≡ s.frame
end_is s new life c ends same =
    let place : life - 1 ≡ length s.ends = omega (arith, same, c.lives) in
    ap (λ (l : List ℕ). get_or l (life - 1) 0) ends ∙ (ap (λ (n : ℕ). get_or (s.ends ++ s.frame ∷ []) n 0) place ∙ get_or-append_seam s.ends s.frame [] 0)

written_moved : (t : Ticket) (s : State) (call : Call) (new : State) (kept : List Entry) → IsCounted s → Moves s call new kept → IsWritten t s → IsWritten t new
written_moved t s call new kept c (inl m) (inl here) = inl (m.life ∙ here.0, omega (arith, here.1, m.frame))
written_moved t s call new kept c (inr (inl m)) (inl here) = inl (m.life ∙ here.0, omega (arith, here.1, frame_grows (is_none_staged s.staged) s.frame new.frame m.frame))
written_moved t s call new kept c (inr (inr m)) (inl here) = inr (omega (arith, here.0, c.lives), omega (arith, here.0, m.life), omega (arith, here.1, end_is s new t.life c m.ends here.0))
written_moved t s call new kept c m (inr before) = inr (before.0, omega (arith, before.1, life_grows s call new kept m), omega (arith, before.2, end_stays s call new kept t.life c m before.0 before.1))

written_run : (t : Ticket) (s : State) (h : List Step) → IsCounted s → IsWritten t s → IsWritten t (state_after s h)
written_run t s [] c is = is
written_run t s (step ∷ h) c is =
    let new : State = after s step.call in
    let kept : List Entry = kept_by s step.call in
    let does : Moves s step.call new kept = moves s step.call in
    written_run t new h (counted_moved s step.call new kept c does) (written_moved t s step.call new kept c does is)

goes_on : (t : Ticket) (s : State) (h : List Step) → IsCounted s → (t.frame ≡ 0) ⊎ IsWritten t s → (t.frame ≡ 0) ⊎ IsWritten t (state_after s h)
goes_on t s h c (inl none) = inl none
goes_on t s h c (inr written) = inr (written_run t s h c written)

-- a ticket that was answered Yes is answered so after any further calls
pub stays_settled : (o : Opening) (h later : List Step) (t : Ticket) → settled (state_after (opening o) h) t ≡ Yes → settled (state_after (opening o) (h ++ later)) t ≡ Yes
stays_settled o h later t told =
    let s : State = state_after (opening o) h in
    let c : IsCounted s = counted_run (opening o) h (counted_opening o) in
    subst (λ (v : State). settled v t ≡ Yes) (sym (state-append (opening o) h later)) (tells_yes t (state_after s later) (goes_on t s later c (yes_tells t s told)))
