-- What is over stays so in longer histories.
use Rattle.std.proofs.Common.{◌≡◌, ◌∙◌, ◌++◌, ◌∷◌, [], ℕ, List, Ok, Err, Bool, true, false, length, length-append, refl, sym, ap, subst, append_assoc, arith}
use Rattle.std.proofs.lemmas.List.{append-nil}
use Rattle.channel_face.specs.Faces.{Own}
use Rattle.channel_face.specs.History.{IsRun, Opening, Step, opening, state_after}
use Rattle.channel_face.specs.Machine.{BeginPut, BeginTake, Call, Checkpoint, Flush, Prune, Put, Reopen, RollbackPut, RollbackTake, StagePut, StageTake, State, Take}
use Rattle.channel_face.specs.Token.{Token}
use Rattle.shared_channel.specs.Ports.{own_calls}
use Rattle.shared_channel.proofs.Porting.{own-append, own-none}
use Rattle.channel_lock.specs.Calls.{calls_by}
use Rattle.channel_lock.proofs.Histories.{calls_by-append, nil_of}
use Rattle.whole_calls.specs.Over.{AreOver, IsOver, StayOver}
use Rattle.whole_calls.proofs.Ending.{Stale, ended_run, ended_stale, kept_run, stale_ended}
use Rattle.whole_calls.proofs.Origins.{kept_opening}
use Rattle.whole_calls.proofs.Placing.{run_behind, run_front, state_append}
use Rattle.whole_calls.proofs.Shapes.{begins}
use Rattle.whole_calls.proofs.Turns.{HasBegun, begun_before}

-- a call that began a transaction which is over
over_call : (s t : State) (call : Call) → ((takes : Bool) (token : Token) → call ≡ begins takes token → Stale takes s token → Stale takes t token) → IsOver s call → IsOver t call
over_call s t (BeginPut (Ok token)) keep over = keep false token refl over
over_call s t (BeginPut (Err why)) keep over = tt
over_call s t (BeginTake (Ok token)) keep over = keep true token refl over
over_call s t (BeginTake (Err why)) keep over = tt
over_call s t (Put token event reply) keep over = tt
over_call s t (Take token reply) keep over = tt
over_call s t (StagePut token reply) keep over = tt
over_call s t (StageTake token reply) keep over = tt
over_call s t (Flush reply) keep over = tt
over_call s t (RollbackPut token ended) keep over = tt
over_call s t (RollbackTake token ended) keep over = tt
over_call s t (Checkpoint reply) keep over = tt
over_call s t (Prune reply) keep over = tt
over_call s t (Reopen reply) keep over = tt

module _ (tells : Bool) (ns : List ℕ) (start : Opening) (front back : List Step) (run : IsRun tells (opening start) (front ++ back)) where
  abbrev here : State
  here = state_after (opening start) front

  abbrev there : State
  there = state_after (opening start) (front ++ back)

  stays : (takes : Bool) (token : Token) → HasBegun takes token (own_calls ns (opening start) front) → Stale takes here token → Stale takes there token
  stays takes token has stale =
      let before = begun_before tells ns start (front ++ back) run takes token (own_calls ns (opening start) front) front back has refl refl in
      let kept = kept_run tells (opening start) front (run_front tells (opening start) front back run) (kept_opening start) in
      let later = ended_run tells takes here back token (run_behind tells (opening start) front back run) kept (stale_ended takes here token before stale) in
      subst (λ (s : State). Stale takes s token) (sym (state_append (opening start) front back)) (ended_stale takes (state_after here back) token later)

  all_stay : (a b : List Own) → own_calls ns (opening start) front ≡ a ++ b → AreOver here b → AreOver there b
  all_stay a [] split over = tt
  all_stay a (o ∷ b) split over = (
    over_call here there o.call (λ takes token is. stays takes token (record { front = a; begin = o; back = b; split = split; is = is })) over.0,
    all_stay (a ++ o ∷ []) b (split ∙ sym (append_assoc a (o ∷ []) b)) over.1,
  )

  -- what the calls of a front began
  pub over_later : AreOver here (own_calls ns (opening start) front) → AreOver there (own_calls ns (opening start) front)
  over_later over = all_stay [] (own_calls ns (opening start) front) refl over

-- a longer history with no further call of these numbers has the same calls of theirs
own_same : (ns : List ℕ) (s : State) (a b : List Step) → calls_by ns (a ++ b) ≡ calls_by ns a → own_calls ns s (a ++ b) ≡ own_calls ns s a
own_same ns s a b same =
    let whole : calls_by ns a ++ calls_by ns b ≡ calls_by ns a = sym (calls_by-append ns a b) ∙ same in
    let none : calls_by ns b ≡ [] = nil_of (calls_by ns b) (omega (arith, length-append (calls_by ns a) (calls_by ns b), ap length whole)) in
    own-append ns s a b ∙ ap (λ (l : List Own). own_calls ns s a ++ l) (own-none ns (state_after s a) b none) ∙ append-nil (own_calls ns s a)

home_over : (tells : Bool) (ns : List ℕ) (start : Opening) (a b : List Step) → IsRun tells (opening start) (a ++ b) → calls_by ns (a ++ b) ≡ calls_by ns a → AreOver (state_after (opening start) a) (own_calls ns (opening start) a)
    → AreOver (state_after (opening start) (a ++ b)) (own_calls ns (opening start) (a ++ b))
home_over tells ns start a b run same over = subst (AreOver (state_after (opening start) (a ++ b))) (sym (own_same ns (opening start) a b same)) (over_later tells ns start a b run over)

-- a pass's transactions that are over stay so in longer histories with no further call of its numbers
pub stay_over : StayOver
stay_over tells home pass run base (begins, same) over = from home.base home.seen base begins.1 run same
  where
    from : (start : Opening) (seen : List Step) → start ≡ pass.base → pass.seen ++ begins.0 ≡ seen → IsRun tells (opening start) seen → calls_by pass.numbers seen ≡ calls_by pass.numbers pass.seen
        → AreOver (state_after (opening start) seen) (own_calls pass.numbers (opening start) seen)
    from start seen base split run same =
        let run' : IsRun tells (opening pass.base) (pass.seen ++ begins.0) = subst (λ (x : Opening × List Step). IsRun tells (opening x.0) x.1) (λ i. (base i, sym split i)) run in
        let same' : calls_by pass.numbers (pass.seen ++ begins.0) ≡ calls_by pass.numbers pass.seen = ap (calls_by pass.numbers) split ∙ same in
        subst (λ (x : Opening × List Step). AreOver (state_after (opening x.0) x.1) (own_calls pass.numbers (opening x.0) x.1)) (λ i. (sym base i, split i)) (home_over tells pass.numbers pass.base pass.seen begins.0 run' same' over)
