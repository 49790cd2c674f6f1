-- What a channel can do, a step of the world can.
use Rattle.std.proofs.Common.{◌⊎◌, inl, inr, ◌≡◌, ◌≢◌, ◌<◌, ◌-◌, ◌^◌, ◌++◌, ◌∷◌, [], ℕ, List, length, slice_get, slice_set, Option, Some, None, Ok, Err, Bool, true, false, ◌==◌, ◌&&◌, not, refl, ◌∙◌, ap}
use Rattle.std.proofs.lemmas.Bool.Decides.{eqb_tells}
use Rattle.event_core.specs.Content.{Content}
use Rattle.channel_face.specs.Token.{Token}
use Rattle.channel_face.specs.Machine.{State, BeginTake, Take, StagePut, StageTake, RollbackTake, Reopen, Front, Admits, after, puts_of}
use Rattle.channel_face.specs.declared.replies.Ticket.{Ticket}
use Rattle.world_laws.specs.World.{World, Node, Channel, Work, Attempt, Delivery, Packet, share, and_then, live}
use Rattle.world_laws.specs.Channels.{only_if, is_none, is_empty, stored, aside, flushed, failed, take_begun, taken, committed, given_up, reopened}
use Rattle.world_laws.specs.Steps
use Rattle.world_laws.specs.Steps.{Step, on_channel, is_passed, accepted, accept, begin_take, take_one, end_work, end_attempt, commit, mend, without_works, without_attempts, quietly, at, happens}
use Rattle.world_laws.specs.Held.{AtNode, Held}
use Rattle.world_laws.specs.Agrees.{IsReached, Agrees, IsTaken, CallsAreTaken}
use Rattle.world_laws.specs.Joins.{StepIsTaken, IsTaking, StepsAreTaken}
use Rattle.world_laws.proofs.Lists.{set_here}
use Rattle.world_laws.proofs.Moving.{stepped, attempt_of}
use Rattle.world_laws.proofs.Agreeing.{calls_are_taken}

same_number : (a b : ℕ) → a ≡ b → (a == b) ≡ true
same_number a b same = from (eqb_tells a b)
  where
    from : ((a == b) ≡ true) × (a ≡ b) ⊎ ((a == b) ≡ false) × (a ≢ b) → (a == b) ≡ true
    from (inl is) = is.0
    from (inr isnt) = absurd (isnt.1 same)

module _ (w : World) (n channel : ℕ) (node : Node) (c : Channel) (s : State) (held : Held w) (here : AtNode w n node) (there : slice_get node.channels channel ≡ Some c) (can : CallsAreTaken s c) where
  -- a step of the node is one of the world
  goes : (f : Node → Option Node) (x : Node) → f node ≡ Some x → at w n (λ k. quietly (f k)) ≡ Some (stepped w n x [])
  goes f x is =
      let send : Node × List Packet → Option World = λ r. Some (stepped w n r.0 r.1) in
      ap (λ (o : Option Node). and_then o (λ k. and_then (quietly (f k)) send)) here ∙ ap (λ (o : Option Node). and_then (quietly o) send) is

  -- and leaves this channel there
  leaves : (step : Step) (x : Node) (d : Channel) (after_it : State) → happens w step ≡ Some (stepped w n x []) → slice_get x.channels channel ≡ Some d → Agrees d.state after_it → StepIsTaken w step n channel after_it
  leaves step x d after_it is has agrees = (stepped w n x [], d, is, (x, set_here w.nodes n node x here, has), agrees)

  on_channel_goes : (f : Channel → Option Channel) (d : Channel) → f c ≡ Some d → on_channel channel f node ≡ Some (record node { channels = slice_set node.channels channel d })
  on_channel_goes f d is =
      let make : Channel → Option Node = λ x. Some (record node { channels = slice_set node.channels channel x }) in
      ap (λ (o : Option Channel). and_then o (λ k. and_then (f k) make)) there ∙ ap (λ (o : Option Channel). and_then o make) is

  -- one channel goes on
  by_channel : (step : Step) (f : Channel → Option Channel) (after_it : State) → happens w step ≡ at w n (λ k. quietly (on_channel channel f k)) → IsTaken (f c) after_it → StepIsTaken w step n channel after_it
  by_channel step f after_it is taken_it =
      leaves step (record node { channels = slice_set node.channels channel taken_it.0 }) taken_it.0 after_it
      (is ∙ goes (on_channel channel f) (record node { channels = slice_set node.channels channel taken_it.0 }) (on_channel_goes f taken_it.0 taken_it.1))
      (set_here node.channels channel c taken_it.0 there) taken_it.2

  accepts : (number : ℕ) (work : Work) (token : Token) (ticket : Ticket) (e : Content) (events : List Content) → c.state.txn < 2 ^ 64 - 1 → live node.works number ≡ Some work → is_passed work channel ≡ false → share node work.made channel ≡ e ∷ events
      → puts_of s token ≡ Some (e ∷ events) → Admits true s (StagePut token (Ok ticket)) → StepIsTaken w (Steps.Accept n number channel) n channel (after s (StagePut token (Ok ticket)))
  accepts number work token ticket e events few its fresh mine puts may =
      let t = can.stored token ticket e events few puts may in
      let mine_of : Work → List Content = λ k. share node k.made channel in
      let test : Work → Bool = λ k. not (is_empty (mine_of k)) && not (is_passed k channel) in
      let go : Work → Channel → Option Node = λ k x. only_if (test k) (accepted node number k channel x (stored (mine_of k) x)) in
      let new : Node = accepted node number work channel c (Some t.0) in
      let got : stored (mine_of work) c ≡ Some t.0 = ap (λ (l : List Content). stored l c) mine ∙ t.1 in
      let yes : test work ≡ true = ap (λ (l : List Content). not (is_empty l) && not (is_passed work channel)) mine ∙ ap (λ (b : Bool). true && not b) fresh in
      let step : accept number channel node ≡ Some new =
      ap (λ (o : Option Work). and_then o (λ k. and_then (slice_get node.channels channel) (go k))) its
      ∙ (ap (λ (o : Option Channel). and_then o (go work)) there
      ∙ (ap (λ (b : Bool). only_if b (accepted node number work channel c (stored (mine_of work) c))) yes ∙ ap (λ (o : Option Channel). Some (accepted node number work channel c o)) got)) in
      leaves (Steps.Accept n number channel) new t.0 (after s (StagePut token (Ok ticket))) (goes (accept number channel) new step) (set_here node.channels channel c t.0 there) t.2

  begins : (token : Token) → c.state.txn < 2 ^ 64 - 1 → Admits true s (BeginTake (Ok token)) → StepIsTaken w (Steps.Take n channel None) n channel (after s (BeginTake (Ok token)))
  begins token few may =
      let t = can.begun token few may in
      let make : Channel → Channel → Option Node = λ x d. Some (record node { channels = slice_set node.channels channel d; attempts = node.attempts ++ Some (attempt_of channel x) ∷ [] }) in
      let new : Node = record node { channels = slice_set node.channels channel t.0; attempts = node.attempts ++ Some (attempt_of channel c) ∷ [] } in
      let step : begin_take channel node ≡ Some new = ap (λ (o : Option Channel). and_then o (λ x. and_then (take_begun x) (make x))) there ∙ ap (λ (o : Option Channel). and_then o (make c)) t.1 in
      leaves (Steps.Take n channel None) new t.0 (after s (BeginTake (Ok token))) (goes (begin_take channel) new step) (set_here node.channels channel c t.0 there) t.2

  -- an attempt of the channel
  module _ (number : ℕ) (a : Attempt) (token : Token) (is : IsTaking node c s channel number a token) where
    at_own : slice_get node.channels a.channel ≡ Some c
    at_own = ap (λ (k : ℕ). slice_get node.channels k) is.of ∙ there

    set_own : (d : Channel) → slice_get (slice_set node.channels a.channel d) channel ≡ Some d
    set_own d = ap (λ (k : ℕ). slice_get (slice_set node.channels k d) channel) is.of ∙ set_here node.channels channel c d there

    takes_one : (e : Content) → a.tag ≡ None → a.delivery ≡ None → Admits true s (Take token (Ok (record { event = Some e; spilled = false }))) → StepIsTaken w (Steps.Take n channel (Some number)) n channel (after s (Take token (Ok (record { event = Some e; spilled = false }))))
    takes_one e no_tag no_delivery may =
        let t = can.taken token a.token e is.same may in
        let make : Attempt → Channel × Content → Node = λ k got. record node { channels = slice_set node.channels k.channel got.0; attempts = slice_set node.attempts number (Some (record k { events = k.events ++ got.1 ∷ [] })) } in
        let test : Attempt → Bool = λ k. (k.channel == channel) && (is_none k.tag && is_none k.delivery) in
        let go : Attempt → Channel × Content → Option Node = λ k got. only_if (test k) (make k got) in
        let new : Node = make a (t.0, e) in
        let yes : test a ≡ true = ap (λ (b : Bool). b && (is_none a.tag && is_none a.delivery)) (same_number a.channel channel is.of) ∙ (ap (λ (x : Option _). is_none x && is_none a.delivery) no_tag ∙ ap is_none no_delivery) in
        let step : take_one channel number node ≡ Some new =
        ap (λ (o : Option Attempt). and_then o (λ k. and_then (slice_get node.channels k.channel) (λ x. and_then (taken k.token x) (go k)))) is.live_one
        ∙ (ap (λ (o : Option Channel). and_then o (λ x. and_then (taken a.token x) (go a))) at_own
        ∙ (ap (λ (o : Option (Channel × Content)). and_then o (go a)) t.1 ∙ ap (λ (b : Bool). only_if b new) yes)) in
        leaves (Steps.Take n channel (Some number)) new t.0 (after s (Take token (Ok (record { event = Some e; spilled = false })))) (goes (take_one channel number) new step) (set_own t.0) t.2

    -- it ends, and its channel goes on
    ends_with : (f : Channel → Option Channel) (d : Channel) → f c ≡ Some d → on_channel a.channel f (record node { attempts = slice_set node.attempts number None }) ≡ Some (record node { channels = slice_set node.channels a.channel d; attempts = slice_set node.attempts number None })
    ends_with f d got =
        let make : Channel → Option Node = λ x. Some (record node { channels = slice_set node.channels a.channel x; attempts = slice_set node.attempts number None }) in
        ap (λ (o : Option Channel). and_then o (λ k. and_then (f k) make)) at_own ∙ ap (λ (o : Option Channel). and_then o make) got

    commits_one : (delivery : Delivery) (ticket : Ticket) → a.delivery ≡ Some delivery → Admits true s (StageTake token (Ok ticket)) → StepIsTaken w (Steps.Commit n number) n channel (after s (StageTake token (Ok ticket)))
    commits_one delivery ticket its may =
        let t = can.committed token a.token ticket delivery a.events is.same may in
        let less : Node = record node { attempts = slice_set node.attempts number None } in
        let new : Node = record node { channels = slice_set node.channels a.channel t.0; attempts = slice_set node.attempts number None } in
        let step : commit number node ≡ Some new =
        ap (λ (o : Option Attempt). and_then o (λ k. and_then k.delivery (λ x. on_channel k.channel (committed k.token x k.events) less))) is.live_one
        ∙ (ap (λ (o : Option Delivery). and_then o (λ x. on_channel a.channel (committed a.token x a.events) less)) its ∙ ends_with (committed a.token delivery a.events) t.0 t.1) in
        leaves (Steps.Commit n number) new t.0 (after s (StageTake token (Ok ticket))) (goes (commit number) new step) (set_own t.0) t.2

    gives_up : Admits true s (RollbackTake token true) → StepIsTaken w (Steps.EndAttempt n number) n channel (after s (RollbackTake token true))
    gives_up may =
        let t = can.given_up token a.token is.same may in
        let less : Node = record node { attempts = slice_set node.attempts number None } in
        let new : Node = record node { channels = slice_set node.channels a.channel t.0; attempts = slice_set node.attempts number None } in
        let step : end_attempt number node ≡ Some new = ap (λ (o : Option Attempt). and_then o (λ k. on_channel k.channel (given_up k.token) less)) is.live_one ∙ ends_with (given_up a.token) t.0 t.1 in
        leaves (Steps.EndAttempt n number) new t.0 (after s (RollbackTake token true)) (goes (end_attempt number) new step) (set_own t.0) t.2

  mends : (kept txn : ℕ) → c.state.life < 2 ^ 64 - 1 → Admits true s (Reopen (Ok (record { kept = Front kept; txn = txn }))) → StepIsTaken w (Steps.Mend n channel kept) n channel (after s (Reopen (Ok (record { kept = Front kept; txn = txn }))))
  mends kept txn life may =
      let t = can.reopened kept txn life may in
      let make : Channel → Channel → Option Node = λ x d. Some (record node { channels = slice_set node.channels channel d; works = without_works channel (length x.journal) node.works; attempts = without_attempts channel node.attempts }) in
      let new : Node = record node { channels = slice_set node.channels channel t.0; works = without_works channel (length c.journal) node.works; attempts = without_attempts channel node.attempts } in
      let step : mend channel kept node ≡ Some new = ap (λ (o : Option Channel). and_then o (λ x. and_then (reopened kept x) (make x))) there ∙ ap (λ (o : Option Channel). and_then o (make c)) t.1 in
      leaves (Steps.Mend n channel kept) new t.0 (after s (Reopen (Ok (record { kept = Front kept; txn = txn })))) (goes (mend channel kept) new step) (set_here node.channels channel c t.0 there) t.2

  work_goes : (number : ℕ) → (live node.works number ≡ None) ⊎ ((new : World) × (happens w (Steps.EndWork n number) ≡ Some new))
  work_goes number = from (live node.works number) refl
    where
      new : Node
      new = record node { works = slice_set node.works number None }

      from : (x : Option Work) → live node.works number ≡ x → (live node.works number ≡ None) ⊎ ((new : World) × (happens w (Steps.EndWork n number) ≡ Some new))
      from None is = inl is
      from (Some work) is = inr (stepped w n new [], goes (end_work number) new (ap (λ (o : Option Work). and_then o (λ k. Some new)) is))

  attempt_goes : (number : ℕ) → (live node.attempts number ≡ None) ⊎ ((new : World) × (happens w (Steps.EndAttempt n number) ≡ Some new))
  attempt_goes number = from (live node.attempts number) refl
    where
      less : Node
      less = record node { attempts = slice_set node.attempts number None }

      from : (x : Option Attempt) → live node.attempts number ≡ x → (live node.attempts number ≡ None) ⊎ ((new : World) × (happens w (Steps.EndAttempt n number) ≡ Some new))
      from None is = inl is
      from (Some a) is =
          let own = held.attempts.agree n node here number a is in
          let make : Channel → Option Node = λ x. Some (record less { channels = slice_set node.channels a.channel x }) in
          let step = ap (λ (o : Option Attempt). and_then o (λ k. on_channel k.channel (given_up k.token) less)) is ∙ ap (λ (o : Option Channel). and_then o (λ k. and_then (given_up a.token k) make)) own.1 in
          inr (stepped w n _ [], goes (end_attempt number) _ step)

  steps_are_taken : StepsAreTaken w n channel node c s
  steps_are_taken = record {
    accept = accepts;
    aside = λ token ticket e events few puts may. by_channel (Steps.Aside n channel (e ∷ events)) (aside (e ∷ events)) (after s (StagePut token (Ok ticket))) refl (can.stored token ticket e events few puts may);
    settled = λ call is may. by_channel (Steps.Flush n channel true) (flushed true) (after s call) refl (can.settled call is may);
    broken = λ call is may. by_channel (Steps.Flush n channel false) (flushed false) (after s call) refl (can.broken call is may);
    begun = begins;
    taken = λ number a token e is tag delivery may. takes_one number a token is e tag delivery may;
    committed = λ number a delivery token ticket is its may. commits_one number a token is delivery ticket its may;
    given_up = λ number a token is may. gives_up number a token is may;
    mended = mends;
    failed = λ cause may. by_channel (Steps.Fail n channel) failed (after s (Reopen (Err cause))) refl (can.failed cause may);
    work_ends = work_goes;
    attempt_ends = attempt_goes;
  }

-- Each call of a running channel that is a step can be taken in a world whose channel agrees with it.
pub calls_join : (w : World) (n channel : ℕ) (node : Node) (c : Channel) (s : State) → Held w → AtNode w n node → slice_get node.channels channel ≡ Some c → IsReached s → Agrees c.state s → StepsAreTaken w n channel node c s
calls_join w n channel node c s held here there reached agrees = steps_are_taken w n channel node c s held here there (calls_are_taken s c reached (held.histories n channel c (node, here, there)) agrees)
