-- The accounting holds in a new world, and each step keeps it.
use Rattle.std.proofs.Common.{◌≡◌, ◌++◌, ◌∷◌, [], ℕ, List, length, slice_get, Option, Some, None, refl, sym, ◌∙◌, ap, subst}
use Rattle.event_core.specs.declared.journal.Entry.{Entry}
use Rattle.channel_face.specs.Machine.{State}
use Rattle.world_laws.specs.World.{Tag, Delivery, Output, Acked, Channel, commits, Work, Attempt, Node, Request, Reply, World, live}
use Rattle.world_laws.specs.Steps.{Step, happens, next, run}
use Rattle.world_laws.specs.Held.{AtNode, AtChannel, ChannelsAreHistories, CommitsAreNamed, Holder, AnAttempt, ACommit, HoldsTag, HoldsOutput, NamesEntry, AWork, Held}
use Rattle.world_laws.specs.New.{IsNew}
use Rattle.world_laws.proofs.Lists.{no_some}
use Rattle.world_laws.proofs.Histories.{balances}
use Rattle.world_laws.proofs.Becoming.{Is}
use Rattle.world_laws.proofs.Moving.{Moved, Went, moves, node_after, sent_by, stepped}
use Rattle.world_laws.proofs.Staying.{came, all_go, each_node}
use Rattle.world_laws.proofs.Speaking.{speaks}
use Rattle.world_laws.proofs.Storing.{booked_of, acks_of, works_of, booked_after, passed_after}
use Rattle.world_laws.proofs.Holding.{delivering_of, takes_of, attempts_of}
use Rattle.world_laws.proofs.Delivering.{delivers_after}

-- each channel after a move is where a history leads
histories_after : (w : World) (n : ℕ) (old : Node) (m : Moved w n old) → AtNode w n old → ChannelsAreHistories w → ChannelsAreHistories (stepped w n (node_after m) (sent_by m))
histories_after w n old m here are l place d has =
    each_node (λ node. (place : ℕ) (d : Channel) → slice_get node.channels place ≡ Some d → Is d) w n old (node_after m) here (λ l node is place d there. are l place d (node, is, there)) new l has.0 has.1 place d has.2
  where
    R : Channel → Channel → Type 0
    R c d = Is c → Is d

    new : (place : ℕ) (d : Channel) → slice_get (node_after m).channels place ≡ Some d → Is d
    new place d there =
        let c = came R old.channels (node_after m).channels (all_go R w n old m (λ c is. is) (λ c d added b is. b.history) (λ c d cut r is. r.history)) place d there in
        c.2 (are n place c.0 (old, here, c.1))

went_holds : (w new : World) → Held w → Went w new → Held new
went_holds w new held went = subst Held went.is (after went.n went.old went.here went.move)
  where
    after : (n : ℕ) (old : Node) → AtNode w n old → (m : Moved w n old) → Held (stepped w n (node_after m) (sent_by m))
    after n old here m =
        let booked = booked_after w n old m (booked_of old (held.acknowledged n old here) (held.works.stored n old here)) in
        let passed = passed_after w n old m (held.acknowledged n old here).passed in
        let spoken = speaks w n old m here held.packets held.works.asked in
        let delivering = delivers_after w n old m here (delivering_of w held.delivered held.attempts) held.packets in
        let histories = histories_after w n old m here held.histories in
        record {
          acknowledged = each_node _ w n old (node_after m) here held.acknowledged (acks_of (node_after m) booked passed);
          delivered = takes_of (stepped w n (node_after m) (sent_by m)) delivering;
          numbers = λ l place c has. balances c (histories l place c has);
          packets = spoken.0;
          attempts = attempts_of (stepped w n (node_after m) (sent_by m)) delivering;
          works = record { asked = spoken.1; stored = each_node _ w n old (node_after m) here held.works.stored (works_of (node_after m) booked) };
          histories = histories;
        }

-- Each step keeps the accounting, whether or not it can be taken.
pub step_holds : (w : World) (step : Step) → Held w → Held (next w (happens w step))
step_holds w step held = from (happens w step) refl
  where
    from : (x : Option World) → happens w step ≡ x → Held (next w x)
    from None is = held
    from (Some new) is = went_holds w new held (moves w step new held is)

-- so does every list of steps
pub run_holds : (w : World) (steps : List Step) → Held w → Held (run w steps)
run_holds w [] held = held
run_holds w (step ∷ steps) held = run_holds (next w (happens w step)) steps (step_holds w step held)

-- a new world

none_get : {A : Type 0} (xs : List A) (i : ℕ) (x : A) → xs ≡ [] → slice_get xs i ≡ Some x → ⊥
none_get xs i x empty is = no_some x (ap (λ (l : List _). slice_get l i) (sym empty) ∙ is)

none_live : {A : Type 0} (xs : List (Option A)) (i : ℕ) (x : A) → xs ≡ [] → live xs i ≡ Some x → ⊥
none_live xs i x empty is = no_some x (ap (λ (l : List _). live l i) (sym empty) ∙ is)

module _ (w : World) (is : IsNew w) where
  no_ack : (n : ℕ) (node : Node) → AtNode w n node → (place : ℕ) (ack : Work) → slice_get node.acks place ≡ Some ack → ⊥
  no_ack n node has place ack there = none_get node.acks place ack (is.nodes n node has).acks there

  no_work : (n : ℕ) (node : Node) → AtNode w n node → (k : ℕ) (work : Work) → live node.works k ≡ Some work → ⊥
  no_work n node has k work there = none_live node.works k work (is.nodes n node has).works there

  no_attempt : (n : ℕ) (node : Node) → AtNode w n node → (k : ℕ) (a : Attempt) → live node.attempts k ≡ Some a → ⊥
  no_attempt n node has k a there = none_live node.attempts k a (is.nodes n node has).attempts there

  no_name : (n channel place : ℕ) (c : Channel) (x : Option Delivery) → AtChannel w n channel c → slice_get c.named place ≡ Some x → ⊥
  no_name n channel place c x has there = none_get c.named place x ((is.nodes n has.0 has.1).channels channel c has.2).named there

  histories : ChannelsAreHistories w
  histories n channel c has =
      let k = (is.nodes n has.0 has.1).channels channel c has.2 in
      record {
        start = k.start;
        calls = [];
        empty = k.empty;
        kind = ap (λ (s : State). s.rules.kind) k.state ∙ k.kind;
        run = tt;
        fronts = tt;
        state = sym k.state;
        journal_is = sym k.journal;
      }

  no_tag : (h : Holder) (t : Tag) → HoldsTag w h t → ⊥
  no_tag (AnAttempt n k) t held = no_attempt n held.1.0 held.1.1 k held.0 held.1.2
  no_tag (ACommit n channel place) t held = no_name n channel place held.0 (Some (Acked held.1 held.2)) held.4 held.5

  no_output : (h : Holder) (m p : ℕ) → HoldsOutput w h m p → ⊥
  no_output (AnAttempt n k) m p held = no_attempt n held.1.1.0 held.1.1.1 k held.1.0 held.1.1.2
  no_output (ACommit n channel place) m p held = no_name n channel place held.1.0 (Some (Output p)) held.1.1 held.1.2

  no_entry : (n : ℕ) (node : Node) → AtNode w n node → (k : ℕ) (e : ℕ × ℕ) → NamesEntry node (AWork k) e → ⊥
  no_entry n node has k e names = no_work n node has k names.0 names.1

  commits_named : (n channel : ℕ) (c : Channel) → AtChannel w n channel c → CommitsAreNamed w n c
  commits_named n channel c has =
      let k = (is.nodes n has.0 has.1).channels channel c has.2 in
      let none : commits c ≡ [] = ap (λ (l : List Entry). l ++ c.state.staged) k.journal ∙ ap (λ (s : State). s.staged) k.state in
      record {
        beside = ap length k.named ∙ ap length (sym none);
        names = λ p entry name x y. absurd (none_get (commits c) p entry none x);
      }

  -- In a new world the accounting holds.
  pub new_holds : Held w
  new_holds = record {
    acknowledged = λ n node has. record {
      stored = λ place ack there. absurd (no_ack n node has place ack there);
      passed = λ place ack there. absurd (no_ack n node has place ack there);
      once = λ i j a b e x y p q. absurd (no_ack n node has i a x);
    };
    delivered = record {
      named = λ n node has channel c there. commits_named n channel c (node, has, there);
      tags = λ a b t p q x y. absurd (no_tag a t x);
      outputs = λ a b m p c d x y. absurd (no_output a m p x);
    };
    numbers = λ n channel c has. balances c (histories n channel c has);
    packets = record {
      differ = λ j k n m tag a b x y. absurd (none_get w.sent j (Request n tag a) is.sent x);
      asked = λ n place ack has. absurd (no_ack n has.0 has.1 place ack has.2);
      replied = λ k n place tag has. absurd (none_get w.sent k (Reply tag n place) is.sent has);
    };
    attempts = record {
      agree = λ n node has k a there. absurd (no_attempt n node has k a there);
      apart = λ n node has i j a b x y c t. absurd (no_attempt n node has i a x);
      tags = λ n k b tag x y. absurd (no_tag (AnAttempt n k) tag x);
      outputs = λ n k b m p x y. absurd (no_output (AnAttempt n k) m p x);
    };
    works = record {
      asked = λ n k work has. absurd (no_work n has.0 has.1 k work has.2);
      stored = λ n node has. record {
        stored = λ k work there. absurd (no_work n node has k work there);
        once = λ k b e x y. absurd (no_entry n node has k e x);
      };
    };
    histories = histories;
  }
