use Rattle.std.proofs.Common.{◌≡◌, ◌+◌, ◌-◌, ◌<◌, ◌≤◌, ◌++◌, ◌∷◌, [], ℕ, List, length, length-append, min, Ok, Err, inl, refl, sym, ◌∙◌, ap, subst, arith}
use Rattle.std.proofs.lemmas.List.{append-nil}
use Rattle.event_core.specs.Content.{Content}
use Rattle.channel_face.specs.Machine.{Call}
use Rattle.channel_lock.specs.Views.{View}
use Rattle.shared_channel.specs.Calls.{state_seen}
use Rattle.load_gen.specs.Calls.{Makes}
use Rattle.load_gen.specs.Counted.{Tells, TakesSome}
use Rattle.load_gen.specs.Events.{events_from}
use Rattle.load_gen.specs.Parts.{Does, IsSomeTaken}
use Rattle.load_gen.specs.Runs.{AreRounds, Generates, IsLoad, IsPut, IsRunOf, IsTaken, IsUpkeep, is_fiftieth, summary}
use Rattle.load_gen.specs.declared.refused.LoadRefused.TheVariants.{NoMemory}
use Rattle.load_gen.proofs.Making.{makes_look, makes_none, makes_then}
use Rattle.load_gen.specs.declared.tally.Tally.{Tally}
use Rattle.load_gen.proofs.Rounds.{SoFar, as_generated, at_next, batch_cut, rounds_more, takes_cut, upkeep_cut, whole_run}
use Rattle.load_gen.proofs.running.generate.Goals as goal

pub loop-events-init : goal.loop-events-init
loop-events-init g c =
    let t = c.new-tally.ensures in
    let none : c.new-tally.result.batches ≡ 0 = t.batches in
    record {
      rounds = makes_none c.args.pass.now.number c.args.pass.now.view (λ made. (takes : List (List Content)) × AreRounds c.args.n 0 takes made × Tells takes c.new-tally.result) ([], refl, t);
      n = c.new-events.ensures.0;
      next = let z = c.new-events.ensures.1 in omega (arith, z, none);
      most = omega (arith, none);
      table = refl;
      number = refl;
    }

pub returns-in-Err-clause-calls : goal.returns-in-Err-clause-calls
returns-in-Err-clause-calls g c =
    let n = c.args.n in
    let v = c.args.pass.now.view in
    let w = c.loop-events.pass.view in
    let x = c.put_batch.new.pass.view in
    let t = c.loop-events.tally in
    let next = c.loop-events.events.next in
    let inv = c.loop-events.invariant in
    let why = c.in-Err.refused in
    let Q : ℕ → List Call → Type 0 = λ m. Does (IsPut (events_from m next (min 100 (m - next)))) (length x.seen) (state_seen x) (Err why) in
    let left : next < n = let l = c.left.ensures in let e = inv.n in omega arith in
    makes_then c.args.pass.now.number v w x (SoFar n t) (Q n) (Generates n (length x.seen) (state_seen x) (Err why)) inv.rounds
    (subst (λ (p : ℕ × ℕ). Makes p.0 w x (Q p.1)) (λ i. (inv.number i, inv.n i)) c.in-Err.ensures.calls)
    (λ a b so is. as_generated n (length x.seen) (state_seen x) why (a ++ b) (batch_cut n next (length x.seen) (state_seen x) why t a b (inv.next, inv.most) left so is))

pub returns-in-Err-take_some-clause-calls : goal.returns-in-Err-take_some-clause-calls
returns-in-Err-take_some-clause-calls g c =
    let n = c.args.n in
    let v = c.args.pass.now.view in
    let w = c.loop-events.pass.view in
    let x = c.put_batch.new.pass.view in
    let y = c.take_some.new.pass.view in
    let t = c.loop-events.tally in
    let next = c.loop-events.events.next in
    let inv = c.loop-events.invariant in
    let why = c.in-Err-take_some.refused in
    let P : ℕ → List Call → Type 0 = λ m. IsPut (events_from m next (min 100 (m - next))) in
    let Q : List Call → Type 0 = Does (IsSomeTaken t.batches) (length y.seen) (state_seen y) (Err why) in
    let left : next < n = let l = c.left.ensures in let e = inv.n in omega arith in
    let put : Makes c.args.pass.now.number w x (P n) = subst (λ (p : ℕ × ℕ). Makes p.0 w x (P p.1)) (λ i. (inv.number i, inv.n i)) c.in_default.ensures.calls in
    makes_then c.args.pass.now.number v x y (λ made. (a put : List Call) × (made ≡ a ++ put) × SoFar n t a × P n put) Q (Generates n (length y.seen) (state_seen y) (Err why))
    (makes_then c.args.pass.now.number v w x (SoFar n t) (P n) (λ made. (a put : List Call) × (made ≡ a ++ put) × SoFar n t a × P n put) inv.rounds put (λ a b so is. (a, b, refl, so, is)))
    (subst (λ (m : ℕ). Makes m x y Q) (c.in_default.ensures.same.1 ∙ inv.number) c.in-Err-take_some.ensures.calls)
    (λ a b so is. as_generated n (length y.seen) (state_seen y) why (a ++ b) (subst (λ (l : List Call). Does (IsLoad n) (length y.seen) (state_seen y) (Err why) (l ++ b)) (sym so.2) (takes_cut n next (length y.seen) (state_seen y) why t so.0 so.1 b (inv.next, inv.most) left so.3 so.4 is)))

-- the calls of a round up to its takes, after those of the rounds before it
abbrev Taken : ℕ → ℕ → Tally → Tally → List Call → Type 0
Taken n next t u made =
    (a put took : List Call) × (made ≡ (a ++ put) ++ took) × SoFar n t a × IsPut (events_from n next (min 100 (n - next))) put
    × ((events : List Content) × IsTaken t.batches events took × ((takes : List (List Content)) → Tells takes t → Tells (takes ++ events ∷ []) u))

taken : (n next by by' by'' : ℕ) (v w x y : View) (t u : Tally) → by' ≡ by → by'' ≡ by → Makes by v w (SoFar n t) → Makes by' w x (IsPut (events_from n next (min 100 (n - next)))) → Makes by'' x y (TakesSome (length y.seen) (state_seen y) t u (Ok tt)) → Makes by v y (Taken n next t u)
taken n next by by' by'' v w x y t u one two rounds put took =
    let P : List Call → Type 0 = IsPut (events_from n next (min 100 (n - next))) in
    let Q : List Call → Type 0 = TakesSome (length y.seen) (state_seen y) t u (Ok tt) in
    let R : List Call → Type 0 = λ made. (a put : List Call) × (made ≡ a ++ put) × SoFar n t a × P put in
    let begun : Makes by v x R = makes_then by v w x (SoFar n t) P R rounds (subst (λ (m : ℕ). Makes m w x P) one put) (λ a b so is. (a, b, refl, so, is)) in
    makes_then by v x y R Q (Taken n next t u) begun (subst (λ (m : ℕ). Makes m x y Q) two took) (λ a b so is. (so.0, so.1, b, ap (λ (l : List Call). l ++ b) so.2, so.3, so.4, is))

-- the takes after a batch count it
one_batch : (n next : ℕ) (t u : Tally) (made : List Call) → Taken n next t u made → u.batches ≡ t.batches + 1
one_batch n next t u made is =
    let so = is.4 in
    let took = is.6 in
    (took.2 so.0 so.2).batches ∙ length-append so.0 (took.0 ∷ []) ∙ ap (λ (m : ℕ). m + 1) (sym so.2.batches)

pub returns-in-Err-keep_channel-clause-calls : goal.returns-in-Err-keep_channel-clause-calls
returns-in-Err-keep_channel-clause-calls g c =
    let n = c.args.n in
    let by = c.args.pass.now.number in
    let v = c.args.pass.now.view in
    let w = c.loop-events.pass.view in
    let x = c.put_batch.new.pass.view in
    let y = c.take_some.new.pass.view in
    let z = c.keep_channel.new.pass.view in
    let t = c.loop-events.tally in
    let u = c.take_some.new.tally in
    let next = c.loop-events.events.next in
    let inv = c.loop-events.invariant in
    let why = c.in-Err-keep_channel.refused in
    let Q : List Call → Type 0 = Does (IsUpkeep (is_fiftieth u.batches)) (length z.seen) (state_seen z) (Err why) in
    let left : next < n = let l = c.left.ensures in let e = inv.n in omega arith in
    let put : Makes c.loop-events.pass.number w x (IsPut (events_from n next (min 100 (n - next)))) = subst (λ (m : ℕ). Makes c.loop-events.pass.number w x (IsPut (events_from m next (min 100 (m - next))))) inv.n c.in_default.ensures.calls in
    let two = c.in_default.ensures.same.1 ∙ inv.number in
    let begun : Makes by v y (Taken n next t u) = taken n next by c.loop-events.pass.number c.put_batch.new.pass.number v w x y t u inv.number two inv.rounds put c.in_default-take_some.ensures.calls in
    makes_then by v y z (Taken n next t u) Q (Generates n (length z.seen) (state_seen z) (Err why)) begun
    (subst (λ (m : ℕ). Makes m y z Q) (c.in_default-take_some.ensures.same.1 ∙ two) c.in-Err-keep_channel.ensures.calls)
    (λ made b so is.
    let took = so.6 in
    let cut = upkeep_cut n next (length z.seen) (state_seen z) why t u.batches so.0 so.1 so.2 b took.0 (inv.next, inv.most) left so.4 so.5 took.1 (one_batch n next t u made so) is in
    as_generated n (length z.seen) (state_seen z) why (made ++ b) (subst (λ (l : List Call). Does (IsLoad n) (length z.seen) (state_seen z) (Err why) (l ++ b)) (sym so.3) cut))

pub loop-events-preserved : goal.loop-events-preserved
loop-events-preserved g c =
    let n = c.args.n in
    let by = c.args.pass.now.number in
    let v = c.args.pass.now.view in
    let w = c.loop-events.pass.view in
    let x = c.put_batch.new.pass.view in
    let y = c.take_some.new.pass.view in
    let z = c.keep_channel.new.pass.view in
    let t = c.loop-events.tally in
    let u = c.take_some.new.tally in
    let next = c.loop-events.events.next in
    let inv = c.loop-events.invariant in
    let Q : List Call → Type 0 = IsUpkeep (is_fiftieth u.batches) in
    let left : next < n = let l = c.left.ensures in let e = inv.n in omega arith in
    let put : Makes c.loop-events.pass.number w x (IsPut (events_from n next (min 100 (n - next)))) = subst (λ (m : ℕ). Makes c.loop-events.pass.number w x (IsPut (events_from m next (min 100 (m - next))))) inv.n c.in_default.ensures.calls in
    let two = c.in_default.ensures.same.1 ∙ inv.number in
    let three = c.in_default-take_some.ensures.same.1 ∙ two in
    let begun : Makes by v y (Taken n next t u) = taken n next by c.loop-events.pass.number c.put_batch.new.pass.number v w x y t u inv.number two inv.rounds put c.in_default-take_some.ensures.calls in
    let one : u.batches ≡ t.batches + 1 = one_batch n next t u _ begun.2 in
    let at = at_next n next c.put_batch.new.events.next t.batches u.batches (inv.next, inv.most) left (c.in_default.ensures.next ∙ ap (λ (m : ℕ). next + min 100 (m - next)) inv.n) one in
    record {
      rounds = makes_then by v y z (Taken n next t u) Q (SoFar n u) begun (subst (λ (m : ℕ). Makes m y z Q) three c.in_default-keep_channel.ensures.calls)
          (λ made b so is.
          let took = so.6 in
          subst (λ (l : List Call). SoFar n u (l ++ b)) (sym so.3) (rounds_more n next t u so.0 so.1 so.2 b took.0 (inv.next, inv.most) left so.4 so.5 took.1 took.2 one is));
      n = c.in_default.ensures.n ∙ inv.n;
      next = at.0;
      most = at.1;
      table = c.in_default-keep_channel.ensures.same.0 ∙ c.in_default-take_some.ensures.same.0 ∙ c.in_default.ensures.same.0 ∙ inv.table;
      number = c.in_default-keep_channel.ensures.same.1 ∙ three;
    }

pub returns-in-Ok-clause-calls : goal.returns-in-Ok-clause-calls
returns-in-Ok-clause-calls g c =
    let n = c.args.n in
    let w = c.loop-events.pass.view in
    let x = c.size-left.new.pass.view in
    let t = c.loop-events.tally in
    let inv = c.loop-events.invariant in
    let none : n ≤ c.loop-events.events.next = let l = c.left.ensures in let e = inv.n in omega arith in
    let look : Makes c.args.pass.now.number w x (λ made. made ≡ []) = subst (λ (m : ℕ). Makes m w x (λ made. made ≡ [])) inv.number (makes_look g.C.Channel.stands g.C.Channel.tells g.C.Channel.moment w x c.loop-events.pass.number c.size-left.ensures.look) in
    makes_then c.args.pass.now.number c.args.pass.now.view w x (SoFar n t) (λ made. made ≡ []) (Generates n (length x.seen) (state_seen x) (Ok c.in-Ok.text)) inv.rounds look
    (λ a b so is. (
      so.0,
      subst (λ (l : List Call). IsRunOf n so.0 l) (sym (ap (λ (l : List Call). a ++ l) is ∙ append-nil a)) (whole_run n c.loop-events.events.next t a (inv.next, inv.most) none so),
      c.in-Ok.ensures so.0 so.2 ∙ ap (summary n so.0) c.size-left.ensures.answer,
    ))

pub returns-in-Err-summary-clause-calls : goal.returns-in-Err-summary-clause-calls
returns-in-Err-summary-clause-calls g c =
    let n = c.args.n in
    let w = c.loop-events.pass.view in
    let x = c.size-left.new.pass.view in
    let t = c.loop-events.tally in
    let inv = c.loop-events.invariant in
    let none : n ≤ c.loop-events.events.next = let l = c.left.ensures in let e = inv.n in omega arith in
    let look : Makes c.args.pass.now.number w x (λ made. made ≡ []) = subst (λ (m : ℕ). Makes m w x (λ made. made ≡ [])) inv.number (makes_look g.C.Channel.stands g.C.Channel.tells g.C.Channel.moment w x c.loop-events.pass.number c.size-left.ensures.look) in
    makes_then c.args.pass.now.number c.args.pass.now.view w x (SoFar n t) (λ made. made ≡ []) (Generates n (length x.seen) (state_seen x) (Err NoMemory)) inv.rounds look
    (λ a b so is. inl (so.0, subst (λ (l : List Call). IsRunOf n so.0 l) (sym (ap (λ (l : List Call). a ++ l) is ∙ append-nil a)) (whole_run n c.loop-events.events.next t a (inv.next, inv.most) none so)))
