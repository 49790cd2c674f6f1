-- Calls through a port, one transaction after the other, leave none open.
use Rattle.std.proofs.Common.{◌≡◌, ◌∙◌, ◌++◌, ◌∷◌, [], ℕ, List, Result, Ok, Err, Bool, true, false, refl, sym, subst}
use Rattle.std.proofs.lemmas.List.{append-nil}
use Rattle.agent_end.specs.Drains.{Deliveries, EndsDrain, LooksOnce, RunsOnEvents}
use Rattle.agent_end.specs.declared.draining.ChannelDrain.{ChannelDrain}
use Rattle.agent_end.specs.declared.draining.ChannelDrain.TheVariants.{Emptied, Stopped}
use Rattle.channel_face.specs.Faces.{Gains, Own}
use Rattle.channel_face.specs.History.{IsRun, Opening, Step, opening, reopen_reply, state_after}
use Rattle.channel_face.specs.Keeps.{IsMend, is_spent_open}
use Rattle.channel_face.specs.Machine.{Reopen, State}
use Rattle.channel_face.specs.declared.replies.OpenCause.{OpenCause}
use Rattle.channel_face.specs.declared.replies.FaceRefused.{FaceRefused}
use Rattle.event_core.specs.Content.{Content}
use Rattle.shared_channel.specs.Calls.{state_seen}
use Rattle.shared_channel.specs.Passes.{Known}
use Rattle.shared_channel.specs.Ports.{AreOwned, Later, Saw, Stood, later_none, later_then, owned}
use Rattle.sink_runner.specs.declared.turn.Turn.{Turn}
use Rattle.sink_runner.specs.declared.turn.Turn.TheVariants.{Delivered}
use Rattle.sink_worker.specs.Answers.{needs_mend}
use Rattle.sink_worker.specs.Rounds.{MendsIf, MendsOnce, Rounds, Taking, Told, TurnsOnce}
use Rattle.two_channels.specs.Ports.{LaterPort, SawIn, pass_of}
use Rattle.two_channels.specs.declared.port.EitherPort.{EitherPort}
use Rattle.two_channels.specs.declared.port.EitherPort.TheVariants.{Disk, Memory}
use Rattle.whole_calls.specs.Leaving.{DrainsAreOver, PortPuts, PutsAreOver, RoundsAreOver, StaysOver, port_says}
use Rattle.whole_calls.specs.Over.{AreOver, SawRun}
use Rattle.whole_calls.proofs.Later.{over_later}
use Rattle.whole_calls.proofs.Placing.{run_front}
use Rattle.whole_calls.proofs.Turns.{batch_over, over_append, over_made, turn_over}

-- what a face saw is of its pass, and after some calls it has the same pass, later
pub record IsFace {F : Type 0} (pass : F → Known) (saw : F → List Own → State → Type 0) (kept : F → F → Type 0) : Type 0 where
  pub saws : (q : F) (own : List Own) (s : State) → saw q own s → (owned (pass q).view ≡ own) × (state_seen (pass q).view ≡ s)
  pub laters : (p q : F) → kept p q → Later (pass p) (pass q)

-- a port is a face of its pass
pub port_face : {F : Type 0} (pass : F → Known) {C : Type 0} (stands : C → Opening → List Step → Type 0) → IsFace pass (λ p. Saw stands (pass p).view) (λ p q. Later (pass p) (pass q))
port_face pass stands = record { saws = λ q own s saw. (saw.own_all, saw.state); laters = λ p q l. l }

either_saws : {R A B : Type 0} (disk : A → Opening → List Step → Type 0) (memory : B → Opening → List Step → Type 0) (q : EitherPort R A B) (own : List Own) (s : State) → SawIn disk memory q own s → (owned (pass_of q).view ≡ own) × (state_seen (pass_of q).view ≡ s)
either_saws disk memory (Disk q) own s saw = (saw.own_all, saw.state)
either_saws disk memory (Memory q) own s saw = (saw.own_all, saw.state)

either_laters : {R A B : Type 0} (p q : EitherPort R A B) → LaterPort p q → Later (pass_of p) (pass_of q)
either_laters (Disk p) (Disk q) l = l
either_laters (Disk p) (Memory q) l = absurd l
either_laters (Memory p) (Disk q) l = absurd l
either_laters (Memory p) (Memory q) l = l

-- a port of either kind of channel is a face of its pass
pub either_face : {R A B : Type 0} (disk : A → Opening → List Step → Type 0) (memory : B → Opening → List Step → Type 0) → IsFace {F = EitherPort R A B} pass_of (SawIn disk memory) LaterPort
either_face disk memory = record { saws = either_saws disk memory; laters = either_laters }

-- A pass goes on, and leaves none open where it had left none.
pub record Goes (p q : Known) : Type 0 where
  pub later : Later p q
  pub stays : StaysOver p q

-- without a call a pass leaves none open where it had left none
pub goes_none : (p : Known) → Goes p p
goes_none p = record { later = later_none p; stays = λ tells run over. over }

-- the machine's answers to what had been seen
run_before : (tells : Bool) (p q : Known) → Later p q → SawRun tells q.view → SawRun tells p.view
run_before tells p q l run = run_front tells (opening p.view.base) p.view.seen l.begins.0 (subst (λ (x : Opening × List Step). IsRun tells (opening x.0) x.1) (λ i. (l.base i, sym l.begins.1 i)) run)

-- a pass goes on, and then further
pub goes_then : (p q r : Known) → Goes p q → Goes q r → Goes p r
goes_then p q r f g = record { later = later_then p q r f.later g.later; stays = λ tells run over. g.stays tells run (f.stays tells (run_before tells q r g.later run) over) }

-- it made these calls, of which it is so
goes_by : (p q : Known) → Later p q → (more : List Own) → owned p.view ++ more ≡ owned q.view → ((tells : Bool) → SawRun tells q.view → AreOver (state_seen q.view) more) → Goes p q
goes_by p q l more all over = record {
  later = l;
  stays = λ tells run before.
      let whole : IsRun tells (opening p.view.base) (p.view.seen ++ l.begins.0) = subst (λ (x : Opening × List Step). IsRun tells (opening x.0) x.1) (λ i. (l.base i, sym l.begins.1 i)) run in
      let there = over_later tells p.view.numbers p.view.base p.view.seen l.begins.0 whole before in
      let here : AreOver (state_seen q.view) (owned p.view) = subst (λ (x : Opening × List Step). AreOver (state_after (opening x.0) x.1) (owned p.view)) (λ i. (sym l.base i, l.begins.1 i)) there in
      subst (AreOver (state_seen q.view)) all (over_append (state_seen q.view) (owned p.view) more here (over tells run));
}

-- a mend begins none
pub mend_over : (s : State) (OnDisk : Type 0) (saw : List Own → State → Type 0) (seen : ℕ) (result : Result Bool OpenCause) (earlier own : List Own) → IsMend OnDisk saw seen result earlier own → AreOver s own
mend_over s OnDisk saw seen (Ok false) earlier own (none, look) = subst (AreOver s) (sym none) tt
mend_over s OnDisk saw seen (Ok true) earlier own (on, (reply, kept, t, found, broken, made, is)) = over_made s t seen (is_spent_open reply) (Reopen (reopen_reply reply kept)) own tt made
mend_over s OnDisk saw seen (Err cause) earlier own (on, (reply, kept, t, found, broken, made, is)) = over_made s t seen (is_spent_open reply) (Reopen (reopen_reply reply kept)) own tt made

module _ {F : Type 0} (pass : F → Known) (saw : F → List Own → State → Type 0) (kept : F → F → Type 0) (face : IsFace pass saw kept) where
  -- what a face saw stood at the end of what its pass has seen
  stood : (q : F) (own : List Own) (s : State) → saw q own s → Stood (pass q).view.base (pass q).view.seen (pass q).view.numbers own s
  stood q own s seen = let told = face.saws q own s seen in ((pass q).view.seen, ([], append-nil (pass q).view.seen), told.0, told.1)

  -- from the calls of a face
  pub goes_face : (p q : F) → kept p q → (P : List Own → List Own → Type 0) → Gains (AreOwned (pass p).view) (AreOwned (pass q).view) P
      → ((tells : Bool) (more : List Own) → SawRun tells (pass q).view → owned (pass p).view ++ more ≡ owned (pass q).view → P (owned (pass p).view) more → AreOver (state_seen (pass q).view) more) → Goes (pass p) (pass q)
  goes_face p q k P gains over =
      let at = gains (pass p).view.base [] (owned (pass p).view) (refl, refl, refl) in
      goes_by (pass p) (pass q) (face.laters p q k) at.0 at.1.2 (λ tells run. over tells at.0 run at.1.2 at.2)

  -- a pass goes on by a batch that is put
  pub put : (events : List Content) (result : Result ℕ FaceRefused) (old new : F) → PortPuts pass saw kept old new events result → Goes (pass old) (pass new)
  put events result old new once =
      goes_face old new once.same _ once.calls
      (λ tells more run all it. batch_over tells (pass new).view.numbers (pass new).view.base (pass new).view.seen run (saw new) (stood new) _ events result (owned (pass old).view) more ([], append-nil (owned (pass old).view ++ more) ∙ all) it)

  -- a batch that is put leaves no transaction of the pass open where none was before
  pub puts_over : PutsAreOver pass saw kept
  puts_over events result old new once = (put events result old new once).stays

  module _ {S : Type 0} (sink : Told S) (batch : ℕ) where
    abbrev Turns : Taking F S → Turn → Taking F S → Type 0
    Turns = TurnsOnce (port_says pass saw kept) sink batch

    abbrev Looks : Taking F S → ℕ → Taking F S → Type 0
    Looks = LooksOnce (port_says pass saw kept)

    abbrev Went : Taking F S → Taking F S → Type 0
    Went a b = Goes (pass a.from) (pass b.from)

    went_same : (a b : Taking F S) → b ≡ a → Went a b
    went_same a b same = subst (λ (x : Taking F S). Went a x) (sym same) (goes_none (pass a.from))

    turned : (a b : Taking F S) (turn : Turn) → Turns a turn b → Went a b
    turned a b turn once =
        goes_face a.from b.from once.same _ once.calls
        (λ tells more run all it. turn_over tells (pass b.from).view.numbers (pass b.from).view.base (pass b.from).view.seen run (saw b.from) (stood b.from) _ sink.delivers batch once.moment a.sink turn b.sink (owned (pass a.from).view) more
        ([], append-nil (owned (pass a.from).view ++ more) ∙ all) it)

    looked : (a b : Taking F S) (size : ℕ) → Looks a size b → Went a b
    looked a b size once = goes_face a.from b.from once.same _ once.calls (λ tells more run all it. subst (AreOver (state_seen (pass b.from).view)) (sym it.0) tt)

    on_events : (turn : Turn) (a b : Taking F S) → RunsOnEvents Turns Looks a turn b → Went a b
    on_events turn a b (size, between, some, look, run) = goes_then (pass a.from) (pass between.from) (pass b.from) (looked a between size look) (turned between b turn run)

    -- a pass goes on by deliveries, one after the other
    pub deliveries : (counts : List ℕ) (a b : Taking F S) → Deliveries Turns Looks counts a b → Went a b
    deliveries [] a b same = went_same a b same
    deliveries (count ∷ counts) a b (next, first, rest) = goes_then (pass a.from) (pass next.from) (pass b.from) (on_events (Delivered count) a next first) (deliveries counts next b rest)

    -- a pass goes on by the end of a drain
    pub drain_end : (end : ChannelDrain) (a b : Taking F S) → EndsDrain Turns Looks end a b → Went a b
    drain_end Emptied a b look = looked a b 0 look
    drain_end (Stopped turn) a b (not, run) = on_events turn a b run

    module _ (on_disk : F → Type 0) where
      abbrev Mends : Taking F S → Result Bool OpenCause → Taking F S → Type 0
      Mends = MendsOnce (port_says pass saw kept) on_disk

      mended : (due : Bool) (a b : Taking F S) → MendsIf Mends due a b → Went a b
      mended true a b (result, once) =
          goes_face a.from b.from once.same _ once.calls (λ tells more run all it. mend_over (state_seen (pass b.from).view) (on_disk a.from) (saw b.from) _ result (owned (pass a.from).view) more it)
      mended false a b same = went_same a b same

      -- a pass goes on by the rounds of a sink
      pub rounds : (turns : List Turn) (a b : Taking F S) → Rounds Turns Mends turns a b → Went a b
      rounds [] a b same = went_same a b same
      rounds (turn ∷ turns) a b (next, (between, first, last), rest) =
          goes_then (pass a.from) (pass next.from) (pass b.from) (goes_then (pass a.from) (pass between.from) (pass next.from) (turned a between turn first) (mended (needs_mend turn) between next last)) (rounds turns next b rest)

  -- the rounds of a sink leave no transaction of its pass open where none was before
  pub rounds_over : (on_disk : F → Type 0) {S : Type 0} (sink : Told S) → RoundsAreOver pass saw kept on_disk sink
  rounds_over on_disk sink batch turns old new made = (rounds sink batch on_disk turns old new made).stays

  -- the draining of a channel leaves no transaction of the pass open where none was before
  pub drains_over : {S : Type 0} (sink : Told S) → DrainsAreOver pass saw kept sink
  drains_over sink batch end old new drain =
      (goes_then (pass old.from) (pass drain.between.from) (pass new.from) (deliveries sink batch drain.counts old drain.between drain.deliveries) (drain_end sink batch end drain.between new drain.ends)).stays
