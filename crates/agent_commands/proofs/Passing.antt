-- What the lines of a session came to in the history that its pass has seen at the end.
use Rattle.std.proofs.Common.{◌≡◌, inl, inr, ◌≤◌, ◌<◌, ◌-◌, ◌^◌, ℕ, List, [], ◌∷◌, ◌++◌, length, All, Option, Bool, true, false, refl, sym, ◌∙◌, ap, subst, arith, append_assoc, append-nil}
use Rattle.std.proofs.lemmas.List.Elements.{All-nil}
use mathlib.Core.List.{IsPrefix}
use Rattle.flume_host.specs.Causes.{Rose}
use Rattle.flume_host.specs.Told.{Told}
use Rattle.atomic_table.specs.Seated.{TableId}
use Rattle.channel_face.specs.Faces.{IsPutBatch, Own}
use Rattle.channel_face.specs.History.{IsRun, Opening, Step, opening}
use Rattle.channel_face.specs.Machine.{State, is_some_of}
use Rattle.channel_face.proofs.Fronts.{batch_on}
use Rattle.channel_writing.specs.Stands.{has_fault}
use Rattle.file_channel.specs.Stands.{FileState}
use Rattle.netcat_source.specs.Lines.{IsLine}
use Rattle.line_session.specs.Handled.{Handled, TakesAll, lines_of, verdicts_of}
use Rattle.shared_channel.specs.Calls.{Left}
use Rattle.shared_channel.specs.Counting.{StandsAgreeing}
use Rattle.shared_channel.specs.Passes.{Known, new_pass}
use Rattle.shared_channel.specs.Ports.{Later, Saw, Stood, later_none, later_then, own_calls, owned}
use Rattle.channel_laws.proofs.Prefixes.{front_few, front_then, stood}
use Rattle.channel_lock.specs.Calls.{Below, has}
use Rattle.channel_lock.specs.Turns.{HasAll}
use Rattle.channel_lock.specs.Views.{View}
use Rattle.channel_lock.proofs.Histories.{begins_self}
use Rattle.agent_commands.specs.Handled.{GoesOn, has_doubt}
use Rattle.agent_commands.specs.Puts.{ArePutsOf, BeginsOver, IsPutOf, PutsLine, PutsLines}
use Rattle.netcat_source.specs.Judged.{event_of}
use Rattle.agent_commands.specs.Trails.{StandsTraced, Trail}
use Rattle.agent_commands.proofs.Beginning.{idle_at_first, stands_at_first}
use Rattle.agent_commands.proofs.Idle.{Stands}
use Rattle.agent_commands.proofs.Recording.{AllOf, all_of, all_recorded, all_under, faulty, faulty-recorded, length-recorded, recorded, settled_in, settled_in-recorded}
use Rattle.agent_commands.proofs.Trails.{fault_counted, trail_counted}
use Rattle.agent_commands.proofs.Walking.{FirstGo, puts_of_few, walk}

-- A pass after lines, by all that is seen in the end: it made their calls after its earlier ones.
pub record Made (o : Opening) (h : List Step) (numbers : List ℕ) (p q : Known) (done : List Handled) : Type 0 where
  pub later : Later p q
  pub own : List Own
  pub owned_all : owned q.view ≡ owned p.view ++ own
  pub puts : ArePutsOf o h numbers (owned p.view) done own

module _ {C : Type 0} (stands : C → Opening → List Step → Type 0) (o : Opening) (h : List Step) (numbers : List ℕ) where
  -- one line
  its_calls : (p next q : Known) (x : Handled) → PutsLine stands p x.line x.verdict next → Later next q → q.view.base ≡ o → q.view.numbers ≡ numbers → IsPrefix q.view.seen h
      → (its : List Own) × (owned next.view ≡ owned p.view ++ its) × IsPutOf o h numbers (owned p.view) x its × Later p next
  its_calls p next q x (inl (before, made)) later base named begins =
      let result = made.0 in
      let g = made.1 p.view.base [] (owned p.view) (refl, refl, refl) in
      let v : View = next.view in
      let front : IsPrefix v.seen h = front_then v.seen q.view.seen h later.begins begins in
      let batch = batch_on (Saw stands v) (Stood v.base h v.numbers) (length v.seen) (length h) (stood stands v h front) (front_few v.seen h front) (event_of x.line ∷ []) result (owned p.view) g.0 g.2 in (
        g.0,
        sym g.1.2,
        inl (
          result,
          subst (λ (k : Opening × List ℕ). IsPutBatch (Stood k.0 h k.1) (length h) (event_of x.line ∷ []) result (owned p.view) g.0) (λ i. ((sym later.base ∙ base) i, (sym later.numbers ∙ named) i)) batch,
          made.2,
        ),
        before,
      )
  its_calls p next q x (inr (none, same)) later base named begins = (
    [],
    ap (λ (k : Known). owned k.view) same ∙ sym (append-nil (owned p.view)),
    inr (refl, none),
    subst (λ (k : Known). Later p k) (sym same) (later_none p),
  )

  -- lines that a pass took are calls of that pass, one run after another
  pub made_all : (done : List Handled) (p q : Known) → TakesAll (PutsLine stands) p done q → q.view.base ≡ o → q.view.numbers ≡ numbers → IsPrefix q.view.seen h → Made o h numbers p q done
  made_all [] p q same base named begins = record {
    later = subst (λ (k : Known). Later p k) (sym same) (later_none p);
    own = [];
    owned_all = ap (λ (k : Known). owned k.view) same ∙ sym (append-nil (owned p.view));
    puts = refl;
  }
  made_all (x ∷ done) p q (next, one, others) base named begins =
      let m = made_all done next q others base named begins in
      let l = its_calls p next q x one m.later base named begins in
      record {
        later = later_then p next q l.3 m.later;
        own = l.0 ++ m.own;
        owned_all = m.owned_all ∙ ap (λ (k : List Own). k ++ m.own) l.1 ∙ append_assoc (owned p.view) l.0 m.own;
        puts = (l.0, m.own, refl, l.2, subst (λ (k : List Own). ArePutsOf o h numbers k done m.own) l.1 m.puts);
      }

-- a session's pass is the same pass
pub later_all : {C : Type 0} (stands : C → Opening → List Step → Type 0) (done : List Handled) (p q : Known) → TakesAll (PutsLine stands) p done q → Later p q
later_all stands done p q takes = (made_all stands q.view.base q.view.seen q.view.numbers done p q takes refl refl (begins_self q.view.seen)).later

-- What the only pass of a channel, once that is closed, says of the lines that went through it.
pub record Passed (before told : Option Told) (faults : ℕ) (start : Opening) (pass : Known) (done : List Handled) : Type 0 where
  pub last : State
  pub stands : Stands before told done last
  pub puts : PutsLines before pass done
  pub later : start.faults ≤ faults
  pub well : has_doubt (verdicts_of done) ≡ false → faults ≡ start.faults
  pub rose : has_doubt (verdicts_of done) ≡ true → Rose start.faults faults

-- what a channel stands for, by what its disk shows and has counted, and what it has beside
abbrev pub traced : {C : Type 0} → (C → Option Told) → (C → ℕ) → (C → FileState) → C → Opening → List Step → Type 0
traced told_by faults_by state_by c = StandsTraced (told_by c) (faults_by c) (state_by c)

module _ {C : Type 0} (told_by : C → Option Told) (faults_by : C → ℕ) (state_by : C → FileState) (before : Option Told) (start : Opening) (table : TableId) (done : List Handled) where
  abbrev TracedBy : C → Opening → List Step → Type 0
  TracedBy = traced told_by faults_by state_by

  abbrev fresh : Known
  fresh = new_pass table start 1 0

  has_all : (q : Known) → Later fresh q → HasAll q.view
  has_all q later n below =
      let one : q.view.passes ≡ 1 = later.passes in
      let zero : n ≡ 0 = omega (arith, below, one) in
      ap (λ (l : List ℕ). has l n) later.numbers ∙ ap (λ (k : ℕ). has (0 ∷ []) k) zero

  -- the pass after the session, and the one that came back when the channel was closed
  pub passed : (q w : Known) (c : C) → TakesAll (PutsLine TracedBy) fresh done q → Left TracedBy (λ x. is_some_of (told_by x)) q.view [] w.view c → StandsAgreeing TracedBy c q.view.base w.view.seen → (HasAll q.view → w.view.seen ≡ q.view.seen)
      → BeginsOver before start → FirstGo done → All (IsLine 512) (lines_of done) → length done ≤ 2 ^ 40 → Passed before (told_by c) (faults_by c) start w done
  passed q w c takes left agrees whole begins go each few =
      let m0 = made_all TracedBy q.view.base q.view.seen q.view.numbers done fresh q takes refl refl (begins_self q.view.seen) in
      let same : w.view.seen ≡ q.view.seen = whole (has_all q m0.later) in
      let base : w.view.base ≡ q.view.base = ap (λ (v : View). v.base) left.made.1 in
      let named : w.view.numbers ≡ q.view.numbers = ap (λ (v : View). v.numbers) left.made.1 in
      let m = made_all TracedBy w.view.base w.view.seen w.view.numbers done fresh q takes (sym base) (sym named) ([], append-nil q.view.seen ∙ sym same) in
      closed q w c m same base named left agrees begins go each few
    where
      closed : (q w : Known) (c : C) → Made w.view.base w.view.seen w.view.numbers fresh q done → w.view.seen ≡ q.view.seen → w.view.base ≡ q.view.base → w.view.numbers ≡ q.view.numbers → Left TracedBy (λ x. is_some_of (told_by x)) q.view [] w.view c
          → StandsAgreeing TracedBy c q.view.base w.view.seen → BeginsOver before start → FirstGo done → All (IsLine 512) (lines_of done) → length done ≤ 2 ^ 40 → Passed before (told_by c) (faults_by c) start w done
      closed q w c m same base named left agrees begins go each few =
          let o : Opening = w.view.base in
          let h : List Step = w.view.seen in
          let from : o ≡ start = base ∙ m.later.base in
          let mine : AllOf w.view.numbers h = subst (λ (l : List ℕ). AllOf l h) (sym named) (all_of q.view h (has_all q m.later) left.made.4) in
          let owns : owned w.view ≡ recorded (opening o) h = all_recorded w.view.numbers (opening o) h mine in
          let carried : owned w.view ≡ owned q.view = λ i. own_calls (named i) (opening (base i)) (same i) in
          let its : owned w.view ≡ m.own = carried ∙ m.owned_all in
          let puts : ArePutsOf o h w.view.numbers [] done (owned w.view) = subst (λ (l : List Own). ArePutsOf o h w.view.numbers [] done l) (sym its) m.puts in
          let count = puts_of_few o h w.view.numbers [] done (owned w.view) puts in
          let long : length h ≡ length (owned w.view) = sym (length-recorded (opening o) h) ∙ ap (λ (l : List Own). length l) (sym owns) in
          let few' : length h < 2 ^ 64 - 1025 = omega (arith, count, few, long) in
          let a : StandsTraced (told_by c) (faults_by c) (state_by c) o agrees.0 = subst (λ (x : Opening). StandsTraced (told_by c) (faults_by c) (state_by c) x agrees.0) (sym base) agrees.1 in
          let trail : Trail (opening o) a.first h (told_by c) = subst (λ (l : List Step). Trail (opening o) a.first l (told_by c)) agrees.2 (trail_counted (opening o) a.first (told_by c) agrees.0 a.trail) in
          let over : BeginsOver before o = subst (BeginsOver before) (sym from) begins in
          let walked = walk before (told_by c) o h w.view.numbers mine few' (is_some_of (told_by c)) done [] [] (owned w.view) (opening o) a.first h go each (All-nil GoesOn) (stands_at_first before a.first o over a.began) (idle_at_first before o over) (omega arith) a.began.rests
          refl trail left.seen.run (sym owns) puts in
          let fault : has_fault agrees.0 ≡ has_doubt (verdicts_of done) = fault_counted (opening o) agrees.0 ∙ ap has_fault agrees.2 ∙ sym (faulty-recorded (opening o) h) ∙ ap faulty (sym owns) ∙ walked.fault in
          record {
            last = walked.last;
            stands = walked.stands;
            puts = record {
              begins = over;
              run = subst (λ (b : Bool). IsRun b (opening o) h) (sym left.seen.same) left.seen.run;
              number = ap (λ (l : List ℕ). has l 0) (named ∙ m.later.numbers);
              under = all_under h (subst (λ (n : ℕ). Below n h) m.later.passes left.made.4);
              puts = puts;
              settled = sym (settled_in-recorded (opening o) h) ∙ ap (settled_in (opening o)) (sym owns) ∙ walked.settles;
            };
            later = let l = a.stands.later in let s = ap (λ (x : Opening). x.faults) from in omega (arith, l, s);
            well = λ none. a.stands.clean (fault ∙ none) ∙ ap (λ (x : Opening). x.faults) from;
            rose = λ some. subst (λ (x : Opening). Rose x.faults (faults_by c)) from (a.stands.causes (fault ∙ some));
          }
