-- What never changes of ports while a worker of lines puts lines through them and mends them.
use Rattle.std.proofs.Common.{◌≡◌, ℕ, List, [], ◌∷◌, Bool, true, false, Result}
use Rattle.event_core.specs.Content.{Content}
use Rattle.channel_face.specs.Faces.{Own}
use Rattle.channel_face.specs.Machine.{State}
use Rattle.channel_face.specs.declared.replies.FaceRefused.{FaceRefused}
use Rattle.selectors.specs.declared.selector.Selector.{Selector}
use Rattle.shared_channel.specs.Passes.{Known}
use Rattle.source_put.specs.Chains.{Meaning}
use Rattle.source_put.specs.Into.{Into}
use Rattle.source_put.specs.declared.chain.HostNames.{HostNames}
use Rattle.source_put.specs.declared.intake.Verdict.{Verdict}
use Rattle.netcat_source.specs.Into.{TakesLine}
use Rattle.netcat_source.specs.declared.lines.LineVerdict.{LineVerdict}
use Rattle.source_worker.specs.Rounds.{Answer, MendsEach, MendsInto, any_refused}
use Rattle.line_session.specs.Handled.{Handled, TakesAll}
use Rattle.line_worker.specs.Turns.{Feeding, MendsWhere, TakesTurn, is_due}
use Rattle.run_tracks.specs.Listening.{PortMends}
use Rattle.run_tracks.specs.Places.{Zips}
use Rattle.run_tracks.specs.Told.{PortPuts}
use Rattle.run_tracks.proofs.Staying.{into_same, line_stays, stay_then}

module _ {F : Type 0} (pass : F → Known) (saw : F → List Own → State → Type 0) (kept : F → F → Type 0) (on_disk : F → Type 0)
    (R : F → F → Type 0) (self : (p : F) → R p p) (trans : (p q r : F) → R p q → R q r → R p r) (stays : (p q : F) → kept p q → R p q)
    {B : Type 0} (Means : Meaning B) (selector : Selector) (host : HostNames) where
  put : (p q : F) (events : List Content) (result : Result ℕ FaceRefused) → PortPuts pass saw kept p q events result → R p q
  put p q events result did = stays p q did.same

  then_stay : (ps qs rs : List F) → Zips R ps qs → Zips R qs rs → Zips R ps rs
  then_stay ps qs rs f g = stay_then R self trans ps qs rs f g

  same : (a b : Into F B) → b ≡ a → Zips R a.route.ports b.route.ports
  same a b is = into_same R self trans (PortPuts pass saw kept) put Means selector host a b is

  each : (olds : List F) (answers : List Answer) (news : List F) → MendsEach (PortMends pass saw kept on_disk) olds answers news → Zips R olds news
  each [] [] [] none = tt
  each [] [] (q ∷ news) none = absurd none
  each [] (answer ∷ answers) news none = absurd none
  each (p ∷ olds) [] news none = absurd none
  each (p ∷ olds) (answer ∷ answers) [] none = absurd none
  each (p ∷ olds) (answer ∷ answers) (q ∷ news) (one, others) = (stays p q one.same, each olds answers news others)

  -- the ports are the same after mends, where they are due
  pub mends_stay : (due : Bool) (a b : Into F B) (answers : List Answer) → MendsWhere (MendsInto (PortMends pass saw kept on_disk)) due a answers b → Zips R a.route.ports b.route.ports
  mends_stay true a b answers (moments, links, all) = each a.route.ports answers b.route.ports all
  mends_stay false a b answers (none, is) = same a b is

  -- after a line
  pub takes_stay : (a b : Into F B) (line : List ℕ) (verdict : Verdict) → TakesLine (PortPuts pass saw kept) selector Means host a line verdict b → Zips R a.route.ports b.route.ports
  takes_stay a b line verdict one = line_stays R self trans (PortPuts pass saw kept) put Means selector host a b line verdict one

  abbrev pub Turns : Feeding (Into F B) → List ℕ → LineVerdict → Feeding (Into F B) → Type 0
  Turns = TakesTurn (TakesLine (PortPuts pass saw kept) selector Means host) (MendsInto (PortMends pass saw kept on_disk))

  -- after a line with its mends
  pub turn_stays : (a b : Feeding (Into F B)) (line : List ℕ) (said : LineVerdict) → Turns a line said b → Zips R a.into.route.ports b.into.route.ports
  turn_stays a b line said t =
      let first = mends_stay a.due a.into t.before t.first t.again in
      let taken = takes_stay t.before t.behind line t.verdict t.takes in
      let last = mends_stay (is_due (any_refused t.first) t.verdict) t.behind b.into t.last t.mends in
      then_stay a.into.route.ports t.behind.route.ports b.into.route.ports (then_stay a.into.route.ports t.before.route.ports t.behind.route.ports first taken) last

  -- and after the lines of a session
  pub turns_stay : (done : List Handled) (a b : Feeding (Into F B)) → TakesAll Turns a done b → Zips R a.into.route.ports b.into.route.ports
  turns_stay [] a b none = same a.into b.into (λ i. (none i).into)
  turns_stay (h ∷ done) a b (next, one, others) =
      then_stay a.into.route.ports next.into.route.ports b.into.route.ports (turn_stays a next h.line h.verdict one) (turns_stay done next b others)
