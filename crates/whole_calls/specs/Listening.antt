-- Listeners' rounds and batches of sources that leave no transaction open.
use Rattle.std.specs.Prelude.{ℕ, List, [], ◌∷◌, length}
use Rattle.channel_face.specs.Faces.{Own}
use Rattle.channel_face.specs.Machine.{State}
use Rattle.event_core.specs.Content.{Content}
use Rattle.selectors.specs.declared.selector.Selector.{Selector}
use Rattle.shared_channel.specs.Passes.{Known}
use Rattle.shared_channel.specs.Ports.{AreOwned}
use Rattle.source_put.specs.Chains.{Meaning}
use Rattle.source_put.specs.Into.{Into}
use Rattle.source_put.specs.Routes.{Accepts, Route}
use Rattle.source_put.specs.declared.chain.HostNames.{HostNames}
use Rattle.source_put.specs.declared.intake.Verdict.{Verdict}
use Rattle.source_worker.specs.Rounds.{MendsInto, MendsPort, Round, Rounds, Serving, Session}
use Rattle.source_worker.specs.declared.ends.SessionRules.{SessionRules}
use Rattle.whole_calls.specs.Leaving.{PortPuts, StaysOver}

-- of each port, in order
abbrev pub EachStaysOver : {F : Type 0} → (F → Known) → List F → List F → Type 0
EachStaysOver pass [] [] = Unit {0}
EachStaysOver pass (old ∷ olds) (new ∷ news) = StaysOver (pass old) (pass new) × EachStaysOver pass olds news
EachStaysOver pass olds news = ⊥

module _ {F : Type 0} (pass : F → Known) (saw : F → List Own → State → Type 0) (kept : F → F → Type 0) where
  -- Where the passes of a source's ports had left none open, they leave none open after a batch.
  abbrev pub BatchesAreOver : {B : Type 0} → Meaning B → Type 0
  BatchesAreOver {B} Means =
      (selector : Selector) (host : HostNames) (moment : ℕ) (old new : Route F B) (batch : List Content) (verdict : Verdict)
      → Accepts (PortPuts pass saw kept) selector Means moment host old batch verdict new → EachStaysOver pass old.ports new.ports

  -- nor after the rounds of a listener
  abbrev pub ListensAreOver : (F → Type 0) → {B : Type 0} → Meaning B → Type 0
  ListensAreOver on_disk {B} Means =
      (rules : SessionRules) (selector : Selector) (host : HostNames) (rounds : List Round) (old new : Serving (Into F B))
      → Rounds (Session rules (PortPuts pass saw kept) selector Means host)
      (MendsInto (MendsPort (λ p. AreOwned (pass p).view) saw (λ p. length (pass p).view.seen) kept on_disk)) rounds old new
      → EachStaysOver pass old.into.route.ports new.into.route.ports
