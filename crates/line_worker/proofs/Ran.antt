-- What a worker of lines did, by what its parts did.
use Rattle.std.proofs.Common.{◌≡◌, ◌∙◌, ℕ, Bool, true, false, List, Option, Some, sym, ap, subst}
use Rattle.selectors.specs.declared.selector.Selector.{Selector}
use Rattle.source_put.specs.Into.{Into}
use Rattle.source_put.specs.declared.chain.HostNames.{HostNames}
use Rattle.source_put.specs.declared.intake.Intake.{Intake}
use Rattle.chain_plan.specs.Builds.{AreBuilt}
use Rattle.netcat_source.specs.declared.session.LineRules.{LineRules}
use Rattle.netcat_source.specs.declared.lines.LineVerdict.{LineVerdict}
use Rattle.line_session.specs.declared.session.SessionEnd.{SessionEnd}
use Rattle.line_worker.specs.Turns.{Feeding}
use Rattle.line_worker.specs.Workers.{LineRan, Session, Talk, fed, told_by}
use Rattle.line_worker.specs.declared.worker.LineWorker.{LineWorker}

module _ {F I O C B : Type 0} (Turns : Selector → HostNames → Feeding (Into F B) → List ℕ → LineVerdict → Feeding (Into F B) → Type 0)
    (moments : C → Option (ℕ → ℕ)) (talk : I → O → Talk) (old begun : LineWorker F I O C B) (first last : Intake F B) (built due : Bool) (end : SessionEnd) where
  -- a chain was built, one session was served, and the worker has its parts again
  pub ran_so : (new : LineWorker F I O C B) (clock after : C)
      → (first.selector ≡ old.selector) × (first.host ≡ old.host) → first.ports ≡ old.ports.items
      → (begun.channels ≡ old.channels) × (begun.rules ≡ old.rules) × (begun.input ≡ old.input) × (begun.output ≡ old.output) × (begun.clock ≡ old.clock)
      → (built ≡ true → AreBuilt old.plan.items first.chain.links.items)
      → Session begun.rules.max begun.rules.ack (Turns first.selector first.host) built end (fed first (moments clock) false) (fed last (moments after) due)
      (talk begun.input begun.output) (talk new.input new.output)
      → new.ports.items ≡ last.ports → begun.clock ≡ Some clock → new.clock ≡ Some after → new.end ≡ Some end → new.channels ≡ begun.channels → new.rules ≡ begun.rules
      → LineRan (Turns old.selector old.host) moments talk old new
  ran_so new clock after means ports same chain session back ticks ticked noted channels rules =
      let before : moments clock ≡ told_by moments old.clock = sym (ap (told_by moments) (sym same.4 ∙ ticks)) in
      let behind : moments after ≡ told_by moments new.clock = sym (ap (told_by moments) ticked) in record {
        built = built;
        before = first.chain.links.items;
        chain = chain;
        after = last.chain.links.items;
        due = due;
        end = end;
        noted = noted;
        session = subst (λ (x : LineRules × Selector × HostNames × List F × Option (ℕ → ℕ) × I × O × List F × Option (ℕ → ℕ)). Session x.0.max x.0.ack (Turns x.1 x.2) built end
            (record { into = record { route = record { links = first.chain.links.items; ports = x.3 }; moments = x.4 }; due = false })
            (record { into = record { route = record { links = last.chain.links.items; ports = x.7 }; moments = x.8 }; due = due })
            (talk x.5 x.6) (talk new.input new.output))
            (λ k. (same.1 k, means.0 k, means.1 k, ports k, before k, same.2 k, same.3 k, sym back k, behind k)) session;
        channels = channels ∙ same.0;
        rules = rules ∙ same.1;
      }
