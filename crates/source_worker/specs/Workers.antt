-- What a listener's worker does.
use Rattle.std.specs.Prelude.{◌≡◌, ◌<◌, ◌^◌, ℕ, List, length, Bool, true, false, Option}
use Rattle.flume_host.specs.Links.{LinkTold}
use Rattle.flume_host.specs.Listens.{Endpoint, IsSettled, LinksTold}
use Rattle.source_put.specs.Accepts.{NamesBelow}
use Rattle.source_put.specs.Into.{Into, into_of}
use Rattle.source_put.specs.declared.intake.Intake.{Intake}
use Rattle.source_put.specs.declared.chain.ChainLink.{ChainLink}
use Rattle.chain_plan.specs.Builds.{AreBuilt}
use Rattle.netcat_source.specs.Lines.{IsLineLimit}
use Rattle.source_worker.specs.Rounds.{Answer, Heard, Serving, WorksBy}
use Rattle.source_worker.specs.declared.ends.LinkEnd.{LinkEnd}
use Rattle.source_worker.specs.declared.ends.SessionRules.{SessionRules}
use Rattle.source_worker.specs.declared.ends.SessionRules.TheVariants.{Lines, Avro}
use Rattle.source_worker.specs.declared.worker.ListenWorker.{ListenWorker}

-- the limit of lines is an allowed one; Avro calls have none
abbrev pub HasLimit : SessionRules → Type 0
HasLimit (Lines rules) = IsLineLimit rules.max
HasLimit Avro = Unit {0}

-- Its limit of lines, if any, is an allowed one, and its selector names its channels.
pub record CanListen {F N C B : Type 0} (w : ListenWorker F N C B) : Type 0 where
  pub max : HasLimit w.rules
  pub few : length w.ports.items < 2 ^ 32
  pub named : NamesBelow w.selector (length w.ports.items)

-- what a listener shows of itself
abbrev pub heard_of : {N : Type 0} → (N → Option LinksTold) → (N → ℕ) → (N → ℕ) → N → Heard
heard_of told faults waits listener = record { links = told listener; faults = faults listener; waits = waits listener }

-- where events go, what a listener shows, and whether a mend was refused
abbrev pub stood : {F B : Type 0} → Intake F B → Option (ℕ → ℕ) → Heard → Bool → Serving (Into F B)
stood intake moments heard due = record { into = into_of intake moments; heard = heard; due = due }

-- a worker with the interceptors of its chain, between two rounds
abbrev pub serving : {F N C B : Type 0} → (C → Option (ℕ → ℕ)) → (N → Heard) → ListenWorker F N C B → List (ChainLink B) → Bool → Serving (Into F B)
serving moments heard w links due = record {
  into = record { route = record { links = links; ports = w.ports.items }; moments = moments w.clock };
  heard = heard w.listener;
  due = due;
}

-- It built the chain that was planned, or there was no memory for it. Then it made rounds one after the other, and no other
-- call of its channels. Its listener took back as many links as it gave.
pub record ListenRan {F N C B : Type 0}
    (Session : Into F B → Option LinkTold → LinkEnd → Into F B → Option LinkTold → Type 0)
    (Mends : Into F B → List Answer → Into F B → Type 0) (moments : C → Option (ℕ → ℕ)) (heard : N → Heard)
    (stands : N → Option Endpoint) (old new : ListenWorker F N C B) : Type 0 where
  pub built : Bool
  pub before : List (ChainLink B)
  pub chain : built ≡ true → AreBuilt old.plan.items before
  pub after : List (ChainLink B)
  pub due : Bool
  pub rounds : WorksBy Session Mends built (serving moments heard old before false) (serving moments heard new after due)
  pub channels : new.channels ≡ old.channels
  pub endpoint : stands new.listener ≡ stands old.listener
  pub settled : IsSettled (heard old.listener).links → IsSettled (heard new.listener).links
