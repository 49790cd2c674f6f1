-- What a worker of lines does.
use Rattle.std.specs.Prelude.{◌≡◌, ◌≢◌, ◌<◌, ◌^◌, ℕ, List, length, Bool, true, false, Option, Some, None}
use Rattle.netcat_source.specs.Lines.{IsLineLimit}
use Rattle.netcat_source.specs.declared.lines.LineVerdict.{LineVerdict}
use Rattle.netcat_source.specs.declared.lines.LineVerdict.TheVariants as verdicts
use Rattle.source_put.specs.Accepts.{NamesBelow}
use Rattle.source_put.specs.Into.{Into, into_of}
use Rattle.source_put.specs.declared.intake.Intake.{Intake}
use Rattle.source_put.specs.declared.chain.ChainLink.{ChainLink}
use Rattle.chain_plan.specs.Builds.{AreBuilt}
use Rattle.line_session.specs.Sessions.{HasCauseOf, Served, ends_of}
use Rattle.line_session.specs.declared.session.SessionEnd.{SessionEnd}
use Rattle.line_session.specs.declared.session.SessionEnd.TheVariants.{NoMemory, WriteFault}
use Rattle.line_worker.specs.Turns.{Feeding}
use Rattle.line_worker.specs.declared.worker.LineWorker.{LineWorker}

-- Its rules are rules of lines, its selector names its channels, and it has a clock.
pub record CanServe {F I O C B : Type 0} (w : LineWorker F I O C B) : Type 0 where
  pub max : IsLineLimit w.rules.max
  pub few : length w.ports.items < 2 ^ 32
  pub named : NamesBelow w.selector (length w.ports.items)
  pub timed : w.clock ≢ None

-- a line for which there was no memory ends a session of a worker, and no other does
abbrev pub ends_session : LineVerdict → Bool
ends_session verdicts.NoMemory = true
ends_session verdict = false

-- where lines go, and whether a mend was refused
abbrev pub fed : {F B : Type 0} → Intake F B → Option (ℕ → ℕ) → Bool → Feeding (Into F B)
fed intake moments due = record { into = into_of intake moments; due = due }

-- the moments of a clock, where there is one
abbrev pub told_by : {C : Type 0} → (C → Option (ℕ → ℕ)) → Option C → Option (ℕ → ℕ)
told_by moments None = None
told_by moments (Some clock) = moments clock

-- a worker with the interceptors of its chain, between two lines
abbrev pub feeding : {F I O C B : Type 0} → (C → Option (ℕ → ℕ)) → LineWorker F I O C B → List (ChainLink B) → Bool
    → Feeding (Into F B)
feeding moments w links due = record {
  into = record { route = record { links = links; ports = w.ports.items }; moments = told_by moments w.clock };
  due = due;
}

-- what an input and an output show: what is left to read, what was written, what of that was surely handed on, and how often
-- each has failed
pub record Talk : Type 0 where
  pub left : Option (List ℕ)
  pub took : Option (List ℕ)
  pub handed : Option (List ℕ)
  pub reads : ℕ
  pub writes : ℕ

abbrev pub talk_of : {I O : Type 0} → (I → Option (List ℕ)) → (I → ℕ) → (O → Option (List ℕ)) → (O → Option (List ℕ)) → (O → ℕ)
    → I → O → Talk
talk_of left reads took handed writes input output = record {
  left = left input;
  took = took output;
  handed = handed output;
  reads = reads input;
  writes = writes output;
}

module _ (max : ℕ) (ack : Bool) {S : Type 0} (Turns : Feeding S → List ℕ → LineVerdict → Feeding S → Type 0) where
  -- One session on an input and an output. Where there was no chain, none began, and nothing was read.
  pub record Session (built : Bool) (end : SessionEnd) (old new : Feeding S) (before after : Talk) : Type 0 where
    pub served : Served max ack ends_session Turns (ends_of before.left old before.took) (ends_of after.left new after.took) end
    pub cause : HasCauseOf end before.reads after.reads before.writes after.writes
    pub handed : built ≡ true → end ≢ WriteFault → after.handed ≡ after.took
    pub unserved : built ≡ false → end ≡ NoMemory

-- It built the chain that was planned, or there was no memory for it. Then it served one session, and made no other call of its
-- channels. It noted what ended the session.
pub record LineRan {F I O C B : Type 0} (Turns : Feeding (Into F B) → List ℕ → LineVerdict → Feeding (Into F B) → Type 0)
    (moments : C → Option (ℕ → ℕ)) (talk : I → O → Talk) (old new : LineWorker F I O C B) : Type 0 where
  pub built : Bool
  pub before : List (ChainLink B)
  pub chain : built ≡ true → AreBuilt old.plan.items before
  pub after : List (ChainLink B)
  pub due : Bool
  pub end : SessionEnd
  pub noted : new.end ≡ Some end
  pub session : Session old.rules.max old.rules.ack Turns built end (feeding moments old before false) (feeding moments new after due)
      (talk old.input old.output) (talk new.input new.output)
  pub channels : new.channels ≡ old.channels
  pub rules : new.rules ≡ old.rules
