-- A sink's worker that makes one round more, and pauses.
use Rattle.std.proofs.Common.{◌≡◌, ◌∙◌, ℕ, [], ◌∷◌, ◌++◌, Bool, Option, Result, sym, subst}
use Rattle.channel_face.specs.declared.replies.OpenCause.{OpenCause}
use Rattle.sink_runner.specs.declared.turn.Turn.{Turn}
use Rattle.sink_worker.specs.declared.worker.SinkWorker.{SinkWorker}
use Rattle.sink_worker.specs.Rounds.{Taking, Round}
use Rattle.sink_worker.specs.Workers.{SinkRan, taking}
use Rattle.sink_worker.proofs.Rounding.{rounds_push}

module _ {F S C : Type 0} (Turns : ℕ → Taking F S → Turn → Taking F S → Type 0) (Mends : Taking F S → Result Bool OpenCause → Taking F S → Type 0) (moments : C → Option (ℕ → ℕ)) where
  -- a worker that had run has run after one round more and a pause
  pub goes_on : (old mid new last : SinkWorker F S C) (turn : Turn) → SinkRan (Turns old.batch) Mends moments old mid → Round (Turns mid.batch) Mends (taking moments mid) turn (taking moments new) → (new.channel ≡ mid.channel) × (new.batch ≡ mid.batch)
      → last.port ≡ new.port → last.sink ≡ new.sink → moments last.clock ≡ moments new.clock → last.channel ≡ new.channel → last.batch ≡ new.batch → SinkRan (Turns old.batch) Mends moments old last
  goes_on old mid new last turn ran round same port sink clock channel batch = record {
    turns = ran.turns ++ turn ∷ [];
    rounds = rounds_push (Turns old.batch) Mends ran.turns turn (taking moments old) (taking moments mid) (taking moments last) ran.rounds
        (subst (λ (n : ℕ). Round (Turns n) Mends (taking moments mid) turn (taking moments last)) ran.batch
        (subst (λ (t : Taking F S). Round (Turns mid.batch) Mends (taking moments mid) turn t) (λ i. record { from = sym port i; sink = sym sink i; moments = sym clock i }) round));
    channel = channel ∙ same.0 ∙ ran.channel;
    batch = batch ∙ same.1 ∙ ran.batch;
  }
