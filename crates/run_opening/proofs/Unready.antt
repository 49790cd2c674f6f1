-- A run that could not be prepared.
use Rattle.std.proofs.Common.{◌≡◌, ◌∙◌, ℕ, inr, sym, ap}
use Rattle.flume_host.specs.HostState.{HostState}
use Rattle.agent_words.specs.declared.error.RunError.{RunError}
use Rattle.agent_words.specs.declared.error.RunError.TheVariants as errors
use Rattle.run_opening.specs.Prepared.{IsUnprepared}

-- no memory, where nothing changed
pub unprepared : (old new : HostState) → new ≡ old → (error : RunError) → error ≡ errors.NoMemory → IsUnprepared error old new
unprepared old new same error is = record {
  why = inr (is, ap (λ (s : HostState). s.faults) same);
  state = same ∙ ap (λ (n : ℕ). record old { faults = n }) (sym (ap (λ (s : HostState). s.faults) same));
}
