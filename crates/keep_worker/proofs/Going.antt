-- The worker of a channel on a disk makes one round more.
use Rattle.std.proofs.Common.{◌≡◌, ◌∙◌, List, [], ◌∷◌, ◌++◌, refl, subst}
use Rattle.keep_worker.specs.declared.keeping.Upkeep.{Upkeep}
use Rattle.keep_worker.specs.declared.worker.KeepWorker.{KeepWorker}
use Rattle.keep_worker.specs.Rounds.{Face, Round, Rounds}
use Rattle.keep_worker.specs.Workers.{KeepRan}

module _ {F : Type 0} (face : Face F) where
  rounds_push : (upkeeps : List Upkeep) (upkeep : Upkeep) (a b c : F) → Rounds face upkeeps a b → Round face b upkeep c → Rounds face (upkeeps ++ upkeep ∷ []) a c
  rounds_push [] upkeep a b c same one = (c, subst (λ (p : F). Round face p upkeep c) same one, refl)
  rounds_push (u ∷ upkeeps) upkeep a b c (next, first, rest) one = (next, first, rounds_push upkeeps upkeep next b c rest one)

  -- The rounds that were made, and one round more. The worker may have paused between.
  pub goes_on : {C : Type 0} (old mid new : KeepWorker F C) (upkeep : Upkeep) → KeepRan face old mid → Round face mid.port upkeep new.port → (new.channel ≡ mid.channel) × (new.interval ≡ mid.interval) → KeepRan face old new
  goes_on old mid new upkeep ran round same = record {
    upkeeps = ran.upkeeps ++ upkeep ∷ [];
    rounds = rounds_push ran.upkeeps upkeep old.port mid.port new.port ran.rounds round;
    channel = same.0 ∙ ran.channel;
    interval = same.1 ∙ ran.interval;
  }
