-- The first of the channels that can't be opened any more.
use Rattle.std.proofs.Common.{◌<◌, inl, inr, ℕ, zero, suc, List, ◌∷◌, Bool, Result, None, get_or, arith}
use Rattle.channel_face.specs.declared.replies.OpenCause.{OpenCause}
use Rattle.agent_plan.specs.declared.plan.ChannelPlan.{ChannelPlan}
use Rattle.agent_words.specs.declared.error.RunError.{RunError}
use Rattle.agent_run.specs.Errors.{IsBroken, IsBrokenCause, IsBrokenError, IsNoneBroken}

module _ (plan : ChannelPlan) (plans : List ChannelPlan) (mended : Result Bool OpenCause) (mends : List (Result Bool OpenCause)) (error : RunError) where
  first_later : (IsBroken mended → ⊥) → (place : ℕ) → ((i : ℕ) (d : Result Bool OpenCause) → i < place → IsBroken (get_or mends i d) → ⊥)
      → (i : ℕ) (d : Result Bool OpenCause) → i < suc place → IsBroken (get_or (mended ∷ mends) i d) → ⊥
  first_later none place first zero d low is = none is
  first_later none place first (suc i) d low is = first i d (omega (arith, low)) is

  none_later : (IsBroken mended → ⊥) → IsNoneBroken plans mends → IsNoneBroken (plan ∷ plans) (mended ∷ mends)
  none_later none others zero d low under is = none is
  none_later none others (suc i) d low under is = others i d (omega (arith, low)) (omega (arith, under)) is

  -- it is not the first, but maybe one after
  pub broken_later : IsBrokenCause mended None → IsBrokenError plans mends error → IsBrokenError (plan ∷ plans) (mended ∷ mends) error
  broken_later none (inl f) = inl (record {
    place = suc f.place;
    below = let b = f.below in omega (arith, b);
    cause = f.cause;
    broken = f.broken;
    here = f.here;
    first = first_later none f.place f.first;
    error_of = f.error_of;
  })
  broken_later none (inr others) = inr (none_later none others.0, others.1)
