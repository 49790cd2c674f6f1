-- Rounds one after the other.
use Rattle.std.proofs.Common.{◌≡◌, List, [], ◌∷◌, ◌++◌, Bool, true, false, Result, refl, sym, subst}
use Rattle.channel_face.specs.declared.replies.OpenCause.{OpenCause}
use Rattle.sink_runner.specs.declared.turn.Turn.{Turn}
use Rattle.sink_worker.specs.Answers.{needs_mend}
use Rattle.sink_worker.specs.Rounds.{MendsIf, Round, Rounds}

module _ {P : Type 0} (Turns : P → Turn → P → Type 0) (Mends : P → Result Bool OpenCause → P → Type 0) where
  -- a run after which the channel was mended
  pub with_mend : (old between new : P) (turn : Turn) (result : Result Bool OpenCause) → needs_mend turn ≡ true → Turns old turn between → Mends between result new → Round Turns Mends old turn new
  with_mend old between new turn result is ran mended = (between, ran, subst (λ (b : Bool). MendsIf Mends b between new) (sym is) (result, mended))

  -- a run after which it was not
  pub without_mend : (old new : P) (turn : Turn) → needs_mend turn ≡ false → Turns old turn new → Round Turns Mends old turn new
  without_mend old new turn is ran = (new, ran, subst (λ (b : Bool). MendsIf Mends b new new) (sym is) refl)

  -- one round more
  pub rounds_push : (turns : List Turn) (turn : Turn) (a b c : P) → Rounds Turns Mends turns a b → Round Turns Mends b turn c → Rounds Turns Mends (turns ++ turn ∷ []) a c
  rounds_push [] turn a b c same one = (c, subst (λ (p : P). Round Turns Mends p turn c) same one, refl)
  rounds_push (t ∷ turns) turn a b c (next, first, rest) one = (next, first, rounds_push turns turn next b c rest one)
