-- A sink that is run once more on what is left.
use Rattle.std.proofs.Common.{◌≡◌, ◌<◌, ℕ, List, [], ◌∷◌, ◌++◌, true, refl, subst}
use Rattle.sink_runner.specs.declared.turn.Turn.{Turn}
use Rattle.sink_runner.specs.declared.turn.Turn.TheVariants.{Delivered, Empty, Failed, InDoubt, NoMemory}
use Rattle.agent_end.specs.Drains.{Deliveries, RunsOnEvents, is_delivery}

module _ {P : Type 0} (Turns : ℕ → P → Turn → P → Type 0) (Looks : P → ℕ → P → Type 0) where
  -- a run of so many events at most, after a look that found some
  pub run_on : (batch most : ℕ) (old between new : P) (size : ℕ) (turn : Turn) → batch ≡ most → 0 < size → Turns batch between turn new → Looks old size between → RunsOnEvents (Turns most) Looks old turn new
  run_on batch most old between new size turn same some run look = (size, between, some, look, subst (λ (n : ℕ). Turns n between turn new) same run)

module _ {P : Type 0} (Turns : P → Turn → P → Type 0) (Looks : P → ℕ → P → Type 0) where
  deliveries_then : (counts : List ℕ) (count : ℕ) (a b c : P) → Deliveries Turns Looks counts a b → RunsOnEvents Turns Looks b (Delivered count) c → Deliveries Turns Looks (counts ++ count ∷ []) a c
  deliveries_then [] count a b c same one = (c, subst (λ (p : P). RunsOnEvents Turns Looks p (Delivered count) c) same one, refl)
  deliveries_then (n ∷ counts) count a b c (next, first, rest) one = (next, first, deliveries_then counts count next b c rest one)

  -- one delivery more
  pub deliveries_push : (counts : List ℕ) (turn : Turn) (a b c : P) → is_delivery turn ≡ true → Deliveries Turns Looks counts a b → RunsOnEvents Turns Looks b turn c → (more : List ℕ) × Deliveries Turns Looks more a c
  deliveries_push counts (Delivered count) a b c is all one = (counts ++ count ∷ [], deliveries_then counts count a b c all one)
  deliveries_push counts Empty a b c is all one = absurd (cc)
  deliveries_push counts (Failed cause) a b c is all one = absurd (cc)
  deliveries_push counts InDoubt a b c is all one = absurd (cc)
  deliveries_push counts NoMemory a b c is all one = absurd (cc)
