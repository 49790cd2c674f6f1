-- What keeps the channel after a fiftieth batch.
use Rattle.std.proofs.Common.{◌≡◌, ◌++◌, ◌∷◌, [], ℕ, List, length, Ok, Err, Bool, true, false, refl, sym, ap, subst, ◌∙◌}
use Rattle.std.proofs.lemmas.List.{append-nil}
use Rattle.channel_face.specs.History.{Opening, Step}
use Rattle.channel_face.specs.Keeps.{is_spent_check, is_spent_prune}
use Rattle.channel_face.specs.Machine.{Call, Checkpoint, Prune, State}
use Rattle.channel_face.specs.declared.replies.CheckRefused.{CheckRefused}
use Rattle.channel_face.specs.declared.replies.PruneRefused.{PruneRefused}
use Rattle.channel_lock.specs.Views.{View}
use Rattle.shared_channel.specs.Calls.{Answers, state_seen}
use Rattle.load_gen.specs.Calls.{IsCalled, Makes}
use Rattle.load_gen.specs.Parts.{Does}
use Rattle.load_gen.specs.Runs.{IsUpkeep}
use Rattle.load_gen.specs.declared.refused.LoadRefused.TheVariants as load
use Rattle.load_gen.proofs.Making.{makes_as, makes_one, makes_then}

-- some upkeep, or none
pub some_upkeep : (fiftieth : Bool) → (made : List Call) × IsUpkeep fiftieth made
some_upkeep true = (Checkpoint (Ok tt) ∷ Prune (Ok 0) ∷ [], (0, refl))
some_upkeep false = ([], refl)

-- no checkpoint was laid
unlaid : (seen : ℕ) (s : State) (cause : CheckRefused) (made : List Call) → IsCalled seen (is_spent_check (Err cause)) (Checkpoint (Err cause)) made → Does (IsUpkeep true) seen s (Err (load.Check cause)) made
unlaid seen s cause made is = record {
  front = [];
  next = Checkpoint (Ok tt);
  refused = made;
  back = [];
  goes = (Prune (Ok 0) ∷ [], (0, refl));
  refuses = is;
  rolls = refl;
  whole = sym (append-nil made);
}

-- a checkpoint was laid, and nothing removed
unpruned : (seen : ℕ) (s : State) (cause : PruneRefused) (made refused : List Call) → made ≡ Checkpoint (Ok tt) ∷ [] → IsCalled seen (is_spent_prune (Err cause)) (Prune (Err cause)) refused → Does (IsUpkeep true) seen s (Err (load.Prune cause)) (made ++ refused)
unpruned seen s cause made refused laid is = record {
  front = Checkpoint (Ok tt) ∷ [];
  next = Prune (Ok 0);
  refused = refused;
  back = [];
  goes = ([], (0, refl));
  refuses = is;
  rolls = refl;
  whole = ap (λ (l : List Call). l ++ refused) laid ∙ ap (λ (l : List Call). Checkpoint (Ok tt) ∷ l) (sym (append-nil refused));
}

module _ {C : Type 0} (stands : C → Opening → List Step → Type 0) (tells : C → Bool) (moment : C → ℕ) where
  -- the checkpoint was refused
  pub keeps_unlaid : (v w : View) (by : ℕ) (cause : CheckRefused) → Answers stands tells moment (is_spent_check (Err cause)) v by (Checkpoint (Err cause)) w → Makes by v w (Does (IsUpkeep true) (length w.seen) (state_seen w) (Err (load.Check cause)))
  keeps_unlaid v w by cause answers =
      let spent = is_spent_check (Err cause) in
      makes_as by v w (IsCalled (length w.seen) spent (Checkpoint (Err cause))) (Does (IsUpkeep true) (length w.seen) (state_seen w) (Err (load.Check cause))) (makes_one stands tells moment spent v w by (Checkpoint (Err cause)) answers)
      (λ a is. unlaid (length w.seen) (state_seen w) cause a is)

  -- the removal was refused
  pub keeps_unpruned : (v w x : View) (by by' : ℕ) (cause : PruneRefused) → Answers stands tells moment false v by (Checkpoint (Ok tt)) w → by' ≡ by → Answers stands tells moment (is_spent_prune (Err cause)) w by' (Prune (Err cause)) x
      → Makes by v x (Does (IsUpkeep true) (length x.seen) (state_seen x) (Err (load.Prune cause)))
  keeps_unpruned v w x by by' cause laid one answers =
      let spent = is_spent_prune (Err cause) in
      makes_then by v w x (IsCalled (length w.seen) false (Checkpoint (Ok tt))) (IsCalled (length x.seen) spent (Prune (Err cause))) (Does (IsUpkeep true) (length x.seen) (state_seen x) (Err (load.Prune cause))) (makes_one stands tells moment false v w by (Checkpoint (Ok tt)) laid)
      (subst (λ (m : ℕ). Makes m w x (IsCalled (length x.seen) spent (Prune (Err cause)))) one (makes_one stands tells moment spent w x by' (Prune (Err cause)) answers)) (λ a b p q. unpruned (length x.seen) (state_seen x) cause a b p q)

  -- both were made
  pub keeps_both : (v w x : View) (by by' count : ℕ) → Answers stands tells moment false v by (Checkpoint (Ok tt)) w → by' ≡ by → Answers stands tells moment false w by' (Prune (Ok count)) x → Makes by v x (IsUpkeep true)
  keeps_both v w x by by' count laid one answers =
      makes_then by v w x (IsCalled (length w.seen) false (Checkpoint (Ok tt))) (IsCalled (length x.seen) false (Prune (Ok count))) (IsUpkeep true) (makes_one stands tells moment false v w by (Checkpoint (Ok tt)) laid)
      (subst (λ (m : ℕ). Makes m w x (IsCalled (length x.seen) false (Prune (Ok count)))) one (makes_one stands tells moment false w x by' (Prune (Ok count)) answers)) (λ a b p q. (count, λ i. p i ++ q i))
