-- The rounds of a run, one after another.
use Rattle.std.proofs.Common.{◌≡◌, ◌<◌, ◌≤◌, ◌+◌, ◌-◌, ◌*◌, min, ◌++◌, ◌∷◌, [], ℕ, zero, suc, List, length, length-append, inr, Err, refl, sym, ◌∙◌, ap, subst, append_assoc, arith}
use Rattle.std.proofs.lemmas.List.{append-nil}
use Rattle.event_core.specs.Content.{Content}
use Rattle.channel_face.specs.Machine.{State, Call}
use Rattle.load_gen.specs.Counted.{Tells}
use Rattle.load_gen.specs.Events.{batch, batches, events_from}
use Rattle.load_gen.specs.Parts.{Does, IsSomeTaken}
use Rattle.load_gen.specs.Runs.{AreRounds, Generates, IsLoad, IsPut, IsRunOf, IsTaken, IsUpkeep, is_fiftieth}
use Rattle.load_gen.specs.declared.refused.LoadRefused.{LoadRefused}
use Rattle.load_gen.specs.declared.refused.LoadRefused.TheVariants.{Check, Face, NoMemory}
use Rattle.load_gen.specs.declared.refused.LoadRefused.TheVariants as load
use Rattle.load_gen.specs.declared.tally.Tally.{Tally}
use Rattle.load_gen.proofs.Composing.{some_put, some_taken, within}
use Rattle.load_gen.proofs.Upkeep.{some_upkeep}

-- rounds after others
rounds_append : (n k : ℕ) (first more : List (List Content)) (a b : List Call) → AreRounds n k first a → AreRounds n (k + length first) more b → AreRounds n k (first ++ more) (a ++ b)
rounds_append n k [] more a b one two = subst (λ (p : List Call × ℕ). AreRounds n p.1 more (p.0 ++ b)) (λ i. (sym one i, here i)) two
  where
    here : k + 0 ≡ k
    here = omega arith
rounds_append n k (taken ∷ first) more a b one two = (
  one.0,
  one.1,
  one.2,
  one.3 ++ b,
  ap (λ (l : List Call). l ++ b) one.4 ∙ append_assoc one.0 (one.1 ++ (one.2 ++ one.3)) b ∙ ap (λ (l : List Call). one.0 ++ l) (append_assoc one.1 (one.2 ++ one.3) b ∙ ap (λ (l : List Call). one.1 ++ l) (append_assoc one.2 one.3 b)),
  one.5,
  one.6,
  one.7,
  rounds_append n (suc k) first more one.3 b one.8 (subst (λ (m : ℕ). AreRounds n m more b) here two),
)
  where
    here : k + suc (length first) ≡ suc k + length first
    here = omega arith

-- some rounds from batch k on
some_rounds : (n k count : ℕ) → (takes : List (List Content)) × (made : List Call) × (length takes ≡ count) × AreRounds n k takes made
some_rounds n k zero = ([], [], refl, refl)
some_rounds n k (suc count) =
    let put = some_put (batch n k) in
    let took = some_taken k in
    let upkeep = some_upkeep (is_fiftieth (k + 1)) in
    let more = some_rounds n (suc k) count in
    ([] ∷ more.0, put.0 ++ (took.0 ++ (upkeep.0 ++ more.1)), ap suc more.2, (put.0, took.0, upkeep.0, more.1, refl, put.1, took.1, upkeep.1, more.3))

-- one round more
pub rounds_push : (n : ℕ) (takes : List (List Content)) (events : List Content) (a put took upkeep : List Call) → AreRounds n 0 takes a → IsPut (batch n (length takes)) put → IsTaken (length takes) events took → IsUpkeep (is_fiftieth (length takes + 1)) upkeep
    → AreRounds n 0 (takes ++ events ∷ []) (a ++ (put ++ (took ++ upkeep)))
rounds_push n takes events a put took upkeep rounds is_put is_taken is_kept =
    let same : put ++ (took ++ (upkeep ++ [])) ≡ put ++ (took ++ upkeep) = ap (λ (l : List Call). put ++ (took ++ l)) (append-nil upkeep) in
    let one : AreRounds n (length takes) (events ∷ []) (put ++ (took ++ upkeep)) = (put, took, upkeep, [], sym same, is_put, is_taken, is_kept, refl) in
    rounds_append n 0 takes (events ∷ []) a (put ++ (took ++ upkeep)) rounds (subst (λ (m : ℕ). AreRounds n m (events ∷ []) (put ++ (took ++ upkeep))) (omega arith) one)

module _ (n seen : ℕ) (s : State) (why : LoadRefused) (takes : List (List Content)) (a : List Call) (rounds : AreRounds n 0 takes a) (few : length takes < batches n) where
  -- a whole round is gone on with to a whole run
  run_on : (events : List Content) (put took upkeep : List Call) → IsPut (batch n (length takes)) put → IsTaken (length takes) events took → IsUpkeep (is_fiftieth (length takes + 1)) upkeep → (rest : List Call) × IsLoad n (a ++ (put ++ (took ++ (upkeep ++ rest))))
  run_on events put took upkeep is_put is_taken is_kept =
      let round = put ++ (took ++ upkeep) in
      let all = rounds_push n takes events a put took upkeep rounds is_put is_taken is_kept in
      let more = some_rounds n (length (takes ++ events ∷ [])) (batches n - length (takes ++ events ∷ [])) in
      let count : length ((takes ++ events ∷ []) ++ more.0) ≡ batches n = let c = more.2 in omega (arith, c, few, length-append (takes ++ events ∷ []) more.0, length-append takes (events ∷ [])) in
      let run : AreRounds n 0 ((takes ++ events ∷ []) ++ more.0) ((a ++ round) ++ more.1) = rounds_append n 0 (takes ++ events ∷ []) more.0 (a ++ round) more.1 all (subst (λ (m : ℕ). AreRounds n m more.0 more.1) (omega arith) more.3) in
      let same : (a ++ round) ++ more.1 ≡ a ++ (put ++ (took ++ (upkeep ++ more.1))) = append_assoc a round more.1 ∙ ap (λ (l : List Call). a ++ l) (append_assoc put (took ++ upkeep) more.1 ∙ ap (λ (l : List Call). put ++ l) (append_assoc took upkeep more.1)) in
      (more.1, ((takes ++ events ∷ []) ++ more.0, (count, subst (λ (l : List Call). AreRounds n 0 ((takes ++ events ∷ []) ++ more.0) l) same run)))

  -- the run was cut off in a batch
  pub cut_in_batch : (b : List Call) → Does (IsPut (batch n (length takes))) seen s (Err why) b → Does (IsLoad n) seen s (Err why) (a ++ b)
  cut_in_batch b is =
      let took = some_taken (length takes) in
      let upkeep = some_upkeep (is_fiftieth (length takes + 1)) in
      within (IsPut (batch n (length takes))) (IsLoad n) seen s why a (λ put is_put. let on = run_on [] put took.0 upkeep.0 is_put took.1 upkeep.1 in (took.0 ++ (upkeep.0 ++ on.0), on.1)) b is

  -- it was cut off in the takes after a batch
  pub cut_in_takes : (put b : List Call) → IsPut (batch n (length takes)) put → Does (IsSomeTaken (length takes)) seen s (Err why) b → Does (IsLoad n) seen s (Err why) ((a ++ put) ++ b)
  cut_in_takes put b is_put is =
      let upkeep = some_upkeep (is_fiftieth (length takes + 1)) in
      within (IsSomeTaken (length takes)) (IsLoad n) seen s why (a ++ put)
      (λ took is_taken. let on = run_on is_taken.0 put took upkeep.0 is_put is_taken.1 upkeep.1 in (upkeep.0 ++ on.0, subst (IsLoad n) (sym (append_assoc a put (took ++ (upkeep.0 ++ on.0)))) on.1)) b is

  -- it was cut off while the channel was kept
  pub cut_in_upkeep : (events : List Content) (put took b : List Call) → IsPut (batch n (length takes)) put → IsTaken (length takes) events took → Does (IsUpkeep (is_fiftieth (length takes + 1))) seen s (Err why) b → Does (IsLoad n) seen s (Err why) (((a ++ put) ++ took) ++ b)
  cut_in_upkeep events put took b is_put is_taken is =
      within (IsUpkeep (is_fiftieth (length takes + 1))) (IsLoad n) seen s why ((a ++ put) ++ took)
      (λ upkeep is_kept. let on = run_on events put took upkeep is_put is_taken is_kept in (on.0, subst (IsLoad n) (sym (append_assoc (a ++ put) took (upkeep ++ on.0) ∙ append_assoc a put (took ++ (upkeep ++ on.0)))) on.1)) b is

-- what a run has done in its loop
abbrev pub SoFar : ℕ → Tally → List Call → Type 0
SoFar n t made = (takes : List (List Content)) × AreRounds n 0 takes made × Tells takes t

-- where so many batches of n events are put, there are more of them, and of the next one the first event and the count
abbrev pub IsAt : ℕ → ℕ → ℕ → Type 0
IsAt n k next = (next ≡ min (100 * k) n) × (100 * k < n + 100)

more_batches : (n k next : ℕ) → IsAt n k next → next < n → (k < batches n) × (next ≡ 100 * k)
more_batches n k next at left = let e = at.0 in (omega (arith, e, left), omega (arith, e, left))

next_batch : (n k next : ℕ) → IsAt n k next → next < n → events_from n next (min 100 (n - next)) ≡ batch n k
next_batch n k next at left = ap (λ (i : ℕ). events_from n i (min 100 (n - i))) (more_batches n k next at left).1

all_batches : (n k next : ℕ) → IsAt n k next → n ≤ next → k ≡ batches n
all_batches n k next at none = let e = at.0 in let most = at.1 in omega (arith, e, most, none)

-- in its loop a run was cut off in a batch
pub batch_cut : (n next seen : ℕ) (s : State) (why : LoadRefused) (t : Tally) (a b : List Call) → IsAt n t.batches next → next < n → SoFar n t a → Does (IsPut (events_from n next (min 100 (n - next)))) seen s (Err why) b → Does (IsLoad n) seen s (Err why) (a ++ b)
batch_cut n next seen s why t a b at left so is =
    let k : t.batches ≡ length so.0 = so.2.batches in
    let few : length so.0 < batches n = let m = (more_batches n t.batches next at left).0 in omega (arith, k, m) in
    cut_in_batch n seen s why so.0 a so.1 few b (subst (λ (l : List Content). Does (IsPut l) seen s (Err why) b) (next_batch n t.batches next at left ∙ ap (batch n) k) is)

-- it was cut off in the takes after a batch
pub takes_cut : (n next seen : ℕ) (s : State) (why : LoadRefused) (t : Tally) (a put b : List Call) → IsAt n t.batches next → next < n → SoFar n t a → IsPut (events_from n next (min 100 (n - next))) put → Does (IsSomeTaken t.batches) seen s (Err why) b
    → Does (IsLoad n) seen s (Err why) ((a ++ put) ++ b)
takes_cut n next seen s why t a put b at left so is_put is =
    let k : t.batches ≡ length so.0 = so.2.batches in
    let few : length so.0 < batches n = let m = (more_batches n t.batches next at left).0 in omega (arith, k, m) in
    cut_in_takes n seen s why so.0 a so.1 few put b (subst (λ (l : List Content). IsPut l put) (next_batch n t.batches next at left ∙ ap (batch n) k) is_put) (subst (λ (m : ℕ). Does (IsSomeTaken m) seen s (Err why) b) k is)

-- it was cut off while the channel was kept
pub upkeep_cut : (n next seen : ℕ) (s : State) (why : LoadRefused) (t : Tally) (count : ℕ) (a put took b : List Call) (events : List Content) → IsAt n t.batches next → next < n → SoFar n t a → IsPut (events_from n next (min 100 (n - next))) put → IsTaken t.batches events took → count ≡ t.batches + 1
    → Does (IsUpkeep (is_fiftieth count)) seen s (Err why) b → Does (IsLoad n) seen s (Err why) (((a ++ put) ++ took) ++ b)
upkeep_cut n next seen s why t count a put took b events at left so is_put is_taken one is =
    let k : t.batches ≡ length so.0 = so.2.batches in
    let few : length so.0 < batches n = let m = (more_batches n t.batches next at left).0 in omega (arith, k, m) in
    cut_in_upkeep n seen s why so.0 a so.1 few events put took b (subst (λ (l : List Content). IsPut l put) (next_batch n t.batches next at left ∙ ap (batch n) k) is_put) (subst (λ (m : ℕ). IsTaken m events took) k is_taken)
    (subst (λ (m : ℕ). Does (IsUpkeep (is_fiftieth m)) seen s (Err why) b) (one ∙ ap (λ (m : ℕ). m + 1) k) is)

-- one round more
pub rounds_more : (n next : ℕ) (t u : Tally) (a put took upkeep : List Call) (events : List Content) → IsAt n t.batches next → next < n → SoFar n t a → IsPut (events_from n next (min 100 (n - next))) put → IsTaken t.batches events took
    → ((takes : List (List Content)) → Tells takes t → Tells (takes ++ events ∷ []) u) → u.batches ≡ t.batches + 1 → IsUpkeep (is_fiftieth u.batches) upkeep → SoFar n u (((a ++ put) ++ took) ++ upkeep)
rounds_more n next t u a put took upkeep events at left so is_put is_taken tells one is_kept =
    let k : t.batches ≡ length so.0 = so.2.batches in
    let same : ((a ++ put) ++ took) ++ upkeep ≡ a ++ (put ++ (took ++ upkeep)) = append_assoc (a ++ put) took upkeep ∙ append_assoc a put (took ++ upkeep) in
    let round =
    rounds_push n so.0 events a put took upkeep so.1 (subst (λ (l : List Content). IsPut l put) (next_batch n t.batches next at left ∙ ap (batch n) k) is_put) (subst (λ (m : ℕ). IsTaken m events took) k is_taken)
    (subst (λ (m : ℕ). IsUpkeep (is_fiftieth m) upkeep) (one ∙ ap (λ (m : ℕ). m + 1) k) is_kept) in
    (so.0 ++ events ∷ [], subst (AreRounds n 0 (so.0 ++ events ∷ [])) (sym same) round, tells so.0 so.2)

-- where the next batch begins
pub at_next : (n next next' k k' : ℕ) → IsAt n k next → next < n → next' ≡ next + min 100 (n - next) → k' ≡ k + 1 → IsAt n k' next'
at_next n next next' k k' at left is more = let e = at.0 in (omega (arith, e, left, is, more), omega (arith, e, left, is, more))

-- all batches were put
pub whole_run : (n next : ℕ) (t : Tally) (a : List Call) → IsAt n t.batches next → n ≤ next → (so : SoFar n t a) → IsRunOf n so.0 a
whole_run n next t a at none so = (sym so.2.batches ∙ all_batches n t.batches next at none, so.1)

-- a run that was cut off, as it is answered
pub as_generated : (n seen : ℕ) (s : State) (why : LoadRefused) (made : List Call) → Does (IsLoad n) seen s (Err why) made → Generates n seen s (Err why) made
as_generated n seen s (Face cause) made is = is
as_generated n seen s (Check cause) made is = is
as_generated n seen s (load.Prune cause) made is = is
as_generated n seen s NoMemory made is = inr is
