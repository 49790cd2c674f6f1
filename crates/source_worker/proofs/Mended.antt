-- Channels from some place on are mended.
use Rattle.std.proofs.Common.{◌≡◌, ◌<◌, ◌≤◌, ◌+◌, ◌∙◌, ℕ, List, [], ◌∷◌, ◌++◌, length, set, slice_get, take, drop, Bool, true, false, Some, Ok, Err, sym, ap, subst, arith, true≢false}
use Rattle.std.specs.Result.{is_err}
use Rattle.std.proofs.lemmas.List.{append-nil, append_assoc, drop_all, drop_more, drop-set-lt, take_all, take_more_set}
use Rattle.std.proofs.lemmas.Option.{same_Some, slice_get-get_or}
use Rattle.source_worker.specs.Rounds.{Answer, MendsEach, any_refused}

-- one answer more, which is no refusal
pub refused_ok : (answers : List Answer) (answer : Answer) (refused : Bool) → refused ≡ any_refused answers → is_err answer ≡ false → refused ≡ any_refused (answers ++ answer ∷ [])
refused_ok [] (Ok done) refused is not = is
refused_ok [] (Err cause) refused is not = absurd (true≢false not)
refused_ok (Ok first ∷ answers) answer refused is not = refused_ok answers answer refused is not
refused_ok (Err cause ∷ answers) answer refused is not = is

-- one answer more, which is a refusal
pub refused_err : (answers : List Answer) (answer : Answer) (refused : Bool) → refused ≡ true → is_err answer ≡ true → refused ≡ any_refused (answers ++ answer ∷ [])
refused_err [] (Ok done) refused is err = absurd (true≢false (sym err))
refused_err [] (Err cause) refused is err = is
refused_err (Ok first ∷ answers) answer refused is err = refused_err answers answer refused is err
refused_err (Err cause ∷ answers) answer refused is err = is

module _ {F : Type 0} (Mend : F → Answer → F → Type 0) (all : List F) where
  -- whatever the channels that are left answer, is what all answer after these answers
  pub record AreMended (answers : List Answer) (done left : List F) : Type 0 where
    pub goes : (others : List Answer) (news : List F) → MendsEach Mend left others news → MendsEach Mend all (answers ++ others) (done ++ news)

  -- no channel was mended yet
  pub mends_all : AreMended [] [] all
  mends_all = record { goes = λ others news is. is }

  -- one more was mended
  pub one_mended : (ports : List F) (i : ℕ) (old new : F) → i < length ports → slice_get ports i ≡ Some old → (answers : List Answer) (answer : Answer)
      → AreMended answers (take i ports) (drop i ports) → Mend old answer new → AreMended (answers ++ answer ∷ []) (take (i + 1) (set ports i new)) (drop (i + 1) (set ports i new))
  one_mended ports i old new below is answers answer are one = record {
    goes = λ others news rest.
        let split : drop i ports ≡ old ∷ drop (i + 1) ports = drop_more ports i old below ∙ ap (λ (port : F). port ∷ drop (i + 1) ports) (same_Some _ _ (sym (slice_get-get_or ports i old below) ∙ is)) in
        let before : take i ports ++ (new ∷ news) ≡ take (i + 1) (set ports i new) ++ news = sym (append_assoc (take i ports) (new ∷ []) news) ∙ ap (λ (l : List F). l ++ news) (sym (take_more_set ports i new below)) in
        let behind : MendsEach Mend (drop (i + 1) ports) others news = subst (λ (l : List F). MendsEach Mend l others news) (drop-set-lt (i + 1) ports i new (omega arith)) rest in
        let left : MendsEach Mend (drop i ports) (answer ∷ others) (new ∷ news) = subst (λ (l : List F). MendsEach Mend l (answer ∷ others) (new ∷ news)) (sym split) (one, behind) in
        let whole : answers ++ (answer ∷ others) ≡ (answers ++ answer ∷ []) ++ others = sym (append_assoc answers (answer ∷ []) others) in
        subst (λ (x : List Answer × List F). MendsEach Mend all x.0 x.1) (λ k. (whole k, before k)) (are.goes (answer ∷ others) (new ∷ news) left);
  }

  -- none is left
  pub all_mended : (ports : List F) (i : ℕ) (answers : List Answer) → length ports ≤ i → AreMended answers (take i ports) (drop i ports) → MendsEach Mend all answers ports
  all_mended ports i answers over are =
      let none : MendsEach Mend (drop i ports) [] [] = subst (λ (l : List F). MendsEach Mend l [] []) (sym (drop_all i ports over)) tt in
      subst (λ (x : List Answer × List F). MendsEach Mend all x.0 x.1) (λ k. (append-nil answers k, (append-nil (take i ports) ∙ take_all i ports over) k)) (are.goes [] [] none)
