-- Texts that are judged one after another.
use Rattle.std.proofs.Common.{ℕ, ◌+◌, ◌≤◌, ◌<◌, Bool, get_or, drop, length, subst, arith, List, [], ◌∷◌, ◌++◌, refl, sym, ap, ◌∙◌, Result, Ok, Err, OnOk}
use Rattle.std.proofs.lemmas.List.{drop_all, length-map}
use Rattle.std.specs.Borrow.{Bor}
use Rattle.std.specs.List.{flat_map}
use Rattle.prop_text.specs.Views.{texts}
use Rattle.plan_judging.specs.Candidates.{Seen, adds, Adds}
use Rattle.agent_plan.specs.Patterns.{Asked, Asks, IsVerdict, AreVerdicts, bad_one, bad_ones}
use Rattle.plan_judging.proofs.Joins.{adds_more, adds_nothing, join, add_nothing, drop_texts}

-- where no text is judged, nothing more was seen
pub ask_none : (s : Seen) → Asks s s []
ask_none s = record { verdicts = []; are = tt; adds = add_nothing s }

-- one text is judged, and a bad one is noted
pub ask_one : {s t : Seen} (a : Asked) (bad : Bool) → IsVerdict a.is_date bad a.text → Adds s t (bad_one a bad) → Asks s t (a ∷ [])
ask_one {s} {t} a bad is step = record { verdicts = bad ∷ []; are = (is, tt); adds = join step (add_nothing t) }

are_more : (xs ys : List Asked) (us vs : List Bool) → AreVerdicts xs us → AreVerdicts ys vs → AreVerdicts (xs ++ ys) (us ++ vs)
are_more [] ys [] vs h k = k
are_more [] ys (u ∷ us) vs h k = absurd h
are_more (x ∷ xs) ys [] vs h k = absurd h
are_more (x ∷ xs) ys (u ∷ us) vs h k = (h.0, are_more xs ys us vs h.1 k)

adds_both : (xs ys : List Asked) (us vs : List Bool) → AreVerdicts xs us → (s t u : Seen) → Adds s t (bad_ones xs us) → Adds t u (bad_ones ys vs) → Adds s u (bad_ones (xs ++ ys) (us ++ vs))
adds_both [] ys [] vs h s t u first second = record { is = second.is ∙ ap (λ (x : Seen). adds x (bad_ones ys vs)) (first.is ∙ adds_nothing s) }
adds_both [] ys (b ∷ us) vs h s t u first second = absurd h
adds_both (x ∷ xs) ys [] vs h s t u first second = absurd h
adds_both (x ∷ xs) ys (b ∷ us) vs h s t u first second =
    let between = adds s (bad_one x b) in
    let rest : Adds between t (bad_ones xs us) = record { is = first.is ∙ sym (adds_more s (bad_one x b) (bad_ones xs us)) } in
    join (record { is = refl }) (adds_both xs ys us vs h.1 between t u rest second)

-- texts are judged, and then others
pub ask_both : {s t u : Seen} {xs ys : List Asked} → Asks s t xs → Asks t u ys → Asks s u (xs ++ ys)
ask_both {s} {t} {u} {xs} {ys} first second = record {
  verdicts = first.verdicts ++ second.verdicts;
  are = are_more xs ys first.verdicts second.verdicts first.are second.are;
  adds = adds_both xs ys first.verdicts second.verdicts first.are s t u first.adds second.adds;
}

-- the same, where what comes last may fail
pub ask_last : {s t : Seen} {xs : List Asked} {T E : Type 0} (r : Result T E) (u : Seen) (ys : List Asked) → Asks s t xs → OnOk r (Asks t u ys) → OnOk r (Asks s u (xs ++ ys))
ask_last (Ok v) u ys first last = ask_both first last
ask_last (Err e) u ys first last = tt

-- a loop over names, of which the first n are judged
pub record AsksOn (f : List ℕ → List Asked) (n : ℕ) (names : List (Bor (List ℕ))) (old now : Seen) : Type 0 where
  pub rest : (end : Seen) → Asks now end (flat_map f (drop n (texts names))) → Asks old end (flat_map f (texts names))

-- before the first name nothing is judged
pub asks_begin : (f : List ℕ → List Asked) (names : List (Bor (List ℕ))) (s : Seen) → AsksOn f 0 names s s
asks_begin f names s = record { rest = λ end h. h }

-- the texts of one name more are judged
pub asks_on : {f : List ℕ → List Asked} {n : ℕ} {names : List (Bor (List ℕ))} {old now next : Seen} (d : Bor (List ℕ)) → n < length names → AsksOn f n names old now → Asks now next (f (get_or names n d).now) → AsksOn f (n + 1) names old next
asks_on {f} {n} {names} {old} {now} {next} d lt before step = record {
  rest = λ end h. before.rest end (subst (λ (l : List (List ℕ)). Asks now end (flat_map f l)) (sym (drop_texts names n d lt)) (ask_both step h));
}

-- after the last name the texts of all names are judged
pub asks_end : {f : List ℕ → List Asked} {n : ℕ} {names : List (Bor (List ℕ))} {old now : Seen} → length names ≤ n → AsksOn f n names old now → Asks old now (flat_map f (texts names))
asks_end {f} {n} {names} {old} {now} past before =
    before.rest now (subst (λ (l : List (List ℕ)). Asks now now (flat_map f l)) (sym (drop_all n (texts names) (omega (arith, past, length-map names (λ (x : Bor (List ℕ)). x.now))))) (ask_none now))
