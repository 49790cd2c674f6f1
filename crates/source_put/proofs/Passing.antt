-- A chain from some link on.
use Rattle.std.proofs.Common.{◌≡◌, ◌<◌, ◌≤◌, ◌+◌, ◌∙◌, ℕ, suc, List, [], ◌∷◌, ◌++◌, length, set, get_or, take, drop, Result, Ok, Err, inl, inr, OnOk, is_err, false, refl, sym, ap, subst, arith}
use Rattle.std.proofs.lemmas.List.{append-nil, append_assoc, drop_all, drop_more, drop-set-lt, set_split, take_all, take_more_set}
use Rattle.event_core.specs.Content.{Content}
use Rattle.source_put.specs.Chains.{GoesOn, Intercepts, Links, Meaning, Passes, behind}
use Rattle.source_put.specs.declared.chain.HostNames.{HostNames}
use Rattle.source_put.specs.declared.chain.ChainLink.{ChainLink}
use Rattle.source_put.specs.declared.chain.Passed.{Passed}
use Rattle.source_put.specs.declared.chain.Passed.TheVariants.{Event, Dropped, TooLarge, NoMemory}
use Rattle.source_put.specs.declared.chain.Stopped.{Stopped}
use Rattle.source_put.specs.declared.chain.Stopped.TheVariants as stop

module _ {B : Type 0} (Means : Meaning B) (moment : ℕ) (host : HostNames) where
  -- whatever the links that are left make of the event, is what all make of it
  pub record IsLeft (all : List (ChainLink B)) (whole : Content) (done left : List (ChainLink B)) (event : Content) : Type 0 where
    pub goes : (passed : Passed) (after : List (ChainLink B)) → Passes Means moment host left event passed after → Passes Means moment host all whole passed (done ++ after)

  -- at the first link
  pub begins : (all : List (ChainLink B)) (event : Content) → IsLeft all event [] all event
  begins all event = record { goes = λ passed after is. is }

  module _ (all : List (ChainLink B)) (whole : Content) (links : List (ChainLink B)) (i : ℕ) (d : ChainLink B) (event : Content) (below : i < length links) (left : IsLeft all whole (take i links) (drop i links) event) where
    -- one more link was passed
    pub goes_on : (made : Content) (first : ChainLink B) → Links Means moment host (get_or links i d) event (Event made) first
        → IsLeft all whole (take (i + 1) (set links i first)) (drop (i + 1) (set links i first)) made
    goes_on made first link = record {
      goes = λ passed after is.
          let rest : Passes Means moment host (drop (i + 1) links) made passed after = subst (λ (l : List (ChainLink B)). Passes Means moment host l made passed after) (drop-set-lt (i + 1) links i first (omega arith)) is in
          let whole_left : Passes Means moment host (drop i links) event passed (first ∷ after) = subst (λ (l : List (ChainLink B)). Passes Means moment host l event passed (first ∷ after)) (sym (drop_more links i d below)) (Event made, first, after, link, refl, rest) in
          let same : take i links ++ (first ∷ after) ≡ take (i + 1) (set links i first) ++ after = sym (append_assoc (take i links) (first ∷ []) after) ∙ ap (λ (l : List (ChainLink B)). l ++ after) (sym (take_more_set links i first below)) in
          subst (λ (l : List (ChainLink B)). Passes Means moment host all whole passed l) same (left.goes passed (first ∷ after) whole_left);
    }

    stopped : (made : Passed) (first : ChainLink B) → Passes Means moment host (get_or links i d ∷ drop (i + 1) links) event made (first ∷ drop (i + 1) links) → Passes Means moment host all whole made (set links i first)
    stopped made first is =
        let whole_left : Passes Means moment host (drop i links) event made (first ∷ drop (i + 1) links) = subst (λ (l : List (ChainLink B)). Passes Means moment host l event made (first ∷ drop (i + 1) links)) (sym (drop_more links i d below)) is in
        let more : suc i ≡ i + 1 = omega arith in
        let same : take i links ++ (first ∷ drop (i + 1) links) ≡ set links i first = ap (λ (n : ℕ). take i links ++ (first ∷ drop n links)) (sym more) ∙ sym (set_split links i first below) in
        subst (λ (l : List (ChainLink B)). Passes Means moment host all whole made l) same (left.goes made (first ∷ drop (i + 1) links) whole_left)

    -- one more link lets no event go on
    pub drops : (first : ChainLink B) → Links Means moment host (get_or links i d) event Dropped first → Passes Means moment host all whole Dropped (set links i first)
    drops first link = stopped Dropped first (Dropped, first, drop (i + 1) links, link, refl, (refl, refl))

    -- it would make an event that is too large
    pub too_large : (size : ℕ) (first : ChainLink B) → Links Means moment host (get_or links i d) event (TooLarge size) first → Passes Means moment host all whole (TooLarge size) (set links i first)
    too_large size first link = stopped (TooLarge size) first (TooLarge size, first, drop (i + 1) links, link, refl, (refl, refl))

    -- it has no memory
    pub no_memory : (first : ChainLink B) → Links Means moment host (get_or links i d) event NoMemory first → Passes Means moment host all whole NoMemory (set links i first)
    no_memory first link = stopped NoMemory first (NoMemory, first, drop (i + 1) links, link, refl, (refl, refl))

  -- no link is left
  pub ends : (all : List (ChainLink B)) (whole : Content) (links : List (ChainLink B)) (i : ℕ) (event : Content) → length links ≤ i → IsLeft all whole (take i links) (drop i links) event → Passes Means moment host all whole (Event event) links
  ends all whole links i event over left =
      let none : Passes Means moment host (drop i links) event (Event event) [] = subst (λ (l : List (ChainLink B)). Passes Means moment host l event (Event event) []) (sym (drop_all i links over)) (refl, refl) in
      subst (λ (l : List (ChainLink B)). Passes Means moment host all whole (Event event) l) (append-nil (take i links) ∙ take_all i links over) (left.goes (Event event) [] none)

  -- the events that were kept come before those of the rest
  abbrev pub kept_before : List Content → Result (List Content) Stopped → Result (List Content) Stopped
  kept_before [] result = result
  kept_before (event ∷ kept) result = behind event (kept_before kept result)

  kept-append : (kept : List Content) (event : Content) (result : Result (List Content) Stopped) → kept_before (kept ++ event ∷ []) result ≡ kept_before kept (behind event result)
  kept-append [] event result = refl
  kept-append (e ∷ kept) event result = ap (behind e) (kept-append kept event result)

  kept-ok : (kept : List Content) → kept_before kept (Ok []) ≡ Ok kept
  kept-ok [] = refl
  kept-ok (e ∷ kept) = ap (behind e) (kept-ok kept)

  kept-err : (kept : List Content) (why : Stopped) → kept_before kept (Err why) ≡ Err why
  kept-err [] why = refl
  kept-err (e ∷ kept) why = ap (behind e) (kept-err kept why)

  -- whatever becomes of the events that are left, is what becomes of all
  pub record AreLeft (all : List (ChainLink B)) (batch kept : List Content) (links : List (ChainLink B)) (left : List Content) : Type 0 where
    pub goes : (result : Result (List Content) Stopped) (after : List (ChainLink B)) → Intercepts Means moment host links left result after → Intercepts Means moment host all batch (kept_before kept result) after

  -- at the first event
  pub all_left : (all : List (ChainLink B)) (batch : List Content) → AreLeft all batch [] all batch
  all_left all batch = record { goes = λ result after is. is }

  module _ (all : List (ChainLink B)) (batch kept : List Content) (links : List (ChainLink B)) (event : Content) (rest : List Content) (are : AreLeft all batch kept links (event ∷ rest)) where
    -- one more event goes on
    pub one_kept : (made : Content) (next : List (ChainLink B)) → Passes Means moment host links event (Event made) next → AreLeft all batch (kept ++ made ∷ []) next rest
    one_kept made next passes = record {
      goes = λ result after is. subst (λ (r : Result (List Content) Stopped). Intercepts Means moment host all batch r after) (sym (kept-append kept made result)) (are.goes (behind made result) after (Event made, next, passes, inl (result, is, refl)));
    }

    -- one more does not
    pub one_dropped : (next : List (ChainLink B)) → Passes Means moment host links event Dropped next → AreLeft all batch kept next rest
    one_dropped next passes = record { goes = λ result after is. are.goes result after (Dropped, next, passes, is) }

    ended : (why : Stopped) (after : List (ChainLink B)) → Intercepts Means moment host links (event ∷ rest) (Err why) after → Intercepts Means moment host all batch (Err why) after
    ended why after is = subst (λ (r : Result (List Content) Stopped). Intercepts Means moment host all batch r after) (kept-err kept why) (are.goes (Err why) after is)

    -- one would be too large
    pub one_too_large : (size : ℕ) (next : List (ChainLink B)) → Passes Means moment host links event (TooLarge size) next → Intercepts Means moment host all batch (Err (stop.TooLarge size)) next
    one_too_large size next passes = ended (stop.TooLarge size) next (TooLarge size, next, passes, (refl, refl))

    -- for one there is no memory
    pub one_without_memory : (next : List (ChainLink B)) → Passes Means moment host links event NoMemory next → Intercepts Means moment host all batch (Err stop.NoMemory) next
    one_without_memory next passes = ended stop.NoMemory next (NoMemory, next, passes, (refl, refl))

    -- there is no memory to keep what one became
    pub none_kept : (made : Content) (next : List (ChainLink B)) → Passes Means moment host links event (Event made) next → Intercepts Means moment host all batch (Err stop.NoMemory) next
    none_kept made next passes = ended stop.NoMemory next (Event made, next, passes, inr (refl, refl))

  -- no event is left
  pub none_left : (all : List (ChainLink B)) (batch kept : List Content) (links : List (ChainLink B)) → AreLeft all batch kept links [] → Intercepts Means moment host all batch (Ok kept) links
  none_left all batch kept links are = subst (λ (r : Result (List Content) Stopped). Intercepts Means moment host all batch r links) (kept-ok kept) (are.goes (Ok []) links (refl, refl))

  -- these events go on
  abbrev pub the_ok : List Content → Result (List Content) Stopped
  the_ok events = Ok events

  -- no more events go on than came
  pub fewer : (links : List (ChainLink B)) (batch : List Content) (events : List Content) (after : List (ChainLink B)) → Intercepts Means moment host links batch (the_ok events) after → length events ≤ length batch
  fewer links [] events after is = let none : events ≡ [] = ok_is is.0 in let many : length events ≡ 0 = ap length none in omega (arith, many)
    where
      ok_is : {x y : List Content} → the_ok x ≡ the_ok y → x ≡ y
      ok_is e = cc
  fewer links (event ∷ batch) events after (passed, next, passes, goes) = by_cases passed goes (λ kept is. fewer next batch kept after is)
    where
      kept_of : (made : Content) (rest : Result (List Content) Stopped) → the_ok events ≡ behind made rest → Intercepts Means moment host next batch rest after → ((kept : List Content) → Intercepts Means moment host next batch (Ok kept) after → length kept ≤ length batch) → length events ≤ suc (length batch)
      kept_of made (Ok kept) is rest few = let same : events ≡ made ∷ kept = cc in let many : length events ≡ suc (length kept) = ap length same in omega (arith, many, few kept rest)
      kept_of made (Err why) is rest few = cc

      by_cases : (passed : Passed) → GoesOn Means moment host passed next (the_ok events) after (λ rest. Intercepts Means moment host next batch rest after) → ((kept : List Content) → Intercepts Means moment host next batch (Ok kept) after → length kept ≤ length batch) → length events ≤ suc (length batch)
      by_cases (Event made) (inl more) few = kept_of made more.0 more.2 more.1 few
      by_cases (Event made) (inr none) few = absurd (not_ok none.0)
        where
          not_ok : the_ok events ≡ Err stop.NoMemory → ⊥
          not_ok e = cc
      by_cases Dropped rest few = let less = few events rest in omega (arith, less)
      by_cases (TooLarge size) none few = absurd (not_ok none.0)
        where
          not_ok : the_ok events ≡ Err (stop.TooLarge size) → ⊥
          not_ok e = cc
      by_cases NoMemory none few = absurd (not_ok none.0)
        where
          not_ok : the_ok events ≡ Err stop.NoMemory → ⊥
          not_ok e = cc

-- what is written back to a list through a loan of the whole
pub written_back : {A : Type 0} (n : ℕ) (new old : List A) → n ≡ length old → length new ≡ length old → take n (new ++ drop (length new) old) ≡ new
written_back n new old n_is same =
    let none : drop (length new) old ≡ [] = drop_all (length new) old (omega (arith, same)) in
    ap (λ (l : List _). take n (new ++ l)) none ∙ (ap (take n) (append-nil new) ∙ take_all n new (omega (arith, n_is, same)))

-- the links after an event passed a loan of them all
pub record Lent {B : Type 0} (Means : Meaning B) (moment : ℕ) (host : HostNames) (n : ℕ) (links new : List (ChainLink B)) (event : Content) (made : Passed) : Type 0 where
  pub passes : Passes Means moment host links event made new
  pub back : new ≡ take n (new ++ drop (length new) links)

-- an event passed a loan of all links, which were written back
pub lent : {B : Type 0} (Means : Meaning B) (moment : ℕ) (host : HostNames) (n : ℕ) (links slice new : List (ChainLink B)) (event : Content) (made : Passed) → slice ≡ links → n ≡ length links → Passes Means moment host slice event made new → length new ≡ length slice → Lent Means moment host n links new event made
lent {B} Means moment host n links slice new event made same n_is passes len = record {
  passes = subst (λ (l : List (ChainLink B)). Passes Means moment host l event made new) same passes;
  back = sym (written_back n new links n_is (len ∙ ap length same));
}

-- what holds of an answer that is no error
pub on_ok : {A E P : Type 0} (r : Result A E) → OnOk r P → false ≡ is_err r → P
on_ok (Ok a) p is = p
on_ok (Err e) p is = cc
