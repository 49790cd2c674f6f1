-- Objects that are dealt out, one part after the other.
use Rattle.std.proofs.Common.{◌≡◌, ◌∙◌, ◌<◌, ◌≤◌, ◌+◌, ◌-◌, ◌⊎◌, inl, inr, ℕ, zero, suc, Bool, List, [], ◌∷◌, ◌++◌, length, get_or, flat_map, take, drop, refl, sym, ap, subst, arith, append_assoc, length-append, length-drop, drop-cons, drop-drop}
use Rattle.std.proofs.lemmas.List.{append-nil}
use Rattle.agent_plan.specs.declared.plan.SourcePlan.{SourcePlan}
use Rattle.agent_plan.specs.declared.plan.SourceKind.{SourceKind}
use Rattle.agent_plan.specs.declared.plan.SourceKind.TheVariants.{Netcat, Avro, Stdin}
use Rattle.agent_plan.specs.declared.plan.StepPlan.{StepPlan}
use Rattle.agent_plan.specs.declared.plan.StepPlan.TheVariants as plan
use Rattle.chain_plan.specs.declared.plan.LinkPlan.{LinkPlan}
use Rattle.chain_plan.specs.declared.plan.LinkPlan.TheVariants as link
use Rattle.plan_objects.specs.Asks.{Ask, asks_of_source, asks_of_step, has_asks, step_asks}
use Rattle.agent_outside.specs.Ends.{listeners_by, listeners_of}
use Rattle.agent_drafts.specs.Drafts.{Deals, IsLink, inputs_by, inputs_of, many_at, objects_at, used_by}

-- ---- the interceptors of one source

-- one more
pub dealt_more : {A B C : Type 0} (R : A → List B → C → Type 0) (xs : List A) (own : List B) (ys : List C) (x : A) (given : List B) (y : C) → Deals R xs own ys → R x given y
    → Deals R (xs ++ x ∷ []) (own ++ given) (ys ++ y ∷ [])
dealt_more {B = B} R [] own [] x given y none is = (given, [], ap (λ (l : List B). l ++ given) none ∙ sym (append-nil given), is, refl)
dealt_more R [] own (z ∷ ys) x given y none is = absurd none
dealt_more R (w ∷ xs) own [] x given y all is = absurd all
dealt_more {B = B} R (w ∷ xs) own (z ∷ ys) x given y (first, rest, from, here, all) is =
    (first, rest ++ given, ap (λ (l : List B). l ++ given) from ∙ append_assoc first rest given, here, dealt_more R xs rest ys x given y all is)

-- an interceptor has as many objects as it asks for
pub linked_many : {B : Type 0} (step : StepPlan) (given : List B) (made : LinkPlan B) → IsLink step given made → length given ≡ length (asks_of_step step)
linked_many (plan.Step step) given (link.Step copy) is = ap length is.0
linked_many (plan.Step step) given (link.Regex copy) is = absurd is
linked_many (plan.Step step) given (link.Boxed object) is = absurd is
linked_many (plan.Regex keys line) given (link.Step copy) is = absurd is
linked_many (plan.Regex keys line) given (link.Regex copy) is = ap length is.0
linked_many (plan.Regex keys line) given (link.Boxed object) is = absurd is
linked_many (plan.Plugin name line) given (link.Step copy) is = absurd is
linked_many (plan.Plugin name line) given (link.Regex copy) is = absurd is
linked_many (plan.Plugin name line) given (link.Boxed object) is = ap length is

-- interceptors have as many objects as they ask for in all
pub dealt_many : {B : Type 0} (steps : List StepPlan) (own : List B) (links : List (LinkPlan B)) → Deals IsLink steps own links → length own ≡ length (flat_map asks_of_step steps)
dealt_many [] own [] none = ap length none
dealt_many [] own (made ∷ links) none = absurd none
dealt_many (step ∷ steps) own [] all = absurd all
dealt_many (step ∷ steps) own (made ∷ links) (given, rest, from, here, all) =
    ap length from ∙ length-append given rest ∙ (λ i. linked_many step given made here i + dealt_many steps rest links all i)
    ∙ sym (length-append (asks_of_step step) (flat_map asks_of_step steps))

-- the first of some objects was taken
pub first_gone : {B : Type 0} (old new : List B) (object : B) → 1 ≤ length old → object ≡ get_or old 0 object → new ≡ take 0 old ++ drop 1 old → old ≡ object ∷ new
first_gone [] new object some is left = absurd (omega (arith, some))
first_gone (x ∷ old) new object some is left = λ i. sym is i ∷ sym left i

-- what the next interceptor and those after it ask for
pub next_asks : (steps : List StepPlan) (i : ℕ) (step : StepPlan) → i < length steps → step ≡ get_or steps i step
    → length (flat_map asks_of_step (drop i steps)) ≡ length (asks_of_step step) + length (flat_map asks_of_step (drop (i + 1) steps))
next_asks steps i step below is =
    let next : suc i ≡ i + 1 = omega arith in
    let after = flat_map asks_of_step (drop (suc i) steps) in
    ap (λ (l : List StepPlan). length (flat_map asks_of_step l)) (drop-cons steps i step below)
    ∙ ap (λ (s : StepPlan). length (asks_of_step s ++ after)) (sym is)
    ∙ length-append (asks_of_step step) after
    ∙ ap (λ (n : ℕ). length (asks_of_step step) + length (flat_map asks_of_step (drop n steps))) next

-- the front of a list that has so many, and what is behind it
module _ {B : Type 0} where
  -- the given objects are the first so many of all
  pub front_of : (given rest all : List B) (n : ℕ) → all ≡ given ++ rest → length given ≡ n → given ≡ take n all
  front_of given rest all n is many = sym (ap (take n) is ∙ ap (λ (k : ℕ). take k (given ++ rest)) (sym many) ∙ front given)
    where
      front : (xs : List B) → take (length xs) (xs ++ rest) ≡ xs
      front [] = refl
      front (x ∷ xs) = ap (λ (l : List B). x ∷ l) (front xs)

  -- the rest is what is behind the first so many
  pub back_of : (given rest all : List B) (n : ℕ) → all ≡ given ++ rest → length given ≡ n → rest ≡ drop n all
  back_of given rest all n is many = sym (ap (drop n) is ∙ ap (λ (k : ℕ). drop k (given ++ rest)) (sym many) ∙ back given)
    where
      back : (xs : List B) → drop (length xs) (xs ++ rest) ≡ rest
      back [] = refl
      back (x ∷ xs) = back xs

-- the interceptors of a source took the first of the objects, and left the rest
module _ {B : Type 0} (source : SourcePlan) (steps : List StepPlan) (old new : List B) (plans : List (LinkPlan B)) (same : steps ≡ source.steps.items) where
  -- the interceptors of a source are built with the objects it asks for
  pub linked : (given : List B) × (old ≡ given ++ new) × Deals IsLink steps given plans → Deals IsLink source.steps.items (take (length (asks_of_source source)) old) plans
  linked (given, from, dealt) =
      subst (λ (x : List StepPlan × List B). Deals IsLink x.0 x.1 plans)
      (λ i. (same i, front_of given new old (length (asks_of_source source)) from (dealt_many steps given plans dealt ∙ ap (λ (l : List StepPlan). length (flat_map asks_of_step l)) same) i)) dealt

  -- behind a source's own objects are those for the next ones
  pub left_of : (given : List B) × (old ≡ given ++ new) × Deals IsLink steps given plans → new ≡ drop (length (asks_of_source source)) old
  left_of (given, from, dealt) =
      back_of given new old (length (asks_of_source source)) from (dealt_many steps given plans dealt ∙ ap (λ (l : List StepPlan). length (flat_map asks_of_step l)) same)

-- ---- sources, one after the other

-- what is left of the objects of all sources, once those before a place have theirs
abbrev pub left_at : {B : Type 0} → List SourcePlan → ℕ → List B → List B
left_at [] place objects = objects
left_at (s ∷ sources) zero objects = objects
left_at (s ∷ sources) (suc place) objects = left_at sources place (drop (length (asks_of_source s)) objects)

-- a source at a place asks for as many objects as its own plan says
pub many_there : (sources : List SourcePlan) (at : ℕ) (d : SourcePlan) → at < length sources → many_at sources at ≡ length (asks_of_source (get_or sources at d))
many_there [] at d below = absurd (omega (arith, below))
many_there (s ∷ sources) zero d below = refl
many_there (s ∷ sources) (suc at) d below = many_there sources at d (omega (arith, below))

module _ {B : Type 0} where
  -- before the first source all objects are left
  pub none_used : (sources : List SourcePlan) (all : List B) → left_at sources 0 all ≡ all
  none_used [] all = refl
  none_used (s ∷ sources) all = refl

  -- the first of what is left at a source's place are its own
  pub own_first : (sources : List SourcePlan) (at : ℕ) (all : List B) → at < length sources → take (many_at sources at) (left_at sources at all) ≡ objects_at sources at all
  own_first [] at all below = absurd (omega (arith, below))
  own_first (s ∷ sources) zero all below = refl
  own_first (s ∷ sources) (suc at) all below = own_first sources at (drop (length (asks_of_source s)) all) (omega (arith, below))

  -- once a source has its own, what is left is for the next place
  pub next_left : (sources : List SourcePlan) (at : ℕ) (all : List B) → at < length sources → drop (many_at sources at) (left_at sources at all) ≡ left_at sources (at + 1) all
  next_left [] at all below = absurd (omega (arith, below))
  next_left (s ∷ sources) zero all below = sym (none_used sources (drop (length (asks_of_source s)) all))
  next_left (s ∷ sources) (suc at) all below =
      let next : suc at + 1 ≡ suc (at + 1) = omega arith in
      next_left sources at (drop (length (asks_of_source s)) all) (omega (arith, below)) ∙ ap (λ (n : ℕ). left_at (s ∷ sources) n all) (sym next)

  -- as many are left as are asked for
  pub enough_left : (sources : List SourcePlan) (at : ℕ) (all : List B) → at < length sources → length (step_asks sources) ≤ length all → many_at sources at ≤ length (left_at sources at all)
  enough_left [] at all below many = absurd (omega (arith, below))
  enough_left (s ∷ sources) zero all below many =
      let long = length-append (asks_of_source s) (step_asks sources) in
      omega arith
  enough_left (s ∷ sources) (suc at) all below many =
      let n = length (asks_of_source s) in
      let long = length-append (asks_of_source s) (step_asks sources) in
      let gone : length (drop n all) ≡ length all - n = length-drop n all in
      enough_left sources at (drop n all) (omega (arith, below)) (omega arith)

-- ---- the drafts of a source

-- drafts of a source that asks for nothing use nothing
pub used_none : (n : ℕ) → used_by n 0 ≡ 0
used_none zero = refl
used_none (suc n) = refl

-- one draft of a source has its objects: one of those that listen, or that of standard input
used_with : (kind : SourceKind) (asks : List Ask) → used_by (listeners_by (has_asks asks) kind) (length asks) + used_by (inputs_by kind) (length asks) ≡ length asks
used_with (Netcat bind port max_line ack threads) [] = let none = used_none threads in omega arith
used_with (Netcat bind port max_line ack threads) (a ∷ asks) = omega arith
used_with (Avro bind port threads) [] = let none = used_none threads in omega arith
used_with (Avro bind port threads) (a ∷ asks) = omega arith
used_with (Stdin max_line ack) asks = omega arith

once_with : (kind : SourceKind) (asks : List Ask) → (length asks ≡ 0) ⊎ (listeners_by (has_asks asks) kind ≤ 1)
once_with kind [] = inl refl
once_with (Netcat bind port max_line ack threads) (a ∷ asks) = inr (omega arith)
once_with (Avro bind port threads) (a ∷ asks) = inr (omega arith)
once_with (Stdin max_line ack) (a ∷ asks) = inr (omega arith)

inputs_once : (kind : SourceKind) → inputs_by kind ≤ 1
inputs_once (Netcat bind port max_line ack threads) = omega arith
inputs_once (Avro bind port threads) = omega arith
inputs_once (Stdin max_line ack) = omega arith

-- where there is one of standard input, there is none that listens
inputs_alone : (kind : SourceKind) (one : Bool) → 1 ≤ inputs_by kind → listeners_by one kind ≡ 0
inputs_alone (Netcat bind port max_line ack threads) one is = absurd (omega (arith, is))
inputs_alone (Avro bind port threads) one is = absurd (omega (arith, is))
inputs_alone (Stdin max_line ack) one is = refl

-- ---- several drafts of one source

-- no more than one, or none of them has objects
module _ {B : Type 0} (many count place : ℕ) (old before after : List B) (once : (many ≡ 0) ⊎ (count ≤ 1)) (below : place < count) (left : before ≡ drop (used_by place many) old) where
  first_or : (place ≡ 0) ⊎ (many ≡ 0)
  first_or = by once
    where
      by : (many ≡ 0) ⊎ (count ≤ 1) → (place ≡ 0) ⊎ (many ≡ 0)
      by (inl none) = inr none
      by (inr few) = inl (omega arith)

  -- the objects before each draft are those before the first
  pub still_first : before ≡ old
  still_first = by first_or
    where
      by : (place ≡ 0) ⊎ (many ≡ 0) → before ≡ old
      by (inl first) = left ∙ ap (λ (n : ℕ). drop (used_by n many) old) first
      by (inr none) = left ∙ ap (λ (n : ℕ). drop (used_by place n) old) none ∙ ap (λ (n : ℕ). drop n old) (used_none place)

  -- one draft more has used what it took
  pub used_next : after ≡ drop many before → after ≡ drop (used_by (place + 1) many) old
  used_next is =
      let next : suc place ≡ place + 1 = omega arith in
      is ∙ ap (drop many) still_first ∙ ap (λ (n : ℕ). drop (used_by n many) old) next

-- the drafts of the next source: those that listen, and those of standard input
module _ {B : Type 0} (sources : List SourcePlan) (at : ℕ) (source : SourcePlan) (all left : List B) (n m : ℕ) (below : at < length sources) (is : source ≡ get_or sources at source)
    (lefts : left ≡ left_at sources at all) (listening : n ≡ listeners_of source) (inputs : m ≡ inputs_of source) (enough : length all ≡ length (step_asks sources)) where
  many_is : many_at sources at ≡ length (asks_of_source source)
  many_is = many_there sources at source below ∙ ap (λ (s : SourcePlan). length (asks_of_source s)) (sym is)

  -- a source that asks for objects has at most one listening session
  pub once_listening : (many_at sources at ≡ 0) ⊎ (n ≤ 1)
  once_listening = by (once_with source.kind (asks_of_source source))
    where
      by : (length (asks_of_source source) ≡ 0) ⊎ (listeners_of source ≤ 1) → (many_at sources at ≡ 0) ⊎ (n ≤ 1)
      by (inl none) = inl (many_is ∙ none)
      by (inr few) = inr (omega (arith, listening, few))

  -- a source has at most one session on standard input
  pub once_input : (many_at sources at ≡ 0) ⊎ (m ≤ 1)
  once_input = inr (let few = inputs_once source.kind in omega (arith, inputs, few))

  -- as many objects are left as the present source asks for
  pub enough_now : many_at sources at ≤ length left
  enough_now =
      let some : length (step_asks sources) ≤ length all = omega (arith, enough) in
      subst (λ (l : List B). many_at sources at ≤ length l) (sym lefts) (enough_left sources at all below some)

  -- the first objects that are left are those of the present source
  pub own_now : take (many_at sources at) left ≡ objects_at sources at all
  own_now = ap (take (many_at sources at)) lefts ∙ own_first sources at all below

  -- where there is a session on standard input, none that listens used objects
  pub same_between : (between : List B) → between ≡ drop (used_by n (many_at sources at)) left → 1 ≤ m → between ≡ left
  same_between between gone some =
      let one : 1 ≤ inputs_by source.kind = omega (arith, inputs, some) in
      let none : n ≡ 0 = listening ∙ inputs_alone source.kind (has_asks (asks_of_source source)) one in
      gone ∙ ap (λ (k : ℕ). drop (used_by k (many_at sources at)) left) none

  -- after both kinds of sessions, what is left is for the next source
  pub left_next : (between after : List B) → between ≡ drop (used_by n (many_at sources at)) left → after ≡ drop (used_by m (many_at sources at)) between → after ≡ left_at sources (at + 1) all
  left_next between after gone then =
      let asks = asks_of_source source in
      let used : used_by n (many_at sources at) + used_by m (many_at sources at) ≡ many_at sources at =
      (λ i. used_by (listening i) (many_is i) + used_by (inputs i) (many_is i)) ∙ used_with source.kind asks ∙ sym many_is in
      then ∙ ap (drop (used_by m (many_at sources at))) gone ∙ drop-drop (used_by m (many_at sources at)) (used_by n (many_at sources at)) left
      ∙ ap (λ (k : ℕ). drop k left) used ∙ ap (drop (many_at sources at)) lefts ∙ next_left sources at all below
