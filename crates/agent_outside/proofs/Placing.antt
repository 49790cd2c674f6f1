-- The places of sources that listen.
use Rattle.std.proofs.Common.{◌≡◌, ◌∙◌, ◌<◌, ◌+◌, ℕ, zero, suc, Bool, true, false, List, [], ◌∷◌, ◌++◌, length, get_or, replicate, take, All, sym, ap, subst, arith, append_assoc}
use Rattle.std.proofs.lemmas.List.{append-nil, length-append, replicate-append-replicate}
use Rattle.std.proofs.lemmas.List.Elements.{All-append, All-nil, All-replicate}
use Rattle.agent_plan.specs.declared.plan.SourcePlan.{SourcePlan}
use Rattle.agent_plan.specs.declared.plan.SourceKind.{SourceKind}
use Rattle.agent_plan.specs.declared.plan.SourceKind.TheVariants.{Netcat, Avro, Stdin}
use Rattle.plan_objects.specs.Asks.{asks_of_source, has_asks}
use Rattle.agent_outside.specs.Ends.{Listens, ListensAt, listeners_by, listeners_of, places, places_by}

-- a place once more
pub replicate_more : (n : ℕ) (place : ℕ) → replicate (n + 1) place ≡ replicate n place ++ place ∷ []
replicate_more n place = sym (replicate-append-replicate n 1 place)

-- one source more
places_more : (many : SourcePlan → ℕ) (sources : List SourcePlan) (start i : ℕ) (d : SourcePlan) → i < length sources
    → places_by many start (take (i + 1) sources) ≡ places_by many start (take i sources) ++ replicate (many (get_or sources i d)) (start + i)
places_more many [] start i d below = absurd (omega (arith, below))
places_more many (source ∷ sources) start zero d below =
    let same : start + 0 ≡ start = omega arith in
    append-nil (replicate (many source) start) ∙ ap (replicate (many source)) (sym same)
places_more many (source ∷ sources) start (suc i) d below =
    let own = replicate (many source) start in
    let rest = places_by many (start + 1) (take i sources) in
    let next : suc i + 1 ≡ suc (i + 1) = omega arith in
    let at : (start + 1) + i ≡ start + suc i = omega arith in
    ap (λ (n : ℕ). places_by many start (take n (source ∷ sources))) next
    ∙ ap (λ (l : List ℕ). own ++ l) (places_more many sources (start + 1) i d (omega (arith, below)))
    ∙ sym (append_assoc own rest (replicate (many (get_or sources i d)) ((start + 1) + i)))
    ∙ ap (λ (n : ℕ). (own ++ rest) ++ replicate (many (get_or sources i d)) n) at

-- the places of so many sources, and of one source more
pub places_next : (many : SourcePlan → ℕ) (sources : List SourcePlan) (i : ℕ) (d : SourcePlan) → i < length sources
    → places_by many 0 (take (i + 1) sources) ≡ places_by many 0 (take i sources) ++ replicate (many (get_or sources i d)) i
places_next many sources i d below =
    let at : 0 + i ≡ i = omega arith in
    places_more many sources 0 i d below ∙ ap (λ (n : ℕ). places_by many 0 (take i sources) ++ replicate (many (get_or sources i d)) n) at

-- what listens, after others
listens_after : (front sources : List SourcePlan) (source : SourcePlan) → Listens source.kind → ListensAt (front ++ source ∷ sources) (length front)
listens_after [] sources source listens = listens
listens_after (s ∷ front) sources source listens = listens_after front sources source listens

own_listen : (one : Bool) (kind : SourceKind) (P : ℕ → Type 0) (place : ℕ) → (Listens kind → P place) → All P (replicate (listeners_by one kind) place)
own_listen true (Netcat bind port max_line ack threads) P place is = All-replicate P 1 place (is tt)
own_listen false (Netcat bind port max_line ack threads) P place is = All-replicate P threads place (is tt)
own_listen true (Avro bind port threads) P place is = All-replicate P 1 place (is tt)
own_listen false (Avro bind port threads) P place is = All-replicate P threads place (is tt)
own_listen one (Stdin max_line ack) P place is = All-nil P

each_listens : (front sources : List SourcePlan) → All (ListensAt (front ++ sources)) (places (length front) sources)
each_listens front [] = All-nil (ListensAt (front ++ []))
each_listens front (source ∷ sources) =
    let all = front ++ source ∷ sources in
    All-append (ListensAt all) (replicate (listeners_of source) (length front)) (places (length front + 1) sources)
    (own_listen (has_asks (asks_of_source source)) source.kind (ListensAt all) (length front) (λ listens. listens_after front sources source listens))
    (subst (λ (x : List SourcePlan × ℕ). All (ListensAt x.0) (places x.1 sources)) (λ i. (append_assoc front (source ∷ []) sources i, length-append front (source ∷ []) i)) (each_listens (front ++ source ∷ []) sources))

-- at the place of each listener a source listens
pub places_listen : (sources : List SourcePlan) → All (ListensAt sources) (places 0 sources)
places_listen sources = each_listens [] sources
