-- Where an acknowledged event is, down to the last hop, and that no delivery is named twice.
use Rattle.std.proofs.Common.{◌⊎◌, inl, inr, ◌≡◌, ◌≢◌, ◌<◌, ◌≤◌, ◌+◌, ◌∷◌, [], ℕ, zero, suc, List, length, map, filter, slice_get, slice_set, Option, Some, None, Bool, true, false, cond, refl, sym, ◌∙◌, ap, subst, arith}
use Rattle.std.proofs.lemmas.Option.{slice_get_within}
use Rattle.event_core.specs.Content.{Content}
use Rattle.event_core.specs.Journal.{put_events, is_among}
use Rattle.event_core.specs.declared.journal.Entry.{Entry}
use Rattle.event_core.specs.declared.journal.Entry.TheVariants.{Puts, Takes}
use Rattle.world_laws.specs.World.{Delivery, Output, Acked, Channel, Work, Node, World, commits, share, required_of}
use Rattle.world_laws.specs.Steps.{Step, happens, next, run}
use Rattle.world_laws.specs.Held.{AtNode, AtChannel, IsAck, Names, CommitsAreNamed, ACommit, Held, events_of}
use Rattle.world_laws.specs.New.{IsNew}
use Rattle.world_laws.specs.Kept.{IsIn, IsTakenAt, StandsOr, EachStands, KeptWithin, ChannelsAreThere, LinksRise, NoneIsNamedTwice, IsStillLeft, WasTakenOnce}
use Rattle.world_laws.proofs.Lists.{same_some, no_some, cons_same, not_empty, get_front, get_behind, get_some}
use Rattle.world_laws.proofs.Moving.{Moved, moves, node_after, sent_by, stepped}
use Rattle.world_laws.proofs.Staying.{came, goes, all_go, required_same, node_cases}
use Rattle.world_laws.proofs.Holding.{named_there}
use Rattle.world_laws.proofs.Keeping.{step_holds, new_holds}
use Rattle.world_laws.proofs.Once.{left_or_taken}

in_share : (p : Content → Bool) (made : List Content) (i : ℕ) (e : Content) → slice_get made i ≡ Some e → p e ≡ true → IsIn (filter p made) e
in_share p [] i e has yes_p = absurd (no_some e has)
in_share p (x ∷ made) zero e has yes_p =
    let one : p x ≡ true = ap p (same_some x e has) ∙ yes_p in
    (zero, rw one has)
in_share p (x ∷ made) (suc i) e has yes_p = from (p x) (in_share p made i e has yes_p)
  where
    from : (b : Bool) → IsIn (filter p made) e → (j : ℕ) × (slice_get (cond b (x ∷ filter p made) (filter p made)) j ≡ Some e)
    from true r = (suc r.0, r.1)
    from false r = r

-- an event of an entry of puts has a number
put_at : (journal : List Entry) (p : ℕ) (events : List Content) (j : ℕ) (e : Content) → slice_get journal p ≡ Some (Puts events) → slice_get events j ≡ Some e → IsIn (put_events journal) e
put_at [] p events j e has at_j = absurd (no_some (Puts events) has)
put_at (Puts xs ∷ journal) zero events j e has at_j =
    let same : xs ≡ events = cc in
    (j, get_front xs (put_events journal) j e (ap (λ (l : List Content). slice_get l j) same ∙ at_j))
put_at (Takes numbers ∷ journal) zero events j e has at_j = absurd (cc)
put_at (Puts xs ∷ journal) (suc p) events j e has at_j = let r = put_at journal p events j e has at_j in (length xs + r.0, get_behind xs (put_events journal) r.0 ∙ r.1)
put_at (Takes numbers ∷ journal) (suc p) events j e has at_j = put_at journal p events j e has at_j

-- the event of a number is among those of the numbers, at its place
event_at : (put : List Content) (numbers : List ℕ) (events : List Content) (i k : ℕ) (e : Content) → events_of put numbers ≡ map (λ y. Some y) events → slice_get numbers i ≡ Some k → slice_get put k ≡ Some e → slice_get events i ≡ Some e
event_at put [] events i k e are has at_k = absurd (no_some k has)
event_at put (n ∷ numbers) [] i k e are has at_k = absurd (cc)
event_at put (n ∷ numbers) (x ∷ events) zero k e are has at_k =
    let both = cons_same (slice_get put n) (Some x) (events_of put numbers) (map (λ y. Some y) events) are in
    sym both.0 ∙ (ap (λ (j : ℕ). slice_get put j) (same_some n k has) ∙ at_k)
event_at put (n ∷ numbers) (x ∷ events) (suc i) k e are has at_k =
    let both = cons_same (slice_get put n) (Some x) (events_of put numbers) (map (λ y. Some y) events) are in
    event_at put numbers events i k e both.1 has at_k

-- Each event that the chain made of an acknowledged batch is left in each channel that it has to reach, or went on from there.
pub each_stands :
    (Rest : World → ℕ → Work → Type 0) (w : World) (n place : ℕ) (ack : Work) → Held w → ChannelsAreThere w → IsAck w n place ack
    → ((channel m at : ℕ) (c : Channel) (other : Work) → AtChannel w n channel c → is_among c.later m ≡ true → IsAck w m at other → Rest w m other) → EachStands Rest w n ack
each_stands Rest w n place ack held own_there is_ack rest node channel e here made required = (c, there, by (left_or_taken c (held.numbers n channel c (node, here, there)) number.0 e number.1))
  where
    is_there : (c : Channel) × (slice_get node.channels channel ≡ Some c)
    is_there = own_there n channel node e here required

    c : Channel
    c = is_there.0

    there : slice_get node.channels channel ≡ Some c
    there = is_there.1

    one_node : is_ack.0 ≡ node
    one_node = same_some is_ack.0 node (sym is_ack.1 ∙ here)

    own : slice_get node.acks place ≡ Some ack
    own = ap (λ (k : Node). slice_get k.acks place) (sym one_node) ∙ is_ack.2

    mine : IsIn (share node ack.made channel) e
    mine = in_share (λ x. is_among (required_of node.required x) channel) ack.made made.0 e made.1 required

    passed : (at : ℕ) × ((i : ℕ) × (slice_get ack.entries i ≡ Some (channel, at)))
    passed = (held.acknowledged n node here).passed place ack own channel c there (not_empty (share node ack.made channel) mine.0 e mine.1)

    entry : (d : Channel) × (slice_get node.channels channel ≡ Some d) × (slice_get d.journal passed.0 ≡ Some (Puts (share node ack.made channel)))
    entry = ((held.acknowledged n node here).stored place ack own).there (channel, passed.0) passed.1

    number : IsIn (put_events c.journal) e
    number = put_at c.journal passed.0 (share node ack.made channel) mine.0 e (ap (λ (x : Channel). slice_get x.journal passed.0) (same_some c entry.0 (sym there ∙ entry.1)) ∙ entry.2) mine.1

    commits_named : CommitsAreNamed w n c
    commits_named = held.delivered.named n node here channel c there

    went : (at i : ℕ) (taken : IsTakenAt c.journal number.0 at i) (x : Entry) (name : Option Delivery) → x ≡ Takes taken.0 → slice_get c.named at ≡ Some name → Names w n c x name → StandsOr Rest w n c e
    went at i taken (Puts events) name is named names = absurd (cc)
    went at i taken (Takes ns) None is named names = absurd names
    went at i taken (Takes ns) (Some (Output p)) is named names =
        let same : ns ≡ taken.0 = cc in
        let has = event_at (put_events c.journal) ns names.0 i number.0 e names.1 (ap (λ (l : List ℕ). slice_get l i) same ∙ taken.2) number.1 in
        inr (inl (p, names.0, record { number = number.0; put = number.1; place = at; at = i; taken = taken; names = named }, names.2.0, names.2.1, (i, has)))
    went at i taken (Takes ns) (Some (Acked m p)) is named names =
        let same : ns ≡ taken.0 = cc in
        let has = event_at (put_events c.journal) ns names.0 i number.0 e names.1 (ap (λ (l : List ℕ). slice_get l i) same ∙ taken.2) number.1 in
        inr (inr (
          m,
          p,
          names.2.0,
          record { number = number.0; put = number.1; place = at; at = i; taken = taken; names = named },
          names.2.2,
          names.2.1,
          (i, ap (λ (l : List Content). slice_get l i) names.2.3 ∙ has),
          rest channel m p c names.2.0 (node, here, there) names.2.2 names.2.1,
        ))

    by : IsStillLeft c number.0 e ⊎ WasTakenOnce c number.0 → StandsOr Rest w n c e
    by (inl left) = inl (left.at, number.0, left.left)
    by (inr taken) =
        let at_commits = get_front c.journal c.state.staged taken.place (Takes taken.taken.0) taken.taken.1 in
        let less = slice_get_within (commits c) taken.place (Takes taken.taken.0) at_commits in
        let name = get_some c.named taken.place (omega (arith, less, commits_named.beside)) in
        went taken.place taken.at taken.taken (Takes taken.taken.0) name.0 refl name.1 (commits_named.names taken.place (Takes taken.taken.0) name.0 at_commits name.1)

-- down to the last hop

kept_from : (w : World) → Held w → ChannelsAreThere w → LinksRise w → (hops n place : ℕ) (ack : Work) → length w.nodes ≤ n + hops → IsAck w n place ack → KeptWithin hops w n ack
kept_from w held own_there rise zero n place ack few is = let less = slice_get_within w.nodes n is.0 is.1 in absurd (omega (arith, few, less))
kept_from w held own_there rise (suc hops) n place ack few is =
    each_stands (KeptWithin hops) w n place ack held own_there is
    (λ channel m at c other there among acked. let less = rise n channel m c there among in kept_from w held own_there rise hops m at other (omega (arith, few, less)) acked)

-- links stay as they are, and so does the number of nodes

set_length : {A : Type 0} (xs : List A) (i : ℕ) (y : A) → length (slice_set xs i y) ≡ length xs
set_length [] i y = refl
set_length (x ∷ xs) zero y = refl
set_length (x ∷ xs) (suc i) y = let rest = set_length xs i y in omega (arith, rest)

abbrev SameLater : Channel → Channel → Type 0
SameLater c d = d.later ≡ c.later

links_after : (w : World) (n : ℕ) (old : Node) (m : Moved w n old) → AtNode w n old → LinksRise w → LinksRise (stepped w n (node_after m) (sent_by m))
links_after w n old m here rise l place to d has among = from (node_cases w n old (node_after m) l has.0 here has.1)
  where
    from : ((l ≢ n) × AtNode w l has.0) ⊎ ((l ≡ n) × (node_after m ≡ has.0)) → l < to
    from (inl was) = rise l place to d (has.0, was.1, has.2) among
    from (inr same) =
        let c = came SameLater old.channels (node_after m).channels (all_go SameLater w n old m (λ c. refl) (λ c d added b. b.later) (λ c d cut r. r.later)) place d (ap (λ (k : Node). slice_get k.channels place) same.1 ∙ has.2) in
        let less = rise n place to c.0 (old, here, c.1) (ap (λ (x : List ℕ). is_among x to) (sym c.2) ∙ among) in
        omega (arith, less, same.0)

channels_after : (w : World) (n : ℕ) (old : Node) (m : Moved w n old) → AtNode w n old → ChannelsAreThere w → ChannelsAreThere (stepped w n (node_after m) (sent_by m))
channels_after w n old m here are l channel node e has required = from (node_cases w n old (node_after m) l node here has)
  where
    Any : Channel → Channel → Type 0
    Any c d = Unit {0}

    from : ((l ≢ n) × AtNode w l node) ⊎ ((l ≡ n) × (node_after m ≡ node)) → (c : Channel) × (slice_get node.channels channel ≡ Some c)
    from (inl was) = are l channel node e was.1 required
    from (inr same) =
        let same_one : node.required ≡ old.required = ap (λ (k : Node). k.required) (sym same.1) ∙ required_same w n old m in
        let c = are n channel old e here (ap (λ (r : List (Content × List ℕ)). is_among (required_of r e) channel) (sym same_one) ∙ required) in
        let d = goes Any old.channels (node_after m).channels (all_go Any w n old m (λ c. tt) (λ c d added b. tt) (λ c d cut r. tt)) channel c.0 c.1 in
        (d.0, ap (λ (k : Node). slice_get k.channels channel) (sym same.1) ∙ d.1)

abbrev Linked : ℕ → World → Type 0
Linked nodes w = Held w × ChannelsAreThere w × LinksRise w × (length w.nodes ≡ nodes)

step_linked : (nodes : ℕ) (w : World) (step : Step) → Linked nodes w → Linked nodes (next w (happens w step))
step_linked nodes w step linked = let rest = from (happens w step) refl in (step_holds w step linked.0, rest.0, rest.1, rest.2)
  where
    from : (x : Option World) → happens w step ≡ x → ChannelsAreThere (next w x) × LinksRise (next w x) × (length (next w x).nodes ≡ nodes)
    from None is = (linked.1, linked.2, linked.3)
    from (Some new) is =
        let went = moves w step new linked.0 is in
        subst (λ (v : World). ChannelsAreThere v × LinksRise v × (length v.nodes ≡ nodes)) went.is
        (channels_after w went.n went.old went.move went.here linked.1, links_after w went.n went.old went.move went.here linked.2, set_length w.nodes went.n (node_after went.move) ∙ linked.3)

run_linked : (nodes : ℕ) (w : World) (steps : List Step) → Linked nodes w → Linked nodes (run w steps)
run_linked nodes w [] linked = linked
run_linked nodes w (step ∷ steps) linked = run_linked nodes (next w (happens w step)) steps (step_linked nodes w step linked)

-- Over every list of steps from a new world whose links have no cycle, each acknowledged batch is kept within as many hops as there are nodes.
pub kept_down : (w : World) (steps : List Step) (n place : ℕ) (ack : Work) → IsNew w → ChannelsAreThere w → LinksRise w → IsAck (run w steps) n place ack → KeptWithin (length w.nodes) (run w steps) n ack
kept_down w steps n place ack new are rise is =
    let linked = run_linked (length w.nodes) w steps (new_holds w new, are, rise, refl) in
    kept_from (run w steps) linked.0 linked.1 linked.2 (length w.nodes) n place ack (omega (arith, linked.3)) is

-- no delivery is named twice

-- no two commits name one delivery
pub none_twice : (w : World) → Held w → NoneIsNamedTwice w
none_twice w held = record { acks = acks; outputs = outputs }
  where
    both : (n channel i m other j : ℕ) → ACommit n channel i ≡ ACommit m other j → (n ≡ m) × (channel ≡ other) × (i ≡ j)
    both n channel i m other j h = (cc, cc, cc)

    named : (n channel : ℕ) (c : Channel) → AtChannel w n channel c → CommitsAreNamed w n c
    named n channel c has = held.delivered.named n has.0 has.1 channel c has.2

    acks : (n m channel other i j to place : ℕ) (c d : Channel) → AtChannel w n channel c → AtChannel w m other d → slice_get c.named i ≡ Some (Some (Acked to place)) → slice_get d.named j ≡ Some (Some (Acked to place)) → (n ≡ m) × (channel ≡ other) × (i ≡ j)
    acks n m channel other i j to place c d at_c at_d x y =
        let ack = (named_there w n c i (Acked to place) (named n channel c at_c) x).1 in
        both n channel i m other j (held.delivered.tags (ACommit n channel i) (ACommit m other j) ack.0.tag tt tt (c, to, place, ack.0, at_c, x, ack.1, refl) (d, to, place, ack.0, at_d, y, ack.1, refl))

    outputs : (n channel other i j place : ℕ) (c d : Channel) → AtChannel w n channel c → AtChannel w n other d → slice_get c.named i ≡ Some (Some (Output place)) → slice_get d.named j ≡ Some (Some (Output place)) → (channel ≡ other) × (i ≡ j)
    outputs n channel other i j place c d at_c at_d x y =
        let r = both n channel i n other j (held.delivered.outputs (ACommit n channel i) (ACommit n other j) n place tt tt (refl, (c, at_c, x)) (refl, (d, at_d, y))) in
        (r.1, r.2)
