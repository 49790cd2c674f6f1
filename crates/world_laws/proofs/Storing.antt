-- What is acknowledged stays in the journals, what a work has passed stays among the commits, and no entry is named twice.
use Rattle.std.proofs.Common.{◌⊎◌, inl, inr, ◌≡◌, ◌≢◌, ◌<◌, ◌+◌, ◌++◌, ◌∷◌, [], ℕ, zero, suc, List, length, map, filter, slice_get, slice_set, Option, Some, None, Bool, true, false, ◌==◌, ◌&&◌, ◌||◌, nat_le, nat_lt, refl, sym, ◌∙◌, ap, subst, arith}
use Rattle.std.proofs.lemmas.Option.{slice_get_within}
use Rattle.std.proofs.lemmas.Bool.Decides.{nat_tests, eqb_tells}
use Rattle.event_core.specs.Content.{Content}
use Rattle.event_core.specs.Journal.{is_among}
use Rattle.event_core.specs.declared.journal.Entry.{Entry}
use Rattle.event_core.specs.declared.journal.Entry.TheVariants.{Puts}
use Rattle.world_laws.specs.World.{Tag, Channel, commits, Work, Node, Request, World, share, required_of, live}
use Rattle.world_laws.specs.Channels.{is_empty}
use Rattle.world_laws.specs.Steps.{is_passed, is_passed_by, is_below, are_settled, has_from}
use Rattle.world_laws.specs.Held.{Has, Stores, journal_of, PassedAll, AcksAreStored, Namer, AnAck, AWork, NamesEntry, WorksAreStored}
use Rattle.world_laws.proofs.Lists.{same_some, no_some, both_true, or_true, or_false, get_front, front_get, get_last, get_one, set_here, set_there, live_one, live_set, live_none, none_ended}
use Rattle.world_laws.proofs.Becoming.{Added, APuts, entries_of, Becomes, KeepsOpen}
use Rattle.world_laws.proofs.Moving.{Moved, Began, Stored, WorkEnded, Acknowledged, Mended, Restarted, node_after, work_of, passed}
use Rattle.world_laws.proofs.Staying.{All, came, goes, all_run, all_go, required_same, left_works}

-- both parts of a node, with one sentence for all who name an entry
pub record IsBooked (node : Node) : Type 0 where
  pub acks : (place : ℕ) (ack : Work) → slice_get node.acks place ≡ Some ack → Stores node journal_of ack
  pub works : (number : ℕ) (work : Work) → live node.works number ≡ Some work → Stores node commits work
  pub once : (a b : Namer) (e : ℕ × ℕ) → NamesEntry node a e → NamesEntry node b e → a ≡ b

-- both parts of a node as one sentence for all who name an entry
pub booked_of : (node : Node) → AcksAreStored node → WorksAreStored node → IsBooked node
booked_of node acks works = record { acks = acks.stored; works = works.stored; once = once }
  where
    once : (a b : Namer) (e : ℕ × ℕ) → NamesEntry node a e → NamesEntry node b e → a ≡ b
    once (AnAck i) (AnAck j) e x y = ap AnAck (acks.once i j x.0 y.0 e x.1 y.1 x.2 y.2)
    once (AnAck i) (AWork k) e x y = sym (works.once k (AnAck i) e y x)
    once (AWork k) b e x y = works.once k b e x y

-- the part on acknowledgements, from that sentence and what they passed
pub acks_of : (node : Node) → IsBooked node → ((place : ℕ) (ack : Work) → slice_get node.acks place ≡ Some ack → PassedAll node ack) → AcksAreStored node
acks_of node booked passed = record { stored = booked.acks; passed = passed; once = λ i j a b e p q x y. place_of i j (booked.once (AnAck i) (AnAck j) e (a, p, x) (b, q, y)) }
  where
    place_of : (i j : ℕ) → AnAck i ≡ AnAck j → i ≡ j
    place_of i j h = cc

-- the part on works, from that sentence
pub works_of : (node : Node) → IsBooked node → WorksAreStored node
works_of node booked = record { stored = booked.works; once = λ number b e x y. booked.once (AWork number) b e x y }

share_same : (old new : Node) (made : List Content) (channel : ℕ) → new.required ≡ old.required → share new made channel ≡ share old made channel
share_same old new made channel same = ap (λ (r : List (Content × List ℕ)). filter (λ e. is_among (required_of r e) channel) made) same

stores_on : (old new : Node) (log log' : Channel → List Entry) (work : Work) → new.required ≡ old.required
    → ((e : ℕ × ℕ) → Has work.entries e → (c : Channel) → slice_get old.channels e.0 ≡ Some c → (x : Entry) → slice_get (log c) e.1 ≡ Some x → (d : Channel) × (slice_get new.channels e.0 ≡ Some d) × (slice_get (log' d) e.1 ≡ Some x))
    → Stores old log work → Stores new log' work
stores_on old new log log' work required on was = record {
  apart = was.apart;
  there = λ e has.
      let t = was.there e has in
      let g = on e has t.0 t.1 (Puts (share old work.made e.0)) t.2 in
      (g.0, g.1, g.2 ∙ ap (λ (l : List Content). Some (Puts l)) (sym (share_same old new work.made e.0 required)));
}

-- what a channel keeps of a log
abbrev pub Grows : (Channel → List Entry) → Channel → Channel → Type 0
Grows log c d = (p : ℕ) (e : Entry) → slice_get (log c) p ≡ Some e → slice_get (log d) p ≡ Some e

grows_by : (log : Channel → List Entry) (c d : Channel) (more : List Entry) → log d ≡ log c ++ more → Grows log c d
grows_by log c d more longer p e is = ap (λ (l : List Entry). slice_get l p) longer ∙ get_front (log c) more p e is

-- each move keeps the journals, and each that opens no channel again keeps the commits
journals : (w : World) (n : ℕ) (old : Node) (m : Moved w n old) → All (Grows journal_of) old.channels (node_after m).channels
journals w n old m = all_go (Grows journal_of) w n old m (λ c p e is. is) (λ c d added b. grows_by journal_of c d b.settled b.journal) (λ c d cut r. grows_by journal_of c d r.settled r.journal)

acks_on : (w : World) (n : ℕ) (old : Node) (m : Moved w n old) (ack : Work) → Stores old journal_of ack → Stores (node_after m) journal_of ack
acks_on w n old m ack was = stores_on old (node_after m) journal_of journal_of ack (required_same w n old m) on was
  where
    on : (e : ℕ × ℕ) → Has ack.entries e → (c : Channel) → slice_get old.channels e.0 ≡ Some c → (x : Entry) → slice_get c.journal e.1 ≡ Some x → (d : Channel) × (slice_get (node_after m).channels e.0 ≡ Some d) × (slice_get d.journal e.1 ≡ Some x)
    on e has c there x is = let g = goes (Grows journal_of) old.channels (node_after m).channels (journals w n old m) e.0 c there in (g.0, g.1, g.2 e.1 x is)

works_on : (old new : Node) → new.required ≡ old.required → All (Grows commits) old.channels new.channels → (work : Work) → Stores old commits work → Stores new commits work
works_on old new required all work was = stores_on old new commits commits work required on was
  where
    on : (e : ℕ × ℕ) → Has work.entries e → (c : Channel) → slice_get old.channels e.0 ≡ Some c → (x : Entry) → slice_get (commits c) e.1 ≡ Some x → (d : Channel) × (slice_get new.channels e.0 ≡ Some d) × (slice_get (commits d) e.1 ≡ Some x)
    on e has c there x is = let g = goes (Grows commits) old.channels new.channels all e.0 c there in (g.0, g.1, g.2 e.1 x is)

commits_grow : (c d : Channel) (added : Added) → Becomes c d added → Grows commits c d
commits_grow c d added b = grows_by commits c d (entries_of added) b.longer

-- nobody names more
names_less : (old new : Node) → new.acks ≡ old.acks → ((k : ℕ) (one : Work) → live new.works k ≡ Some one → live old.works k ≡ Some one) → (a : Namer) (e : ℕ × ℕ) → NamesEntry new a e → NamesEntry old a e
names_less old new acks works (AnAck place) e is = (is.0, ap (λ (l : List Work). slice_get l place) (sym acks) ∙ is.1, is.2)
names_less old new acks works (AWork number) e is = (is.0, works number is.0 is.1, is.2)

-- a move after which there are no other works, and which stores those that are left
less_booked : (w : World) (n : ℕ) (old : Node) (m : Moved w n old) → IsBooked old → (node_after m).acks ≡ old.acks → ((k : ℕ) (one : Work) → live (node_after m).works k ≡ Some one → live old.works k ≡ Some one)
    → ((k : ℕ) (one : Work) → live (node_after m).works k ≡ Some one → Stores (node_after m) commits one) → IsBooked (node_after m)
less_booked w n old m was acks works stores = record {
  acks = λ place ack is. acks_on w n old m ack (was.acks place ack (ap (λ (l : List Work). slice_get l place) (sym acks) ∙ is));
  works = stores;
  once = λ a b e x y. was.once a b e (names_less old (node_after m) acks works a e x) (names_less old (node_after m) acks works b e y);
}

-- a work begins

begin_booked : (w : World) (n k : ℕ) (old : Node) (tag : Tag) (batch made : List Content) (sent : slice_get w.sent k ≡ Some (Request n tag batch)) → IsBooked old → IsBooked (node_after {w = w} {n = n} {old = old} (Began k tag batch made sent))
begin_booked w n k old tag batch made sent was = record {
  acks = λ place ack is. stores_on old more journal_of journal_of ack refl (λ e has c there x at_e. (c, there, at_e)) (was.acks place ack is);
  works = λ k one is. stores k one (live_one old.works work k one is);
  once = λ a b e x y. was.once a b e (names a e x) (names b e y);
}
  where
    work : Work
    work = work_of tag batch made

    more : Node
    more = record old { works = old.works ++ Some work ∷ [] }

    stores : (k : ℕ) (one : Work) → (live old.works k ≡ Some one) ⊎ ((k ≡ length old.works) × (work ≡ one)) → Stores more commits one
    stores k one (inl is) = stores_on old more commits commits one refl (λ e has c there x at_e. (c, there, at_e)) (was.works k one is)
    stores k one (inr last) = subst (λ (x : Work). Stores more commits x) last.1 (record { apart = λ i j a b x y same. absurd (no_some a x); there = λ e has. absurd (no_some e has.1) })

    names : (a : Namer) (e : ℕ × ℕ) → NamesEntry more a e → NamesEntry old a e
    names (AnAck place) e is = is
    names (AWork number) e is = from (live_one old.works work number is.0 is.1)
      where
        from : (live old.works number ≡ Some is.0) ⊎ ((number ≡ length old.works) × (work ≡ is.0)) → NamesEntry old (AWork number) e
        from (inl it) = (is.0, it, is.2)
        from (inr last) = absurd (no_some e (ap (λ (x : Work). slice_get x.entries is.2.0) last.1 ∙ is.2.1))

-- a work is stored in one more channel

not_among : (entries : List (ℕ × ℕ)) (channel : ℕ) → is_among (map (λ e. e.0) entries) channel ≡ false → (i : ℕ) (e : ℕ × ℕ) → slice_get entries i ≡ Some e → e.0 ≡ channel → ⊥
not_among [] channel not_in i e has same = no_some e has
not_among (x ∷ entries) channel not_in zero e has same =
    let both = or_false (x.0 == channel) (is_among (map (λ e. e.0) entries) channel) not_in in
    let one : x ≡ e = same_some x e has in
    from (eqb_tells x.0 channel) both.0 (ap (λ (p : ℕ × ℕ). p.0) one ∙ same)
  where
    from : ((x.0 == channel) ≡ true) × (x.0 ≡ channel) ⊎ ((x.0 == channel) ≡ false) × (x.0 ≢ channel) → (x.0 == channel) ≡ false → x.0 ≡ channel → ⊥
    from (inl equal) isnt is = absurd (cc)
    from (inr other) isnt is = other.1 is
not_among (x ∷ entries) channel not_in (suc i) e has same = not_among entries channel (or_false (x.0 == channel) (is_among (map (λ e. e.0) entries) channel) not_in).1 i e has same

module _ (w : World) (n : ℕ) (old : Node) (number : ℕ) (work : Work) (channel : ℕ) (c d : Channel) (is_work : live old.works number ≡ Some work) (is_channel : slice_get old.channels channel ≡ Some c)
    (not_yet : is_passed work channel ≡ false) (becomes : Becomes c d (APuts (share old work.made channel))) (keeps : KeepsOpen c d) (was : IsBooked old) where
  abbrev move : Moved w n old
  move = Moved.Stored number work channel c d is_work is_channel not_yet becomes keeps

  abbrev place : ℕ
  place = length (commits c)

  abbrev more : Work
  more = passed work channel c

  abbrev new : Node
  new = node_after move

  grown : All (Grows commits) old.channels new.channels
  grown = all_run (Grows commits) w n old move tt (λ c p e is. is) commits_grow

  -- what is named by now stands before it
  below : (a : Namer) (e : ℕ × ℕ) → NamesEntry old a e → e ≡ (channel, place) → ⊥
  below (AnAck k) e names same =
      let t = (was.acks k names.0 names.1).there e names.2 in
      let one : t.0 ≡ c = same_some t.0 c (sym t.1 ∙ (ap (λ (p : ℕ × ℕ). slice_get old.channels p.0) same ∙ is_channel)) in
      let at_c : slice_get (commits c) place ≡ Some (Puts (share old names.0.made e.0)) =
      get_front c.journal c.state.staged place (Puts (share old names.0.made e.0)) (ap (λ (y : Channel). slice_get y.journal place) (sym one) ∙ (ap (λ (p : ℕ × ℕ). slice_get t.0.journal p.1) (sym same) ∙ t.2)) in
      let less = slice_get_within (commits c) place (Puts (share old names.0.made e.0)) at_c in
      absurd (omega (arith, less))
  below (AWork k) e names same =
      let t = (was.works k names.0 names.1).there e names.2 in
      let one : t.0 ≡ c = same_some t.0 c (sym t.1 ∙ (ap (λ (p : ℕ × ℕ). slice_get old.channels p.0) same ∙ is_channel)) in
      let at_c : slice_get (commits c) place ≡ Some (Puts (share old names.0.made e.0)) =
      ap (λ (y : Channel). slice_get (commits y) place) (sym one) ∙ (ap (λ (p : ℕ × ℕ). slice_get (commits t.0) p.1) (sym same) ∙ t.2) in
      let less = slice_get_within (commits c) place (Puts (share old names.0.made e.0)) at_c in
      absurd (omega (arith, less))

  names_old : (a : Namer) (e : ℕ × ℕ) → NamesEntry new a e → NamesEntry old a e ⊎ ((a ≡ AWork number) × (e ≡ (channel, place)))
  names_old (AnAck k) e is = inl is
  names_old (AWork k) e is = from (live_set old.works number (Some more) k is.0 is.1)
    where
      from : ((k ≢ number) × (live old.works k ≡ Some is.0)) ⊎ ((k ≡ number) × (Some more ≡ Some is.0)) → NamesEntry old (AWork k) e ⊎ ((AWork k ≡ AWork number) × (e ≡ (channel, place)))
      from (inl it) = inl (is.0, it.1, is.2)
      from (inr it) = at_entry (get_one work.entries (channel, place) is.2.0 e (ap (λ (y : Work). slice_get y.entries is.2.0) (same_some more is.0 it.1) ∙ is.2.1))
        where
          at_entry : (slice_get work.entries is.2.0 ≡ Some e) ⊎ ((is.2.0 ≡ length work.entries) × ((channel, place) ≡ e)) → NamesEntry old (AWork k) e ⊎ ((AWork k ≡ AWork number) × (e ≡ (channel, place)))
          at_entry (inl has) = inl (work, ap (λ (i : ℕ). live old.works i) it.0 ∙ is_work, (is.2.0, has))
          at_entry (inr last) = inr (ap AWork it.0, sym last.1)

  once : (a b : Namer) (e : ℕ × ℕ) → NamesEntry new a e → NamesEntry new b e → a ≡ b
  once a b e p q = from (names_old a e p) (names_old b e q)
    where
      from : NamesEntry old a e ⊎ ((a ≡ AWork number) × (e ≡ (channel, place))) → NamesEntry old b e ⊎ ((b ≡ AWork number) × (e ≡ (channel, place))) → a ≡ b
      from (inl p) (inl q) = was.once a b e p q
      from (inl p) (inr q) = absurd (below a e p q.1)
      from (inr p) (inl q) = absurd (below b e q p.1)
      from (inr p) (inr q) = p.0 ∙ sym q.0

  old_stores : Stores new commits work
  old_stores = works_on old new refl grown work (was.works number work is_work)

  more_stores : Stores new commits more
  more_stores = record {
    apart = λ i j a b p q same. apart i j a b (get_one work.entries (channel, place) i a p) (get_one work.entries (channel, place) j b q) same;
    there = λ e has. there e has.0 (get_one work.entries (channel, place) has.0 e has.1);
  }
    where
      apart : (i j : ℕ) (a b : ℕ × ℕ) → (slice_get work.entries i ≡ Some a) ⊎ ((i ≡ length work.entries) × ((channel, place) ≡ a)) → (slice_get work.entries j ≡ Some b) ⊎ ((j ≡ length work.entries) × ((channel, place) ≡ b)) → a.0 ≡ b.0 → i ≡ j
      apart i j a b (inl p) (inl q) same = old_stores.apart i j a b p q same
      apart i j a b (inl p) (inr q) same = absurd (not_among work.entries channel not_yet i a p (same ∙ ap (λ (y : ℕ × ℕ). y.0) (sym q.1)))
      apart i j a b (inr p) (inl q) same = absurd (not_among work.entries channel not_yet j b q (sym same ∙ ap (λ (y : ℕ × ℕ). y.0) (sym p.1)))
      apart i j a b (inr p) (inr q) same = p.0 ∙ sym q.0

      there : (e : ℕ × ℕ) (i : ℕ) → (slice_get work.entries i ≡ Some e) ⊎ ((i ≡ length work.entries) × ((channel, place) ≡ e)) → (x : Channel) × (slice_get new.channels e.0 ≡ Some x) × (slice_get (commits x) e.1 ≡ Some (Puts (share new work.made e.0)))
      there e i (inl has) = old_stores.there e (i, has)
      there e i (inr last) =
          subst (λ (y : ℕ × ℕ). (x : Channel) × (slice_get new.channels y.0 ≡ Some x) × (slice_get (commits x) y.1 ≡ Some (Puts (share new work.made y.0)))) last.1
          (d, set_here old.channels channel c d is_channel, ap (λ (l : List Entry). slice_get l place) becomes.longer ∙ get_last (commits c) (Puts (share old work.made channel)))

  work_stores : (k : ℕ) (one : Work) → ((k ≢ number) × (live old.works k ≡ Some one)) ⊎ ((k ≡ number) × (Some more ≡ Some one)) → Stores new commits one
  work_stores k one (inl is) = works_on old new refl grown one (was.works k one is.1)
  work_stores k one (inr it) = subst (λ (y : Work). Stores new commits y) (same_some more one it.1) more_stores

  store_booked : IsBooked new
  store_booked = record {
    acks = λ k ack is. acks_on w n old move ack (was.acks k ack is);
    works = λ k one is. work_stores k one (live_set old.works number (Some more) k one is);
    once = once;
  }

-- a work is acknowledged

below_journal : (place : ℕ) (c : Option Channel) → is_below place c ≡ true → (d : Channel) × (c ≡ Some d) × (place < length d.journal)
below_journal place None is = absurd (cc)
below_journal place (Some c) is = (c, refl, lt_of place (length c.journal) is)
  where
    lt_of : (a b : ℕ) → nat_lt a b ≡ true → a < b
    lt_of a b h = grind (arith, nat_tests)

all_settled : (node : Node) (entries : List (ℕ × ℕ)) → are_settled node entries ≡ true → (i : ℕ) (e : ℕ × ℕ) → slice_get entries i ≡ Some e → is_below e.1 (slice_get node.channels e.0) ≡ true
all_settled node [] settled i e has = absurd (no_some e has)
all_settled node (x ∷ entries) settled zero e has =
    ap (λ (y : ℕ × ℕ). is_below y.1 (slice_get node.channels y.0)) (sym (same_some x e has)) ∙ (both_true (is_below x.1 (slice_get node.channels x.0)) (are_settled node entries) settled).0
all_settled node (x ∷ entries) settled (suc i) e has = all_settled node entries (both_true (is_below x.1 (slice_get node.channels x.0)) (are_settled node entries) settled).1 i e has

module _ (w : World) (n : ℕ) (old : Node) (number : ℕ) (work : Work) (is_work : live old.works number ≡ Some work) (all : is_passed_by old work 0 old.channels ≡ true) (settled : are_settled old work.entries ≡ true) (was : IsBooked old) where
  abbrev acked : Node
  acked = node_after {w = w} {n = n} {old = old} (Moved.Acknowledged number work is_work all settled)

  now_settled : Stores old journal_of work
  now_settled = record { apart = (was.works number work is_work).apart; there = there }
    where
      there : (e : ℕ × ℕ) → Has work.entries e → (c : Channel) × (slice_get old.channels e.0 ≡ Some c) × (slice_get c.journal e.1 ≡ Some (Puts (share old work.made e.0)))
      there e has =
          let t = (was.works number work is_work).there e has in
          let b = below_journal e.1 (slice_get old.channels e.0) (all_settled old work.entries settled has.0 e has.1) in
          let one : b.0 ≡ t.0 = same_some b.0 t.0 (sym b.1 ∙ t.1) in
          (t.0, t.1, sym (front_get t.0.journal t.0.state.staged e.1 (subst (λ (x : Channel). e.1 < length x.journal) one b.2)) ∙ t.2)

  -- who names an entry now named it before: the acknowledgement is the work that it was
  names_then : (a : Namer) (e : ℕ × ℕ) → NamesEntry acked a e → ((a ≢ AnAck (length old.acks)) × NamesEntry old a e × (a ≢ AWork number)) ⊎ ((a ≡ AnAck (length old.acks)) × NamesEntry old (AWork number) e)
  names_then (AnAck k) e is = from (get_one old.acks work k is.0 is.1)
    where
      other : AnAck k ≡ AWork number → ⊥
      other h = cc

      from : (slice_get old.acks k ≡ Some is.0) ⊎ ((k ≡ length old.acks) × (work ≡ is.0)) → ((AnAck k ≢ AnAck (length old.acks)) × NamesEntry old (AnAck k) e × (AnAck k ≢ AWork number)) ⊎ ((AnAck k ≡ AnAck (length old.acks)) × NamesEntry old (AWork number) e)
      from (inl it) = inl (before, (is.0, it, is.2), other)
        where
          place_of : AnAck k ≡ AnAck (length old.acks) → k ≡ length old.acks
          place_of h = cc

          before : AnAck k ≡ AnAck (length old.acks) → ⊥
          before h = let less = slice_get_within old.acks k is.0 it in let same = place_of h in absurd (omega (arith, less, same))
      from (inr last) = inr (ap AnAck last.0, (work, is_work, (is.2.0, ap (λ (x : Work). slice_get x.entries is.2.0) last.1 ∙ is.2.1)))
  names_then (AWork k) e is = from (live_set old.works number None k is.0 is.1)
    where
      other : AWork k ≡ AnAck (length old.acks) → ⊥
      other h = cc

      number_of : AWork k ≡ AWork number → k ≡ number
      number_of h = cc

      from : ((k ≢ number) × (live old.works k ≡ Some is.0)) ⊎ ((k ≡ number) × (None ≡ Some is.0)) → ((AWork k ≢ AnAck (length old.acks)) × NamesEntry old (AWork k) e × (AWork k ≢ AWork number)) ⊎ ((AWork k ≡ AnAck (length old.acks)) × NamesEntry old (AWork number) e)
      from (inl it) = inl (other, (is.0, it.1, is.2), λ same. it.0 (number_of same))
      from (inr none) = absurd (no_some is.0 none.1)

  acknowledge_booked : IsBooked acked
  acknowledge_booked = record {
    acks = λ at ack is. acks at ack (get_one old.acks work at ack is);
    works = λ k one is. stores_on old acked commits commits one refl (λ e has c there x at_e. (c, there, at_e)) (was.works k one (live_none old.works number k one is));
    once = λ a b e x y. once a b e (names_then a e x) (names_then b e y);
  }
    where
      acks : (at : ℕ) (ack : Work) → (slice_get old.acks at ≡ Some ack) ⊎ ((at ≡ length old.acks) × (work ≡ ack)) → Stores acked journal_of ack
      acks at ack (inl it) = stores_on old acked journal_of journal_of ack refl (λ e has c there x at_e. (c, there, at_e)) (was.acks at ack it)
      acks at ack (inr last) = subst (λ (x : Work). Stores acked journal_of x) last.1 (stores_on old acked journal_of journal_of work refl (λ e has c there x at_e. (c, there, at_e)) now_settled)

      once : (a b : Namer) (e : ℕ × ℕ) → ((a ≢ AnAck (length old.acks)) × NamesEntry old a e × (a ≢ AWork number)) ⊎ ((a ≡ AnAck (length old.acks)) × NamesEntry old (AWork number) e)
          → ((b ≢ AnAck (length old.acks)) × NamesEntry old b e × (b ≢ AWork number)) ⊎ ((b ≡ AnAck (length old.acks)) × NamesEntry old (AWork number) e) → a ≡ b
      once a b e (inl p) (inl q) = was.once a b e p.1 q.1
      once a b e (inl p) (inr q) = absurd (p.2 (was.once a (AWork number) e p.1 q.1))
      once a b e (inr p) (inl q) = absurd (q.2 (was.once b (AWork number) e q.1 p.1))
      once a b e (inr p) (inr q) = p.0 ∙ sym q.0

-- a channel is mended: the works that are left have no entry after its journal

front_named : (channel journal : ℕ) (entries : List (ℕ × ℕ)) → has_from channel journal entries ≡ false → (i : ℕ) (e : ℕ × ℕ) → slice_get entries i ≡ Some e → e.0 ≡ channel → e.1 < journal
front_named channel journal [] none i e has same = absurd (no_some e has)
front_named channel journal (x ∷ entries) none zero e has same =
    let one : x ≡ e = same_some x e has in
    let first : ((x.0 == channel) && nat_le journal x.1) ≡ false = (or_false ((x.0 == channel) && nat_le journal x.1) (has_from channel journal entries) none).0 in
    subst (λ (y : ℕ × ℕ). y.1 < journal) one (from (eqb_tells x.0 channel) (nat_le journal x.1) refl first)
  where
    low : nat_le journal x.1 ≡ false → x.1 < journal
    low is = grind (arith, nat_tests)

    from : ((x.0 == channel) ≡ true) × (x.0 ≡ channel) ⊎ ((x.0 == channel) ≡ false) × (x.0 ≢ channel) → (b : Bool) → nat_le journal x.1 ≡ b → ((x.0 == channel) && nat_le journal x.1) ≡ false → x.1 < journal
    from (inl equal) true is first = let bad : (true && true) ≡ false = ap (λ (t : Bool). t && true) (sym equal.0) ∙ (ap (λ (t : Bool). (x.0 == channel) && t) (sym is) ∙ first) in absurd (cc)
    from (inl equal) false is first = low is
    from (inr other) b is first = absurd (other.1 (ap (λ (p : ℕ × ℕ). p.0) (same_some x e has) ∙ same))
front_named channel journal (x ∷ entries) none (suc i) e has same = front_named channel journal entries (or_false ((x.0 == channel) && nat_le journal x.1) (has_from channel journal entries) none).1 i e has same

mend_stores : (old new : Node) (place : ℕ) (c d : Channel) (one : Work) → slice_get old.channels place ≡ Some c → new.required ≡ old.required → new.channels ≡ slice_set old.channels place d → Grows journal_of c d → has_from place (length c.journal) one.entries ≡ false → Stores old commits one → Stores new commits one
mend_stores old new place c d one there required channels grows left was = stores_on old new commits commits one required on was
  where
    on : (e : ℕ × ℕ) → Has one.entries e → (x : Channel) → slice_get old.channels e.0 ≡ Some x → (y : Entry) → slice_get (commits x) e.1 ≡ Some y → (f : Channel) × (slice_get new.channels e.0 ≡ Some f) × (slice_get (commits f) e.1 ≡ Some y)
    on e has x is y at_e = by (eqb_tells e.0 place)
      where
        by : ((e.0 == place) ≡ true) × (e.0 ≡ place) ⊎ ((e.0 == place) ≡ false) × (e.0 ≢ place) → (f : Channel) × (slice_get new.channels e.0 ≡ Some f) × (slice_get (commits f) e.1 ≡ Some y)
        by (inl same) =
            let one_c : x ≡ c = same_some x c (sym is ∙ (ap (λ (i : ℕ). slice_get old.channels i) same.1 ∙ there)) in
            let less : e.1 < length x.journal = subst (λ (z : Channel). e.1 < length z.journal) (sym one_c) (front_named place (length c.journal) one.entries left has.0 e has.1 same.1) in
            let settled : slice_get c.journal e.1 ≡ Some y = ap (λ (z : Channel). slice_get z.journal e.1) (sym one_c) ∙ (sym (front_get x.journal x.state.staged e.1 less) ∙ at_e) in
            (d, ap (λ (l : List Channel). slice_get l e.0) channels ∙ (ap (λ (i : ℕ). slice_get (slice_set old.channels place d) i) same.1 ∙ set_here old.channels place c d there), get_front d.journal d.state.staged e.1 y (grows e.1 y settled))
        by (inr other) = (x, ap (λ (l : List Channel). slice_get l e.0) channels ∙ (set_there old.channels place d e.0 other.1 ∙ is), at_e)

-- each move keeps what is booked
pub booked_after : (w : World) (n : ℕ) (old : Node) (m : Moved w n old) → IsBooked old → IsBooked (node_after m)
booked_after w n old (Began k tag batch made sent) was = begin_booked w n k old tag batch made sent was
booked_after w n old (Stored number work place c d is there fresh becomes keeps) was = store_booked w n old number work place c d is there fresh becomes keeps was
booked_after w n old (WorkEnded number) was =
    less_booked w n old (WorkEnded number) was refl (λ k one is. live_none old.works number k one is)
    (λ k one is. works_on old (record old { works = slice_set old.works number None }) refl (all_run (Grows commits) w n old (WorkEnded number) tt (λ c p e at. at) commits_grow) one (was.works k one (live_none old.works number k one is)))
booked_after w n old (Acknowledged number work is all settled) was = acknowledge_booked w n old number work is all settled was
booked_after w n old (Mended at cut c d there reopens) was =
    less_booked w n old (Mended at cut c d there reopens) was refl (λ k one is. (left_works at (length c.journal) old.works k one is).0)
    (λ k one is. let left = left_works at (length c.journal) old.works k one is in mend_stores old (node_after {w = w} {n = n} {old = old} (Mended at cut c d there reopens)) at c d one there refl refl (grows_by journal_of c d reopens.settled reopens.journal) left.1 (was.works k one left.0))
booked_after w n old (Restarted ds all) was =
    less_booked w n old (Restarted ds all) was refl (λ k one is. absurd (none_ended old.works k one is)) (λ k one is. absurd (none_ended old.works k one is))
booked_after w n old m was =
    less_booked w n old m was refl (λ k one is. is)
    (λ k one is. works_on old (node_after m) (required_same w n old m) (all_run (Grows commits) w n old m tt (λ c p e at. at) commits_grow) one (was.works k one is))

-- an acknowledgement passed each channel that has to take some of its events

-- a channel that is among the entries has one of them
pub entry_at : (entries : List (ℕ × ℕ)) (channel : ℕ) → is_among (map (λ e. e.0) entries) channel ≡ true → (place : ℕ) × Has entries (channel, place)
entry_at [] channel is = absurd (cc)
entry_at (x ∷ entries) channel is = from (eqb_tells x.0 channel) (λ later. entry_at entries channel later)
  where
    from : ((x.0 == channel) ≡ true) × (x.0 ≡ channel) ⊎ ((x.0 == channel) ≡ false) × (x.0 ≢ channel) → (is_among (map (λ e. e.0) entries) channel ≡ true → (place : ℕ) × Has entries (channel, place)) → (place : ℕ) × Has (x ∷ entries) (channel, place)
    from (inl same) rest = (x.1, (zero, ap (λ (k : ℕ). Some (k, x.1)) same.1))
    from (inr other) rest = let r = rest (or_true (x.0 == channel) (is_among (map (λ e. e.0) entries) channel) is other.0) in (r.0, (suc r.1.0, r.1.1))

passed_at : (node : Node) (work : Work) (from : ℕ) (cs : List Channel) (i : ℕ) (c : Channel) → is_passed_by node work from cs ≡ true → slice_get cs i ≡ Some c → (channel : ℕ) → channel ≡ from + i → is_empty (share node work.made channel) ≡ false → is_passed work channel ≡ true
passed_at node work from [] i c all has channel is full = absurd (no_some c has)
passed_at node work from (d ∷ cs) zero c all has channel is full =
    let here : channel ≡ from = omega (arith, is) in
    let one = (both_true (is_empty (share node work.made from) || is_passed work from) (is_passed_by node work (from + 1) cs) all).0 in
    or_true (is_empty (share node work.made channel)) (is_passed work channel) (ap (λ (k : ℕ). is_empty (share node work.made k) || is_passed work k) here ∙ one) full
passed_at node work from (d ∷ cs) (suc i) c all has channel is full =
    passed_at node work (from + 1) cs i c (both_true (is_empty (share node work.made from) || is_passed work from) (is_passed_by node work (from + 1) cs) all).1 has channel (omega (arith, is)) full

passed_on : (w : World) (n : ℕ) (old : Node) (m : Moved w n old) (ack : Work) → PassedAll old ack → PassedAll (node_after m) ack
passed_on w n old m ack was channel d there full =
    let c = came (λ c d. Unit {0}) old.channels (node_after m).channels (all_go (λ c d. Unit {0}) w n old m (λ c. tt) (λ c d added b. tt) (λ c d cut r. tt)) channel d there in
    was channel c.0 c.1 (ap is_empty (sym (share_same old (node_after m) ack.made channel (required_same w n old m))) ∙ full)

-- after a move each acknowledgement has still passed the channels that it has to
pub passed_after : (w : World) (n : ℕ) (old : Node) (m : Moved w n old) → ((place : ℕ) (ack : Work) → slice_get old.acks place ≡ Some ack → PassedAll old ack) → (place : ℕ) (ack : Work) → slice_get (node_after m).acks place ≡ Some ack → PassedAll (node_after m) ack
passed_after w n old (Acknowledged number work is all settled) was place ack has = from (get_one old.acks work place ack has)
  where
    from : (slice_get old.acks place ≡ Some ack) ⊎ ((place ≡ length old.acks) × (work ≡ ack)) → PassedAll (node_after {w = w} {n = n} {old = old} (Acknowledged number work is all settled)) ack
    from (inl it) = passed_on w n old (Acknowledged number work is all settled) ack (was place ack it)
    from (inr last) = passed_on w n old (Acknowledged number work is all settled) ack (subst (PassedAll old) last.1 (λ channel c there full. entry_at work.entries channel (passed_at old work 0 old.channels channel c all there channel (omega arith) full)))
passed_after w n old m was place ack has = passed_on w n old m ack (was place ack has)
