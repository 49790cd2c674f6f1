-- What each step of the world does, in one form: a move of one node, with what it rests on.
use Rattle.std.proofs.Common.{◌⊎◌, inl, inr, ◌≡◌, ◌≢◌, ◌+◌, ◌++◌, ◌∷◌, [], ℕ, zero, suc, List, length, slice_get, slice_set, Option, Some, None, Bool, true, false, ◌==◌, ◌&&◌, not, cond, refl, sym, ◌∙◌, ap, subst}
use Rattle.std.proofs.lemmas.Bool.Decides.{eqb_tells}
use Rattle.event_core.specs.Content.{Content}
use Rattle.event_core.specs.Journal.{is_among}
use Rattle.world_laws.specs.World.{Tag, Delivery, Output, Acked, Channel, commits, Work, Attempt, Node, Packet, Request, Reply, World, share, and_then, live}
use Rattle.world_laws.specs.Channels.{only_if, is_none, is_empty, next_token, stored, aside, flushed, failed, take_begun, taken, committed, given_up, reopened, all_reopened}
use Rattle.world_laws.specs.Steps
use Rattle.world_laws.specs.Steps.{Step, on_channel, begin_work, end_work, is_passed, accepted, accept, is_passed_by, are_settled, acknowledge, begin_take, take_one, take_from, send, output, end_attempt, is_tag, replied, commit, without_attempts, without_works, mend, ended, restart, offered, quietly, is_fresh, at, if_fresh, delivered, answered, happens}
use Rattle.world_laws.specs.Held.{AtNode, AttemptAgrees, Held}
use Rattle.world_laws.proofs.Lists.{same_some, no_some, both_true, not_true, none_of, and_then-some, only_if-some}
use Rattle.world_laws.proofs.Becoming.{Added, NoEntry, APuts, ATakes, IsPut, Is, Becomes, Reopens, KeepsOpen, KeepsOthers, Begins, stored_becomes, aside_becomes, flushed_becomes, failed_becomes, take_begun_becomes, taken_becomes, committed_becomes, given_up_becomes, reopened_becomes}
use Rattle.world_laws.proofs.Taking.{Took, took}

-- no request has this tag
abbrev pub Unused : World → Tag → Type 0
Unused w tag = (k n : ℕ) (batch : List Content) → slice_get w.sent k ≡ Some (Request n tag batch) → ⊥

-- all channels are opened again
abbrev pub ReopensAt : Option Channel → Option Channel → Type 0
ReopensAt None None = Unit {0}
ReopensAt None (Some d) = ⊥
ReopensAt (Some c) None = ⊥
ReopensAt (Some c) (Some d) = (cut : ℕ) × Reopens c d cut

abbrev pub AllReopen : List Channel → List Channel → Type 0
AllReopen cs ds = (place : ℕ) → ReopensAt (slice_get cs place) (slice_get ds place)

-- the moves of a node of this number
pub data Moved (w : World) (n : ℕ) (old : Node) : Type 0 where
  Asked : (tag : Tag) (batch : List Content) → Unused w tag → Moved w n old
  Began : (k : ℕ) (tag : Tag) (batch made : List Content) → slice_get w.sent k ≡ Some (Request n tag batch) → Moved w n old
  Stored :
      (number : ℕ) (work : Work) (place : ℕ) (c d : Channel) → live old.works number ≡ Some work → slice_get old.channels place ≡ Some c
      → is_passed work place ≡ false → Becomes c d (APuts (share old work.made place)) → KeepsOpen c d → Moved w n old
  WorkEnded : (number : ℕ) → Moved w n old
  Acknowledged :
      (number : ℕ) (work : Work) → live old.works number ≡ Some work → is_passed_by old work 0 old.channels ≡ true
      → are_settled old work.entries ≡ true → Moved w n old
  ChannelMoved : (place : ℕ) (c d : Channel) (added : Added) → slice_get old.channels place ≡ Some c → IsPut added → Becomes c d added → KeepsOpen c d → Moved w n old
  TakeBegan : (place : ℕ) (c d : Channel) → slice_get old.channels place ≡ Some c → Begins c d → Moved w n old
  TookOne :
      (number : ℕ) (a : Attempt) (c : Channel) (got : Channel × Content) → live old.attempts number ≡ Some a → slice_get old.channels a.channel ≡ Some c
      → a.tag ≡ None → a.delivery ≡ None → (t : AttemptAgrees w n c a) → Took c a.token t.numbers got → Becomes c got.0 NoEntry
      → KeepsOthers c got.0 a.token.number → Moved w n old
  Sent :
      (number : ℕ) (a : Attempt) (c : Channel) (to : ℕ) (tag : Tag) → live old.attempts number ≡ Some a → slice_get old.channels a.channel ≡ Some c
      → a.delivery ≡ None → is_among c.later to ≡ true → Unused w tag → Moved w n old
  Deposited : (number : ℕ) (a : Attempt) (c : Channel) → live old.attempts number ≡ Some a → slice_get old.channels a.channel ≡ Some c → c.last ≡ true → Moved w n old
  Answered :
      (number : ℕ) (a : Attempt) (tag : Tag) (k m place : ℕ) → live old.attempts number ≡ Some a → a.tag ≡ Some tag
      → slice_get w.sent k ≡ Some (Reply tag m place) → Moved w n old
  CommittedTo :
      (number : ℕ) (a : Attempt) (delivery : Delivery) (c d : Channel) → live old.attempts number ≡ Some a → a.delivery ≡ Some delivery
      → slice_get old.channels a.channel ≡ Some c → (t : AttemptAgrees w n c a) → (Becomes c d (ATakes t.numbers delivery)) ⊎ (Becomes c d NoEntry)
      → KeepsOthers c d a.token.number → Moved w n old
  AttemptEnded :
      (number : ℕ) (a : Attempt) (c d : Channel) → live old.attempts number ≡ Some a → slice_get old.channels a.channel ≡ Some c
      → Becomes c d NoEntry → KeepsOthers c d a.token.number → Moved w n old
  Mended : (place cut : ℕ) (c d : Channel) → slice_get old.channels place ≡ Some c → Reopens c d cut → Moved w n old
  Restarted : (ds : List Channel) → AllReopen old.channels ds → Moved w n old

-- a work that begins, and an attempt
abbrev pub work_of : Tag → List Content → List Content → Work
work_of tag batch made = record { batch = batch; tag = tag; made = made; entries = [] }

abbrev pub attempt_of : ℕ → Channel → Attempt
attempt_of channel c = record { channel = channel; token = next_token c.state; events = []; tag = None; delivery = None }

-- a work with one more entry, the next of this channel
abbrev pub passed : Work → ℕ → Channel → Work
passed work place c = record work { entries = work.entries ++ (place, length (commits c)) ∷ [] }

-- the node after the move
abbrev pub node_after : {w : World} {n : ℕ} {old : Node} → Moved w n old → Node
node_after {w} {n} {old} (Asked tag batch unused) = old
node_after {w} {n} {old} (Began k tag batch made sent) = record old { works = old.works ++ Some (work_of tag batch made) ∷ [] }
node_after {w} {n} {old} (Stored number work place c d is there fresh becomes keeps) = record old { channels = slice_set old.channels place d; works = slice_set old.works number (Some (passed work place c)) }
node_after {w} {n} {old} (WorkEnded number) = record old { works = slice_set old.works number None }
node_after {w} {n} {old} (Acknowledged number work is all settled) = record old { acks = old.acks ++ work ∷ []; works = slice_set old.works number None }
node_after {w} {n} {old} (ChannelMoved place c d added there put becomes keeps) = record old { channels = slice_set old.channels place d }
node_after {w} {n} {old} (TakeBegan place c d there begins) = record old { channels = slice_set old.channels place d; attempts = old.attempts ++ Some (attempt_of place c) ∷ [] }
node_after {w} {n} {old} (TookOne number a c got is there tag delivery t took becomes keeps) =
    record old { channels = slice_set old.channels a.channel got.0; attempts = slice_set old.attempts number (Some (record a { events = a.events ++ got.1 ∷ [] })) }
node_after {w} {n} {old} (Sent number a c to tag is there none among unused) = record old { attempts = slice_set old.attempts number (Some (record a { tag = Some tag })) }
node_after {w} {n} {old} (Deposited number a c is there last) = record old { outputs = old.outputs ++ a.events ∷ []; attempts = slice_set old.attempts number (Some (record a { delivery = Some (Output (length old.outputs)) })) }
node_after {w} {n} {old} (Answered number a tag k m place is own sent) = record old { attempts = slice_set old.attempts number (Some (record a { delivery = Some (Acked m place) })) }
node_after {w} {n} {old} (CommittedTo number a delivery c d is its there t becomes keeps) = record old { channels = slice_set old.channels a.channel d; attempts = slice_set old.attempts number None }
node_after {w} {n} {old} (AttemptEnded number a c d is there becomes keeps) = record old { channels = slice_set old.channels a.channel d; attempts = slice_set old.attempts number None }
node_after {w} {n} {old} (Mended place cut c d there reopens) = record old {
  channels = slice_set old.channels place d;
  works = without_works place (length c.journal) old.works;
  attempts = without_attempts place old.attempts;
}
node_after {w} {n} {old} (Restarted ds all) = record old { channels = ds; works = ended old.works; attempts = ended old.attempts }

-- what it sends
abbrev pub sent_by : {w : World} {n : ℕ} {old : Node} → Moved w n old → List Packet
sent_by {w} {n} {old} (Asked tag batch unused) = Request n tag batch ∷ []
sent_by {w} {n} {old} (Acknowledged number work is all settled) = Reply work.tag n (length old.acks) ∷ []
sent_by {w} {n} {old} (Sent number a c to tag is there none among unused) = Request to tag a.events ∷ []
sent_by {w} {n} {old} m = []

abbrev pub stepped : World → ℕ → Node → List Packet → World
stepped w n new more = record { nodes = slice_set w.nodes n new; sent = w.sent ++ more }

-- The new world is the old one after a move of one node.
pub record Went (w new : World) : Type 0 where
  pub n : ℕ
  pub old : Node
  pub here : AtNode w n old
  pub move : Moved w n old
  pub is : stepped w n (node_after move) (sent_by move) ≡ new

-- what a function of a node gives is a move
abbrev By : (w : World) (n : ℕ) (old : Node) → Node × List Packet → Type 0
By w n old r = (m : Moved w n old) × ((node_after m, sent_by m) ≡ r)

went : (w : World) (n : ℕ) (f : Node → Option (Node × List Packet)) (new : World) → ((old : Node) (r : Node × List Packet) → AtNode w n old → f old ≡ Some r → By w n old r) → at w n f ≡ Some new → Went w new
went w n f new moves is =
    let o = and_then-some (slice_get w.nodes n) (λ node. and_then (f node) (λ s. Some (stepped w n s.0 s.1))) new is in
    let r = and_then-some (f o.0) (λ s. Some (stepped w n s.0 s.1)) new o.2 in
    let m = moves o.0 r.0 o.1 r.1 in
    record { n = n; old = o.0; here = o.1; move = m.0; is = ap (λ (p : Node × List Packet). stepped w n p.0 p.1) {x = (node_after m.0, sent_by m.0)} m.1 ∙ same_some (stepped w n r.0.0 r.0.1) new r.2 }

-- so does one that sends nothing
abbrev Quietly : (w : World) (n : ℕ) (old : Node) → Node → Type 0
Quietly w n old x = (m : Moved w n old) × (node_after m ≡ x) × (sent_by m ≡ [])

went_quietly : (w : World) (n : ℕ) (f : Node → Option Node) (new : World) → ((old x : Node) → AtNode w n old → f old ≡ Some x → Quietly w n old x) → at w n (λ k. quietly (f k)) ≡ Some new → Went w new
went_quietly w n f new moves is = went w n (λ k. quietly (f k)) new one is
  where
    one : (old : Node) (r : Node × List Packet) → AtNode w n old → quietly (f old) ≡ Some r → By w n old r
    one old r here q =
        let x = and_then-some (f old) (λ k. Some (k, [])) r q in
        let m = moves old x.0 here x.1 in
        (m.0, ap (λ (k : Node). (k, sent_by m.0)) m.1 ∙ (ap (λ (l : List Packet). (x.0, l)) m.2 ∙ same_some (x.0, []) r x.2))

-- a tag that is fresh is unused

own_tag : (tag : Tag) → is_tag tag (Some tag) ≡ true
own_tag tag = from (eqb_tells tag.connection tag.connection) (eqb_tells tag.serial tag.serial)
  where
    from : ((tag.connection == tag.connection) ≡ true) × (tag.connection ≡ tag.connection) ⊎ ((tag.connection == tag.connection) ≡ false) × (tag.connection ≢ tag.connection)
        → ((tag.serial == tag.serial) ≡ true) × (tag.serial ≡ tag.serial) ⊎ ((tag.serial == tag.serial) ≡ false) × (tag.serial ≢ tag.serial) → is_tag tag (Some tag) ≡ true
    from (inl a) (inl b) = rw (a.0, b.0) refl
    from (inr a) b = absurd (a.1 refl)
    from (inl a) (inr b) = absurd (b.1 refl)

unused_in : (tag : Tag) (sent : List Packet) → is_fresh tag sent ≡ true → (k n : ℕ) (batch : List Content) → slice_get sent k ≡ Some (Request n tag batch) → ⊥
unused_in tag [] fresh k n batch is = no_some (Request n tag batch) is
unused_in tag (Request m other b ∷ sent) fresh zero n batch is =
    let both = both_true (not (is_tag tag (Some other))) (is_fresh tag sent) fresh in
    let same : other ≡ tag = cc in
    let yes : is_tag tag (Some other) ≡ true = ap (λ (t : Tag). is_tag tag (Some t)) same ∙ own_tag tag in
    let no : not true ≡ true = ap not (sym yes) ∙ both.0 in
    absurd (cc)
unused_in tag (Request m other b ∷ sent) fresh (suc k) n batch is = unused_in tag sent (both_true (not (is_tag tag (Some other))) (is_fresh tag sent) fresh).1 k n batch is
unused_in tag (Reply other m place ∷ sent) fresh zero n batch is = absurd (cc)
unused_in tag (Reply other m place ∷ sent) fresh (suc k) n batch is = unused_in tag sent fresh k n batch is

fresh-some : (w : World) (tag : Tag) (x : Option World) (new : World) → if_fresh w tag x ≡ Some new → Unused w tag × (x ≡ Some new)
fresh-some w tag x new is = from (is_fresh tag w.sent) refl is
  where
    from : (b : Bool) → is_fresh tag w.sent ≡ b → (cond b x None) ≡ Some new → Unused w tag × (x ≡ Some new)
    from true fresh it = (unused_in tag w.sent fresh, it)
    from false fresh it = absurd (no_some new it)

-- a tag that is tested is one's own
own_is : (tag : Tag) (own : Option Tag) → is_tag tag own ≡ true → own ≡ Some tag
own_is tag None is = absurd (cc)
own_is tag (Some other) is = from (eqb_tells tag.connection other.connection) (eqb_tells tag.serial other.serial) (both_true (tag.connection == other.connection) (tag.serial == other.serial) is)
  where
    differs : (b : Bool) → b ≡ false → b ≡ true → ⊥
    differs true x y = cc
    differs false x y = cc

    same_tag : tag.connection ≡ other.connection → tag.serial ≡ other.serial → other ≡ tag
    same_tag c s = rw (c, s) refl

    from : ((tag.connection == other.connection) ≡ true) × (tag.connection ≡ other.connection) ⊎ ((tag.connection == other.connection) ≡ false) × (tag.connection ≢ other.connection)
        → ((tag.serial == other.serial) ≡ true) × (tag.serial ≡ other.serial) ⊎ ((tag.serial == other.serial) ≡ false) × (tag.serial ≢ other.serial)
        → ((tag.connection == other.connection) ≡ true) × ((tag.serial == other.serial) ≡ true) → Some other ≡ Some tag
    from (inl a) (inl b) both = ap (λ (t : Tag). Some t) (same_tag a.1 b.1)
    from (inr a) b both = absurd (differs (tag.connection == other.connection) a.0 both.0)
    from (inl a) (inr b) both = absurd (differs (tag.serial == other.serial) b.0 both.1)

-- each step of a node is a move

all_reopen : (kept : List ℕ) (cs ds : List Channel) → ((place : ℕ) (c : Channel) → slice_get cs place ≡ Some c → Is c) → all_reopened kept cs ≡ Some ds → AllReopen cs ds
all_reopen [] [] ds are is = subst (AllReopen []) (same_some [] ds is) (λ place. tt)
all_reopen [] (c ∷ cs) ds are is = absurd (no_some ds is)
all_reopen (k ∷ kept) [] ds are is = absurd (no_some ds is)
all_reopen (k ∷ kept) (c ∷ cs) ds are is =
    let x = and_then-some (reopened k c) (λ x. and_then (all_reopened kept cs) (λ xs. Some (x ∷ xs))) ds is in
    let xs = and_then-some (all_reopened kept cs) (λ xs. Some (x.0 ∷ xs)) ds x.2 in
    subst (AllReopen (c ∷ cs)) (same_some (x.0 ∷ xs.0) ds xs.2) (both x.0 xs.0 (reopened_becomes k c x.0 (are zero c refl) x.1) (all_reopen kept cs xs.0 (λ place d has. are (suc place) d has) xs.1))
  where
    both : (x : Channel) (xs : List Channel) → Reopens c x (length c.journal + k) → AllReopen cs xs → AllReopen (c ∷ cs) (x ∷ xs)
    both x xs one rest zero = (length c.journal + k, one)
    both x xs one rest (suc place) = rest place

module _ (w : World) (held : Held w) (n : ℕ) (old : Node) (here : AtNode w n old) where
  is_at : (place : ℕ) (c : Channel) → slice_get old.channels place ≡ Some c → Is c
  is_at place c there = held.histories n place c (old, here, there)

  agrees_at : (number : ℕ) (a : Attempt) (c : Channel) → live old.attempts number ≡ Some a → slice_get old.channels a.channel ≡ Some c → AttemptAgrees w n c a
  agrees_at number a c is there =
      let t = held.attempts.agree n old here number a is in
      subst (λ (x : Channel). AttemptAgrees w n x a) (same_some t.0 c (sym t.1 ∙ there)) t.2

  -- one channel goes on
  by_channel : (place : ℕ) (f : Channel → Option Channel) (base x : Node) → base.channels ≡ old.channels → on_channel place f base ≡ Some x
      → (c : Channel) × (d : Channel) × (slice_get old.channels place ≡ Some c) × (f c ≡ Some d) × (record base { channels = slice_set base.channels place d } ≡ x)
  by_channel place f base x same is =
      let make : Channel → Node = λ d. record base { channels = slice_set base.channels place d } in
      let c = and_then-some (slice_get base.channels place) (λ c. and_then (f c) (λ d. Some (make d))) x is in
      let d = and_then-some (f c.0) (λ d. Some (make d)) x c.2 in
      (c.0, d.0, ap (λ (l : List Channel). slice_get l place) (sym same) ∙ c.1, d.1, same_some (make d.0) x d.2)

  channel_moves : (place : ℕ) (f : Channel → Option Channel) (added : Added) (x : Node) → IsPut added → ((c d : Channel) → Is c → f c ≡ Some d → Becomes c d added × KeepsOpen c d) → on_channel place f old ≡ Some x → Quietly w n old x
  channel_moves place f added x put becomes is =
      let g = by_channel place f old x refl is in
      let b = becomes g.0 g.1 (is_at place g.0 g.2) g.3 in
      (ChannelMoved place g.0 g.1 added g.2 put b.0 b.1, g.4, refl {a = []})

  accept_moves : (number place : ℕ) (x : Node) → accept number place old ≡ Some x → Quietly w n old x
  accept_moves number place x is =
      let mine : Work → List Content = λ work. share old work.made place in
      let test : Work → Bool = λ work. not (is_empty (mine work)) && not (is_passed work place) in
      let go : Work → Channel → Option Node = λ work c. only_if (test work) (accepted old number work place c (stored (mine work) c)) in
      let k = and_then-some (live old.works number) (λ work. and_then (slice_get old.channels place) (go work)) x is in
      let c = and_then-some (slice_get old.channels place) (go k.0) x k.2 in
      let it = only_if-some (test k.0) (accepted old number k.0 place c.0 (stored (mine k.0) c.0)) x c.2 in
      let both = both_true (not (is_empty (mine k.0))) (not (is_passed k.0 place)) it.0 in
      from k.0 c.0 k.1 c.1 (not_true (is_empty (mine k.0)) both.0) (not_true (is_passed k.0 place) both.1) (stored (mine k.0) c.0) refl it.1
    where
      from : (work : Work) (c : Channel) → live old.works number ≡ Some work → slice_get old.channels place ≡ Some c → is_empty (share old work.made place) ≡ false → is_passed work place ≡ false
          → (got : Option Channel) → stored (share old work.made place) c ≡ got → accepted old number work place c got ≡ x → Quietly w n old x
      from work c its there full fresh None got same = (WorkEnded number, same, refl {a = []})
      from work c its there full fresh (Some d) got same =
          let b = stored_becomes c d (share old work.made place) full (is_at place c there) got in
          (Stored number work place c d its there fresh b.0 b.1, same, refl {a = []})

  end_work_moves : (number : ℕ) (x : Node) → end_work number old ≡ Some x → Quietly w n old x
  end_work_moves number x is =
      let make : Node = record old { works = slice_set old.works number None } in
      let a = and_then-some (live old.works number) (λ work. Some make) x is in
      (WorkEnded number, same_some make x a.2, refl {a = []})

  acknowledge_moves : (number : ℕ) (r : Node × List Packet) → acknowledge n number old ≡ Some r → By w n old r
  acknowledge_moves number r is =
      let make : Work → Node × List Packet = λ work. (record old { acks = old.acks ++ work ∷ []; works = slice_set old.works number None }, Reply work.tag n (length old.acks) ∷ []) in
      let test : Work → Bool = λ work. is_passed_by old work 0 old.channels && are_settled old work.entries in
      let a = and_then-some (live old.works number) (λ work. only_if (test work) (make work)) r is in
      let it = only_if-some (test a.0) (make a.0) r a.2 in
      let both = both_true (is_passed_by old a.0 0 old.channels) (are_settled old a.0.entries) it.0 in
      (Acknowledged number a.0 a.1 both.0 both.1, it.1)

  begin_take_moves : (place : ℕ) (x : Node) → begin_take place old ≡ Some x → Quietly w n old x
  begin_take_moves place x is =
      let make : Channel → Channel → Node = λ c d. record old { channels = slice_set old.channels place d; attempts = old.attempts ++ Some (attempt_of place c) ∷ [] } in
      let c = and_then-some (slice_get old.channels place) (λ c. and_then (take_begun c) (λ d. Some (make c d))) x is in
      let d = and_then-some (take_begun c.0) (λ d. Some (make c.0 d)) x c.2 in
      (TakeBegan place c.0 d.0 c.1 (take_begun_becomes c.0 d.0 (is_at place c.0 c.1) d.1), same_some (make c.0 d.0) x d.2, refl {a = []})

  take_one_moves : (place number : ℕ) (x : Node) → take_one place number old ≡ Some x → Quietly w n old x
  take_one_moves place number x is =
      let make : Attempt → Channel × Content → Node = λ a got. record old { channels = slice_set old.channels a.channel got.0; attempts = slice_set old.attempts number (Some (record a { events = a.events ++ got.1 ∷ [] })) } in
      let test : Attempt → Bool = λ a. (a.channel == place) && (is_none a.tag && is_none a.delivery) in
      let go : Attempt → Channel × Content → Option Node = λ a got. only_if (test a) (make a got) in
      let a = and_then-some (live old.attempts number) (λ a. and_then (slice_get old.channels a.channel) (λ c. and_then (taken a.token c) (go a))) x is in
      let c = and_then-some (slice_get old.channels a.0.channel) (λ c. and_then (taken a.0.token c) (go a.0)) x a.2 in
      let g = and_then-some (taken a.0.token c.0) (go a.0) x c.2 in
      let it = only_if-some (test a.0) (make a.0 g.0) x g.2 in
      let none = both_true (is_none a.0.tag) (is_none a.0.delivery) (both_true (a.0.channel == place) (is_none a.0.tag && is_none a.0.delivery) it.0).1 in
      let t = agrees_at number a.0 c.0 a.1 c.1 in
      let b = taken_becomes a.0.token c.0 g.0 (is_at a.0.channel c.0 c.1) g.1 in
      let gave = took c.0 a.0.token t.numbers g.0 (held.numbers n a.0.channel c.0 (old, here, c.1)) t.alive t.open_take g.1 in
      (TookOne number a.0 c.0 g.0 a.1 c.1 (none_of a.0.tag none.0) (none_of a.0.delivery none.1) t gave b.0 b.1, it.1, refl {a = []})

  take_moves : (place : ℕ) (number : Option ℕ) (x : Node) → take_from place number old ≡ Some x → Quietly w n old x
  take_moves place None x is = begin_take_moves place x is
  take_moves place (Some number) x is = take_one_moves place number x is

  send_moves : (number to : ℕ) (tag : Tag) (r : Node × List Packet) → Unused w tag → send number to tag old ≡ Some r → By w n old r
  send_moves number to tag r unused is =
      let make : Attempt → Node × List Packet = λ a. (record old { attempts = slice_set old.attempts number (Some (record a { tag = Some tag })) }, Request to tag a.events ∷ []) in
      let go : Attempt → Channel → Option (Node × List Packet) = λ a c. only_if (is_none a.delivery && is_among c.later to) (make a) in
      let a = and_then-some (live old.attempts number) (λ a. and_then (slice_get old.channels a.channel) (go a)) r is in
      let c = and_then-some (slice_get old.channels a.0.channel) (go a.0) r a.2 in
      let it = only_if-some (is_none a.0.delivery && is_among c.0.later to) (make a.0) r c.2 in
      let both = both_true (is_none a.0.delivery) (is_among c.0.later to) it.0 in
      (Sent number a.0 c.0 to tag a.1 c.1 (none_of a.0.delivery both.0) both.1 unused, it.1)

  output_moves : (number : ℕ) (x : Node) → output number old ≡ Some x → Quietly w n old x
  output_moves number x is =
      let make : Attempt → Node = λ a. record old { outputs = old.outputs ++ a.events ∷ []; attempts = slice_set old.attempts number (Some (record a { delivery = Some (Output (length old.outputs)) })) } in
      let go : Attempt → Channel → Option Node = λ a c. only_if (is_none a.delivery && c.last) (make a) in
      let a = and_then-some (live old.attempts number) (λ a. and_then (slice_get old.channels a.channel) (go a)) x is in
      let c = and_then-some (slice_get old.channels a.0.channel) (go a.0) x a.2 in
      let it = only_if-some (is_none a.0.delivery && c.0.last) (make a.0) x c.2 in
      (Deposited number a.0 c.0 a.1 c.1 (both_true (is_none a.0.delivery) c.0.last it.0).1, it.1, refl {a = []})

  end_attempt_moves : (number : ℕ) (x : Node) → end_attempt number old ≡ Some x → Quietly w n old x
  end_attempt_moves number x is =
      let less : Node = record old { attempts = slice_set old.attempts number None } in
      let a = and_then-some (live old.attempts number) (λ a. on_channel a.channel (given_up a.token) less) x is in
      let g = by_channel a.0.channel (given_up a.0.token) less x refl a.2 in
      let b = given_up_becomes a.0.token g.0 g.1 (is_at a.0.channel g.0 g.2) g.3 in
      (AttemptEnded number a.0 g.0 g.1 a.1 g.2 b.0 b.1, g.4, refl {a = []})

  reply_moves : (number : ℕ) (tag : Tag) (k m place : ℕ) (x : Node) → slice_get w.sent k ≡ Some (Reply tag m place) → replied number tag m place old ≡ Some x → Quietly w n old x
  reply_moves number tag k m place x sent is =
      let make : Attempt → Node = λ a. record old { attempts = slice_set old.attempts number (Some (record a { delivery = Some (Acked m place) })) } in
      let a = and_then-some (live old.attempts number) (λ a. cond (is_tag tag a.tag) (Some (make a)) (end_attempt number old)) x is in
      from a.0 a.1 (is_tag tag a.0.tag) refl a.2
    where
      from : (a : Attempt) → live old.attempts number ≡ Some a → (b : Bool) → is_tag tag a.tag ≡ b → cond b (Some (record old { attempts = slice_set old.attempts number (Some (record a { delivery = Some (Acked m place) })) })) (end_attempt number old) ≡ Some x → Quietly w n old x
      from a has true own it = (Answered number a tag k m place has (own_is tag a.tag own) sent, same_some (record old { attempts = slice_set old.attempts number (Some (record a { delivery = Some (Acked m place) })) }) x it, refl {a = []})
      from a has false own it = end_attempt_moves number x it

  commit_moves : (number : ℕ) (x : Node) → commit number old ≡ Some x → Quietly w n old x
  commit_moves number x is =
      let less : Node = record old { attempts = slice_set old.attempts number None } in
      let a = and_then-some (live old.attempts number) (λ a. and_then a.delivery (λ delivery. on_channel a.channel (committed a.token delivery a.events) less)) x is in
      let dl = and_then-some a.0.delivery (λ delivery. on_channel a.0.channel (committed a.0.token delivery a.0.events) less) x a.2 in
      let g = by_channel a.0.channel (committed a.0.token dl.0 a.0.events) less x refl dl.2 in
      let t = agrees_at number a.0 g.0 a.1 g.2 in
      let b = committed_becomes a.0.token dl.0 a.0.events t.numbers g.0 g.1 (is_at a.0.channel g.0 g.2) t.open_take t.events g.3 in
      (CommittedTo number a.0 dl.0 g.0 g.1 a.1 dl.1 g.2 t b.0 b.1, g.4, refl {a = []})

  mend_moves : (place kept : ℕ) (x : Node) → mend place kept old ≡ Some x → Quietly w n old x
  mend_moves place kept x is =
      let make : Channel → Channel → Node = λ c d. record old { channels = slice_set old.channels place d; works = without_works place (length c.journal) old.works; attempts = without_attempts place old.attempts } in
      let c = and_then-some (slice_get old.channels place) (λ c. and_then (reopened kept c) (λ d. Some (make c d))) x is in
      let d = and_then-some (reopened kept c.0) (λ d. Some (make c.0 d)) x c.2 in
      (Mended place (length c.0.journal + kept) c.0 d.0 c.1 (reopened_becomes kept c.0 d.0 (is_at place c.0 c.1) d.1), same_some (make c.0 d.0) x d.2, refl {a = []})

  restart_moves : (kept : List ℕ) (x : Node) → restart kept old ≡ Some x → Quietly w n old x
  restart_moves kept x is =
      let make : List Channel → Node = λ ds. record old { channels = ds; works = ended old.works; attempts = ended old.attempts } in
      let ds = and_then-some (all_reopened kept old.channels) (λ ds. Some (make ds)) x is in
      (Restarted ds.0 (all_reopen kept old.channels ds.0 is_at ds.1), same_some (make ds.0) x ds.2, refl {a = []})

-- Each step of the world is a move.
pub moves : (w : World) (step : Step) (new : World) → Held w → happens w step ≡ Some new → Went w new
moves w (Steps.Offer n tag batch) new held is =
    let f = fresh-some w tag (at w n (offered n tag batch)) new is in
    went w n (offered n tag batch) new (λ old r here q. (Asked tag batch f.0, same_some (old, Request n tag batch ∷ []) r q)) f.1
moves w (Steps.Deliver k made) new held is =
    let p = and_then-some (slice_get w.sent k) (delivered w made) new is in
    from p.0 p.1 p.2
  where
    from : (p : Packet) → slice_get w.sent k ≡ Some p → delivered w made p ≡ Some new → Went w new
    from (Reply tag m place) there it = absurd (no_some new it)
    from (Request n tag batch) there it = went_quietly w n (begin_work tag batch made) new (λ old x here q. (Began k tag batch made there, same_some _ x q, refl {a = []})) it
moves w (Steps.Accept n work place) new held is = went_quietly w n (accept work place) new (λ old x here q. accept_moves w held n old here work place x q) is
moves w (Steps.Flush n place done) new held is = went_quietly w n (on_channel place (flushed done)) new (λ old x here q. channel_moves w held n old here place (flushed done) NoEntry x tt (flushed_becomes done) q) is
moves w (Steps.Acknowledge n work) new held is = went w n (acknowledge n work) new (λ old r here q. acknowledge_moves w held n old here work r q) is
moves w (Steps.Take n place attempt) new held is = went_quietly w n (take_from place attempt) new (λ old x here q. take_moves w held n old here place attempt x q) is
moves w (Steps.Send n attempt to tag) new held is =
    let f = fresh-some w tag (at w n (send attempt to tag)) new is in
    went w n (send attempt to tag) new (λ old r here q. send_moves w held n old here attempt to tag r f.0 q) f.1
moves w (Steps.Output n attempt) new held is = went_quietly w n (output attempt) new (λ old x here q. output_moves w held n old here attempt x q) is
moves w (Steps.Reply n attempt k) new held is =
    let p = and_then-some (slice_get w.sent k) (answered w n attempt) new is in
    from p.0 p.1 p.2
  where
    from : (p : Packet) → slice_get w.sent k ≡ Some p → answered w n attempt p ≡ Some new → Went w new
    from (Request to tag batch) there it = absurd (no_some new it)
    from (Reply tag m place) there it = went_quietly w n (replied attempt tag m place) new (λ old x here q. reply_moves w held n old here attempt tag k m place x there q) it
moves w (Steps.Commit n attempt) new held is = went_quietly w n (commit attempt) new (λ old x here q. commit_moves w held n old here attempt x q) is
moves w (Steps.Aside n place events) new held is = went_quietly w n (on_channel place (aside events)) new (λ old x here q. channel_moves w held n old here place (aside events) (APuts events) x tt (λ c d h got. aside_becomes c d events h got) q) is
moves w (Steps.Mend n place kept) new held is = went_quietly w n (mend place kept) new (λ old x here q. mend_moves w held n old here place kept x q) is
moves w (Steps.EndAttempt n attempt) new held is = went_quietly w n (end_attempt attempt) new (λ old x here q. end_attempt_moves w held n old here attempt x q) is
moves w (Steps.EndWork n work) new held is = went_quietly w n (end_work work) new (λ old x here q. end_work_moves w held n old here work x q) is
moves w (Steps.Fail n place) new held is = went_quietly w n (on_channel place failed) new (λ old x here q. channel_moves w held n old here place failed NoEntry x tt failed_becomes q) is
moves w (Steps.Restart n kept) new held is = went_quietly w n (restart kept) new (λ old x here q. restart_moves w held n old here kept x q) is
