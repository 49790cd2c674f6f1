-- What a sink was handed in its turns, by the calls that it made of its channel.
use Rattle.std.proofs.Common.{◌≡◌, ◌∙◌, ℕ, List, [], ◌∷◌, ◌++◌, append-nil, append_assoc, inl, inr, Bool, true, false, Option, Some, None, Result, Ok, Err, refl, sym, ap, subst, arith}
use Rattle.std.specs.List.{AllByRecursion}
use Rattle.event_core.specs.Content.{Content}
use Rattle.channel_face.specs.Faces.{Own, IsMade, IsTakeBegun, IsTake, IsTakeRolledBack, IsTakeCommit, is_spent_begin, is_spent_take, is_spent_stage, is_spent_flush, EndsAs, EndsTakeStage}
use Rattle.channel_face.specs.History.{reopen_reply}
use Rattle.channel_face.specs.Keeps.{IsMend, is_spent_open}
use Rattle.channel_face.specs.Machine.{State, Call, BeginTake, Take, StageTake, Flush, Reopen, settled}
use Rattle.channel_face.specs.Token.{Token}
use Rattle.channel_face.specs.declared.replies.FaceRefused.{FaceRefused}
use Rattle.channel_face.specs.declared.replies.OpenCause.{OpenCause}
use Rattle.channel_face.specs.declared.replies.Settled.{Settled}
use Rattle.channel_face.specs.declared.replies.Settled.TheVariants.{Yes, No, InDoubt}
use Rattle.channel_face.specs.declared.replies.StageCause.{StageCause}
use Rattle.channel_face.specs.declared.replies.Ticket.{Ticket}
use Rattle.grouped_sinks.specs.Splits.{AllHanded, Handed, ok_batches, ok_of}
use Rattle.plug_in.specs.declared.sink.SinkRefused.{SinkRefused}
use Rattle.sink_runner.specs.Laws.{event_of}
use Rattle.sink_runner.specs.Turns.{AreTaken, EndsTaking, EndsDelivery, EndsTurn, EndsBegin, IsTurn}
use Rattle.sink_runner.specs.declared.turn.Turn.{Turn}
use Rattle.agent_run.specs.RolledTold.{CountsMore, committed, committed_by, taken_behind, taken_since}

-- ---- what calls commit, and what was taken after them

-- after these events, calls commit so, and then this was taken since the last begin
record Walks (events : List Content) (own : List Own) (batches : List (List Content)) (now : List Content) : Type 0 where
  pub commits : committed events own ≡ batches
  pub since : taken_since events own ≡ now

committed-append : (events : List Content) (a b : List Own) → committed events (a ++ b) ≡ committed events a ++ committed (taken_since events a) b
committed-append events [] b = refl
committed-append events (o ∷ a) b =
    ap (λ (l : List (List Content)). committed_by events o.call ++ l) (committed-append (taken_behind events o.call) a b)
    ∙ sym (append_assoc (committed_by events o.call) (committed (taken_behind events o.call) a) (committed (taken_since (taken_behind events o.call) a) b))

-- what was taken since the last begin, after some calls and then others, goes on from what the first left
pub since-append : (events : List Content) (a b : List Own) → taken_since events (a ++ b) ≡ taken_since (taken_since events a) b
since-append events [] b = refl
since-append events (o ∷ a) b = since-append (taken_behind events o.call) a b

walk_then : (e m n : List Content) (a b : List Own) (x y : List (List Content)) → Walks e a x m → Walks m b y n → Walks e (a ++ b) (x ++ y) n
walk_then e m n a b x y p q = record {
  commits = committed-append e a b ∙ ap (λ (l : List (List Content)). l ++ committed (taken_since e a) b) p.commits
      ∙ ap (λ (l : List Content). x ++ committed l b) p.since ∙ ap (λ (l : List (List Content)). x ++ l) q.commits;
  since = since-append e a b ∙ ap (λ (l : List Content). taken_since l b) p.since ∙ q.since;
}

walk_none : (e : List Content) (own : List Own) → own ≡ [] → Walks e own [] e
walk_none e own none = rw none (record { commits = refl; since = refl })

-- a call that takes and commits nothing, or was not counted
walk_made : (seen : ℕ) (spent : Bool) (call : Call) (s : State) (own : List Own) (e : List Content) → committed_by e call ≡ [] → taken_behind e call ≡ e → IsMade seen spent call s own → Walks e own [] e
walk_made seen false call s own e none same made = rw made.1 (record { commits = append-nil (committed_by e call) ∙ none; since = same })
walk_made seen true call s own e none same made = walk_none e own made.0

walk_begin : (seen : ℕ) (token : Token) (own : List Own) (e : List Content) → IsTakeBegun seen (Ok token) own → Walks e own [] []
walk_begin seen token own e (Ok begun, s, made, is) = rw made.1 (record { commits = refl; since = refl })
walk_begin seen token own e (Err refused, s, made, is) = absurd (cc)

begin_refused : (seen : ℕ) (refused : FaceRefused) (own : List Own) (e : List Content) → IsTakeBegun seen (Err refused) own → committed e own ≡ []
begin_refused seen refused own e (reply, s, made, is) = by (is_spent_begin reply) made
  where
    by : (spent : Bool) → IsMade seen spent (BeginTake reply) s own → committed e own ≡ []
    by false made = rw made.1 refl
    by true made = rw made.0 refl

abbrev events_of : Result (Option Content) FaceRefused → List Content
events_of (Ok event) = event_of event
events_of (Err refused) = []

walk_take : (seen : ℕ) (token : Token) (result : Result (Option Content) FaceRefused) (own : List Own) (e : List Content) → IsTake seen token result own → Walks e own [] (e ++ events_of result)
walk_take seen token result own e (Ok taken, s, made, is) = rw (is, made.1) (record { commits = refl; since = refl })
walk_take seen token result own e (Err refused, s, made, is) =
    rw is (subst (λ (l : List Content). Walks e own [] l) (sym (append-nil e))
    (walk_made seen (is_spent_take (Err refused)) (Take token (Err refused)) s own e refl (append-nil e) made))

walk_takes : (seen : ℕ) (token : Token) (events : List Content) (own : List Own) (e : List Content) → AreTaken seen token events own → Walks e own [] (e ++ events)
walk_takes seen token [] own e are = subst (λ (l : List Content). Walks e own [] l) (sym (append-nil e)) (walk_none e own are)
walk_takes seen token (event ∷ events) own e (first, rest, split, one, others) =
    rw split (subst (λ (l : List Content). Walks e (first ++ rest) [] l) (append_assoc e (event ∷ []) events)
    (walk_then e (e ++ event ∷ []) ((e ++ event ∷ []) ++ events) first rest [] [] (walk_take seen token (Ok (Some event)) first e one) (walk_takes seen token events rest (e ++ event ∷ []) others)))

walk_end : (seen : ℕ) (token : Token) (batch : ℕ) (events : List Content) (stop : Result (Unit {0}) Turn) (own : List Own) (e : List Content) → EndsTaking seen token batch events stop own → Walks e own [] e
walk_end seen token batch events (Ok done) own e (inl full) = walk_none e own full.0
walk_end seen token batch events (Ok done) own e (inr none) = subst (λ (l : List Content). Walks e own [] l) (append-nil e) (walk_take seen token (Ok None) own e none.1)
walk_end seen token batch events (Err turn) own e (inl refused) = subst (λ (l : List Content). Walks e own [] l) (append-nil e) (walk_take seen token (Err refused.1.0) own e refused.1.1)
walk_end seen token batch events (Err turn) own e (inr memory) = walk_none e own memory.0

walk_rolled : (saw : List Own → State → Type 0) (token : Token) (earlier own : List Own) (e : List Content) → IsTakeRolledBack saw token earlier own → Walks e own [] e
walk_rolled saw token earlier own e (inl made) = rw made.2 (record { commits = refl; since = append-nil e })
walk_rolled saw token earlier own e (inr (s, was, stale, inl none)) = walk_none e own none
walk_rolled saw token earlier own e (inr (s, was, stale, inr made)) = rw made.1 (record { commits = refl; since = append-nil e })

walk_as : (seen : ℕ) (s : State) (settled : Settled) (own : List Own) (sure : Bool) (e : List Content) → EndsAs seen s settled own sure → Walks e own [] e
walk_as seen s Yes own sure e is = walk_none e own is.0
walk_as seen s No own sure e is = walk_made seen (is_spent_flush is.0) (Flush is.0) s own e refl (append-nil e) is.1
walk_as seen s InDoubt own sure e is = walk_none e own is.0

walk_staged : (saw : List Own → State → Type 0) (seen : ℕ) (token : Token) (reply : Result Ticket StageCause) (earlier own : List Own) (result : Result (Unit {0}) FaceRefused) (e : List Content)
    → EndsTakeStage saw seen token reply earlier own result → Walks e own [] e
walk_staged saw seen token (Err cause) earlier own result e is = walk_rolled saw token earlier own e is.0
walk_staged saw seen token (Ok ticket) earlier own result e is = walk_as seen is.1.0 (settled is.1.0 ticket) own is.0 e is.1.2

walk_stage : (seen : ℕ) (spent : Bool) (token : Token) (reply : Result Ticket StageCause) (s : State) (own : List Own) (e : List Content) → CountsMore seen
    → IsMade seen spent (StageTake token reply) s own → Walks e own (e ∷ []) e
walk_stage seen false token reply s own e counted made = rw made.1 (record { commits = refl; since = append-nil e })
walk_stage seen true token reply s own e counted made = absurd (omega (arith, counted, made.1))

-- while calls are counted a commit commits what had been taken
walk_commit : (saw : List Own → State → Type 0) (seen : ℕ) (token : Token) (result : Result (Unit {0}) FaceRefused) (earlier own : List Own) (e : List Content) → CountsMore seen
    → IsTakeCommit saw seen token result earlier own → Walks e own (e ∷ []) e
walk_commit saw seen token result earlier own e counted is =
    rw is.4 (walk_then e e e is.2 is.3 (e ∷ []) [] (walk_stage seen (is_spent_stage is.0) token is.0 is.1 is.2 e counted is.5) (walk_staged saw seen token is.0 (earlier ++ is.2) is.3 result e is.6))

-- a mend commits nothing
pub mend_commits : (OnDisk : Type 0) (saw : List Own → State → Type 0) (seen : ℕ) (result : Result Bool OpenCause) (earlier own : List Own) (e : List Content)
    → IsMend OnDisk saw seen result earlier own → committed e own ≡ []
mend_commits OnDisk saw seen (Ok false) earlier own e is = (walk_none e own is.0).commits
mend_commits OnDisk saw seen (Ok true) earlier own e is =
    (walk_made seen (is_spent_open is.1.0) (Reopen (reopen_reply is.1.0 is.1.1)) is.1.2 own e refl (append-nil e) is.1.5).commits
mend_commits OnDisk saw seen (Err cause) earlier own e is =
    (walk_made seen (is_spent_open is.1.0) (Reopen (reopen_reply is.1.0 is.1.1)) is.1.2 own e refl (append-nil e) is.1.5).commits

-- ---- what a sink was handed

-- after these events and then some of these calls just this batch had been taken
abbrev pub WasTakenBehind : List Content → List Own → List Content → Type 0
WasTakenBehind e own batch = (front rest : List Own) × (own ≡ front ++ rest) × (taken_since e front ≡ batch)

module _ {S : Type 0} (delivers : S → List Content → ℕ → Result (Unit {0}) SinkRefused → S → Type 0) where
  -- By these calls the sink was handed what its transactions had taken; and while calls are counted, what was answered Ok is what they
  -- commit.
  pub record Hands (seen : ℕ) (own : List Own) (s t : S) : Type 0 where
    pub done : List Handed
    pub chain : AllHanded delivers done s t
    pub taken : (e : List Content) → AllByRecursion (λ (h : Handed). WasTakenBehind e own h.batch) done
    pub commits : CountsMore seen → (e : List Content) → committed e own ≡ ok_batches done

  -- a sink that stayed as it was was handed nothing, where nothing was committed
  pub hands_none : (seen : ℕ) (own : List Own) (s t : S) → t ≡ s → ((e : List Content) → committed e own ≡ []) → Hands seen own s t
  hands_none seen own s t same none = record { done = []; chain = same; taken = λ e. tt; commits = λ counted e. none e }

  hands_one : (seen : ℕ) (own : List Own) (s t : S) (batch : List Content) (moment : ℕ) (answer : Result (Unit {0}) SinkRefused) → delivers s batch moment answer t
      → ((e : List Content) → WasTakenBehind e own batch) → (CountsMore seen → (e : List Content) → committed e own ≡ ok_of answer batch) → Hands seen own s t
  hands_one seen own s t batch moment answer is taken commits = record {
    done = record { batch = batch; moment = moment; answer = answer } ∷ [];
    chain = (t, is, refl);
    taken = λ e. (taken e, tt);
    commits = λ counted e. commits counted e ∙ sym (append-nil (ok_of answer batch));
  }

  chain_then : (x y : List Handed) (s m t : S) → AllHanded delivers x s m → AllHanded delivers y m t → AllHanded delivers (x ++ y) s t
  chain_then [] y s m t same rest = subst (λ (z : S). AllHanded delivers y z t) same rest
  chain_then (h ∷ x) y s m t (next, is, others) rest = (next, is, chain_then x y next m t others rest)

  taken_both : (e : List Content) (a b : List Own) (x y : List Handed) → AllByRecursion (λ (h : Handed). WasTakenBehind e a h.batch) x
      → AllByRecursion (λ (h : Handed). WasTakenBehind (taken_since e a) b h.batch) y → AllByRecursion (λ (h : Handed). WasTakenBehind e (a ++ b) h.batch) (x ++ y)
  taken_both e a b [] [] p q = tt
  taken_both e a b [] (h ∷ y) p ((front, rest, split, is), q) = (
    (a ++ front, rest, ap (λ (l : List Own). a ++ l) split ∙ sym (append_assoc a front rest), since-append e a front ∙ is),
    taken_both e a b [] y p q,
  )
  taken_both e a b (h ∷ x) y ((front, rest, split, is), p) q = (
    (front, rest ++ b, ap (λ (l : List Own). l ++ b) split ∙ append_assoc front rest b, is),
    taken_both e a b x y p q,
  )

  ok-append : (x y : List Handed) → ok_batches (x ++ y) ≡ ok_batches x ++ ok_batches y
  ok-append [] y = refl
  ok-append (h ∷ x) y = ap (λ (l : List (List Content)). ok_of h.answer h.batch ++ l) (ok-append x y) ∙ sym (append_assoc (ok_of h.answer h.batch) (ok_batches x) (ok_batches y))

  -- what a sink was handed by some calls and then by those after them it was handed by all of them
  pub hands_then : (seen : ℕ) (a b : List Own) (s m t : S) → Hands seen a s m → Hands seen b m t → Hands seen (a ++ b) s t
  hands_then seen a b s m t p q = record {
    done = p.done ++ q.done;
    chain = chain_then p.done q.done s m t p.chain q.chain;
    taken = λ e. taken_both e a b p.done q.done (p.taken e) (q.taken (taken_since e a));
    commits = λ counted e. committed-append e a b ∙ ap (λ (l : List (List Content)). l ++ committed (taken_since e a) b) (p.commits counted e)
        ∙ ap (λ (l : List (List Content)). ok_batches p.done ++ l) (q.commits counted (taken_since e a)) ∙ sym (ok-append p.done q.done);
  }

  module _ (saw : List Own → State → Type 0) (seen batch moment : ℕ) (sink after : S) (turn : Turn) where
    handed : (token : Token) (events : List Content) (earlier ending : List Own) (answer : Result (Unit {0}) SinkRefused) → delivers sink events moment answer after
        → EndsDelivery saw seen token events answer turn earlier ending → (front : List Own) → ((e : List Content) → Walks e front [] events) → Hands seen (front ++ ending) sink after
    handed token events earlier ending (Ok done) is ends front walked =
        hands_one seen (front ++ ending) sink after events moment (Ok done) is (λ e. (front, ending, refl, (walked e).since))
        (λ counted e. (walk_then e events events front ending [] (events ∷ []) (walked e) (walk_commit saw seen token ends.0 earlier ending events counted ends.1)).commits)
    handed token events earlier ending (Err why) is ends front walked =
        hands_one seen (front ++ ending) sink after events moment (Err why) is (λ e. (front, ending, refl, (walked e).since))
        (λ counted e. (walk_then e events events front ending [] [] (walked e) (walk_rolled saw token earlier ending events ends.0)).commits)

    ended : (token : Token) (events : List Content) (earlier ending : List Own) (stop : Result (Unit {0}) Turn) → EndsTurn saw seen delivers token events moment sink stop turn after earlier ending
        → (front : List Own) → ((e : List Content) → Walks e front [] events) → Hands seen (front ++ ending) sink after
    ended token [] earlier ending (Ok done) ends front walked =
        hands_none seen (front ++ ending) sink after ends.2 (λ e. (walk_then e [] [] front ending [] [] (walked e) (walk_rolled saw token earlier ending [] ends.0)).commits)
    ended token (event ∷ events) earlier ending (Ok done) ends front walked = handed token (event ∷ events) earlier ending ends.0 ends.1 ends.2 front walked
    ended token events earlier ending (Err over) ends front walked =
        hands_none seen (front ++ ending) sink after ends.2 (λ e. (walk_then e events events front ending [] [] (walked e) (walk_rolled saw token earlier ending events ends.0)).commits)

    begun : (result : Result Token FaceRefused) (earlier first rest : List Own) → IsTakeBegun seen result first → EndsBegin saw seen delivers batch moment sink result turn after (earlier ++ first) rest
        → Hands seen (first ++ rest) sink after
    begun (Err refused) earlier first rest is ends =
        hands_none seen (first ++ rest) sink after ends.2 (λ e. ap (λ (l : List Own). committed e (first ++ l)) ends.0 ∙ ap (committed e) (append-nil first) ∙ begin_refused seen refused first e is)
    begun (Ok token) earlier first rest is ends =
        let events = ends.0 in
        let takes = ends.2 in
        let ending = ends.3 in
        let up_to = ends.5 in
        let taken : Walks [] takes [] events = rw up_to.1.2 (walk_then [] events events up_to.1.0 up_to.1.1 [] [] (walk_takes seen token events up_to.1.0 [] up_to.1.3) (walk_end seen token batch events ends.1 up_to.1.1 events up_to.1.4)) in
        let walked : (e : List Content) → Walks e (first ++ takes) [] events = λ e. walk_then e [] events first takes [] [] (walk_begin seen token first e is) taken in
        subst (λ (l : List Own). Hands seen l sink after) (append_assoc first takes ending ∙ ap (λ (l : List Own). first ++ l) (sym ends.4))
        (ended token events ((earlier ++ first) ++ takes) ending ends.1 ends.6 (first ++ takes) walked)

    -- In a turn the sink is handed what was taken, or nothing.
    pub turn_hands : (earlier own : List Own) → IsTurn saw seen delivers batch moment sink turn after earlier own → Hands seen own sink after
    turn_hands earlier own is = rw is.3 (begun is.0 earlier is.1 is.2 is.4 is.5)
