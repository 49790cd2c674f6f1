-- What one lock tells, call by call.
use Rattle.std.proofs.Common.{◌≡◌, ◌<◌, ◌≤◌, ◌-◌, ◌^◌, ◌||◌, ◌+◌, max, get_or, ℕ, zero, suc, Result, List, [], ◌∷◌, ◌++◌, length, length-append, append_assoc, Bool, true, false, ⊎_elim, refl, sym, ◌∙◌, ap, subst, inl, inr, Ok, Err, arith}
use Rattle.std.proofs.lemmas.List.{append-nil}
use Rattle.atomic_table.specs.Seated.{TableId}
use Rattle.channel_face.specs.Token.{Token}
use Rattle.channel_face.specs.Machine.{State, Call, Flush, Admits}
use Rattle.channel_face.specs.Calls.{flushed}
use Rattle.channel_face.specs.Faces.{is_spent_flush, is_spent_stage}
use Rattle.channel_face.specs.History.{Opening, Step, Said, AddsOne, Shows, by_pass, opening, state_after}
use Rattle.channel_face.specs.declared.replies.FlushRefused.{FlushRefused}
use Rattle.channel_face.specs.declared.replies.Ticket.{Ticket}
use Rattle.channel_face.specs.declared.replies.StageCause.{StageCause}
use Rattle.channel_face.specs.declared.replies.CommitRefused.{CommitRefused}
use Rattle.channel_face.specs.declared.replies.CommitRefused.TheVariants.{Stage}
use Rattle.channel_lock.specs.Calls.{has, calls_by, Below}
use Rattle.channel_lock.specs.Views.{View, idle, with_call, saw, longer, both, joined}
use Rattle.channel_lock.proofs.Histories.{has_left, has-append, all_own, below_front'}
use Rattle.std.proofs.lemmas.Bool.{cases_lt}
use Rattle.channel_lock.specs.Turns.{Making, MadeInTurn, HasAll}
use Rattle.shared_channel.specs.Counting.{StandsCounting, Keeps, is_counted}
use Rattle.shared_channel.specs.Calls.{step, Bounds, Left, Answers, RolledBack, Looks, Commits, state_seen}
use Rattle.shared_channel.specs.Holding.{Holds, IsReleased, Makes, MakesCommit, Rolls, Tries, made_by}
use Rattle.shared_channel.specs.declared.shared.Holder.{Holder}
use Rattle.std.specs.List.{All}
use Rattle.std.proofs.lemmas.List.Elements.{All-push}
use Rattle.shared_channel.specs.Passes.{Known, known, new_pass, new_passes, view_of, AreMarks, IsPass}
use Rattle.shared_channel.proofs.Keeping.{Law, TellsAsOpened, answered_by, kept_run, kept_shows, keeps_more}

-- while fewer calls were counted, none is spent
pub unspent : (spent : Bool) (most calls : ℕ) → Bounds spent most calls → calls < most → spent ≡ false
unspent true most calls bound below = absurd (omega arith)
unspent false most calls bound below = refl

module _ {C : Type 0} (stands : C → Opening → List Step → Type 0) (tells : C → Bool) (table : TableId) where
  -- no call was made that is counted
  pub makes_none_by : (h : Holder C) (d : C) → Holds stands table h → Keeps stands d h.seat.me.0.base h.seat.me.0.seen → Makes stands table [] h (record { seat = h.seat; home = record { channel = d }; by = h.by; calls = h.calls })
  makes_none_by h d holds keeps = record {
    holds = (holds.0, (holds.1.0, holds.1.1, holds.1.2, keeps), holds.2, holds.3);
    by = refl;
    seen = sym (append-nil h.seat.me.0.seen);
    goes_on = λ v es making own. subst (λ (l : List Step). Making v l h.seat.me.0) (sym (append-nil es)) making;
  }

  -- no call was made
  pub makes_none : (h : Holder C) → Holds stands table h → Makes stands table [] h h
  makes_none h holds = makes_none_by h h.home.channel holds holds.1.3

  -- what the channel shows of its state is so of what was seen
  pub shows_seen : (h : Holder C) (P : State → Type 0) → Holds stands table h → Shows (stands h.home.channel) P → P (state_seen h.seat.me.0)
  shows_seen h P holds shows = kept_shows stands tells h.home.channel h.seat.me.0.base h.seat.me.0.seen P shows holds.1.3.calls

  -- what the lock says of a call that it counted
  abbrev pub IsCounted : Step → Holder C → Holder C → Type 0
  IsCounted s old new =
      (new.seat.me ≡ (with_call s old.seat.me.0, old.seat.me.1)) × ((v : View) (es : List Step) → Making v es old.seat.me.0 → has v.numbers old.by ≡ true → Making v (es ++ s ∷ []) new.seat.me.0)

  -- a call was made and counted
  pub makes_kept : (s told : Step) (old new : Holder C) → Holds stands table old → Keeps stands new.home.channel old.seat.me.0.base (old.seat.me.0.seen ++ s ∷ []) → new.seat.table_id ≡ old.seat.table_id → new.by ≡ old.by → new.calls ≡ old.calls + 1 → told ≡ s → IsCounted told old new → Makes stands table (s ∷ []) old new
  makes_kept s told old new holds keeps same by more told_is counted = record {
    holds = (
      same ∙ holds.0,
      (ap (λ m. m.0.turn) is ∙ holds.1.0, ap (λ m. m.0.live) is ∙ holds.1.1, ap (λ m. m.1) is ∙ holds.1.2, subst (λ (x : Opening × List Step). Keeps stands new.home.channel x.0 x.1) (λ i. (sym (ap (λ m. m.0.base) is) i, sym (ap (λ m. m.0.seen) is) i)) keeps),
      (λ i. has (ap (λ m. m.0.numbers) is i) (by i)) ∙ holds.2,
      let l = ap (λ m. length m.0.seen) is in let c = holds.3 in omega (arith, c, more, l, length-append old.seat.me.0.seen (s ∷ [])),
    );
    by = by;
    seen = ap (λ m. m.0.seen) is;
    goes_on = counts.1;
  }
    where
      counts : IsCounted s old new
      counts = subst (λ (x : Step). IsCounted x old new) told_is counted

      is : new.seat.me ≡ (with_call s old.seat.me.0, old.seat.me.1)
      is = counts.0

  -- calls after calls
  pub makes_then : (x y : List Step) (a b c : Holder C) → Makes stands table x a b → Makes stands table y b c → Makes stands table (x ++ y) a c
  makes_then x y a b c f h = record {
    holds = h.holds;
    by = h.by ∙ f.by;
    seen = h.seen ∙ ap (λ (l : List Step). l ++ y) f.seen ∙ append_assoc a.seat.me.0.seen x y;
    goes_on = λ v es making own. subst (λ (l : List Step). Making v l c.seat.me.0) (append_assoc es x y) (h.goes_on v (es ++ x) (f.goes_on v es making own) (ap (has v.numbers) f.by ∙ own));
  }

  module _ (moment : C → ℕ) where
    -- a call was made, and the machine refuses none because no more are counted
    pub tries_made : (call : Call) (spent : Bool) (old new : Holder C) → Holds stands table old → Makes stands table (made_by moment old call new ∷ []) old new → spent ≡ false → old.calls < 2 ^ 64 - 1025 → Tries stands table moment spent call old new
    tries_made call spent old new holds made sure below = subst (λ (b : Bool). Tries stands table moment b call old new) (sym sure) (made, (let c = holds.3 in omega arith))

    -- the same of a call that may follow any other
    pub tries_one : Law stands tells → (call : Call) (told : Step) (spent : Bool) (old new : Holder C) → Holds stands table old → AddsOne (stands old.home.channel) (stands new.home.channel) call (moment new.home.channel) → is_counted call ≡ true → (Admits (tells new.home.channel) (state_seen old.seat.me.0) call → spent ≡ false)
        → old.calls < 2 ^ 64 - 1025 → new.seat.table_id ≡ old.seat.table_id → new.by ≡ old.by → new.calls ≡ old.calls + 1 → told ≡ made_by moment old call new → IsCounted told old new → Tries stands table moment spent call old new
    tries_one law call told spent old new holds adds counted never below same by more told_is counts =
        let k = old.seat.me.0 in
        let keeps = keeps_more stands tells law old.home.channel new.home.channel k.base k.seen old.by call (moment new.home.channel) adds counted (let c = holds.3 in omega arith) holds.1.3 in
        tries_made call spent old new holds (makes_kept (made_by moment old call new) told old new holds keeps same by more told_is counts)
        (never (answered_by stands tells law old.home.channel new.home.channel k.base k.seen call (moment new.home.channel) adds holds.1.3)) below

    module _ (stage : Result Ticket StageCause → Call) (token : Token) where
      -- a commit whose stage was refused
      pub commit_unstaged : (cause : StageCause) (other : Token) (a b : Holder C) → Holds stands table a → a.calls < 2 ^ 64 - 1026 → Tries stands table moment (is_spent_stage (Err cause)) (stage (Err cause)) a b → other ≡ token
          → MakesCommit stands table (is_spent_stage (Err cause)) stage token (Err (Stage (record { txn = other; cause = cause }))) a b
      commit_unstaged cause other a b holds below staged same =
          let few : length a.seat.me.0.seen < 2 ^ 64 - 1026 = let c = holds.3 in omega arith in
          let sure = unspent (is_spent_stage (Err cause)) (2 ^ 64 - 1025) (length a.seat.me.0.seen) staged.1 (omega (arith, few)) in
          let made = subst (λ (s : Bool). Tries stands table moment s (stage (Err cause)) a b) sure staged in
          subst (λ (s : Bool). MakesCommit stands table s stage token (Err (Stage (record { txn = other; cause = cause }))) a b) (sym sure)
          (record { call = stage (Err cause); moment = moment b.home.channel } ∷ [], made.0, inl (cause, refl, ap (λ (k : Token). Err (Stage (record { txn = k; cause = cause }))) same), few)

      -- a commit whose flush was tried
      pub commit_flushed : (ticket : Ticket) (reply : Result (Unit {0}) FlushRefused) (a b c : Holder C) → Holds stands table a → a.calls < 2 ^ 64 - 1026 → Tries stands table moment false (stage (Ok ticket)) a b → Tries stands table moment (is_spent_flush reply) (Flush reply) b c
          → MakesCommit stands table false stage token (flushed reply ticket) a c
      commit_flushed ticket reply a b c holds below staged tried =
          let few : length a.seat.me.0.seen < 2 ^ 64 - 1026 = let c = holds.3 in omega arith in
          let first = made_by moment a (stage (Ok ticket)) b in
          let one : length b.seat.me.0.seen < 2 ^ 64 - 1025 = let l = ap length staged.0.seen in omega (arith, few, length-append a.seat.me.0.seen (first ∷ [])) in
          let m = subst (λ (s : Bool). Tries stands table moment s (Flush reply) b c) (unspent (is_spent_flush reply) (2 ^ 64 - 1025) (length b.seat.me.0.seen) tried.1 one) tried in
          let own : List Said = record { call = stage (Ok ticket); moment = moment b.home.channel } ∷ record { call = Flush reply; moment = moment c.home.channel } ∷ [] in
          let both = makes_then (first ∷ []) (made_by moment b (Flush reply) c ∷ []) a b c staged.0 m.0 in
          (own, subst (λ (n : ℕ). Makes stands table (first ∷ step n (Flush reply) (moment c.home.channel) ∷ []) a c) staged.0.by both, inr (ticket, reply, refl, refl), few)

      -- what calls a commit made
      pub commit_makes : (spent : Bool) (result : Result Ticket (CommitRefused Token)) (a b : Holder C) → MakesCommit stands table spent stage token result a b → (calls : List Step) × Makes stands table calls a b
      commit_makes true result a b m = ([], m.0)
      commit_makes false result a b m = (by_pass a.by m.0, m.1)

-- the lock is released
pub left : {C : Type 0} (stands : C → Opening → List Step → Type 0) (tells : C → Bool) → Law stands tells → TellsAsOpened stands tells → (c : C) (v k w : View) (calls : List Step) → Keeps stands c k.base k.seen → MadeInTurn v calls w → w ≡ idle k → Left stands tells v calls w c
left stands tells law told c v k w calls keeps made is =
    let seen : StandsCounting stands c w.base w.seen = subst (λ (x : View). StandsCounting stands c x.base x.seen) (sym is) keeps.calls in
    record { made = made; seen = record { calls = seen; run = kept_run stands tells law c w.base w.seen seen; same = told c w.base seen.0 seen.1 } }

length-by_pass : (by : ℕ) (own : List Said) → length (by_pass by own) ≡ length own
length-by_pass by [] = refl
length-by_pass by (s ∷ own) = ap suc (length-by_pass by own)

-- From the pass before a lock to its views after it: what its number's calls were under the lock, it did.
module _ {C : Type 0} (stands : C → Opening → List Step → Type 0) (tells : C → Bool) (table held : TableId) (number : ℕ) (before after : List View) (p : Known) (is : known table number before ≡ p) (own : has (view_of before).numbers number ≡ true)
    (a b : Holder C) (mine : a.by ≡ number) (making : Making (view_of before) [] a.seat.me.0) (count : ℕ) (released : IsReleased stands tells b after count) where
  view_is : view_of before ≡ p.view
  view_is = ap (λ (k : Known). k.view) is

  number_is : a.by ≡ p.number
  number_is = mine ∙ ap (λ (k : Known). k.number) is

  theirs : has (view_of before).numbers a.by ≡ true
  theirs = ap (has (view_of before).numbers) mine ∙ own

  -- so the pass was left
  pub gone : (es : List Step) → Makes stands held es a b → Left stands tells p.view es (view_of after) b.home.channel
  gone es makes = subst (λ (v : View). Left stands tells v es (view_of after) b.home.channel) view_is (released.left (view_of before) es (makes.goes_on (view_of before) [] making theirs))

  -- what was so with the lock is so once it is over
  pub shown : (P : Opening → List Step → Type 0) → Makes stands held [] a b → P b.seat.me.0.base b.seat.me.0.seen → P (view_of after).base (view_of after).seen
  shown P makes holds =
      let m : Making (view_of before) [] b.seat.me.0 = makes.goes_on (view_of before) [] making theirs in
      let base : b.seat.me.0.base ≡ (view_of after).base = ap (λ (x : View). x.base) m.1 ∙ sym (ap (λ (x : View). x.base) (released.saw (view_of before) [] m)) in
      subst (λ (x : Opening × List Step). P x.0 x.1) (λ i. (base i, sym released.seen i)) holds

  -- nothing was called
  pub looks : Makes stands held [] a b → Looks stands tells p.view (view_of after)
  looks makes = (b.home.channel, gone [] makes)

  -- under the pass's number
  renumbered : (call : Call) (moment : ℕ) → Left stands tells p.view (step a.by call moment ∷ []) (view_of after) b.home.channel → Left stands tells p.view (step p.number call moment ∷ []) (view_of after) b.home.channel
  renumbered call moment l = subst (λ (n : ℕ). Left stands tells p.view (step n call moment ∷ []) (view_of after) b.home.channel) number_is l

  module _ (moment : C → ℕ) where
    -- a call, which may have been spent
    pub answers : (spent : Bool) (call : Call) → Tries stands held moment spent call a b → Answers stands tells moment spent p.view p.number call (view_of after)
    answers true call tried = (looks tried.0, let l = ap length (released.seen ∙ tried.0.seen ∙ append-nil a.seat.me.0.seen) in let most = tried.1 in omega arith)
    answers false call tried =
        let l = ap length (released.seen ∙ tried.0.seen) in
        let few = tried.1 in
        ((b.home.channel, renumbered call (moment b.home.channel) (gone _ tried.0)), omega (arith, l, length-append a.seat.me.0.seen (made_by moment a call b ∷ [])))

    -- a rollback
    pub rolled_back : (ended : Bool) (call : Call) (IsStale : State → Type 0) → Rolls stands held moment ended call IsStale a b → RolledBack stands tells moment ended p.view p.number call IsStale (view_of after)
    rolled_back true call IsStale rolls = (b.home.channel, renumbered call (moment b.home.channel) (gone _ rolls.0))
    rolled_back false call IsStale rolls = (looks rolls.0, shown (λ o h. IsStale (state_after (opening o) h)) rolls.0 (rolls.1 refl))

  -- a commit
  pub commits : (spent : Bool) (stage : Result Ticket StageCause → Call) (token : Token) (result : Result Ticket (CommitRefused Token)) → MakesCommit stands held spent stage token result a b → Commits stands tells spent p.view p.number stage token result (view_of after)
  commits true stage token result m = (looks m.0, (let l = ap length (released.seen ∙ m.0.seen ∙ append-nil a.seat.me.0.seen) in let most = m.1 in omega arith), m.2)
  commits false stage token result m =
      let l = ap length (released.seen ∙ m.1.seen) in
      let few = m.3 in
      (m.0, b.home.channel, subst (λ (n : ℕ). Left stands tells p.view (by_pass n m.0) (view_of after) b.home.channel) number_is (gone _ m.1), m.2, omega (arith, l, few, length-append a.seat.me.0.seen (by_pass a.by m.0), length-by_pass a.by m.0))

  -- what holds of the pass holds again
  pub pass_kept : (es : List Step) (calls : ℕ) (marks : List Bool) → IsPass before number calls marks → Makes stands held es a b → IsPass after number count marks
  pass_kept es calls marks pass makes = (
    (released.one, ap (λ (x : View). x.turn) same, ap (λ (x : View). x.live) same ∙ pass.0.2, ap (λ (ns : List ℕ). has ns number) numbers ∙ own),
    released.calls,
    subst (λ (ns : List ℕ). AreMarks ns marks) (sym numbers) pass.2,
    (λ n h. subst (λ (k : ℕ). n < k) (sym passes) (pass.3 n (subst (λ (ns : List ℕ). has ns n ≡ true) numbers h))),
    pass.4 ∙ sym passes,
  )
    where
      same : view_of after ≡ saw (view_of before) (view_of after).seen
      same = released.saw (view_of before) es (makes.goes_on (view_of before) [] making theirs)

      numbers : (view_of after).numbers ≡ (view_of before).numbers
      numbers = ap (λ (x : View). x.numbers) same

      passes : (view_of after).passes ≡ (view_of before).passes
      passes = ap (λ (x : View). x.passes) same

-- a pass with each number sees no call that it had not seen
pub nothing_new : (v w : View) → HasAll v → MadeInTurn v [] w → w.seen ≡ v.seen
nothing_new v w every m =
    let before : Below v.passes v.seen = below_front' v.passes v.seen (m.0 ++ []) w.seen (sym (append_assoc v.seen m.0 []) ∙ sym m.2) m.4 in
    sym (all_own v.numbers v.passes w.seen every m.4) ∙ m.3 ∙ append-nil (calls_by v.numbers v.seen) ∙ all_own v.numbers v.passes v.seen every before

longer_length : (a b : List Step) → length (longer a b) ≡ max (length a) (length b)
longer_length [] b = omega arith
longer_length (x ∷ xs) [] = omega arith
longer_length (x ∷ xs) (y ∷ ys) = omega (arith, longer_length xs ys)

beyond : (marks : List Bool) (n : ℕ) → length marks ≤ n → get_or marks n false ≡ false
beyond [] n le = refl
beyond (m ∷ ms) zero le = absurd (omega arith)
beyond (m ∷ ms) (suc n) le = beyond ms n (omega arith)

not_true : (b : Bool) → ¬ (b ≡ true) → b ≡ false
not_true true never = absurd (never refl)
not_true false never = refl

-- a mark says whether a pass has the number, also where there is none
mark_of : (v : View) (number calls : ℕ) (marks : List Bool) → IsPass (v ∷ []) number calls marks → (n : ℕ) → get_or marks n false ≡ has v.numbers n
mark_of v number calls marks pass n = ⊎_elim (λ (lt : n < length marks). pass.2 n lt) (λ (ge : length marks ≤ n). beyond marks n (omega arith) ∙ sym (not_true (has v.numbers n) (λ h. let lt = pass.3 n h in let same = pass.4 in absurd (omega arith)))) (cases_lt n (length marks))

-- a pass after it took in another
pub pass_joined : (v w j : View) (number number' calls calls' : ℕ) (mine theirs after : List Bool) → IsPass (v ∷ []) number calls mine → IsPass (w ∷ []) number' calls' theirs → j ≡ joined (both v w) → ((n : ℕ) → has j.numbers n ≡ true → n < j.passes)
    → ((n : ℕ) → n < length mine → get_or after n false ≡ (get_or mine n false || get_or theirs n false)) → length after ≡ length mine → IsPass (j ∷ []) number (max calls calls') after
pass_joined v w j number number' calls calls' mine theirs after p q is below each same = (
  (refl, ap (λ (x : View). x.turn) is ∙ p.0.1, ap (λ (x : View). x.live) is ∙ p.0.2, ap (λ (x : View). has x.numbers number) is ∙ has_left v.numbers w.numbers number p.0.3),
  (λ i. max (p.1 i) (q.1 i)) ∙ sym (longer_length v.seen w.seen) ∙ sym (ap (λ (x : View). length x.seen) is),
  λ n lt. each n (subst (λ (k : ℕ). n < k) same lt) ∙ (λ i. mark_of v number calls mine p n i || mark_of w number' calls' theirs q n i) ∙ sym (has-append v.numbers w.numbers n) ∙ sym (ap (λ (x : View). has x.numbers n) is),
  below,
  same ∙ p.4 ∙ sym (ap (λ (x : View). x.passes) is),
)

-- new passes are of their table
pub new_of : (table : TableId) (start : Opening) (passes n : ℕ) → All (λ (p : Known). p.table_id ≡ table) (new_passes table start passes n)
new_of table start passes zero = λ k d lt. absurd (omega arith)
new_of table start passes (suc n) = All-push (λ (p : Known). p.table_id ≡ table) (new_passes table start passes n) (new_pass table start passes n) (new_of table start passes n) refl
