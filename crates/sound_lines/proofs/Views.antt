-- What is seen of a channel stays fair while a pass goes on.
use Rattle.std.proofs.Common.{◌≡◌, ◌++◌, ◌∷◌, [], ℕ, suc, List, length, length-append, Result, Ok, Err, Bool, true, false, refl, sym, ◌∙◌, ap, subst, append_assoc, arith}
use Rattle.std.specs.Prelude.{◌||◌}
use Rattle.std.proofs.lemmas.Bool.{eq-eqb}
use Rattle.std.proofs.lemmas.List.{append-nil, append_cancel_left}
use mathlib.Core.Logic.{dite}
use native.Mathlib.Decide.{ℕ_discrete}
use Rattle.channel_face.specs.Faces.{Own}
use Rattle.channel_face.specs.History.{Opening, Step, opening, reopen_reply, state_after}
use Rattle.channel_face.specs.Keeps.{is_spent_open}
use Rattle.channel_face.specs.Machine.{State, Call, Reopen, Reopened, after}
use Rattle.channel_face.specs.declared.replies.OpenCause.{OpenCause}
use Rattle.channel_face.proofs.Adding.{state-append}
use Rattle.channel_lock.specs.Calls.{calls_by, has, keep}
use Rattle.channel_lock.specs.Turns.{MadeInTurn}
use Rattle.channel_lock.specs.Views.{View}
use Rattle.channel_lock.proofs.Histories.{calls_by-append, has_only, nil_of}
use Rattle.shared_channel.specs.Calls.{Answers, Looks, step}
use Rattle.shared_channel.specs.Durables.{Mends, WasBroken, calls_of}
use Rattle.shared_channel.specs.Ports.{AreUnder, own_calls, own_if}
use Rattle.shared_channel.proofs.Porting.{own-append}
use Rattle.sound_lines.proofs.Fair.{AreFairOwn, IsFairOwn, fair_then}

-- the calls with this number that are seen are fair
abbrev pub IsFairIn : ℕ → View → Type 0
IsFairIn n v = AreFairOwn [] (own_calls (n ∷ []) (opening v.base) v.seen)

-- Between two views only one number of the pass was called with, and its calls stay fair.
pub record Goes (number : ℕ) (v w : View) : Type 0 where
  pub base : w.base ≡ v.base
  pub passes : w.passes ≡ v.passes
  pub numbers : w.numbers ≡ v.numbers
  pub rest : List Step
  pub whole : v.seen ++ rest ≡ w.seen
  pub under : AreUnder number (calls_by v.numbers rest)
  pub fair : IsFairIn number v → IsFairIn number w

-- no call has another one of these numbers
none_of : (n k : ℕ) (ns : List ℕ) (s : State) (h : List Step) → AreUnder n (calls_by ns h) → has ns k ≡ true → (k ≡ n → ⊥) → own_calls (k ∷ []) s h ≡ []
none_of n k ns s [] under mine other = refl
none_of n k ns s (x ∷ h) under mine other = by_pass (has (k ∷ []) x.pass) refl (by_any (has ns x.pass) under (λ rest. none_of n k ns (after s x.call) h rest mine other))
  where
    by_any : (b : Bool) → AreUnder n (keep b x (calls_by ns h)) → (AreUnder n (calls_by ns h) → own_calls (k ∷ []) (after s x.call) h ≡ []) → own_calls (k ∷ []) (after s x.call) h ≡ []
    by_any true all go = go all.1
    by_any false all go = go all

    not_this : x.pass ≡ k → ⊥
    not_this is =
        let of : has ns x.pass ≡ true = subst (λ (m : ℕ). has ns m ≡ true) (sym is) mine in
        let head : AreUnder n (keep true x (calls_by ns h)) = subst (λ (b : Bool). AreUnder n (keep b x (calls_by ns h))) of under in
        other (sym is ∙ head.0)

    by_pass : (b : Bool) → has (k ∷ []) x.pass ≡ b → own_calls (k ∷ []) (after s x.call) h ≡ [] → own_if b (record { call = x.call; before = s; moment = x.moment }) (own_calls (k ∷ []) (after s x.call) h) ≡ []
    by_pass true is rest = absurd (not_this (has_only k x.pass is))
    by_pass false is rest = rest

-- The calls with each number of the pass stay fair.
pub goes_on : (number n : ℕ) (v w : View) → Goes number v w → has v.numbers n ≡ true → IsFairIn n v → IsFairIn n w
goes_on number n v w g mine fair = dite (ℕ_discrete n number)
    (λ same. subst (λ (k : ℕ). IsFairIn k w) (sym same) (g.fair (subst (λ (k : ℕ). IsFairIn k v) same fair)))
    (λ other.
    let s = opening v.base in
    let none : own_calls (n ∷ []) (state_after s v.seen) g.rest ≡ [] = none_of number n v.numbers (state_after s v.seen) g.rest g.under mine other in
    let is : own_calls (n ∷ []) s v.seen ≡ own_calls (n ∷ []) (opening w.base) w.seen =
    sym (append-nil (own_calls (n ∷ []) s v.seen)) ∙ ap (λ (l : List Own). own_calls (n ∷ []) s v.seen ++ l) (sym none) ∙ sym (own-append (n ∷ []) s v.seen g.rest) ∙ ap (own_calls (n ∷ []) s) g.whole
    ∙ ap (λ (o : Opening). own_calls (n ∷ []) (opening o) w.seen) (sym g.base) in
    subst (AreFairOwn []) is fair)

-- nothing was called
pub goes_same : (number : ℕ) (v w : View) → w.base ≡ v.base → w.passes ≡ v.passes → w.numbers ≡ v.numbers → w.seen ≡ v.seen → Goes number v w
goes_same number v w base passes numbers seen = record {
  base = base;
  passes = passes;
  numbers = numbers;
  rest = [];
  whole = append-nil v.seen ∙ sym seen;
  under = tt;
  fair = λ fair. subst (λ (x : Opening × List Step). AreFairOwn [] (own_calls (number ∷ []) (opening x.0) x.1)) (λ i. (sym base i, sym seen i)) fair;
}

-- ---- calls under one lock

module _ (by : ℕ) (v w : View) (mine : has v.numbers by ≡ true) where
  not_next : (n : ℕ) → n ≡ suc n → ⊥
  not_next n is = omega arith

  made_goes : (es : List Step) (made : MadeInTurn v es w) → AreUnder by es → AreFairOwn [] (own_calls (by ∷ []) (state_after (opening v.base) (v.seen ++ made.0)) es) → Goes by v w
  made_goes es made under fair =
      let between = made.0 in
      let rest = between ++ es in
      let s = opening v.base in
      let here = state_after s v.seen in
      let whole : v.seen ++ rest ≡ w.seen = sym (append_assoc v.seen between es) ∙ sym made.2 in
      let calls : calls_by v.numbers v.seen ++ calls_by v.numbers rest ≡ calls_by v.numbers v.seen ++ es = sym (calls_by-append v.numbers v.seen rest) ∙ ap (calls_by v.numbers) whole ∙ made.3 in
      let only : calls_by v.numbers rest ≡ es = append_cancel_left (calls_by v.numbers v.seen) (calls_by v.numbers rest) es calls in
      let split : calls_by v.numbers between ++ calls_by v.numbers es ≡ es = sym (calls_by-append v.numbers between es) ∙ only in
      let no_calls : calls_by v.numbers between ≡ [] = nil_of (calls_by v.numbers between) (omega (arith, length-append (calls_by v.numbers between) (calls_by v.numbers es), ap length split, ap length made.5)) in
      let none : own_calls (by ∷ []) here between ≡ [] = none_of (suc by) by v.numbers here between (subst (AreUnder (suc by)) (sym no_calls) tt) mine (not_next by) in
      let there : state_after here between ≡ state_after s (v.seen ++ between) = sym (state-append s v.seen between) in
      let last : own_calls (by ∷ []) s (v.seen ++ rest) ≡ own_calls (by ∷ []) s v.seen ++ own_calls (by ∷ []) (state_after s (v.seen ++ between)) es =
      own-append (by ∷ []) s v.seen rest ∙ ap (λ (l : List Own). own_calls (by ∷ []) s v.seen ++ l)
      (own-append (by ∷ []) here between es ∙ ap (λ (l : List Own). l ++ own_calls (by ∷ []) (state_after here between) es) none ∙ ap (λ (t : State). own_calls (by ∷ []) t es) there) in
      let base : w.base ≡ v.base = ap (λ (x : View). x.base) made.1 in
      record {
        base = base;
        passes = ap (λ (x : View). x.passes) made.1;
        numbers = ap (λ (x : View). x.numbers) made.1;
        rest = rest;
        whole = whole;
        under = subst (AreUnder by) (sym only) under;
        fair = λ before. subst (AreFairOwn []) (sym last ∙ ap (own_calls (by ∷ []) s) whole ∙ ap (λ (o : Opening). own_calls (by ∷ []) (opening o) w.seen) (sym base))
            (fair_then (own_calls (by ∷ []) s v.seen) (own_calls (by ∷ []) (state_after s (v.seen ++ between)) es) before fair);
      }

  has_self : has (by ∷ []) by ≡ true
  has_self = ap (λ (b : Bool). b || false) (eq-eqb by by refl)

  one_fair : (s : State) (call : Call) (moment : ℕ) → IsFairOwn [] s call → AreFairOwn [] (own_calls (by ∷ []) s (step by call moment ∷ []))
  one_fair s call moment fair = subst (λ (b : Bool). AreFairOwn [] (own_if b (record { call = call; before = s; moment = moment }) [])) (sym has_self) (fair, tt)

  module _ {C : Type 0} (stands : C → Opening → List Step → Type 0) (tells : C → Bool) (moment : C → ℕ) where
    looked_goes : Looks stands tells v w → Goes by v w
    looked_goes l = made_goes [] l.1.made tt tt

    -- a call that is fair in every state
    pub answered_goes : (spent : Bool) (call : Call) → ((s : State) → IsFairOwn [] s call) → Answers stands tells moment spent v by call w → Goes by v w
    answered_goes true call fair is = looked_goes is.0
    answered_goes false call fair is =
        let made = is.0.1.made in
        made_goes (step by call (moment is.0.0) ∷ []) made (refl, tt) (one_fair (state_after (opening v.base) (v.seen ++ made.0)) call (moment is.0.0) (fair (state_after (opening v.base) (v.seen ++ made.0))))

    last_same : (a f : List Step) (e y : Step) → a ++ e ∷ [] ≡ f ++ y ∷ [] → f ≡ a
    last_same [] [] e y is = refl
    last_same [] (x ∷ f) e y is = absurd (omega (arith, ap length is, length-append (x ∷ f) (y ∷ [])))
    last_same (x ∷ a) [] e y is = absurd (omega (arith, ap length is, length-append (x ∷ a) (e ∷ [])))
    last_same (x ∷ a) (z ∷ f) e y is =
        let head : z ≡ x = cc in
        let rest : a ++ e ∷ [] ≡ f ++ y ∷ [] = cc in
        let tail = last_same a f e y rest in
        λ i. head i ∷ tail i

    front_same : (a f l : List Step) (e : Step) → a ++ e ∷ [] ≡ f ++ l → length l ≡ 1 → f ≡ a
    front_same a f [] e is one = absurd (omega (arith, one))
    front_same a f (y ∷ []) e is one = last_same a f e y is
    front_same a f (y ∷ z ∷ l) e is one = absurd (omega (arith, one))

    reopened_goes : (spent : Bool) (reply : Result Reopened OpenCause) → Answers stands tells moment spent v by (Reopen reply) w → WasBroken (calls_of spent) w → Goes by v w
    reopened_goes true reply is was = looked_goes is.0
    reopened_goes false reply is (front, last, split, one, broken) =
        let made = is.0.1.made in
        let e = step by (Reopen reply) (moment is.0.0) in
        let here : front ≡ v.seen ++ made.0 = front_same (v.seen ++ made.0) front last e (sym made.2 ∙ split) one in
        let base : w.base ≡ v.base = ap (λ (x : View). x.base) made.1 in
        let was : (state_after (opening v.base) (v.seen ++ made.0)).broken ≡ true =
        subst (λ (x : Opening × List Step). (state_after (opening x.0) x.1).broken ≡ true) (λ i. (base i, here i)) broken in
        made_goes (e ∷ []) made (refl, tt) (one_fair (state_after (opening v.base) (v.seen ++ made.0)) (Reopen reply) (moment is.0.0) was)

    -- a mend
    pub mended_goes : (result : Result Bool OpenCause) → Mends stands tells moment v by result w → Goes by v w
    mended_goes (Ok false) is = looked_goes is.0
    mended_goes (Ok true) (reply, (kept, answers), was, is) = reopened_goes (is_spent_open reply) (reopen_reply reply kept) answers was
    mended_goes (Err cause) (reply, (kept, answers), was, is) = reopened_goes (is_spent_open reply) (reopen_reply reply kept) answers was
