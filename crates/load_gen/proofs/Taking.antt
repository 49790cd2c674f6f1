-- The transaction of takes after a batch.
use Rattle.std.proofs.Common.{◌≡◌, ◌<◌, ◌≤◌, ◌+◌, ◌-◌, ◌++◌, ◌∷◌, [], ℕ, zero, suc, append_assoc, List, length, length-append, Some, None, Result, Ok, Err, Bool, true, false, refl, sym, ◌∙◌, ap, subst, arith}
use Rattle.std.proofs.lemmas.List.{append-nil}
use Rattle.std.proofs.lemmas.List.Concat.{flat_map-append}
use Rattle.event_core.specs.Content.{Content}
use Rattle.channel_face.specs.Faces.{is_spent_begin, is_spent_take}
use Rattle.channel_face.specs.History.{Opening, Step}
use Rattle.channel_face.specs.Machine.{BeginTake, Call, RollbackTake, Take, takes_of}
use Rattle.channel_face.specs.Token.{Token}
use Rattle.channel_face.specs.declared.replies.BeginRefused.{BeginRefused}
use Rattle.channel_face.specs.declared.replies.FaceRefused.TheVariants as FaceNo
use Rattle.channel_face.specs.declared.replies.TakeRefused.{TakeRefused}
use Rattle.channel_face.specs.declared.replies.Taken.{Taken}
use Rattle.md5.specs.Md5.{Holds}
use Rattle.channel_lock.specs.Views.{View}
use Rattle.shared_channel.specs.Calls.{Answers, RolledBack, state_seen}
use Rattle.load_gen.specs.Calls.{IsCalled, Makes}
use Rattle.load_gen.specs.Counted.{AreTakenUpTo, CountsSame, Feeds}
use Rattle.load_gen.specs.Parts.{Does, HaveGiven, IsSomeTaken}
use Rattle.load_gen.specs.Runs.{AreTaken, lines}
use Rattle.load_gen.specs.declared.refused.LoadRefused.TheVariants.{Face}
use Rattle.load_gen.specs.declared.tally.Tally.{Tally}
use Rattle.load_gen.proofs.Composing.{given_none, given_push, take_failed, take_unbegun}
use Rattle.load_gen.proofs.Making.{back_behind, called_up, makes_as, makes_one, makes_then}

-- nothing was taken yet
pub feeds_none : (kept : Bool) (t : Tally) → Feeds kept [] t t
feeds_none true t = (record { batches = refl; committed = refl; taken = refl }, λ m holds. subst (Holds t.digest) (sym (append-nil m)) holds)
feeds_none false t = (record { batches = refl; committed = refl; taken = refl }, λ m holds. subst (Holds t.digest) (sym (append-nil m)) holds)

-- an event more went in
pub feeds_more : (kept : Bool) (events : List Content) (e : Content) (t u w : Tally) → kept ≡ true → Feeds kept events t u → CountsSame u w → ((m : List ℕ) → Holds u.digest m → Holds w.digest (m ++ (e.body ++ 10 ∷ []))) → Feeds kept (events ++ e ∷ []) t w
feeds_more false events e t u w is f same add = absurd cc
feeds_more true events e t u w is f same add = (
  record { batches = same.batches ∙ f.0.batches; committed = same.committed ∙ f.0.committed; taken = same.taken ∙ f.0.taken },
  λ m holds. subst (Holds w.digest) (behind m) (add (m ++ lines events) (f.1 m holds)),
)
  where
    behind : (m : List ℕ) → (m ++ lines events) ++ (e.body ++ 10 ∷ []) ≡ m ++ lines (events ++ e ∷ [])
    behind m = append_assoc m (lines events) (e.body ++ 10 ∷ []) ∙ ap (λ (l : List ℕ). m ++ l) (sym (flat_map-append (λ (x : Content). x.body ++ 10 ∷ []) events (e ∷ []) ∙ ap (λ (l : List ℕ). lines events ++ l) (append-nil (e.body ++ 10 ∷ []))))

-- it stayed outside
pub feeds_not : (kept : Bool) (events : List Content) (e : Content) (t u w : Tally) → kept ≡ false → Feeds kept events t u → w ≡ u → Feeds kept (events ++ e ∷ []) t w
feeds_not true events e t u w is f same = absurd cc
feeds_not false events e t u w is f same = subst (λ (x : Tally). Feeds false (events ++ e ∷ []) t x) (sym same) f

-- no more were taken than may be
pub taken_few : (token : Token) (most : ℕ) (events : List Content) (made : List Call) → AreTaken token most events made → length events ≤ most
taken_few token zero [] made is = omega arith
taken_few token zero (e ∷ events) made is = absurd is
taken_few token (suc most) [] made is = omega arith
taken_few token (suc most) (e ∷ events) made is = let few = taken_few token most events is.2 is.4 in omega (arith, few)

-- takes

module _ {C : Type 0} (stands : C → Opening → List Step → Type 0) (tells : C → Bool) (moment : C → ℕ) where
  -- one take, as its answer says
  one_take : (spent : Bool) (w x : View) (by by' : ℕ) (token other : Token) (reply : Result Taken TakeRefused) → by' ≡ by → other ≡ token → Answers stands tells moment spent w by' (Take other reply) x → Makes by w x (IsCalled (length x.seen) spent (Take token reply))
  one_take spent w x by by' token other reply one same answers =
      subst (λ (p : ℕ × Token). Makes p.0 w x (IsCalled (length x.seen) spent (Take p.1 reply))) (λ i. (one i, same i)) (makes_one stands tells moment spent w x by' (Take other reply) answers)

  abbrev pub Took : Token → Bool → ℕ → Tally → Tally → List Call → Type 0
  Took token kept count t u made = (events : List Content) × HaveGiven token events made × (count ≡ length events) × Feeds kept events t u

  -- one take more
  pub take_more : (v w x : View) (by by' : ℕ) (token other : Token) (kept : Bool) (count count' : ℕ) (t u u' : Tally) (taken : Taken) (e : Content) → Makes by v w (Took token kept count t u) → by' ≡ by → other ≡ token → Answers stands tells moment false w by' (Take other (Ok taken)) x
      → taken.event ≡ Some e → count' ≡ count + 1 → ((events : List Content) → Feeds kept events t u → Feeds kept (events ++ e ∷ []) t u') → Makes by v x (Took token kept count' t u')
  take_more v w x by by' token other kept count count' t u u' taken e made one same answers gives is feeds =
      makes_then by v w x (Took token kept count t u) (IsCalled (length x.seen) false (Take token (Ok taken))) (Took token kept count' t u') made (one_take false w x by by' token other (Ok taken) one same answers)
      (λ a b p q. (
        p.0 ++ e ∷ [],
        subst (λ (l : List Call). HaveGiven token (p.0 ++ e ∷ []) (a ++ l)) (sym q) (given_push token p.0 a e taken p.1 gives),
        let n = p.2 in omega (arith, is, n, length-append p.0 (e ∷ [])),
        feeds p.0 p.3,
      ))

  -- the next take found nothing left
  pub take_last : (v w x : View) (by by' : ℕ) (token other : Token) (kept : Bool) (count seen : ℕ) (t u : Tally) (taken : Taken) → Makes by v w (Took token kept count t u) → by' ≡ by → other ≡ token → Answers stands tells moment false w by' (Take other (Ok taken)) x
      → taken.event ≡ None → count < 50 → Makes by v x (AreTakenUpTo seen token kept t u (Ok count))
  take_last v w x by by' token other kept count seen t u taken made one same answers gives few =
      makes_then by v w x (Took token kept count t u) (IsCalled (length x.seen) false (Take token (Ok taken))) (AreTakenUpTo seen token kept t u (Ok count)) made (one_take false w x by by' token other (Ok taken) one same answers)
      (λ a b p q. (
        p.0,
        p.2,
        subst (λ (l : List Call). AreTaken token 50 p.0 (a ++ l)) (sym q) (given_none token p.0 a taken (49 - length p.0) 50 (let n = p.2 in omega (arith, n, few)) p.1 gives),
        p.3,
      ))

  -- the next take was refused
  pub take_no : (v w x : View) (by by' : ℕ) (token other : Token) (kept : Bool) (count : ℕ) (t u : Tally) (cause : TakeRefused) → Makes by v w (Took token kept count t u) → by' ≡ by → other ≡ token → Answers stands tells moment (is_spent_take (Err cause)) w by' (Take other (Err cause)) x
      → count < 50 → Makes by v x (AreTakenUpTo (length x.seen) token kept t u (Err cause))
  take_no v w x by by' token other kept count t u cause made one same answers few =
      let spent = is_spent_take (Err cause) in
      makes_then by v w x (Took token kept count t u) (IsCalled (length x.seen) spent (Take token (Err cause))) (AreTakenUpTo (length x.seen) token kept t u (Err cause)) made (one_take spent w x by by' token other (Err cause) one same answers)
      (λ a b p q. (p.0, a, b, refl, (let n = p.2 in omega (arith, n, few)), p.1, q))

  -- its transaction was not begun
  pub takes_unbegun : (v w : View) (by k : ℕ) (cause : BeginRefused) → Answers stands tells moment (is_spent_begin (Err cause)) v by (BeginTake (Err cause)) w → Makes by v w (Does (IsSomeTaken k) (length w.seen) (state_seen w) (Err (Face (FaceNo.Begin cause))))
  takes_unbegun v w by k cause answers =
      let spent = is_spent_begin (Err cause) in
      makes_as by v w (IsCalled (length w.seen) spent (BeginTake (Err cause))) (Does (IsSomeTaken k) (length w.seen) (state_seen w) (Err (Face (FaceNo.Begin cause)))) (makes_one stands tells moment spent v w by (BeginTake (Err cause)) answers)
      (λ a is. take_unbegun k (length w.seen) (state_seen w) cause a is)

  -- it was begun, and this much was taken
  begun_takes : (v w x : View) (by by' : ℕ) (token : Token) (P : List Call → Type 0) → Answers stands tells moment false v by (BeginTake (Ok token)) w → by' ≡ by → Makes by' w x P → Makes by v x (λ made. (its : List Call) × (made ≡ BeginTake (Ok token) ∷ its) × P its)
  begun_takes v w x by by' token P answers one takes =
      makes_then by v w x (IsCalled (length w.seen) false (BeginTake (Ok token))) P (λ made. (its : List Call) × (made ≡ BeginTake (Ok token) ∷ its) × P its) (makes_one stands tells moment false v w by (BeginTake (Ok token)) answers)
      (subst (λ (n : ℕ). Makes n w x P) one takes) (λ a b is p. (b, ap (λ (l : List Call). l ++ b) is, p))

  -- a take was refused, and the transaction rolled back
  pub takes_back : (v w x y : View) (by by' by'' k : ℕ) (ended : Bool) (token other : Token) (kept : Bool) (t u : Tally) (cause : TakeRefused) → Answers stands tells moment false v by (BeginTake (Ok token)) w → by' ≡ by → Makes by' w x (AreTakenUpTo (length x.seen) token kept t u (Err cause))
      → by'' ≡ by → other ≡ token → RolledBack stands tells moment ended x by'' (RollbackTake other true) (λ s. takes_of s other ≡ None) y → Makes by v y (Does (IsSomeTaken k) (length y.seen) (state_seen y) (Err (Face (FaceNo.Take cause))))
  takes_back v w x y by by' by'' k ended token other kept t u cause answers one takes two same rolled =
      let P : List Call → Type 0 = AreTakenUpTo (length x.seen) token kept t u (Err cause) in
      back_behind stands tells moment ended v x y by by'' (λ made. (its : List Call) × (made ≡ BeginTake (Ok token) ∷ its) × P its) (Does (IsSomeTaken k) (length y.seen) (state_seen y) (Err (Face (FaceNo.Take cause)))) (λ s. RollbackTake s true) (λ s q. takes_of q s ≡ None) token other
      (begun_takes v w x by by' token P answers one takes) two same rolled
      (λ up a b made back.
      let m = made.2 in
      subst (λ (l : List Call). Does (IsSomeTaken k) (length y.seen) (state_seen y) (Err (Face (FaceNo.Take cause))) (l ++ b)) (sym made.1)
      (take_failed k (length y.seen) (state_seen y) token cause m.0 m.1 m.2 made.0 b m.3 m.4 m.5 (called_up (length x.seen) (length y.seen) (is_spent_take (Err cause)) (Take token (Err cause)) m.2 up m.6) back))

  -- it was taken from, and what ends it was cut off, or not
  pub takes_end : (v w x y : View) (by by' by'' seen k : ℕ) (token : Token) (kept : Bool) (t u : Tally) (count : ℕ) (Q R : List Call → Type 0) → Answers stands tells moment false v by (BeginTake (Ok token)) w → by' ≡ by → Makes by' w x (AreTakenUpTo seen token kept t u (Ok count)) → by'' ≡ by
      → Makes by'' x y Q → ((its b : List Call) → AreTakenUpTo seen token kept t u (Ok count) its → Q b → R ((BeginTake (Ok token) ∷ its) ++ b)) → Makes by v y R
  takes_end v w x y by by' by'' seen k token kept t u count Q R answers one takes two ends join =
      let P : List Call → Type 0 = AreTakenUpTo seen token kept t u (Ok count) in
      makes_then by v x y (λ made. (its : List Call) × (made ≡ BeginTake (Ok token) ∷ its) × P its) Q R (begun_takes v w x by by' token P answers one takes) (subst (λ (n : ℕ). Makes n x y Q) two ends)
      (λ a b made is. subst (λ (l : List Call). R (l ++ b)) (sym made.1) (join made.0 b made.2 is))
