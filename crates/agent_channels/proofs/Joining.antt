-- All passes of a channel that made no call are joined.
use Rattle.std.proofs.Common.{◌≡◌, ◌∙◌, ◌+◌, ℕ, zero, suc, List, [], ◌∷◌, ◌++◌, true, length, get_or, refl, sym, ap, subst, arith}
use Rattle.std.proofs.lemmas.List.{length-append, same_from_push}
use mathlib.Core.Logic.{dite}
use native.Mathlib.Decide.{ℕ_discrete}
use Rattle.atomic_table.specs.Seated.{TableId}
use Rattle.channel_face.specs.History.{Opening, Step}
use Rattle.shared_channel.specs.Passes.{Known, new_pass, new_passes}
use Rattle.channel_lock.specs.Calls.{has}
use Rattle.channel_lock.specs.Turns.{HasAll}
use Rattle.channel_lock.specs.Views.{View, both, joined, longer}
use Rattle.channel_lock.proofs.Histories.{has_left, has_right}
use Rattle.agent_channels.specs.Several.{AreNew, TookOthers}
use Rattle.agent_channels.proofs.Opening.{length_new}

-- the first of new passes has the number 0
new_head : (table : TableId) (start : Opening) (n m : ℕ) → (rest : List Known) × (new_passes table start n (suc m) ≡ new_pass table start n 0 ∷ rest)
new_head table start n zero = ([], refl)
new_head table start n (suc m) =
    let r = new_head table start n m in
    (r.0 ++ new_pass table start n (suc m) ∷ [], ap (λ (l : List Known). l ++ new_pass table start n (suc m) ∷ []) r.1)

first_new : (table : TableId) (start : Opening) (n m : ℕ) (home : Known) (others : List Known) → home ∷ others ≡ new_passes table start n (suc m) → home ≡ new_pass table start n 0
first_new table start n m home others e =
    let r = new_head table start n m in
    ap (λ (l : List Known). get_or l 0 home) (e ∙ r.1)

-- the same, of so many
pub home_new : (table : TableId) (start : Opening) (n m : ℕ) (home : Known) (others : List Known) → home ∷ others ≡ new_passes table start n (m + 1) → home ≡ new_pass table start n 0
home_new table start n m home others e =
    let k : m + 1 ≡ suc m = omega arith in
    first_new table start n m home others (e ∙ ap (new_passes table start n) k)

-- of new passes the last
pub last_new : (table : TableId) (start : Opening) (n : ℕ) (home : Known) (others rest : List Known) (pass : Known) → others ≡ rest ++ pass ∷ [] → home ∷ others ≡ new_passes table start n (length others + 1)
    → (home ∷ rest ≡ new_passes table start n (length rest + 1)) × (pass ≡ new_pass table start n (length rest + 1))
last_new table start n home others rest pass is e =
    same_from_push (home ∷ rest) (new_passes table start n (length rest + 1)) pass (new_pass table start n (length rest + 1))
    (ap (λ (l : List Known). home ∷ l) (sym is) ∙ e ∙ ap (new_passes table start n) many)
  where
    many : length others + 1 ≡ suc (length rest + 1)
    many = let a = ap length is in let b = length-append rest (pass ∷ []) in omega (arith, a, b)

-- a channel's only pass
pub took_none : (table : TableId) (home : Known) (others : List Known) → others ≡ [] → home ∷ others ≡ new_passes table home.view.base home.view.passes (length others + 1) → TookOthers table home (length others + 1) home
took_none table home others none e =
    let is = home_new table home.view.base home.view.passes (length others) home others e in
    let one : length others ≡ 0 = ap length none in
    record {
      table_id = ap (λ (p : Known). p.table_id) is;
      base = refl;
      passes = refl;
      seen = ap (λ (p : Known). p.view.seen) is;
      numbers = λ k below. let first : k ≡ 0 = omega (arith, below, one) in ap (λ (p : Known). has p.view.numbers k) is ∙ ap (λ (j : ℕ). has (0 ∷ []) j) first;
    }

longer_none : (a b : List Step) → a ≡ [] → b ≡ [] → longer a b ≡ []
longer_none [] b p q = q
longer_none (x ∷ a) b p q = absurd (let e = ap length p in omega (arith, e))

-- one more was joined
pub took_more : (table : TableId) (home : Known) (n : ℕ) (old pass new : Known) → TookOthers table home n old → pass ≡ new_pass table home.view.base home.view.passes n
    → new.table_id ≡ old.table_id → new.view ≡ joined (both old.view pass.view) → TookOthers table home (suc n) new
took_more table home n old pass new took is same view = record {
  table_id = same ∙ took.table_id;
  base = ap (λ (v : View). v.base) view ∙ took.base;
  passes = ap (λ (v : View). v.passes) view ∙ took.passes;
  seen = ap (λ (v : View). v.seen) view ∙ longer_none old.view.seen pass.view.seen took.seen (ap (λ (p : Known). p.view.seen) is);
  numbers = λ k below. subst (λ (v : View). has v.numbers k ≡ true) (sym view) (dite (ℕ_discrete k n)
      (λ at. has_right old.view.numbers pass.view.numbers k (ap (λ (p : Known). has p.view.numbers k) is ∙ ap (λ (j : ℕ). has (n ∷ []) j) at ∙ own n))
      (λ apart. has_left old.view.numbers pass.view.numbers k (took.numbers k (omega (arith, below, apart)))));
}
  where
    own : (j : ℕ) → has (j ∷ []) j ≡ true
    own j = grind arith

-- all were
pub took_all : (table : TableId) (home : Known) (others : List Known) (new : Known) → AreNew table home others → TookOthers table home (length others + 1) new → HasAll new.view
took_all table home others new are took = λ k below.
    let is = home_new table home.view.base (length others + 1) (length others) home others are in
    let many : new.view.passes ≡ length others + 1 = took.passes ∙ ap (λ (p : Known). p.view.passes) is in
    took.numbers k (omega (arith, below, many))

-- new passes, by the pass at home
pub new_by_home : (table : TableId) (home : Known) (others : List Known) → AreNew table home others → home ∷ others ≡ new_passes table home.view.base home.view.passes (length others + 1)
new_by_home table home others are =
    let is = home_new table home.view.base (length others + 1) (length others) home others are in
    are ∙ ap (λ (n : ℕ). new_passes table home.view.base n (length others + 1)) (sym (ap (λ (p : Known). p.view.passes) is))

-- the pass at home knows how its channel began
pub fresh_base : (table : TableId) (start : Opening) (users : ℕ) (home : Known) (others : List Known) → home ∷ others ≡ new_passes table start (users + 1) (users + 1) → home.view.base ≡ start
fresh_base table start users home others e = ap (λ (p : Known). p.view.base) (home_new table start (users + 1) users home others e)

-- the passes that were made with a channel are new
pub fresh_new : (table : TableId) (start : Opening) (users : ℕ) (home : Known) (others : List Known) → home ∷ others ≡ new_passes table start (users + 1) (users + 1) → AreNew table home others
fresh_new table start users home others e =
    let many : users + 1 ≡ length others + 1 = let a = ap length e in let b = length_new table start (users + 1) (users + 1) in omega (arith, a, b) in
    e ∙ (λ i. new_passes table (sym (fresh_base table start users home others e) i) (many i) (many i))
