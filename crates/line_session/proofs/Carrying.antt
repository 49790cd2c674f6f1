-- A session over one kind of store is a session over another.
use Rattle.std.proofs.Common.{ℕ, Bool, List, [], ◌∷◌, sym, subst, refl}
use Rattle.netcat_source.specs.declared.lines.LineVerdict.{LineVerdict}
use Rattle.line_session.specs.declared.session.SessionEnd.{SessionEnd}
use Rattle.line_session.specs.Handled.{Handled, TakesAll}
use Rattle.line_session.specs.Sessions.{Ends, Served, ends_of}

module _ {S T : Type 0} (Takes : S → List ℕ → LineVerdict → S → Type 0) (Others : T → List ℕ → LineVerdict → T → Type 0) (Fits : S → T → Type 0) where
  -- a store and what fits it before a line have what fits the store after it
  abbrev pub Forward : Type 0
  Forward = (a b : S) (line : List ℕ) (said : LineVerdict) (x : T) → Takes a line said b → Fits a x → (y : T) × Others x line said y × Fits b y

  -- a store and what fits it after a line have what fitted the store before it
  abbrev pub Backward : Type 0
  Backward = (a b : S) (line : List ℕ) (said : LineVerdict) (y : T) → Takes a line said b → Fits b y → (x : T) × Others x line said y × Fits a x

  -- lines that are taken one after another, from what fits the first store on
  pub all_forward : Forward → (done : List Handled) (a b : S) (x : T) → TakesAll Takes a done b → Fits a x → (y : T) × TakesAll Others x done y × Fits b y
  all_forward step [] a b x same fits = (x, refl, subst (λ (s : S). Fits s x) (sym same) fits)
  all_forward step (h ∷ done) a b x (next, one, rest) fits =
      let first = step a next h.line h.verdict x one fits in
      let others = all_forward step done next b first.0 rest first.2 in
      (others.0, (first.0, first.1, others.1), others.2)

  -- the same, from what fits the last store backwards
  pub all_backward : Backward → (done : List Handled) (a b : S) (y : T) → TakesAll Takes a done b → Fits b y → (x : T) × TakesAll Others x done y × Fits a x
  all_backward step [] a b y same fits = (y, refl, subst (λ (s : S). Fits s y) same fits)
  all_backward step (h ∷ done) a b y (next, one, rest) fits =
      let others = all_backward step done next b y rest fits in
      let first = step a next h.line h.verdict others.0 one others.2 in
      (first.0, (others.0, first.1, others.1), first.2)

  module _ (max : ℕ) (ack : Bool) (stops : LineVerdict → Bool) (old new : Ends S) (end : SessionEnd) where
    -- a session, from what fits its store at the start on
    pub served_forward : Forward → (x : T) → Served max ack stops Takes old new end → Fits old.store x
        → (y : T) × Served max ack stops Others (ends_of old.left x old.took) (ends_of new.left y new.took) end × Fits new.store y
    served_forward step x served fits =
        let all = all_forward step served.done old.store new.store x served.takes fits in
        (all.0, record { done = served.done; takes = all.1; each = served.each; rest = served.rest; read = served.read; sent = served.sent; wrote = served.wrote; ends = served.ends; at = served.at }, all.2)

    -- a session, from what fits its store at the end backwards
    pub served_backward : Backward → (y : T) → Served max ack stops Takes old new end → Fits new.store y
        → (x : T) × Served max ack stops Others (ends_of old.left x old.took) (ends_of new.left y new.took) end × Fits old.store x
    served_backward step y served fits =
        let all = all_backward step served.done old.store new.store y served.takes fits in
        (all.0, record { done = served.done; takes = all.1; each = served.each; rest = served.rest; read = served.read; sent = served.sent; wrote = served.wrote; ends = served.ends; at = served.at }, all.2)
