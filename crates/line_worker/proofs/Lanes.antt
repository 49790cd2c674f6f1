-- Lines that go through a worker's lane.
use Rattle.std.proofs.Common.{◌≡◌, ◌∙◌, ℕ, Bool, List, [], Option, refl, sym, subst}
use Rattle.std.proofs.KnownBytes.{Appends-nil, Consumes-nil}
use Rattle.std.proofs.lemmas.List.Elements.{All-nil}
use Rattle.selectors.specs.declared.selector.Selector.{Selector}
use Rattle.source_put.specs.declared.chain.HostNames.{HostNames}
use Rattle.netcat_source.specs.Lines.{IsLine}
use Rattle.netcat_source.specs.declared.lines.LineVerdict.{LineVerdict}
use Rattle.line_session.specs.Sessions.{Ends, Served, ends_of}
use Rattle.line_session.specs.declared.session.SessionEnd.{SessionEnd}
use Rattle.line_session.specs.declared.session.SessionEnd.TheVariants.{NoMemory}
use Rattle.line_session.proofs.Carrying.{Forward, served_forward}

-- no session began
pub none_served : (max : ℕ) (ack : Bool) (stops : LineVerdict → Bool) {S : Type 0} (Takes : S → List ℕ → LineVerdict → S → Type 0) (left : Option (List ℕ)) (store : S) (took : Option (List ℕ))
    → Served max ack stops Takes (ends_of left store took) (ends_of left store took) NoMemory
none_served max ack stops Takes left store took = record {
  done = [];
  takes = refl;
  each = All-nil (IsLine max);
  rest = [];
  read = Consumes-nil left;
  sent = [];
  wrote = Appends-nil took;
  ends = (refl, refl, refl);
  at = refl;
}

module _ {S T : Type 0} (view : S → T) (selector : S → Selector) (host : S → HostNames)
    (Turns : Selector → HostNames → T → List ℕ → LineVerdict → T → Type 0) where
  -- a store takes a line by its selector and its names, and keeps these
  abbrev pub Steps : S → List ℕ → LineVerdict → S → Type 0
  Steps a line said b = Turns (selector a) (host a) (view a) line said (view b) × (selector b ≡ selector a) × (host b ≡ host a)

  module _ (s : Selector) (h : HostNames) where
    abbrev pub Fits : S → T → Type 0
    Fits a x = (x ≡ view a) × (selector a ≡ s) × (host a ≡ h)

    step : Forward Steps (Turns s h) Fits
    step a b line said x (one, ss, hs) (is, sa, ha) = (
      view b,
      subst (λ (p : T × Selector × HostNames). Turns p.1 p.2 p.0 line said (view b)) (λ k. (sym is k, sa k, ha k)) one,
      (refl, ss ∙ sa, hs ∙ ha),
    )

  -- a session through stores is one by the rules of the first of them
  pub served_view : (max : ℕ) (ack : Bool) (stops : LineVerdict → Bool) (old new : Ends S) (end : SessionEnd) → Served max ack stops Steps old new end
      → Served max ack stops (Turns (selector old.store) (host old.store)) (ends_of old.left (view old.store) old.took) (ends_of new.left (view new.store) new.took) end
  served_view max ack stops old new end served =
      let s = selector old.store in
      let h = host old.store in
      let made = served_forward Steps (Turns s h) (Fits s h) max ack stops old new end (step s h) (view old.store) served (refl, refl, refl) in
      subst (λ (y : T). Served max ack stops (Turns s h) (ends_of old.left (view old.store) old.took) (ends_of new.left y new.took) end) made.2.0 made.1
