use Rattle.std.proofs.Common.{rules, ◌≡◌, ◌∙◌, ◌<◌, ◌≤◌, ◌+◌, ◌∷◌, ℕ, List, [], Some, length, set, slice_get, refl, sym, ap, subst, arith}
use Rattle.std.proofs.lemmas.List.{length-append}
use Rattle.std.proofs.lemmas.Option.{slice_get_read}
use Rattle.agent_sinks.specs.declared.sink.AgentSink.{AgentSink}
use Rattle.grouped_sinks.specs.Picks.{ArePicked, KeepsOthers}
use Rattle.grouped_sinks.specs.Rows.{AreBelow}
use Rattle.plan_laws.specs.Once.{AreDistinct}
use Rattle.grouped_sinks.proofs.Picking.{all_back, all_front, distinct_apart, distinct_front, keeps_set, keeps_then, zips_length, zips_push}
use Rattle.grouped_sinks.proofs.grouping.+take_sinks.Goals as goal

pub take_sinks-requires : goal.take_sinks-requires
take_sinks-requires g t c κs within =
    let e = c.in-Some.ensures.cases.0 in
    let front = c.in-Some.front.now in
    let place = c.in-Some.place.now in
    let long : length c.args.places.now ≡ length front + 1 = ap length e ∙ length-append front (place ∷ []) in
    let r = c.requires.room in
    let d = c.decreases in (
      omega arith,
      (
        within.0,
        (
          within.1.0,
          (
            within.1.1,
            (
              distinct_front front (place ∷ []) (subst AreDistinct e c.requires.once),
              (all_front (λ p. p < length c.args.sinks.now) front (place ∷ []) (subst (AreBelow (length c.args.sinks.now)) e c.requires.within), (c.requires.none, omega arith)),
            ),
          ),
        ),
      ),
    )

pub unreachable-requires : goal.unreachable-requires
unreachable-requires g t c =
    let e = c.in-Some.ensures.cases.0 in
    let front = c.in-Some.front.now in
    let place = c.in-Some.place.now in
    let below : place < length c.args.sinks.now = (all_back (λ p. p < length c.args.sinks.now) front (place ∷ []) (subst (AreBelow (length c.args.sinks.now)) e c.requires.within)).0 in
    let m = c.take_sinks.ensures.others.many in
    let past : length c.take_sinks.new.sinks ≤ place = c.if-place-sinks.true in
    omega (arith, below, m, past)

pub push_reserved-requires : goal.push_reserved-requires
push_reserved-requires g t c =
    let S = AgentSink g.row.R.Denot g.row.A.Denot g.row.B.Denot in
    let e = c.in-Some.ensures.cases.0 in
    let front = c.in-Some.front.now in
    let place = c.in-Some.place.now in
    let many : length front ≡ length c.take_sinks.new.members.items = zips_length (λ (p : ℕ) (s : S). slice_get c.args.sinks.now p ≡ Some s) front c.take_sinks.new.members.items c.take_sinks.ensures.picked in
    let long : length c.args.places.now ≡ length front + 1 = ap length e ∙ length-append front (place ∷ []) in
    let room = c.requires.room in
    let kept = c.take_sinks.ensures.room in
    first_of (omega arith, search (rules, arith))

pub returns-clause-picked : goal.returns-clause-picked
returns-clause-picked g t c =
    let S = AgentSink g.row.R.Denot g.row.A.Denot g.row.B.Denot in
    let e = c.in-Some.ensures.cases.0 in
    let front = c.in-Some.front.now in
    let place = c.in-Some.place.now in
    let old = c.args.sinks.now in
    let mid = c.take_sinks.new.sinks in
    let taken = c.replace-taken.result in
    let below : place < length old = (all_back (λ p. p < length old) front (place ∷ []) (subst (AreBelow (length old)) e c.requires.within)).0 in
    let low : place < length mid = let m = c.take_sinks.ensures.others.many in omega (arith, below, m) in
    let apart = (distinct_apart front (place ∷ []) (subst AreDistinct e c.requires.once)).0 in
    let here : slice_get old place ≡ Some taken =
    sym (c.take_sinks.ensures.others.others place apart) ∙ slice_get_read mid (length mid) place c.index-sinks-place.result refl low c.index-sinks-place.is
    ∙ ap (λ (s : S). Some s) (c.index-sinks-place.is ∙ sym c.replace-taken.ensures.value) in
    subst (λ (x : List ℕ × List S). ArePicked old x.0 x.1) (λ i. (sym e i, sym c.push_reserved.ensures.items i))
    (zips_push (λ (p : ℕ) (s : S). slice_get old p ≡ Some s) front c.take_sinks.new.members.items place taken c.take_sinks.ensures.picked here)

pub returns-clause-others : goal.returns-clause-others
returns-clause-others g t c =
    let e = c.in-Some.ensures.cases.0 in
    let front = c.in-Some.front.now in
    let place = c.in-Some.place.now in
    let mid = c.take_sinks.new.sinks in
    let new = set mid place c.replace-taken.new.dest in
    subst (λ (l : List ℕ). KeepsOthers l c.args.sinks.now new) (sym e)
    (keeps_then front (place ∷ []) c.args.sinks.now mid new c.take_sinks.ensures.others (keeps_set mid place c.replace-taken.new.dest))
