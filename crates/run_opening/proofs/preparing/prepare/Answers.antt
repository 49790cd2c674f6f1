use Rattle.std.proofs.Common.{◌≡◌, ◌∙◌, ℕ, List, All, length, map, sym, ap, subst}
use Rattle.std.specs.List.{AllZip}
use Rattle.std.proofs.lemmas.Result.{err_from_is_err_and}
use Rattle.agent_plan.specs.declared.plan.ChannelPlan.{ChannelPlan}
use Rattle.agent_plan.specs.declared.plan.SourcePlan.{SourcePlan}
use Rattle.source_put.specs.declared.chain.HostNames.{HostNames}
use Rattle.agent_outside.specs.Ends.{ListensAt, listeners_of, places}
use Rattle.agent_outside.specs.Names.{AreTold}
use Rattle.agent_drafts.specs.Drafts.{AreDrafts, IsDraftAt, TakesLines, inputs_of}
use Rattle.agent_drafts.specs.declared.draft.SourceDraft.{SourceDraft}
use Rattle.run_opening.specs.Keepers.{closes, keeps_of}
use Rattle.run_opening.specs.Labels.{AreLabels, users_of}
use Rattle.run_opening.specs.Prepared.{IsSeat, uses_of}
use Rattle.run_opening.specs.Staff.{IsRoomy}
use Rattle.run_opening.specs.Wishes.{AreWishes}
use Rattle.run_opening.specs.declared.seats.KeepSeat.{KeepSeat}
use Rattle.run_opening.specs.declared.seats.Seat.{Seat}
use Rattle.run_opening.proofs.Unready.{unprepared}
use Rattle.run_opening.proofs.Seating.{are_lined, are_seats, draft_sources}
use Rattle.run_opening.proofs.preparing.prepare.Goals as goal

pub returns-clause-prepared : goal.returns-clause-prepared
returns-clause-prepared g c =
    let D = SourceDraft g.row.K.Denot in
    let S = Seat g.row.K.Denot g.row.H-Clock.Denot in
    let T = KeepSeat g.row.H-Clock.Denot in
    let plan = c.args.plan.now in
    let planned = c.requires.planned in
    let sources = plan.sources.items in
    let given = c.args.steps.items in
    let count = length plan.channels.items in
    let listeners = c.in_ok-listeners.listeners.items in
    let lines = c.in_ok-lines.lines.items in
    let found = c.in_ok-places.places.items in
    let fits : (names : List HostNames) (seat : S) → IsDraftAt sources given names seat.draft → IsRoomy seat → IsSeat count seat =
    λ names seat is room. (c.drafts_can_serve.ensures planned.0 planned.1 plan planned.2 given names seat.draft is, room) in
    let rows = c.args.rows.now in
    let keepers = c.in_ok-keepers.keepers.items in
    let used : c.as_slice-9.result.now ≡ uses_of keepers rows listeners lines =
    c.as_slice-9.ensures.value ∙ c.in_ok-uses.ensures ∙ (λ i. uses_of (c.as_slice-5.ensures.value i) rows (c.as_slice-6.ensures.value i) (c.as_slice-7.ensures.value i)) in
    let at : found ≡ places 0 sources = c.in_ok-places.ensures.order ∙ ap (places 0) c.as_slice-10.ensures.value in
    record {
      wishes = subst (λ (x : List ℕ × List ChannelPlan). AreWishes x.0 x.1 c.in_ok-wishes.wishes.items) (λ i. (used i, c.as_slice-8.ensures.value i)) c.in_ok-wishes.ensures;
      keepers = c.in_ok-keepers.ensures.seats ∙ ap keeps_of c.as_slice-3.ensures.value;
      closes = c.in_ok-closes.ensures ∙ ap (map (λ (channel : ChannelPlan). closes channel.kind)) c.as_slice-4.ensures.value;
      listeners = are_seats count (λ (draft : D). IsDraftAt sources given c.as_slice-2.result.now draft) (fits c.as_slice-2.result.now) c.in_ok-drafts.drafts.listeners.items listeners
          c.in_ok-listeners.ensures.drafts c.in_ok-drafts.ensures.listeners.each c.in_ok-listeners.ensures.room;
      lines = are_seats count (λ (draft : D). IsDraftAt sources given c.as_slice-2.result.now draft) (fits c.as_slice-2.result.now) c.in_ok-drafts.drafts.lines.items lines
          c.in_ok-lines.ensures.drafts c.in_ok-drafts.ensures.lines.each c.in_ok-lines.ensures.room;
      lined = are_lined (λ (draft : D). TakesLines draft.rules) c.in_ok-drafts.drafts.lines.items lines c.in_ok-lines.ensures.drafts c.in_ok-drafts.ensures.lined;
      places = at;
      sources = draft_sources listeners ∙ ap (map (λ (draft : D). draft.source)) c.in_ok-listeners.ensures.drafts ∙ c.in_ok-drafts.ensures.listeners.order ∙ sym at;
      listen = subst (λ (l : List SourcePlan). All (ListensAt l) found) c.as_slice-10.ensures.value c.in_ok-places.ensures.listen;
      clocks = c.in_ok-clocks.ensures.many;
      labels = subst (λ (x : List T × List S × List S). AreLabels (users_of plan x.0 rows x.1 x.2) 0 plan.channels.items c.in_ok-labels.labels.items)
          (λ i. (c.as_slice-11.ensures.value i, c.as_slice-12.ensures.value i, c.as_slice-13.ensures.value i)) c.in_ok-labels.ensures;
    }

pub returns-clause-drafted : goal.returns-clause-drafted
returns-clause-drafted g c =
    let D = SourceDraft g.row.K.Denot in
    let sources = c.args.plan.now.sources.items in
    let given = c.args.steps.items in
    let host = g.H.Host.state c.args.host.now in
    let names = c.in-Ok.names.items in
    record {
      names = names;
      told = subst (λ (l : List SourcePlan). AllZip (AreTold host.name host.address) l names) c.as_slice.ensures.value c.in-Ok.ensures.told;
      listeners = subst (λ (x : List HostNames × List D). AreDrafts listeners_of sources given x.0 x.1) (λ i. (c.as_slice-2.ensures.value i, sym c.in_ok-listeners.ensures.drafts i)) c.in_ok-drafts.ensures.listeners;
      lines = subst (λ (x : List HostNames × List D). AreDrafts inputs_of sources given x.0 x.1) (λ i. (c.as_slice-2.ensures.value i, sym c.in_ok-lines.ensures.drafts i)) c.in_ok-drafts.ensures.lines;
    }

pub returns-in_err-clocks-clause-refused : goal.returns-in_err-clocks-clause-refused
returns-in_err-clocks-clause-refused g c =
    let old = g.H.Host.state c.args.host.now in
    let told = c.in-Ok.ensures.state in
    let named : g.H.Host.state c.names_of.new.host ≡ old = told.1 ∙ ap (λ (n : ℕ). record old { faults = n }) told.2 in
    let seated = c.keep_seats_of.ensures.state ∙ c.seats_of-2.ensures.state ∙ c.seats_of.ensures.state in
    let same : g.H.Host.state c.clocks_of.new.host ≡ old = c.clocks_of.ensures.state ∙ seated ∙ named in
    let p = err_from_is_err_and c.from_residual-in_err-clocks.result c.from_residual-in_err-clocks.ensures.1 in
    rw (p.1) (unprepared old (g.H.Host.state c.clocks_of.new.host) same p.0 p.2)
