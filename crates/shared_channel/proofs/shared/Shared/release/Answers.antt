use Rattle.std.proofs.Common.{◌≡◌, ◌∙◌, ◌∷◌, [], ap, length, subst, sym}
use Rattle.channel_lock.specs.Views.{View, idle, saw}
use Rattle.shared_channel.specs.Calls.{Left}
use Rattle.shared_channel.specs.Passes.{view_of}
use Rattle.shared_channel.proofs.Turning.{left}
use Rattle.shared_channel.proofs.shared.Shared.release.Goals as goal

pub returns-clause-released : goal.returns-clause-released
returns-clause-released g c =
    let S = g.C.Channel.stands in
    let T = g.C.Channel.tells in
    let k = c.args.holder.seat.me.0 in
    let d = c.args.holder.home.channel in
    let w = c.leave.new.seat.me.0 in
    let is : c.into_badge.result.views ≡ w ∷ [] = c.into_badge.ensures.2 in
    let view : w ≡ view_of c.into_badge.result.views = sym (ap view_of is) in
    let idle_is : w ≡ idle k = ap (λ m. m.0) c.leave.ensures.turn in
    record {
      one = is ∙ ap (λ (v : View). v ∷ []) view;
      left = λ v es m. subst (λ (x : View). Left S T v es x d) view (left S T g.met.C.Channel.is_run g.met.C.Channel.tells_as_opened d v k w es c.requires.1.3 (c.leave.ensures.made v es m) idle_is);
      saw = λ v es m. subst (λ (x : View). x ≡ saw v x.seen) view (c.leave.ensures.made v es m).1;
      seen = sym (ap (λ (v : View). v.seen) view) ∙ ap (λ (v : View). v.seen) idle_is;
      calls = c.requires.3 ∙ ap (λ (v : View). length v.seen) (sym idle_is) ∙ ap (λ (v : View). length v.seen) view;
    }
