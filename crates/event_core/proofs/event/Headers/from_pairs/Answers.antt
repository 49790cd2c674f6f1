use Rattle.std.proofs.Common.{◌≡◌, ◌<◌, ◌++◌, ◌∷◌, [], take, length, arith, sym, ap, ◌∙◌, subst}
use Rattle.std.specs.Option.{is_some}
use Rattle.std.specs.String.{string_bytes}
use Rattle.event_core.specs.Content.{IsFirstRepeat, value_of, with_header}
use Rattle.event_core.specs.Texts.{pairs_bytes}
use Rattle.event_core.proofs.PairLemmas.{HoldsPairs, HoldsPairs-nil, HoldsPairs-push, pairs_bytes-more, first_repeat, is_some-copied}
use Rattle.event_core.proofs.event.Headers.from_pairs.Goals as goal

pub loop-pair-init : goal.loop-pair-init
loop-pair-init c = subst (HoldsPairs []) (sym c.new-headers.ensures) HoldsPairs-nil

pub loop-pair-preserved : goal.loop-pair-preserved
loop-pair-preserved c =
    let i = c.loop-pair.pair-index in
    let ps = c.args.pairs.now in
    let hs = c.loop-pair.headers in
    let p = c.pair-item.result in
    let k = string_bytes p.0 in
    let v = string_bytes p.1 in
    let key : c.as_str-key.result.now ≡ k = c.as_str-key.ensures.value in
    let value : c.as_str.result.now ≡ v = c.as_str.ensures.value in
    let told : c.is_some.result ≡ is_some (value_of hs k) = c.is_some.ensures ∙ sym (is_some-copied c.get.result) ∙ ap is_some c.get.ensures ∙ ap (λ q. is_some (value_of hs q)) key in
    let put : with_header hs k v ≡ c.set.new.self = sym (c.in_ok-set.ensures.ok ∙ ap (λ q. with_header hs q c.as_str.result.now) key ∙ ap (λ x. with_header hs k x) value) in
    let within : i < length ps = omega arith in
    subst (λ qs. HoldsPairs qs c.set.new.self) (sym (pairs_bytes-more ps i p within c.pair-item.is))
    (subst (HoldsPairs (pairs_bytes (take i ps) ++ (k, v) ∷ [])) put
    (HoldsPairs-push (pairs_bytes (take i ps)) hs k v c.loop-pair.invariant (sym told ∙ c.if-is_some.false)))

pub returns-then-is_some-clause-err : goal.returns-then-is_some-clause-err
returns-then-is_some-clause-err c =
    let i = c.loop-pair.pair-index in
    let ps = c.args.pairs.now in
    let hs = c.loop-pair.headers in
    let p = c.pair-item.result in
    let k = string_bytes p.0 in
    let key : c.as_str-key.result.now ≡ k = c.as_str-key.ensures.value in
    let told : c.is_some.result ≡ is_some (value_of hs k) = c.is_some.ensures ∙ sym (is_some-copied c.get.result) ∙ ap is_some c.get.ensures ∙ ap (λ q. is_some (value_of hs q)) key in
    let within : i < length ps = omega arith in
    subst (IsFirstRepeat (pairs_bytes ps)) (sym (c.in_ok-key.ensures.ok ∙ key)) (first_repeat ps hs i p c.loop-pair.invariant within c.pair-item.is (sym told ∙ c.if-is_some.true))
