use Rattle.std.proofs.Common.{◌≡◌, ◌⊎◌, ◌++◌, ◌-◌, [], List, ℕ, length, drop, vec_len, arith, ap, refl, subst}
use Rattle.std.proofs.lemmas.Result.{err_from_is_err_and}
use Rattle.channel_log.specs.Reader.{AfterOpen, OpensNone}
use Rattle.channel_log.proofs.Loads.{bad_on, none_after, rest_of}
use Rattle.channel_log.proofs.loading.load_frame.Goals as goal

pub returns-in-None-clause-bad : goal.returns-in-None-clause-bad
returns-in-None-clause-bad g c = (
  refl,
  refl,
  λ bytes has size front.
      let l = c.loop-length in
      let none = subst (λ (read : List ℕ). AfterOpen read (λ rest. (more : List ℕ) → OpensNone (rest ++ more))) (rest_of c.deref.result.now l.read.items l.place c.deref.ensures.value) c.in-None.ensures in
      none_after (drop l.place l.read.items) c.args.gate bytes (l.invariant.front bytes has front) none,
)

pub returns-in_err-read_on-in-Unknown-clause-bad : goal.returns-in_err-read_on-in-Unknown-clause-bad
returns-in_err-read_on-in-Unknown-clause-bad g c =
    let l = c.loop-length in
    let p = err_from_is_err_and c.from_residual.result c.from_residual.ensures.1 in
    let cut = subst (λ (read : List ℕ). (read ≡ []) ⊎ AfterOpen read OpensNone) (rest_of c.deref.result.now l.read.items l.place c.deref.ensures.value) c.in-Unknown.ensures in
    let long : vec_len c.drop_front.new.read ≡ length (drop l.place l.read.items) = omega (arith, ap length c.drop_front.ensures, c.drop_front.new.read.ok) in
    rw (p.1, p.2) (bad_on _ _ c.args.file c.args.gate c.args.size (c.args.size - c.args.gate) c.args.place.now l.place (vec_len c.drop_front.new.read) _ c.args.read.now.items l.read.items l.invariant.same (omega (arith, c.requires.within)) (omega (arith, c.requires.within)) long l.invariant.front cut c.in_err-read_on-in-Unknown.ensures.bad)
