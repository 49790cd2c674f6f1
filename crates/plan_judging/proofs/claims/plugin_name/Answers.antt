use Rattle.std.proofs.Common.{◌≡◌, ◌<◌, ◌++◌, List, ℕ, length, get_or, drop, codes, ap, arith, refl, length-append}
use Rattle.std.proofs.lemmas.Str.{IsCharBoundary-after_ascii}
use Rattle.std.proofs.lemmas.Slice.Eq.{starts_is}
use Rattle.std.proofs.lemmas.Bool.Decides.{Decides-eqb}
use Rattle.plan_judging.proofs.claims.plugin_name.Goals as goal

-- the text is `plugin.` and a name, and the dot is ASCII
pub range_from-requires : goal.range_from-requires
range_from-requires c = λ some.
    let kind = c.args.kind.now in
    let parts : kind ≡ codes "plugin." ++ drop 7 kind = (starts_is Decides-eqb kind (codes "plugin.") _ refl).0 c.requires in
    let dot : get_or kind 6 0 ≡ 46 = ap (λ (l : List ℕ). get_or l 6 0) parts in
    let long : 6 < length kind = omega (arith, ap length parts, length-append (codes "plugin.") (drop 7 kind)) in
    IsCharBoundary-after_ascii kind 6 c.utf8.kind long (omega arith)
