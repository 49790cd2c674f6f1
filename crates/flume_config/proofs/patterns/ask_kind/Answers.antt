use Rattle.std.proofs.Common.{◌≡◌, false, codes, sym, ◌∙◌}
use Rattle.plan_judging.specs.Rows.{is_type}
use Rattle.flume_config.proofs.Asking.{ask_none}
use Rattle.flume_config.proofs.patterns.ask_kind.Goals as goal

pub returns : goal.returns
returns c =
    let filter : is_type (codes "regex_filter") c.args.kind.now ≡ false = sym c.is_type.ensures ∙ c.if-is_type.false in
    let extractor : is_type (codes "regex_extractor") c.args.kind.now ≡ false = sym c.is_type-2.ensures ∙ c.if-is_type-2.false in
    let replace : is_type (codes "search_replace") c.args.kind.now ≡ false = sym c.is_type-3.ensures ∙ c.if-is_type-3.false in
    rw (filter, extractor, replace) (ask_none _)
