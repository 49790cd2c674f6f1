use Rattle.std.proofs.Common.{ap, ◌∙◌, rules, length, nat_lt, string_bytes}
use Rattle.indexmap.proofs.CallerLemmas.{filter-RetainsPairs}
use Rattle.prop_text.specs.Table.{pairs_in}
use Rattle.prop_text.proofs.TableSteps.{filter_pairs}
use Rattle.prop_text.proofs.table.keep_values.Goals as goal

pub returns : goal.returns
returns c =
    ap pairs_in (filter-RetainsPairs _ (λ e. nat_lt 0 (length (string_bytes e.1.value))) _ (λ k v b w g call. search rules) _ _ c.retain.ensures.filtered)
    ∙ filter_pairs c.args.table.now.entries
