use Rattle.std.proofs.Common.{◌≡◌, ◌∙◌, ◌+◌, ℕ, List, [], ap, sym, drop, arith, string_bytes}
use Rattle.std.proofs.Math.ListN.{drop_of_length-le}
use Rattle.std.proofs.lemmas.List.{drop_more}
use Rattle.std.specs.declared.string.String.{String}
use Rattle.std.specs.declared.alloc.Global.{Global}
use Rattle.event_core.specs.Content.{Header, content, without_header}
use Rattle.interceptors.specs.Steps.{without_all}
use Rattle.interceptors.proofs.step.remove.Goals as goal

pub loop-name-preserved : goal.loop-name-preserved
loop-name-preserved c =
    let names = c.args.names.now in
    let i = c.loop-name.name-index in
    let gone = c.remove.ensures.removed ∙ ap (λ (k : List ℕ). without_header c.loop-name.headers k) (c.as_str.ensures.value) in
    let split = drop_more names i c.name-item.result (omega arith) in
    ap (λ (h : List Header). without_all (drop (i + 1) names) h) gone
    ∙ ap (λ (n : String Global). without_all (drop (i + 1) names) (without_header c.loop-name.headers (string_bytes n))) c.name-item.is ∙ ap (λ (l : List (String Global)). without_all l c.loop-name.headers) (sym split) ∙ c.loop-name.invariant

whole : (c : goal.After-new) → content c.loop-name.headers c.into_parts-headers.result.1.items ≡ content (without_all c.args.names.now c.args.event.headers) c.args.event.body
whole c =
    let none : drop c.loop-name.name-index c.args.names.now ≡ [] = drop_of_length-le c.args.names.now c.loop-name-test.false in
    let headers = ap (λ (l : List (String Global)). without_all l c.loop-name.headers) (sym none) ∙ c.loop-name.invariant ∙ ap (λ (h : List Header). without_all c.args.names.now h) c.into_parts-headers.ensures.headers in
    ap (λ (h : List Header). content h c.into_parts-headers.result.1.items) headers ∙ ap (λ (b : List ℕ). content (without_all c.args.names.now c.args.event.headers) b) c.into_parts-headers.ensures.body

pub returns-clause-ok : goal.returns-clause-ok
returns-clause-ok c = let same = whole c in rw same at c.new.ensures.ok

pub returns-clause-fits : goal.returns-clause-fits
returns-clause-fits c = let same = whole c in rw same at c.new.ensures.fits

pub returns-clause-err : goal.returns-clause-err
returns-clause-err c = let same = whole c in rw same at c.new.ensures.err
