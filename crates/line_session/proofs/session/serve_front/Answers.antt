use Rattle.std.proofs.Common.{◌≡◌, ◌∙◌, ◌+◌, ◌++◌, [], ◌∷◌, length, take, drop, ap, sym, arith, List, ℕ, take-append-drop}
use Rattle.std.proofs.lemmas.List.{take_all}
use Rattle.netcat_source.specs.Feed.{begun}
use Rattle.netcat_source.specs.Lines.{IsLine}
use Rattle.netcat_source.specs.declared.lines.Cut.{Cut}
use Rattle.netcat_source.specs.declared.lines.Cut.TheVariants.{More, Line}
use Rattle.netcat_source.specs.Parts.{held_by}
use Rattle.line_session.proofs.Fronts.{more_goes, line_goes, line_breaks, long_breaks}
use Rattle.line_session.proofs.session.serve_front.Goals as goal

pub returns-in-Ok-clause-goes : goal.returns-in-Ok-clause-goes
returns-in-Ok-clause-goes g c =
    let s = c.in-Some.ensures in
    rw s.none (line_goes _ _ _ _ _ _ [] (take (length c.in-Some.line.now + 1) c.args.rest.now) c.in-Some.line.now s.front s.is c.in-Ok.ensures.goes)

pub returns-in-Err-clause-breaks : goal.returns-in-Err-clause-breaks
returns-in-Err-clause-breaks g c =
    let s = c.in-Some.ensures in
    let rest = c.args.rest.now in
    let n : ℕ = length c.in-Some.line.now + 1 in
    rw s.none (line_breaks _ _ _ _ _ _ [] (take n rest) c.in-Some.line.now s.front s.is (drop n rest) rest (take-append-drop n rest) c.in-Err.end c.in-Err.ensures.ends)

pub returns-in-More-clause-goes : goal.returns-in-More-clause-goes
returns-in-More-clause-goes g c =
    let n = c.feed-n.result.0 in
    let rest = c.args.rest.now in
    let new = c.feed-n.new.self in
    let at : new.at ≡ More = c.feed-n.ensures.at ∙ c.in-More.is in
    let takes = rw c.in-More.is at c.feed-n.ensures.takes in
    let whole : take n rest ≡ rest = take_all n rest (omega (arith, takes.0)) in
    let left : held_by new ≡ new.line = ap (λ (a : Cut). begun a new.line) at in
    more_goes _ _ _ _ _ (held_by c.args.lines.now) (take n rest) (held_by new) (ap (λ (l : List ℕ). held_by c.args.lines.now ++ l) whole ∙ takes.1 ∙ sym left)

pub returns-in-Ok-serve_line-clause-goes : goal.returns-in-Ok-serve_line-clause-goes
returns-in-Ok-serve_line-clause-goes g c =
    let n = c.feed-n.result.0 in
    let at : c.feed-n.new.self.at ≡ Line = c.feed-n.ensures.at ∙ c.in-Line.is in
    let takes = rw c.in-Line.is at c.feed-n.ensures.takes in
    let holds = rw c.in-Line.is at c.feed-n.ensures.holds in
    let line = c.line.result.now in
    let is : IsLine c.args.lines.now.max line = rw c.line.ensures holds in
    let cut : held_by c.args.lines.now ++ take n c.args.rest.now ≡ line ++ 10 ∷ [] = rw c.line.ensures takes.2 in
    let done = line_goes _ _ _ _ _ _ (held_by c.args.lines.now) (take n c.args.rest.now) line cut is c.in-Ok-serve_line.ensures.goes in
    rw at done

pub returns-in-Err-serve_line-clause-breaks : goal.returns-in-Err-serve_line-clause-breaks
returns-in-Err-serve_line-clause-breaks g c =
    let n = c.feed-n.result.0 in
    let rest = c.args.rest.now in
    let takes = rw c.in-Line.is at c.feed-n.ensures.takes in
    let holds = rw c.in-Line.is at c.feed-n.ensures.holds in
    let line = c.line.result.now in
    let is : IsLine c.args.lines.now.max line = rw c.line.ensures holds in
    let cut : held_by c.args.lines.now ++ take n rest ≡ line ++ 10 ∷ [] = rw c.line.ensures takes.2 in
    line_breaks _ _ _ _ _ _ (held_by c.args.lines.now) (take n rest) line cut is (drop n rest) rest (take-append-drop n rest) c.in-Err-serve_line.end c.in-Err-serve_line.ensures.ends

pub returns-in-TooLong-clause-breaks : goal.returns-in-TooLong-clause-breaks
returns-in-TooLong-clause-breaks g c =
    let takes = rw c.in-TooLong.is at c.feed-n.ensures.takes in
    let holds = rw c.in-TooLong.is at c.feed-n.ensures.holds in
    long_breaks _ _ _ _ _ _ _ (held_by c.args.lines.now) c.args.rest.now c.feed-n.new.self.line c.feed-n.result.0 takes.1 holds.0 holds.1 c.refuse_long.result c.refuse_long.ensures.ends
