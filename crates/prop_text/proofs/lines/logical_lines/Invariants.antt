use Rattle.std.proofs.Common.{◌≡◌, ◌+◌, ◌++◌, drop}
use Rattle.prop_text.specs.Lines.{reading}
use Rattle.prop_text.specs.Views.{texts, views}
use Rattle.prop_text.proofs.Opened.{with_open}
use Rattle.prop_text.proofs.lines.logical_lines.Given as goal

-- the lines so far, and what the rest comes to after the line that is open, are those of the whole
abbrev pub invariant-loop-line : goal.invariant-loop-line
invariant-loop-line l = record {
  counted : l.number ≡ l.line-index;
  lines : views l.logical.items ++ with_open l.open (reading (l.number + 1) (texts (drop l.line-index l.lines))) ≡ (reading 1 (texts l.lines)).begun;
}
