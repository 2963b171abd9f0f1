use Rattle.std.proofs.Common.{◌≡◌, ◌++◌, map, take, drop}
use Rattle.lines.specs.Lines.{struck}
use Rattle.lines.proofs.strike.strike_lines.Given as goal

abbrev pub invariant-loop-line : goal.invariant-loop-line
invariant-loop-line l = l.line-items ≡ map (struck l.which) (take l.line-index l.initial.line-items) ++ drop l.line-index l.initial.line-items
