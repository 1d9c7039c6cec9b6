use Rattle.std.proofs.Common.{◌+◌, List, length}
use Rattle.std.specs.Prelude.{All}
use Rattle.fd_kinds.specs.declared.row.Numbered.{Numbered}
use Rattle.fd_column.specs.RowNumbers.{IsNumber}
use Rattle.fd_merge.specs.Merges.{Merges}
use Rattle.fd_merge.proofs.merger.merged.Given as goal

abbrev pub decreases-loop-side : goal.decreases-loop-side
decreases-loop-side l = length l.state.left + length l.state.right

abbrev pub invariant-loop-side : goal.invariant-loop-side
invariant-loop-side l = record {
  keeps : (all : List Numbered) → Merges all l.initial.state.done l.initial.state.left l.initial.state.right → Merges all l.state.done l.state.left l.state.right;
  left_numbers : All IsNumber l.state.left;
  right_numbers : All IsNumber l.state.right;
}
