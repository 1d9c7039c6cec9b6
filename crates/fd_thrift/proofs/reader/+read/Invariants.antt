use Rattle.std.proofs.Common.{◌≡◌, ℕ, ◌+◌, ◌-◌, ◌*◌, ◌≤◌, length}
use Rattle.fd_thrift.specs.Reader.{list_at, struct_at, value_at, items_at, fields_within}
use Rattle.fd_thrift.proofs.Loops.{after_items, after_fields}
use Rattle.fd_thrift.proofs.reader.+read.Given as goal

abbrev pub decreases-value_of : goal.decreases-value_of
decreases-value_of l = 2 * l.levels

abbrev pub decreases-list_of : goal.decreases-list_of
decreases-list_of l = 2 * l.levels + 1

abbrev pub decreases-struct_of : goal.decreases-struct_of
decreases-struct_of l = 2 * l.levels + 1

abbrev pub invariant-list_of-loop : goal.invariant-list_of-loop
invariant-list_of-loop l = record {
  so_far : after_items l.trees.items (items_at (value_at l.levels l.kind) (l.size - l.counter) l.rest) ≡ list_at l.levels (value_at l.levels) l.bytes;
  shorter : length l.rest ≤ length l.bytes;
}

abbrev pub invariant-struct_of-loop-header : goal.invariant-struct_of-loop-header
invariant-struct_of-loop-header l =
    (most : ℕ) × (length l.rest ≤ most) × (after_fields l.fields.items (fields_within (value_at l.levels) most l.last l.rest) ≡ struct_at (value_at l.levels) l.bytes)
    × (length l.rest ≤ length l.bytes) × (l.last ≤ 32767)

abbrev pub decreases-struct_of-loop-header : goal.decreases-struct_of-loop-header
decreases-struct_of-loop-header l = length l.rest
