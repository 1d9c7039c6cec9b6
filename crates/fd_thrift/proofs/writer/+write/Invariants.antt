use Rattle.std.proofs.Common.{◌≡◌, ◌++◌, ◌≤ℤ◌, pos, drop}
use Rattle.fd_thrift.specs.Format.{items_spelling, fields_spelling, id_of, AreFormedItems, AreFormedFields, FitItems, FitFields}
use Rattle.fd_thrift.specs.View.{items_view, fields_view}
use Rattle.fd_thrift.proofs.writer.+write.Given as goal

-- what is written, and the spelling of what is left
abbrev pub invariant-write_items-loop-tree : goal.invariant-write_items-loop-tree
invariant-write_items-loop-tree l =
    let left = items_view (drop l.tree-index l.tree-items) in
    record {
      written : (l.out) ++ items_spelling left ≡ (l.fn.out) ++ items_spelling (items_view l.tree-items);
      formed : AreFormedItems left;
      fits : FitItems left → FitItems (items_view l.tree-items);
    }

abbrev pub invariant-write_fields-loop-field : goal.invariant-write_fields-loop-field
invariant-write_fields-loop-field l =
    let left = fields_view (drop l.field-index l.field-items) in
    record {
      natural : pos 0 ≤ℤ l.last;
      written : (l.out) ++ fields_spelling (id_of l.last) left ≡ (l.fn.out) ++ fields_spelling 0 (fields_view l.field-items);
      formed : AreFormedFields (id_of l.last) left;
      fits : FitFields left → FitFields (fields_view l.field-items);
    }
