-- What a tree stands for.
use Rattle.std.specs.Prelude.{ℤ, List, [], ◌∷◌, map}
use Rattle.fd_thrift.specs.Values.{Value, whole32, whole64, binary, list, struct, Items, no_items, item, Fields, no_fields, field}
use Rattle.fd_thrift.specs.declared.tree.Tree.{Tree, fold-Tree}
use Rattle.fd_thrift.specs.declared.tree.TreeField.{TreeField, fold-TreeField}
use Rattle.fd_thrift.specs.declared.tree.Tree.TheOpen.{Tree-F, TreeField-F}

abbrev pub items_of : List Value → Items
items_of [] = no_items
items_of (v ∷ vs) = item v (items_of vs)

abbrev pub fields_of : List (ℤ × Value) → Fields
fields_of [] = no_fields
fields_of (f ∷ fs) = field f.0 f.1 (fields_of fs)

-- one level, with what stands inside already seen
abbrev pub view_step : Tree-F Value (ℤ × Value) → Value
view_step (Tree-F.Whole32 n) = whole32 n
view_step (Tree-F.Whole64 n) = whole64 n
view_step (Tree-F.Binary b) = binary b
view_step (Tree-F.List trees) = list (items_of trees.items)
view_step (Tree-F.Struct fields) = struct (fields_of fields.items)

abbrev pub field_step : TreeField-F Value (ℤ × Value) → ℤ × Value
field_step f = (f.id, f.tree)

abbrev pub view : Tree → Value
view = fold-Tree Value (ℤ × Value) view_step field_step

abbrev pub field_view : TreeField → ℤ × Value
field_view = fold-TreeField Value (ℤ × Value) view_step field_step

abbrev pub items_view : List Tree → Items
items_view trees = items_of (map view trees)

abbrev pub fields_view : List TreeField → Fields
fields_view fields = fields_of (map field_view fields)
