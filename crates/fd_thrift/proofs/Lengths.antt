-- The size of a list is the number of its trees.
use Rattle.std.proofs.Common.{◌≡◌, suc, List, [], ◌∷◌, length, refl, ap}
use Rattle.fd_thrift.specs.declared.tree.Tree.{Tree}
use Rattle.fd_thrift.specs.Format.{items_len}
use Rattle.fd_thrift.specs.View.{items_view}

pub len_of_items : (ts : List Tree) → items_len (items_view ts) ≡ length ts
len_of_items [] = refl
len_of_items (t ∷ ts) = ap suc (len_of_items ts)
