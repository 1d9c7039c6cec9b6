-- Entries are three.
use Rattle.std.proofs.Common.{◌≡◌, ◌≢◌, List, [], ◌∷◌, length, map, Option, None, refl}
use Rattle.fd_thrift.specs.declared.tree.Tree.{Tree}
use Rattle.fd_thrift.specs.View.{view}
use Rattle.fd_footer.specs.declared.key_values.KeyValueMetadata.{KeyValueMetadata}
use Rattle.fd_footer.specs.Contents.{entries_of}

pub not_three : (trees : List Tree) → length trees ≢ 3 → ◌≡◌ {A = Option KeyValueMetadata} None (entries_of (map view trees))
not_three [] other = refl
not_three (a ∷ []) other = refl
not_three (a ∷ b ∷ []) other = refl
not_three (a ∷ b ∷ c ∷ []) other = absurd (other refl)
not_three (a ∷ b ∷ c ∷ d ∷ more) other = refl
