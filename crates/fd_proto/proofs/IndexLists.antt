-- The text indexes of a profile are those of its parts.
use Rattle.std.proofs.Common.{◌≡◌, ℕ, List, [], ◌∷◌, ◌++◌, refl, append_assoc}
use Rattle.std.specs.List.{flat_map}
use Rattle.fd_wire.specs.declared.field.Field.{Field}
use Rattle.fd_proto.specs.Messages.{wholes, parts, part}
use Rattle.fd_proto.specs.Shape.{text_indexes, location, profile, nothing}
use Rattle.fd_proto.specs.Indexes.{first_indexes, last_indexes}

-- a line has no texts
no_texts : (bytes : List ℕ) (lines : List (List Field)) → flat_map (text_indexes bytes nothing) lines ≡ []
no_texts bytes [] = refl
no_texts bytes (l ∷ lines) = no_texts bytes lines

-- a location has no texts
none_in : (bytes : List ℕ) (locations : List (List Field)) → flat_map (text_indexes bytes location) locations ≡ []
none_in bytes [] = refl
none_in bytes (l ∷ locations) = rw (no_texts bytes (parts bytes 4 l)) (none_in bytes locations)

pub indexes_joined : (bytes : List ℕ) (fs : List Field)
    → first_indexes bytes (parts bytes 1 fs) (parts bytes 2 fs) (parts bytes 3 fs) (parts bytes 5 fs) ++ last_indexes fs (part bytes 11 fs) (wholes bytes 13 fs)
    ≡ text_indexes bytes profile fs
unfolding profile
indexes_joined bytes fs = rw (none_in bytes (parts bytes 4 fs)) (simp append_assoc)
