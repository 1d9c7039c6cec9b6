-- The text indexes of a profile, in two parts.
use Rattle.std.specs.Prelude.{ℕ, List, [], ◌∷◌, ◌++◌}
use Rattle.std.specs.List.{flat_map}
use Rattle.fd_wire.specs.declared.field.Field.{Field}
use Rattle.fd_proto.specs.Messages.{whole}
use Rattle.fd_proto.specs.Shape.{text_indexes, value_type, sample, mapping, function}

abbrev pub first_indexes : List ℕ → List (List Field) → List (List Field) → List (List Field) → List (List Field) → List ℕ
first_indexes bytes types samples mappings functions =
    flat_map (text_indexes bytes value_type) types
    ++ flat_map (text_indexes bytes sample) samples
    ++ flat_map (text_indexes bytes mapping) mappings
    ++ flat_map (text_indexes bytes function) functions

abbrev pub last_indexes : List Field → List Field → List ℕ → List ℕ
last_indexes fs period comments =
    (whole 7 fs ∷ whole 8 fs ∷ []) ++ (whole 1 period ∷ whole 2 period ∷ []) ++ comments ++ (whole 14 fs ∷ [])
