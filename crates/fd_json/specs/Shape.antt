-- The shape of a write body: what a JSON value of that shape holds, and none for any other.
use Rattle.std.specs.Prelude.{ℕ, List, [], not, ◌&&◌, Option, Some, None, option_map, option_and_then, is_some, codes, if◌then◌else◌}
use Rattle.std.specs.Option.{option_or}
use Rattle.base64.specs.Engines.{standard}
use Rattle.base64.specs.GeneralPurpose.{decoded_of}
use Rattle.serde_json.specs.Data.{Data, null}
use Rattle.serde_json.specs.Find.{get}
use Rattle.fd_kinds.specs.declared.pair.Pair.{Pair}
use Rattle.fd_json.specs.Json.{is_object, text_or_empty, items_or_empty, each}
use Rattle.fd_json.specs.declared.shape.SentSeries.{SentSeries}

abbrev pub pair_of : Data → Option Pair
pair_of d =
    if is_object d then
    option_and_then (λ name. option_map (λ value. record { name = name; value = value }) (text_or_empty (get (codes "value") d)))
    (text_or_empty (get (codes "name") d))
    else None

-- the list `labels` of an object, which may be missing or null itself
abbrev pub labels_of : Option Data → Option (List Pair)
labels_of None = Some []
labels_of (Some null) = Some []
labels_of (Some d) = if is_object d then option_and_then (each pair_of) (items_or_empty (get (codes "labels") d)) else None

-- the text of a sample, under one of its two names
abbrev pub profile_text : Data → Option (List ℕ)
profile_text d =
    if is_object d && not (is_some (get (codes "rawProfile") d) && is_some (get (codes "raw_profile") d)) then
    text_or_empty (option_or (get (codes "rawProfile") d) (get (codes "raw_profile") d))
    else None

-- the bytes of a sample, which has none where its text is no base64
abbrev pub sample_of : Data → Option (Option (List ℕ))
sample_of d = option_map (decoded_of standard) (profile_text d)

abbrev pub samples_of : Data → Option (List (Option (List ℕ)))
samples_of d = option_and_then (each sample_of) (items_or_empty (get (codes "samples") d))

abbrev pub series_of : Data → Option SentSeries
series_of d =
    if is_object d then
    option_and_then (λ labels. option_map (λ profiles. record { labels = labels; profiles = profiles }) (samples_of d))
    (labels_of (get (codes "labels") d))
    else None

abbrev pub shape_of : Data → Option (List SentSeries)
shape_of d = if is_object d then option_and_then (each series_of) (items_or_empty (get (codes "series") d)) else None
