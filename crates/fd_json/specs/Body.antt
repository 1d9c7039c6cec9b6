-- What a write body means, and why it means nothing.
use Rattle.std.specs.Prelude.{ℕ, ◌+◌, List, [], ◌∷◌, Option, Some, None, Result, Ok, Err}
use Rattle.serde_json.specs.Data.{Data}
use Rattle.fd_kinds.specs.declared.body.RawSeries.{RawSeries}
use Rattle.fd_kinds.specs.declared.body.RawBody.{RawBody}
use Rattle.fd_json.specs.Json.{json_of}
use Rattle.fd_json.specs.Shape.{shape_of}
use Rattle.fd_json.specs.declared.shape.SentSeries.{SentSeries}
use Rattle.fd_json.specs.declared.fault.BodyFault.{BodyFault}
use Rattle.fd_json.specs.declared.fault.BodyFault.TheVariants.{NotJson, BadShape, BadBase64}

-- the value under f, or the fault
abbrev pub onto : {A B : Type 0} → (A → B) → Result A BodyFault → Result B BodyFault
onto f (Ok a) = Ok (f a)
onto f (Err e) = Err e

abbrev pub and_then : {A B : Type 0} → (A → Result B BodyFault) → Result A BodyFault → Result B BodyFault
and_then f (Ok a) = f a
and_then f (Err e) = Err e

-- the profiles of a series, from this sample on
abbrev pub profiles_from : ℕ → ℕ → List (Option (List ℕ)) → Result (List (List ℕ)) BodyFault
profiles_from series sample [] = Ok []
profiles_from series sample (None ∷ rest) = Err (BadBase64 series sample)
profiles_from series sample (Some bytes ∷ rest) = onto (λ more. bytes ∷ more) (profiles_from series (sample + 1) rest)

-- the series of a body, from this one on
abbrev pub series_from : ℕ → List SentSeries → Result (List RawSeries) BodyFault
series_from n [] = Ok []
series_from n (t ∷ ts) =
    and_then (λ profiles. onto (λ more. record { labels = t.labels; profiles = profiles } ∷ more) (series_from (n + 1) ts))
    (profiles_from n 0 t.profiles)

abbrev pub body_of_shape : Option (List SentSeries) → Result RawBody BodyFault
body_of_shape None = Err BadShape
body_of_shape (Some series) = onto (λ all. record { series = all }) (series_from 0 series)

abbrev pub body_of_json : Option Data → Result RawBody BodyFault
body_of_json None = Err NotJson
body_of_json (Some d) = body_of_shape (shape_of d)

abbrev pub body_of : List ℕ → Result RawBody BodyFault
body_of bytes = body_of_json (json_of bytes)
