-- The JSON of answers. A number is a text of its decimal digits, and the keys of an object stand in byte order.
use Rattle.std.specs.Prelude.{ℕ, ℤ, List, map, codes, decimal}
use Rattle.std.specs.Fmt.{signed_decimal}
use Rattle.serde_json.specs.Data.{Data, boolean, string, array, object, member, no_members}
use Rattle.serde_json.specs.View.{items_of}
use Rattle.fd_kinds.specs.declared.pair.Pair.{Pair}
use Rattle.fd_kinds.specs.declared.labels.Labels.{Labels}
use Rattle.fd_kinds.specs.declared.query.Answer.{Answer}
use Rattle.fd_kinds.specs.declared.query.Answer.TheVariants.{Types, Names, Values, Series, Range, Merge}
use Rattle.fd_kinds.specs.declared.query.OneRange.{OneRange}
use Rattle.fd_kinds.specs.declared.query.Point.{Point}
use Rattle.fd_kinds.specs.declared.query.ProfileType.{ProfileType}
use Rattle.fd_kinds.specs.declared.query.SeriesName.{SeriesName}
use Rattle.fd_kinds.specs.declared.query.StackSum.{StackSum}
use Rattle.fd_kinds.specs.declared.stand.Stand.{Stand}

abbrev pub number_json : ℕ → Data
number_json n = string (decimal n)

abbrev pub signed_json : ℤ → Data
signed_json z = string (signed_decimal z)

abbrev pub list_json : {A : Type 0} → (A → Data) → List A → Data
list_json f xs = array (items_of (map f xs))

abbrev pub pair_json : Pair → Data
pair_json p = object (member (codes "name") (string p.name) (member (codes "value") (string p.value) no_members))

abbrev pub labels_json : Labels → Data
labels_json l = object (member (codes "labels") (list_json pair_json l.pairs) no_members)

abbrev pub type_json : ProfileType → Data
type_json t =
    object
    (member (codes "delta") (boolean t.delta)
    (member (codes "name") (string t.name)
    (member (codes "periodType") (string t.period_type)
    (member (codes "periodUnit") (string t.period_unit)
    (member (codes "sampleType") (string t.sample_type)
    (member (codes "sampleUnit") (string t.sample_unit) no_members))))))

abbrev pub series_json : SeriesName → Data
series_json s = object (member (codes "labels") (list_json pair_json s.labels.pairs) (member (codes "name") (string s.name) no_members))

abbrev pub point_json : Point → Data
point_json p = object (member (codes "timestamp") (signed_json p.timestamp) (member (codes "value") (signed_json p.value) no_members))

abbrev pub range_json : OneRange → Data
range_json r = object (member (codes "labelset") (labels_json r.labels) (member (codes "samples") (list_json point_json r.points) no_members))

abbrev pub stack_json : StackSum → Data
stack_json s = object (member (codes "frames") (list_json string s.stack) (member (codes "value") (signed_json s.value) no_members))

-- a list under its name, and the watermark
abbrev pub listed_json : List ℕ → Data → ℕ → Data
listed_json name list watermark = object (member name list (member (codes "watermark") (number_json watermark) no_members))

abbrev pub sums_json : List StackSum → ℤ → ℕ → Data
sums_json stacks total watermark =
    object
    (member (codes "stacks") (list_json stack_json stacks)
    (member (codes "total") (signed_json total)
    (member (codes "watermark") (number_json watermark) no_members)))

-- an answer and the number of the last batch that it saw
abbrev pub answer_json : Answer → ℕ → Data
answer_json (Types types) watermark = listed_json (codes "types") (list_json type_json types) watermark
answer_json (Names names) watermark = listed_json (codes "labelNames") (list_json string names) watermark
answer_json (Values values) watermark = listed_json (codes "labelValues") (list_json string values) watermark
answer_json (Series series) watermark = listed_json (codes "series") (list_json series_json series) watermark
answer_json (Range ranges) watermark = listed_json (codes "series") (list_json range_json ranges) watermark
answer_json (Merge stacks total) watermark = sums_json stacks total watermark

-- the number that a write was given
abbrev pub drawn_json : ℕ → Data
drawn_json n = object (member (codes "number") (number_json n) no_members)

abbrev pub stand_json : Stand → Data
stand_json s =
    object
    (member (codes "drawn") (number_json s.drawn)
    (member (codes "synced") (number_json s.synced)
    (member (codes "watermark") (number_json s.watermark) no_members)))
