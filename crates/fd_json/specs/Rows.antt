-- The JSON of a row. A number is a text of its decimal digits, and the keys of an object stand in byte order.
use Rattle.std.specs.Prelude.{codes}
use Rattle.serde_json.specs.Data.{Data, string, object, member, no_members}
use Rattle.fd_kinds.specs.declared.row.Numbered.{Numbered}
use Rattle.fd_json.specs.Answers.{number_json, signed_json, list_json, pair_json}

-- a row with the number of its batch; labels stand by rising name, and of a stack the leaf stands first
abbrev pub row_json : Numbered → Data
row_json n =
    object
    (member (codes "_tx") (number_json n.number)
    (member (codes "duration") (signed_json n.row.duration)
    (member (codes "labels") (list_json pair_json n.row.labels.pairs)
    (member (codes "name") (string n.row.name)
    (member (codes "period") (signed_json n.row.period)
    (member (codes "period_type") (string n.row.period_type)
    (member (codes "period_unit") (string n.row.period_unit)
    (member (codes "pprof_labels") (list_json pair_json n.row.pprof_labels.pairs)
    (member (codes "sample_type") (string n.row.sample_type)
    (member (codes "sample_unit") (string n.row.sample_unit)
    (member (codes "stack") (list_json string n.row.stack)
    (member (codes "timestamp") (signed_json n.row.timestamp)
    (member (codes "value") (signed_json n.row.value) no_members)))))))))))))
