use Rattle.std.proofs.Common.{◌∙◌, List, map}
use Rattle.std.specs.Prelude.{flat_map}
use Rattle.fd_kinds.specs.declared.row.Numbered.{Numbered}
use Rattle.fd_scan.proofs.LabelNameLaws.{names_more}
use Rattle.fd_scan.proofs.label_names.add_names_of.Goals as goal

pub returns-in-Ok-clause-ok : goal.returns-in-Ok-clause-ok
returns-in-Ok-clause-ok g c =
    let rows : List Numbered = g.C.Columns.rows c.args.columns.now in
    λ before held.
    c.in-Ok.ensures.ok (flat_map (λ row. map (λ pair. pair.name) row.labels.pairs) before) held ∙ names_more rows c.args.places.now before c.distinct_laws.ensures.same
