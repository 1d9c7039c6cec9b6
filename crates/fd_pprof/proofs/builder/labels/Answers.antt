use Rattle.std.proofs.Common.{◌∙◌, ap, map, List}
use Rattle.std.proofs.lemmas.Result.{IfOk-weaker}
use Rattle.fd_kinds.specs.LabelsOf.{labels_of}
use Rattle.fd_proto.specs.declared.raw.RawLabel.{RawLabel}
use Rattle.fd_pprof.specs.Profile.{pair_of}
use Rattle.fd_pprof.proofs.WinnerSteps.{same_labels}
use Rattle.fd_pprof.proofs.builder.labels.Goals as goal

pub returns : goal.returns
returns c =
    let ts = c.args.tables.now.texts in
    let same = same_labels (map (pair_of ts) c.in_ok-winners.winners) (map (pair_of ts) c.args.raw.now) c.in_ok-winners.ensures in
    let pairs = c.in_ok-pairs.ensures ∙ ap (λ (ls : List RawLabel). map (pair_of ts) ls) c.as_slice.ensures in
    IfOk-weaker c.from_pairs.result _ _ (λ labels h. h ∙ ap labels_of pairs ∙ same) c.from_pairs.ensures.list
