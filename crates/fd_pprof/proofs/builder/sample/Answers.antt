use Rattle.std.proofs.Common.{◌∙◌, ap, map, List}
use Rattle.fd_kinds.specs.LabelsOf.{labels_of}
use Rattle.fd_proto.specs.declared.raw.RawLabel.{RawLabel}
use Rattle.fd_pprof.specs.Profile.{signed, pair_of}
use Rattle.fd_pprof.proofs.builder.sample.Goals as goal

pub returns : goal.returns
returns c =
    let ts = c.args.tables.now.texts in
    let frames = c.in_ok-stack_of.ensures in
    let values = c.in_ok-values.ensures ∙ ap (map signed) c.as_slice.ensures in
    let labels = c.in_ok-labels.ensures ∙ ap (λ (ls : List RawLabel). labels_of (map (pair_of ts) ls)) c.as_slice-2.ensures in
    λ i. record { stack = frames i; values = values i; labels = labels i }
