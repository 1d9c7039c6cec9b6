use Rattle.std.proofs.Common.{◌∙◌, ◌-◌, ◌^◌, min, ap, map, sym, ℕ, List}
use Rattle.std.specs.Prelude.{sum_by}
use Rattle.fd_kinds.specs.RowSize.{pair_size}
use Rattle.fd_proto.specs.declared.raw.RawLabel.{RawLabel}
use Rattle.fd_pprof.specs.Profile.{pair_of}
use Rattle.fd_pprof.proofs.WinnerSteps.{labels_bytes}
use Rattle.fd_pprof.proofs.winners.labels_size.Goals as goal

pub returns : goal.returns
returns c =
    let ts = c.args.tables.now.texts in
    c.size_of.ensures
    ∙ ap (λ (ls : List RawLabel). min (sum_by pair_size (map (pair_of ts) ls)) (2 ^ 64 - 1)) c.as_slice.ensures
    ∙ ap (λ (n : ℕ). min n (2 ^ 64 - 1)) (sym (labels_bytes (map (pair_of ts) c.in_ok-labels.labels) (map (pair_of ts) c.args.raw.now) c.in_ok-labels.ensures))
