use Rattle.std.proofs.Common.{◌∷◌, [], ◌+◌, ◌<◌, ◌≤◌, length, drop, ap, sym, ◌∙◌, arith}
use Rattle.std.specs.List.{flat_map, zip}
use Rattle.fd_rows.specs.Rows.{value_rows, sample_rows}
use Rattle.fd_rows.specs.Sizes.{with_rows}
use Rattle.fd_rows.proofs.RowSteps.{stands, zip_step, more_bytes, no_bytes, all_taken}
use Rattle.fd_rows.proofs.sizes.with_sample.Goals as goal

pub loop-kind-preserved : goal.loop-kind-preserved
loop-kind-preserved c =
    let series = c.args.of.now.series in
    let profile = c.args.survey.now in
    let types = profile.sample_types in
    let i = c.loop-kind.kind in
    let within : i < length types = omega (arith, c.kinds-kind-end.ensures) in
    let t = stands types i within in
    record {
      fits = omega arith;
      bytes = λ s there.
          let f = value_rows series profile s in
          let whole = flat_map f (zip (drop i types) (drop i s.values)) in
          more_bytes c.loop-kind.more c.with_kind-more.result (flat_map f (zip (t.item ∷ []) (drop i s.values))) (flat_map f (zip (drop (i + 1) types) (drop (i + 1) s.values))) whole (sym (zip_step f types s.values i t.item t.is))
          (c.with_kind-more.ensures series s t.item (c.in_ok-each.ensures s there) there t.is)
          ∙ c.loop-kind.invariant.bytes s there;
    }

pub returns : goal.returns
unfolding sample_rows
returns c =
    let profile = c.args.survey.now in
    let types = profile.sample_types in
    let i = c.loop-kind.kind in
    let past : length types ≤ i = omega (arith, c.kinds-kind-end.ensures) in
    λ s there.
    let f = value_rows c.args.of.now.series profile s in
    no_bytes c.loop-kind.more c.loop-kind.invariant.fits
    ∙ ap (with_rows c.loop-kind.more) (sym (all_taken f types (drop i s.values) i past))
    ∙ c.loop-kind.invariant.bytes s there
