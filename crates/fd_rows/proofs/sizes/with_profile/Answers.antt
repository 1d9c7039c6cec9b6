use Rattle.std.proofs.Common.{◌+◌, ◌<◌, ◌≤◌, length, drop, ap, sym, ◌∙◌, arith}
use Rattle.std.specs.List.{flat_map}
use Rattle.std.proofs.lemmas.List.{drop_all}
use Rattle.fd_rows.specs.Rows.{sample_rows, profile_rows}
use Rattle.fd_rows.specs.Sizes.{with_rows}
use Rattle.fd_rows.proofs.RowSteps.{stands, from_slot, more_bytes, no_bytes}
use Rattle.fd_rows.proofs.sizes.with_profile.Goals as goal

pub loop-at-preserved : goal.loop-at-preserved
loop-at-preserved c =
    let f = sample_rows c.args.of.now.series c.args.survey.now in
    let samples = c.args.survey.now.samples in
    let i = c.loop-at.at in
    let within : i < length samples = omega (arith, c.len-at-end.ensures) in
    let s = stands samples i within in
    record {
      fits = omega arith;
      bytes = more_bytes c.loop-at.more c.in_ok-more.more (f s.item) (flat_map f (drop (i + 1) samples)) (flat_map f (drop i samples)) (sym (ap (flat_map f) (from_slot samples i s.item s.is))) (c.in_ok-more.ensures s.item s.is)
          ∙ c.loop-at.invariant.bytes;
    }

pub returns : goal.returns
unfolding profile_rows
returns c =
    let f = sample_rows c.args.of.now.series c.args.survey.now in
    let samples = c.args.survey.now.samples in
    let i = c.loop-at.at in
    let past : length samples ≤ i = omega (arith, c.len-at-end.ensures) in
    no_bytes c.loop-at.more c.loop-at.invariant.fits
    ∙ ap (λ xs. with_rows c.loop-at.more (flat_map f xs)) (sym (drop_all i samples past))
    ∙ c.loop-at.invariant.bytes
