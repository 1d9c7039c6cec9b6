use Rattle.std.proofs.Common.{◌∙◌, refl}
use Rattle.std.proofs.lemmas.List.{length-map}
use Rattle.fd_proto.specs.Messages.{text_in}
use Rattle.fd_pprof.specs.Conditions.{plain_conditions}
use Rattle.fd_pprof.proofs.checks.plain_refusal.Goals as goal

pub returns : goal.returns
unfolding plain_conditions
returns c =
    c.first_of.ensures
    ∙ rw (
      c.begins_empty.ensures,
      c.has_bad_index.ensures,
      c.has_other_count.ensures,
      c.has_unknown_location.ensures,
      c.has_unknown_mapping.ensures,
      c.has_unknown_function.ensures,
      c.has_repeated_id.ensures,
      c.args.of.now.mapped,
      c.args.of.now.located,
      c.args.of.now.named,
      length-map c.args.of.now.raw.texts (text_in c.args.bytes.now),
    ) refl
