use Rattle.std.proofs.Common.{flat_map}
use Rattle.std.proofs.lemmas.Result.{on_ok_weaker}
use Rattle.fd_gen.specs.Profile.{functions, texts, sample_field, location_field, function_field, text_field}
use Rattle.fd_gen.proofs.Pieces.{added_four}
use Rattle.fd_gen.proofs.profile.put_lists.Goals as goal

pub returns : goal.returns
returns c =
    on_ok_weaker c.put_texts.result (λ e.
    added_four c.args.out.now (flat_map sample_field c.args.samples.now) (flat_map location_field functions) (flat_map function_field functions) (flat_map text_field texts)
    c.put_samples.new.out c.put_locations.new.out c.put_functions.new.out c.put_texts.new.out
    c.in_ok-put_samples.ensures c.in_ok-put_locations.ensures c.in_ok-put_functions.ensures e)
    c.put_texts.ensures
