use Rattle.std.proofs.Common.{[], codes, map, flat_map}
use Rattle.std.proofs.lemmas.Result.{on_ok_weaker}
use Rattle.fd_gen.specs.Profile.{functions, name, text_field}
use Rattle.fd_gen.proofs.Pieces.{added_four_right}
use Rattle.fd_gen.proofs.profile.put_texts.Goals as goal

pub returns : goal.returns
returns c =
    on_ok_weaker c.put_names.result (λ e.
    added_four_right c.args.out.now (text_field []) (text_field (codes "cpu")) (text_field (codes "nanoseconds")) (flat_map text_field (map name functions))
    c.put_span.new.out c.put_span-2.new.out c.put_span-3.new.out c.put_names.new.out
    c.in_ok-put_span.ensures c.in_ok-put_span-2.ensures c.in_ok-put_span-3.ensures e)
    c.put_names.ensures
