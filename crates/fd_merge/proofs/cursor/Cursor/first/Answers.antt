use Rattle.std.proofs.Common.{◌∙◌, sym, ap}
use Rattle.std.specs.Prelude.{slice_get}
use Rattle.fd_merge.proofs.Remainders.{first_of_rest}
use Rattle.fd_merge.proofs.cursor.Cursor.first.Goals as goal

pub returns : goal.returns
returns c =
    c.as_ref.ensures.value ∙ c.self.invariant.1 ∙ sym (first_of_rest c.self.inside.part.now c.self.inside.at) ∙ ap (λ rows. slice_get rows 0) c.self.view_is
