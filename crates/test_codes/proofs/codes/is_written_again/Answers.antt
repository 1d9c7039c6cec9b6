use Rattle.std.proofs.Common.{ap, sym, subst, ◌∙◌, List, ℕ, Bor, map}
use Rattle.std.specs.Prelude.{All, Contains, slice_range}
use Rattle.fd_pages.specs.Dictionaries.{texts_in}
use Rattle.test_codes.proofs.Known.{are_known}
use Rattle.test_codes.proofs.codes.is_written_again.Goals as goal

pub write_code_page-requires-clause-known : goal.write_code_page-requires-clause-known
write_code_page-requires-clause-known c =
    subst (λ (texts : List (List ℕ)). All (Contains texts) (texts_in (slice_range c.in-Ok-read_code_page.cells.cells 0 3)))
    (ap (λ (texts : List (Bor (List ℕ))). map (λ (t : Bor (List ℕ)). t.now) texts) (c.as_slice.ensures ∙ sym c.as_slice-2.ensures))
    (are_known _ _ _ _ _ _ c.in-Ok-read_code_page.ensures.found)
