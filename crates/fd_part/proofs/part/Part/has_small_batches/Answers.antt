use Rattle.std.proofs.Common.{IfOk, List, sym, subst}
use Rattle.std.specs.Prelude.{◌↔◌, IsTrue, nat_le}
use Rattle.fd_shelf.specs.Books.{HasSmallBatches}
use Rattle.fd_kinds.specs.declared.limits.TheConstants.{MOST_BATCH_BYTES}
use Rattle.fd_kinds.specs.declared.row.Numbered.{Numbered}
use Rattle.fd_part.specs.Parts.{form_meaning}
use Rattle.fd_part.specs.Sizes.{AreSmallBatches}
use Rattle.fd_part.specs.declared.part.Form.{Form}
use Rattle.fd_part.proofs.BatchSizes.{one_small}
use Rattle.fd_part.proofs.part.Part.has_small_batches.Goals as goal

pub returns-in-Loose : goal.returns-in-Loose
returns-in-Loose c =
    subst (λ (form : Form). IsTrue (nat_le c.bytes.result MOST_BATCH_BYTES) ↔ HasSmallBatches (form_meaning form)) (sym c.in-Loose.is)
    (one_small c.in-Loose.number c.bytes.result c.in-Loose.columns c.bytes.ensures)

pub returns-in-Sealed : goal.returns-in-Sealed
returns-in-Sealed c =
    subst (λ (form : Form). IfOk c.has_small_batches.result (λ small. IsTrue small ↔ HasSmallBatches (form_meaning form))) (sym c.in-Sealed.is)
    (subst (λ (rows : List Numbered). IfOk c.has_small_batches.result (λ small. IsTrue small ↔ AreSmallBatches rows)) c.columns.ensures c.has_small_batches.ensures)
