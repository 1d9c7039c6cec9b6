use Rattle.std.proofs.Common.{ℕ, List, arith, Bor}
use Rattle.fd_codes.proofs.CellPicks.{picked_text}
use Rattle.fd_codes.proofs.code_page.cell_of.Goals as goal

pub returns : goal.returns
returns c = picked_text c.args.texts.now (λ (t : Bor (List ℕ)). t.now) c.args.pick _ c.in_ok-from_slice.field-0 (omega arith) c.requires c.in_ok-from_slice.ensures
