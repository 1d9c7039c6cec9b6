use Rattle.std.proofs.Common.{arith, ap, sym, ◌∙◌, ◌-◌, length}
use Rattle.fd_part.specs.Parts.{part_meaning}
use Rattle.fd_part.specs.declared.part.Part.{Part}
use Rattle.fd_shelf.specs.declared.picks.InBlock.{InBlock}
use Rattle.fd_compact.proofs.RunRows.{last_is}
use Rattle.fd_compact.proofs.tables.last_number.Goals as goal

pub returns : goal.returns
returns c =
    c.hi.ensures
    ∙ ap (λ (i : InBlock Part). (part_meaning i.part).hi) (sym c.index-parts-parts.is)
    ∙ last_is (λ i. part_meaning i.part) c.args.parts.now (length c.args.parts.now - 1) c.index-parts-parts.result (omega (arith, c.requires)) c.index-parts-parts.is
