use Rattle.std.proofs.Common.{rules, ◌≡◌, ◌∙◌, ap, sym, [], ◌∷◌, ◌++◌}
use Rattle.fd_scan.specs.Removals.{undone}
use Rattle.fd_scan.proofs.RemovalLaws.{undone_last}
use Rattle.fd_scan.proofs.label_names.take_out.Goals as goal

pub loop-text-preserved : goal.loop-text-preserved
loop-text-preserved c =
    let noted : c.loop-text.noted ≡ c.pop.new.self ++ c.in-Some.text ∷ [] = search rules in
    ap (λ keys. undone keys c.pop.new.self) c.remove.ensures.keys
    ∙ sym (undone_last c.loop-text.texts.keys c.pop.new.self c.in-Some.text)
    ∙ ap (undone c.loop-text.texts.keys) (sym noted)
    ∙ c.loop-text.invariant
