use Rattle.std.proofs.Common.{◌≡◌, ℕ, ◌-◌, ap, sym, ◌∙◌, subst, arith, Option}
use Rattle.std.specs.Prelude.{◌==◌, slice_get, find}
use Rattle.std.specs.List.{position_from}
use Rattle.fd_proto.specs.declared.raw.RawFunction.{RawFunction}
use Rattle.fd_pprof.proofs.FirstItems.{finds, FoundAt}
use Rattle.fd_pprof.proofs.catalog.Catalog.function.Goals as goal

pub returns-in-Some : goal.returns-in-Some
returns-in-Some c =
    let id = c.args.id in
    let xs = c.args.self.now.raw.functions in
    let at = ap (position_from (λ (o : ℕ). o == id) 0) (sym c.args.self.now.named) ∙ sym c.in-Some.ensures in
    let h = subst (λ (p : Option ℕ). FoundAt 0 p xs (find (λ (x : RawFunction). x.id == id) xs)) at (finds (λ (x : RawFunction). x.id) xs 0 id) in
    let same : c.in-Some.at ≡ c.in-Some.at - 0 = omega arith in
    c.get.ensures ∙ ap (slice_get xs) same ∙ h.1

pub returns-in-None : goal.returns-in-None
returns-in-None c =
    let id = c.args.id in
    let xs = c.args.self.now.raw.functions in
    let at = ap (position_from (λ (o : ℕ). o == id) 0) (sym c.args.self.now.named) ∙ sym c.in-None.ensures in
    sym (subst (λ (p : Option ℕ). FoundAt 0 p xs (find (λ (x : RawFunction). x.id == id) xs)) at (finds (λ (x : RawFunction). x.id) xs 0 id))
