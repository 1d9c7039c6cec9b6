use Rattle.std.proofs.Common.{◌≡◌, ℕ, ◌-◌, ap, sym, ◌∙◌, subst, arith, Option}
use Rattle.std.specs.Prelude.{◌==◌, slice_get, find}
use Rattle.std.specs.List.{position_from}
use Rattle.std.specs.Option.{unwrap_or}
use Rattle.fd_proto.specs.declared.raw.RawLocation.{RawLocation}
use Rattle.fd_pprof.proofs.FirstItems.{finds, FoundAt}
use Rattle.fd_pprof.proofs.SizeSteps.{size_found, size_missed}
use Rattle.fd_pprof.proofs.sizes.size_at.Goals as goal

pub returns-in-Some : goal.returns-in-Some
returns-in-Some c =
    let id = c.args.id in
    let raw = c.args.tables.now.catalog.raw in
    let at = ap (position_from (λ (o : ℕ). o == id) 0) (sym c.args.tables.now.catalog.located) ∙ sym c.in-Some.ensures in
    let h = subst (λ (p : Option ℕ). FoundAt 0 p raw.locations (find (λ (x : RawLocation). x.id == id) raw.locations)) at (finds (λ (x : RawLocation). x.id) raw.locations 0 id) in
    let same : c.in-Some.at ≡ c.in-Some.at - 0 = omega arith in
    size_found c.args.tables.now.texts raw c.args.tables.now.sizes c.in-Some.at id c.args.tables.now.sized (ap (slice_get raw.locations) same ∙ h.1) c.unwrap_or.result (c.unwrap_or.ensures ∙ ap (λ (o : Option ℕ). unwrap_or o 0) (c.copied.ensures ∙ c.get.ensures))

pub returns-in-None : goal.returns-in-None
returns-in-None c =
    let id = c.args.id in
    let raw = c.args.tables.now.catalog.raw in
    let at = ap (position_from (λ (o : ℕ). o == id) 0) (sym c.args.tables.now.catalog.located) ∙ sym c.in-None.ensures in
    size_missed c.args.tables.now.texts raw id (subst (λ (p : Option ℕ). FoundAt 0 p raw.locations (find (λ (x : RawLocation). x.id == id) raw.locations)) at (finds (λ (x : RawLocation). x.id) raw.locations 0 id))
