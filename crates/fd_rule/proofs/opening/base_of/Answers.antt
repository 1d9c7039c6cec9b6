use Rattle.std.proofs.Common.{rules, sym, ◌≡◌, ℕ, List}
use Rattle.atomic_table.specs.Table.{opening}
use Rattle.fd_rule.specs.Rule.{Ruled}
use Rattle.fd_rule.specs.View.{first}
use Rattle.fd_rule.specs.declared.slot.SlotValue.{SlotValue}
use Rattle.fd_rule.proofs.Opens.{words_wide, slots_deep}
use Rattle.std.proofs.Common.{subst}
use Rattle.fd_rule.proofs.opening.base_of.Goals as goal

pub new-requires : goal.new-requires
new-requires g c = let o = c.args.opening in let slice : c.as_slice.result.now ≡ c.args.words.items = search rules in
    subst (λ (ws : List ℕ). Ruled {P = g.row.P.Denot} g.P.Held.means o.shelf.value o.seats (opening ws c.args.slots.items (first o.shelf.value o.synced))) (sym slice)
    (subst (λ (z : List ℕ × List (SlotValue g.row.P.Denot)). Ruled {P = g.row.P.Denot} g.P.Held.means o.shelf.value o.seats (opening z.0 z.1 (first o.shelf.value o.synced))) (λ i. (sym c.requires.words i, sym c.requires.slots i))
    (c.opening_laws.ensures.opening o.shelf.value o.synced o.seats c.requires.may))

pub invariant_of-result-clause-wide : goal.invariant_of-result-clause-wide
invariant_of-result-clause-wide g c = let o = c.args.opening in let m = o.shelf.value.mark in let w = words_wide c.args.words.items m m 0 o.synced m o.seats c.requires.words in search (rules, w)

pub invariant_of-result-clause-deep : goal.invariant_of-result-clause-deep
invariant_of-result-clause-deep g c = let o = c.args.opening in let w = slots_deep c.args.slots.items o.shelf.value o.seats c.requires.slots in search (rules, w)
