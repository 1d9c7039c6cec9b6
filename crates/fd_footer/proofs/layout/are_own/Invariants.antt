use Rattle.std.proofs.Common.{◌≡◌, map, drop}
use Rattle.fd_footer.specs.Layout.{fixed, fixed_view, are_own_by}
use Rattle.fd_footer.proofs.layout.are_own.Given as goal

-- the answer for the columns that are left is that for all
abbrev pub invariant-loop-name : goal.invariant-loop-name
invariant-loop-name l = are_own_by (map fixed_view (drop l.name-index l.name-items)) l.rest ≡ are_own_by fixed l.columns
