use Rattle.std.proofs.Common.{rules, ◌≡◌, ℕ, Bool, true, false, sym, ◌∙◌, List, [], ◌∷◌, ◌++◌}
use Rattle.fd_kinds.specs.declared.row.Numbered.{Numbered}
use Rattle.fd_scan.specs.RowPlaces.{row_at, is_in_time}
use Rattle.fd_scan.proofs.FilterLaws.{place_kept, place_left}
use Rattle.fd_scan.proofs.selection.places_in_time.Goals as goal
use Rattle.fd_scan.proofs.selection.places_in_time.Goals.{then-is_in_time+in_ok-push, else-is_in_time}

pub loop-at-preserved : goal.loop-at-preserved
loop-at-preserved g c =
    let rows : List Numbered = g.C.Columns.rows c.args.columns.now in
    let p : ℕ → Bool = λ at. is_in_time c.args.window.now c.args.delta (row_at rows at) in
    elim c.if-is_in_time.branch [
      | then-is_in_time+in_ok-push w ↦
          let kept : p c.loop-at.at ≡ true = sym {b = p c.loop-at.at} c.is_in_time.ensures ∙ w.if-is_in_time.true in
          let is : c.if-is_in_time.places.items ≡ c.loop-at.places.items ++ c.loop-at.at ∷ [] = search rules in
          place_kept p c.loop-at.at c.loop-at.places.items c.if-is_in_time.places.items kept c.loop-at.invariant is
      | else-is_in_time w ↦
          let left : p c.loop-at.at ≡ false = sym {b = p c.loop-at.at} c.is_in_time.ensures ∙ w.if-is_in_time.false in
          let is : c.if-is_in_time.places.items ≡ c.loop-at.places.items = search rules in
          place_left p c.loop-at.at c.loop-at.places.items c.if-is_in_time.places.items left c.loop-at.invariant is
    ]
