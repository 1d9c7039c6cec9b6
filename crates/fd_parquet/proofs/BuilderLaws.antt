-- The last of rows that are built one after the other.
use Rattle.std.proofs.Common.{◌≡◌, ◌+◌, ◌-◌, List, [], ◌∷◌, ◌++◌, length, get_or, sym, ap, ◌∙◌, arith, length-append}
use Rattle.std.specs.Prelude.{Some, slice_get}
use Rattle.std.proofs.lemmas.Option.{slice_get-get_or}
use Rattle.std.proofs.Math.Seq.{get_or-append_seam}

-- a row that was put behind the others is the last
pub last_more : {X : Type 0} (rows more : List X) (next : X) → more ≡ rows ++ next ∷ [] → Some next ≡ slice_get more (length more - 1)
last_more rows more next pushed =
    let all = rows ++ next ∷ [] in
    let counted : length all ≡ length rows + 1 = length-append rows (next ∷ []) in
    let place : length all - 1 ≡ length rows = omega (arith, counted) in
    let there : slice_get all (length rows) ≡ Some (get_or all (length rows) next) = slice_get-get_or all (length rows) next (omega (arith, counted)) in
    sym (ap (λ xs. slice_get xs (length xs - 1)) pushed ∙ ap (λ k. slice_get all k) place ∙ there ∙ ap (λ x. Some x) (get_or-append_seam rows next [] next))
