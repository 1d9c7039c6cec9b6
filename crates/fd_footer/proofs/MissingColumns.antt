-- Columns that end too early.
use Rattle.std.proofs.Common.{◌≡◌, ℕ, zero, suc, ◌<◌, Bool, false, List, [], ◌∷◌, length, map, drop, refl, sym, ap, ◌∙◌, arith}
use Rattle.std.proofs.lemmas.List.{length-map}
use Rattle.std.specs.Borrow.{Bor}
use Rattle.fd_footer.specs.declared.footer.ColumnType.{ColumnType}
use Rattle.fd_footer.specs.declared.footer.Column.{Column}
use Rattle.fd_footer.specs.Layout.{fixed, fixed_view, are_own_by}

wants_more : (table : List (Bor (List ℕ) × ColumnType)) (i : ℕ) → i < length table → are_own_by (map fixed_view (drop i table)) [] ≡ false
wants_more [] i some = absurd (omega arith)
wants_more (t ∷ ts) zero some = refl
wants_more (t ∷ ts) (suc i) some = wants_more ts i (omega arith)

pub cut_short : (table : List (Bor (List ℕ) × ColumnType)) (i : ℕ) (rest : List Column) (whole : Bool)
    → map fixed_view table ≡ fixed → i < 11 → rest ≡ [] → are_own_by (map fixed_view (drop i table)) rest ≡ whole → false ≡ whole
cut_short table i rest whole same some empty so_far =
    let long : length table ≡ 11 = sym (length-map table fixed_view) ∙ ap length same in
    sym (wants_more table i (omega arith)) ∙ ap (are_own_by (map fixed_view (drop i table))) (sym empty) ∙ so_far
