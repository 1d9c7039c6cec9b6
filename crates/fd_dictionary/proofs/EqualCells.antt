-- Cells of a column that are the same.
use Rattle.std.proofs.Common.{◌≡◌, ℕ, ◌==◌, true, List, refl, sym, ◌∙◌, ap, subst, arith}
use Rattle.std.specs.Prelude.{Option, Some, None, option_map, unwrap_or, slice_get, Decides}
use Rattle.std.specs.Option.{option_and_then}
use Rattle.std.proofs.lemmas.Option.{slice_get-map, slice_get_within, get_or_from_slice_get}
use Rattle.std.proofs.lemmas.List.Elements.{All-get_or}
use Rattle.fd_dictionary.specs.Dictionaries.{cell_in, cells_of, picked, pick_of, IsDictionary}

cell_is : (entries : List (List ℕ)) (picks : List ℕ) (at : ℕ) → cell_in (cells_of entries picks) at ≡ picked entries (unwrap_or (slice_get picks at) 0)
cell_is entries picks at =
    ap (λ o. option_and_then (λ cell. cell) o) (slice_get-map (picked entries) picks at) ∙ by (slice_get picks at)
  where
    by : (o : Option ℕ) → option_and_then (λ cell. cell) (option_map (picked entries) o) ≡ picked entries (unwrap_or o 0)
    by None = refl
    by (Some pick) = refl

placed_at : (entries : List (List ℕ)) (picks : List ℕ) (at : ℕ) → IsDictionary entries picks → pick_of entries (picked entries (unwrap_or (slice_get picks at) 0)) ≡ unwrap_or (slice_get picks at) 0
placed_at entries picks at d = by (slice_get picks at) refl
  where
    by : (o : Option ℕ) → slice_get picks at ≡ o → pick_of entries (picked entries (unwrap_or o 0)) ≡ unwrap_or o 0
    by None there = refl
    by (Some pick) there =
        subst (λ p. pick_of entries (picked entries p) ≡ p) (get_or_from_slice_get picks at pick pick there) (All-get_or (λ p. pick_of entries (picked entries p) ≡ p) picks at pick (slice_get_within picks at pick there) d.placed)

equal_is : (p q : ℕ) → (p == q) ≡ true → p ≡ q
equal_is p q e = grind arith

is_equal : (p q : ℕ) → p ≡ q → (p == q) ≡ true
is_equal p q e = grind arith

-- what stands for two cells is the same where the cells are
pub same_picks : (entries : List (List ℕ)) (picks : List ℕ) (a b p q : ℕ) → IsDictionary entries picks → p ≡ unwrap_or (slice_get picks a) 0 → q ≡ unwrap_or (slice_get picks b) 0 → Decides (p == q) (cell_in (cells_of entries picks) a ≡ cell_in (cells_of entries picks) b)
same_picks entries picks a b p q d ha hb = (
  λ e. cell_is entries picks a ∙ ap (picked entries) (sym ha ∙ equal_is p q e ∙ hb) ∙ sym (cell_is entries picks b),
  λ e. is_equal p q
      (ha
      ∙ sym (placed_at entries picks a d)
      ∙ ap (pick_of entries) (sym (cell_is entries picks a) ∙ e ∙ cell_is entries picks b)
      ∙ placed_at entries picks b d
      ∙ sym hb),
)
