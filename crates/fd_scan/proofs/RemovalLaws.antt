-- Texts that are taken out again leave the set as it was.
use Rattle.std.proofs.Common.{◌≡◌, ℕ, false, List, [], ◌∷◌, ◌++◌, refl, ◌∙◌, ap}
use Rattle.std.specs.Cmp.Lexicographic.{nat_list_cmp_total}
use Rattle.std.specs.List.{list_any}
use Rattle.std.specs.BTreeMap.{is_at}
use Rattle.std.specs.BTreeSet.{insert_key}
use Rattle.std.specs.Set.{remove_key}
use Rattle.fd_lists.specs.Texts.{text_cmp}
use Rattle.fd_scan.specs.Removals.{undone}
use Rattle.fd_kinds.proofs.Distinct.{remove_inserted, remove_absent}

-- the last that was noted is taken out first
pub undone_last : (keys texts : List (List ℕ)) (text : List ℕ) → undone keys (texts ++ text ∷ []) ≡ undone (remove_key (is_at (text_cmp text)) keys) texts
undone_last keys [] text = refl
undone_last keys (t ∷ ts) text = ap (remove_key (is_at (text_cmp t))) (undone_last keys ts text)

-- a text that is noted and not added
pub undone_noted : (keys texts : List (List ℕ)) (text : List ℕ) → list_any (is_at (text_cmp text)) keys ≡ false → undone keys (texts ++ text ∷ []) ≡ undone keys texts
undone_noted keys texts text absent = undone_last keys texts text ∙ ap (λ ks. undone ks texts) (remove_absent nat_list_cmp_total keys text absent)

-- a text that is noted and added
pub undone_added : (keys texts : List (List ℕ)) (text : List ℕ) → list_any (is_at (text_cmp text)) keys ≡ false → undone (insert_key text_cmp keys text) (texts ++ text ∷ []) ≡ undone keys texts
undone_added keys texts text absent = undone_last (insert_key text_cmp keys text) texts text ∙ ap (λ ks. undone ks texts) (remove_inserted nat_list_cmp_total keys text absent)
