-- Pages in front of bytes: a header, and a body.
use Rattle.std.proofs.Common.{◌≡◌, ℕ, List, ◌++◌, length, take, refl, sym, ap, ◌∙◌, append_assoc}
use Rattle.std.proofs.lemmas.List.{append_cancel_left, take_at}

-- two pages in front of the same bytes
pub same_front : (header body page x header' body' page' y : List ℕ) → page ≡ header ++ body → page' ≡ header' ++ body' → page ++ x ≡ page' ++ y → header ++ (body ++ x) ≡ header' ++ (body' ++ y)
same_front header body page x header' body' page' y whole whole' e =
    sym (append_assoc header body x) ∙ ap (λ t. t ++ x) (sym whole) ∙ e ∙ ap (λ t. t ++ y) whole' ∙ append_assoc header' body' y

-- behind the same header stand bodies of one length
pub same_body : (header body x header' body' y : List ℕ) → header ++ (body ++ x) ≡ header' ++ (body' ++ y) → header ≡ header' → length body ≡ length body' → body ≡ body'
same_body header body x header' body' y e headers len =
    let rests : body ++ x ≡ body' ++ y = append_cancel_left header (body ++ x) (body' ++ y) (e ∙ ap (λ h. h ++ (body' ++ y)) (sym headers)) in
    sym (take_at body x (length body) refl) ∙ ap (take (length body)) rests ∙ take_at body' y (length body) (sym len)
