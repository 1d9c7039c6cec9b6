-- The statuses of refusals are such as a reply may have.
use Rattle.std.proofs.Common.{◌≢◌, ◌==◌, ◌||◌, ℕ, true, false, [], ◌∷◌, IsTrue, refl, inl, inr}
use Rattle.std.specs.List.{list_any}
use Rattle.fd_http.specs.Replies.{is_made_status}
use Rattle.fd_json.specs.Faults.{IsRefusalStatus}

pub made_status : (status : ℕ) → IsRefusalStatus status → status ≢ 405 → IsTrue (is_made_status status)
made_status status (inl is) other = absurd (other is)
made_status status (inr known) other =
    elim (200 == status) as (λ b. IsTrue (b || list_any (λ s. s == status) (400 ∷ 404 ∷ 409 ∷ 411 ∷ 413 ∷ 422 ∷ 503 ∷ []))) [ true ↦ refl | false ↦ known ]
