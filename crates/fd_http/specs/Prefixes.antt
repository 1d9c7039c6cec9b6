-- The requests with which the bytes of an input begin.
use Rattle.std.specs.Prelude.{ℕ, ◌≡◌, ◌<◌, ◌-◌, List, [], ◌∷◌, IsFalse}
use Rattle.fd_http.specs.declared.request.Request.{Request}
use Rattle.fd_http.specs.Inputs.{Begins}

-- The bytes begin with these requests, none of which asks to close, and this rest follows. Of the
-- room for so many requests this much is left.
abbrev pub Leads : List Request → ℕ → List ℕ → ℕ → List ℕ → Type 0
Leads [] room bytes left after = (left ≡ room) × (bytes ≡ after)
Leads (request ∷ requests) room bytes left after =
    (0 < room) × (mid : List ℕ) × Begins bytes request mid × IsFalse request.close × Leads requests (room - 1) mid left after
