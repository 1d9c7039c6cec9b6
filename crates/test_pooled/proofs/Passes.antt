-- Lists of passes.
use Rattle.std.proofs.Common.{◌≡◌, ℕ, zero, suc, ◌-◌, List, [], ◌∷◌, ◌++◌, refl, subst, sym, Option, Some, None, MatchOption, IfSome}
use Rattle.atomic_table.specs.Seated.{TableId}
use Rattle.fd_shelf.specs.Books.{Each, Shelved}
use Rattle.fd_rule.specs.View.{View, first}
use Rattle.fd_rule.specs.declared.pass.Pass.{Pass}
use Rattle.fd_pool.specs.Finishes.{IsRested}
use Rattle.fd_pool.specs.Pools.{IsPassAt, views_of}
use Rattle.fd_pool.specs.Starts.{first_views, split_off}
use Rattle.test_pooled.specs.Rests.{IsSeatAt}

each_push : (vs : List View) (v : View) → Each IsRested vs → IsRested v → Each IsRested (vs ++ v ∷ [])
each_push [] v all rested = (rested, tt)
each_push (w ∷ vs) v all rested = (all.0, each_push vs v all.1 rested)

split_rests : (v : View) (n : ℕ) → Each IsRested (split_off v n)
split_rests v zero = tt
split_rests v (suc n) = each_push (split_off v n) _ (split_rests v n) record { turn = refl; flight = refl; idles = refl }

-- no seat has done anything before a pool's first call
first_rest : (shelf : Shelved) (synced seats : ℕ) → Each IsRested (first_views shelf synced seats)
first_rest shelf synced seats = (record { turn = refl; flight = refl; idles = refl }, split_rests (first shelf synced) (seats - 1))

seats_of : (table : TableId) (seats : ℕ) (passes : List Pass) → Each (IsPassAt table seats) passes → Each IsRested (views_of passes) → Each (IsSeatAt table seats) passes
seats_of table seats [] are rested = tt
seats_of table seats (p ∷ ps) are rested = (record { of = are.0; rested = rested.0 }, seats_of table seats ps are.1 rested.1)

pub seats_first : (table : TableId) (seats : ℕ) (passes : List Pass) (shelf : Shelved) (synced count : ℕ) → Each (IsPassAt table seats) passes → views_of passes ≡ first_views shelf synced count → Each (IsSeatAt table seats) passes
seats_first table seats passes shelf synced count are is = seats_of table seats passes are (subst (λ vs. Each IsRested vs) (sym is) (first_rest shelf synced count))

pub seats_rested : (table : TableId) (seats : ℕ) (passes : List Pass) → Each (IsSeatAt table seats) passes → Each IsRested (views_of passes)
seats_rested table seats [] all = tt
seats_rested table seats (p ∷ ps) all = (all.0.rested, seats_rested table seats ps all.1)

front : (table : TableId) (seats : ℕ) (passes : List Pass) (pass : Pass) → Each (IsSeatAt table seats) (passes ++ pass ∷ []) → Each (IsSeatAt table seats) passes
front table seats [] pass all = tt
front table seats (p ∷ ps) pass all = (all.0, front table seats ps pass all.1)

last : (table : TableId) (seats : ℕ) (passes : List Pass) (pass : Pass) → Each (IsSeatAt table seats) (passes ++ pass ∷ []) → IsSeatAt table seats pass
last table seats [] pass all = all.0
last table seats (p ∷ ps) pass all = last table seats ps pass all.1

-- the last of a list is taken out
pub seats_taken : (table : TableId) (seats : ℕ) (old new : List Pass) (pass : Option Pass) → MatchOption pass ((old ≡ []) × (new ≡ [])) (λ last. old ≡ new ++ last ∷ []) → Each (IsSeatAt table seats) old → Each (IsSeatAt table seats) new × IfSome pass (λ p. IsSeatAt table seats p)
seats_taken table seats old new (Some pass) is h = let all = subst (λ l. Each (IsSeatAt table seats) l) is h in (front table seats new pass all, last table seats new pass all)
seats_taken table seats old new None none h = (subst (λ l. Each (IsSeatAt table seats) l) (sym none.1) tt, tt)
