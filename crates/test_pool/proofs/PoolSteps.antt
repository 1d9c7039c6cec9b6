-- What the calls of a test make of a seat.
use Rattle.std.proofs.Common.{◌≡◌, ℕ, List, [], ◌∷◌, ◌++◌, map, sym, refl, subst, inl, inr, arith}
use Rattle.std.specs.Prelude.{IsPermutation}
use Rattle.std.proofs.lemmas.List.Sorted.{IsPermutation-refl}
use Rattle.fd_kinds.specs.History.{History}
use Rattle.fd_shelf.specs.Books.{rows_in}
use Rattle.fd_shelf.specs.Steps.{highest, loose_upto, lowest}
use Rattle.fd_shelf.specs.declared.picks.InBlock.{InBlock}
use Rattle.fd_pins.specs.Pinned.{with_pinned}
use Rattle.fd_pool.specs.Finishes.{IsRested}
use Rattle.fd_pool.specs.Lists.{IsRun}
use Rattle.fd_rule.specs.Kinds.Announcement.{MayAnnounce}
use Rattle.fd_rule.specs.Kinds.MarkLoad.{Loaded, with_mark}
use Rattle.fd_rule.specs.Lists.{In}
use Rattle.fd_rule.specs.Tables.{Seated}
use Rattle.fd_rule.specs.View.{Given, View}
use Rattle.stubs.specs.declared.stub.Stub.{Stub}
use Rattle.stubs.specs.Stubs.{sealed_stub, stub_meaning}
use Rattle.test_pool.specs.Rests.{AtPin, AtRest, IsRunOf}

in_last : (w : ℕ) (ws : List ℕ) → In w (ws ++ w ∷ [])
in_last w [] = inl refl
in_last w (x ∷ ws) = inr (in_last w ws)

pub sits : {P : Type 0} (v : View) (m : Seated P) → m ≡ (v, []) → IsRested v → AtRest m
sits {P} v m is r = subst (λ (x : Seated P). AtRest x) (sym is) record { free = record { turn = r.turn; flight = r.flight; slots = refl }; idles = r.idles }

pub pins : {P : Type 0} (w : ℕ) (m m' : Seated P) → AtRest m → m' ≡ (with_pinned w m.0, m.1) → AtPin w m'
pins {P} w m m' r is = subst (λ (x : Seated P). AtPin w x) (sym is) record { free = record { turn = r.free.turn; flight = r.free.flight; slots = r.free.slots }; pinned = refl; loaded = in_last w m.0.seen.marks }

pub may_report : {P : Type 0} (n : ℕ) (m m' : Seated P) → Loaded n m.0 → m.0.place.number ≡ 0 → m' ≡ (with_mark n m.0, m.1) → MayAnnounce n m'.0
may_report {P} n m m' l number is = subst (λ (x : Seated P). MayAnnounce n x.0) (sym is) record { number = number; rises = l.announced number; mark = n; loaded = in_last n m.0.seen.marks; within = omega arith }

-- parts without rows have none
no_rows : (parts : List (InBlock Stub)) → rows_in (map (λ i. stub_meaning i.part) parts) ≡ []
no_rows [] = refl
no_rows (x ∷ xs) = no_rows xs

none_to_sort : (parts : List (InBlock Stub)) → IsPermutation (rows_in (map (λ i. stub_meaning i.part) parts)) []
none_to_sort parts = subst (λ rows. IsPermutation rows []) (sym (no_rows parts)) (IsPermutation-refl [])

-- parts without rows that were picked as a run
pub run_of : (g : Given) (limit : ℕ) (history : History) (parts : List (InBlock Stub)) → map (λ i. stub_meaning i.part) parts ≡ loose_upto g.book limit → IsRun g limit history → IsRunOf history (map (λ i. stub_meaning i.part) parts)
run_of g limit history parts those run = subst (λ ps. IsRunOf history ps) (sym those)
    (λ has. let r = run.range has in (r.1, run.rows has (sealed_stub (lowest (loose_upto g.book limit)) (highest (loose_upto g.book limit))) refl refl (subst (λ ps. IsPermutation (rows_in ps) []) those (none_to_sort parts))))
