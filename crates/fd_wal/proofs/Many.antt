-- Reading many values, whatever they are.
use Rattle.std.proofs.Common.{◌≡◌, ℕ, zero, suc, ◌+◌, ◌-◌, ◌*◌, ◌^◌, ◌<◌, ◌≤◌, false, cond, ltb, List, [], ◌∷◌, ◌++◌, length, refl, sym, ap, subst, ◌∙◌, append_assoc, arith}
use Rattle.std.specs.Prelude.{Some, None, flat_map, All}
use Rattle.std.specs.List.{AllByRecursion}
use Rattle.std.specs.Int.{w32, to_le_bytes}
use Rattle.std.proofs.lemmas.Bool.{le-ltb}
use Rattle.std.proofs.lemmas.Option.{same_Some}
use Rattle.std.proofs.lemmas.List.{append-nil, length-append}
use Rattle.std.proofs.lemmas.List.Concat.{flat_map-cons}
use Rattle.std.proofs.lemmas.List.Elements.{recursion_from_All}
use Rattle.fd_kinds.specs.RowSpelling.{count_bytes}
use Rattle.fd_wal.specs.declared.fault.ReadFault.{ReadFault}
use Rattle.fd_wal.specs.declared.fault.ReadFault.TheVariants.{Malformed, NoMemory}
use Rattle.fd_wal.specs.Reading.{◌>>=◌, Reading, Fails, number_at, many_at, list_at, with_front}
use Rattle.fd_wal.proofs.Numbers.{IsBytes, bind_some, guard_some, Takes, Takes-then, wide32, number_takes, number_again}

-- ---- as a loop does

regroup : {A : Type 0} (front : List A) (x : A) (read : Reading (List A)) → with_front front (read >>= λ y. Some (x ∷ y.0, y.1)) ≡ with_front (front ++ x ∷ []) read
regroup {A} front x (Some y) = ap (λ (xs : List A). Some (xs, y.1)) (simp append_assoc)
regroup front x None = refl

pub goes_on : {A : Type 0} (read : List ℕ → Reading A) (front : List A) (count i : ℕ) (bytes : List ℕ) (x : A) (after : List ℕ) (total : Reading (List A)) → i < count → read bytes ≡ Some (x, after)
    → with_front front (many_at read (count - i) bytes) ≡ total → with_front (front ++ x ∷ []) (many_at read (count - (i + 1)) after) ≡ total
unfolding many_at
goes_on read front count i bytes x after total lt h so_far =
    let k : count - i ≡ suc (count - (i + 1)) = omega arith in
    let one : with_front front (many_at read (count - i) bytes) ≡ with_front (front ++ x ∷ []) (many_at read (count - (i + 1)) after) = rw (k, h) (regroup front x (many_at read (count - (i + 1)) after)) in
    sym one ∙ so_far

pub ends : {A : Type 0} (e : ReadFault) (read : List ℕ → Reading A) (front : List A) (count i : ℕ) (bytes : List ℕ) (total : Reading (List A)) → i < count → Fails e (read bytes)
    → with_front front (many_at read (count - i) bytes) ≡ total → Fails e total
unfolding many_at
ends NoMemory read front count i bytes total lt h so_far = tt
ends Malformed read front count i bytes total lt h so_far =
    let k : count - i ≡ suc (count - (i + 1)) = omega arith in
    let one : with_front front (many_at read (count - i) bytes) ≡ None = rw (k, h) refl in
    sym so_far ∙ one

-- what a value that is missing or wrong means for all of them
pub refuses : {A : Type 0} (read : List ℕ → Reading A) (P : A → Type 0) (front : List A) (count i : ℕ) (bytes : List ℕ) (total : Reading (List A)) → i < count
    → ((x : A) (rest : List ℕ) → read bytes ≡ Some (x, rest) → P x → ⊥) → with_front front (many_at read (count - i) bytes) ≡ total
    → (all : List A) (rest : List ℕ) → total ≡ Some (all, rest) → All P all → ⊥
unfolding many_at
refuses {A} read P front count i bytes total lt never so_far all rest is each =
    let k : count - i ≡ suc (count - (i + 1)) = omega arith in
    let same : with_front front (many_at read (suc (count - (i + 1))) bytes) ≡ Some (all, rest) = ap (λ (n : ℕ). with_front front (many_at read n bytes)) (sym k) ∙ so_far ∙ is in
    let many : Reading (List A) = many_at read (suc (count - (i + 1))) bytes in
    let a = bind_some many (λ x. Some (front ++ x.0, x.1)) (all, rest) same in
    let b = bind_some (read bytes) (λ first. many_at read (count - (i + 1)) first.1 >>= λ others. Some (first.0 ∷ others.0, others.1)) a.0 a.1 in
    let c = bind_some (many_at read (count - (i + 1)) b.0.1) (λ others. Some (b.0.0 ∷ others.0, others.1)) a.0 b.2 in
    let made : front ++ a.0.0 ≡ all = ap (λ (y : List A × List ℕ). y.0) (same_Some (front ++ a.0.0, a.0.1) (all, rest) a.2) in
    let inner : b.0.0 ∷ c.0.0 ≡ a.0.0 = ap (λ (y : List A × List ℕ). y.0) (same_Some (b.0.0 ∷ c.0.0, c.0.1) a.0 c.2) in
    let whole : front ++ b.0.0 ∷ c.0.0 ≡ all = ap (λ (t : List A). front ++ t) inner ∙ made in
    never b.0.0 b.0.1 b.1 (middle front b.0.0 c.0.0 (recursion_from_All P (front ++ b.0.0 ∷ c.0.0) (subst (λ (t : List A). All P t) (sym whole) each)))
  where
    middle : (front : List A) (x : A) (back : List A) → AllByRecursion P (front ++ x ∷ back) → P x
    middle [] x back each = each.0
    middle (y ∷ front) x back each = middle front x back each.1

pub is_done : {A : Type 0} (read : List ℕ → Reading A) (front : List A) (count i : ℕ) (bytes : List ℕ) (total : Reading (List A)) → count ≤ i → with_front front (many_at read (count - i) bytes) ≡ total → total ≡ Some (front, bytes)
unfolding many_at
is_done {A} read front count i bytes total le so_far =
    let k : count - i ≡ 0 = omega arith in
    let one : with_front front (many_at read (count - i) bytes) ≡ Some (front, bytes) = rw k (ap (λ (xs : List A). Some (xs, bytes)) (append-nil front)) in
    sym so_far ∙ one

pub begins : {A : Type 0} (read : Reading (List A)) → with_front [] read ≡ read
begins (Some x) = refl
begins None = refl

-- ---- what is read is what was spelled

pub many_take : {A : Type 0} (read : List ℕ → Reading A) (spell : A → List ℕ) (P : A → Type 0) → ((bytes : List ℕ) (x : A × List ℕ) → IsBytes bytes → read bytes ≡ Some x → Takes bytes (spell x.0) x.1 × P x.0)
    → (n : ℕ) (bytes : List ℕ) (x : List A × List ℕ) → IsBytes bytes → many_at read n bytes ≡ Some x
    → Takes bytes (flat_map spell x.0) x.1 × (length x.0 ≡ n) × AllByRecursion P x.0
unfolding many_at
many_take {A} read spell P each zero bytes x fits e =
    subst (λ (y : List A × List ℕ). Takes bytes (flat_map spell y.0) y.1 × (length y.0 ≡ 0) × AllByRecursion P y.0) (same_Some ([], bytes) x e) (record { parts = refl; rest_fits = fits }, refl, tt)
many_take {A} read spell P each (suc n) bytes x fits e =
    let a = bind_some (read bytes) (λ first. many_at read n first.1 >>= λ others. Some (first.0 ∷ others.0, others.1)) x e in
    let b = bind_some (many_at read n a.0.1) (λ others. Some (a.0.0 ∷ others.0, others.1)) x a.2 in
    let first = each bytes a.0 fits a.1 in
    let second = many_take read spell P each n a.0.1 b.0 first.0.rest_fits b.1 in
    let both = Takes-then first.0 second.0 in
    let made : List A × List ℕ = (a.0.0 ∷ b.0.0, b.0.1) in
    subst (λ (y : List A × List ℕ). Takes bytes (flat_map spell y.0) y.1 × (length y.0 ≡ suc n) × AllByRecursion P y.0) (same_Some made x b.2) (rw flat_map-cons both, ap suc second.1, (first.1, second.2))

pub many_again : {A : Type 0} (read : List ℕ → Reading A) (spell : A → List ℕ) (P : A → Type 0) → ((x : A) (rest : List ℕ) → P x → read (spell x ++ rest) ≡ Some (x, rest))
    → (xs : List A) (rest : List ℕ) → AllByRecursion P xs → many_at read (length xs) (flat_map spell xs ++ rest) ≡ Some (xs, rest)
unfolding many_at
many_again read spell P each [] rest all = refl
many_again read spell P each (x ∷ xs) rest all =
    let regrouped : flat_map spell (x ∷ xs) ++ rest ≡ spell x ++ (flat_map spell xs ++ rest) = ap (λ (t : List ℕ). t ++ rest) (flat_map-cons spell x xs) ∙ append_assoc (spell x) (flat_map spell xs) rest in
    ap (many_at read (suc (length xs))) regrouped ∙ rw (each x (flat_map spell xs ++ rest) all.0, many_again read spell P each xs rest all.1) refl

-- ---- behind their count

abbrev pub list_spelling : {A : Type 0} → (A → List ℕ) → List A → List ℕ
list_spelling spell xs = count_bytes (length xs) ++ flat_map spell xs

pub list_take : {A : Type 0} (least : ℕ) (read : List ℕ → Reading A) (spell : A → List ℕ) (P : A → Type 0) → ((bytes : List ℕ) (x : A × List ℕ) → IsBytes bytes → read bytes ≡ Some x → Takes bytes (spell x.0) x.1 × P x.0)
    → (bytes : List ℕ) (x : List A × List ℕ) → IsBytes bytes → list_at least read bytes ≡ Some x
    → Takes bytes (list_spelling spell x.0) x.1 × (length x.0 < 2 ^ 32) × AllByRecursion P x.0
unfolding list_at
list_take {A} least read spell P each bytes x fits e =
    let a = bind_some (number_at w32 bytes) (λ count. cond (ltb (length count.1) (least * count.0)) None (many_at read count.0 count.1)) x e in
    let g = guard_some (ltb (length a.0.1) (least * a.0.0)) (many_at read a.0.0 a.0.1) x a.2 in
    let n = number_takes w32 (2 ^ 32) wide32 bytes a.0 fits a.1 in
    let m = many_take read spell P each a.0.0 a.0.1 x n.0.rest_fits g.1 in
    let both = Takes-then n.0 m.0 in
    (subst (λ (k : ℕ). Takes bytes (to_le_bytes w32 k ++ flat_map spell x.0) x.1) (sym m.1) both, omega (arith, m.1, n.1), m.2)

-- each value has at least so many bytes
least_of : {A : Type 0} (least : ℕ) (spell : A → List ℕ) → ((x : A) → least ≤ length (spell x)) → (xs : List A) → least * length xs ≤ length (flat_map spell xs)
least_of least spell each [] = omega arith
least_of least spell each (x ∷ xs) =
    let more = least_of least spell each xs in
    let this = each x in
    let whole : length (flat_map spell (x ∷ xs)) ≡ length (spell x) + length (flat_map spell xs) = ap length (flat_map-cons spell x xs) ∙ length-append (spell x) (flat_map spell xs) in
    let product : least * suc (length xs) ≡ least + least * length xs = grind arith in
    omega (arith, more, this, whole, product)

pub list_again : {A : Type 0} (least : ℕ) (read : List ℕ → Reading A) (spell : A → List ℕ) (P : A → Type 0) → ((x : A) (rest : List ℕ) → P x → read (spell x ++ rest) ≡ Some (x, rest))
    → ((x : A) → least ≤ length (spell x)) → (xs : List A) (rest : List ℕ) → length xs < 2 ^ 32 → AllByRecursion P xs → list_at least read (list_spelling spell xs ++ rest) ≡ Some (xs, rest)
unfolding list_at
list_again least read spell P each long xs rest few all =
    let some : least * length xs ≤ length (flat_map spell xs ++ rest) = omega (arith, least_of least spell long xs, length-append (flat_map spell xs) rest) in
    let enough : ltb (length (flat_map spell xs ++ rest)) (least * length xs) ≡ false = le-ltb _ _ some in
    ap (list_at least read) (append_assoc (count_bytes (length xs)) (flat_map spell xs) rest)
    ∙ rw (number_again w32 (2 ^ 32) wide32 (length xs) (flat_map spell xs ++ rest) few, enough) (many_again read spell P each xs rest all)
