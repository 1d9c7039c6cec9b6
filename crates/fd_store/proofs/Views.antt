-- What a store is seen as: its history, cut behind the batches that it was opened with.
use Rattle.std.specs.Prelude.{◌≡◌, ℕ, zero, suc, ◌≤◌, ◌<◌, Bool, false, List, [], ◌∷◌, ◌++◌, take, drop, length, refl, Ok, Err, Result, OnOk, is_err}
use Rattle.std.proofs.Common.{arith, ap, sym, ◌∙◌, true≢false}
use Rattle.fd_kinds.specs.declared.limits.TheConstants.{MOST_LOOSE_PARTS}
use Rattle.fd_kinds.specs.declared.row.Row.{Row}
use Rattle.fd_kinds.specs.History.{History, LocalView, IsOpened, Adds, history_of}

-- the first batches and the others
abbrev pub view_of : ℕ → History → ℕ → Bool → LocalView
view_of opened history loose wanting = record { opening = take opened history; added = drop opened history; loose = loose; wanting = wanting }

pub joined : {A : Type 0} (k : ℕ) (xs : List A) → take k xs ++ drop k xs ≡ xs
joined zero xs = refl
joined (suc k) [] = refl
joined (suc k) (x ∷ xs) = ap (λ ys. x ∷ ys) (joined k xs)

take_gained : {A : Type 0} (k : ℕ) (xs : List A) (x : A) → k ≤ length xs → take k (xs ++ x ∷ []) ≡ take k xs
take_gained zero xs x below = refl
take_gained (suc k) [] x below = absurd (omega (arith, below))
take_gained (suc k) (y ∷ xs) x below = ap (λ ys. y ∷ ys) (take_gained k xs x (omega (arith, below)))

drop_gained : {A : Type 0} (k : ℕ) (xs : List A) (x : A) → k ≤ length xs → drop k (xs ++ x ∷ []) ≡ drop k xs ++ x ∷ []
drop_gained zero xs x below = refl
drop_gained (suc k) [] x below = absurd (omega (arith, below))
drop_gained (suc k) (y ∷ xs) x below = drop_gained k xs x (omega (arith, below))

whole : {A : Type 0} (xs : List A) → take (length xs) xs ≡ xs
whole [] = refl
whole (x ∷ xs) = ap (λ ys. x ∷ ys) (whole xs)

empty : {A : Type 0} (xs : List A) → drop (length xs) xs ≡ []
empty [] = refl
empty (x ∷ xs) = empty xs

-- a store that is opened with all of a history
pub opened_whole : (history : History) (count loose : ℕ) → length history ≡ count → IsOpened history (view_of count history loose false)
opened_whole history count loose counted =
    record { opening = ap (λ n. take n history) (sym counted) ∙ whole history; added = ap (λ n. drop n history) (sym counted) ∙ empty history }

-- a history that gains a batch
pub adds : (opened : ℕ) (history gained : History) (loose old_loose : ℕ) (wanting old_wanting : Bool) (rows : List Row) (old : LocalView)
    → view_of opened history old_loose old_wanting ≡ old → opened ≤ length history → gained ≡ history ++ rows ∷ []
    → (wanting ≡ false → loose < MOST_LOOSE_PARTS) → Adds old rows (view_of opened gained loose wanting)
adds opened history gained loose old_loose wanting old_wanting rows old is below more few = record {
  opening = ap (take opened) more ∙ take_gained opened history rows below ∙ ap (λ (v : LocalView). v.opening) is;
  added = ap (drop opened) more ∙ drop_gained opened history rows below ∙ ap (λ (v : LocalView). v.added ++ rows ∷ []) is;
  compacted = few;
}

-- the history of the view is the store's
pub history_is : (opened : ℕ) (history : History) (loose : ℕ) (wanting : Bool) (old : LocalView) → view_of opened history loose wanting ≡ old → history_of old ≡ history
history_is opened history loose wanting old is = ap history_of (sym is) ∙ joined opened history

-- what is so after success, where the answer is told to be one
pub few_left : {A E : Type 0} {P : Type 0} (result : Result A E) → is_err result ≡ false → OnOk result P → P
few_left (Ok a) told held = held
few_left (Err e) told held = absurd (true≢false told)
