-- The first number of the active block that no sealed part holds.
use Rattle.std.specs.Prelude.{◌≡◌, ℕ, ◌+◌, ◌-◌, ◌≤◌, ◌<◌, Bool, true, false, if◌then◌else◌, List, [], ◌∷◌, ◌++◌, length, take, drop, flat_map, refl}
use Rattle.std.proofs.Common.{arith, ap, sym, ◌∙◌, subst, inl, inr, true≢false}
use Rattle.std.proofs.lemmas.List.{take-append-drop, drop-drop, length-append}
use Rattle.fd_kinds.specs.Parts.{PartMeaning, IsPart}
use Rattle.fd_shelf.specs.Books.{Shelved, Each, Follows, IsLoose, IsSealed}
use Rattle.fd_shelf.specs.Layout.{spliced}
use Rattle.fd_shelf.specs.Marks.{IsBook}
use Rattle.fd_shelf.specs.Numbers.{IsIn, IsInSealed, first_unsealed, first_loose, KeepsFirst}
use Rattle.fd_shelf.specs.Replacement.{IsInOrder, IsRunAt}
use Rattle.fd_shelf.specs.Steps.{is_full}
use Rattle.fd_shelf.proofs.BookEnds.{settled_upto}
use Rattle.fd_shelf.proofs.BookLaws.{each_back}
use Rattle.fd_shelf.proofs.NumberLaws.{held_from, sealed_from}
use Rattle.fd_shelf.proofs.ReplacementLaws.{run_parts}
use Rattle.fd_shelf.proofs.Runs.{follows_split}

by_seal : {A : Type 0} (p : PartMeaning) (b : Bool) → p.sealed ≡ b → (IsSealed p → A) → (IsLoose p → A) → A
by_seal p true is sealed loose = sealed is
by_seal p false is sealed loose = loose is

skip : (other : ℕ) (p : PartMeaning) (ps : List PartMeaning) → IsSealed p → first_unsealed other (p ∷ ps) ≡ first_unsealed other ps
skip other p ps sealed = ap (λ b. if b then first_unsealed other ps else p.lo) sealed

here_is : (other : ℕ) (p : PartMeaning) (ps : List PartMeaning) → IsLoose p → first_unsealed other (p ∷ ps) ≡ p.lo
here_is other p ps loose = ap (λ b. if b then first_unsealed other ps else p.lo) loose

-- behind sealed parts
behind_sealed : (other : ℕ) (xs ys : List PartMeaning) → Each IsSealed xs → first_unsealed other (xs ++ ys) ≡ first_unsealed other ys
behind_sealed other [] ys sealed = refl
behind_sealed other (x ∷ xs) ys sealed = skip other x (xs ++ ys) sealed.0 ∙ behind_sealed other xs ys sealed.1

-- of loose parts that follow one another
of_loose : (first mark : ℕ) (parts : List PartMeaning) → Follows first parts mark → Each IsLoose parts → first_unsealed (mark + 1) parts ≡ first
of_loose first mark [] follows loose = sym follows
of_loose first mark (p ∷ ps) follows loose = here_is (mark + 1) p ps loose.0 ∙ follows.0

-- a loose part that comes behind all takes the place of the number behind the mark
pushed_loose : (other next : ℕ) (parts : List PartMeaning) (p : PartMeaning) → IsLoose p → p.lo ≡ next → first_unsealed other (parts ++ p ∷ []) ≡ first_unsealed next parts
pushed_loose other next [] p loose same = here_is other p [] loose ∙ same
pushed_loose other next (q ∷ qs) p loose same = ap (λ n. if q.sealed then n else q.lo) (pushed_loose other next qs p loose same)

-- The number is not below the first ..
first_low : (first mark : ℕ) (parts : List PartMeaning) → Follows first parts mark → first ≤ first_unsealed (mark + 1) parts
first_low first mark [] follows = omega (arith, follows)
first_low first mark (p ∷ ps) follows =
    by_seal p p.sealed refl
    (λ sealed. let later = first_low (p.hi + 1) mark ps follows.2 in let same = skip (mark + 1) p ps sealed in omega (arith, later, same, follows.0, follows.1))
    (λ loose. let same = here_is (mark + 1) p ps loose in omega (arith, same, follows.0))

-- .. no sealed part holds it ..
first_unheld : (first mark : ℕ) (parts : List PartMeaning) → Follows first parts mark → IsInSealed (first_unsealed (mark + 1) parts) parts → ⊥
first_unheld first mark [] follows inside = inside
first_unheld first mark (p ∷ ps) follows inside =
    by_seal p p.sealed refl
    (λ sealed. in_rest (first_low (p.hi + 1) mark ps follows.2) (first_unheld (p.hi + 1) mark ps follows.2) (subst (λ n. IsInSealed n (p ∷ ps)) (skip (mark + 1) p ps sealed) inside))
    (λ loose. in_loose loose (subst (λ n. IsInSealed n (p ∷ ps)) (here_is (mark + 1) p ps loose) inside))
  where
    in_rest : p.hi + 1 ≤ first_unsealed (mark + 1) ps → (IsInSealed (first_unsealed (mark + 1) ps) ps → ⊥) → IsInSealed (first_unsealed (mark + 1) ps) (p ∷ ps) → ⊥
    in_rest low later (inl here) = omega (arith, low, here.1.1)
    in_rest low later (inr there) = later there

    in_loose : IsLoose p → IsInSealed p.lo (p ∷ ps) → ⊥
    in_loose loose (inl here) = true≢false (sym here.0 ∙ loose)
    in_loose loose (inr there) = let from = sealed_from p.lo (p.hi + 1) mark ps follows.2 there in omega (arith, from, follows.1)

-- .. and each number of the parts below it is in a sealed one.
below_sealed : (first mark number : ℕ) (parts : List PartMeaning) → Follows first parts mark → IsIn number parts → number < first_unsealed (mark + 1) parts → IsInSealed number parts
below_sealed first mark number [] follows inside below = inside
below_sealed first mark number (p ∷ ps) follows inside below =
    by_seal p p.sealed refl
    (λ sealed.
    let less : number < first_unsealed (mark + 1) ps = subst (λ n. number < n) (skip (mark + 1) p ps sealed) below in
    in_rest sealed (λ there. below_sealed (p.hi + 1) mark number ps follows.2 there less) inside)
    (λ loose. let from = held_from number first mark (p ∷ ps) follows inside in let same = here_is (mark + 1) p ps loose in absurd (omega (arith, below, same, from, follows.0)))
  where
    in_rest : IsSealed p → (IsIn number ps → IsInSealed number ps) → IsIn number (p ∷ ps) → IsInSealed number (p ∷ ps)
    in_rest sealed later (inl here) = inl (sealed, here)
    in_rest sealed later (inr there) = inr (later there)

pub loose_unheld : (shelf : Shelved) → IsBook shelf.book shelf.mark → IsInSealed (first_loose shelf) shelf.book.active → ⊥
loose_unheld shelf order =
    let flat = flat_map (λ (block : List PartMeaning). block) shelf.book.closed in
    let meets = follows_split 1 shelf.mark flat shelf.book.active (omega arith) (settled_upto order) in
    first_unheld (meets.mid + 1) shelf.mark shelf.book.active meets.back

pub loose_below : (shelf : Shelved) → IsBook shelf.book shelf.mark → (number : ℕ) → IsIn number shelf.book.active → number < first_loose shelf → IsInSealed number shelf.book.active
loose_below shelf order number =
    let flat = flat_map (λ (block : List PartMeaning). block) shelf.book.closed in
    let meets = follows_split 1 shelf.mark flat shelf.book.active (omega arith) (settled_upto order) in
    below_sealed (meets.mid + 1) shelf.mark number shelf.book.active meets.back

pub first_same : (old new : Shelved) → new ≡ old → KeepsFirst old new
first_same old new same = subst (λ (shelf : Shelved). KeepsFirst old shelf) (sym same) (record { grows = omega arith; stays = λ _. refl })

pub first_then : (a b c : Shelved) → KeepsFirst a b → KeepsFirst b c → KeepsFirst a c
first_then a b c first later =
    let one = first.grows in
    let two = later.grows in
    record {
      grows = omega (arith, one, two);
      stays = λ counted. later.stays (omega (arith, counted, one, two)) ∙ first.stays (omega (arith, counted, one, two));
    }

joined_first_by : (full : Bool) (closed : List (List PartMeaning)) (active stragglers ps : List PartMeaning) (p : PartMeaning) (mark spare : ℕ) → IsLoose p → p.lo ≡ mark + 1
    → KeepsFirst (record { book = record { closed = closed; active = active; stragglers = stragglers }; mark = mark; spare = spare })
    (record { book = record { closed = if full then closed ++ active ∷ [] else closed; active = if full then p ∷ [] else active ++ p ∷ []; stragglers = ps }; mark = mark + 1; spare = spare })
joined_first_by true closed active stragglers ps p mark spare loose next =
    let more : length (closed ++ active ∷ []) ≡ length closed + 1 = length-append closed (active ∷ []) in
    record { grows = omega (arith, more); stays = λ counted. absurd (omega (arith, more, counted)) }
joined_first_by false closed active stragglers ps p mark spare loose next = record { grows = omega arith; stays = λ _. pushed_loose (mark + 1 + 1) (mark + 1) active p loose next }

-- A straggler that joins the blocks keeps it.
pub joined_first : (closed closed_now : List (List PartMeaning)) (active active_now stragglers ps : List PartMeaning) (p : PartMeaning) (mark spare : ℕ) → IsLoose p → p.lo ≡ mark + 1
    → closed_now ≡ (if is_full active then closed ++ active ∷ [] else closed)
    → active_now ≡ (if is_full active then p ∷ [] else active ++ p ∷ [])
    → KeepsFirst (record { book = record { closed = closed; active = active; stragglers = stragglers }; mark = mark; spare = spare })
    (record { book = record { closed = closed_now; active = active_now; stragglers = ps }; mark = mark + 1; spare = spare })
joined_first closed closed_now active active_now stragglers ps p mark spare loose next is_closed is_active =
    rw is_closed (rw is_active (joined_first_by (is_full active) closed active stragglers ps p mark spare loose next))

-- A loose part behind all others keeps it, and a sealed one moves it behind its last number.
pub appended_loose : (active : List PartMeaning) (p : PartMeaning) (mark : ℕ) → p.lo ≡ mark + 1 → IsLoose p → first_unsealed (p.hi + 1) (active ++ p ∷ []) ≡ first_unsealed (mark + 1) active
appended_loose active p mark next loose = pushed_loose (p.hi + 1) (mark + 1) active p loose next

pub appended_sealed : (active : List PartMeaning) (p : PartMeaning) → IsSealed p → Each IsSealed active → first_unsealed (p.hi + 1) (active ++ p ∷ []) ≡ p.hi + 1
appended_sealed active p sealed all = behind_sealed (p.hi + 1) active (p ∷ []) all ∙ skip (p.hi + 1) p [] sealed

-- The run that a sealed part replaces begins with it ..
pub run_first : (active : List PartMeaning) (mark lo hi at : ℕ) → IsRunAt active mark lo hi at → first_unsealed (mark + 1) active ≡ lo
run_first active mark lo hi at run =
    ap (first_unsealed (mark + 1)) (sym (take-append-drop at active))
    ∙ behind_sealed (mark + 1) (take at active) (drop at active) run.sealed
    ∙ of_loose lo mark (drop at active) run.follows run.loose

-- .. and moves it behind its last number.
pub replaced_first : (active : List PartMeaning) (mark lo hi at : ℕ) (part : PartMeaning) → IsInOrder active mark → IsRunAt active mark lo hi at → IsSealed part → lo ≤ hi
    → first_unsealed (mark + 1) (spliced at (hi - lo + 1) part active) ≡ hi + 1
replaced_first active mark lo hi at part order run sealed ordered =
    let count : ℕ = hi - lo + 1 in
    let behind = drop at active in
    let behind_are = each_back IsPart (take at active) behind (subst (λ (ps : List PartMeaning). Each IsPart ps) (sym (take-append-drop at active)) order.are) in
    let runs = run_parts lo hi mark count behind run.follows behind_are run.loose (omega (arith, ordered)) run.bounded in
    let cut_loose : Each IsLoose (take count behind ++ drop count behind) = rw (take-append-drop count behind) run.loose in
    behind_sealed (mark + 1) (take at active) (part ∷ drop (at + count) active) run.sealed
    ∙ skip (mark + 1) part (drop (at + count) active) sealed
    ∙ ap (first_unsealed (mark + 1)) (sym (drop-drop count at active))
    ∙ of_loose (hi + 1) mark (drop count behind) runs.1 (each_back IsLoose (take count behind) (drop count behind) cut_loose)
