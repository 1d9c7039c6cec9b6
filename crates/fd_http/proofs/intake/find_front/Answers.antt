use Rattle.std.proofs.Common.{ℕ, ◌≡◌, List, length, take, min, Option, None, Some, IfNone, arith, ap, sym, subst, ◌∙◌, inl, inr}
use Rattle.std.proofs.lemmas.List.{take_all}
use Rattle.std.proofs.lemmas.Bool.{cases_lt}
use Rattle.fd_http.specs.declared.limits.TheConstants.{LONGEST_FRONT}
use Rattle.fd_http.specs.Front.{HasNoFront}
use Rattle.fd_http.specs.Search.{HasSearched}
use Rattle.fd_http.proofs.SearchLemmas.{searched_take}
use Rattle.fd_http.proofs.intake.find_front.Goals as goal

take_min : (bytes : List ℕ) (n k : ℕ) → k ≡ min (length bytes) n → take k bytes ≡ take n bytes
take_min bytes n k is = elim (cases_lt (length bytes) n) [
  | inl few ↦ take_all k bytes (omega arith) ∙ sym (take_all n bytes (omega arith))
  | inr many ↦ let same : k ≡ n = omega arith in ap (λ (m : ℕ). take m bytes) same
]

none_then : (r : Option ℕ) (P Q : Type 0) → IfNone r P → (P → Q) → IfNone r Q
none_then None P Q h f = f h
none_then (Some x) P Q h f = tt

pub front_len-requires : goal.front_len-requires
front_len-requires c = searched_take c.args.bytes.now _ c.args.search.now c.requires.searched (omega (arith, c.requires.searched.within, c.requires.short))

pub returns-clause-none : goal.returns-clause-none
returns-clause-none c =
    let P : List ℕ → Type 0 = λ seen. IfNone c.front_len.result (HasNoFront seen) in
    subst P (take_min c.args.bytes.now LONGEST_FRONT c.min.result (omega arith)) c.front_len.ensures.none

pub returns-clause-searched : goal.returns-clause-searched
returns-clause-searched c =
    none_then c.front_len.result _ _ c.front_len.ensures.searched
    (λ searched few.
    let P : List ℕ → Type 0 = λ seen. HasSearched seen c.front_len.new.self in
    subst P (take_all c.min.result c.args.bytes.now (omega arith)) searched)
