-- Pages at places, and in front of bytes.
use Rattle.std.proofs.Common.{◌≡◌, ℕ, ◌+◌, ◌-◌, ◌≤◌, List, ◌++◌, length, take, drop, Result, Ok, Err, refl, sym, ap, subst, ◌∙◌, append_assoc, arith}
use Rattle.std.specs.Prelude.{slice_range}
use Rattle.std.proofs.lemmas.List.{length-append, take_at, drop_at, take-append-drop, drop-drop, length-drop, append_cancel_left}
use Rattle.fd_pages.specs.declared.fault.PageFault.{PageFault}
use Rattle.fd_pages.specs.declared.fault.PageFault.TheVariants.{BadPage, NoMemory}
use Rattle.fd_pages.specs.Pages.{Gives, SeenGives}
use Rattle.fd_codes.specs.Places.{Stands, Fronts}

-- the page at a place begins what is there
pub place_fronts : (IsSuch : List ℕ → Type 0) (bytes : List ℕ) (at end : ℕ) → Stands IsSuch bytes at end → Fronts IsSuch (drop at bytes) (drop end bytes)
place_fronts IsSuch bytes at end p =
    let e : at + (end - at) ≡ end = omega (arith, p.begin) in
    record {
      front = slice_range bytes at end;
      whole = sym (take-append-drop (end - at) (drop at bytes)) ∙ ap (λ x. take (end - at) (drop at bytes) ++ x) (drop-drop (end - at) at bytes ∙ ap (λ k. drop k bytes) e);
      page = p.page;
    }

-- what is in front of the bytes at a place is the page at that place
pub fronts_place : (IsSuch : List ℕ → Type 0) (bytes : List ℕ) (at : ℕ) (rest : List ℕ) → at ≤ length bytes → Fronts IsSuch (drop at bytes) rest → Stands IsSuch bytes at (length bytes - length rest)
fronts_place IsSuch bytes at rest within b =
    let long : length b.front + length rest ≡ length bytes - at = sym (length-append b.front rest) ∙ sym (ap length b.whole) ∙ length-drop at bytes in
    let e : (length bytes - length rest) - at ≡ length b.front = omega (arith, long, within) in
    let page : slice_range bytes at (length bytes - length rest) ≡ b.front = ap (λ k. take k (drop at bytes)) e ∙ ap (take (length b.front)) b.whole ∙ take_at b.front rest (length b.front) refl in
    record {
      begin = omega (arith, long, within);
      within = omega arith;
      page = subst IsSuch (sym page) b.page;
    }

-- the place behind what is left
pub end_is : (bytes rest : List ℕ) (end : ℕ) → end ≤ length bytes → rest ≡ drop end bytes → length bytes - length rest ≡ end
end_is bytes rest end within e = omega (arith, within, ap length e ∙ length-drop end bytes)

abbrev done : {A : Type 0} → A → Result A PageFault
done x = Ok x

bad_is : {A : Type 0} (x : A) → done x ≡ Err BadPage → ⊥
bad_is x e = absurd cc

abbrev failed : {A : Type 0} → PageFault → Result A PageFault
failed e = Err e

memory_is_bad : {A : Type 0} → failed {A = A} NoMemory ≡ failed {A = A} BadPage → ⊥
memory_is_bad e = absurd cc

wrong : {A : Type 0} (x : A) → Err BadPage ≡ done x → ⊥
wrong x e = absurd cc

-- what is bad gives no value
pub bad_none : {X Y : Type 0} (see : X → Y) (r : Result X PageFault) (y : Y) → r ≡ Err BadPage → SeenGives see r (Ok y) → ⊥
bad_none see (Ok x) y bad gives = bad_is x bad
bad_none see (Err NoMemory) y bad gives = memory_is_bad bad
bad_none see (Err BadPage) y bad gives = wrong y gives

-- an answer that gives an error in place of a value is want of memory
pub error_gives : {X Y W Z : Type 0} (see : X → Y) (seen : W → Z) (e : PageFault) (y : Y) (z : Z) → SeenGives see (Err e) (Ok y) → SeenGives seen (Err e) (Ok z)
error_gives see seen NoMemory y z h = tt
error_gives see seen BadPage y z h = absurd (wrong y h)

-- the same where the answer is not seen
pub plain_error_gives : {X W Z : Type 0} (seen : W → Z) (e : PageFault) (x : X) (z : Z) → Gives {A = X} (Err e) (Ok x) → SeenGives seen (Err e) (Ok z)
plain_error_gives seen NoMemory x z h = tt
plain_error_gives seen BadPage x z h = absurd (wrong x h)

-- a header, a body and what is behind it
pub page_whole : (bytes header rest body behind : List ℕ) (size : ℕ) → bytes ≡ header ++ rest → body ≡ take size rest → behind ≡ drop size rest → bytes ≡ (header ++ body) ++ behind
page_whole bytes header rest body behind size whole body-is behind-is =
    whole ∙ ap (λ x. header ++ x) (sym (take-append-drop size rest) ∙ ap (λ x. x ++ drop size rest) (sym body-is) ∙ ap (λ x. body ++ x) (sym behind-is)) ∙ sym (append_assoc header body behind)

-- the header and the body of a page in front of bytes
pub page_parts : (bytes page header body behind : List ℕ) → bytes ≡ page ++ behind → page ≡ header ++ body → bytes ≡ header ++ (body ++ behind)
page_parts bytes page header body behind whole parts = whole ∙ ap (λ x. x ++ behind) parts ∙ append_assoc header body behind

-- the body that is told of is the one that is there
pub body_is : (rest body behind front back : List ℕ) (size : ℕ) → rest ≡ body ++ behind → size ≡ length body → front ≡ take size rest → back ≡ drop size rest → (front ≡ body) × (back ≡ behind)
body_is rest body behind front back size whole told front-is back-is =
    (front-is ∙ ap (take size) whole ∙ take_at body behind size (sym told), back-is ∙ ap (drop size) whole ∙ drop_at body behind size (sym told))
