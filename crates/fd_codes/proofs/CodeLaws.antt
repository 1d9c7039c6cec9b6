-- The page with indexes, written and read.
use Rattle.std.proofs.Common.{◌≡◌, ℕ, ◌^◌, ◌<◌, ◌≤◌, Bool, List, ◌++◌, length, take, drop, refl, sym, ap, ◌∙◌, arith}
use Rattle.std.proofs.lemmas.List.{length-take-le, length-append}
use Rattle.fd_pages.specs.declared.cell.Cell.{Cell}
use Rattle.fd_pages.specs.Dictionaries.{code_header_bytes}
use Rattle.fd_codes.specs.declared.page_type.PageType.TheVariants.{Codes}
use Rattle.fd_codes.specs.Headers.{header_text}
use Rattle.fd_codes.specs.Codes.{HasBody, IsPickBody}
use Rattle.fd_codes.specs.Places.{Fronts, IsCodePageOf, IsPickPage}
use Rattle.fd_codes.proofs.Places.{page_whole, page_parts, body_is}
use Rattle.fd_codes.proofs.HeaderLaws.{page_done, pair, pair_is, sizes_are}

header_is : (count size : ℕ) → header_text Codes count size ≡ code_header_bytes count size
unfolding header_text code_header_bytes
header_is count size = refl

code_page_is : (required : Bool) (texts : List (List ℕ)) (count : ℕ) (cells : List Cell) (page header body : List ℕ) → 0 < count → count ≤ 1000 → HasBody required texts count body cells → length body < 2 ^ 31
    → header ≡ header_text Codes count (length body) → page ≡ header ++ body → IsCodePageOf required texts count cells page
code_page_is required texts count cells page header body some few h small head-is page-is = record {
  counted = h.counted;
  page = record {
    some = omega (arith, some, h.counted);
    few = omega (arith, few, h.counted);
    column = h.column;
    body = body;
    spelled = h.spelled;
    small = small;
    whole = page-is ∙ ap (λ t. t ++ body) (head-is ∙ ap (λ n. header_text Codes n (length body)) (sym h.counted) ∙ header_is (length cells) (length body));
  };
}

pub pick_page_is : (required : Bool) (size count : ℕ) (picks page header body : List ℕ) → 0 < count → count ≤ 1000 → IsPickBody required size count body picks → length body < 2 ^ 31
    → header ≡ header_text Codes count (length body) → page ≡ header ++ body → IsPickPage required size count picks page
pick_page_is required size count picks page header body some few p small head-is page-is = record {
  within = p.within;
  cells = λ texts same. code_page_is required texts count _ page header body some few (p.cells texts same) small head-is page-is;
}

pub pick_front : (required : Bool) (bytes rest body behind : List ℕ) (size count told : ℕ) (picks : List ℕ) → 0 < count → count ≤ 1000 → bytes ≡ header_text Codes count told ++ rest → told < 2 ^ 31 → told ≤ length rest
    → body ≡ take told rest → behind ≡ drop told rest → IsPickBody required size count body picks → Fronts (IsPickPage required size count picks) bytes behind
pick_front required bytes rest body behind size count told picks some few whole small within body-is behind-is p =
    let len : length body ≡ told = ap length body-is ∙ length-take-le told rest within in
    let header : List ℕ = header_text Codes count told in
    record {
      front = header ++ body;
      whole = page_whole bytes header rest body behind told whole body-is behind-is;
      page = pick_page_is required size count picks (header ++ body) header body some few p (omega (arith, small, len)) (ap (header_text Codes count) (sym len)) refl;
    }

-- the header and the body of a page in front of bytes
pub record Parts (required : Bool) (texts : List (List ℕ)) (count : ℕ) (cells : List Cell) (bytes rest : List ℕ) : Type 0 where
  pub body : List ℕ
  pub has : HasBody required texts count body cells
  pub some : 0 < count
  pub few : count ≤ 1000
  pub small : length body < 2 ^ 31
  pub whole : bytes ≡ header_text Codes count (length body) ++ (body ++ rest)

pub code_parts : (required : Bool) (texts : List (List ℕ)) (count : ℕ) (cells : List Cell) (bytes rest : List ℕ) → Fronts (IsCodePageOf required texts count cells) bytes rest → Parts required texts count cells bytes rest
code_parts required texts count cells bytes rest b =
    let p = b.page.page in
    let counted : length cells ≡ count = b.page.counted in
    record {
      body = p.body;
      has = record { counted = counted; column = p.column; spelled = p.spelled };
      some = omega (arith, p.some, counted);
      few = omega (arith, p.few, counted);
      small = p.small;
      whole = page_parts bytes b.front (header_text Codes count (length p.body)) p.body rest b.whole
          (p.whole ∙ ap (λ t. t ++ p.body) (sym (header_is (length cells) (length p.body)) ∙ ap (λ n. header_text Codes n (length p.body)) counted));
    }

-- the count and the size that the header of this body tells, and what is behind it
pub record Told (body : List ℕ) (count told size : ℕ) (rest behind : List ℕ) : Type 0 where
  pub counted : told ≡ count
  pub sized : size ≡ length body
  pub left : rest ≡ body ++ behind

pub header_told : (body : List ℕ) (count told size : ℕ) (rest behind : List ℕ)
    → page_done {A = (ℕ × ℕ) × List ℕ} (pair told size, rest) ≡ page_done {A = (ℕ × ℕ) × List ℕ} (pair count (length body), body ++ behind) → Told body count told size rest behind
header_told body count told size rest behind e =
    let t = pair_is (pair told size) (pair count (length body)) rest (body ++ behind) e in
    let s = sizes_are told count size (length body) t.0 in
    record { counted = s.0; sized = s.1; left = t.1 }

pub long_enough : (body : List ℕ) (count told size : ℕ) (rest behind : List ℕ) → Told body count told size rest behind → size ≤ length rest
long_enough body count told size rest behind t = omega (arith, t.sized, ap length t.left, length-append body behind)

pub body_told : (body : List ℕ) (count told size : ℕ) (rest behind front back : List ℕ) → Told body count told size rest behind → front ≡ take size rest → back ≡ drop size rest → (front ≡ body) × (back ≡ behind)
body_told body count told size rest behind front back t front-is back-is = body_is rest body behind front back size t.left t.sized front-is back-is
