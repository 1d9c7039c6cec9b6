-- A dictionary and a page with its indexes, byte by byte, and the same with a fault.
use Rattle.std.proofs.Common.{◌≡◌, ℕ, ◌<◌, ◌^◌, Bool, true, List, [], ◌∷◌, ◌++◌, length, inl, refl, sym, ap, subst, ◌∙◌, append_assoc, arith, length-append, lit<, lit≤}
use Rattle.std.specs.declared.cmp.Ordering.TheVariants.{Less, Greater}
use Rattle.std.proofs.lemmas.List.{append-nil, append_cancel_left}
use Rattle.std.specs.List.Sorted.{IsStrictlySortedBy}
use Rattle.std.proofs.lemmas.List.Elements.{All-from_recursion}
use Rattle.fd_hybrid.specs.Digits.{number, digits}
use Rattle.fd_hybrid.specs.Runs.{packed}
use Rattle.fd_hybrid.specs.Format.{IsSpelling}
use Rattle.fd_thrift.specs.Format.{varint}
use Rattle.fd_pages.specs.declared.cell.CellKind.TheVariants.{Bytes as BytesKind}
use Rattle.fd_pages.specs.declared.cell.Cell.{Cell}
use Rattle.fd_pages.specs.declared.cell.Cell.TheVariants.{Bytes}
use Rattle.fd_pages.specs.Columns.{IsOfColumn}
use Rattle.fd_pages.specs.Pages.{page_header_in}
use Rattle.fd_pages.specs.Dictionaries.{dictionary_header_bytes, code_header_bytes, dictionary_body, AreRising, IsDictionary, AreIndexes, IsCodePage}
use Rattle.fd_pages.proofs.OnePage.{OneSpelling}
use Rattle.fd_pages.proofs.OneDictionary.{IsPageOf, page_of, one_page_of}
use Rattle.fd_pages.proofs.OneCodePage.{header_spells, header_is}

abbrev two_texts : List (List ℕ)
two_texts = (97 ∷ []) ∷ (98 ∷ []) ∷ []

abbrev three_cells : List Cell
three_cells = Bytes (97 ∷ []) ∷ Bytes (98 ∷ []) ∷ Bytes (97 ∷ []) ∷ []

rising : AreRising two_texts
unfolding IsStrictlySortedBy
rising = ((refl, tt), (tt, tt))

pub dictionary : IsDictionary two_texts (21 ∷ 4 ∷ 21 ∷ 20 ∷ 21 ∷ 20 ∷ 76 ∷ 21 ∷ 4 ∷ 21 ∷ 0 ∷ 0 ∷ 0 ∷ 1 ∷ 0 ∷ 0 ∷ 0 ∷ 97 ∷ 1 ∷ 0 ∷ 0 ∷ 0 ∷ 98 ∷ [])
unfolding dictionary_header_bytes dictionary_body varint
dictionary = record {
  rising = rising;
  fit = All-from_recursion (λ text. length text < 2 ^ 32) two_texts (lit< tt, (lit< tt, tt));
  few = lit< tt;
  small = lit< tt;
  whole = refl;
}

runs : IsSpelling 1 (0 ∷ 1 ∷ 0 ∷ []) (3 ∷ 2 ∷ [])
unfolding number digits
runs = (
  packed ((0 ∷ 1 ∷ 0 ∷ []) ∷ []) ∷ [],
  ([], refl, λ e. cc, ((lit< tt, lit≤ tt, λ few. refl), lit< tt, inl refl), refl),
  (3 ∷ 2 ∷ [], [], refl, (3 ∷ [], (lit< tt, refl), refl), refl),
)

indexes : AreIndexes two_texts three_cells (1 ∷ 3 ∷ 2 ∷ [])
indexes = record {
  width = 1;
  wide = record { some = lit≤ tt; holds = lit≤ tt; least = λ other some holds. some };
  indexes = 0 ∷ 1 ∷ 0 ∷ [];
  are = (refl, (refl, (refl, tt)));
  runs = 3 ∷ 2 ∷ [];
  spelled = runs;
  whole = refl;
}

pub code_page : IsCodePage true two_texts three_cells (21 ∷ 0 ∷ 21 ∷ 6 ∷ 21 ∷ 6 ∷ 44 ∷ 21 ∷ 6 ∷ 21 ∷ 16 ∷ 21 ∷ 6 ∷ 21 ∷ 6 ∷ 0 ∷ 0 ∷ 1 ∷ 3 ∷ 2 ∷ [])
unfolding code_header_bytes varint
code_page = record {
  some = lit< tt;
  few = lit≤ tt;
  column = All-from_recursion (IsOfColumn BytesKind true) three_cells (tt, (tt, (tt, tt)));
  body = 1 ∷ 3 ∷ 2 ∷ [];
  spelled = indexes;
  small = lit< tt;
  whole = refl;
}

-- ---- the same with a fault

abbrev turned : List (List ℕ)
turned = (98 ∷ []) ∷ (97 ∷ []) ∷ []

falling : AreRising turned → ⊥
unfolding IsStrictlySortedBy
falling h = let e : Greater ≡ Less = h.0.0 in absurd cc

abbrev exchanged_page : List ℕ
exchanged_page = 21 ∷ 4 ∷ 21 ∷ 20 ∷ 21 ∷ 20 ∷ 76 ∷ 21 ∷ 4 ∷ 21 ∷ 0 ∷ 0 ∷ 0 ∷ 1 ∷ 0 ∷ 0 ∷ 0 ∷ 98 ∷ 1 ∷ 0 ∷ 0 ∷ 0 ∷ 97 ∷ []

page_of_turned : IsPageOf turned exchanged_page
unfolding dictionary_header_bytes dictionary_body varint
page_of_turned = record { fit = (lit< tt, (lit< tt, tt)); few = lit< tt; small = lit< tt; whole = refl }

-- exchanged texts are in no dictionary
pub exchanged : OneSpelling → (texts : List (List ℕ)) (page rest : List ℕ) → page ++ rest ≡ exchanged_page → IsDictionary texts page → ⊥
exchanged one_spelling texts page rest e is =
    let same = one_page_of one_spelling texts turned page exchanged_page rest [] (page_of texts page is) page_of_turned (e ∙ sym (append-nil exchanged_page)) in
    falling (subst (λ (ts : List (List ℕ)). AreRising ts) same.0 is.rising)

abbrev cut_page : List ℕ
cut_page = 21 ∷ 0 ∷ 21 ∷ 6 ∷ 21 ∷ 6 ∷ 44 ∷ 21 ∷ 6 ∷ 21 ∷ 16 ∷ 21 ∷ 6 ∷ 21 ∷ 6 ∷ 0 ∷ 0 ∷ 1 ∷ 3 ∷ []

cut_parts : cut_page ≡ code_header_bytes 3 3 ++ (1 ∷ 3 ∷ [])
unfolding code_header_bytes varint
cut_parts = refl

-- a page without its last byte is none
pub cut : OneSpelling → (required : Bool) (texts : List (List ℕ)) (cells : List Cell) (page rest : List ℕ) → page ++ rest ≡ cut_page → IsCodePage required texts cells page → ⊥
cut one_spelling required texts cells page rest e is =
    let header = code_header_bytes (length cells) (length is.body) in
    let joined : header ++ (is.body ++ rest) ≡ code_header_bytes 3 3 ++ (1 ∷ 3 ∷ []) =
    sym (append_assoc header is.body rest) ∙ ap (λ t. t ++ rest) (sym is.whole) ∙ e ∙ cut_parts in
    let headers = one_spelling header (code_header_bytes 3 3) (is.body ++ rest) (1 ∷ 3 ∷ []) (page_header_in 8 (length cells) (length is.body)) (page_header_in 8 3 3)
    (header_spells (length cells) (length is.body) (omega (arith, is.few)) is.small) (header_spells 3 3 (omega arith) (omega arith)) joined in
    let sizes = header_is (length cells) (length is.body) 3 3 headers.0 in
    let rests : is.body ++ rest ≡ 1 ∷ 3 ∷ [] = append_cancel_left header (is.body ++ rest) (1 ∷ 3 ∷ []) (joined ∙ ap (λ h. h ++ (1 ∷ 3 ∷ [])) (sym headers.1)) in
    omega (arith, sizes.1, ap length rests, length-append is.body rest)
