-- No bytes are the dictionaries of two lists of texts, and none begins another.
use Rattle.std.proofs.Common.{◌≡◌, ℕ, ◌^◌, ◌<◌, List, [], ◌∷◌, ◌++◌, length, refl, sym, ap, ◌∙◌, arith, lit<, lit≤}
use Rattle.std.specs.List.{AllByRecursion, flat_map}
use Rattle.std.proofs.lemmas.List.Elements.{recursion_from_All}
use Rattle.fd_thrift.specs.Format.{Spells, IsFormed}
use Rattle.fd_pages.specs.Columns.{sized}
use Rattle.fd_pages.specs.Reader.{sized_at}
use Rattle.fd_pages.specs.Dictionaries.{dictionary_page_header, dictionary_header, dictionary_header_bytes, dictionary_body, IsDictionary}
use Rattle.fd_pages.proofs.Numbers.{sized_again}
use Rattle.fd_pages.proofs.Bodies.{split_is}
use Rattle.fd_pages.proofs.HeaderLaws.{fits_whole}
use Rattle.fd_pages.proofs.Fronts.{same_front, same_body}
use Rattle.fd_pages.proofs.OnePage.{OneSpelling}

header_spells : (count size : ℕ) → count < 2 ^ 31 → size < 2 ^ 31 → Spells (dictionary_header_bytes count size) (dictionary_header count size)
unfolding dictionary_header_bytes
header_spells count size counted small = record {
  legal = record { struct = refl; within = lit≤ tt; formed = ((lit< tt, lit≤ tt, lit≤ tt), tt, ((lit< tt, lit≤ tt, lit≤ tt), tt, ((lit< tt, lit≤ tt, lit≤ tt), tt, ((lit< tt, lit≤ tt, lit≤ tt), numbered, tt)))) };
  fits = (fits_whole 2 (omega arith), (fits_whole size small, (fits_whole size small, ((fits_whole count counted, (fits_whole 0 (omega arith), tt)), tt))));
  whole = refl;
}
  where
    numbered : IsFormed (dictionary_page_header count)
    numbered = ((lit< tt, lit≤ tt, lit≤ tt), tt, ((lit< tt, lit≤ tt, lit≤ tt), tt, tt))

header_is : (count size count' size' : ℕ) → dictionary_header count size ≡ dictionary_header count' size' → (count ≡ count') × (size ≡ size')
header_is count size count' size' e = (cc, cc)

-- texts are told by their bytes
one_texts : (texts others : List (List ℕ)) → length texts ≡ length others → AllByRecursion (λ text. length text < 2 ^ 32) texts → AllByRecursion (λ text. length text < 2 ^ 32) others
    → flat_map sized texts ≡ flat_map sized others → texts ≡ others
one_texts [] [] len fit fit' e = refl
one_texts [] (u ∷ us) len fit fit' e = absurd (omega (arith, len))
one_texts (t ∷ ts) [] len fit fit' e = absurd (omega (arith, len))
one_texts (t ∷ ts) (u ∷ us) len fit fit' e =
    let parts = split_is t (flat_map sized ts) u (flat_map sized us)
    (sym (sized_again t (flat_map sized ts) fit.0) ∙ ap sized_at e ∙ sized_again u (flat_map sized us) fit'.0) in
    let behind = one_texts ts us (omega (arith, len)) fit.1 fit'.1 parts.1 in
    λ i. parts.0 i ∷ behind i

-- the page of a dictionary, in whatever order its texts stand
pub record IsPageOf (texts : List (List ℕ)) (page : List ℕ) : Type 0 where
  pub fit : AllByRecursion (λ text. length text < 2 ^ 32) texts
  pub few : length texts < 2 ^ 31
  pub small : length (dictionary_body texts) < 2 ^ 31
  pub whole : page ≡ dictionary_header_bytes (length texts) (length (dictionary_body texts)) ++ dictionary_body texts

pub page_of : (texts : List (List ℕ)) (page : List ℕ) → IsDictionary texts page → IsPageOf texts page
page_of texts page is = record { fit = recursion_from_All (λ text. length text < 2 ^ 32) texts is.fit; few = is.few; small = is.small; whole = is.whole }

one_body : (texts others : List (List ℕ)) (a b : List ℕ) → length texts ≡ length others → IsPageOf texts a → IsPageOf others b → dictionary_body texts ≡ dictionary_body others → texts ≡ others
unfolding dictionary_body
one_body texts others a b len p q e = one_texts texts others len p.fit q.fit e

pub one_page_of : OneSpelling → (texts others : List (List ℕ)) (a b x y : List ℕ) → IsPageOf texts a → IsPageOf others b → a ++ x ≡ b ++ y → (texts ≡ others) × (a ≡ b)
one_page_of one_spelling texts others a b x y p q e =
    let body : List ℕ = dictionary_body texts in
    let body' : List ℕ = dictionary_body others in
    let header = dictionary_header_bytes (length texts) (length body) in
    let header' = dictionary_header_bytes (length others) (length body') in
    let joined = same_front header body a x header' body' b y p.whole q.whole e in
    let headers = one_spelling header header' (body ++ x) (body' ++ y) (dictionary_header (length texts) (length body)) (dictionary_header (length others) (length body'))
    (header_spells (length texts) (length body) p.few p.small) (header_spells (length others) (length body') q.few q.small) joined in
    let sizes = header_is (length texts) (length body) (length others) (length body') headers.0 in
    let bodies = same_body header body x header' body' y joined headers.1 sizes.1 in
    (one_body texts others a b sizes.0 p q bodies, p.whole ∙ ap (λ h. h ++ body) headers.1 ∙ ap (λ t. header' ++ t) bodies ∙ sym q.whole)

pub one_dictionary : OneSpelling → (texts others : List (List ℕ)) (a b x y : List ℕ) → IsDictionary texts a → IsDictionary others b → a ++ x ≡ b ++ y → (texts ≡ others) × (a ≡ b)
one_dictionary one_spelling texts others a b x y p q e = one_page_of one_spelling texts others a b x y (page_of texts a p) (page_of others b q) e
