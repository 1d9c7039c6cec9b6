-- The page of a dictionary, written and read.
use Rattle.std.proofs.Common.{◌≡◌, ℕ, ◌+◌, ◌*◌, ◌^◌, ◌<◌, ◌≤◌, List, ◌++◌, length, take, drop, refl, sym, ap, ◌∙◌, arith}
use Rattle.std.proofs.lemmas.List.{length-take-le, length-append}
use Rattle.fd_pages.specs.Dictionaries.{AreRising, dictionary_header_bytes, dictionary_body, IsDictionary}
use Rattle.fd_codes.specs.declared.page_type.PageType.TheVariants.{Dictionary}
use Rattle.fd_codes.specs.Headers.{header_text}
use Rattle.fd_codes.specs.Texts.{AreTexts}
use Rattle.fd_codes.specs.Places.{Fronts}
use Rattle.fd_codes.proofs.TextLaws.{texts_few, text_within}
use Rattle.fd_codes.proofs.Places.{page_whole, page_parts, body_is}
use Rattle.fd_codes.proofs.HeaderLaws.{page_done, pair, pair_is, sizes_are}

header_is : (count size : ℕ) → header_text Dictionary count size ≡ dictionary_header_bytes count size
unfolding header_text dictionary_header_bytes
header_is count size = refl

pub dictionary_is : (texts : List (List ℕ)) (page header body : List ℕ) → AreRising texts → length (dictionary_body texts) < 2 ^ 31 → header ≡ header_text Dictionary (length texts) (length body) → body ≡ dictionary_body texts → page ≡ header ++ body
    → IsDictionary texts page
dictionary_is texts page header body rising small header-is body-is page-is = record {
  rising = rising;
  fit = text_within texts (2 ^ 32) (omega (arith, small));
  few = omega (arith, small, texts_few texts);
  small = small;
  whole =
      page-is
      ∙ ap (λ h. h ++ body) (header-is ∙ ap (λ b. header_text Dictionary (length texts) (length b)) body-is ∙ header_is (length texts) (length (dictionary_body texts)))
      ∙ ap (λ b. dictionary_header_bytes (length texts) (length (dictionary_body texts)) ++ b) body-is;
}

-- a header, and texts behind it
pub dictionary_front : (bytes rest body behind : List ℕ) (count size : ℕ) (texts : List (List ℕ)) → bytes ≡ header_text Dictionary count size ++ rest → size < 2 ^ 31 → size ≤ length rest → body ≡ take size rest → behind ≡ drop size rest
    → AreTexts count texts body → Fronts (IsDictionary texts) bytes behind
dictionary_front bytes rest body behind count size texts whole small within body-is behind-is are =
    let len : length body ≡ size = ap length body-is ∙ length-take-le size rest within in
    let header : List ℕ = header_text Dictionary count size in
    let same : header ≡ header_text Dictionary (length texts) (length body) = ap (λ n. header_text Dictionary n size) (sym are.counted) ∙ ap (header_text Dictionary (length texts)) (sym len) in
    record {
      front = header ++ body;
      whole = page_whole bytes header rest body behind size whole body-is behind-is;
      page = dictionary_is texts (header ++ body) header body are.rising (omega (arith, small, len, ap length are.whole)) same are.whole refl;
    }

-- the header and the texts of a dictionary in front of bytes
pub record Parts (texts : List (List ℕ)) (bytes rest : List ℕ) : Type 0 where
  pub counted : length texts < 2 ^ 31
  pub small : length (dictionary_body texts) < 2 ^ 31
  pub are : AreTexts (length texts) texts (dictionary_body texts)
  pub whole : bytes ≡ header_text Dictionary (length texts) (length (dictionary_body texts)) ++ (dictionary_body texts ++ rest)

pub dictionary_parts : (texts : List (List ℕ)) (bytes rest : List ℕ) → Fronts (IsDictionary texts) bytes rest → Parts texts bytes rest
dictionary_parts texts bytes rest b =
    let body : List ℕ = dictionary_body texts in
    record {
      counted = b.page.few;
      small = b.page.small;
      are = record { counted = refl; rising = b.page.rising; fit = b.page.fit; whole = refl };
      whole = page_parts bytes b.front (header_text Dictionary (length texts) (length body)) body rest b.whole (b.page.whole ∙ ap (λ h. h ++ body) (sym (header_is (length texts) (length body))));
    }

-- the count and the size that the header of these texts tells, and what is behind it
pub record Told (texts : List (List ℕ)) (count size : ℕ) (rest behind : List ℕ) : Type 0 where
  pub counted : count ≡ length texts
  pub sized : size ≡ length (dictionary_body texts)
  pub left : rest ≡ dictionary_body texts ++ behind

pub header_told : (texts : List (List ℕ)) (count size : ℕ) (rest behind : List ℕ)
    → page_done {A = (ℕ × ℕ) × List ℕ} (pair count size, rest) ≡ page_done {A = (ℕ × ℕ) × List ℕ} (pair (length texts) (length (dictionary_body texts)), dictionary_body texts ++ behind) → Told texts count size rest behind
header_told texts count size rest behind e =
    let t = pair_is (pair count size) (pair (length texts) (length (dictionary_body texts))) rest (dictionary_body texts ++ behind) e in
    let s = sizes_are count (length texts) size (length (dictionary_body texts)) t.0 in
    record { counted = s.0; sized = s.1; left = t.1 }

pub long_enough : (texts : List (List ℕ)) (count size : ℕ) (rest behind : List ℕ) → Told texts count size rest behind → size ≤ length rest
long_enough texts count size rest behind t = omega (arith, t.sized, ap length t.left, length-append (dictionary_body texts) behind)

-- the texts are those of the body, and behind them stands what is behind the page
pub texts_told : (texts : List (List ℕ)) (count size : ℕ) (rest behind front back : List ℕ) → AreTexts (length texts) texts (dictionary_body texts) → Told texts count size rest behind → front ≡ take size rest → back ≡ drop size rest
    → AreTexts count texts front × (back ≡ behind)
texts_told texts count size rest behind front back are t front-is back-is =
    let b = body_is rest (dictionary_body texts) behind front back size t.left t.sized front-is back-is in
    (record { counted = sym t.counted; rising = are.rising; fit = are.fit; whole = b.0 }, b.1)
