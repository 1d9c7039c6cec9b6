-- Where the reader stops, the text's longest prefix ends that some matchers in braces begin with.
use Rattle.std.proofs.Common.{ℕ, ◌≡◌, ◌≢◌, ◌<◌, ◌≤◌, ◌+◌, List, [], ◌∷◌, ◌++◌, length, take, drop, get_or, Some, None, refl, sym, ap, subst, ◌∙◌, arith, append_assoc, IsUtf8}
use Rattle.std.specs.Option.{option_and_then}
use Rattle.std.proofs.lemmas.List.{take_more, drop_more, take-append-drop, take-take, take_all, drop_all, get_or-take, length-take-le}
use Rattle.std.proofs.lemmas.Str.{IsUtf8-append, IsUtf8-take, IsUtf8-nil, IsUtf8-from_ascii, IsCharBoundary-from_drop}
use Rattle.std.proofs.lemmas.Str.Ascii.{IsAscii-cons, IsAscii-nil}
use Rattle.fd_kinds.specs.declared.query.MatchOp.TheVariants.{Equal, NotEqual}
use Rattle.fd_kinds.specs.declared.query.Matcher.{Matcher}
use Rattle.fd_select.specs.declared.reader.Stage.{Stage}
use Rattle.fd_select.specs.declared.reader.Stage.TheVariants.{Open, Name, Named, Bang, Operator, Quoted, Escaped, Matched, End}
use Rattle.fd_select.specs.declared.reader.Reader.{Reader}
use Rattle.fd_select.specs.SelectorTexts.{IsBraced}
use Rattle.fd_select.specs.Braces.{BeginsBraces, IsStop}
use Rattle.fd_select.specs.Machine.{matcher, step, steps, EndsText}
use Rattle.fd_select.proofs.Basics.{append-nil, through}
use Rattle.fd_select.proofs.PathLemmas.{reader, start, steps-append, braced_leads}
use Rattle.fd_select.proofs.EndLemmas.{braced_from_steps}
use Rattle.fd_select.proofs.TextFits.{Fits, fits_step, fits_ends, fits_stopped}

-- the reader has read so many bytes of the text
pub record Read (text : List ℕ) (i : ℕ) (r : Reader) : Type 0 where
  pub led : steps start (take i text) ≡ Some r
  pub fits : Fits r.stage (drop i text)

-- a text that leads from here to the end
record Completes (r : Reader) : Type 0 where
  more : List ℕ
  is_text : IsUtf8 more
  matchers : List Matcher
  leads : steps r more ≡ Some (reader matchers End)

one : (b : ℕ) → b < 128 → (bs : List ℕ) → IsUtf8 bs → IsUtf8 (b ∷ bs)
one b h bs u = IsUtf8-append (b ∷ []) bs (IsUtf8-from_ascii (b ∷ []) (IsAscii-cons b [] h IsAscii-nil)) u

brace : IsUtf8 (125 ∷ [])
brace = one 125 (omega arith) [] IsUtf8-nil

quote_brace : IsUtf8 (34 ∷ 125 ∷ [])
quote_brace = one 34 (omega arith) _ brace

quotes_brace : IsUtf8 (34 ∷ 34 ∷ 125 ∷ [])
quotes_brace = one 34 (omega arith) _ quote_brace

equal_quotes_brace : IsUtf8 (61 ∷ 34 ∷ 34 ∷ 125 ∷ [])
equal_quotes_brace = one 61 (omega arith) _ quotes_brace

-- from everywhere some text leads to the end
completes : (ms : List Matcher) (stage : Stage) → Completes (reader ms stage)
completes ms Open = record { more = 125 ∷ []; is_text = brace; matchers = ms; leads = refl }
completes ms (Name name) = record { more = 61 ∷ 34 ∷ 34 ∷ 125 ∷ []; is_text = equal_quotes_brace; matchers = ms ++ matcher name Equal [] ∷ []; leads = refl }
completes ms (Named name) = record { more = 61 ∷ 34 ∷ 34 ∷ 125 ∷ []; is_text = equal_quotes_brace; matchers = ms ++ matcher name Equal [] ∷ []; leads = refl }
completes ms (Bang name) = record { more = 61 ∷ 34 ∷ 34 ∷ 125 ∷ []; is_text = equal_quotes_brace; matchers = ms ++ matcher name NotEqual [] ∷ []; leads = refl }
completes ms (Operator name op) = record { more = 34 ∷ 34 ∷ 125 ∷ []; is_text = quotes_brace; matchers = ms ++ matcher name op [] ∷ []; leads = refl }
completes ms (Quoted name op value) = record { more = 34 ∷ 125 ∷ []; is_text = quote_brace; matchers = ms ++ matcher name op value ∷ []; leads = refl }
completes ms (Escaped name op value) = record { more = 34 ∷ 34 ∷ 125 ∷ []; is_text = quotes_brace; matchers = ms ++ matcher name op (value ++ 34 ∷ []) ∷ []; leads = refl }
completes ms Matched = record { more = 125 ∷ []; is_text = brace; matchers = ms; leads = refl }
completes ms End = record { more = []; is_text = IsUtf8-nil; matchers = ms; leads = refl }

-- what was read begins some text
begins : (text : List ℕ) (i : ℕ) (r : Reader) → Read text i r → IsUtf8 (take i text) → BeginsBraces (take i text)
begins text i r h u =
    let c : Completes r = completes r.matchers r.stage in
    let leads : steps start (take i text ++ c.more) ≡ Some (reader c.matchers End) =
    steps-append (take i text) c.more start ∙ ap (λ o. option_and_then (λ s. steps s c.more) o) h.led ∙ c.leads in
    record { more = c.more; is_text = IsUtf8-append (take i text) c.more u c.is_text; matchers = c.matchers; is_braced = braced_from_steps (take i text ++ c.more) c.matchers leads }

-- a longer prefix goes on with the byte behind
longer : (text : List ℕ) (i n : ℕ) → i < n → n ≤ length text → take n text ≡ take i text ++ (get_or text i 0 ∷ drop (i + 1) (take n text))
longer text i n h l =
    let long : length (take n text) ≡ n = length-take-le n text l in
    let inside : i < length (take n text) = omega arith in
    sym (take-append-drop i (take n text))
    ∙ ap (λ t. t ++ drop i (take n text)) (take-take i n text (omega arith))
    ∙ ap (λ t. take i text ++ t) (drop_more (take n text) i 0 inside ∙ ap (λ b. b ∷ drop (i + 1) (take n text)) (get_or-take n text i 0 h))

nowhere : (text : List ℕ) (i : ℕ) (r : Reader) (rest : List ℕ) → Read text i r → step r (get_or text i 0) ≡ None → steps start (take i text ++ (get_or text i 0 ∷ rest)) ≡ None
nowhere text i r rest h e =
    steps-append (take i text) (get_or text i 0 ∷ rest) start
    ∙ ap (λ o. option_and_then (λ s. steps s (get_or text i 0 ∷ rest)) o) h.led
    ∙ ap (λ o. option_and_then (λ s. steps s rest) o) e

refused : (text : List ℕ) (i n : ℕ) (r : Reader) → Read text i r → step r (get_or text i 0) ≡ None → i < n → n ≤ length text → (more : List ℕ) (ms : List Matcher) → IsBraced (123 ∷ (take n text ++ more)) ms → ⊥
refused text i n r h e lt le more ms b =
    let rest = drop (i + 1) (take n text) ++ more in
    let split : take n text ++ more ≡ take i text ++ (get_or text i 0 ∷ rest) = ap (λ t. t ++ more) (longer text i n lt le) ∙ append_assoc (take i text) (get_or text i 0 ∷ drop (i + 1) (take n text)) more in
    let leads = braced_leads (take n text ++ more) ms b in
    let none = ap (λ t. steps start t) split ∙ nowhere text i r rest h e in
    cc (leads, none)

pub read_first : (text : List ℕ) → IsUtf8 text → Read text 0 start
read_first text u = record { led = refl; fits = u }

fits_here : (text : List ℕ) (i : ℕ) (r : Reader) → Read text i r → i < length text → Fits r.stage (get_or text i 0 ∷ drop (i + 1) text)
fits_here text i r h l = subst (λ t. Fits r.stage t) (drop_more text i 0 l) h.fits

pub read_more : (text : List ℕ) (i : ℕ) (r s : Reader) → Read text i r → i < length text → step r (get_or text i 0) ≡ Some s → Read text (i + 1) s
read_more text i r s h l e =
    record {
      led =
          ap (λ t. steps start t) (take_more text i 0 l)
          ∙ steps-append (take i text) (get_or text i 0 ∷ []) start
          ∙ ap (λ o. option_and_then (λ t. steps t (get_or text i 0 ∷ [])) o) h.led
          ∙ ap (λ o. option_and_then (λ t. steps t []) o) e;
      fits = through (step r (get_or text i 0)) (λ t. Fits t.stage (drop (i + 1) text)) s e (fits_step r.matchers r.stage (get_or text i 0) (drop (i + 1) text) (fits_here text i r h l));
    }

pub ends_text : (text : List ℕ) (i : ℕ) (r : Reader) → Read text i r → i < length text → EndsText r.stage (get_or text i 0)
ends_text text i r h l = fits_ends r.stage (get_or text i 0) (drop (i + 1) text) (fits_here text i r h l)

pub read_stops : (text : List ℕ) (i : ℕ) (r : Reader) → IsUtf8 text → Read text i r → i < length text → step r (get_or text i 0) ≡ None → IsStop text i
read_stops text i r u h l e =
    let left : IsUtf8 (drop i text) = rw (drop_more text i 0 l) (fits_stopped r.matchers r.stage (get_or text i 0) (drop (i + 1) text) (fits_here text i r h l) e) in
    let here : IsUtf8 (take i text) = IsUtf8-take text i u (IsCharBoundary-from_drop text i (omega arith) left) in
    record {
      none = λ ms b.
          let all : text ≡ take (length text) text ++ [] = sym (append-nil (take (length text) text) ∙ take_all (length text) text (omega arith)) in
          refused text i (length text) r h e l (omega arith) [] ms (subst (λ t. IsBraced (123 ∷ t) ms) all b);
      within = omega arith;
      begins = begins text i r h here;
      longest = λ n lt le more ms b. refused text i n r h e lt le more ms b;
    }

whole : (text : List ℕ) (i : ℕ) → length text ≤ i → take i text ≡ text
whole text i l = take_all i text l

pub read_whole : (text : List ℕ) (i : ℕ) (r : Reader) (ms : List Matcher) → Read text i r → length text ≤ i → r ≡ reader ms End → IsBraced (123 ∷ text) ms
read_whole text i r ms h l e =
    braced_from_steps text ms (ap (λ t. steps start t) (sym (whole text i l)) ∙ h.led ∙ ap (λ s. Some s) e)

pub read_short : (text : List ℕ) (i : ℕ) (r : Reader) → IsUtf8 text → Read text i r → length text ≤ i → ((ms : List Matcher) → r ≢ reader ms End) → IsStop text (length text)
read_short text i r u h l e =
    let all : take (length text) text ≡ text = whole text (length text) (omega arith) in
    let led : steps start text ≡ Some r = ap (λ t. steps start t) (sym (whole text i l)) ∙ h.led in
    let read : Read text (length text) r = record { led = ap (λ t. steps start t) all ∙ led; fits = rw (drop_all (length text) text (omega arith), ← drop_all i text l) h.fits } in
    record {
      none = λ ms b. let leads = braced_leads text ms b in e ms (let s : Some r ≡ Some (reader ms End) = sym led ∙ leads in cc);
      within = omega arith;
      begins = begins text (length text) r read (subst IsUtf8 (sym all) u);
      longest = λ n lt le more ms b. absurd (omega arith);
    }

pub ruleset reader_steps = (read_first, read_stops, read_short, ends_text)
