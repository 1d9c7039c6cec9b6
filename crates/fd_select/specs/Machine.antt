-- The reader of the text behind `{`, byte by byte: where it stands, and where the next byte leads it.
use Rattle.std.specs.Prelude.{ℕ, ◌≡◌, ◌==◌, ◌||◌, if◌then◌else◌, List, [], ◌∷◌, ◌++◌, Option, Some, None, IsUtf8}
use Rattle.std.specs.Option.{option_and_then}
use Rattle.fd_kinds.specs.declared.query.MatchOp.{MatchOp}
use Rattle.fd_kinds.specs.declared.query.MatchOp.TheVariants.{Equal, NotEqual}
use Rattle.fd_kinds.specs.declared.query.Matcher.{Matcher}
use Rattle.fd_select.specs.declared.reader.Stage.{Stage}
use Rattle.fd_select.specs.declared.reader.Stage.TheVariants.{Open, Name, Named, Bang, Operator, Quoted, Escaped, Matched, End}
use Rattle.fd_select.specs.declared.reader.Reader.{Reader}
use Rattle.fd_kinds.specs.Names.{is_name_start, is_name_byte}

abbrev pub at : List Matcher → Stage → Option Reader
at ms stage = Some (record { matchers = ms; stage = stage })

abbrev pub matcher : List ℕ → MatchOp → List ℕ → Matcher
matcher name op value = record { name = name; op = op; value = value }

abbrev pub behind_open : List Matcher → ℕ → Option Reader
behind_open ms b =
    if b == 32 then at ms Open else if b == 125 then at ms End else if is_name_start b then at ms (Name (b ∷ [])) else None

abbrev pub behind_name : List Matcher → List ℕ → ℕ → Option Reader
behind_name ms name b =
    if b == 32 then at ms (Named name) else if b == 61 then at ms (Operator name Equal) else if b == 33 then at ms (Bang name) else None

abbrev pub in_name : List Matcher → List ℕ → ℕ → Option Reader
in_name ms name b = if is_name_byte b then at ms (Name (name ++ b ∷ [])) else behind_name ms name b

abbrev pub behind_bang : List Matcher → List ℕ → ℕ → Option Reader
behind_bang ms name b = if b == 61 then at ms (Operator name NotEqual) else None

abbrev pub behind_operator : List Matcher → List ℕ → MatchOp → ℕ → Option Reader
behind_operator ms name op b =
    if b == 32 then at ms (Operator name op) else if b == 34 then at ms (Quoted name op []) else None

abbrev pub in_quoted : List Matcher → List ℕ → MatchOp → List ℕ → ℕ → Option Reader
in_quoted ms name op value b =
    if b == 34 then at (ms ++ matcher name op value ∷ []) Matched
    else if b == 92 then at ms (Escaped name op value) else at ms (Quoted name op (value ++ b ∷ []))

abbrev pub behind_backslash : List Matcher → List ℕ → MatchOp → List ℕ → ℕ → Option Reader
behind_backslash ms name op value b = if b == 34 || b == 92 then at ms (Quoted name op (value ++ b ∷ [])) else None

abbrev pub behind_matcher : List Matcher → ℕ → Option Reader
behind_matcher ms b = if b == 32 then at ms Matched else if b == 44 then at ms Open else if b == 125 then at ms End else None

abbrev pub step_at : List Matcher → Stage → ℕ → Option Reader
step_at ms Open b = behind_open ms b
step_at ms (Name name) b = in_name ms name b
step_at ms (Named name) b = behind_name ms name b
step_at ms (Bang name) b = behind_bang ms name b
step_at ms (Operator name op) b = behind_operator ms name op b
step_at ms (Quoted name op value) b = in_quoted ms name op value b
step_at ms (Escaped name op value) b = behind_backslash ms name op value b
step_at ms Matched b = behind_matcher ms b
step_at ms End b = None

-- where a byte leads, or nowhere
abbrev pub step : Reader → ℕ → Option Reader
step r b = step_at r.matchers r.stage b

-- where a text leads
abbrev pub steps : Reader → List ℕ → Option Reader
steps r [] = Some r
steps r (b ∷ bs) = option_and_then (λ s. steps s bs) (step r b)

-- a name and a value that end at this byte are text
abbrev pub EndsText : Stage → ℕ → Type 0
EndsText (Quoted name op value) b = b ≡ 34 → IsUtf8 name × IsUtf8 value
EndsText _ b = Unit {0}
