-- What the words behind a command's name give: its options, in any order, and its operands.
use Rattle.std.specs.Prelude.{ℕ, ◌==◌, ◌&&◌, Bool, true, not, List, [], ◌∷◌, map, find, Option, Some, None, option_map, option_and_then, codes, if◌then◌else◌}
use Rattle.std.specs.List.{list_all, list_any, before_first, after_first}
use Rattle.std.specs.Str.{bytes_eq}
use Rattle.fd_words.specs.declared.forms.Form.{Form}
use Rattle.fd_words.specs.declared.forms.Form.TheVariants as form

abbrev pub Text : Type 0
Text = List ℕ

abbrev pub has : List Text → Text → Bool
has names name = list_any (λ n. bytes_eq n name) names

-- the options of a form, which have values
abbrev pub options : Form → List Text
options form.Store = codes "dir" ∷ []
options form.Persist = codes "dir" ∷ []
options form.Make = codes "dir" ∷ []
options form.Serve = codes "dir" ∷ codes "listen" ∷ codes "workers" ∷ codes "connections" ∷ []

-- the options of a form that have none
abbrev pub flags : Form → List Text
flags form.Persist = codes "rotate" ∷ []
flags _ = []

-- the names of its operands, in order
abbrev pub operands : Form → List Text
operands form.Make = codes "seed" ∷ codes "count" ∷ []
operands _ = []

-- ---- what a word looks like

pub data Look : Type 0 where
  -- `--`
  ends : Look
  -- `--NAME`
  named : Text → Look
  -- `--NAME=VALUE`
  valued : Text → Text → Look
  -- another word of two bytes or more that begins with a hyphen
  short : Look
  -- any other word
  plain : Look

abbrev pub is_equals : ℕ → Bool
is_equals c = c == 61

abbrev pub behind_two_hyphens : Text → Look
behind_two_hyphens [] = ends
behind_two_hyphens (c ∷ cs) =
    if list_any is_equals (c ∷ cs) then valued (before_first is_equals (c ∷ cs)) (after_first is_equals (c ∷ cs))
    else named (c ∷ cs)

abbrev pub behind_hyphen : Text → Look
behind_hyphen [] = plain
behind_hyphen (c ∷ cs) = if c == 45 then behind_two_hyphens cs else short

abbrev pub look_of : Text → Look
look_of [] = plain
look_of (c ∷ cs) = if c == 45 then behind_hyphen cs else plain

-- ---- the arguments that words spell

pub data Argument : Type 0 where
  option : Text → Text → Argument
  flag : Text → Argument
  operand : Text → Argument
  -- an operand behind `--`
  trailing : Text → Argument

-- an option in a word of its own: its value is the operand that follows
abbrev pub with_next : Text → List Argument → Option (List Argument)
with_next name (operand value ∷ rest) = Some (option name value ∷ rest)
with_next name _ = None

-- a word that looks so, before these arguments
abbrev pub with_word : Form → Text → Look → List Argument → Option (List Argument)
with_word f word (named name) rest =
    if has (options f) name then with_next name rest else if has (flags f) name then Some (flag name ∷ rest) else None
with_word f word (valued name value) rest = if has (options f) name then Some (option name value ∷ rest) else None
with_word f word plain rest = Some (operand word ∷ rest)
with_word f word _ rest = None

-- a word that looks so, before these words, which spell `more`; behind `--` each word is an operand
abbrev pub before : Form → Text → Look → List Text → Option (List Argument) → Option (List Argument)
before f word ends rest more = Some (map trailing rest)
before f word look rest more = option_and_then (with_word f word look) more

abbrev pub arguments : Form → List Text → Option (List Argument)
arguments f [] = Some []
arguments f (word ∷ rest) = before f word (look_of word) rest (arguments f rest)

-- ---- what they give

-- texts by name; the text of a flag that is given is `true`
abbrev pub Given : Type 0
Given = List (Text × Text)

abbrev pub adds : Text → Text → Option Given → Option Given
adds name value = option_map (λ more. (name, value) ∷ more)

-- the next operand is the text of the next name
abbrev pub operand_named : Text → List Text → (List Text → Option Given) → Option Given
operand_named value [] next = None
operand_named value (name ∷ names) next = adds name value (next names)

abbrev pub argument_named : Argument → List Text → (List Text → Option Given) → Option Given
argument_named (option name value) names next = adds name value (next names)
argument_named (flag name) names next = adds name (codes "true") (next names)
argument_named (operand value) names next = operand_named value names next
argument_named (trailing value) names next = operand_named value names next

-- the arguments by name, where these are the names of the operands
abbrev pub all_named : List Argument → List Text → Option Given
all_named [] names = Some []
all_named (a ∷ rest) names = argument_named a names (all_named rest)

abbrev pub is_named : Given → Text → Bool
is_named given name = list_any (λ g. bytes_eq g.0 name) given

abbrev pub value_of : Given → Text → Option Text
value_of given name = option_map (λ g. g.1) (find (λ g. bytes_eq g.0 name) given)

-- no name is given twice
abbrev pub is_once : Given → Bool
is_once [] = true
is_once (g ∷ rest) = not (is_named rest g.0) && is_once rest

-- what is given, where no name is given twice, and each of these is given
abbrev pub whole : List Text → Given → Option Given
whole names given = if is_once given && list_all (is_named given) names then Some given else None

-- what words give where they are of the form
abbrev pub given : Form → List Text → Option Given
given f words =
    option_and_then (λ args. option_and_then (whole (operands f)) (all_named args (operands f))) (arguments f words)
