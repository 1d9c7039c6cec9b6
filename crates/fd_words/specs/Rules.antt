-- The simple command of `clap` that reads the words of a form, and what its matches tell.
use Rattle.std.specs.Prelude.{◌≡◌, true, List, [], ◌++◌, map, Option, Some, None, codes, if◌then◌else◌}
use Rattle.std.specs.Option.{option_or}
use Rattle.clap.specs.Matches.{first_value, found_of}
use Rattle.clap.specs.Walk.{Rule}
use Rattle.clap.specs.Simple.{App, new_rule, new_shape}
use Rattle.clap.specs.declared.builder.action.ArgAction.TheVariants.{SetTrue}
use Rattle.clap.specs.declared.parser.matches.ArgMatches.{ArgMatches}
use Rattle.fd_words.specs.Lines.{Text, Given, given, has, options, flags, operands, value_of}
use Rattle.fd_words.specs.declared.forms.Form.{Form}

abbrev pub option_rule : Text → Rule
option_rule name = record (new_rule name) { long = Some name }

abbrev pub flag_rule : Text → Rule
flag_rule name = record (new_rule name) { long = Some name; action = Some SetTrue }

abbrev pub operand_rule : Text → Rule
operand_rule name = record (new_rule name) { required = true }

abbrev pub bare_app : App
bare_app = record {
  top = record (new_shape (codes "frostd")) { disable_help_flag = true; disable_version_flag = true };
  subs = [];
}

abbrev pub app_for : Form → App
app_for f = record {
  top = record (new_shape (codes "frostd")) {
    rules = map option_rule (options f) ++ map flag_rule (flags f) ++ map operand_rule (operands f);
    disable_help_flag = true;
    disable_version_flag = true;
  };
  subs = [];
}

-- a text that is given, and where none is, the default of a flag
abbrev pub told : Form → Given → Text → Option Text
told f g name = option_or (value_of g name) (if has (flags f) name then Some (codes "false") else None)

-- the matches have the texts that the words give
abbrev pub Gives : Form → List Text → ArgMatches → Type 0
Gives f words m = (g : Given) × (given f words ≡ Some g) × ((name : Text) → first_value (found_of m) name ≡ told f g name)
