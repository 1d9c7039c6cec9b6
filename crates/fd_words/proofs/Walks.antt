-- The walk of `clap` over the words gives what the words give.
use Rattle.std.proofs.Common.{◌≡◌, ℕ, suc, ◌+◌, min, Bool, true, false, cond, ◌&&◌, ◌||◌, List, [], ◌∷◌, ◌++◌, map, length, drop, Option, Some, None, option_map, option_and_then, slice_get, nat_lt, fold, codes, encode_utf8, chars, bytes_eq, IsUtf8, All, arith, refl, sym, ap, ap₂, ◌∙◌, append_assoc, append-nil}
use Rattle.std.specs.List.{list_all}
use Rattle.std.proofs.lemmas.Str.{chars-nil}
use Rattle.std.specs.Option.{option_map_or}
use Rattle.clap.specs.Lexer.{long_of, short_of, usize_max}
use Rattle.clap.specs.Walk.{Held, Row, Rule, Step, Walk, Waiting, idle, option as asking, positional, trailing as trails, after_flag, after_step, arg_by_id, arg_by_index, finished, is_pending, long_met, long_or_other, nothing_held, option_word, pushed, settled, short_or_plain, short_word, to_positional, used, used_by_id, walk_from, walked, with_default}
use Rattle.clap.specs.Faults.{bundle_fault, bundle_step_fault, check_fault, defaults_fault, flag_word_fault, flags_fault, long_fault, positional_fault, settle_fault, short_fault, step_fault, stray_fault, turn_fault, use_fault, walk_fault}
use Rattle.clap.specs.Kinds.{Kinds, or_else}
use Rattle.clap.specs.declared.error.kind.ErrorKind.{ErrorKind}
use Rattle.clap.specs.declared.error.kind.ErrorKind.TheVariants as kind
use Rattle.fd_words.specs.Lines.{Text, Given, Argument, Look, ends, named, valued, short, plain, option, flag, operand, trailing, has, options, flags, operands, is_named, is_once, whole, adds, all_named, with_next, before, arguments, given, look_of}
use Rattle.fd_words.specs.declared.forms.Form.{Form}
use Rattle.fd_words.proofs.Rules.{opt, flg, opd, rules_for, shape_for, long_rule, by_long, by_id, by_short, Places, places}
use Rattle.fd_words.proofs.Looks.{Lexed, dashes, lexed, short_starts}
use Rattle.fd_words.proofs.Rows.{rows_for, after, and_false, same_name, used_once, conflict, opt_use, flg_use, opd_use, twice, still_once, quiet, check_is, wanted}

abbrev pub if_none : {X : Type 0} → Kinds → Option X → Option X
if_none [] o = o
if_none (k ∷ ks) o = None

abbrev clean_rows : List Row → Held
clean_rows rows = record { rows = rows; pending = None; skip = 0 }

abbrev clean : Given → Held
clean g = clean_rows (rows_for g)

abbrev pends : Given → Text → List Text → Held
pends g name values = record { rows = rows_for g; pending = Some (name, values); skip = 0 }

abbrev walk_at : Waiting → Held → ℕ → Bool → Walk
walk_at waiting h p is_trailing = record { held = h; waiting = waiting; position = p; is_trailing = is_trailing; stopped = None }

none_all : {A B : Type 0} (o : Option A) → ◌≡◌ {A = Option B} (option_and_then (λ _. None) o) None
none_all None = refl
none_all (Some a) = refl

tail_utf8 : (word : Text) (rest : List Text) → All IsUtf8 (word ∷ rest) → All IsUtf8 rest
tail_utf8 word rest u k d lt = u (suc k) d (omega arith)

head_utf8 : (word : Text) (rest : List Text) → All IsUtf8 (word ∷ rest) → IsUtf8 word
head_utf8 word rest u = u 0 word (omega arith)

module _ (f : Form) where
  -- what a walk from here comes to: the rows at its end, or none where something is refused
  abbrev pub end_fault : Held → Kinds
  end_fault h =
      or_else (settle_fault (rules_for f) false h)
      (or_else (defaults_fault (settled (rules_for f) h).rows (rules_for f)) (check_fault (shape_for f) (finished (rules_for f) h) false))

  abbrev pub reads : Walk → List Text → Option (List Row)
  reads w [] = if_none (end_fault w.held) (Some (finished (rules_for f) w.held))
  reads w (word ∷ rest) = if_none (turn_fault (shape_for f) [] w word) (reads (walked (rules_for f) [] w word) rest)

  -- the same as one list of faults
  abbrev pub reads_at_once : Kinds → Walk → List Text → Option (List Row)
  reads_at_once t w words =
      if_none (or_else (or_else t (walk_fault (shape_for f) [] w words)) (end_fault (fold (walked (rules_for f) []) w words).held))
      (Some (finished (rules_for f) (fold (walked (rules_for f) []) w words).held))

  turn_then : (t : Kinds) (w : Walk) (rest : List Text) → reads_at_once [] w rest ≡ reads w rest → reads_at_once t w rest ≡ if_none t (reads w rest)
  turn_then [] w rest more = more
  turn_then (k ∷ ks) w rest more = refl

  pub reads_is : (w : Walk) (words : List Text) → reads_at_once [] w words ≡ reads w words
  unfolding walk_fault
  reads_is w [] = refl
  reads_is w (word ∷ rest) =
      turn_then (turn_fault (shape_for f) [] w word) (walked (rules_for f) [] w word) rest (reads_is (walked (rules_for f) [] w word) rest)

  -- what is held comes to these, or to a fault
  record Settles (h : Held) (g : Given) : Type 0 where
    fault : settle_fault (rules_for f) false h ≡ []
    held : settled (rules_for f) h ≡ clean g

  abbrev Doomed : Held → Type 0
  Doomed h = (k : ErrorKind) × (ks : Kinds) × (settle_fault (rules_for f) false h ≡ k ∷ ks)

  clean_settles : (g : Given) → Settles (clean g) g
  clean_settles g = record { fault = refl; held = refl }

  -- what the arguments that are still to come give, behind those that were
  abbrev finish : Given → List Text → List Argument → Option Given
  finish g left args = option_and_then (λ more. whole (operands f) (g ++ more)) (all_named args left)

  abbrev pub rows_of : Option Given → Option (List Row)
  rows_of = option_map (after f)

  -- ---- the end of the words

  last_rows : (g : Given) (b : Bool) → if_none (or_else [] (cond b [] wanted)) (Some (after f g)) ≡ rows_of (cond b (Some g) None)
  last_rows g true = refl
  last_rows g false = refl

  at_end : (h : Held) (g : Given) (left : List Text) → Settles h g → is_once g ≡ true
      → if_none (end_fault h) (Some (finished (rules_for f) h)) ≡ rows_of (finish g left [])
  at_end h g left st once =
      ap₂ (λ (t : Kinds) (k : Held). if_none (or_else t (or_else (defaults_fault k.rows (rules_for f)) (check_fault (shape_for f) (fold with_default k.rows (rules_for f)) false)))
      (Some (fold with_default k.rows (rules_for f)))) st.fault st.held
      ∙ ap₂ (λ (t k : Kinds). if_none (or_else t k) (Some (after f g))) (quiet f (rows_for g)) (check_is f g)
      ∙ last_rows g (list_all (is_named g) (operands f))
      ∙ ap (λ (b : Bool). rows_of (cond (b && list_all (is_named g) (operands f)) (Some g) None)) (sym once)
      ∙ ap (λ (l : Given). rows_of (whole (operands f) l)) (sym (append-nil g))

  doomed_end : (h : Held) → Doomed h → if_none (end_fault h) (Some (finished (rules_for f) h)) ≡ None
  doomed_end h d =
      ap (λ (t : Kinds). if_none (or_else t (or_else (defaults_fault (settled (rules_for f) h).rows (rules_for f)) (check_fault (shape_for f) (finished (rules_for f) h) false)))
      (Some (finished (rules_for f) h))) d.2

  -- ---- one more name

  once_more : (g : Given) (n v : Text) (more : Option Given)
      → option_and_then (λ l. whole (operands f) (g ++ l)) (adds n v more) ≡ option_and_then (λ l. whole (operands f) ((g ++ (n, v) ∷ []) ++ l)) more
  once_more g n v None = refl
  once_more g n v (Some l) = ap (whole (operands f)) (sym (append_assoc g ((n, v) ∷ []) l))

  twice_none : (g : Given) (n v : Text) (more : Option Given) → is_named g n ≡ true → option_and_then (λ l. whole (operands f) (g ++ l)) (adds n v more) ≡ None
  twice_none g n v None h = refl
  twice_none g n v (Some l) h = ap (λ (b : Bool). cond (b && list_all (is_named (g ++ (n, v) ∷ l)) (operands f)) (Some (g ++ (n, v) ∷ l)) None) (twice g l n v h)

  -- an argument that gives the text v under the name n, before others
  abbrev Gives : (List Argument → List Argument) → Text → Text → List Text → List Text → Type 0
  Gives first n v left later = (args : List Argument) → all_named (first args) left ≡ adds n v (all_named args later)

  regroup : (first : List Argument → List Argument) (g : Given) (n v : Text) (left later : List Text) → Gives first n v left later → (o : Option (List Argument))
      → option_and_then (finish g left) (option_and_then (λ more. Some (first more)) o) ≡ option_and_then (finish (g ++ (n, v) ∷ []) later) o
  regroup first g n v left later gives None = refl
  regroup first g n v left later gives (Some args) =
      ap (option_and_then (λ l. whole (operands f) (g ++ l))) (gives args) ∙ once_more g n v (all_named args later)

  regroup_none : (first : List Argument → List Argument) (g : Given) (n v : Text) (left later : List Text) → Gives first n v left later → is_named g n ≡ true
      → (o : Option (List Argument)) → option_and_then (finish g left) (option_and_then (λ more. Some (first more)) o) ≡ None
  regroup_none first g n v left later gives h None = refl
  regroup_none first g n v left later gives h (Some args) =
      ap (option_and_then (λ l. whole (operands f) (g ++ l))) (gives args) ∙ twice_none g n v (all_named args later) h

  -- ---- a value that waits to be used

  pends_opt : (g : Given) (n v : Text) → has (options f) n ≡ true → (b : Bool) → is_named g n ≡ b → settle_fault (rules_for f) false (pends g n (v ∷ [])) ≡ conflict b
  pends_opt g n v here b e =
      ap (λ (o : Option Rule). option_map_or (λ a. use_fault false a (v ∷ []) (rows_for g)) o []) (by_id f n here)
      ∙ opt_use n v g ∙ ap conflict e

  pends_opd : (g : Given) (p : ℕ) (n v : Text) → arg_by_id (rules_for f) n ≡ Some (opd p n) → (b : Bool) → is_named g n ≡ b
      → settle_fault (rules_for f) false (pends g n (v ∷ [])) ≡ conflict b
  pends_opd g p n v here b e =
      ap (λ (o : Option Rule). option_map_or (λ a. use_fault false a (v ∷ []) (rows_for g)) o []) here
      ∙ opd_use p n v g ∙ ap conflict e

  opt_settles : (g : Given) (n v : Text) → has (options f) n ≡ true → is_named g n ≡ false → Settles (pends g n (v ∷ [])) (g ++ (n, v) ∷ [])
  opt_settles g n v here e = record {
    fault = pends_opt g n v here false e;
    held =
        ap (λ (o : Option Rule). clean_rows (used_by_id o (v ∷ []) (rows_for g))) (by_id f n here)
        ∙ ap clean_rows (used_once g n v e);
  }

  opd_settles : (g : Given) (p : ℕ) (n v : Text) → arg_by_id (rules_for f) n ≡ Some (opd p n) → is_named g n ≡ false
      → Settles (pends g n (v ∷ [])) (g ++ (n, v) ∷ [])
  opd_settles g p n v here e = record {
    fault = pends_opd g p n v here false e;
    held =
        ap (λ (o : Option Rule). clean_rows (used_by_id o (v ∷ []) (rows_for g))) here
        ∙ ap clean_rows (used_once g n v e);
  }

  opt_dooms : (g : Given) (n v : Text) → has (options f) n ≡ true → is_named g n ≡ true → Doomed (pends g n (v ∷ []))
  opt_dooms g n v here e = (kind.ArgumentConflict, [], pends_opt g n v here true e)

  opd_dooms : (g : Given) (p : ℕ) (n v : Text) → arg_by_id (rules_for f) n ≡ Some (opd p n) → is_named g n ≡ true → Doomed (pends g n (v ∷ []))
  opd_dooms g p n v here e = (kind.ArgumentConflict, [], pends_opd g p n v here true e)

  -- an option whose value does not come
  bare_dooms : (g : Given) (n : Text) → has (options f) n ≡ true → Doomed (pends g n [])
  bare_dooms g n here =
      (kind.InvalidValue, [], ap (λ (o : Option Rule). option_map_or (λ a. use_fault false a [] (rows_for g)) o []) (by_id f n here))

  -- ---- one word, by how it is seen

  abbrev met_by : Waiting → ℕ → Held → Text → Bool → Option (Text × Option Text) → Held × Step
  met_by waiting p h word d l = cond d (h, trails p) (long_or_other (rules_for f) waiting word l h)

  abbrev after_met : Waiting → ℕ → Held → Text → List Text → Kinds → Held × Step → Option (List Row)
  after_met waiting p h word rest t met =
      if_none (or_else t (step_fault (shape_for f) p met.0 met.1)) (reads (after_step (rules_for f) word (walk_at waiting h p false) met.0 met.1) rest)

  abbrev by_look : Waiting → ℕ → Held → Text → List Text → Bool → Option (Text × Option Text) → Option (List Row)
  by_look waiting p h word rest d l =
      after_met waiting p h word rest (cond d [] (flag_word_fault (rules_for f) false l word h)) (met_by waiting p h word d l)

  word_read : (waiting : Waiting) (p : ℕ) (h : Held) (word : Text) (rest : List Text)
      → reads (walk_at waiting h p false) (word ∷ rest) ≡ by_look waiting p h word rest (bytes_eq word dashes) (long_of word)
  unfolding walked
  word_read idle p h word rest = refl
  word_read (asking n) p h word rest = refl
  word_read positional p h word rest = refl

  seen : (waiting : Waiting) (p : ℕ) (h : Held) (word : Text) (rest : List Text) (d : Bool) (l : Option (Text × Option Text))
      → bytes_eq word dashes ≡ d → long_of word ≡ l → reads (walk_at waiting h p false) (word ∷ rest) ≡ by_look waiting p h word rest d l
  seen waiting p h word rest d l is_d is_l = word_read waiting p h word rest ∙ ap₂ (by_look waiting p h word rest) is_d is_l

  -- `--NAME` and `--NAME=VALUE`
  abbrev by_name : Waiting → ℕ → Held → Text → List Text → Option Text → Option Rule → Option (List Row)
  by_name waiting p h word rest v found =
      after_met waiting p h word rest (long_fault (rules_for f) false found v h)
      (after_flag (rules_for f) waiting word (long_met (rules_for f) found v h).0 (long_met (rules_for f) found v h).1)

  name_seen : (waiting : Waiting) (p : ℕ) (h : Held) (word : Text) (rest : List Text) (n : Text) (v : Option Text)
      → bytes_eq word dashes ≡ false → long_of word ≡ Some (n, v) → reads (walk_at waiting h p false) (word ∷ rest) ≡ by_name waiting p h word rest v (long_rule f n)
  name_seen waiting p h word rest n v is_d is_l =
      seen waiting p h word rest false (Some (n, v)) is_d is_l ∙ ap (by_name waiting p h word rest v) (by_long f n)

  -- an argument is used, and an option waits
  abbrev uses : Rule → List Text → ℕ → List Text → Kinds → Held → Option (List Row)
  uses a values p rest t k =
      if_none (or_else (or_else t (use_fault false a values k.rows)) []) (reads (walk_at idle (record k { rows = used a values k.rows }) p false) rest)

  abbrev asks : Text → ℕ → List Text → Kinds → Held → Option (List Row)
  asks n p rest t k = if_none (or_else t []) (reads (walk_at (asking n) (record k { pending = Some (n, []) }) p false) rest)

  value_used : (waiting : Waiting) (p : ℕ) (h : Held) (word : Text) (rest : List Text) (n v : Text)
      → by_name waiting p h word rest (Some v) (Some (opt n)) ≡ uses (opt n) (v ∷ []) p rest (settle_fault (rules_for f) false h) (settled (rules_for f) h)
  value_used waiting p h word rest n v = refl

  flag_used : (waiting : Waiting) (p : ℕ) (h : Held) (word : Text) (rest : List Text) (n : Text)
      → by_name waiting p h word rest None (Some (flg n)) ≡ uses (flg n) [] p rest (settle_fault (rules_for f) false h) (settled (rules_for f) h)
  flag_used waiting p h word rest n = refl

  option_asks : (waiting : Waiting) (p : ℕ) (h : Held) (word : Text) (rest : List Text) (n : Text)
      → by_name waiting p h word rest None (Some (opt n)) ≡ asks n p rest (settle_fault (rules_for f) false h) (settled (rules_for f) h)
  option_asks waiting p h word rest n = refl

  doomed_name : (waiting : Waiting) (p : ℕ) (h : Held) (word : Text) (rest : List Text) (v : Option Text) (n : Text) → Doomed h → (a b : Bool)
      → by_name waiting p h word rest v (cond a (Some (opt n)) (cond b (Some (flg n)) None)) ≡ None
  doomed_name waiting p h word rest (Some v) n d true b =
      ap (λ (t : Kinds). uses (opt n) (v ∷ []) p rest t (settled (rules_for f) h)) d.2
  doomed_name waiting p h word rest None n d true b = ap (λ (t : Kinds). asks n p rest t (settled (rules_for f) h)) d.2
  doomed_name waiting p h word rest (Some v) n d false true = refl
  doomed_name waiting p h word rest None n d false true = ap (λ (t : Kinds). uses (flg n) [] p rest t (settled (rules_for f) h)) d.2
  doomed_name waiting p h word rest v n d false false = refl

  -- other words
  abbrev by_short_flags : Waiting → ℕ → Held → Text → List Text → Option Text → Option (List Row)
  by_short_flags waiting p h word rest s =
      after_met waiting p h word rest (option_map_or (λ flags. bundle_fault (rules_for f) false flags h) s []) (short_or_plain (rules_for f) waiting word s h)

  other_seen : (waiting : Waiting) (p : ℕ) (h : Held) (word : Text) (rest : List Text) (s : Option Text)
      → bytes_eq word dashes ≡ false → long_of word ≡ None → short_of word ≡ s → reads (walk_at waiting h p false) (word ∷ rest) ≡ by_short_flags waiting p h word rest s
  other_seen waiting p h word rest s is_d is_l is_s =
      seen waiting p h word rest false None is_d is_l ∙ ap (by_short_flags waiting p h word rest) is_s

  flags_refused : (flags : Text) (h : Held) (x : ℕ) → slice_get (chars flags) 0 ≡ Some x → h.skip ≡ 0
      → bundle_fault (rules_for f) false flags h ≡ kind.UnknownArgument ∷ []
  unfolding flags_fault
  flags_refused [] h x e none =
      let bad : None ≡ Some x = ap (λ (l : Text). slice_get l 0) (sym chars-nil) ∙ e in
      cc
  flags_refused (y ∷ ys) h x e none =
      ap₂ (λ (o : Option ℕ) (skip : ℕ). bundle_step_fault (rules_for f) false o (y ∷ ys) skip (record h { skip = 0 }) (flags_fault (rules_for f) false (length ys))) e none
      ∙ ap (λ (o : Option Rule). short_fault (rules_for f) false o (drop (length (encode_utf8 x)) (y ∷ ys)) (record h { skip = 0 })
      (flags_fault (rules_for f) false (length ys) (drop (length (encode_utf8 x)) (y ∷ ys)) 0)) (by_short f x)

  short_refused : (waiting : Waiting) (p : ℕ) (h : Held) (word : Text) (rest : List Text) (flags : Text) → h.skip ≡ 0 → IsUtf8 word
      → bytes_eq word dashes ≡ false → long_of word ≡ None → short_of word ≡ Some flags → reads (walk_at waiting h p false) (word ∷ rest) ≡ None
  short_refused waiting p h word rest flags none utf8 is_d is_l is_s =
      let first = short_starts word flags is_s utf8 in
      other_seen waiting p h word rest (Some flags) is_d is_l is_s
      ∙ ap (λ (t : Kinds). after_met waiting p h word rest t (short_word (rules_for f) waiting word flags h)) (flags_refused flags h first.0 first.1 none)

  -- a word that goes to an operand
  abbrev to_operand : Waiting → ℕ → Held → Text → List Text → Bool → Option Rule → Option (List Row)
  to_operand waiting p h word rest tr found =
      if_none (option_map_or (λ a. positional_fault (rules_for f) false a h) found (stray_fault (shape_for f)))
      (reads (to_positional (rules_for f) found word (walk_at waiting h p tr) h) rest)

  plain_seen : (p : ℕ) (h : Held) (word : Text) (rest : List Text) → bytes_eq word dashes ≡ false → long_of word ≡ None → short_of word ≡ None
      → reads (walk_at idle h p false) (word ∷ rest) ≡ to_operand idle p h word rest false (arg_by_index (rules_for f) p)
  plain_seen p h word rest is_d is_l is_s = other_seen idle p h word rest None is_d is_l is_s

  trailing_seen : (waiting : Waiting) (p : ℕ) (h : Held) (word : Text) (rest : List Text)
      → reads (walk_at waiting h p true) (word ∷ rest) ≡ to_operand waiting p h word rest true (arg_by_index (rules_for f) p)
  unfolding walked
  trailing_seen waiting p h word rest = refl

  abbrev takes_word : ℕ → Text → Text → List Text → Bool → Held → Bool → Kinds → Held → Option (List Row)
  takes_word p n word rest tr h b t k =
      if_none (cond b [] t) (reads (walk_at idle (pushed n word (cond b h k)) (min (p + 1) usize_max) (tr || false)) rest)

  operand_taken : (waiting : Waiting) (p : ℕ) (h : Held) (g : Given) (n word : Text) (rest : List Text) (tr : Bool) → Settles h g
      → to_operand waiting p h word rest tr (Some (opd p n)) ≡ reads (walk_at idle (pends g n (word ∷ [])) (min (p + 1) usize_max) (tr || false)) rest
  operand_taken waiting p h g n word rest tr st =
      ap (λ (b : Bool). takes_word p n word rest tr h b (settle_fault (rules_for f) false h) (settled (rules_for f) h)) (and_false (is_pending (opd p n) h.pending))
      ∙ ap₂ (takes_word p n word rest tr h false) st.fault st.held

  operand_doomed : (waiting : Waiting) (p : ℕ) (h : Held) (word : Text) (rest : List Text) (tr : Bool) (left : List Text) → Doomed h → Places f p left
      → to_operand waiting p h word rest tr (arg_by_index (rules_for f) p) ≡ None
  operand_doomed waiting p h word rest tr [] d at = ap (to_operand waiting p h word rest tr) at
  operand_doomed waiting p h word rest tr (n ∷ ns) d at =
      ap (to_operand waiting p h word rest tr) at.0
      ∙ ap (λ (b : Bool). takes_word p n word rest tr h b (settle_fault (rules_for f) false h) (settled (rules_for f) h)) (and_false (is_pending (opd p n) h.pending))
      ∙ ap (λ (t : Kinds). takes_word p n word rest tr h false t (settled (rules_for f) h)) d.2

  -- a word that is the value of an option
  abbrev to_option : ℕ → Held → Text → Text → List Text → Option Rule → Option (List Row)
  to_option p h n word rest found = reads (walk_at (option_word found n word h).1 (option_word found n word h).0 p false) rest

  value_seen : (p : ℕ) (g : Given) (n word : Text) (rest : List Text) → has (options f) n ≡ true
      → bytes_eq word dashes ≡ false → long_of word ≡ None → short_of word ≡ None
      → reads (walk_at (asking n) (pends g n []) p false) (word ∷ rest) ≡ reads (walk_at idle (pends g n (word ∷ [])) p false) rest
  value_seen p g n word rest here is_d is_l is_s =
      other_seen (asking n) p (pends g n []) word rest None is_d is_l is_s
      ∙ ap (to_option p (pends g n []) n word rest) (by_id f n here)
      ∙ ap (λ (b : Bool). reads (walk_at (cond (nat_lt (cond b 1 0) 1) (asking n) idle) (pends g n (word ∷ [])) p false) rest) (same_name n)

  -- ---- the words behind `--`

  doomed_trailing : (words : List Text) (waiting : Waiting) (p : ℕ) (h : Held) (left : List Text) → Doomed h → Places f p left
      → reads (walk_at waiting h p true) words ≡ None
  doomed_trailing [] waiting p h left d at = doomed_end h d
  doomed_trailing (word ∷ rest) waiting p h left d at = trailing_seen waiting p h word rest ∙ operand_doomed waiting p h word rest true left d at

  abbrev Trails : List Text → Type 0
  Trails words = (waiting : Waiting) (p : ℕ) (h : Held) (g : Given) (left : List Text) → Settles h g → is_once g ≡ true → Places f p left
      → reads (walk_at waiting h p true) words ≡ rows_of (finish g left (map trailing words))

  trailing_one : (word : Text) (rest : List Text) → Trails rest → Trails (word ∷ rest)
  trailing_one word rest more waiting p h g [] st once at = trailing_seen waiting p h word rest ∙ ap (to_operand waiting p h word rest true) at
  trailing_one word rest more waiting p h g (n ∷ ns) st once at =
      trailing_seen waiting p h word rest ∙ ap (to_operand waiting p h word rest true) at.0 ∙ operand_taken waiting p h g n word rest true st ∙ go (is_named g n) refl
    where
      go : (b : Bool) → is_named g n ≡ b
          → reads (walk_at idle (pends g n (word ∷ [])) (min (p + 1) usize_max) true) rest ≡ rows_of (finish g (n ∷ ns) (trailing word ∷ map trailing rest))
      go true e =
          doomed_trailing rest idle (min (p + 1) usize_max) (pends g n (word ∷ [])) ns (opd_dooms g p n word at.1 e) at.2
          ∙ sym (ap rows_of (twice_none g n word (all_named (map trailing rest) ns) e))
      go false e =
          more idle (min (p + 1) usize_max) (pends g n (word ∷ [])) (g ++ (n, word) ∷ []) ns (opd_settles g p n word at.1 e) (still_once g n word once e) at.2
          ∙ ap rows_of (sym (once_more g n word (all_named (map trailing rest) ns)))

  trailing_all : (words : List Text) → Trails words
  trailing_all [] waiting p h g left st once at = at_end h g left st once
  trailing_all (word ∷ rest) waiting p h g left st once at = trailing_one word rest (trailing_all rest) waiting p h g left st once at

  -- ---- the words before it

  doomed_word : (word : Text) (rest : List Text) (p : ℕ) (h : Held) (left : List Text) → IsUtf8 word → h.skip ≡ 0 → Doomed h → Places f p left
      → (look : Look) → Lexed (bytes_eq word dashes) (long_of word) (short_of word) look → reads (walk_at idle h p false) (word ∷ rest) ≡ None
  doomed_word word rest p h left utf8 none d at ends is =
      seen idle p h word rest true (long_of word) is refl ∙ doomed_trailing rest idle p h left d at
  doomed_word word rest p h left utf8 none d at (named n) is =
      name_seen idle p h word rest n None is.0 is.1 ∙ doomed_name idle p h word rest None n d (has (options f) n) (has (flags f) n)
  doomed_word word rest p h left utf8 none d at (valued n v) is =
      name_seen idle p h word rest n (Some v) is.0 is.1 ∙ doomed_name idle p h word rest (Some v) n d (has (options f) n) (has (flags f) n)
  doomed_word word rest p h left utf8 none d at short is = short_refused idle p h word rest is.2 none utf8 is.0 is.1 is.3
  doomed_word word rest p h left utf8 none d at plain is =
      plain_seen p h word rest is.0 is.1 is.2 ∙ operand_doomed idle p h word rest false left d at

  doomed_all : (words : List Text) (p : ℕ) (h : Held) (left : List Text) → All IsUtf8 words → h.skip ≡ 0 → Doomed h → Places f p left
      → reads (walk_at idle h p false) words ≡ None
  doomed_all [] p h left utf8 none d at = doomed_end h d
  doomed_all (word ∷ rest) p h left utf8 none d at =
      doomed_word word rest p h left (head_utf8 word rest utf8) none d at (look_of word) (lexed word)

  abbrev Idles : List Text → Type 0
  Idles words = (p : ℕ) (h : Held) (g : Given) (left : List Text) → Settles h g → is_once g ≡ true → Places f p left
      → reads (walk_at idle h p false) words ≡ rows_of (option_and_then (finish g left) (arguments f words))

  abbrev Asks : List Text → Type 0
  Asks words = (p : ℕ) (g : Given) (n : Text) (left : List Text) → has (options f) n ≡ true → is_once g ≡ true → Places f p left
      → reads (walk_at (asking n) (pends g n []) p false) words ≡ rows_of (option_and_then (finish g left) (option_and_then (with_next n) (arguments f words)))

  -- a value was pushed
  pushed_opt : (rest : List Text) → All IsUtf8 rest → Idles rest → (p : ℕ) (g : Given) (n v : Text) (left : List Text) → has (options f) n ≡ true → is_once g ≡ true → Places f p left
      → (b : Bool) → is_named g n ≡ b
      → reads (walk_at idle (pends g n (v ∷ [])) p false) rest
      ≡ rows_of (option_and_then (finish g left) (option_and_then (λ more. Some (option n v ∷ more)) (arguments f rest)))
  pushed_opt rest utf8 idles p g n v left here once at true e =
      doomed_all rest p (pends g n (v ∷ [])) left utf8 refl (opt_dooms g n v here e) at
      ∙ sym (ap rows_of (regroup_none (λ more. option n v ∷ more) g n v left left (λ args. refl) e (arguments f rest)))
  pushed_opt rest utf8 idles p g n v left here once at false e =
      idles p (pends g n (v ∷ [])) (g ++ (n, v) ∷ []) left (opt_settles g n v here e) (still_once g n v once e) at
      ∙ sym (ap rows_of (regroup (λ more. option n v ∷ more) g n v left left (λ args. refl) (arguments f rest)))

  pushed_opd : (rest : List Text) → All IsUtf8 rest → Idles rest → (p : ℕ) (g : Given) (n v : Text) (ns : List Text) → is_once g ≡ true → Places f p (n ∷ ns)
      → (b : Bool) → is_named g n ≡ b
      → reads (walk_at idle (pends g n (v ∷ [])) (min (p + 1) usize_max) false) rest
      ≡ rows_of (option_and_then (finish g (n ∷ ns)) (option_and_then (λ more. Some (operand v ∷ more)) (arguments f rest)))
  pushed_opd rest utf8 idles p g n v ns once at true e =
      doomed_all rest (min (p + 1) usize_max) (pends g n (v ∷ [])) ns utf8 refl (opd_dooms g p n v at.1 e) at.2
      ∙ sym (ap rows_of (regroup_none (λ more. operand v ∷ more) g n v (n ∷ ns) ns (λ args. refl) e (arguments f rest)))
  pushed_opd rest utf8 idles p g n v ns once at false e =
      idles (min (p + 1) usize_max) (pends g n (v ∷ [])) (g ++ (n, v) ∷ []) ns (opd_settles g p n v at.1 e) (still_once g n v once e) at.2
      ∙ sym (ap rows_of (regroup (λ more. operand v ∷ more) g n v (n ∷ ns) ns (λ args. refl) (arguments f rest)))

  -- an argument was used
  used_now : (rest : List Text) → Idles rest → (a : Rule) (values : List Text) (first : List Argument → List Argument) (p : ℕ) (g : Given) (n v : Text) (left : List Text)
      → is_once g ≡ true → Places f p left → Gives first n v left left → use_fault false a values (rows_for g) ≡ conflict (is_named g n)
      → (is_named g n ≡ false → used a values (rows_for g) ≡ rows_for (g ++ (n, v) ∷ [])) → (b : Bool) → is_named g n ≡ b
      → uses a values p rest [] (clean g) ≡ rows_of (option_and_then (finish g left) (option_and_then (λ more. Some (first more)) (arguments f rest)))
  used_now rest idles a values first p g n v left once at gives fault rows true e =
      ap (λ (t : Kinds). if_none (or_else t []) (reads (walk_at idle (clean_rows (used a values (rows_for g))) p false) rest)) (fault ∙ ap conflict e)
      ∙ sym (ap rows_of (regroup_none first g n v left left gives e (arguments f rest)))
  used_now rest idles a values first p g n v left once at gives fault rows false e =
      ap₂ (λ (t : Kinds) (rs : List Row). if_none (or_else t []) (reads (walk_at idle (clean_rows rs) p false) rest)) (fault ∙ ap conflict e) (rows e)
      ∙ idles p (clean (g ++ (n, v) ∷ [])) (g ++ (n, v) ∷ []) left (clean_settles (g ++ (n, v) ∷ [])) (still_once g n v once e) at
      ∙ sym (ap rows_of (regroup first g n v left left gives (arguments f rest)))

  named_one : (word : Text) (rest : List Text) → Idles rest → Asks rest → (p : ℕ) (h : Held) (g : Given) (n : Text) (left : List Text)
      → Settles h g → is_once g ≡ true → Places f p left → (a b : Bool) → has (options f) n ≡ a
      → by_name idle p h word rest None (cond a (Some (opt n)) (cond b (Some (flg n)) None))
      ≡ rows_of (option_and_then (finish g left) (option_and_then (λ more. cond a (with_next n more) (cond b (Some (flag n ∷ more)) None)) (arguments f rest)))
  named_one word rest idles asking_on p h g n left st once at true b here =
      ap₂ (asks n p rest) st.fault st.held ∙ asking_on p g n left here once at
  named_one word rest idles asking_on p h g n left st once at false true here =
      ap₂ (uses (flg n) [] p rest) st.fault st.held
      ∙ used_now rest idles (flg n) [] (λ more. flag n ∷ more) p g n (codes "true") left once at (λ args. refl) (flg_use n g) (used_once g n (codes "true")) (is_named g n) refl
  named_one word rest idles asking_on p h g n left st once at false false here =
      sym (ap (λ (o : Option (List Argument)). rows_of (option_and_then (finish g left) o)) (none_all (arguments f rest)))

  valued_one : (word : Text) (rest : List Text) → Idles rest → (p : ℕ) (h : Held) (g : Given) (n v : Text) (left : List Text)
      → Settles h g → is_once g ≡ true → Places f p left → (a b : Bool)
      → by_name idle p h word rest (Some v) (cond a (Some (opt n)) (cond b (Some (flg n)) None))
      ≡ rows_of (option_and_then (finish g left) (option_and_then (λ more. cond a (Some (option n v ∷ more)) None) (arguments f rest)))
  valued_one word rest idles p h g n v left st once at true b =
      ap₂ (uses (opt n) (v ∷ []) p rest) st.fault st.held
      ∙ used_now rest idles (opt n) (v ∷ []) (λ more. option n v ∷ more) p g n v left once at (λ args. refl) (opt_use n v g) (used_once g n v) (is_named g n) refl
  valued_one word rest idles p h g n v left st once at false true =
      sym (ap (λ (o : Option (List Argument)). rows_of (option_and_then (finish g left) o)) (none_all (arguments f rest)))
  valued_one word rest idles p h g n v left st once at false false =
      sym (ap (λ (o : Option (List Argument)). rows_of (option_and_then (finish g left) o)) (none_all (arguments f rest)))

  stray_none : (g : Given) (word : Text) (o : Option (List Argument)) → option_and_then (finish g []) (option_and_then (λ more. Some (operand word ∷ more)) o) ≡ None
  stray_none g word None = refl
  stray_none g word (Some more) = refl

  plain_one : (word : Text) (rest : List Text) → All IsUtf8 rest → Idles rest → (p : ℕ) (h : Held) (g : Given) (left : List Text)
      → Settles h g → is_once g ≡ true → Places f p left
      → to_operand idle p h word rest false (arg_by_index (rules_for f) p)
      ≡ rows_of (option_and_then (finish g left) (option_and_then (λ more. Some (operand word ∷ more)) (arguments f rest)))
  plain_one word rest utf8 idles p h g [] st once at =
      ap (to_operand idle p h word rest false) at ∙ sym (ap rows_of (stray_none g word (arguments f rest)))
  plain_one word rest utf8 idles p h g (n ∷ ns) st once at =
      ap (to_operand idle p h word rest false) at.0 ∙ operand_taken idle p h g n word rest false st
      ∙ pushed_opd rest utf8 idles p g n word ns once at (is_named g n) refl

  settled_skip : (h : Held) (g : Given) → Settles h g → h.skip ≡ 0
  settled_skip h g st = ap (λ (k : Held). k.skip) st.held

  idle_one : (word : Text) (rest : List Text) → IsUtf8 word → All IsUtf8 rest → Idles rest → Asks rest → (p : ℕ) (h : Held) (g : Given) (left : List Text)
      → Settles h g → is_once g ≡ true → Places f p left → (look : Look) → Lexed (bytes_eq word dashes) (long_of word) (short_of word) look
      → reads (walk_at idle h p false) (word ∷ rest) ≡ rows_of (option_and_then (finish g left) (before f word look rest (arguments f rest)))
  idle_one word rest own utf8 idles asking_on p h g left st once at ends is =
      seen idle p h word rest true (long_of word) is refl ∙ trailing_all rest idle p h g left st once at
  idle_one word rest own utf8 idles asking_on p h g left st once at (named n) is =
      name_seen idle p h word rest n None is.0 is.1
      ∙ named_one word rest idles asking_on p h g n left st once at (has (options f) n) (has (flags f) n) refl
  idle_one word rest own utf8 idles asking_on p h g left st once at (valued n v) is =
      name_seen idle p h word rest n (Some v) is.0 is.1
      ∙ valued_one word rest idles p h g n v left st once at (has (options f) n) (has (flags f) n)
  idle_one word rest own utf8 idles asking_on p h g left st once at short is =
      short_refused idle p h word rest is.2 (settled_skip h g st) own is.0 is.1 is.3
      ∙ sym (ap (λ (o : Option (List Argument)). rows_of (option_and_then (finish g left) o)) (none_all (arguments f rest)))
  idle_one word rest own utf8 idles asking_on p h g left st once at plain is =
      plain_seen p h word rest is.0 is.1 is.2 ∙ plain_one word rest utf8 idles p h g left st once at

  -- ---- an option without a value

  no_trailing : (n : Text) (words : List Text) → with_next n (map trailing words) ≡ None
  no_trailing n [] = refl
  no_trailing n (word ∷ rest) = refl

  no_option : (n m : Text) (args : List Argument) → option_and_then (with_next n) (with_next m args) ≡ None
  no_option n m [] = refl
  no_option n m (option name v ∷ rest) = refl
  no_option n m (flag name ∷ rest) = refl
  no_option n m (operand v ∷ rest) = refl
  no_option n m (trailing v ∷ rest) = refl

  no_named : (n m : Text) (a b : Bool) (o : Option (List Argument))
      → option_and_then (with_next n) (option_and_then (λ more. cond a (with_next m more) (cond b (Some (flag m ∷ more)) None)) o) ≡ None
  no_named n m a b None = refl
  no_named n m true b (Some more) = no_option n m more
  no_named n m false true (Some more) = refl
  no_named n m false false (Some more) = refl

  no_valued : (n m v : Text) (a : Bool) (o : Option (List Argument))
      → option_and_then (with_next n) (option_and_then (λ more. cond a (Some (option m v ∷ more)) None) o) ≡ None
  no_valued n m v a None = refl
  no_valued n m v true (Some more) = refl
  no_valued n m v false (Some more) = refl

  takes_next : (n v : Text) (o : Option (List Argument))
      → option_and_then (with_next n) (option_and_then (λ more. Some (operand v ∷ more)) o) ≡ option_and_then (λ more. Some (option n v ∷ more)) o
  takes_next n v None = refl
  takes_next n v (Some more) = refl

  abbrev rows_from : Given → List Text → Option (List Argument) → Option (List Row)
  rows_from g left o = rows_of (option_and_then (finish g left) o)

  asking_one : (word : Text) (rest : List Text) → IsUtf8 word → All IsUtf8 rest → Idles rest → (p : ℕ) (g : Given) (n : Text) (left : List Text)
      → has (options f) n ≡ true → is_once g ≡ true → Places f p left → (look : Look) → Lexed (bytes_eq word dashes) (long_of word) (short_of word) look
      → reads (walk_at (asking n) (pends g n []) p false) (word ∷ rest)
      ≡ rows_from g left (option_and_then (with_next n) (before f word look rest (arguments f rest)))
  asking_one word rest own utf8 idles p g n left here once at ends is =
      seen (asking n) p (pends g n []) word rest true (long_of word) is refl
      ∙ doomed_trailing rest (asking n) p (pends g n []) left (bare_dooms g n here) at
      ∙ sym (ap (rows_from g left) (no_trailing n rest))
  asking_one word rest own utf8 idles p g n left here once at (named m) is =
      name_seen (asking n) p (pends g n []) word rest m None is.0 is.1
      ∙ doomed_name (asking n) p (pends g n []) word rest None m (bare_dooms g n here) (has (options f) m) (has (flags f) m)
      ∙ sym (ap (rows_from g left) (no_named n m (has (options f) m) (has (flags f) m) (arguments f rest)))
  asking_one word rest own utf8 idles p g n left here once at (valued m v) is =
      name_seen (asking n) p (pends g n []) word rest m (Some v) is.0 is.1
      ∙ doomed_name (asking n) p (pends g n []) word rest (Some v) m (bare_dooms g n here) (has (options f) m) (has (flags f) m)
      ∙ sym (ap (rows_from g left) (no_valued n m v (has (options f) m) (arguments f rest)))
  asking_one word rest own utf8 idles p g n left here once at short is =
      short_refused (asking n) p (pends g n []) word rest is.2 refl own is.0 is.1 is.3
      ∙ sym (ap (λ (o : Option (List Argument)). rows_from g left (option_and_then (with_next n) o)) (none_all (arguments f rest)))
  asking_one word rest own utf8 idles p g n left here once at plain is =
      value_seen p g n word rest here is.0 is.1 is.2
      ∙ pushed_opt rest utf8 idles p g n word left here once at (is_named g n) refl
      ∙ sym (ap (rows_from g left) (takes_next n word (arguments f rest)))

  both_all : (words : List Text) → All IsUtf8 words → Idles words × Asks words
  both_all [] utf8 = (
    λ p h g left st once at. at_end h g left st once,
    λ p g n left here once at. doomed_end (pends g n []) (bare_dooms g n here),
  )
  both_all (word ∷ rest) utf8 =
      let more = both_all rest (tail_utf8 word rest utf8) in (
        λ p h g left st once at.
            idle_one word rest (head_utf8 word rest utf8) (tail_utf8 word rest utf8) more.0 more.1 p h g left st once at (look_of word) (lexed word),
        λ p g n left here once at.
            asking_one word rest (head_utf8 word rest utf8) (tail_utf8 word rest utf8) more.0 p g n left here once at (look_of word) (lexed word),
      )

  pub read_all : (words : List Text) → All IsUtf8 words → reads (walk_from nothing_held) words ≡ rows_of (given f words)
  read_all words utf8 = (both_all words utf8).0 1 nothing_held [] (operands f) (clean_settles []) refl (places f)
