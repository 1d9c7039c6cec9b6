-- What leads the reader to its end is the text of the matchers that it then has.
use Rattle.std.proofs.Common.{ℕ, suc, ◌≡◌, true, false, eqb, ◌||◌, List, [], ◌∷◌, ◌++◌, Option, Some, None, refl, sym, ap, subst, ◌∙◌, append_assoc, inl, inr}
use Rattle.std.specs.List.{flat_map, list_all}
use Rattle.std.specs.Option.{IfSome}
use Rattle.std.proofs.lemmas.Option.{option_and_then_some, same_Some}
use Rattle.fd_kinds.specs.declared.query.MatchOp.{MatchOp}
use Rattle.fd_kinds.specs.declared.query.MatchOp.TheVariants.{Equal, NotEqual}
use Rattle.fd_kinds.specs.declared.query.Matcher.{Matcher}
use Rattle.fd_select.specs.declared.reader.Stage.{Stage}
use Rattle.fd_select.specs.declared.reader.Stage.TheVariants.{Open, Name, Named, Bang, Operator, Quoted, Escaped, Matched, End}
use Rattle.fd_select.specs.declared.reader.Reader.{Reader}
use Rattle.fd_kinds.specs.Names.{is_name_start, is_name_byte, is_label_name}
use Rattle.fd_select.specs.SelectorTexts.{spaces, op_text, escaped, quoted, IsMatcher, IsRest, IsList, IsBraced}
use Rattle.fd_select.specs.Machine.{matcher, step, step_at, steps, behind_open, behind_name, in_name, behind_bang, behind_operator, in_quoted, behind_backslash, behind_matcher}
use Rattle.fd_select.proofs.Basics.{append-nil, by_test, through, is_byte}

-- what may follow from each place, where done stands already and ms stands in the end
record Closes (done : List Matcher) (bs : List ℕ) (ms : List Matcher) : Type 0 where
  more : List Matcher
  all : ms ≡ done ++ more
  rest : List ℕ
  after : ℕ
  is_rest : IsRest rest more
  parts : bs ≡ rest ++ (spaces after ++ 125 ∷ [])

record Opens (done : List Matcher) (bs : List ℕ) (ms : List Matcher) : Type 0 where
  more : List Matcher
  all : ms ≡ done ++ more
  before : ℕ
  list : List ℕ
  after : ℕ
  is_list : IsList list more
  parts : bs ≡ spaces before ++ (list ++ (spaces after ++ 125 ∷ []))

record Quotes (done : List Matcher) (name : List ℕ) (op : MatchOp) (value bs : List ℕ) (ms : List Matcher) : Type 0 where
  text : List ℕ
  rest : List ℕ
  parts : bs ≡ flat_map escaped text ++ 34 ∷ rest
  closes : Closes (done ++ matcher name op (value ++ text) ∷ []) rest ms

record Escapes (done : List Matcher) (name : List ℕ) (op : MatchOp) (value bs : List ℕ) (ms : List Matcher) : Type 0 where
  byte : ℕ
  rest : List ℕ
  parts : bs ≡ byte ∷ rest
  is_special : (eqb byte 34 || eqb byte 92) ≡ true
  quotes : Quotes done name op (value ++ byte ∷ []) rest ms

record Operates (done : List Matcher) (name : List ℕ) (op : MatchOp) (bs : List ℕ) (ms : List Matcher) : Type 0 where
  after : ℕ
  rest : List ℕ
  parts : bs ≡ spaces after ++ 34 ∷ rest
  quotes : Quotes done name op [] rest ms

record Bangs (done : List Matcher) (name bs : List ℕ) (ms : List Matcher) : Type 0 where
  rest : List ℕ
  parts : bs ≡ 61 ∷ rest
  operates : Operates done name NotEqual rest ms

record Names (done : List Matcher) (name bs : List ℕ) (ms : List Matcher) : Type 0 where
  before : ℕ
  op : MatchOp
  rest : List ℕ
  parts : bs ≡ spaces before ++ (op_text op ++ rest)
  operates : Operates done name op rest ms

record Continues (done : List Matcher) (name bs : List ℕ) (ms : List Matcher) : Type 0 where
  tail : List ℕ
  is_tail : list_all is_name_byte tail ≡ true
  rest : List ℕ
  parts : bs ≡ tail ++ rest
  names : Names done (name ++ tail) rest ms

abbrev FollowsAt : List Matcher → Stage → List ℕ → List Matcher → Type 0
FollowsAt done Open bs ms = Opens done bs ms
FollowsAt done (Name name) bs ms = Continues done name bs ms
FollowsAt done (Named name) bs ms = Names done name bs ms
FollowsAt done (Bang name) bs ms = Bangs done name bs ms
FollowsAt done (Operator name op) bs ms = Operates done name op bs ms
FollowsAt done (Quoted name op value) bs ms = Quotes done name op value bs ms
FollowsAt done (Escaped name op value) bs ms = Escapes done name op value bs ms
FollowsAt done Matched bs ms = Closes done bs ms
FollowsAt done End bs ms = (bs ≡ []) × (ms ≡ done)

abbrev Follows : Reader → List ℕ → List Matcher → Type 0
Follows r bs ms = FollowsAt r.matchers r.stage bs ms

-- ---- one byte in front

open_space : (done : List Matcher) (bs : List ℕ) (ms : List Matcher) → Opens done bs ms → Opens done (32 ∷ bs) ms
open_space done bs ms h = record { more = h.more; all = h.all; before = suc h.before; list = h.list; after = h.after; is_list = h.is_list; parts = ap (λ t. 32 ∷ t) h.parts }

open_end : (done : List Matcher) (bs : List ℕ) (ms : List Matcher) → bs ≡ [] → ms ≡ done → Opens done (125 ∷ bs) ms
open_end done bs ms e f = record { more = []; all = f ∙ sym (append-nil done); before = 0; list = []; after = 0; is_list = refl; parts = ap (λ t. 125 ∷ t) e }

close_end : (done : List Matcher) (bs : List ℕ) (ms : List Matcher) → bs ≡ [] → ms ≡ done → Closes done (125 ∷ bs) ms
close_end done bs ms e f = record { more = []; all = f ∙ sym (append-nil done); rest = []; after = 0; is_rest = inl refl; parts = ap (λ t. 125 ∷ t) e }

-- a space in front of what follows a matcher
rest_space : (more : List Matcher) (rest : List ℕ) (n : ℕ) → IsRest rest more → (rest' : List ℕ) × (n' : ℕ) × IsRest rest' more × ((32 ∷ (rest ++ (spaces n ++ 125 ∷ []))) ≡ rest' ++ (spaces n' ++ 125 ∷ []))
rest_space [] rest n (inl e) = ([], suc n, inl refl, ap (λ t. 32 ∷ (t ++ (spaces n ++ 125 ∷ []))) e)
rest_space [] rest n (inr h) = (32 ∷ rest, n, inr (record { before = suc h.before; after = h.after; parts = ap (λ t. 32 ∷ t) h.parts }), refl)
rest_space (m ∷ more) rest n (comma, mt, r, e, is_comma, is_matcher, is_rest) =
    (32 ∷ rest, n, (32 ∷ comma, mt, r, ap (λ t. 32 ∷ t) e, record { before = suc is_comma.before; after = is_comma.after; parts = ap (λ t. 32 ∷ t) is_comma.parts }, is_matcher, is_rest), refl)

close_space : (done : List Matcher) (bs : List ℕ) (ms : List Matcher) → Closes done bs ms → Closes done (32 ∷ bs) ms
close_space done bs ms h =
    let w = rest_space h.more h.rest h.after h.is_rest in
    record { more = h.more; all = h.all; rest = w.0; after = w.1; is_rest = w.2; parts = ap (λ t. 32 ∷ t) h.parts ∙ w.3 }

-- a comma in front of a list
list_comma : (more : List Matcher) (list : List ℕ) (i n : ℕ) → IsList list more → (rest : List ℕ) × IsRest rest more × ((44 ∷ (spaces i ++ (list ++ (spaces n ++ 125 ∷ [])))) ≡ rest ++ (spaces n ++ 125 ∷ []))
list_comma [] list i n e = (44 ∷ spaces i, inr (record { before = 0; after = i; parts = refl }), ap (λ t. 44 ∷ (spaces i ++ (t ++ (spaces n ++ 125 ∷ [])))) e)
list_comma (m ∷ more) list i n (mt, r, e, is_matcher, is_rest) = (
  (44 ∷ spaces i) ++ list,
  (44 ∷ spaces i, mt, r, ap (λ t. (44 ∷ spaces i) ++ t) e, record { before = 0; after = i; parts = refl }, is_matcher, is_rest),
  ap (λ t. 44 ∷ t) (sym (append_assoc (spaces i) list (spaces n ++ 125 ∷ []))),
)

close_comma : (done : List Matcher) (bs : List ℕ) (ms : List Matcher) → Opens done bs ms → Closes done (44 ∷ bs) ms
close_comma done bs ms h =
    let w = list_comma h.more h.list h.before h.after h.is_list in
    record { more = h.more; all = h.all; rest = w.0; after = h.after; is_rest = w.1; parts = ap (λ t. 44 ∷ t) h.parts ∙ w.2 }

quote_end : (done : List Matcher) (name : List ℕ) (op : MatchOp) (value bs : List ℕ) (ms : List Matcher) → Closes (done ++ matcher name op value ∷ []) bs ms → Quotes done name op value (34 ∷ bs) ms
quote_end done name op value bs ms h =
    record { text = []; rest = bs; parts = refl; closes = subst (λ v. Closes (done ++ matcher name op v ∷ []) bs ms) (sym (append-nil value)) h }

-- a byte of the value in front, as it is spelled
quote_more : (done : List Matcher) (name : List ℕ) (op : MatchOp) (value bs : List ℕ) (b : ℕ) (ms : List Matcher) → Quotes done name op (value ++ b ∷ []) bs ms → Quotes done name op value (escaped b ++ bs) ms
quote_more done name op value bs b ms h =
    record { text = b ∷ h.text; rest = h.rest; parts = ap (λ t. escaped b ++ t) h.parts ∙ sym (append_assoc (escaped b) (flat_map escaped h.text) (34 ∷ h.rest)); closes = subst (λ v. Closes (done ++ matcher name op v ∷ []) h.rest ms) (append_assoc value (b ∷ []) h.text) h.closes }

quote_escape : (done : List Matcher) (name : List ℕ) (op : MatchOp) (value bs : List ℕ) (ms : List Matcher) → Escapes done name op value bs ms → Quotes done name op value (92 ∷ bs) ms
quote_escape done name op value bs ms h =
    let two : escaped h.byte ≡ 92 ∷ h.byte ∷ [] = rw h.is_special refl in
    let all : escaped h.byte ++ h.rest ≡ 92 ∷ bs = ap (λ t. t ++ h.rest) two ∙ ap (λ t. 92 ∷ t) (sym h.parts) in
    subst (λ t. Quotes done name op value t ms) all (quote_more done name op value h.rest h.byte ms h.quotes)

quote_plain : (done : List Matcher) (name : List ℕ) (op : MatchOp) (value bs : List ℕ) (b : ℕ) (ms : List Matcher) → eqb b 34 ≡ false → eqb b 92 ≡ false → Quotes done name op (value ++ b ∷ []) bs ms → Quotes done name op value (b ∷ bs) ms
quote_plain done name op value bs b ms e f h =
    let alone : escaped b ≡ b ∷ [] = rw (e, f) refl in
    subst (λ t. Quotes done name op value (t ++ bs) ms) alone (quote_more done name op value bs b ms h)

operate_space : (done : List Matcher) (name : List ℕ) (op : MatchOp) (bs : List ℕ) (ms : List Matcher) → Operates done name op bs ms → Operates done name op (32 ∷ bs) ms
operate_space done name op bs ms h = record { after = suc h.after; rest = h.rest; parts = ap (λ t. 32 ∷ t) h.parts; quotes = h.quotes }

operate_quote : (done : List Matcher) (name : List ℕ) (op : MatchOp) (bs : List ℕ) (ms : List Matcher) → Quotes done name op [] bs ms → Operates done name op (34 ∷ bs) ms
operate_quote done name op bs ms h = record { after = 0; rest = bs; parts = refl; quotes = h }

bang_equal : (done : List Matcher) (name bs : List ℕ) (ms : List Matcher) → Operates done name NotEqual bs ms → Bangs done name (61 ∷ bs) ms
bang_equal done name bs ms h = record { rest = bs; parts = refl; operates = h }

name_space : (done : List Matcher) (name bs : List ℕ) (ms : List Matcher) → Names done name bs ms → Names done name (32 ∷ bs) ms
name_space done name bs ms h = record { before = suc h.before; op = h.op; rest = h.rest; parts = ap (λ t. 32 ∷ t) h.parts; operates = h.operates }

name_equal : (done : List Matcher) (name bs : List ℕ) (ms : List Matcher) → Operates done name Equal bs ms → Names done name (61 ∷ bs) ms
name_equal done name bs ms h = record { before = 0; op = Equal; rest = bs; parts = refl; operates = h }

name_bang : (done : List Matcher) (name bs : List ℕ) (ms : List Matcher) → Bangs done name bs ms → Names done name (33 ∷ bs) ms
name_bang done name bs ms h = record { before = 0; op = NotEqual; rest = h.rest; parts = ap (λ t. 33 ∷ t) h.parts; operates = h.operates }

continue_none : (done : List Matcher) (name bs : List ℕ) (ms : List Matcher) → Names done name bs ms → Continues done name bs ms
continue_none done name bs ms h =
    record { tail = []; is_tail = refl; rest = bs; parts = refl; names = subst (λ n. Names done n bs ms) (sym (append-nil name)) h }

continue_more : (done : List Matcher) (name bs : List ℕ) (b : ℕ) (ms : List Matcher) → is_name_byte b ≡ true → Continues done (name ++ b ∷ []) bs ms → Continues done name (b ∷ bs) ms
continue_more done name bs b ms e h =
    record { tail = b ∷ h.tail; is_tail = rw e h.is_tail; rest = h.rest; parts = ap (λ t. b ∷ t) h.parts; names = subst (λ n. Names done n h.rest ms) (append_assoc name (b ∷ []) h.tail) h.names }

regrouped : (name op quote rest end : List ℕ) (i j : ℕ) → name ++ (spaces i ++ (op ++ (spaces j ++ (34 ∷ (quote ++ 34 ∷ (rest ++ end)))))) ≡ ((name ++ (spaces i ++ (op ++ (spaces j ++ (34 ∷ (quote ++ 34 ∷ [])))))) ++ rest) ++ end
regrouped name op quote rest end i j = simp append_assoc

-- a name that begins here is that of a matcher
open_name : (done : List Matcher) (bs : List ℕ) (b : ℕ) (ms : List Matcher) → is_name_start b ≡ true → Continues done (b ∷ []) bs ms → Opens done (b ∷ bs) ms
open_name done bs b ms e h =
    let n = h.names in
    let o = n.operates in
    let q = o.quotes in
    let c = q.closes in
    let name = b ∷ h.tail in
    let m = matcher name n.op q.text in
    let text = name ++ (spaces n.before ++ (op_text n.op ++ (spaces o.after ++ quoted q.text))) in
    let end = spaces c.after ++ 125 ∷ [] in
    let is_name : is_label_name name ≡ true = rw e h.is_tail in
    let is_matcher : IsMatcher text m = record { is_name = is_name; before = n.before; after = o.after; parts = refl } in
    let e1 : bs ≡ h.tail ++ (spaces n.before ++ (op_text n.op ++ (spaces o.after ++ 34 ∷ (flat_map escaped q.text ++ 34 ∷ (c.rest ++ end))))) =
    h.parts ∙ ap (λ t. h.tail ++ t) (n.parts ∙ ap (λ t. spaces n.before ++ (op_text n.op ++ t)) (o.parts ∙ ap (λ t. spaces o.after ++ 34 ∷ t) (q.parts ∙ ap (λ t. flat_map escaped q.text ++ 34 ∷ t) c.parts))) in
    record {
      more = m ∷ c.more;
      all = c.all ∙ append_assoc done (m ∷ []) c.more;
      before = 0;
      list = text ++ c.rest;
      after = c.after;
      is_list = (text, c.rest, refl, is_matcher, c.is_rest);
      parts = ap (λ t. b ∷ t) e1 ∙ regrouped name (op_text n.op) (flat_map escaped q.text) c.rest end n.before o.after;
    }

-- ---- the steps, backwards

back_open : (done : List Matcher) (b : ℕ) (bs : List ℕ) (ms : List Matcher) → IfSome (behind_open done b) (λ s. Follows s bs ms → Opens done (b ∷ bs) ms)
back_open done b bs ms =
    by_test (eqb b 32) _ _ (λ s. Follows s bs ms → Opens done (b ∷ bs) ms)
    (λ e h. subst (λ x. Opens done (x ∷ bs) ms) (is_byte b 32 e) (open_space done bs ms h))
    (λ _. by_test (eqb b 125) _ _ (λ s. Follows s bs ms → Opens done (b ∷ bs) ms)
    (λ e h. subst (λ x. Opens done (x ∷ bs) ms) (is_byte b 125 e) (open_end done bs ms h.0 h.1))
    (λ _. by_test (is_name_start b) _ _ (λ s. Follows s bs ms → Opens done (b ∷ bs) ms)
    (λ e h. open_name done bs b ms e h)
    (λ _. tt)))

back_name : (done : List Matcher) (name : List ℕ) (b : ℕ) (bs : List ℕ) (ms : List Matcher) → IfSome (behind_name done name b) (λ s. Follows s bs ms → Names done name (b ∷ bs) ms)
back_name done name b bs ms =
    by_test (eqb b 32) _ _ (λ s. Follows s bs ms → Names done name (b ∷ bs) ms)
    (λ e h. subst (λ x. Names done name (x ∷ bs) ms) (is_byte b 32 e) (name_space done name bs ms h))
    (λ _. by_test (eqb b 61) _ _ (λ s. Follows s bs ms → Names done name (b ∷ bs) ms)
    (λ e h. subst (λ x. Names done name (x ∷ bs) ms) (is_byte b 61 e) (name_equal done name bs ms h))
    (λ _. by_test (eqb b 33) _ _ (λ s. Follows s bs ms → Names done name (b ∷ bs) ms)
    (λ e h. subst (λ x. Names done name (x ∷ bs) ms) (is_byte b 33 e) (name_bang done name bs ms h))
    (λ _. tt)))

weaker : {A : Type 0} (o : Option A) (P Q : A → Type 0) → IfSome o P → ((x : A) → P x → Q x) → IfSome o Q
weaker None P Q h f = tt
weaker (Some x) P Q h f = f x h

back_in_name : (done : List Matcher) (name : List ℕ) (b : ℕ) (bs : List ℕ) (ms : List Matcher) → IfSome (in_name done name b) (λ s. Follows s bs ms → Continues done name (b ∷ bs) ms)
back_in_name done name b bs ms =
    by_test (is_name_byte b) _ _ (λ s. Follows s bs ms → Continues done name (b ∷ bs) ms)
    (λ e h. continue_more done name bs b ms e h)
    (λ _. weaker (behind_name done name b) (λ s. Follows s bs ms → Names done name (b ∷ bs) ms) (λ s. Follows s bs ms → Continues done name (b ∷ bs) ms) (back_name done name b bs ms) (λ s f h. continue_none done name (b ∷ bs) ms (f h)))

back_bang : (done : List Matcher) (name : List ℕ) (b : ℕ) (bs : List ℕ) (ms : List Matcher) → IfSome (behind_bang done name b) (λ s. Follows s bs ms → Bangs done name (b ∷ bs) ms)
back_bang done name b bs ms =
    by_test (eqb b 61) _ _ (λ s. Follows s bs ms → Bangs done name (b ∷ bs) ms)
    (λ e h. subst (λ x. Bangs done name (x ∷ bs) ms) (is_byte b 61 e) (bang_equal done name bs ms h))
    (λ _. tt)

back_operator : (done : List Matcher) (name : List ℕ) (op : MatchOp) (b : ℕ) (bs : List ℕ) (ms : List Matcher) → IfSome (behind_operator done name op b) (λ s. Follows s bs ms → Operates done name op (b ∷ bs) ms)
back_operator done name op b bs ms =
    by_test (eqb b 32) _ _ (λ s. Follows s bs ms → Operates done name op (b ∷ bs) ms)
    (λ e h. subst (λ x. Operates done name op (x ∷ bs) ms) (is_byte b 32 e) (operate_space done name op bs ms h))
    (λ _. by_test (eqb b 34) _ _ (λ s. Follows s bs ms → Operates done name op (b ∷ bs) ms)
    (λ e h. subst (λ x. Operates done name op (x ∷ bs) ms) (is_byte b 34 e) (operate_quote done name op bs ms h))
    (λ _. tt))

back_quoted : (done : List Matcher) (name : List ℕ) (op : MatchOp) (value : List ℕ) (b : ℕ) (bs : List ℕ) (ms : List Matcher) → IfSome (in_quoted done name op value b) (λ s. Follows s bs ms → Quotes done name op value (b ∷ bs) ms)
back_quoted done name op value b bs ms =
    by_test (eqb b 34) _ _ (λ s. Follows s bs ms → Quotes done name op value (b ∷ bs) ms)
    (λ e h. subst (λ x. Quotes done name op value (x ∷ bs) ms) (is_byte b 34 e) (quote_end done name op value bs ms h))
    (λ no_quote. by_test (eqb b 92) _ _ (λ s. Follows s bs ms → Quotes done name op value (b ∷ bs) ms)
    (λ e h. subst (λ x. Quotes done name op value (x ∷ bs) ms) (is_byte b 92 e) (quote_escape done name op value bs ms h))
    (λ no_escape h. quote_plain done name op value bs b ms no_quote no_escape h))

back_escape : (done : List Matcher) (name : List ℕ) (op : MatchOp) (value : List ℕ) (b : ℕ) (bs : List ℕ) (ms : List Matcher) → IfSome (behind_backslash done name op value b) (λ s. Follows s bs ms → Escapes done name op value (b ∷ bs) ms)
back_escape done name op value b bs ms =
    by_test (eqb b 34 || eqb b 92) _ _ (λ s. Follows s bs ms → Escapes done name op value (b ∷ bs) ms)
    (λ e h. record { byte = b; rest = bs; parts = refl; is_special = e; quotes = h })
    (λ _. tt)

back_matcher : (done : List Matcher) (b : ℕ) (bs : List ℕ) (ms : List Matcher) → IfSome (behind_matcher done b) (λ s. Follows s bs ms → Closes done (b ∷ bs) ms)
back_matcher done b bs ms =
    by_test (eqb b 32) _ _ (λ s. Follows s bs ms → Closes done (b ∷ bs) ms)
    (λ e h. subst (λ x. Closes done (x ∷ bs) ms) (is_byte b 32 e) (close_space done bs ms h))
    (λ _. by_test (eqb b 44) _ _ (λ s. Follows s bs ms → Closes done (b ∷ bs) ms)
    (λ e h. subst (λ x. Closes done (x ∷ bs) ms) (is_byte b 44 e) (close_comma done bs ms h))
    (λ _. by_test (eqb b 125) _ _ (λ s. Follows s bs ms → Closes done (b ∷ bs) ms)
    (λ e h. subst (λ x. Closes done (x ∷ bs) ms) (is_byte b 125 e) (close_end done bs ms h.0 h.1))
    (λ _. tt)))

back_at : (done : List Matcher) (stage : Stage) (b : ℕ) (bs : List ℕ) (ms : List Matcher) → IfSome (step_at done stage b) (λ s. Follows s bs ms → FollowsAt done stage (b ∷ bs) ms)
back_at done Open b bs ms = back_open done b bs ms
back_at done (Name name) b bs ms = back_in_name done name b bs ms
back_at done (Named name) b bs ms = back_name done name b bs ms
back_at done (Bang name) b bs ms = back_bang done name b bs ms
back_at done (Operator name op) b bs ms = back_operator done name op b bs ms
back_at done (Quoted name op value) b bs ms = back_quoted done name op value b bs ms
back_at done (Escaped name op value) b bs ms = back_escape done name op value b bs ms
back_at done Matched b bs ms = back_matcher done b bs ms
back_at done End b bs ms = tt

at_end : (r : Reader) (ms : List Matcher) → r ≡ record { matchers = ms; stage = End } → Follows r [] ms
at_end r ms e = subst (λ s. Follows s [] ms) (sym e) (refl, refl)

follows : (bs : List ℕ) (r : Reader) (ms : List Matcher) → steps r bs ≡ Some (record { matchers = ms; stage = End }) → Follows r bs ms
follows [] r ms h = at_end r ms (same_Some r (record { matchers = ms; stage = End }) h)
follows (b ∷ bs) r ms h =
    option_and_then_some {P = Follows r (b ∷ bs) ms} (λ s. steps s bs) (step r b) (record { matchers = ms; stage = End }) h
    (λ s e f. through (step r b) (λ s. Follows s bs ms → Follows r (b ∷ bs) ms) s e (back_at r.matchers r.stage b bs ms) (follows bs s ms f))

-- what leads to the end is matchers in braces
pub braced_from_steps : (bs : List ℕ) (ms : List Matcher) → steps (record { matchers = []; stage = Open }) bs ≡ Some (record { matchers = ms; stage = End }) → IsBraced (123 ∷ bs) ms
braced_from_steps bs ms h =
    let o : Opens [] bs ms = follows bs (record { matchers = []; stage = Open }) ms h in
    record { before = o.before; after = o.after; list = o.list; is_list = subst (λ l. IsList o.list l) (sym o.all) o.is_list; parts = ap (λ t. 123 ∷ t) o.parts }
