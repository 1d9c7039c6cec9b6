-- The text of matchers in braces leads the reader to its end, with those matchers.
use Rattle.std.proofs.Common.{ℕ, zero, suc, ◌≡◌, Bool, true, false, eqb, ◌&&◌, ◌||◌, List, [], ◌∷◌, ◌++◌, Option, Some, None, refl, sym, ap, ◌∙◌, arith, append_assoc, inl, inr}
use Rattle.std.specs.List.{flat_map, list_all}
use Rattle.std.specs.Option.{option_and_then}
use Rattle.std.proofs.lemmas.Bool.Decides.{nat_tests}
use Rattle.fd_kinds.specs.declared.query.MatchOp.{MatchOp}
use Rattle.fd_kinds.specs.declared.query.MatchOp.TheVariants.{Equal, NotEqual}
use Rattle.fd_kinds.specs.declared.query.Matcher.{Matcher}
use Rattle.fd_select.specs.declared.reader.Stage.{Stage}
use Rattle.fd_select.specs.declared.reader.Stage.TheVariants.{Open, Name, Named, Operator, Quoted, Escaped, Matched, End}
use Rattle.fd_select.specs.declared.reader.Reader.{Reader}
use Rattle.fd_kinds.specs.Names.{is_name_start, is_name_byte, is_label_name}
use Rattle.fd_select.specs.SelectorTexts.{spaces, op_text, escaped, IsMatcher, IsComma, IsRest, IsList, IsBraced}
use Rattle.fd_select.specs.Machine.{matcher, step, steps}
use Rattle.fd_select.proofs.Basics.{append-nil}

abbrev pub reader : List Matcher → Stage → Reader
reader ms stage = record { matchers = ms; stage = stage }

abbrev pub start : Reader
start = reader [] Open

and_then_both : (a b : List ℕ) (o : Option Reader) → ((r : Reader) → steps r (a ++ b) ≡ option_and_then (λ s. steps s b) (steps r a)) → option_and_then (λ s. steps s (a ++ b)) o ≡ option_and_then (λ s. steps s b) (option_and_then (λ s. steps s a) o)
and_then_both a b None h = refl
and_then_both a b (Some r) h = h r

pub steps-append : (a b : List ℕ) (r : Reader) → steps r (a ++ b) ≡ option_and_then (λ s. steps s b) (steps r a)
steps-append [] b r = refl
steps-append (x ∷ a) b r = and_then_both a b (step r x) (λ s. steps-append a b s)

-- one step
pub steps_one : (r s : Reader) (b : ℕ) (bs : List ℕ) → step r b ≡ Some s → steps r (b ∷ bs) ≡ steps s bs
steps_one r s b bs e = ap (λ o. option_and_then (λ t. steps t bs) o) e

over_spaces : (n : ℕ) (r : Reader) (bs : List ℕ) → step r 32 ≡ Some r → steps r (spaces n ++ bs) ≡ steps r bs
over_spaces zero r bs e = refl
over_spaces (suc n) r bs e = steps_one r r 32 (spaces n ++ bs) e ∙ over_spaces n r bs e

and_parts : (a b : Bool) → (a && b) ≡ true → (a ≡ true) × (b ≡ true)
and_parts true b h = (refl, h)
and_parts false b h = cc

or_false : (a b : Bool) → (a || b) ≡ false → (a ≡ false) × (b ≡ false)
or_false true b h = cc
or_false false b h = (refl, h)

over_name : (cs : List ℕ) (ms : List Matcher) (name bs : List ℕ) → list_all is_name_byte cs ≡ true → steps (reader ms (Name name)) (cs ++ bs) ≡ steps (reader ms (Name (name ++ cs))) bs
over_name [] ms name bs h = ap (λ n. steps (reader ms (Name n)) bs) (sym (append-nil name))
over_name (c ∷ cs) ms name bs h =
    let p = and_parts (is_name_byte c) (list_all is_name_byte cs) h in
    let one : step (reader ms (Name name)) c ≡ Some (reader ms (Name (name ++ c ∷ []))) = rw p.0 refl in
    steps_one (reader ms (Name name)) (reader ms (Name (name ++ c ∷ []))) c (cs ++ bs) one
    ∙ over_name cs ms (name ++ c ∷ []) bs p.1
    ∙ ap (λ n. steps (reader ms (Name n)) bs) (append_assoc name (c ∷ []) cs)

name_begins : (ms : List Matcher) (b : ℕ) → is_name_start b ≡ true → step (reader ms Open) b ≡ Some (reader ms (Name (b ∷ [])))
name_begins ms b h =
    let no_space : eqb b 32 ≡ false = grind (arith, nat_tests) in
    let no_brace : eqb b 125 ≡ false = grind (arith, nat_tests) in
    rw (no_space, no_brace, h) refl

-- the operator behind spaces
at_operator : (op : MatchOp) (ms : List Matcher) (name bs : List ℕ) → steps (reader ms (Named name)) (op_text op ++ bs) ≡ steps (reader ms (Operator name op)) bs
at_operator Equal ms name bs = refl
at_operator NotEqual ms name bs = refl

behind_name_leads : (n : ℕ) (op : MatchOp) (ms : List Matcher) (name bs : List ℕ) → steps (reader ms (Name name)) (spaces n ++ (op_text op ++ bs)) ≡ steps (reader ms (Operator name op)) bs
behind_name_leads zero Equal ms name bs = refl
behind_name_leads zero NotEqual ms name bs = refl
behind_name_leads (suc n) op ms name bs =
    steps_one (reader ms (Name name)) (reader ms (Named name)) 32 (spaces n ++ (op_text op ++ bs)) refl
    ∙ over_spaces n (reader ms (Named name)) (op_text op ++ bs) refl
    ∙ at_operator op ms name bs

over_escaped : (b : ℕ) (ms : List Matcher) (name : List ℕ) (op : MatchOp) (value bs : List ℕ) → steps (reader ms (Quoted name op value)) (escaped b ++ bs) ≡ steps (reader ms (Quoted name op (value ++ b ∷ []))) bs
over_escaped b ms name op value bs = by_test (eqb b 34 || eqb b 92) refl
  where
    by_test : (t : Bool) → (eqb b 34 || eqb b 92) ≡ t → steps (reader ms (Quoted name op value)) (escaped b ++ bs) ≡ steps (reader ms (Quoted name op (value ++ b ∷ []))) bs
    by_test true e =
        let two : escaped b ≡ 92 ∷ b ∷ [] = rw e refl in
        let one : step (reader ms (Escaped name op value)) b ≡ Some (reader ms (Quoted name op (value ++ b ∷ []))) = rw e refl in
        ap (λ t. steps (reader ms (Quoted name op value)) (t ++ bs)) two
        ∙ steps_one (reader ms (Escaped name op value)) (reader ms (Quoted name op (value ++ b ∷ []))) b bs one
    by_test false e =
        let p = or_false (eqb b 34) (eqb b 92) e in
        let alone : escaped b ≡ b ∷ [] = rw e refl in
        let one : step (reader ms (Quoted name op value)) b ≡ Some (reader ms (Quoted name op (value ++ b ∷ []))) = rw (p.0, p.1) refl in
        ap (λ t. steps (reader ms (Quoted name op value)) (t ++ bs)) alone
        ∙ steps_one (reader ms (Quoted name op value)) (reader ms (Quoted name op (value ++ b ∷ []))) b bs one

over_quoted : (v : List ℕ) (ms : List Matcher) (name : List ℕ) (op : MatchOp) (value bs : List ℕ) → steps (reader ms (Quoted name op value)) (flat_map escaped v ++ 34 ∷ bs) ≡ steps (reader (ms ++ matcher name op (value ++ v) ∷ []) Matched) bs
over_quoted [] ms name op value bs = ap (λ w. steps (reader (ms ++ matcher name op w ∷ []) Matched) bs) (sym (append-nil value))
over_quoted (b ∷ v) ms name op value bs =
    ap (λ t. steps (reader ms (Quoted name op value)) t) (append_assoc (escaped b) (flat_map escaped v) (34 ∷ bs))
    ∙ over_escaped b ms name op value (flat_map escaped v ++ 34 ∷ bs)
    ∙ over_quoted v ms name op (value ++ b ∷ []) bs
    ∙ ap (λ w. steps (reader (ms ++ matcher name op w ∷ []) Matched) bs) (append_assoc value (b ∷ []) v)

behind_operator_leads : (n : ℕ) (v : List ℕ) (ms : List Matcher) (name : List ℕ) (op : MatchOp) (bs : List ℕ) → steps (reader ms (Operator name op)) (spaces n ++ (34 ∷ (flat_map escaped v ++ 34 ∷ bs))) ≡ steps (reader (ms ++ matcher name op v ∷ []) Matched) bs
behind_operator_leads n v ms name op bs =
    over_spaces n (reader ms (Operator name op)) (34 ∷ (flat_map escaped v ++ 34 ∷ bs)) refl
    ∙ over_quoted v ms name op [] bs

-- a matcher's text, and what follows it, with the parts one behind the other
regrouped : (name op quote bs : List ℕ) (i j : ℕ) → (name ++ (spaces i ++ (op ++ (spaces j ++ (34 ∷ (quote ++ 34 ∷ [])))))) ++ bs ≡ name ++ (spaces i ++ (op ++ (spaces j ++ (34 ∷ (quote ++ 34 ∷ bs)))))
regrouped name op quote bs i j = simp append_assoc

name_leads : (name : List ℕ) (ms : List Matcher) (bs : List ℕ) → is_label_name name ≡ true → steps (reader ms Open) (name ++ bs) ≡ steps (reader ms (Name name)) bs
name_leads [] ms bs h = cc
name_leads (b ∷ cs) ms bs h =
    let p = and_parts (is_name_start b) (list_all is_name_byte cs) h in
    steps_one (reader ms Open) (reader ms (Name (b ∷ []))) b (cs ++ bs) (name_begins ms b p.0)
    ∙ over_name cs ms (b ∷ []) bs p.1

pub matcher_leads : (text : List ℕ) (m : Matcher) (ms : List Matcher) (bs : List ℕ) → IsMatcher text m → steps (reader ms Open) (text ++ bs) ≡ steps (reader (ms ++ m ∷ []) Matched) bs
matcher_leads text m ms bs h =
    let quote = flat_map escaped m.value in
    ap (λ t. steps (reader ms Open) (t ++ bs)) h.parts
    ∙ ap (λ t. steps (reader ms Open) t) (regrouped m.name (op_text m.op) quote bs h.before h.after)
    ∙ name_leads m.name ms (spaces h.before ++ (op_text m.op ++ (spaces h.after ++ (34 ∷ (quote ++ 34 ∷ bs))))) h.is_name
    ∙ behind_name_leads h.before m.op ms m.name (spaces h.after ++ (34 ∷ (quote ++ 34 ∷ bs)))
    ∙ behind_operator_leads h.after m.value ms m.name m.op bs

pub comma_leads : (text : List ℕ) (ms : List Matcher) (bs : List ℕ) → IsComma text → steps (reader ms Matched) (text ++ bs) ≡ steps (reader ms Open) bs
comma_leads text ms bs h =
    ap (λ t. steps (reader ms Matched) (t ++ bs)) h.parts
    ∙ ap (λ t. steps (reader ms Matched) t) (append_assoc (spaces h.before) (44 ∷ spaces h.after) bs)
    ∙ over_spaces h.before (reader ms Matched) (44 ∷ (spaces h.after ++ bs)) refl
    ∙ over_spaces h.after (reader ms Open) bs refl

close_leads : (n : ℕ) (ms : List Matcher) → steps (reader ms Open) (spaces n ++ 125 ∷ []) ≡ Some (reader (ms ++ []) End)
close_leads n ms = over_spaces n (reader ms Open) (125 ∷ []) refl ∙ ap (λ l. Some (reader l End)) (sym (append-nil ms))

rest_leads : (more : List Matcher) (text : List ℕ) (n : ℕ) (ms : List Matcher) → IsRest text more → steps (reader ms Matched) (text ++ (spaces n ++ 125 ∷ [])) ≡ Some (reader (ms ++ more) End)
rest_leads [] text n ms (inl e) =
    ap (λ t. steps (reader ms Matched) (t ++ (spaces n ++ 125 ∷ []))) e
    ∙ over_spaces n (reader ms Matched) (125 ∷ []) refl
    ∙ ap (λ l. Some (reader l End)) (sym (append-nil ms))
rest_leads [] text n ms (inr h) = comma_leads text ms (spaces n ++ 125 ∷ []) h ∙ close_leads n ms
rest_leads (m ∷ more) text n ms (comma, mt, rest, e, is_comma, is_matcher, is_rest) =
    let end = spaces n ++ 125 ∷ [] in
    ap (λ t. steps (reader ms Matched) (t ++ end)) e
    ∙ ap (λ t. steps (reader ms Matched) t) (append_assoc comma (mt ++ rest) end ∙ ap (λ t. comma ++ t) (append_assoc mt rest end))
    ∙ comma_leads comma ms (mt ++ (rest ++ end)) is_comma
    ∙ matcher_leads mt m ms (rest ++ end) is_matcher
    ∙ rest_leads more rest n (ms ++ m ∷ []) is_rest
    ∙ ap (λ l. Some (reader l End)) (append_assoc ms (m ∷ []) more)

list_leads : (ms : List Matcher) (text : List ℕ) (n : ℕ) → IsList text ms → steps start (text ++ (spaces n ++ 125 ∷ [])) ≡ Some (reader ms End)
list_leads [] text n e = ap (λ t. steps start (t ++ (spaces n ++ 125 ∷ []))) e ∙ close_leads n []
list_leads (m ∷ ms) text n (mt, rest, e, is_matcher, is_rest) =
    let end = spaces n ++ 125 ∷ [] in
    ap (λ t. steps start (t ++ end)) e
    ∙ ap (λ t. steps start t) (append_assoc mt rest end)
    ∙ matcher_leads mt m [] (rest ++ end) is_matcher
    ∙ rest_leads ms rest n (m ∷ []) is_rest

pub braced_leads : (bs : List ℕ) (ms : List Matcher) → IsBraced (123 ∷ bs) ms → steps start bs ≡ Some (reader ms End)
braced_leads bs ms h =
    let inside : bs ≡ spaces h.before ++ (h.list ++ (spaces h.after ++ 125 ∷ [])) = cc h.parts in
    ap (λ t. steps start t) inside
    ∙ over_spaces h.before start (h.list ++ (spaces h.after ++ 125 ∷ [])) refl
    ∙ list_leads ms h.list h.after h.is_list
