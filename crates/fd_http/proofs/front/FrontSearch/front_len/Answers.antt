use Rattle.std.proofs.Common.{ℕ, ◌≡◌, ◌-◌, List, [], ◌∷◌, ◌++◌, length, take, drop, get_or, false, arith, ap, sym, subst, ◌∙◌, length-drop}
use Rattle.std.proofs.lemmas.List.{get_or-drop, take_all}
use Rattle.fd_http.specs.Front.{is_blank_ended}
use Rattle.fd_http.specs.Search.{EndsAs}
use Rattle.fd_http.proofs.SearchLemmas.{searched_more}
use Rattle.fd_http.proofs.front.FrontSearch.front_len.Goals as goal

pub loop-byte-preserved : goal.loop-byte-preserved
loop-byte-preserved c =
    let bytes : List ℕ = c.args.bytes.now in
    let from : ℕ = c.args.self.now.place in
    let all : take (length bytes - from) (drop from bytes) ≡ drop from bytes = take_all (length bytes - from) (drop from bytes) (omega (arith, length-drop from bytes)) in
    let at : get_or (take (length bytes - from) (drop from bytes)) c.loop-byte.byte-index 0 ≡ get_or bytes c.loop-byte.self.place 0 =
    ap (λ (xs : List ℕ). get_or xs c.loop-byte.byte-index 0) all ∙ get_or-drop c.args.self.now.place bytes c.loop-byte.byte-index 0 ∙ ap (λ (k : ℕ). get_or bytes k 0) (sym c.loop-byte.invariant.place) in
    let P : ℕ → Type 0 = λ b. EndsAs (take c.loop-byte.self.place bytes ++ b ∷ []) c.see.new.self in
    let Q : ℕ → Type 0 = λ b. is_blank_ended (take c.loop-byte.self.place bytes ++ b ∷ []) ≡ false in
    let no : is_blank_ended (take c.loop-byte.self.place bytes ++ get_or (take (length bytes - from) (drop from bytes)) c.loop-byte.byte-index 0 ∷ []) ≡ false =
    sym (c.see.ensures.found (take c.loop-byte.self.place bytes) c.loop-byte.invariant.searched.ends) ∙ c.if-see.false in
    record {
      searched = searched_more bytes c.loop-byte.self c.see.new.self c.loop-byte.invariant.searched
          (omega (arith, c.loop-byte-test.true, length-drop c.args.self.now.place bytes, c.loop-byte.invariant.place))
          c.see.ensures.place
          (subst P at (c.see.ensures.ends (take c.loop-byte.self.place bytes) c.loop-byte.invariant.searched.ends))
          (subst Q at no);
      place = omega (arith, c.see.ensures.place, c.loop-byte.invariant.place);
    }
