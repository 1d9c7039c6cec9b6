use Rattle.std.proofs.Common.{◌≡◌, ◌++◌, map, take}
use Rattle.fd_pages.specs.Dictionaries.{dictionary_body}
use Rattle.fd_codes.proofs.texts.put_texts.Given as goal

abbrev pub invariant-loop-text : goal.invariant-loop-text
invariant-loop-text l = l.out ≡ l.fn.out ++ dictionary_body (take l.text-index (map (λ t. t.now) l.texts))
