use Rattle.std.proofs.Common.{◌≡◌, ℕ, ◌+◌, ◌<◌, List, ◌∷◌, [], ◌++◌, length, Bor, arith, sym, subst}
use Rattle.fd_words.proofs.Borrowed.{Borrows, borrows_more}
use Rattle.fd_words.proofs.plan.words_of.Goals as goal

pub loop-text-preserved : goal.loop-text-preserved
loop-text-preserved c =
    let texts = c.args.texts.now in
    let at = c.loop-text.text-index in
    let here : at < length texts = omega (arith, c.loop-text-test.true) in
    let pushed : c.push.new.self.items ≡ c.loop-text.words.items ++ c.as_str.result ∷ [] = c.in_ok-push.ensures.items in
    subst (λ (words : List (Bor (List ℕ))). Borrows texts (at + 1) words) (sym pushed)
    (borrows_more texts at c.loop-text.words.items c.as_str.result _ c.loop-text.invariant here c.text-item.is c.as_str.ensures c.as_str.utf8)
