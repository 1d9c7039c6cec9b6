use Rattle.std.proofs.Common.{ℕ, List, All, IsUtf8, Bor, map, sym, subst}
use Rattle.fd_words.proofs.plan.plan_words.Goals as goal

pub read_words-requires : goal.read_words-requires
read_words-requires c = record {
  utf8 =
      subst (λ (words : List (Bor (List ℕ))). All IsUtf8 (map (λ w. w.now) words)) (sym c.as_slice-2.ensures.value) c.in_ok-words.ensures.utf8;
}
