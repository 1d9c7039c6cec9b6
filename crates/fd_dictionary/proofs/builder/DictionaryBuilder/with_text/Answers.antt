use Rattle.std.proofs.Common.{◌∙◌, ◌++◌, ◌∷◌, [], ap, sym}
use Rattle.std.specs.Prelude.{Some}
use Rattle.fd_dictionary.specs.Dictionaries.{cells_of}
use Rattle.fd_dictionary.proofs.DictionaryPushes.{HasMore, known_more, new_more}
use Rattle.fd_dictionary.proofs.builder.DictionaryBuilder.with_text.Goals as goal

known : (c : goal.In_ok-push-in-Some) → HasMore c.self.inside.entries (c.self.inside.picks ++ c.in-Some.pick ∷ []) (cells_of c.self.inside.entries c.self.inside.picks) (Some c.args.text.now)
known c = known_more c.self.inside.entries c.self.inside.picks c.args.text.now c.in-Some.pick (sym c.pick.ensures ∙ c.in-Some.is) c.self.invariant

new : (c : goal.In_ok-push-in-None) → HasMore (c.self.inside.entries ++ c.args.text.now ∷ []) (c.self.inside.picks ++ c.in_ok-entries-in-None.pick ∷ []) (cells_of c.self.inside.entries c.self.inside.picks) (Some c.args.text.now)
new c = new_more c.self.inside.entries c.self.inside.picks c.args.text.now c.in_ok-entries-in-None.pick (sym c.pick.ensures ∙ c.in-None.is) c.in_ok-entries-in-None.ensures.pick c.self.invariant

pub invariant_of-result : goal.invariant_of-result
invariant_of-result c = rw c.in_ok-push-in-Some.ensures.ok (known c).fine

pub invariant_of-result-in-None : goal.invariant_of-result-in-None
invariant_of-result-in-None c = rw (c.in_ok-entries-in-None.ensures.entries, c.in_ok-push-in-None.ensures.ok) (new c).fine

pub returns-in_ok-push-in-Some : goal.returns-in_ok-push-in-Some
returns-in_ok-push-in-Some c =
    rw c.in_ok-push-in-Some.ensures.ok ((known c).cells ∙ ap (λ cells. cells ++ Some c.args.text.now ∷ []) c.self.view_is)

pub returns-in_ok-push-in-None : goal.returns-in_ok-push-in-None
returns-in_ok-push-in-None c =
    rw (c.in_ok-entries-in-None.ensures.entries, c.in_ok-push-in-None.ensures.ok) ((new c).cells ∙ ap (λ cells. cells ++ Some c.args.text.now ∷ []) c.self.view_is)
