use Rattle.std.proofs.Common.{◌++◌, length, ap, ◌∙◌}
use Rattle.fd_codes.specs.declared.page_type.PageType.TheVariants.{Codes}
use Rattle.fd_codes.specs.Headers.{header_text}
use Rattle.fd_codes.proofs.CodeLaws.{pick_page_is}
use Rattle.fd_codes.proofs.pick_pages.page.Goals as goal

pub returns : goal.returns
returns c =
    pick_page_is c.args.required c.args.size (length c.args.picks.now) c.args.picks.now c.extend.new.self c.in_ok-page.page c.in_ok-body.body c.requires.some c.requires.few c.in_ok-body.ensures.spelled c.in_ok-body.ensures.short
    (c.in_ok-page.ensures ∙ ap (header_text Codes (length c.args.picks.now)) c.len.ensures) (c.in_ok-extend.ensures.ok ∙ ap (λ x. c.in_ok-page.page ++ x) c.as_slice.ensures)
