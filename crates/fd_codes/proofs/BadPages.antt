-- What is bad is no page.
use Rattle.std.proofs.Common.{◌≡◌, Result, Ok, Err, sym, ap, ◌∙◌}
use Rattle.fd_pages.specs.declared.fault.PageFault.{PageFault}
use Rattle.fd_pages.specs.declared.fault.PageFault.TheVariants.{BadPage, NoMemory}
use Rattle.fd_pages.specs.Pages.{Gives}

abbrev done : {A : Type 0} → A → Result A PageFault
done x = Ok x

abbrev failed : {A : Type 0} → PageFault → Result A PageFault
failed e = Err e

wrong : {A : Type 0} (x : A) → failed BadPage ≡ done x → ⊥
wrong x e = absurd cc

other : {A : Type 0} → failed {A = A} NoMemory ≡ failed {A = A} BadPage → ⊥
other e = absurd cc

-- a fault that is handed on is want of memory, where there is a page
pub not_bad : {A B : Type 0} (r : Result B PageFault) (e fault : PageFault) (page : A) → r ≡ Err e → e ≡ fault → r ≡ Err BadPage → Gives {A = A} (Err fault) (Ok page) → ⊥
not_bad r e NoMemory page was same bad h = other (sym (was ∙ ap failed same) ∙ bad)
not_bad r e BadPage page was same bad h = wrong page h
