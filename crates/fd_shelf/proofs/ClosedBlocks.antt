-- What closed blocks keep.
use Rattle.std.specs.Prelude.{◌≡◌, ℕ, zero, suc, Bool, true, false, if◌then◌else◌, List, [], ◌∷◌, ◌++◌, Some, slice_get}
use Rattle.std.proofs.Common.{ap, ◌∙◌}
use Rattle.std.proofs.lemmas.Option.{none-some}
use Rattle.fd_kinds.specs.Parts.{PartMeaning}
use Rattle.fd_shelf.specs.Books.{Book}
use Rattle.fd_shelf.specs.Numbers.{KeepsClosed}
use Rattle.fd_shelf.specs.Steps.{is_full}

-- the same closed blocks
pub closed_kept : (old new : Book) → new.closed ≡ old.closed → KeepsClosed old new
closed_kept old new same block lo hi is =
    record {
      parts = is.parts;
      here = ap (λ blocks. slice_get blocks block) same ∙ is.here;
      begins = is.begins;
      ends = is.ends;
    }

pub front_kept : (closed : List (List PartMeaning)) (more : List (List PartMeaning)) (block : ℕ) (parts : List PartMeaning) → slice_get closed block ≡ Some parts → slice_get (closed ++ more) block ≡ Some parts
front_kept [] more block parts here = absurd (none-some parts here)
front_kept (b ∷ bs) more zero parts here = here
front_kept (b ∷ bs) more (suc block) parts here = front_kept bs more block parts here

joined_by : (full : Bool) (closed : List (List PartMeaning)) (active : List PartMeaning) (block : ℕ) (parts : List PartMeaning) → slice_get closed block ≡ Some parts
    → slice_get (if full then closed ++ active ∷ [] else closed) block ≡ Some parts
joined_by true closed active block parts here = front_kept closed (active ∷ []) block parts here
joined_by false closed active block parts here = here

-- the closed blocks, and perhaps the active one behind them
pub joined_closed : (old new : Book) → new.closed ≡ (if is_full old.active then old.closed ++ old.active ∷ [] else old.closed) → KeepsClosed old new
joined_closed old new is_new block lo hi is =
    record {
      parts = is.parts;
      here = ap (λ blocks. slice_get blocks block) is_new ∙ joined_by (is_full old.active) old.closed old.active block is.parts is.here;
      begins = is.begins;
      ends = is.ends;
    }
