-- The texts of a dictionary's body.
use Rattle.std.specs.Prelude.{◌≡◌, ℕ, ◌-◌, ◌<◌, ◌^◌, List, [], length, All, slice_index_or}
use Rattle.std.specs.declared.cmp.Ordering.TheVariants.{Less}
use Rattle.fd_lists.specs.Texts.{text_cmp}
use Rattle.fd_pages.specs.Dictionaries.{AreRising, dictionary_body}

-- the bytes are so many rising texts with their lengths
pub record AreTexts (count : ℕ) (texts : List (List ℕ)) (bytes : List ℕ) : Type 0 where
  pub counted : length texts ≡ count
  pub rising : AreRising texts
  pub fit : All (λ text. length text < 2 ^ 32) texts
  pub whole : bytes ≡ dictionary_body texts

-- the text is above the last of the others
abbrev pub Rises : List (List ℕ) → List ℕ → Type 0
Rises texts text = 0 < length texts → text_cmp (slice_index_or texts (length texts - 1) []) text ≡ Less
