-- The headers of the pages of a chunk with a dictionary.
use Rattle.std.specs.Prelude.{ℕ, List}
use Rattle.fd_thrift.specs.Values.{Value}
use Rattle.fd_thrift.specs.Format.{spelling}
use Rattle.fd_codes.specs.declared.page_type.PageType.{PageType}
use Rattle.fd_codes.specs.declared.page_type.PageType.TheVariants.{Dictionary, Codes}
use Rattle.fd_pages.specs.Pages.{page_header_in}
use Rattle.fd_pages.specs.Dictionaries.{dictionary_encoding, dictionary_header}

-- the header of a page with so many values and so many bytes in its body
abbrev pub header_value : PageType → ℕ → ℕ → Value
header_value Dictionary count size = dictionary_header count size
header_value Codes count size = page_header_in dictionary_encoding count size

-- its bytes
unfoldable pub header_text : PageType → ℕ → ℕ → List ℕ
header_text type count size = spelling (header_value type count size)
