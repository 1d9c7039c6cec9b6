-- The header of a page, as a tree and as bytes.
use Rattle.std.proofs.Common.{◌≡◌, ℕ, ◌-◌, ◌^◌, ◌<◌, Bool, true, false, ltb, List, [], ◌∷◌, ◌++◌, length, take, drop, Result, Ok, Err, refl, sym, ap, subst, ◌∙◌, Some, None, Vec, Global, rules, arith, lit<, lit≤}
use Rattle.std.specs.Prelude.{pos, FitsSigned}
use Rattle.std.specs.Prelude.{nat_eq, not}
use Rattle.std.specs.Cmp.Lexicographic.{pointwise}
use Rattle.std.proofs.lemmas.Cmp.{nat_list_eq_equiv}
use Rattle.std.specs.Int.{w32}
use Rattle.std.proofs.lemmas.Bool.{ltb-false}
use Rattle.std.proofs.lemmas.List.{take_all, take_at, drop_at}
use Rattle.fd_thrift.specs.declared.tree.TreeField.{TreeField}
use Rattle.fd_thrift.specs.declared.fault.ThriftFault.{ThriftFault}
use Rattle.fd_thrift.specs.declared.fault.ThriftFault.TheVariants.{Cut, BadType, BadSize, Deep, NoMemory}
use Rattle.fd_pages.specs.declared.fault.PageFault.{PageFault}
use Rattle.fd_pages.specs.declared.fault.PageFault.TheVariants as pages
use Rattle.fd_thrift.specs.Values.{struct}
use Rattle.fd_thrift.specs.declared.tree.Tree.{Struct, the_lemmas}
use Rattle.fd_thrift.specs.View.{view, fields_view}
use Rattle.fd_thrift.specs.Format.{Spells, IsFormed, spelling}
use Rattle.fd_thrift.specs.Reader.{Begins, Fails}
use Rattle.fd_pages.specs.Pages.{page_header_in, data_page_header_in, page_header, header_bytes}
use Rattle.fd_pages.specs.Reader.{fault_of}

-- a header has a second field
pub second_field : (fields : List TreeField) (count size : ℕ) → struct (fields_view fields) ≡ page_header count size → false ≡ ltb 1 (length fields) → ⊥
second_field [] count size e h = cc
second_field (f ∷ []) count size e h = cc
second_field (f ∷ g ∷ fs) count size e h = omega (arith, ltb-false 1 (length (f ∷ g ∷ fs)) (sym h))

pub fits_whole : (n : ℕ) → n < 2 ^ 31 → FitsSigned w32 (pos n)
fits_whole n lt = record { sfits = lt }

-- the header of a page with values in an encoding
pub header_in_spells : (encoding count size : ℕ) → encoding < 2 ^ 31 → count < 2 ^ 31 → size < 2 ^ 31 → Spells (spelling (page_header_in encoding count size)) (page_header_in encoding count size)
header_in_spells encoding count size encoded counted small = record {
  legal = record { struct = refl; within = lit≤ tt; formed = ((lit< tt, lit≤ tt, lit≤ tt), tt, ((lit< tt, lit≤ tt, lit≤ tt), tt, ((lit< tt, lit≤ tt, lit≤ tt), tt, ((lit< tt, lit≤ tt, lit≤ tt), numbered, tt)))) };
  fits = (fits_whole 0 (omega arith), (fits_whole size small, (fits_whole size small, ((fits_whole count counted, (fits_whole encoding encoded, (fits_whole 3 (omega arith), (fits_whole 3 (omega arith), tt)))), tt))));
  whole = refl;
}
  where
    numbered : IsFormed (data_page_header_in encoding count)
    numbered = ((lit< tt, lit≤ tt, lit≤ tt), tt, ((lit< tt, lit≤ tt, lit≤ tt), tt, ((lit< tt, lit≤ tt, lit≤ tt), tt, ((lit< tt, lit≤ tt, lit≤ tt), tt, tt))))

pub header_spells : (count size : ℕ) → count < 2 ^ 31 → size < 2 ^ 31 → Spells (header_bytes count size) (page_header count size)
unfolding header_bytes
header_spells count size counted small = header_in_spells 0 count size (omega arith) counted small

-- the header in front of bytes
pub header_begins : (bytes : List ℕ) (count size : ℕ) (rest : List ℕ) → count < 2 ^ 31 → size < 2 ^ 31 → bytes ≡ header_bytes count size ++ rest
    → Begins 0 (take (length bytes - 0) (drop 0 bytes)) (page_header count size) (length (header_bytes count size))
header_begins bytes count size rest counted small e =
    (header_bytes count size, rest, take_all (length bytes - 0) bytes (omega arith) ∙ e, header_spells count size counted small, omega arith)

abbrev done : {A : Type 0} → A → Result A ThriftFault
done x = Ok x

was_err : {A : Type 0} (e : ThriftFault) (x : A) → done x ≡ Err e → ⊥
was_err e x h = absurd cc

abbrev page_done : {A : Type 0} → A → Result A PageFault
page_done x = Ok x

page_is : {A : Type 0} (x y : A) → page_done x ≡ page_done y → x ≡ y
page_is x y e = cc

-- a value that is read, with either kind of faults
pub same_value : {A : Type 0} (x y : A) → done x ≡ done y → page_done y ≡ page_done x
same_value x y e = let same : x ≡ y = cc in ap page_done (sym same)

-- what is spelled is refused for want of memory alone
pub refused : {Y : Type 0} (fault : ThriftFault) (y : Y) → Fails fault (done y) → fault_of fault ≡ pages.NoMemory
refused NoMemory y h = refl
refused Cut y h = absurd (was_err Cut y h)
refused BadType y h = absurd (was_err BadType y h)
refused BadSize y h = absurd (was_err BadSize y h)
refused Deep y h = absurd (was_err Deep y h)

-- what a struct of a tree is seen as
pub view_struct : (fields : Vec TreeField Global) → view (Struct fields) ≡ struct (fields_view fields.items)
view_struct fields = search (rules, the_lemmas)

pub pair_is : {A B : Type 0} (a x : A) (b y : B) → page_done {A = A × B} (a, b) ≡ page_done {A = A × B} (x, y) → (a ≡ x) × (b ≡ y)
pair_is {A} {B} a x b y e =
    let same : (a, b) ≡ (x, y) = page_is (a, b) (x, y) e in
    (ap (λ (p : A × B). p.0) same, ap (λ (p : A × B). p.1) same)

pub some_is : (a b : ℕ) → Some a ≡ Some b → a ≡ b
some_is a b e = cc

pub none_is : (a : ℕ) → None ≡ Some a → ⊥
none_is a e = cc

-- the header that is there is the one that is expected
pub front_is : (bytes front rest : List ℕ) (end size count told : ℕ) (behind : List ℕ) → bytes ≡ header_bytes count size ++ behind → told ≡ size → end ≡ length (header_bytes count size)
    → front ≡ take end bytes → rest ≡ drop end bytes → (front ≡ header_bytes count told) × (rest ≡ behind)
front_is bytes front rest end size count told behind whole told-is end-is front-is rest-is = (
  front-is ∙ ap (take end) whole ∙ take_at (header_bytes count size) behind end (sym end-is) ∙ ap (header_bytes count) (sym told-is),
  rest-is ∙ ap (drop end) whole ∙ drop_at (header_bytes count size) behind end (sym end-is),
)

-- equal lists of bytes compare as equal
pub not_unequal : (a b : List ℕ) (unequal : Bool) → unequal ≡ not (pointwise nat_eq a b) → unequal ≡ true → a ≡ b → ⊥
not_unequal a b unequal tested was same =
    let alike : pointwise nat_eq a b ≡ true = subst (λ x. pointwise nat_eq a x ≡ true) same (nat_list_eq_equiv.refl a) in
    let e : true ≡ false = sym was ∙ tested ∙ ap not alike in cc
