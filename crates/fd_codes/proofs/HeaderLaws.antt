-- The headers of pages, as trees and as bytes.
use Rattle.std.proofs.Common.{◌≡◌, ℕ, zero, suc, ◌-◌, ◌^◌, ◌<◌, Bool, true, false, ltb, List, [], ◌∷◌, ◌++◌, length, take, drop, slice_get, Option, None, Some, Result, Ok, Err, Vec, Global, refl, sym, ap, subst, ◌∙◌, rules, arith, lit<, lit≤}
use Rattle.std.specs.Prelude.{pos, FitsSigned, nat_eq, not}
use Rattle.std.specs.Option.{option_map}
use Rattle.std.specs.Int.{w32}
use Rattle.std.specs.Cmp.Lexicographic.{pointwise}
use Rattle.std.proofs.lemmas.Bool.{ltb-false}
use Rattle.std.proofs.lemmas.Cmp.{nat_list_eq_equiv}
use Rattle.std.proofs.lemmas.List.{take_all, take_at, drop_at}
use Rattle.fd_thrift.specs.declared.tree.TreeField.{TreeField}
use Rattle.fd_thrift.specs.declared.tree.Tree.{Struct, the_lemmas}
use Rattle.fd_thrift.specs.declared.fault.ThriftFault.{ThriftFault}
use Rattle.fd_thrift.specs.declared.fault.ThriftFault.TheVariants.{Cut, BadType, BadSize, Deep, NoMemory}
use Rattle.fd_thrift.specs.Values.{Value, Fields, whole32, struct, no_fields, field}
use Rattle.fd_thrift.specs.View.{view, field_view, fields_view}
use Rattle.fd_thrift.specs.Format.{Spells, IsFormed}
use Rattle.fd_thrift.specs.Reader.{Begins, Fails}
use Rattle.fd_pages.specs.declared.fault.PageFault.{PageFault}
use Rattle.fd_pages.specs.declared.fault.PageFault.TheVariants as pages
use Rattle.fd_pages.specs.Pages.{page_header_in, data_page_header_in}
use Rattle.fd_pages.specs.Dictionaries.{dictionary_page_header}
use Rattle.fd_pages.specs.Reader.{fault_of}
use Rattle.fd_codes.specs.declared.page_type.PageType.{PageType}
use Rattle.fd_codes.specs.declared.page_type.PageType.TheVariants.{Dictionary, Codes}
use Rattle.fd_codes.specs.Headers.{header_value, header_text}
use Rattle.fd_codes.specs.Trees.{value_in}

fits_whole : (n : ℕ) → n < 2 ^ 31 → FitsSigned w32 (pos n)
fits_whole n lt = record { sfits = lt }

pub header_spells : (type : PageType) (count size : ℕ) → count < 2 ^ 31 → size < 2 ^ 31 → Spells (header_text type count size) (header_value type count size)
unfolding header_text
header_spells Dictionary count size counted small = record {
  legal = record { struct = refl; within = lit≤ tt; formed = ((lit< tt, lit≤ tt, lit≤ tt), tt, ((lit< tt, lit≤ tt, lit≤ tt), tt, ((lit< tt, lit≤ tt, lit≤ tt), tt, ((lit< tt, lit≤ tt, lit≤ tt), numbered, tt)))) };
  fits = (fits_whole 2 (omega arith), (fits_whole size small, (fits_whole size small, ((fits_whole count counted, (fits_whole 0 (omega arith), tt)), tt))));
  whole = refl;
}
  where
    numbered : IsFormed (dictionary_page_header count)
    numbered = ((lit< tt, lit≤ tt, lit≤ tt), tt, ((lit< tt, lit≤ tt, lit≤ tt), tt, tt))
header_spells Codes count size counted small = record {
  legal = record { struct = refl; within = lit≤ tt; formed = ((lit< tt, lit≤ tt, lit≤ tt), tt, ((lit< tt, lit≤ tt, lit≤ tt), tt, ((lit< tt, lit≤ tt, lit≤ tt), tt, ((lit< tt, lit≤ tt, lit≤ tt), numbered, tt)))) };
  fits = (fits_whole 0 (omega arith), (fits_whole size small, (fits_whole size small, ((fits_whole count counted, (fits_whole 8 (omega arith), (fits_whole 3 (omega arith), (fits_whole 3 (omega arith), tt)))), tt))));
  whole = refl;
}
  where
    numbered : IsFormed (data_page_header_in 8 count)
    numbered = ((lit< tt, lit≤ tt, lit≤ tt), tt, ((lit< tt, lit≤ tt, lit≤ tt), tt, ((lit< tt, lit≤ tt, lit≤ tt), tt, ((lit< tt, lit≤ tt, lit≤ tt), tt, tt))))

-- the header in front of bytes
pub header_begins : (type : PageType) (bytes : List ℕ) (count size : ℕ) (rest : List ℕ) → count < 2 ^ 31 → size < 2 ^ 31 → bytes ≡ header_text type count size ++ rest
    → Begins 0 (take (length bytes - 0) (drop 0 bytes)) (header_value type count size) (length (header_text type count size))
header_begins type bytes count size rest counted small e =
    (header_text type count size, rest, take_all (length bytes - 0) bytes (omega arith) ∙ e, header_spells type count size counted small, omega arith)

-- ---- what a header tells

-- what a struct of a tree is seen as
pub view_struct : (fields : Vec TreeField Global) → view (Struct fields) ≡ struct (fields_view fields.items)
view_struct fields = search (rules, the_lemmas)

pub struct_is : (a b : Fields) → struct a ≡ struct b → a ≡ b
struct_is a b e = cc

there_is : (fields : List TreeField) (place : ℕ) (v : Value) → value_in (fields_view fields) place ≡ Some v → place < length fields
there_is [] place v e = absurd cc
there_is (f ∷ fs) zero v e = omega arith
there_is (f ∷ fs) (suc place) v e = omega (arith, there_is fs place v e)

pub none_there : (fields : List TreeField) (place : ℕ) (v : Value) → value_in (fields_view fields) place ≡ Some v → false ≡ ltb place (length fields) → ⊥
none_there fields place v e h = omega (arith, ltb-false place (length fields) (sym h), there_is fields place v e)

pub record Told (fields : Fields) (count size : ℕ) : Type 0 where
  pub inner : Fields
  pub has : value_in fields 3 ≡ Some (struct inner)
  pub counted : value_in inner 0 ≡ Some (whole32 (pos count))
  pub sized : value_in fields 1 ≡ Some (whole32 (pos size))

pub told : (type : PageType) (fields : Fields) (count size : ℕ) → struct fields ≡ header_value type count size → Told fields count size
told Dictionary fields count size e =
    let inner : Fields = field (pos 1) (whole32 (pos count)) (field (pos 2) (whole32 (pos 0)) no_fields) in
    let whole : Fields = field (pos 1) (whole32 (pos 2)) (field (pos 2) (whole32 (pos size)) (field (pos 3) (whole32 (pos size)) (field (pos 7) (struct inner) no_fields))) in
    let same : fields ≡ whole = struct_is fields whole e in
    record { inner = inner; has = ap (λ fs. value_in fs 3) same; counted = refl; sized = ap (λ fs. value_in fs 1) same }
told Codes fields count size e =
    let inner : Fields = field (pos 1) (whole32 (pos count)) (field (pos 2) (whole32 (pos 8)) (field (pos 3) (whole32 (pos 3)) (field (pos 4) (whole32 (pos 3)) no_fields))) in
    let whole : Fields = field (pos 1) (whole32 (pos 0)) (field (pos 2) (whole32 (pos size)) (field (pos 3) (whole32 (pos size)) (field (pos 5) (struct inner) no_fields))) in
    let same : fields ≡ whole = struct_is fields whole e in
    record { inner = inner; has = ap (λ fs. value_in fs 3) same; counted = refl; sized = ap (λ fs. value_in fs 1) same }

-- ---- answers

abbrev done : {A : Type 0} → A → Result A ThriftFault
done x = Ok x

was_err : {A : Type 0} (e : ThriftFault) (x : A) → done x ≡ Err e → ⊥
was_err e x h = absurd cc

abbrev pub page_done : {A : Type 0} → A → Result A PageFault
page_done x = Ok x

pub page_is : {A : Type 0} (x y : A) → page_done x ≡ page_done y → x ≡ y
page_is x y e = cc

-- a value that is read, with either kind of faults
pub same_value : {A : Type 0} (x y : A) → done x ≡ done y → page_done y ≡ page_done x
same_value x y e = let same : x ≡ y = cc in ap page_done (sym same)

-- what is spelled is refused for want of memory alone
pub refused : {Y : Type 0} (fault : ThriftFault) (y : Y) → Fails fault (done y) → fault_of fault ≡ pages.NoMemory
refused NoMemory y h = refl
refused Cut y h = absurd (was_err Cut y h)
refused BadType y h = absurd (was_err BadType y h)
refused BadSize y h = absurd (was_err BadSize y h)
refused Deep y h = absurd (was_err Deep y h)

pub pair_is : {A B : Type 0} (a x : A) (b y : B) → page_done {A = A × B} (a, b) ≡ page_done {A = A × B} (x, y) → (a ≡ x) × (b ≡ y)
pair_is {A} {B} a x b y e =
    let same : (a, b) ≡ (x, y) = page_is (a, b) (x, y) e in
    (ap (λ (p : A × B). p.0) same, ap (λ (p : A × B). p.1) same)

pub pair_ok : {A B : Type 0} (a x : A) (b y : B) → a ≡ x → b ≡ y → page_done {A = A × B} (a, b) ≡ page_done {A = A × B} (x, y)
pair_ok {A} {B} a x b y e f = ap (λ (t : A). page_done {A = A × B} (t, b)) e ∙ ap (λ (t : B). page_done {A = A × B} (x, t)) f

abbrev pub pair : ℕ → ℕ → ℕ × ℕ
pair a b = (a, b)

pub sizes_are : (a x b y : ℕ) → pair a b ≡ pair x y → (a ≡ x) × (b ≡ y)
sizes_are a x b y e = (ap (λ (p : ℕ × ℕ). p.0) e, ap (λ (p : ℕ × ℕ). p.1) e)

pub some_is : {A : Type 0} (a b : A) → Some a ≡ Some b → a ≡ b
some_is a b e = cc

pub none_is : {A : Type 0} (a : A) → None ≡ Some a → ⊥
none_is a e = absurd cc

-- the header that is there is the one that is expected
pub front_is : (type : PageType) (bytes front rest : List ℕ) (end count size told counted : ℕ) (behind : List ℕ) → bytes ≡ header_text type count size ++ behind → counted ≡ count → told ≡ size → end ≡ length (header_text type count size)
    → front ≡ take end bytes → rest ≡ drop end bytes → (front ≡ header_text type counted told) × (rest ≡ behind)
front_is type bytes front rest end count size told counted behind whole counted-is told-is end-is front-is rest-is = (
  front-is ∙ ap (take end) whole ∙ take_at (header_text type count size) behind end (sym end-is) ∙ ap (λ n. header_text type n size) (sym counted-is) ∙ ap (header_text type counted) (sym told-is),
  rest-is ∙ ap (drop end) whole ∙ drop_at (header_text type count size) behind end (sym end-is),
)

-- equal lists of bytes compare as equal
pub not_unequal : (a b : List ℕ) (unequal : Bool) → unequal ≡ not (pointwise nat_eq a b) → unequal ≡ true → a ≡ b → ⊥
not_unequal a b unequal tested was same =
    let alike : pointwise nat_eq a b ≡ true = subst (λ x. pointwise nat_eq a x ≡ true) same (nat_list_eq_equiv.refl a) in
    let e : true ≡ false = sym was ∙ tested ∙ ap not alike in cc
