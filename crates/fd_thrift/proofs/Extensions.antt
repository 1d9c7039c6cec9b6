-- More bytes behind change nothing that is decided: a value keeps, and so does every refusal but `Cut`.
use Rattle.std.proofs.Common.{◌≡◌, ℕ, zero, suc, ◌+◌, ◌-◌, ◌*◌, ◌/◌, ◌%◌, ◌≤◌, ◌^◌, Bool, true, false, cond, ◌&&◌, ◌||◌, pos, List, [], ◌∷◌, ◌++◌, length, take, drop, Result, Ok, Err, refl, sym, subst, arith, nat_lt, nat_le, ◌==◌, length-append}
use Rattle.std.proofs.lemmas.List.{take-append-le, drop-append-le}
use Rattle.std.proofs.lemmas.Bool.Decides.{nat_tests}
use Rattle.fd_thrift.specs.declared.fault.ThriftFault.{ThriftFault}
use Rattle.fd_thrift.specs.declared.fault.ThriftFault.TheVariants.{Cut, BadType, BadSize, Deep, NoMemory}
use Rattle.fd_thrift.specs.declared.kind.Kind.{Kind}
use Rattle.fd_thrift.specs.declared.kind.Kind.TheVariants.{Whole32, Whole64, Binary, List as ListKind, Struct}
use Rattle.fd_thrift.specs.Values.{Value, whole32, whole64, binary, list, struct, item, field}
use Rattle.fd_thrift.specs.Reader.{◌>>=◌, Reading, varint_from, varint_at, unzigzag, binary_at, kind_at, is_struct, long_size_at, size_at, list_header_at, next_id, items_at, list_at, fields_within, struct_at, value_by, value_at, tree_at}

-- what a reading becomes with more bytes behind
abbrev pub Keeps : {A : Type 0} → List ℕ → Reading A → Reading A → Type 0
Keeps more (Ok x) longer = longer ≡ Ok (x.0, x.1 ++ more)
Keeps more (Err Cut) longer = Unit {0}
Keeps more (Err e) longer = longer ≡ Err e

same_fault : (A : Type 0) (more : List ℕ) (e : ThriftFault) → Keeps {A = A} more (Err e) (Err e)
same_fault A more Cut = tt
same_fault A more BadType = refl
same_fault A more BadSize = refl
same_fault A more Deep = refl
same_fault A more NoMemory = refl

-- one step after another
then_keeps : {A B : Type 0} (more : List ℕ) (r s : Reading A) (f g : A × List ℕ → Reading B) → Keeps more r s → ((x : A) (rest : List ℕ) → Keeps more (f (x, rest)) (g (x, rest ++ more)))
    → Keeps more (r >>= f) (s >>= g)
then_keeps {A} {B} more (Ok x) s f g h next = subst (λ (r : Reading A). Keeps more (f x) (r >>= g)) (sym h) (next x.0 x.1)
then_keeps {A} {B} more (Err Cut) s f g h next = tt
then_keeps {A} {B} more (Err BadType) s f g h next = rw h refl
then_keeps {A} {B} more (Err BadSize) s f g h next = rw h refl
then_keeps {A} {B} more (Err Deep) s f g h next = rw h refl
then_keeps {A} {B} more (Err NoMemory) s f g h next = rw h refl

-- a step that reads no byte
plain_keeps : {A B : Type 0} (more : List ℕ) (r : Result A ThriftFault) (f g : A → Reading B) → ((x : A) → Keeps more (f x) (g x)) → Keeps more (r >>= f) (r >>= g)
plain_keeps more (Ok x) f g h = h x
plain_keeps {A} {B} more (Err e) f g h = same_fault B more e

cond_keeps : {A : Type 0} (more : List ℕ) (b : Bool) (r s t u : Reading A) → Keeps more r t → Keeps more s u → Keeps more (cond b r s) (cond b t u)
cond_keeps more true r s t u h g = h
cond_keeps more false r s t u h g = g

pub varint_keeps : (more bytes : List ℕ) (later : Bool) (bits : ℕ) → Keeps more (varint_from later bits bytes) (varint_from later bits (bytes ++ more))
varint_keeps more [] later bits = tt
varint_keeps more (b ∷ bs) later bits =
    cond_keeps more (nat_lt b 128) _ _ _ _ (cond_keeps more ((later && (b == 0)) || nat_le (2 ^ bits) b) _ _ _ _ refl refl)
    (cond_keeps more (nat_le bits 7) _ _ _ _ refl
    (then_keeps more (varint_from true (bits - 7) bs) _ (λ high. Ok ((b - 128) + 128 * high.0, high.1)) _ (varint_keeps more bs true (bits - 7)) (λ x rest. refl)))

pub number_keeps : (more bytes : List ℕ) (bits : ℕ) → Keeps more (varint_at bits bytes) (varint_at bits (bytes ++ more))
unfolding varint_at
number_keeps more bytes bits = varint_keeps more bytes false bits

content_keeps : (more : List ℕ) (size : ℕ) (rest : List ℕ)
    → Keeps more (cond (nat_lt (length rest) size) (Err Cut) (Ok (take size rest, drop size rest)))
    (cond (nat_lt (length (rest ++ more)) size) (Err Cut) (Ok (take size (rest ++ more), drop size (rest ++ more))))
content_keeps more size rest = by_test (nat_lt (length rest) size) refl
  where
    by_test : (b : Bool) → nat_lt (length rest) size ≡ b → Keeps more (cond b (Err Cut) (Ok (take size rest, drop size rest)))
        (cond (nat_lt (length (rest ++ more)) size) (Err Cut) (Ok (take size (rest ++ more), drop size (rest ++ more))))
    by_test true h = tt
    by_test false h =
        let enough : size ≤ length rest = grind (arith, nat_tests) in
        let longer : nat_lt (length (rest ++ more)) size ≡ false = grind (arith, nat_tests, length-append) in
        rw (longer, take-append-le size rest more enough, drop-append-le size rest more enough) refl

pub binary_keeps : (more bytes : List ℕ) → Keeps more (binary_at bytes) (binary_at (bytes ++ more))
unfolding binary_at
binary_keeps more bytes =
    then_keeps more (varint_at 64 bytes) _ (λ size. cond (nat_lt (length size.1) size.0) (Err Cut) (Ok (take size.0 size.1, drop size.0 size.1))) _ (number_keeps more bytes 64) (λ size rest. content_keeps more size rest)

pub long_keeps : (more bytes : List ℕ) → Keeps more (long_size_at bytes) (long_size_at (bytes ++ more))
long_keeps more bytes =
    then_keeps more (varint_at 64 bytes) _ (λ size. cond (nat_lt size.0 15) (Err BadSize) (Ok size)) _ (number_keeps more bytes 64)
    (λ size rest. cond_keeps more (nat_lt size 15) _ _ _ _ refl refl)

pub size_keeps : (more bytes : List ℕ) (levels half : ℕ) (kind : Kind) → Keeps more (size_at levels half kind bytes) (size_at levels half kind (bytes ++ more))
size_keeps more bytes levels half kind =
    cond_keeps more (half == 0) _ _ _ _ (cond_keeps more (is_struct kind) _ _ _ _ refl refl)
    (cond_keeps more (levels == 0) _ _ _ _ refl (cond_keeps more (half == 15) _ _ _ _ (long_keeps more bytes) refl))

pub header_keeps : (more bytes : List ℕ) (levels : ℕ) → Keeps more (list_header_at levels bytes) (list_header_at levels (bytes ++ more))
header_keeps more [] levels = tt
header_keeps more (h ∷ bs) levels =
    plain_keeps more (kind_at (h % 16)) _ _ (λ kind.
    then_keeps more (size_at levels (h / 16) kind bs) _ (λ size. Ok ((size.0, kind), size.1)) _ (size_keeps more bs levels (h / 16) kind) (λ size rest. refl))

abbrev pub Inner : Type 0
Inner = Kind → List ℕ → Reading Value

abbrev pub AllKeep : List ℕ → Inner → Type 0
AllKeep more inner = (kind : Kind) (bytes : List ℕ) → Keeps more (inner kind bytes) (inner kind (bytes ++ more))

pub items_keep : (more : List ℕ) (inner : Inner) (kind : Kind) → AllKeep more inner → (n : ℕ) (bytes : List ℕ) → Keeps more (items_at (inner kind) n bytes) (items_at (inner kind) n (bytes ++ more))
items_keep more inner kind all zero bytes = refl
items_keep more inner kind all (suc n) bytes =
    then_keeps more (inner kind bytes) _ (λ first. items_at (inner kind) n first.1 >>= λ others. Ok (item first.0 others.0, others.1)) _ (all kind bytes) (λ v rest.
    then_keeps more (items_at (inner kind) n rest) _ (λ others. Ok (item v others.0, others.1)) _ (items_keep more inner kind all n rest) (λ vs end. refl))

fields_keep : (more : List ℕ) (inner : Inner) → AllKeep more inner → (most also last : ℕ) (bytes : List ℕ) → most ≤ also
    → Keeps more (fields_within inner most last bytes) (fields_within inner also last (bytes ++ more))
fields_keep more inner all zero also last bytes le = tt
fields_keep more inner all (suc most) also last [] le = tt
fields_keep more inner all (suc most) zero last (h ∷ bs) le = absurd (omega arith)
fields_keep more inner all (suc most) (suc also) last (h ∷ bs) le =
    let less : most ≤ also = omega arith in
    cond_keeps more (h == 0) _ _ _ _ refl
    (plain_keeps more (kind_at (h % 16)) _ _ (λ kind.
    plain_keeps more (next_id last (h / 16)) _ _ (λ id.
    then_keeps more (inner kind bs) _ (λ value. fields_within inner most id value.1 >>= λ others. Ok (field (pos id) value.0 others.0, others.1)) _ (all kind bs) (λ v rest.
    then_keeps more (fields_within inner most id rest) _ (λ others. Ok (field (pos id) v others.0, others.1)) _ (fields_keep more inner all most also id rest less) (λ fs end. refl)))))

by_keeps : (more : List ℕ) (n : ℕ) (inner : Inner) → AllKeep more inner → AllKeep more (value_by n inner)
by_keeps more n inner all Whole32 bytes = then_keeps more (varint_at 32 bytes) _ (λ m. Ok (whole32 (unzigzag m.0), m.1)) _ (number_keeps more bytes 32) (λ m rest. refl)
by_keeps more n inner all Whole64 bytes = then_keeps more (varint_at 64 bytes) _ (λ m. Ok (whole64 (unzigzag m.0), m.1)) _ (number_keeps more bytes 64) (λ m rest. refl)
by_keeps more n inner all Binary bytes = then_keeps more (binary_at bytes) _ (λ b. Ok (binary b.0, b.1)) _ (binary_keeps more bytes) (λ b rest. refl)
by_keeps more n inner all ListKind bytes =
    then_keeps more (list_at n inner bytes) _ (λ vs. Ok (list vs.0, vs.1)) _
    (then_keeps more (list_header_at n bytes) _ (λ header. items_at (inner header.0.1) header.0.0 header.1) _ (header_keeps more bytes n) (λ header rest. items_keep more inner header.1 all header.0 rest))
    (λ vs rest. refl)
by_keeps more n inner all Struct bytes =
    then_keeps more (struct_at inner bytes) _ (λ fs. Ok (struct fs.0, fs.1)) _
    (fields_keep more inner all (length bytes) (length (bytes ++ more)) 0 bytes (omega (arith, length-append bytes more))) (λ fs rest. refl)

pub value_keeps : (more : List ℕ) (n : ℕ) → AllKeep more (value_at n)
value_keeps more zero kind bytes = refl
value_keeps more (suc n) kind bytes = by_keeps more n (value_at n) (value_keeps more n) kind bytes

pub tree_keeps : (bytes more : List ℕ) → Keeps more (tree_at bytes) (tree_at (bytes ++ more))
unfolding tree_at
tree_keeps bytes more = value_keeps more 8 Struct bytes
