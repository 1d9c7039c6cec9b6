-- Reading items and fields one after another, as loops do.
use Rattle.std.proofs.Common.{◌≡◌, ℕ, zero, suc, ◌-◌, ◌<◌, ◌≤◌, ℤ, pos, List, [], ◌∷◌, ◌++◌, length, Result, Ok, Err, refl, sym, ap, ◌∙◌, arith}
use Rattle.fd_thrift.specs.declared.tree.Tree.{Tree}
use Rattle.fd_thrift.specs.declared.tree.TreeField.{TreeField}
use Rattle.fd_thrift.specs.Values.{Value, Items, no_items, item, Fields, no_fields, field}
use Rattle.fd_thrift.specs.View.{view, items_view, fields_view, field_view, view_step, field_step}
use Rattle.fd_thrift.specs.declared.tree.Tree.TheOpen.{TreeField-F}
use Rattle.fd_thrift.specs.declared.tree.Tree.TheViews.{roll-TreeField}
use Rattle.fd_thrift.specs.declared.tree.Tree.TheFolds.{fold-roll-TreeField}
use Rattle.std.proofs.Common.{to_z, w16, ◌^◌}
use Rattle.std.proofs.lemmas.Int.{to_z_pos}
use Rattle.std.proofs.Common.{◌/◌, ◌%◌, ◌==◌, true, false}
use Rattle.std.proofs.lemmas.Bool.Decides.{nat_tests}
use Rattle.fd_thrift.specs.declared.fault.ThriftFault.{ThriftFault}
use Rattle.fd_thrift.specs.declared.fault.ThriftFault.TheVariants.{Cut, BadType, BadSize, Deep, NoMemory}
use Rattle.fd_thrift.specs.declared.kind.Kind.{Kind}
use Rattle.fd_thrift.specs.Reader.{◌>>=◌, Reading, items_at, fields_within, kind_at, next_id, Fails, value_at, value_by}

-- the items read before, and those still read
abbrev pub items_before : List Tree → Items → Items
items_before [] vs = vs
items_before (t ∷ ts) vs = item (view t) (items_before ts vs)

abbrev pub after_items : List Tree → Reading Items → Reading Items
after_items ts (Ok x) = Ok (items_before ts x.0, x.1)
after_items ts (Err e) = Err e

-- the fields read before, and those still read
abbrev pub fields_before : List TreeField → Fields → Fields
fields_before [] fs = fs
fields_before (t ∷ ts) fs = field (field_view t).0 (field_view t).1 (fields_before ts fs)

abbrev pub after_fields : List TreeField → Reading Fields → Reading Fields
after_fields ts (Ok x) = Ok (fields_before ts x.0, x.1)
after_fields ts (Err e) = Err e

-- ---- items

before_one : (ts : List Tree) (t : Tree) (vs : Items) → items_before ts (item (view t) vs) ≡ items_before (ts ++ t ∷ []) vs
before_one [] t vs = refl
before_one (x ∷ ts) t vs = ap (item (view x)) (before_one ts t vs)

before_none : (ts : List Tree) → items_before ts no_items ≡ items_view ts
before_none [] = refl
before_none (x ∷ ts) = ap (item (view x)) (before_none ts)

regroup_items : (ts : List Tree) (t : Tree) (r : Reading Items) → after_items ts (r >>= λ others. Ok (item (view t) others.0, others.1)) ≡ after_items (ts ++ t ∷ []) r
regroup_items ts t (Ok x) = ap (λ (vs : Items). Ok (vs, x.1)) (before_one ts t x.0)
regroup_items ts t (Err e) = refl

pub item_read : (inner : List ℕ → Reading Value) (ts : List Tree) (t : Tree) (n m : ℕ) (bytes rest : List ℕ) (total : Reading Items)
    → n ≡ suc m → inner bytes ≡ Ok (view t, rest) → after_items ts (items_at inner n bytes) ≡ total → after_items (ts ++ t ∷ []) (items_at inner m rest) ≡ total
item_read inner ts t n m bytes rest total one read so_far =
    let first : items_at inner (suc m) bytes ≡ (items_at inner m rest >>= λ others. Ok (item (view t) others.0, others.1)) = rw read refl in
    sym (regroup_items ts t (items_at inner m rest)) ∙ ap (after_items ts) (sym first ∙ ap (λ k. items_at inner k bytes) (sym one)) ∙ so_far

pub item_refused : (inner : List ℕ → Reading Value) (ts : List Tree) (e : ThriftFault) (n : ℕ) (bytes : List ℕ) (total : Reading Items)
    → 0 < n → inner bytes ≡ Err e → after_items ts (items_at inner n bytes) ≡ total → total ≡ Err e
item_refused inner ts e zero bytes total some read so_far = absurd (omega arith)
item_refused inner ts e (suc n) bytes total some read so_far =
    let first : items_at inner (suc n) bytes ≡ Err e = rw read refl in
    sym so_far ∙ ap (after_items ts) first

pub items_over : (inner : List ℕ → Reading Value) (ts : List Tree) (n : ℕ) (bytes : List ℕ) (total : Reading Items)
    → n ≡ 0 → after_items ts (items_at inner n bytes) ≡ total → total ≡ Ok (items_view ts, bytes)
items_over inner ts n bytes total none so_far =
    sym so_far ∙ ap (λ k. after_items ts (items_at inner k bytes)) none ∙ ap (λ (vs : Items). Ok (vs, bytes)) (before_none ts)

-- ---- fields

before_field : (ts : List TreeField) (t : TreeField) (fs : Fields) → fields_before ts (field (field_view t).0 (field_view t).1 fs) ≡ fields_before (ts ++ t ∷ []) fs
before_field [] t fs = refl
before_field (x ∷ ts) t fs = ap (field (field_view x).0 (field_view x).1) (before_field ts t fs)

before_no_field : (ts : List TreeField) → fields_before ts no_fields ≡ fields_view ts
before_no_field [] = refl
before_no_field (x ∷ ts) = ap (field (field_view x).0 (field_view x).1) (before_no_field ts)

regroup_fields : (ts : List TreeField) (t : TreeField) (id : ℤ) (v : Value) (r : Reading Fields) → field_view t ≡ (id, v)
    → after_fields ts (r >>= λ others. Ok (field id v others.0, others.1)) ≡ after_fields (ts ++ t ∷ []) r
regroup_fields ts t id v (Ok x) seen =
    ap (λ (p : ℤ × Value). Ok (fields_before ts (field p.0 p.1 x.0), x.1)) (sym seen) ∙ ap (λ (fs : Fields). Ok (fs, x.1)) (before_field ts t x.0)
regroup_fields ts t id v (Err e) seen = refl

abbrev Inner : Type 0
Inner = Kind → List ℕ → Reading Value

going : (h : ℕ) → 0 < h → (h == 0) ≡ false
going h some = grind (arith, nat_tests)

over : (h : ℕ) → h ≡ 0 → (h == 0) ≡ true
over h none = grind (arith, nat_tests)

pub field_read : (inner : Inner) (ts : List TreeField) (t : TreeField) (most last id h : ℕ) (kind : Kind) (v : Value) (bytes bs rest : List ℕ) (total : Reading Fields)
    → bytes ≡ h ∷ bs → length bytes ≤ most → 0 < h → kind_at (h % 16) ≡ Ok kind → next_id last (h / 16) ≡ Ok id → inner kind bs ≡ Ok (v, rest)
    → field_view t ≡ (pos id, v)
    → after_fields ts (fields_within inner most last bytes) ≡ total → after_fields (ts ++ t ∷ []) (fields_within inner (most - 1) id rest) ≡ total
field_read inner ts t zero last id h kind v bytes bs rest total first fits some kinds ids read seen so_far = absurd (omega (arith, ap length first))
field_read inner ts t (suc most) last id h kind v bytes bs rest total first fits some kinds ids read seen so_far =
    let one : fields_within inner (suc most) last (h ∷ bs) ≡ (fields_within inner most id rest >>= λ others. Ok (field (pos id) v others.0, others.1)) = rw (going h some, kinds, ids, read) refl in
    let less : suc most - 1 ≡ most = omega arith in
    ap (λ n. after_fields (ts ++ t ∷ []) (fields_within inner n id rest)) less
    ∙ sym (regroup_fields ts t (pos id) v (fields_within inner most id rest) seen)
    ∙ ap (after_fields ts) (sym one ∙ ap (fields_within inner (suc most) last) (sym first)) ∙ so_far

refused : (ts : List TreeField) (r s total : Reading Fields) (e : ThriftFault) → r ≡ s → s ≡ Err e → after_fields ts r ≡ total → total ≡ Err e
refused ts r s total e same err so_far = sym so_far ∙ ap (after_fields ts) (same ∙ err)

pub kind_refused : (inner : Inner) (ts : List TreeField) (most last h : ℕ) (e : ThriftFault) (bytes bs : List ℕ) (total : Reading Fields)
    → bytes ≡ h ∷ bs → length bytes ≤ most → 0 < h → kind_at (h % 16) ≡ Err e
    → after_fields ts (fields_within inner most last bytes) ≡ total → total ≡ Err e
kind_refused inner ts zero last h e bytes bs total first fits some kinds so_far = absurd (omega (arith, ap length first))
kind_refused inner ts (suc most) last h e bytes bs total first fits some kinds so_far =
    let one : fields_within inner (suc most) last (h ∷ bs) ≡ Err e = rw (going h some, kinds) refl in
    refused ts _ _ total e (ap (fields_within inner (suc most) last) first) one so_far

pub id_refused : (inner : Inner) (ts : List TreeField) (most last h : ℕ) (kind : Kind) (e : ThriftFault) (bytes bs : List ℕ) (total : Reading Fields)
    → bytes ≡ h ∷ bs → length bytes ≤ most → 0 < h → kind_at (h % 16) ≡ Ok kind → next_id last (h / 16) ≡ Err e
    → after_fields ts (fields_within inner most last bytes) ≡ total → total ≡ Err e
id_refused inner ts zero last h kind e bytes bs total first fits some kinds ids so_far = absurd (omega (arith, ap length first))
id_refused inner ts (suc most) last h kind e bytes bs total first fits some kinds ids so_far =
    let one : fields_within inner (suc most) last (h ∷ bs) ≡ Err e = rw (going h some, kinds, ids) refl in
    refused ts _ _ total e (ap (fields_within inner (suc most) last) first) one so_far

pub field_refused : (inner : Inner) (ts : List TreeField) (most last id h : ℕ) (kind : Kind) (e : ThriftFault) (bytes bs : List ℕ) (total : Reading Fields)
    → bytes ≡ h ∷ bs → length bytes ≤ most → 0 < h → kind_at (h % 16) ≡ Ok kind → next_id last (h / 16) ≡ Ok id → inner kind bs ≡ Err e
    → after_fields ts (fields_within inner most last bytes) ≡ total → total ≡ Err e
field_refused inner ts zero last id h kind e bytes bs total first fits some kinds ids read so_far = absurd (omega (arith, ap length first))
field_refused inner ts (suc most) last id h kind e bytes bs total first fits some kinds ids read so_far =
    let one : fields_within inner (suc most) last (h ∷ bs) ≡ Err e = rw (going h some, kinds, ids, read) refl in
    refused ts _ _ total e (ap (fields_within inner (suc most) last) first) one so_far

pub fields_over : (inner : Inner) (ts : List TreeField) (most last h : ℕ) (bytes bs : List ℕ) (total : Reading Fields)
    → bytes ≡ h ∷ bs → length bytes ≤ most → h ≡ 0
    → after_fields ts (fields_within inner most last bytes) ≡ total → total ≡ Ok (fields_view ts, bs)
fields_over inner ts zero last h bytes bs total first fits none so_far = absurd (omega (arith, ap length first))
fields_over inner ts (suc most) last h bytes bs total first fits none so_far =
    let one : fields_within inner (suc most) last (h ∷ bs) ≡ Ok (no_fields, bs) = rw (over h none) refl in
    sym so_far ∙ ap (after_fields ts) (ap (fields_within inner (suc most) last) first ∙ one) ∙ ap (λ (fs : Fields). Ok (fs, bs)) (before_no_field ts)

none_left : (inner : Inner) (most last : ℕ) → fields_within inner most last [] ≡ Err Cut
none_left inner zero last = refl
none_left inner (suc most) last = refl

pub fields_cut : (inner : Inner) (ts : List TreeField) (most last : ℕ) (bytes : List ℕ) (total : Reading Fields)
    → bytes ≡ [] → after_fields ts (fields_within inner most last bytes) ≡ total → total ≡ Err Cut
fields_cut inner ts most last bytes total none so_far = refused ts _ _ total Cut (ap (fields_within inner most last) none) (none_left inner most last) so_far

-- ---- what calls answer

pub err_fails : {Y : Type 0} (e : ThriftFault) (read : Result Y ThriftFault) → read ≡ Err e → Fails e read
err_fails Cut read h = h
err_fails BadType read h = h
err_fails BadSize read h = h
err_fails Deep read h = h
err_fails NoMemory read h = tt

-- a refusal that one reading has from another
pub passes : {Y W : Type 0} (e : ThriftFault) (first : Result Y ThriftFault) (whole : Result W ThriftFault) → (first ≡ Err e → whole ≡ Err e) → Fails e first → Fails e whole
passes Cut first whole f h = f h
passes BadType first whole f h = f h
passes BadSize first whole f h = f h
passes Deep first whole f h = f h
passes NoMemory first whole f h = tt

pub nothing : (xs : List ℕ) → length xs ≡ 0 → xs ≡ []
nothing [] h = refl
nothing (x ∷ xs) h = absurd (omega arith)

pub one_level : (levels : ℕ) (kind : Kind) (bytes : List ℕ) → 0 < levels → value_at levels kind bytes ≡ value_by (levels - 1) (value_at (levels - 1)) kind bytes
one_level zero kind bytes some = absurd (omega arith)
one_level (suc n) kind bytes some = let less : suc n - 1 ≡ n = omega arith in ap (λ k. value_by k (value_at k) kind bytes) (sym less)

-- a field made of these
pub seen : (id : ℕ) (t : Tree) → id ≤ 32767 → field_view (roll-TreeField (record { id = to_z w16 id; tree = t })) ≡ (pos id, view t)
seen id t within =
    let x : TreeField-F Tree TreeField = record { id = to_z w16 id; tree = t } in
    let h : id < 2 ^ 15 = omega arith in
    fold-roll-TreeField Value (ℤ × Value) view_step field_step x ∙ ap (λ (z : ℤ). (z, view t)) (to_z_pos w16 id h)
