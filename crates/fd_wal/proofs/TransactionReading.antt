-- The parts of transactions in bytes.
use Rattle.std.proofs.Common.{◌≡◌, ℕ, zero, suc, ◌*◌, ◌<◌, ◌≤◌, cond, ltb, List, [], ◌∷◌, length, refl, All, sym, ap, ◌∙◌, arith}
use Rattle.std.specs.Prelude.{Some, None}
use Rattle.std.specs.Int.{w32, w64}
use Rattle.std.proofs.lemmas.Bool.{ltb-false, le-ltb}
use Rattle.std.proofs.lemmas.Option.{none-some, same_Some}
use Rattle.fd_kinds.specs.declared.row.Row.{Row}
use Rattle.fd_wal.specs.Frames.{Frame, Transactions, IsOrdered}
use Rattle.fd_wal.specs.Gathering.{MayFollow, HasNumbers}
use Rattle.fd_wal.specs.Reading.{◌>>=◌, Reading, number_at, many_at, list_at, batch_at, transactions_at, ended, least_batch}
use Rattle.fd_wal.proofs.Numbers.{bind_some, guard_some}
use Rattle.fd_wal.proofs.Payloads.{ended_is, ended_whole}

-- the first number, the count and the batches that bytes tell
pub record TellsBatches (bytes : List ℕ) (number : ℕ) (batches : List (List Row)) : Type 0 where
  pub count : ℕ
  pub after : List ℕ
  pub rest : List ℕ
  pub number_is : number_at w64 bytes ≡ Some (number, after)
  pub count_is : number_at w32 after ≡ Some (count, rest)
  pub enough : 4 * count ≤ length rest
  pub many : many_at batch_at count rest ≡ Some (batches, [])
  pub long : length batches ≡ count

many_length : {A : Type 0} (read : List ℕ → Reading A) (n : ℕ) (bytes : List ℕ) (x : List A × List ℕ) → many_at read n bytes ≡ Some x → length x.0 ≡ n
unfolding many_at
many_length {A} read zero bytes x e = sym (ap (λ (y : List A × List ℕ). length y.0) (same_Some ([], bytes) x e))
many_length {A} read (suc n) bytes x e =
    let a = bind_some (read bytes) (λ first. many_at read n first.1 >>= λ others. Some (first.0 ∷ others.0, others.1)) x e in
    let b = bind_some (many_at read n a.0.1) (λ others. Some (a.0.0 ∷ others.0, others.1)) x a.2 in
    let made : List A × List ℕ = (a.0.0 ∷ b.0.0, b.0.1) in
    sym (ap (λ (y : List A × List ℕ). length y.0) (same_Some made x b.2)) ∙ ap suc (many_length read n a.0.1 b.0 b.1)

one_kind : (m n : ℕ) (a b : List (List Row)) → Transactions m a ≡ Transactions n b → (m ≡ n) × (a ≡ b)
one_kind m n a b e = (cc, cc)

pub tells_batches : (bytes : List ℕ) (number : ℕ) (batches : List (List Row)) → ended (transactions_at bytes) ≡ Some (Transactions number batches) → TellsBatches bytes number batches
unfolding transactions_at list_at
tells_batches bytes number batches e =
    let whole = ended_is (transactions_at bytes) (Transactions number batches) e in
    let x : Frame × List ℕ = (Transactions number batches, []) in
    let a = bind_some (number_at w64 bytes) (λ n. list_at least_batch batch_at n.1 >>= λ bs. Some (Transactions n.0 bs.0, bs.1)) x whole in
    let b = bind_some (list_at least_batch batch_at a.0.1) (λ bs. Some (Transactions a.0.0 bs.0, bs.1)) x a.2 in
    let made : Frame × List ℕ = (Transactions a.0.0 b.0.0, b.0.1) in
    let same : made ≡ x = same_Some made x b.2 in
    let parts = one_kind a.0.0 number b.0.0 batches (ap (λ (y : Frame × List ℕ). y.0) same) in
    let none : b.0.1 ≡ [] = ap (λ (y : Frame × List ℕ). y.1) same in
    let k = bind_some (number_at w32 a.0.1) (λ count. cond (ltb (length count.1) (least_batch * count.0)) None (many_at batch_at count.0 count.1)) b.0 b.1 in
    let g = guard_some (ltb (length k.0.1) (least_batch * k.0.0)) (many_at batch_at k.0.0 k.0.1) b.0 k.2 in
    let many : many_at batch_at k.0.0 k.0.1 ≡ Some (batches, []) = g.1 ∙ ap (λ (bs : List (List Row)). Some (bs, b.0.1)) parts.1 ∙ ap (λ (r : List ℕ). Some (batches, r)) none in
    record {
      count = k.0.0;
      after = a.0.1;
      rest = k.0.1;
      number_is = a.1 ∙ ap (λ (n : ℕ). Some (n, a.0.1)) parts.0;
      count_is = k.1;
      enough = ltb-false _ _ g.0;
      many = many;
      long = many_length batch_at k.0.0 k.0.1 (batches, []) many;
    }

-- the parts that a reader found, one by one
pub found_batches : (bytes after rest : List ℕ) (number count : ℕ) (batches : List (List Row)) (last : List ℕ) → number_at w64 bytes ≡ Some (number, after) → number_at w32 after ≡ Some (count, rest)
    → 4 * count ≤ length rest → many_at batch_at count rest ≡ Some (batches, last) → length last ≡ 0 → ended (transactions_at bytes) ≡ Some (Transactions number batches)
unfolding transactions_at list_at
found_batches bytes after rest number count batches last first counted enough many none =
    let nothing : last ≡ [] = by last none in
    let whole : many_at batch_at count rest ≡ Some (batches, []) = many ∙ ap (λ (r : List ℕ). Some (batches, r)) nothing in
    ended_whole (transactions_at bytes) (Transactions number batches) (rw (first, counted, le-ltb (length rest) (least_batch * count) enough, whole) refl)
  where
    by : (r : List ℕ) → length r ≡ 0 → r ≡ []
    by [] e = refl
    by (b ∷ r) e = absurd (omega (arith, e))

pub may_follow : (next number count : ℕ) (batches : List (List Row)) (bytes rest : List ℕ) → HasNumbers next number count → many_at batch_at count bytes ≡ Some (batches, rest) → All IsOrdered batches → MayFollow next next batches
may_follow next number count batches bytes rest has many each =
    let long : length batches ≡ count = many_length batch_at count bytes (batches, rest) many in
    let is = has.is in
    let some = has.some in
    let below = has.below in
    record { is = refl; below = omega (arith, is, below, long); some = omega (arith, some, long); each = each }

-- ---- what a reader refuses

abbrev pub NoBatches : List ℕ → ℕ → Type 0
NoBatches bytes next = (first : ℕ) (all : List (List Row)) → ended (transactions_at bytes) ≡ Some (Transactions first all) → MayFollow next first all → ⊥

pub no_number : (bytes : List ℕ) (next : ℕ) → number_at w64 bytes ≡ None → NoBatches bytes next
no_number bytes next none first all e follows = none-some _ (sym none ∙ (tells_batches bytes first all e).number_is)

same_number : (a b : ℕ) (r s : List ℕ) → ◌≡◌ {A = ℕ × List ℕ} (a, r) (b, s) → (a ≡ b) × (r ≡ s)
same_number a b r s e = (ap (λ (x : ℕ × List ℕ). x.0) e, ap (λ (x : ℕ × List ℕ). x.1) e)

-- the number and the count that were read are those of the transactions
pub record SameHead (bytes rest : List ℕ) (number count : ℕ) (first : ℕ) (all : List (List Row)) : Type 0 where
  pub number_is : number ≡ first
  pub count_is : length all ≡ count
  pub enough : 4 * count ≤ length rest
  pub many : many_at batch_at count rest ≡ Some (all, [])

after_is : (bytes after : List ℕ) (number first : ℕ) (all : List (List Row)) → number_at w64 bytes ≡ Some (number, after) → (t : TellsBatches bytes first all) → (number ≡ first) × (after ≡ t.after)
after_is bytes after number first all read t = same_number number first after t.after (same_Some (number, after) (first, t.after) (sym read ∙ t.number_is))

pub no_count : (bytes after : List ℕ) (number next : ℕ) → number_at w64 bytes ≡ Some (number, after) → number_at w32 after ≡ None → NoBatches bytes next
no_count bytes after number next read none first all e follows =
    let t = tells_batches bytes first all e in
    let a = after_is bytes after number first all read t in
    none-some _ (sym none ∙ ap (number_at w32) a.1 ∙ t.count_is)

head_is : (bytes after rest : List ℕ) (number count first : ℕ) (all : List (List Row)) → number_at w64 bytes ≡ Some (number, after) → number_at w32 after ≡ Some (count, rest) → ended (transactions_at bytes) ≡ Some (Transactions first all)
    → SameHead bytes rest number count first all
head_is bytes after rest number count first all read counted e =
    let t = tells_batches bytes first all e in
    let a = after_is bytes after number first all read t in
    let c = same_number count t.count rest t.rest (same_Some (count, rest) (t.count, t.rest) (sym counted ∙ ap (number_at w32) a.1 ∙ t.count_is)) in
    let enough = t.enough in
    let long = ap length c.1 in
    record {
      number_is = a.0;
      count_is = t.long ∙ sym c.0;
      enough = omega (arith, enough, long, c.0);
      many = ap (many_at batch_at count) c.1 ∙ ap (λ (n : ℕ). many_at batch_at n t.rest) c.0 ∙ t.many;
    }

pub no_place : (bytes after rest : List ℕ) (number count next : ℕ) → number_at w64 bytes ≡ Some (number, after) → number_at w32 after ≡ Some (count, rest) → (HasNumbers next number count → ⊥) → NoBatches bytes next
no_place bytes after rest number count next read counted never first all e follows =
    let h = head_is bytes after rest number count first all read counted e in
    let is = follows.is in
    let below = follows.below in
    let some = follows.some in
    let number_is = h.number_is in
    let count_is = h.count_is in
    never (record { is = omega (arith, is, number_is); some = omega (arith, some, count_is); below = omega (arith, below, number_is, count_is) })

pub no_room : (bytes after rest : List ℕ) (number count next : ℕ) → number_at w64 bytes ≡ Some (number, after) → number_at w32 after ≡ Some (count, rest) → length rest < 4 * count → NoBatches bytes next
no_room bytes after rest number count next read counted short first all e follows =
    let enough = (head_is bytes after rest number count first all read counted e).enough in
    omega (arith, enough, short)

pub no_batch : (bytes after rest : List ℕ) (number count next : ℕ) → number_at w64 bytes ≡ Some (number, after) → number_at w32 after ≡ Some (count, rest)
    → ((all : List (List Row)) (last : List ℕ) → many_at batch_at count rest ≡ Some (all, last) → All IsOrdered all → ⊥) → NoBatches bytes next
no_batch bytes after rest number count next read counted never first all e follows =
    never all [] (head_is bytes after rest number count first all read counted e).many follows.each

pub no_end : (bytes after rest last : List ℕ) (number count next : ℕ) (batches : List (List Row)) → number_at w64 bytes ≡ Some (number, after) → number_at w32 after ≡ Some (count, rest)
    → many_at batch_at count rest ≡ Some (batches, last) → 0 < length last → NoBatches bytes next
no_end bytes after rest last number count next batches read counted many more first all e follows =
    let h = head_is bytes after rest number count first all read counted e in
    let same : last ≡ [] = ap (λ (x : List (List Row) × List ℕ). x.1) (same_Some (batches, last) (all, []) (sym many ∙ h.many)) in
    let none = ap length same in
    omega (arith, none, more)
