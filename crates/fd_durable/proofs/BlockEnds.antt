-- The last numbers of blocks: of logs, and of parts that follow one another.
use Rattle.std.specs.Prelude.{◌≡◌, ℕ, ◌+◌, ◌-◌, ◌<◌, ◌≤◌, List, [], ◌∷◌, ◌++◌, length, map, flat_map, filter, refl, Bool, true, false, if◌then◌else◌}
use Rattle.std.proofs.Common.{arith, ap, sym, ◌∙◌, subst, true≢false}
use Rattle.std.proofs.lemmas.List.{append_assoc, length-append}
use Rattle.std.proofs.lemmas.List.Concat.{flat_map-cons}
use Rattle.fd_kinds.specs.Parts.{PartMeaning}
use Rattle.fd_shelf.specs.Books.{Book, Each, Follows, IsUsed, settled_parts}
use Rattle.fd_shelf.specs.Steps.{highest, last_hi, is_upto, IsWholeAt}
use Rattle.fd_keeper.specs.Blocks.{Block, batches_in, history_in}
use Rattle.fd_durable.specs.Logs.{ends_behind}

-- the last of some numbers, and another where there is none
abbrev pub last_behind : ℕ → List ℕ → ℕ
last_behind n [] = n
last_behind n (x ∷ xs) = last_behind x xs

-- the last number of logs counts their batches ..
pub logs_end : (before : ℕ) (closed : List Block) → last_behind before (ends_behind before closed) ≡ before + length (history_in closed)
logs_end before [] = omega arith
logs_end before (b ∷ bs) =
    let later = logs_end (before + length (batches_in b)) bs in
    let both = length-append (batches_in b) (history_in bs) in
    omega (arith, later, both)

-- .. and one more block ends behind them
pub logs_pushed : (before : ℕ) (closed : List Block) (block : Block) → ends_behind before (closed ++ block ∷ []) ≡ ends_behind before closed ++ ((before + length (history_in closed) + length (batches_in block)) ∷ [])
logs_pushed before [] block = ap (λ n. n ∷ []) (omega arith)
logs_pushed before (b ∷ bs) block =
    let later = logs_pushed (before + length (batches_in b)) bs block in
    let both = length-append (batches_in b) (history_in bs) in
    ap (λ ends. (before + length (batches_in b)) ∷ ends) (later ∙ ap (λ n. ends_behind (before + length (batches_in b)) bs ++ n ∷ []) (omega (arith, both)))

-- parts that follow one another, cut in two
pub record IsCut (first mark : ℕ) (front back : List PartMeaning) : Type 0 where
  pub mid : ℕ
  pub begins : Follows first front mid
  pub goes_on : Follows (mid + 1) back mark

pub cut_follows : (first mark : ℕ) (front back : List PartMeaning) → 0 < first → Follows first (front ++ back) mark → IsCut first mark front back
cut_follows first mark [] back counted follows =
    let same : first ≡ first - 1 + 1 = omega (arith, counted) in
    record { mid = first - 1; begins = same; goes_on = subst (λ (n : ℕ). Follows n back mark) same follows }
cut_follows first mark (p ∷ ps) back counted follows =
    let rest = cut_follows (p.hi + 1) mark ps back (omega arith) follows.2 in
    record { mid = rest.mid; begins = (follows.0, follows.1, rest.begins); goes_on = rest.goes_on }

pub last_of_parts : (first hi last : ℕ) (parts : List PartMeaning) → Follows first parts last → first ≡ hi + 1 → last_hi hi parts ≡ last
last_of_parts first hi last [] follows next = omega (arith, follows, next)
last_of_parts first hi last (p ∷ ps) follows next = last_of_parts (p.hi + 1) p.hi last ps follows.2 refl

-- parts that are some end with the last number
pub used_ends : (first last : ℕ) (parts : List PartMeaning) → Follows first parts last → IsUsed parts → highest parts ≡ last
used_ends first last [] follows used = absurd used
used_ends first last (p ∷ ps) follows used = last_of_parts (p.hi + 1) p.hi last ps follows.2 refl

pub reaches : (first last : ℕ) (parts : List PartMeaning) → Follows first parts last → first ≤ last + 1
reaches first last [] follows = omega (arith, follows)
reaches first last (p ∷ ps) follows =
    let later = reaches (p.hi + 1) last ps follows.2 in omega (arith, later, follows.0, follows.1)

pub used_reaches : (first last : ℕ) (parts : List PartMeaning) → Follows first parts last → IsUsed parts → first ≤ last
used_reaches first last [] follows used = absurd used
used_reaches first last (p ∷ ps) follows used =
    let later = reaches (p.hi + 1) last ps follows.2 in omega (arith, later, follows.0, follows.1)

-- The last number of used blocks is where their parts end.
pub blocks_end : (before mid : ℕ) (blocks : List (List PartMeaning)) → Each IsUsed blocks → Follows (before + 1) (flat_map (λ block. block) blocks) mid → last_behind before (map highest blocks) ≡ mid
blocks_end before mid [] used follows = omega (arith, follows)
blocks_end before mid (b ∷ bs) used follows =
    let flat = flat_map (λ (block : List PartMeaning). block) bs in
    let cut = cut_follows (before + 1) mid b flat (omega arith) (subst (λ (ps : List PartMeaning). Follows (before + 1) ps mid) (flat_map-cons (λ (block : List PartMeaning). block) b bs) follows) in
    ap (λ n. last_behind n (map highest bs)) (used_ends (before + 1) cut.mid b cut.begins used.0)
    ∙ blocks_end cut.mid mid bs used.1 cut.goes_on

-- ---- the parts up to the end of a front

pub whole_upto : (first w : ℕ) (parts : List PartMeaning) → Follows first parts w → Each (IsWholeAt w) parts
whole_upto first w [] follows = tt
whole_upto first w (p ∷ ps) follows =
    let later = reaches (p.hi + 1) w ps follows.2 in ((λ _. omega (arith, later)), whole_upto (p.hi + 1) w ps follows.2)

pub whole_behind : (first w mark : ℕ) (parts : List PartMeaning) → Follows first parts mark → w < first → Each (IsWholeAt w) parts
whole_behind first w mark [] follows above = tt
whole_behind first w mark (p ∷ ps) follows above = ((λ low. absurd (omega (arith, low, follows.0, above))), whole_behind (p.hi + 1) w mark ps follows.2 (omega (arith, above, follows.0, follows.1)))

pub each_both : {A : Type 0} (P : A → Type 0) (xs ys : List A) → Each P xs → Each P ys → Each P (xs ++ ys)
each_both P [] ys left right = right
each_both P (x ∷ xs) ys left right = (left.0, each_both P xs ys left.1 right)

if_is : {A : Type 0} (b c : Bool) (x y : A) → b ≡ c → (if b then x else y) ≡ (if c then x else y)
if_is b c x y same = rw same refl

none_upto : (first w mark : ℕ) (parts : List PartMeaning) → Follows first parts mark → w < first → filter (is_upto w) parts ≡ []
none_upto first w mark [] follows above = refl
none_upto first w mark (p ∷ ps) follows above =
    if_is (is_upto w p) false (p ∷ filter (is_upto w) ps) (filter (is_upto w) ps) (grind (arith, follows.0, above))
    ∙ none_upto (p.hi + 1) w mark ps follows.2 (omega (arith, above, follows.0, follows.1))

pub front_upto : (first w mark : ℕ) (front back : List PartMeaning) → Follows first front w → Follows (w + 1) back mark → filter (is_upto w) (front ++ back) ≡ front
front_upto first w mark [] back front_follows follows = none_upto (w + 1) w mark back follows (omega arith)
front_upto first w mark (p ∷ ps) back front_follows follows =
    let later = reaches (p.hi + 1) w ps front_follows.2 in
    let first_is = front_follows.1 in
    if_is (is_upto w p) true (p ∷ filter (is_upto w) (ps ++ back)) (filter (is_upto w) (ps ++ back)) (grind (arith, later, first_is))
    ∙ ap (λ qs. p ∷ qs) (front_upto (p.hi + 1) w mark ps back front_follows.2 follows)
