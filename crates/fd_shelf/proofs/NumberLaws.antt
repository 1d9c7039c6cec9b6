-- Which numbers a book holds, and where, after each call.
use Rattle.std.specs.Prelude.{◌≡◌, ◌⊎◌, ℕ, zero, suc, ◌+◌, ◌≤◌, ◌<◌, max, Bool, true, false, nat_lt, if◌then◌else◌, List, [], ◌∷◌, ◌++◌, filter, flat_map, unwrap_or, refl}
use Rattle.std.proofs.Common.{arith, ap, ap₂, sym, ◌∙◌, subst, inl, inr, ⊎_elim, true≢false}
use Rattle.std.proofs.lemmas.List.{append_assoc}
use Rattle.std.proofs.lemmas.Bool.{cases_lt}
use Rattle.std.proofs.lemmas.Option.{none-some}
use Rattle.fd_kinds.specs.Parts.{PartMeaning, IsPart}
use Rattle.fd_shelf.specs.Books.{Book, Each, Any, Follows, IsSealed, settled_parts}
use Rattle.fd_shelf.specs.Marks.{IsBook}
use Rattle.fd_shelf.specs.Numbers.{Holds, HoldsSealed, IsIn, IsInSealed, IsAt, Keeps}
use Rattle.fd_shelf.specs.Replacement.{IsInLoose, IsChanged, ends_below, begins_above, put_over}
use Rattle.fd_shelf.specs.Steps.{placed, is_full}
use Rattle.fd_shelf.proofs.BookEnds.{settled_upto}
use Rattle.fd_shelf.proofs.BookLaws.{each_front, each_back, closed_parts, joined_parts}
use Rattle.fd_shelf.proofs.ClosedBlocks.{closed_kept, front_kept, joined_closed}
use Rattle.fd_shelf.proofs.Runs.{follows_split, follows_upto, loose_from}

any_left : {A : Type 0} (P : A → Type 0) (xs ys : List A) → Any P xs → Any P (xs ++ ys)
any_left P [] ys h = absurd h
any_left P (x ∷ xs) ys (inl h) = inl h
any_left P (x ∷ xs) ys (inr h) = inr (any_left P xs ys h)

any_right : {A : Type 0} (P : A → Type 0) (xs ys : List A) → Any P ys → Any P (xs ++ ys)
any_right P [] ys h = h
any_right P (x ∷ xs) ys h = inr (any_right P xs ys h)

any_split : {A : Type 0} (P : A → Type 0) (xs ys : List A) → Any P (xs ++ ys) → Any P xs ⊎ Any P ys
any_split P [] ys h = inr h
any_split P (x ∷ xs) ys (inl h) = inl (inl h)
any_split P (x ∷ xs) ys (inr h) = ⊎_elim (λ (a : Any P xs). inl (inr a)) (λ (b : Any P ys). inr b) (any_split P xs ys h)

any_placed_by : (P : PartMeaning → Type 0) (p q : PartMeaning) (qs : List PartMeaning) (b : Bool) → P q ⊎ Any P qs → (Any P qs → Any P (placed p qs))
    → Any P (if b then p ∷ q ∷ qs else q ∷ placed p qs)
any_placed_by P p q qs true h later = inr h
any_placed_by P p q qs false (inl h) later = inl h
any_placed_by P p q qs false (inr h) later = inr (later h)

any_placed : (P : PartMeaning → Type 0) (p : PartMeaning) (qs : List PartMeaning) → Any P qs → Any P (placed p qs)
any_placed P p [] h = absurd h
any_placed P p (q ∷ qs) h = any_placed_by P p q qs (nat_lt p.lo q.lo) h (any_placed P p qs)

-- a number that stands among blocks stands there when more come behind them ..
pub at_front : (blocks more : List (List PartMeaning)) (block number : ℕ) → IsAt blocks block number → IsAt (blocks ++ more) block number
at_front blocks more block number is = record { parts = is.parts; here = front_kept blocks more block is.parts is.here; holds = is.holds }

-- .. and where the last of them has its numbers under other parts
at_last : (closed : List (List PartMeaning)) (a b : List PartMeaning) (block number : ℕ) → (IsIn number a → IsIn number b) → IsAt (closed ++ a ∷ []) block number → IsAt (closed ++ b ∷ []) block number
at_last [] a b zero number holds is =
    let same : a ≡ is.parts = ap (λ o. unwrap_or o a) is.here in
    record { parts = b; here = refl; holds = holds (subst (IsIn number) (sym same) is.holds) }
at_last [] a b (suc block) number holds is = absurd (none-some is.parts is.here)
at_last (x ∷ xs) a b zero number holds is = record { parts = is.parts; here = is.here; holds = is.holds }
at_last (x ∷ xs) a b (suc block) number holds is =
    let later = at_last xs a b block number holds (record { parts = is.parts; here = is.here; holds = is.holds }) in
    record { parts = later.parts; here = later.here; holds = later.holds }

pub keeps_same : (old new : Book) → new ≡ old → Keeps old new
keeps_same old new same =
    subst (λ (book : Book). Keeps old book) (sym same)
    (record { closed = λ block lo hi is. is; blocks = λ block number is. is; sealed = λ number inside. inside; numbers = λ number inside. inside })

pub keeps_then : (a b c : Book) → Keeps a b → Keeps b c → Keeps a c
keeps_then a b c first later =
    record {
      closed = λ block lo hi is. later.closed block lo hi (first.closed block lo hi is);
      blocks = λ block number is. later.blocks block number (first.blocks block number is);
      sealed = λ number inside. later.sealed number (first.sealed number inside);
      numbers = λ number inside. later.numbers number (first.numbers number inside);
    }

-- A part that waits takes nothing away ..
pub admitted_keeps : (closed : List (List PartMeaning)) (active stragglers : List PartMeaning) (p : PartMeaning)
    → Keeps (record { closed = closed; active = active; stragglers = stragglers }) (record { closed = closed; active = active; stragglers = placed p stragglers })
admitted_keeps closed active stragglers p =
    let settled = flat_map (λ (block : List PartMeaning). block) closed ++ active in
    record {
      closed = closed_kept (record { closed = closed; active = active; stragglers = stragglers }) (record { closed = closed; active = active; stragglers = placed p stragglers }) refl;
      blocks = λ block number is. is;
      sealed = λ number inside. inside;
      numbers = λ number inside.
          ⊎_elim
          (λ (there : IsIn number settled). any_left (Holds number) settled (placed p stragglers) there)
          (λ (waits : IsIn number stragglers). any_right (Holds number) settled (placed p stragglers) (any_placed (Holds number) p stragglers waits))
          (any_split (Holds number) settled stragglers inside);
    }

-- .. nor one that is added behind all others ..
pub appended_keeps : (closed : List (List PartMeaning)) (active stragglers : List PartMeaning) (p : PartMeaning)
    → Keeps (record { closed = closed; active = active; stragglers = stragglers }) (record { closed = closed; active = active ++ p ∷ []; stragglers = stragglers })
appended_keeps closed active stragglers p =
    let flat = flat_map (λ (block : List PartMeaning). block) closed in
    let more : (flat ++ active) ++ p ∷ [] ≡ flat ++ (active ++ p ∷ []) = append_assoc flat active (p ∷ []) in
    record {
      closed = closed_kept (record { closed = closed; active = active; stragglers = stragglers }) (record { closed = closed; active = active ++ p ∷ []; stragglers = stragglers }) refl;
      blocks = λ block number is. at_last closed active (active ++ p ∷ []) block number (any_left (Holds number) active (p ∷ [])) is;
      sealed = λ number inside. subst (IsInSealed number) more (any_left (HoldsSealed number) (flat ++ active) (p ∷ []) inside);
      numbers = λ number inside.
          ⊎_elim
          (λ (there : IsIn number (flat ++ active)). any_left (Holds number) (flat ++ (active ++ p ∷ [])) stragglers (subst (IsIn number) more (any_left (Holds number) (flat ++ active) (p ∷ []) there)))
          (λ (waits : IsIn number stragglers). any_right (Holds number) (flat ++ (active ++ p ∷ [])) stragglers waits)
          (any_split (Holds number) (flat ++ active) stragglers inside);
    }

joined_blocks : (full : Bool) (closed : List (List PartMeaning)) (active : List PartMeaning) (p : PartMeaning) (block number : ℕ) → IsAt (closed ++ active ∷ []) block number
    → IsAt ((if full then closed ++ active ∷ [] else closed) ++ (if full then p ∷ [] else active ++ p ∷ []) ∷ []) block number
joined_blocks true closed active p block number is = at_front (closed ++ active ∷ []) ((p ∷ []) ∷ []) block number is
joined_blocks false closed active p block number is = at_last closed active (active ++ p ∷ []) block number (any_left (Holds number) active (p ∷ [])) is

joined_settled : (full : Bool) (closed : List (List PartMeaning)) (active : List PartMeaning) (p : PartMeaning)
    → flat_map (λ block. block) (if full then closed ++ active ∷ [] else closed) ++ (if full then p ∷ [] else active ++ p ∷ []) ≡ (flat_map (λ block. block) closed ++ active) ++ p ∷ []
joined_settled true closed active p = ap (λ ps. ps ++ p ∷ []) (closed_parts closed active)
joined_settled false closed active p = sym (append_assoc (flat_map (λ (block : List PartMeaning). block) closed) active (p ∷ []))

-- .. nor one that joins the blocks.
pub joined_keeps : (closed closed_now : List (List PartMeaning)) (active active_now stragglers ps : List PartMeaning) (p : PartMeaning)
    → stragglers ≡ p ∷ ps
    → closed_now ≡ (if is_full active then closed ++ active ∷ [] else closed)
    → active_now ≡ (if is_full active then p ∷ [] else active ++ p ∷ [])
    → Keeps (record { closed = closed; active = active; stragglers = stragglers }) (record { closed = closed_now; active = active_now; stragglers = ps })
joined_keeps closed closed_now active active_now stragglers ps p first is_closed is_active =
    let old : Book = record { closed = closed; active = active; stragglers = stragglers } in
    let new : Book = record { closed = closed_now; active = active_now; stragglers = ps } in
    let settled : settled_parts new ≡ settled_parts old ++ p ∷ [] =
    ap₂ (λ bs b. flat_map (λ block. block) bs ++ b) is_closed is_active ∙ joined_settled (is_full active) closed active p in
    record {
      closed = joined_closed old new is_closed;
      blocks = λ block number is.
          subst (λ (blocks : List (List PartMeaning)). IsAt blocks block number) (sym (ap₂ (λ bs b. bs ++ b ∷ []) is_closed is_active)) (joined_blocks (is_full active) closed active p block number is);
      sealed = λ number inside. subst (IsInSealed number) (sym settled) (any_left (HoldsSealed number) (settled_parts old) (p ∷ []) inside);
      numbers = λ number inside. subst (IsIn number) (sym (joined_parts closed closed_now active active_now stragglers ps p first is_closed is_active)) inside;
    }

-- the numbers of parts that follow one another are those from the first to the last
holds_between : (number first last : ℕ) (parts : List PartMeaning) → Follows first parts last → first ≤ number → number ≤ last → IsIn number parts
holds_between number first last [] follows low high = absurd (omega (arith, follows, low, high))
holds_between number first last (p ∷ ps) follows low high =
    ⊎_elim
    (λ (later : p.hi < number). inr (holds_between number (p.hi + 1) last ps follows.2 (omega (arith, later)) high))
    (λ (here : number ≤ p.hi). inl (omega (arith, follows.0, low), here))
    (cases_lt p.hi number)

pub held_from : (number first last : ℕ) (parts : List PartMeaning) → Follows first parts last → IsIn number parts → first ≤ number
held_from number first last [] follows inside = absurd inside
held_from number first last (p ∷ ps) follows (inl here) = omega (arith, follows.0, here.0)
held_from number first last (p ∷ ps) follows (inr there) =
    let later = held_from number (p.hi + 1) last ps follows.2 there in omega (arith, follows.0, follows.1, later)

held_upto : (number first last : ℕ) (parts : List PartMeaning) → Follows first parts last → IsIn number parts → number ≤ last
held_upto number first last [] follows inside = absurd inside
held_upto number first last (p ∷ ps) follows (inl here) =
    let upto = follows_upto (p.hi + 1) last ps follows.2 in omega (arith, here.1, upto)
held_upto number first last (p ∷ ps) follows (inr there) = held_upto number (p.hi + 1) last ps follows.2 there

sealed_is_held : (number : ℕ) (parts : List PartMeaning) → IsInSealed number parts → IsIn number parts
sealed_is_held number [] inside = inside
sealed_is_held number (p ∷ ps) (inl here) = inl here.1
sealed_is_held number (p ∷ ps) (inr there) = inr (sealed_is_held number ps there)

pub sealed_from : (number first last : ℕ) (parts : List PartMeaning) → Follows first parts last → IsInSealed number parts → first ≤ number
sealed_from number first last parts follows inside = held_from number first last parts follows (sealed_is_held number parts inside)

same_last : (first m n : ℕ) (parts : List PartMeaning) → Follows first parts m → Follows first parts n → m ≡ n
same_last first m n [] one other = omega (arith, one, other)
same_last first m n (p ∷ ps) one other = same_last (p.hi + 1) m n ps one.2 other.2

never_both : (number first last : ℕ) (parts : List PartMeaning) → Follows first parts last → IsInSealed number parts → IsInLoose number parts → ⊥
never_both number first last [] follows sealed loose = sealed
never_both number first last (p ∷ ps) follows (inl sealed) (inl loose) = true≢false (sym sealed.0 ∙ loose.0)
never_both number first last (p ∷ ps) follows (inl sealed) (inr loose) =
    let from = loose_from (p.hi + 1) last number ps follows.2 loose in omega (arith, from.0, sealed.1.1)
never_both number first last (p ∷ ps) follows (inr sealed) (inl loose) =
    let from = sealed_from number (p.hi + 1) last ps follows.2 sealed in omega (arith, from, loose.2)
never_both number first last (p ∷ ps) follows (inr sealed) (inr loose) = never_both number (p.hi + 1) last ps follows.2 sealed loose

-- a sealed part ends below the range or begins above it
abbrev IsApart : ℕ → ℕ → PartMeaning → Type 0
IsApart lo hi p = IsSealed p → (p.hi < lo) ⊎ (hi < p.lo)

all_apart : (lo hi : ℕ) (active parts : List PartMeaning) → lo ≤ hi → Each IsPart parts → ((n : ℕ) → IsInSealed n parts → IsInLoose n active → ⊥) → ((n : ℕ) → IsChanged lo hi active n → ⊥)
    → Each (IsApart lo hi) parts
all_apart lo hi active [] ordered are never free = tt
all_apart lo hi active (p ∷ ps) ordered are never free = (one_apart, all_apart lo hi active ps ordered are.1 (λ n there. never n (inr there)) free)
  where
    one_apart : IsSealed p → (p.hi < lo) ⊎ (hi < p.lo)
    one_apart sealed =
        ⊎_elim
        (λ (below : p.hi < lo). inl below)
        (λ (reaches : lo ≤ p.hi).
        ⊎_elim
        (λ (above : hi < p.lo). inr above)
        (λ (begins : p.lo ≤ hi).
        let both = max lo p.lo in
        let ends = are.0.ordered in
        absurd (free both (inr (omega arith, omega (arith, ordered, begins), λ loose. never both (inl (sealed, (omega arith, omega (arith, reaches, ends)))) loose))))
        (cases_lt hi p.lo))
        (cases_lt p.hi lo)

kept_first : (P : PartMeaning → Type 0) (p : PartMeaning) (rest : List PartMeaning) (b : Bool) → b ≡ true → P p → Any P (if b then p ∷ rest else rest)
kept_first P p rest true is here = inl here
kept_first P p rest false is here = absurd (true≢false (sym is))

kept_rest : (P : PartMeaning → Type 0) (p : PartMeaning) (rest : List PartMeaning) (b : Bool) → Any P rest → Any P (if b then p ∷ rest else rest)
kept_rest P p rest true there = inr there
kept_rest P p rest false there = there

sealed_either : (number lo hi : ℕ) (parts : List PartMeaning) → Each (IsApart lo hi) parts → IsInSealed number parts → IsInSealed number (filter (ends_below lo) parts) ⊎ IsInSealed number (filter (begins_above hi) parts)
sealed_either number lo hi [] apart inside = absurd inside
sealed_either number lo hi (p ∷ ps) apart (inl here) =
    ⊎_elim
    (λ (below : p.hi < lo). inl (kept_first (HoldsSealed number) p (filter (ends_below lo) ps) (nat_lt p.hi lo) (grind (arith, below)) here))
    (λ (above : hi < p.lo). inr (kept_first (HoldsSealed number) p (filter (begins_above hi) ps) (nat_lt hi p.lo) (grind (arith, above)) here))
    (apart.0 here.0)
sealed_either number lo hi (p ∷ ps) apart (inr there) =
    ⊎_elim
    (λ (below : IsInSealed number (filter (ends_below lo) ps)). inl (kept_rest (HoldsSealed number) p (filter (ends_below lo) ps) (nat_lt p.hi lo) below))
    (λ (above : IsInSealed number (filter (begins_above hi) ps)). inr (kept_rest (HoldsSealed number) p (filter (begins_above hi) ps) (nat_lt hi p.lo) above))
    (sealed_either number lo hi ps apart.1 there)

-- a sealed part in place of a range leaves each sealed number in a sealed part
sealed_over : (number first last : ℕ) (part : PartMeaning) (active : List PartMeaning) → Follows first active last → Each IsPart active → part.lo ≤ part.hi → ((n : ℕ) → IsChanged part.lo part.hi active n → ⊥)
    → IsInSealed number active → IsInSealed number (put_over part active)
sealed_over number first last part active follows are ordered free inside =
    let below = filter (ends_below part.lo) active in
    let above = filter (begins_above part.hi) active in
    ⊎_elim
    (λ (under : IsInSealed number below). any_left (HoldsSealed number) below (part ∷ above) under)
    (λ (over : IsInSealed number above). any_right (HoldsSealed number) below (part ∷ above) (inr over))
    (sealed_either number part.lo part.hi active (all_apart part.lo part.hi active active ordered are (λ n sealed loose. never_both n first last active follows sealed loose) free) inside)

-- A sealed part in place of loose ones takes nothing away.
pub replaced_keeps : (closed : List (List PartMeaning)) (active active_now stragglers : List PartMeaning) (mark : ℕ) (part : PartMeaning)
    → IsBook (record { closed = closed; active = active; stragglers = stragglers }) mark → IsBook (record { closed = closed; active = active_now; stragglers = stragglers }) mark
    → active_now ≡ put_over part active → part.lo ≤ part.hi → ((n : ℕ) → IsChanged part.lo part.hi active n → ⊥)
    → Keeps (record { closed = closed; active = active; stragglers = stragglers }) (record { closed = closed; active = active_now; stragglers = stragglers })
replaced_keeps closed active active_now stragglers mark part old_order new_order is_now ordered free =
    let flat = flat_map (λ (block : List PartMeaning). block) closed in
    let old = follows_split 1 mark flat active (omega arith) (settled_upto old_order) in
    let new = follows_split 1 mark flat active_now (omega arith) (settled_upto new_order) in
    let same : old.mid ≡ new.mid = same_last 1 old.mid new.mid flat old.front new.front in
    let are : Each IsPart active = each_back IsPart flat active (each_front IsPart (flat ++ active) stragglers old_order.well_formed.parts) in
    let numbers_kept : (number : ℕ) → IsIn number active → IsIn number active_now = λ number inside.
    let from = held_from number (old.mid + 1) mark active old.back inside in
    holds_between number (new.mid + 1) mark active_now new.back (omega (arith, from, same)) (held_upto number (old.mid + 1) mark active old.back inside) in
    let sealed_kept : (number : ℕ) → IsInSealed number active → IsInSealed number active_now = λ number inside.
    subst (IsInSealed number) (sym is_now) (sealed_over number (old.mid + 1) mark part active old.back are ordered free inside) in
    record {
      closed = closed_kept (record { closed = closed; active = active; stragglers = stragglers }) (record { closed = closed; active = active_now; stragglers = stragglers }) refl;
      blocks = λ block number is. at_last closed active active_now block number (numbers_kept number) is;
      sealed = λ number inside.
          ⊎_elim
          (λ (before : IsInSealed number flat). any_left (HoldsSealed number) flat active_now before)
          (λ (here : IsInSealed number active). any_right (HoldsSealed number) flat active_now (sealed_kept number here))
          (any_split (HoldsSealed number) flat active inside);
      numbers = λ number inside.
          ⊎_elim
          (λ (settled : IsIn number (flat ++ active)).
          any_left (Holds number) (flat ++ active_now) stragglers
          (⊎_elim
          (λ (before : IsIn number flat). any_left (Holds number) flat active_now before)
          (λ (here : IsIn number active). any_right (Holds number) flat active_now (numbers_kept number here))
          (any_split (Holds number) flat active settled)))
          (λ (waits : IsIn number stragglers). any_right (Holds number) (flat ++ active_now) stragglers waits)
          (any_split (Holds number) (flat ++ active) stragglers inside);
    }
