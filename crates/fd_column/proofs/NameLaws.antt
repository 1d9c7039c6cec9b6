-- The names that occur, in order and each once: one more name, and what a row without a name has.
use Rattle.std.proofs.Common.{◌≡◌, ℕ, Bool, true, false, ◌&&◌, cond, List, [], ◌∷◌, ◌++◌, map, length, replicate, IsTrue, refl, ◌∙◌, ap, append-nil}
use Rattle.std.proofs.lemmas.Bool.{and_from, and_parts}
use Rattle.std.specs.Prelude.{None, fold, flat_map, All}
use Rattle.std.specs.declared.cmp.Ordering.{Ordering}
use Rattle.std.specs.declared.cmp.Ordering.TheVariants.{Less, Equal, Greater}
use Rattle.std.specs.Ordering.{is_eq, is_lt, ordering_reverse}
use Rattle.std.specs.BTreeSet.{insert_key}
use Rattle.std.specs.Cmp.Lexicographic.{nat_list_cmp_total}
use Rattle.std.specs.FinMap.{slice_cmp-IsAntisymmetric, nat_cmp-IsAntisymmetric}
use Rattle.std.proofs.lemmas.Cmp.{tied_itself}
use Rattle.std.proofs.lemmas.Grind.{flat_map-append}
use Rattle.std.proofs.lemmas.List.Sums.{fold-append}
use Rattle.std.proofs.lemmas.List.Elements.{All-nil, All-cons, All-head, All-tail}
use Rattle.fd_kinds.specs.declared.pair.Pair.{Pair}
use Rattle.fd_kinds.specs.LabelMaps.{value_of}
use Rattle.fd_lists.specs.Texts.{text_cmp}
use Rattle.fd_column.specs.Cells.{names_in}

pub same_text : (x y : List ℕ) → text_cmp x y ≡ Equal → x ≡ y
same_text = slice_cmp-IsAntisymmetric nat_cmp-IsAntisymmetric

pub less_from : (o : Ordering) → IsTrue (is_lt o) → o ≡ Less
less_from Less h = refl
less_from Equal h = cc
less_from Greater h = cc

pub to_less : (o : Ordering) → o ≡ Less → IsTrue (is_lt o)
to_less o e = rw e refl

turned : (x y : List ℕ) {o : Ordering} → text_cmp x y ≡ o → text_cmp y x ≡ ordering_reverse o
turned x y e = nat_list_cmp_total.antisymm y x ∙ ap ordering_reverse e

-- the name stands before the first of the names
abbrev pub is_under : List ℕ → List (List ℕ) → Bool
is_under name [] = true
is_under name (m ∷ ms) = is_lt (text_cmp name m)

-- the names rise strictly
abbrev pub are_rising : List (List ℕ) → Bool
are_rising [] = true
are_rising (m ∷ ms) = is_under m ms && are_rising ms

abbrev pub has : List ℕ → List (List ℕ) → Bool
has name [] = false
has name (m ∷ ms) = cond (is_eq (text_cmp name m)) true (has name ms)

abbrev pub put : List (List ℕ) → List ℕ → List (List ℕ)
put = insert_key text_cmp

abbrev pub put_all : List (List ℕ) → List (List ℕ) → List (List ℕ)
put_all names more = fold put names more

pub rest_rises : (m : List ℕ) (ms : List (List ℕ)) → IsTrue (are_rising (m ∷ ms)) → IsTrue (are_rising ms)
rest_rises m ms h = (and_parts (is_under m ms) (are_rising ms) h).1

pub first_under : (m : List ℕ) (ms : List (List ℕ)) → IsTrue (are_rising (m ∷ ms)) → IsTrue (is_under m ms)
first_under m ms h = (and_parts (is_under m ms) (are_rising ms) h).0

pub under_more : (name m : List ℕ) (ms : List (List ℕ)) → text_cmp name m ≡ Less → IsTrue (is_under m ms) → IsTrue (is_under name ms)
under_more name m [] l h = refl
under_more name m (k ∷ ks) l h = to_less _ (nat_list_cmp_total.trans name m k l (less_from (text_cmp m k) h))

-- a name under all others is none of them
pub under_has_not : (name : List ℕ) (ms : List (List ℕ)) → IsTrue (is_under name ms) → IsTrue (are_rising ms) → has name ms ≡ false
under_has_not name [] u r = refl
under_has_not name (m ∷ ms) u r =
    let less : text_cmp name m ≡ Less = less_from (text_cmp name m) u in
    rw less (under_has_not name ms (under_more name m ms less (first_under m ms r)) (rest_rises m ms r))

put_under : (a k : List ℕ) (ms : List (List ℕ)) → IsTrue (is_under a ms) → text_cmp a k ≡ Less → IsTrue (is_under a (put ms k))
put_under a k [] u l = to_less (text_cmp a k) l
put_under a k (m ∷ ms) u l = by (text_cmp k m) refl
  where
    by : (o : Ordering) → text_cmp k m ≡ o → IsTrue (is_under a (put (m ∷ ms) k))
    by Less e = rw e (to_less (text_cmp a k) l)
    by Equal e = rw e u
    by Greater e = rw e u

put_rises : (ms : List (List ℕ)) (k : List ℕ) → IsTrue (are_rising ms) → IsTrue (are_rising (put ms k))
put_rises [] k r = refl
put_rises (m ∷ ms) k r = by (text_cmp k m) refl (put_rises ms k (rest_rises m ms r))
  where
    by : (o : Ordering) → text_cmp k m ≡ o → IsTrue (are_rising (put ms k)) → IsTrue (are_rising (put (m ∷ ms) k))
    by Less e ih = rw e (and_from (is_under k (m ∷ ms)) (are_rising (m ∷ ms)) (to_less (text_cmp k m) e) r)
    by Equal e ih = rw e r
    by Greater e ih = rw e (and_from (is_under m (put ms k)) (are_rising (put ms k)) (put_under m k ms (first_under m ms r) (turned k m e)) ih)

has_more : (a k : List ℕ) (ms : List (List ℕ)) → has a ms ≡ true → has a (put ms k) ≡ true
has_more a k [] h = cc
has_more a k (m ∷ ms) h = by (text_cmp k m) refl h (has_more a k ms)
  where
    either : (b c : Bool) → c ≡ true → cond b true c ≡ true
    either true c h = refl
    either false c h = h

    later : (b : Bool) → cond b true (has a ms) ≡ true → (has a ms ≡ true → has a (put ms k) ≡ true) → cond b true (has a (put ms k)) ≡ true
    later true h ih = refl
    later false h ih = ih h

    by : (o : Ordering) → text_cmp k m ≡ o → has a (m ∷ ms) ≡ true → (has a ms ≡ true → has a (put ms k) ≡ true) → has a (put (m ∷ ms) k) ≡ true
    by Less e h ih = rw e (either (is_eq (text_cmp a k)) (has a (m ∷ ms)) h)
    by Equal e h ih = rw e h
    by Greater e h ih = rw e (later (is_eq (text_cmp a m)) h ih)

has_itself : (k : List ℕ) (ms : List (List ℕ)) → has k (k ∷ ms) ≡ true
has_itself k ms = rw (tied_itself nat_list_cmp_total k) refl

has_new : (k : List ℕ) (ms : List (List ℕ)) → has k (put ms k) ≡ true
has_new k [] = has_itself k []
has_new k (m ∷ ms) = by (text_cmp k m) refl (has_new k ms)
  where
    by : (o : Ordering) → text_cmp k m ≡ o → has k (put ms k) ≡ true → has k (put (m ∷ ms) k) ≡ true
    by Less e ih = rw e (has_itself k (m ∷ ms))
    by Equal e ih = rw e (rw e refl)
    by Greater e ih = rw e (rw e ih)

pub all_rise : (names more : List (List ℕ)) → IsTrue (are_rising names) → IsTrue (are_rising (put_all names more))
all_rise names [] r = r
all_rise names (k ∷ ks) r = all_rise (put names k) ks (put_rises names k r)

pub has_still : (a : List ℕ) (names more : List (List ℕ)) → has a names ≡ true → has a (put_all names more) ≡ true
has_still a names [] h = h
has_still a names (k ∷ ks) h = has_still a (put names k) ks (has_more a k names h)

-- each of the names is among the others
abbrev pub HasAll : List (List ℕ) → List (List ℕ) → Type 0
HasAll names some = All (λ a. has a names ≡ true) some

pub has_all : (names more : List (List ℕ)) → HasAll (put_all names more) more
has_all names [] = All-nil (λ a. has a (put_all names []) ≡ true)
has_all names (k ∷ ks) =
    All-cons (λ a. has a (put_all names (k ∷ ks)) ≡ true) k ks (has_still k (put names k) ks (has_new k names)) (has_all (put names k) ks)

all_left : {X : Type 0} (P : X → Type 0) (xs ys : List X) → All P (xs ++ ys) → All P xs
all_left P [] ys h = All-nil P
all_left P (x ∷ xs) ys h = All-cons P x xs (All-head P x (xs ++ ys) h) (all_left P xs ys (All-tail P x (xs ++ ys) h))

all_right : {X : Type 0} (P : X → Type 0) (xs ys : List X) → All P (xs ++ ys) → All P ys
all_right P [] ys h = h
all_right P (x ∷ xs) ys h = all_right P xs ys (All-tail P x (xs ++ ys) h)

abbrev pub names_of : List Pair → List (List ℕ)
names_of pairs = map (λ pair. pair.name) pairs

-- the names of each of the lists are among the names
abbrev pub Covers : List (List ℕ) → List (List Pair) → Type 0
Covers names maps = All (λ pairs. HasAll names (names_of pairs)) maps

covers_from : (names : List (List ℕ)) (maps : List (List Pair)) → HasAll names (flat_map names_of maps) → Covers names maps
covers_from names [] h = All-nil (λ pairs. HasAll names (names_of pairs))
covers_from names (ps ∷ maps) h =
    All-cons (λ pairs. HasAll names (names_of pairs)) ps maps (all_left (λ a. has a names ≡ true) (names_of ps) (flat_map names_of maps) h) (covers_from names maps (all_right (λ a. has a names ≡ true) (names_of ps) (flat_map names_of maps) h))

pub names_rise : (maps : List (List Pair)) → IsTrue (are_rising (names_in maps))
names_rise maps = all_rise [] (flat_map names_of maps) refl

pub names_cover : (maps : List (List Pair)) → Covers (names_in maps) maps
names_cover maps = covers_from (names_in maps) maps (has_all [] (flat_map names_of maps))

pub names_push : (maps : List (List Pair)) (ps : List Pair) → names_in (maps ++ ps ∷ []) ≡ put_all (names_in maps) (names_of ps)
names_push maps ps =
    ap (fold put []) (flat_map-append names_of maps (ps ∷ []) ∙ ap (λ ns. flat_map names_of maps ++ ns) (append-nil (names_of ps)))
    ∙ fold-append put [] (flat_map names_of maps) (names_of ps)

-- a name that is not among those that cover the pairs has no value
pub value_none : (names : List (List ℕ)) (name : List ℕ) (ps : List Pair) → has name names ≡ false → HasAll names (names_of ps) → value_of ps name ≡ None
value_none names name [] fresh h = refl
value_none names name (p ∷ ps) fresh h =
    by (text_cmp name p.name) refl (value_none names name ps fresh (All-tail (λ a. has a names ≡ true) p.name (names_of ps) h))
  where
    there : has p.name names ≡ true
    there = All-head (λ a. has a names ≡ true) p.name (names_of ps) h

    by : (o : Ordering) → text_cmp name p.name ≡ o → value_of ps name ≡ None → value_of (p ∷ ps) name ≡ None
    by Less e ih = rw e ih
    by Equal e ih =
        let too : has name names ≡ true = ap (λ a. has a names) (same_text name p.name e) ∙ there in
        cc
    by Greater e ih = rw e ih

pub values_none : (names : List (List ℕ)) (name : List ℕ) (maps : List (List Pair)) → has name names ≡ false → Covers names maps → map (λ pairs. value_of pairs name) maps ≡ replicate (length maps) None
values_none names name [] fresh h = refl
values_none names name (ps ∷ maps) fresh h =
    let first = value_none names name ps fresh (All-head (λ pairs. HasAll names (names_of pairs)) ps maps h) in
    let others = values_none names name maps fresh (All-tail (λ pairs. HasAll names (names_of pairs)) ps maps h) in
    λ i. first i ∷ others i
