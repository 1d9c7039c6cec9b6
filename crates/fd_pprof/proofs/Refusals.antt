-- The refusals of a profile, one after another.
use Rattle.std.proofs.Common.{◌≡◌, ℕ, Bool, true, false, not, cond, List, [], ◌∷◌, ◌++◌, map, Option, Some, None, refl, sym, ◌∙◌, ap, subst}
use Rattle.std.specs.List.{list_any}
use Rattle.std.specs.Str.{is_utf8}
use Rattle.std.specs.Option.{MatchOption}
use Rattle.fd_proto.specs.declared.place.Place.{Place}
use Rattle.fd_proto.specs.Messages.{text_in}
use Rattle.fd_proto.specs.Raw.{profile_flaw, raw_of}
use Rattle.fd_pprof.specs.declared.profile.Profile.{Profile}
use Rattle.fd_proto.specs.declared.raw.Raw.{Raw}
use Rattle.fd_pprof.specs.declared.fault.ProfileFault.{ProfileFault}
use Rattle.fd_pprof.specs.declared.fault.ProfileFault.TheVariants.{Compressed, NotUtf8, TooDeep, LongText}
use Rattle.fd_pprof.specs.Frames.{stack}
use Rattle.fd_pprof.specs.Conditions.{texts, plain_conditions, is_too_deep, is_too_long}
use Rattle.fd_pprof.specs.Profile.{conditions, first_of, messages_refusal, wire_refusal, is_compressed, profile_refusal, profile_from, profile_of}

early : (xs ys : List (Bool × ProfileFault)) (e : ProfileFault) → first_of xs ≡ Some e → first_of (xs ++ ys) ≡ Some e
early [] ys e h = cc
early ((true, f) ∷ xs) ys e h = h
early ((false, f) ∷ xs) ys e h = early xs ys e h

later : (xs ys : List (Bool × ProfileFault)) → first_of xs ≡ None → first_of (xs ++ ys) ≡ first_of ys
later [] ys h = refl
later ((true, f) ∷ xs) ys h = cc
later ((false, f) ∷ xs) ys h = later xs ys h

pub plain_refused : (bytes : List ℕ) (p : Raw) (e : ProfileFault) → first_of (plain_conditions (texts bytes p) p) ≡ Some e → messages_refusal bytes p ≡ Some e
unfolding messages_refusal conditions
plain_refused bytes p e h = early (plain_conditions (texts bytes p) p) _ e h

pub text_refused : (bytes : List ℕ) (p : Raw) → first_of (plain_conditions (texts bytes p) p) ≡ None → list_any (λ t. not (is_utf8 t)) (texts bytes p) ≡ true → messages_refusal bytes p ≡ Some NotUtf8
unfolding messages_refusal conditions
text_refused bytes p h bad = later (plain_conditions (texts bytes p) p) _ h ∙ rw bad refl

-- what is known once the texts are read: the profile is `raw`, of which `p` and `ts` were kept
pub record IsRead (bytes : List ℕ) (raw p : Raw) (ts : List (List ℕ)) : Type 0 where
  pub same : p ≡ raw
  pub texts_are : ts ≡ texts bytes raw
  pub plain : first_of (plain_conditions (texts bytes raw) raw) ≡ None
  pub fine : list_any (λ t. not (is_utf8 t)) (texts bytes raw) ≡ false

-- what reading the texts answers
abbrev pub TextsAre : List ℕ → List Place → Option (List (List ℕ)) → Type 0
TextsAre bytes places o =
    MatchOption o (list_any (λ t. not (is_utf8 t)) (map (text_in bytes) places) ≡ true)
    (λ ts. (ts ≡ map (text_in bytes) places) × (list_any (λ t. not (is_utf8 t)) (map (text_in bytes) places) ≡ false))

pub read_so_far : (bytes : List ℕ) (raw q p : Raw) (ts kept : List (List ℕ)) (places : List Place) (o : Option (List (List ℕ))) → q ≡ raw → None ≡ first_of (plain_conditions (texts bytes q) q)
    → places ≡ q.texts → TextsAre bytes places o → o ≡ Some ts → p ≡ q → kept ≡ ts → IsRead bytes raw p kept
read_so_far bytes raw q p ts kept places o q_is plain at known some p_is kept_is =
    let there = subst (TextsAre bytes places) some known in
    let here : map (text_in bytes) places ≡ texts bytes raw = ap (map (text_in bytes)) (at ∙ ap (λ (r : Raw). r.texts) q_is) in
    record {
      same = p_is ∙ q_is;
      texts_are = kept_is ∙ there.0 ∙ here;
      plain = subst (λ r. first_of (plain_conditions (texts bytes r) r) ≡ None) q_is (sym plain);
      fine = subst (λ xs. list_any (λ t. not (is_utf8 t)) xs ≡ false) here there.1;
    }

-- some stack of the kept tables is too deep
abbrev pub has_deep : List (List ℕ) → Raw → Bool
has_deep ts p = list_any (λ s. is_too_deep (stack ts p s)) p.samples

deep_there : (bytes : List ℕ) (raw p : Raw) (ts : List (List ℕ)) (b : Bool) → IsRead bytes raw p ts → b ≡ has_deep ts p → has_deep (texts bytes raw) raw ≡ b
deep_there bytes raw p ts b r deep =
    sym (deep ∙ ap (has_deep ts) r.same ∙ ap (λ xs. has_deep xs raw) r.texts_are)

long_there : (bytes : List ℕ) (raw p : Raw) (ts : List (List ℕ)) (b : Bool) → IsRead bytes raw p ts → b ≡ list_any is_too_long ts → list_any is_too_long (texts bytes raw) ≡ b
long_there bytes raw p ts b r long = sym (long ∙ ap (list_any is_too_long) r.texts_are)

-- the last three conditions
last_of : (bad deep long : Bool) → Option ProfileFault
last_of bad deep long = cond bad (Some NotUtf8) (cond deep (Some TooDeep) (cond long (Some LongText) None))

after_plain : (bytes : List ℕ) (raw : Raw) → first_of (plain_conditions (texts bytes raw) raw) ≡ None
    → messages_refusal bytes raw ≡ last_of (list_any (λ t. not (is_utf8 t)) (texts bytes raw)) (has_deep (texts bytes raw) raw) (list_any is_too_long (texts bytes raw))
unfolding messages_refusal conditions last_of
after_plain bytes raw h = later (plain_conditions (texts bytes raw) raw) _ h

pub deep_refused : (bytes : List ℕ) (raw p : Raw) (ts : List (List ℕ)) → IsRead bytes raw p ts → true ≡ has_deep ts p → messages_refusal bytes raw ≡ Some TooDeep
unfolding last_of
deep_refused bytes raw p ts r deep =
    after_plain bytes raw r.plain
    ∙ ap (λ b. last_of b (has_deep (texts bytes raw) raw) (list_any is_too_long (texts bytes raw))) r.fine
    ∙ ap (λ b. last_of false b (list_any is_too_long (texts bytes raw))) (deep_there bytes raw p ts true r deep)

pub long_refused : (bytes : List ℕ) (raw p : Raw) (ts : List (List ℕ)) → IsRead bytes raw p ts → false ≡ has_deep ts p → true ≡ list_any is_too_long ts → messages_refusal bytes raw ≡ Some LongText
unfolding last_of
long_refused bytes raw p ts r deep long =
    after_plain bytes raw r.plain
    ∙ ap (λ b. last_of b (has_deep (texts bytes raw) raw) (list_any is_too_long (texts bytes raw))) r.fine
    ∙ ap (λ b. last_of false b (list_any is_too_long (texts bytes raw))) (deep_there bytes raw p ts false r deep)
    ∙ ap (last_of false false) (long_there bytes raw p ts true r long)

pub none_refused : (bytes : List ℕ) (raw p : Raw) (ts : List (List ℕ)) → IsRead bytes raw p ts → false ≡ has_deep ts p → false ≡ list_any is_too_long ts → messages_refusal bytes raw ≡ None
unfolding last_of
none_refused bytes raw p ts r deep long =
    after_plain bytes raw r.plain
    ∙ ap (λ b. last_of b (has_deep (texts bytes raw) raw) (list_any is_too_long (texts bytes raw))) r.fine
    ∙ ap (λ b. last_of false b (list_any is_too_long (texts bytes raw))) (deep_there bytes raw p ts false r deep)
    ∙ ap (last_of false false) (long_there bytes raw p ts false r long)

-- a profile without a refusal
pub profile_read : (bytes : List ℕ) (raw p : Raw) (ts : List (List ℕ)) (profile : Profile) → false ≡ is_compressed bytes → profile_flaw bytes ≡ None → raw ≡ raw_of bytes
    → messages_refusal bytes raw ≡ None → p ≡ raw → ts ≡ texts bytes raw → profile ≡ profile_from ts p → (profile_refusal bytes ≡ None) × (profile ≡ profile_of bytes)
unfolding profile_refusal profile_of
profile_read bytes raw p ts profile plain flaw raw_is none p_is ts_is profile_is =
    let refused : messages_refusal bytes (raw_of bytes) ≡ None = subst (λ r. messages_refusal bytes r ≡ None) raw_is none in (
      ap (λ b. cond b (Some Compressed) (wire_refusal (profile_flaw bytes) (messages_refusal bytes (raw_of bytes)))) (sym plain)
          ∙ ap (λ o. wire_refusal o (messages_refusal bytes (raw_of bytes))) flaw
          ∙ refused,
      profile_is ∙ ap (profile_from ts) (p_is ∙ raw_is) ∙ ap (λ xs. profile_from xs (raw_of bytes)) (ts_is ∙ ap (texts bytes) raw_is),
    )

pub ruleset refusals = (plain_refused, text_refused)
