-- What the steps of one call come to, on plain data.
use Rattle.std.proofs.Common.{◌≡◌, ℕ, ◌+◌, ◌≤◌, List, [], ◌∷◌, ◌++◌, length, map, flat_map, sym, refl, ap, ◌∙◌, subst, inl, inr, arith, append_assoc}
use Rattle.std.proofs.lemmas.List.{map-append}
use Rattle.std.proofs.lemmas.List.Concat.{flat_map-cons}
use mathlib.Core.List.{append-nil}
use Rattle.fd_kinds.specs.declared.row.Numbered.{Numbered}
use Rattle.fd_kinds.specs.declared.query.Query.{Query}
use Rattle.fd_kinds.specs.declared.store.Seen.{Seen}
use Rattle.fd_kinds.specs.History.{History, upto}
use Rattle.fd_kinds.specs.Meaning.{meaning}
use Rattle.fd_kinds.specs.Parts.{PartMeaning, rows_of}
use Rattle.fd_kinds.specs.Stores.{Grows, Holds, Written}
use Rattle.fd_shelf.specs.Books.{Book, rows_in}
use Rattle.fd_shelf.specs.Histories.{hist}
use Rattle.fd_rule.specs.Kinds.DrawnLoad.{with_drawn}
use Rattle.fd_rule.specs.Kinds.FloorRaise.{with_floor}
use Rattle.fd_rule.specs.Kinds.MarkLoad.{Loaded, with_mark, with_scan}
use Rattle.fd_rule.specs.Kinds.PinDeparture.{without_pin}
use Rattle.fd_rule.specs.Kinds.TurnTry.{with_refusal}
use Rattle.fd_rule.specs.Lists.{AllUpto}
use Rattle.fd_rule.specs.View.{Given, Knowledge, Pinning, View}
use Rattle.fd_pins.specs.Pinned.{with_pinned}
use Rattle.fd_pins.specs.Scans.{IsScan, with_limit}
use Rattle.fd_pool.specs.Kept.{HasDrawn, Kept, in_order}
use Rattle.fd_pool.specs.Sweeps.{HasSwept}
use Rattle.fd_pool.specs.Turns.{Turned}
use Rattle.fd_pool.specs.declared.sweeps.Sweep.{Sweep}
use Rattle.fd_pool.specs.declared.sweeps.Sweep.TheVariants.{Swept, Busy, NoMemory}
use Rattle.fd_pooled.specs.Calls.{HasFailed, HasRead}
use Rattle.fd_pooled.specs.Steps.{HasListed, HasLooked, HasPinned, HasReached, IsUpto, Later, Looks, Passes}

grows_same : (history : History) → Grows history history
grows_same history = record { more = []; joined = sym (append-nil history) }

grows_then : (a b c : History) → Grows a b → Grows b c → Grows a c
grows_then a b c f g = record { more = f.more ++ g.more; joined = g.joined ∙ (ap (λ l. l ++ g.more) f.joined ∙ append_assoc a f.more g.more) }

more_then : {A : Type 0} (a b c xs ys : List A) → b ≡ a ++ xs → c ≡ b ++ ys → c ≡ a ++ (xs ++ ys)
more_then a b c xs ys f g = g ∙ (ap (λ l. l ++ ys) f ∙ append_assoc a xs ys)

later_then : (a b c : View) → Later a b → Later b c → Later a c
later_then a b c x y = record {
  grows = grows_then a.seen.history b.seen.history c.seen.history x.grows y.grows;
  marks = x.marks ++ y.marks;
  marked = more_then a.seen.marks b.seen.marks c.seen.marks x.marks y.marks x.marked y.marked;
  known = y.known ++ x.known;
  books = y.books ∙ (ap (λ l. y.known ++ l) x.books ∙ sym (append_assoc y.known x.known a.books));
  turns = x.turns ++ y.turns;
  given = more_then a.tries.given b.tries.given c.tries.given x.turns y.turns x.given y.given;
  busy = x.busy ++ y.busy;
  refused = more_then a.tries.refused b.tries.refused c.tries.refused x.busy y.busy x.refused y.refused;
  place = y.place ∙ x.place;
  holds = λ h. y.holds (x.holds h);
}

passes_then : (a b c : View) → Passes a b → Passes b c → Passes a c
passes_then a b c x y = record { later = later_then a b c x.later y.later; own = y.own ∙ x.own }

pub looks_then : (a b c : View) → Looks a b → Looks b c → Looks a c
looks_then a b c x y = record { passes = passes_then a b c x.passes y.passes; drawns = y.drawns ∙ x.drawns; synceds = y.synceds ∙ x.synceds; pins = y.pins ∙ x.pins }

holds_same : (v w : View) → w.seen.history ≡ v.seen.history → w.draws.own ≡ v.draws.own → HasDrawn v → HasDrawn w
holds_same v w history own h = subst (λ (d : History × List Written). Holds d.0 (in_order d.1)) (λ i. (sym history i, sym own i)) h

-- a step that leaves all of this but the marks
passes_marks : (v w : View) (marks : List ℕ) → w.seen.history ≡ v.seen.history → w.seen.marks ≡ v.seen.marks ++ marks → w.books ≡ v.books → w.tries ≡ v.tries → w.place ≡ v.place → w.draws.own ≡ v.draws.own → Passes v w
passes_marks v w marks history marked books tries place own = record {
  later = record {
    grows = record { more = []; joined = history ∙ sym (append-nil v.seen.history) };
    marks = marks;
    marked = marked;
    known = [];
    books = books;
    turns = [];
    given = ap (λ t. t.given) tries ∙ sym (append-nil v.tries.given);
    busy = [];
    refused = ap (λ t. t.refused) tries ∙ sym (append-nil v.tries.refused);
    place = place;
    holds = holds_same v w history own;
  };
  own = own;
}

pub looks_self : (v : View) → Looks v v
looks_self v = record { passes = passes_marks v v [] refl (sym (append-nil v.seen.marks)) refl refl refl refl; drawns = refl; synceds = refl; pins = refl }

looks_mark : (v : View) (mark : ℕ) → Looks v (with_mark mark v)
looks_mark v mark = record { passes = passes_marks v (with_mark mark v) (mark ∷ []) refl refl refl refl refl refl; drawns = refl; synceds = refl; pins = refl }

passes_drawn : (v : View) (drawn : ℕ) → Passes v (with_drawn drawn v)
passes_drawn v drawn = passes_marks v (with_drawn drawn v) [] refl (sym (append-nil v.seen.marks)) refl refl refl refl

passes_pin : (v : View) (w : ℕ) → Passes v (with_pinned w v)
passes_pin v w = passes_marks v (with_pinned w v) (w ∷ []) refl refl refl refl refl refl

passes_unpin : (v : View) → Passes v (without_pin v)
passes_unpin v = passes_marks v (without_pin v) [] refl (sym (append-nil v.seen.marks)) refl refl refl refl

-- a scan of all pins, and the floor raised to its limit
pub looks_scanned : (seats : ℕ) (old : View) (l : ℕ) (scanned : View) → IsScan seats old l scanned → Looks old (with_floor l scanned)
looks_scanned seats old l scanned s = subst (λ (v : View). Looks old (with_floor l v)) (sym s.becomes) record {
  passes = passes_marks old (with_floor l (with_limit l seats (with_scan s.mark old))) (s.mark ∷ []) refl refl refl refl refl refl;
  drawns = refl;
  synceds = refl;
  pins = refl;
}

pub looks_kept : (v w : View) → Kept v w → Looks v w
looks_kept v w k = record {
  passes = record {
    later = record {
      grows = k.grows;
      marks = [];
      marked = ap (λ (e : Knowledge). e.marks) k.seen ∙ sym (append-nil v.seen.marks);
      known = k.known;
      books = k.books;
      turns = k.turns;
      given = k.given;
      busy = k.busy;
      refused = k.refused;
      place = k.place;
      holds = k.holds;
    };
    own = k.own;
  };
  drawns = ap (λ (e : Knowledge). e.drawns) k.seen;
  synceds = ap (λ (e : Knowledge). e.synceds) k.seen;
  pins = ap (λ (p : Pinning). p.pins) k.pinning;
}

looks_refused : (v : View) (holder : ℕ) → Looks v (with_refusal holder v)
looks_refused v holder = record {
  passes = record {
    later = record {
      grows = grows_same v.seen.history;
      marks = [];
      marked = sym (append-nil v.seen.marks);
      known = [];
      books = refl;
      turns = [];
      given = sym (append-nil v.tries.given);
      busy = holder ∷ [];
      refused = refl;
      place = refl;
      holds = λ h. h;
    };
    own = refl;
  };
  drawns = refl;
  synceds = refl;
  pins = refl;
}

pub looks_swept : (seats : ℕ) (v : View) (sweep : Sweep) (w : View) → HasSwept seats v sweep w → Looks v w
looks_swept seats v (Swept mark) w s = looks_kept v w s.1.turned.kept
looks_swept seats v (Busy holder) w s = subst (λ (x : View). Looks v x) (sym s) (looks_refused v (holder + 1))
looks_swept seats v NoMemory w s = looks_kept v w s.1.turned.kept

-- a load of the mark reaches the mark of a sweep before it
pub looked : (counted : (book : Book) (mark : ℕ) → length (hist book mark) ≡ mark) (seats : ℕ) (v w x : View) (sweep : Sweep) (mark : ℕ) → HasSwept seats v sweep w → (sweep ≡ NoMemory → ⊥) → Loaded mark w → x ≡ with_mark mark w → HasLooked seats v mark x
looked counted seats v w x sweep mark s found loaded becomes = record { sweep = sweep; swept = w; does = s; upto = upto_mark sweep s found; loaded = loaded; becomes = becomes }
  where
    upto_mark : (sweep : Sweep) → HasSwept seats v sweep w → (sweep ≡ NoMemory → ⊥) → IsUpto mark sweep
    upto_mark (Swept m) s found = let g = s.0 in let e = ap length s.1.turned.seen in let c = counted g.book g.mark in let is = s.3 in let low = loaded.seen in omega (arith, e, c, is, low)
    upto_mark (Busy holder) s found = tt
    upto_mark NoMemory s found = absurd (found refl)

pub looks_looked : (seats : ℕ) (v : View) (mark : ℕ) (w : View) → HasLooked seats v mark w → Looks v w
looks_looked seats v mark w h = subst (λ (x : View). Looks v x) (sym h.becomes) (looks_then v h.swept (with_mark mark h.swept) (looks_swept seats v h.sweep h.swept h.does) (looks_mark h.swept mark))

pub looks_more : (seats : ℕ) (u v : View) (mark : ℕ) (w : View) → Looks u v → HasLooked seats v mark w → Looks u w
looks_more seats u v mark w l h = looks_then u v w l (looks_looked seats v mark w h)

looks_reached : (seats : ℕ) (v : View) (after : ℕ) (w : View) → HasReached seats v after w → Looks v w
looks_reached seats v after w r = looks_more seats v r.before r.mark w r.looked r.looks

upto_front : (m : ℕ) (xs ys : List ℕ) → AllUpto m (xs ++ ys) → AllUpto m xs
upto_front m [] ys all = tt
upto_front m (x ∷ xs) ys all = (all.0, upto_front m xs ys all.1)

last_upto : (m : ℕ) (xs : List ℕ) (x : ℕ) → AllUpto m (xs ++ x ∷ []) → x ≤ m
last_upto m [] x all = all.0
last_upto m (y ∷ xs) x all = last_upto m xs x all.1

-- a sweep whose mark is at most one number is so for a greater one
upto_more : (m w : ℕ) (sweep : Sweep) → m ≤ w → IsUpto m sweep → IsUpto w sweep
upto_more m w (Swept mark) low upto = omega (arith, low, upto)
upto_more m w (Busy holder) low upto = tt
upto_more m w NoMemory low never = absurd never

-- the calls between a pin and its end
pub has_pinned : (v p l x : View) (w : ℕ) (g : Given) → Loaded w v → p ≡ with_pinned w v → Turned p g l → x ≡ without_pin l → HasPinned v w g x
has_pinned v p l x w g loaded pinned turned becomes = record { loaded = loaded; listed = l; turned = subst (λ (y : View). Turned y g l) pinned turned; becomes = becomes }

passes_pinned : (v : View) (w : ℕ) (g : Given) (x : View) → HasPinned v w g x → Passes v x
passes_pinned v w g x p = subst (λ (y : View). Passes v y) (sym p.becomes)
    (passes_then v p.listed (without_pin p.listed) (passes_then v (with_pinned w v) p.listed (passes_pin v w) (looks_kept (with_pinned w v) p.listed p.turned.kept).passes) (passes_unpin p.listed))

-- what a pin leaves of what was loaded
pinned_drawns : (v : View) (w : ℕ) (g : Given) (x : View) → HasPinned v w g x → x.seen.drawns ≡ v.seen.drawns
pinned_drawns v w g x p = ap (λ (y : View). y.seen.drawns) p.becomes ∙ ap (λ (e : Knowledge). e.drawns) p.turned.kept.seen

pinned_synceds : (v : View) (w : ℕ) (g : Given) (x : View) → HasPinned v w g x → x.seen.synceds ≡ v.seen.synceds
pinned_synceds v w g x p = ap (λ (y : View). y.seen.synceds) p.becomes ∙ ap (λ (e : Knowledge). e.synceds) p.turned.kept.seen

pinned_marks : (v : View) (w : ℕ) (g : Given) (x : View) → HasPinned v w g x → x.seen.marks ≡ v.seen.marks ++ w ∷ []
pinned_marks v w g x p = ap (λ (y : View). y.seen.marks) p.becomes ∙ ap (λ (e : Knowledge). e.marks) p.turned.kept.seen

pinned_pins : (v : View) (w : ℕ) (g : Given) (x : View) → HasPinned v w g x → x.pinning.pins ≡ v.pinning.pins ++ w ∷ []
pinned_pins v w g x p = ap (λ (y : View). y.pinning.pins) p.becomes ∙ ap (λ (q : Pinning). q.pins) p.turned.kept.pinning

module _ (seats : ℕ) (v : View) (after drawn : ℕ) (allowed : after ≤ drawn) (u : View) where
  -- a query that is answered
  pub read : (query : Query) (seen : Seen) (parts : List PartMeaning) (x : View) → HasReached seats (with_drawn drawn v) after u → HasListed u seen.watermark parts x → seen.answer ≡ meaning query (upto x.seen.history seen.watermark) → HasRead seats v after query seen x
  read query seen parts x r l means = let w = seen.watermark in let p = l.pinned in let k = looks_reached seats (with_drawn drawn v) after u r in let mark = r.mark in
      let marked : u.seen.marks ≡ v.seen.marks ++ k.passes.later.marks = k.passes.later.marked in
      let under : mark ≤ w = last_upto w r.looks.swept.seen.marks mark (subst (AllUpto w) (ap (λ (y : View). y.seen.marks) r.looks.becomes) p.loaded.marks) in let reaches = r.reaches in record {
        passes = passes_then v (with_drawn drawn v) x (passes_drawn v drawn) (passes_then (with_drawn drawn v) u x k.passes (passes_pinned u w l.given x p));
        drawn = drawn;
        asked = pinned_drawns u w l.given x p ∙ k.drawns;
        allowed = allowed;
        synceds = pinned_synceds u w l.given x p ∙ k.synceds;
        pins = pinned_pins u w l.given x p ∙ ap (λ ws. ws ++ w ∷ []) k.pins;
        before = k.passes.later.marks;
        loaded = pinned_marks u w l.given x p ∙ (ap (λ ws. ws ++ w ∷ []) marked ∙ append_assoc v.seen.marks k.passes.later.marks (w ∷ []));
        high = upto_front w v.seen.marks k.passes.later.marks (subst (AllUpto w) marked p.loaded.marks);
        low = omega (arith, under, reaches);
        reaches = l.lists.low;
        means = means;
        fresh = record {
          before = r.before;
          begins = passes_then v (with_drawn drawn v) r.before (passes_drawn v drawn) r.looked.passes;
          sweep = r.looks.sweep;
          after = r.looks.swept;
          does = r.looks.does;
          upto = upto_more mark w r.looks.sweep under r.looks.upto;
          ends = passes_then r.looks.swept u x (subst (λ (y : View). Passes r.looks.swept y) (sym r.looks.becomes) (looks_mark r.looks.swept mark).passes) (passes_pinned u w l.given x p);
        };
      }

  -- a sweep that found no memory
  pub failed_sweep : Looks (with_drawn drawn v) u → HasFailed v after u
  failed_sweep k = record {
    passes = passes_then v (with_drawn drawn v) u (passes_drawn v drawn) k.passes;
    drawn = drawn;
    asked = k.drawns;
    allowed = allowed;
    synceds = k.synceds;
    pins = inl k.pins;
  }

  -- memory was wanting after the pin
  pub failed_pin : (w : ℕ) (g : Given) (x : View) → HasReached seats (with_drawn drawn v) after u → HasPinned u w g x → HasFailed v after x
  failed_pin w g x r p = let k = looks_reached seats (with_drawn drawn v) after u r in record {
    passes = passes_then v (with_drawn drawn v) x (passes_drawn v drawn) (passes_then (with_drawn drawn v) u x k.passes (passes_pinned u w g x p));
    drawn = drawn;
    asked = pinned_drawns u w g x p ∙ k.drawns;
    allowed = allowed;
    synceds = pinned_synceds u w g x p ∙ k.synceds;
    pins = inr (w, pinned_pins u w g x p ∙ ap (λ ws. ws ++ w ∷ []) k.pins);
  }

-- the rows of parts that are seen through a list
pub rows_of_seen : {I : Type 0} (part : I → PartMeaning) (seen : List I) → flat_map (λ i. rows_of (part i).rows) seen ≡ rows_of (rows_in (map (λ i. part i) seen))
rows_of_seen part [] = refl
rows_of_seen part (i ∷ is) =
    flat_map-cons (λ i. rows_of (part i).rows) i is
    ∙ ap (λ rows. rows_of (part i).rows ++ rows) (rows_of_seen part is)
    ∙ sym (map-append (λ (n : Numbered). n.row) (part i).rows (rows_in (map (λ i. part i) is)))
    ∙ ap rows_of (sym (flat_map-cons (λ (p : PartMeaning). p.rows) (part i) (map (λ i. part i) is)))

pub kept_self : (v : View) → Kept v v
kept_self v = record { grows = grows_same v.seen.history; seen = refl; own = refl; holds = λ h. h; known = []; books = refl; turns = []; given = sym (append-nil v.tries.given); busy = []; refused = sym (append-nil v.tries.refused); place = refl; pinning = refl }
