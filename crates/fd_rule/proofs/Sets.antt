-- Words, one of which was stored or loaded.
use Rattle.std.proofs.Common.{◌≡◌, ◌≢◌, ℕ, ◌+◌, ◌*◌, ◌<◌, List, length, get_or, set, cond, sym, refl, ap, ◌∙◌, subst, arith, length-set, eqb, eq-eqb, ne_eqb, get_or-set_other, get_or-set_same}
use mathlib.Core.Logic.{dite}
use native.Mathlib.Decide.{ℕ_discrete}
use lib.Seq.{set-get_or}
use Rattle.fd_rule.specs.Rule.{Words}

-- the function f, with x at k
abbrev pub put : {A : Type 0} → (ℕ → A) → ℕ → A → ℕ → A
put f k x j = cond (eqb j k) x (f j)

pub put_here : {A : Type 0} (f : ℕ → A) (k : ℕ) (x : A) → put f k x k ≡ x
put_here f k x = ap (λ b. cond b x (f k)) (eq-eqb k k refl)

pub put_else : {A : Type 0} (f : ℕ → A) (k : ℕ) (x : A) (j : ℕ) → j ≢ k → put f k x j ≡ f j
put_else f k x j other = ap (λ b. cond b x (f j)) (ne_eqb j k other)

-- what holds of both at id, and of the others, holds everywhere
pub put_both : {A B : Type 0} (P : ℕ → A → B → Type 0) (f : ℕ → A) (g : ℕ → B) (id : ℕ) (x : A) (y : B) (k : ℕ) → (k ≡ id → P k x y) → (k ≢ id → P k (f k) (g k)) → P k (put f id x k) (put g id y k)
put_both P f g id x y k here other = dite (ℕ_discrete k id)
    (λ e. subst (λ b. P k (cond b x (f k)) (cond b y (g k))) (sym (eq-eqb k id e)) (here e))
    (λ ne. subst (λ b. P k (cond b x (f k)) (cond b y (g k))) (sym (ne_eqb k id ne)) (other ne))

pub put_one : {A : Type 0} (P : ℕ → A → Type 0) (f : ℕ → A) (id : ℕ) (x : A) (k : ℕ) → (k ≡ id → P k x) → (k ≢ id → P k (f k)) → P k (put f id x k)
put_one P f id x k here other = dite (ℕ_discrete k id)
    (λ e. subst (λ b. P k (cond b x (f k))) (sym (eq-eqb k id e)) (here e))
    (λ ne. subst (λ b. P k (cond b x (f k))) (sym (ne_eqb k id ne)) (other ne))

pub length_set : {A : Type 0} (l : List A) (i : ℕ) (a : A) → length (set l i a) ≡ length l
length_set l i a = length-set l i a

module _ {seats : ℕ} {ws : List ℕ} {d m t y f : ℕ} {l p : ℕ → ℕ} (r : Words seats ws d m t y f l p) where
  other : (i j x : ℕ) → j ≢ i → get_or (set ws i x) j 0 ≡ get_or ws j 0
  other i j x ne = get_or-set_other ws i j x 0 ne

  here : (i x : ℕ) → i < 2 * seats + 5 → get_or (set ws i x) i 0 ≡ x
  here i x inside = let wide = r.wide in get_or-set_same ws i x 0 (omega (arith, inside, wide))

  pub load : (i : ℕ) → Words seats (set ws i (get_or ws i 0)) d m t y f l p
  load i = subst (λ ws. Words seats ws d m t y f l p) (sym (set-get_or ws i 0)) r

  pub store_drawn : (x : ℕ) → Words seats (set ws 0 x) x m t y f l p
  store_drawn x = record { wide = length_set ws 0 x ∙ r.wide; drawn_is = here 0 x (omega arith); mark_is = other 0 1 x (λ e. omega arith) ∙ r.mark_is; taken_is = other 0 2 x (λ e. omega arith) ∙ r.taken_is; synced_is = other 0 3 x (λ e. omega arith) ∙ r.synced_is; floor_is = other 0 4 x (λ e. omega arith) ∙ r.floor_is; lane_is = λ k h. other 0 (2 * k + 5) x (λ e. omega arith) ∙ r.lane_is k h; pin_is = λ k h. other 0 (2 * k + 6) x (λ e. omega arith) ∙ r.pin_is k h }

  pub store_mark : (x : ℕ) → Words seats (set ws 1 x) d x t y f l p
  store_mark x = record { wide = length_set ws 1 x ∙ r.wide; drawn_is = other 1 0 x (λ e. omega arith) ∙ r.drawn_is; mark_is = here 1 x (omega arith); taken_is = other 1 2 x (λ e. omega arith) ∙ r.taken_is; synced_is = other 1 3 x (λ e. omega arith) ∙ r.synced_is; floor_is = other 1 4 x (λ e. omega arith) ∙ r.floor_is; lane_is = λ k h. other 1 (2 * k + 5) x (λ e. omega arith) ∙ r.lane_is k h; pin_is = λ k h. other 1 (2 * k + 6) x (λ e. omega arith) ∙ r.pin_is k h }

  pub store_taken : (x : ℕ) → Words seats (set ws 2 x) d m x y f l p
  store_taken x = record { wide = length_set ws 2 x ∙ r.wide; drawn_is = other 2 0 x (λ e. omega arith) ∙ r.drawn_is; mark_is = other 2 1 x (λ e. omega arith) ∙ r.mark_is; taken_is = here 2 x (omega arith); synced_is = other 2 3 x (λ e. omega arith) ∙ r.synced_is; floor_is = other 2 4 x (λ e. omega arith) ∙ r.floor_is; lane_is = λ k h. other 2 (2 * k + 5) x (λ e. omega arith) ∙ r.lane_is k h; pin_is = λ k h. other 2 (2 * k + 6) x (λ e. omega arith) ∙ r.pin_is k h }

  pub store_synced : (x : ℕ) → Words seats (set ws 3 x) d m t x f l p
  store_synced x = record { wide = length_set ws 3 x ∙ r.wide; drawn_is = other 3 0 x (λ e. omega arith) ∙ r.drawn_is; mark_is = other 3 1 x (λ e. omega arith) ∙ r.mark_is; taken_is = other 3 2 x (λ e. omega arith) ∙ r.taken_is; synced_is = here 3 x (omega arith); floor_is = other 3 4 x (λ e. omega arith) ∙ r.floor_is; lane_is = λ k h. other 3 (2 * k + 5) x (λ e. omega arith) ∙ r.lane_is k h; pin_is = λ k h. other 3 (2 * k + 6) x (λ e. omega arith) ∙ r.pin_is k h }

  pub store_floor : (x : ℕ) → Words seats (set ws 4 x) d m t y x l p
  store_floor x = record { wide = length_set ws 4 x ∙ r.wide; drawn_is = other 4 0 x (λ e. omega arith) ∙ r.drawn_is; mark_is = other 4 1 x (λ e. omega arith) ∙ r.mark_is; taken_is = other 4 2 x (λ e. omega arith) ∙ r.taken_is; synced_is = other 4 3 x (λ e. omega arith) ∙ r.synced_is; floor_is = here 4 x (omega arith); lane_is = λ k h. other 4 (2 * k + 5) x (λ e. omega arith) ∙ r.lane_is k h; pin_is = λ k h. other 4 (2 * k + 6) x (λ e. omega arith) ∙ r.pin_is k h }

  pub store_lane : (id x : ℕ) → id < seats → Words seats (set ws (2 * id + 5) x) d m t y f (put l id x) p
  store_lane id x inside = record {
    wide = length_set ws (2 * id + 5) x ∙ r.wide;
    drawn_is = other (2 * id + 5) 0 x (λ e. omega arith) ∙ r.drawn_is;
    mark_is = other (2 * id + 5) 1 x (λ e. omega arith) ∙ r.mark_is;
    taken_is = other (2 * id + 5) 2 x (λ e. omega arith) ∙ r.taken_is;
    synced_is = other (2 * id + 5) 3 x (λ e. omega arith) ∙ r.synced_is;
    floor_is = other (2 * id + 5) 4 x (λ e. omega arith) ∙ r.floor_is;
    pin_is = λ k h. other (2 * id + 5) (2 * k + 6) x (λ e. omega arith) ∙ r.pin_is k h;
    lane_is = λ k h. put_one (λ k a. get_or (set ws (2 * id + 5) x) (2 * k + 5) 0 ≡ a) l id x k
        (λ e. subst (λ z. get_or (set ws (2 * id + 5) x) (2 * z + 5) 0 ≡ x) (sym e) (here (2 * id + 5) x (omega (arith, inside))))
        (λ ne. other (2 * id + 5) (2 * k + 5) x (λ e. ne (omega (arith, e))) ∙ r.lane_is k h);
  }

  pub store_pin : (id x : ℕ) → id < seats → Words seats (set ws (2 * id + 6) x) d m t y f l (put p id x)
  store_pin id x inside = record {
    wide = length_set ws (2 * id + 6) x ∙ r.wide;
    drawn_is = other (2 * id + 6) 0 x (λ e. omega arith) ∙ r.drawn_is;
    mark_is = other (2 * id + 6) 1 x (λ e. omega arith) ∙ r.mark_is;
    taken_is = other (2 * id + 6) 2 x (λ e. omega arith) ∙ r.taken_is;
    synced_is = other (2 * id + 6) 3 x (λ e. omega arith) ∙ r.synced_is;
    floor_is = other (2 * id + 6) 4 x (λ e. omega arith) ∙ r.floor_is;
    lane_is = λ k h. other (2 * id + 6) (2 * k + 5) x (λ e. omega arith) ∙ r.lane_is k h;
    pin_is = λ k h. put_one (λ k a. get_or (set ws (2 * id + 6) x) (2 * k + 6) 0 ≡ a) p id x k
        (λ e. subst (λ z. get_or (set ws (2 * id + 6) x) (2 * z + 6) 0 ≡ x) (sym e) (here (2 * id + 6) x (omega (arith, inside))))
        (λ ne. other (2 * id + 6) (2 * k + 6) x (λ e. ne (omega (arith, e))) ∙ r.pin_is k h);
  }

  pub same_pins : (q : ℕ → ℕ) → ((k : ℕ) → q k ≡ p k) → Words seats ws d m t y f l q
  same_pins q e = record { wide = r.wide; drawn_is = r.drawn_is; mark_is = r.mark_is; taken_is = r.taken_is; synced_is = r.synced_is; floor_is = r.floor_is; lane_is = r.lane_is; pin_is = λ k h. r.pin_is k h ∙ sym (e k) }
