-- Stores that are not in a row: what the slice holds is told element by element, stores compose, and all of them together are a list.
use Prim.Native.Nat.{ℕ, zero, suc, ◌+◌, ◌*◌, ◌-◌, ◌/◌, ◌%◌, ◌≤◌, ◌<◌}
use mathlib.Core.Path.{◌≡◌, refl, sym, ap, ◌∙◌}
use mathlib.Core.Logic.{◌⊎◌, inl, inr}
use mathlib.Core.Bool.{Bool, true, false}
use mathlib.Core.List.{List, [], ◌∷◌, ◌++◌}
use native.Mathlib.Nat.{mod-lt, mod-one, mul-one, div-add-mod', div-one, div-lt_iff_lt-mul, one-mul, suc-mul, mul-le-mul_right}
use native.Mathlib.Decide.{dec_lt}
use native.Mathlib.Omega.{arith}
use lib.Arith.{digits_div, digits_mod}
use lib.Dec.{eqb}
use lib.ListN.{length, get_or, set, drop, length-set, length-append, length-drop, get_or-append}
use lib.Seq.{get_or-set_same, get_or-set_other, get_or-append-add, get_or-append_seam, get_or-drop, ext_get_or}
use borrow.Author.Tests.{eqb-true, eqb-false}
use Rattle.text.specs.Writing.{joined}
use Rattle.text.proofs.Joined.{length_joined_each}
use Rattle.layout_layers.specs.Parts.{Spread, InTurn, InTurns, listed, Fronted}

-- ---- any stores

pub spread_none : {Told : ℕ → Type 0} {h : ℕ → ℕ} (xs : List ℕ) → ((i : ℕ) → Told i → ⊥) → Spread Told h xs xs
spread_none xs never = record { kept = refl; stored = λ i t. absurd (never i t); same = λ i n. refl }

pub spread_one : (h : ℕ → ℕ) (xs : List ℕ) (j v : ℕ) → j < length xs → v ≡ h j → Spread (λ i. i ≡ j) h xs (set xs j v)
spread_one h xs j v b e =
    record {
      kept = length-set xs j v;
      stored = λ i t. ap (λ (k : ℕ). get_or (set xs j v) k 0) t ∙ get_or-set_same xs j v 0 b ∙ e ∙ ap h (sym t);
      same = λ i n. get_or-set_other xs j i v 0 n;
    }

-- the same elements, said otherwise
pub spread_as : {Told : ℕ → Type 0} {h g : ℕ → ℕ} {a b : List ℕ} → ((i : ℕ) → Told i → h i ≡ g i) → Spread Told h a b → Spread Told g a b
spread_as e s = record { kept = s.kept; stored = λ i t. s.stored i t ∙ e i t; same = s.same }

-- the same places, said otherwise
pub spread_of : {Q T : ℕ → Type 0} {h : ℕ → ℕ} {a b : List ℕ} → ((i : ℕ) → Q i → T i) → ((i : ℕ) → T i → Q i) → Spread Q h a b → Spread T h a b
spread_of forth back s =
    record { kept = s.kept; stored = λ i t. s.stored i (back i t); same = λ i n. s.same i (λ q. n (forth i q)) }

-- one store after another: each place is the second's, or the first's alone
pub spread_then : {Q S T : ℕ → Type 0} {h : ℕ → ℕ} {a b c : List ℕ} → ((i : ℕ) → T i → S i ⊎ ((S i → ⊥) × Q i))
    → ((i : ℕ) → Q i → T i) → ((i : ℕ) → S i → T i) → Spread Q h a b → Spread S h b c → Spread T h a c
spread_then {Q} {S} {T} {h} {a} {b} {c} either first second u v =
    record {
      kept = v.kept ∙ u.kept;
      stored = λ i t. by i (either i t);
      same = λ i n. v.same i (λ q. n (second i q)) ∙ u.same i (λ q. n (first i q));
    }
  where
    by : (i : ℕ) → S i ⊎ ((S i → ⊥) × Q i) → get_or c i 0 ≡ h i
    by i (inl s) = v.stored i s
    by i (inr q) = v.same i q.0 ∙ u.stored i q.1

-- ---- the keys of one scale degree

-- its first c keys
abbrev pub InBlock : (n turn c : ℕ) → ℕ → Type 0
InBlock n turn c i = (i / n ≡ turn) × (i % n < c)

module _ (n turn : ℕ) (h : ℕ → ℕ) where
  pub block_none : (xs : List ℕ) → Spread (InBlock n turn 0) h xs xs
  block_none xs = spread_none xs (λ i t. let z : ⊥ = omega (arith, t.1) in z)

  pub block_more : (c v : ℕ) {a b : List ℕ} → c < n → turn * n + c < length b → v ≡ h (turn * n + c) → Spread (InBlock n turn c) h a b
      → Spread (InBlock n turn (c + 1)) h a (set b (turn * n + c) v)
  block_more c v {a} {b} l room e s =
      spread_then either (λ i t. (t.0, omega (arith, t.1))) here s (spread_one h b (turn * n + c) v room e)
    where
      here : (i : ℕ) → i ≡ turn * n + c → InBlock n turn (c + 1) i
      here i q = (
        ap (λ (k : ℕ). k / n) q ∙ digits_div turn l,
        omega (arith, ap (λ (k : ℕ). k % n) q ∙ digits_mod turn l),
      )

      split : (i : ℕ) → InBlock n turn (c + 1) i → (t : Bool) → eqb i (turn * n + c) ≡ t
          → (i ≡ turn * n + c) ⊎ ((i ≡ turn * n + c → ⊥) × InBlock n turn c i)
      split i t true q = inl (eqb-true i (turn * n + c) q)
      split i t false q =
          let other = eqb-false i (turn * n + c) q in
          inr (other, (t.0, omega (arith, t.1, other, div-add-mod' i n, ap (λ (k : ℕ). k * n) t.0)))

      either : (i : ℕ) → InBlock n turn (c + 1) i → (i ≡ turn * n + c) ⊎ ((i ≡ turn * n + c → ⊥) × InBlock n turn c i)
      either i t = split i t (eqb i (turn * n + c)) refl

  pub block_whole : (c : ℕ) {a b : List ℕ} → 0 < n → n ≤ c → Spread (InBlock n turn c) h a b → Spread (InTurn n turn) h a b
  block_whole c some full s = spread_of (λ i t. t.0) (λ i t. (t, omega (arith, mod-lt i some))) s

  -- of one cycle
  pub block_single : (v : ℕ) (xs : List ℕ) → n ≡ 1 → turn < length xs → v ≡ h turn → Spread (InTurn n turn) h xs (set xs turn v)
  block_single v xs one room e =
      let whole : (i : ℕ) → i / n ≡ i = λ i. ap (λ (k : ℕ). i / k) one ∙ div-one i in
      spread_of (λ i t. whole i ∙ t) (λ i t. sym (whole i) ∙ t) (spread_one h xs turn v room e)

-- what the code stores there
pub single_first : (n base i : ℕ) → n ≡ 1 → base ≡ base + i % n
single_first n base i one = omega (arith, ap (λ (k : ℕ). i % k) one, mod-one i)

pub single_number : (n layer i : ℕ) → n ≡ 1 → layer ≡ layer * n + i % n
single_number n layer i one = omega (arith, ap (λ (k : ℕ). layer * k) one, mul-one layer, single_first n layer i one)

pub block_number : (n base turn c : ℕ) → c < n → base + c ≡ base + (turn * n + c) % n
block_number n base turn c l = ap (λ (k : ℕ). base + k) (sym (digits_mod turn l))

-- ---- scale degree by scale degree

module _ (n : ℕ) (h : ℕ → ℕ) where
  pub turns_none : (xs : List ℕ) → Spread (InTurns n 0) h xs xs
  turns_none xs = spread_none xs (λ i t. let z : ⊥ = omega (arith, t) in z)

  pub turns_more : (turn : ℕ) {a b c : List ℕ} → Spread (InTurns n turn) h a b → Spread (InTurn n turn) h b c → Spread (InTurns n (turn + 1)) h a c
  turns_more turn u v =
      spread_then (λ i t. by i t (dec_lt (i / n) turn)) (λ i t. omega (arith, t)) (λ i t. omega (arith, t)) u v
    where
      by : (i : ℕ) → i / n < turn + 1 → Dec (i / n < turn) → (i / n ≡ turn) ⊎ ((i / n ≡ turn → ⊥) × (i / n < turn))
      by i t (yes l) = inr ((λ e. omega (arith, l, e)), l)
      by i t (no l) = inl (omega (arith, t, l))

  pub turns_all : {turn turns : ℕ} {a b : List ℕ} → turn ≤ turns → turns ≤ turn → Spread (InTurns n turn) h a b → Spread (InTurns n turns) h a b
  turns_all l m s = spread_of (λ i t. omega (arith, t)) (λ i t. omega (arith, t)) s

pub turns_room : (n turn turns : ℕ) {before after : ℕ} → turn < turns → turns * n ≤ before → after ≡ before → turn * n + n ≤ after
turns_room n turn turns l room kept = omega (arith, mul-le-mul_right n l, suc-mul turn n)

-- ---- the list that they are

pub length_listed : (h : ℕ → ℕ) (count : ℕ) → length (listed h count) ≡ count
length_listed h count = length_joined_each (λ i. h i ∷ []) 1 (λ i. refl) count ∙ one-mul count

pub listed_at : (h : ℕ → ℕ) (count i : ℕ) → i < count → get_or (listed h count) i 0 ≡ h i
unfolding joined
listed_at h zero i l = absurd (let z : ⊥ = omega arith in z)
listed_at h (suc count) i l = by (listed_at h count i) (dec_lt i count)
  where
    by : (i < count → get_or (listed h count) i 0 ≡ h i) → Dec (i < count) → get_or (listed h count ++ (h count ∷ [])) i 0 ≡ h i
    by ih (yes b) = get_or-append (listed h count) (h count ∷ []) 0 i (omega (arith, length_listed h count)) ∙ ih b
    by ih (no b) =
        let last : i ≡ count = omega arith in
        ap (λ (k : ℕ). get_or (listed h count ++ (h count ∷ [])) k 0) (last ∙ sym (length_listed h count))
        ∙ get_or-append_seam (listed h count) (h count) [] 0
        ∙ ap h (sym last)

pub spread_front : (n turns : ℕ) (h : ℕ → ℕ) {a b : List ℕ} → 0 < n → turns * n ≤ length a → Spread (InTurns n turns) h a b → Fronted (listed h (turns * n)) a b
spread_front n turns h {a} {b} some room s =
    let text = listed h (turns * n) in
    let len = length_listed h (turns * n) in
    ext_get_or 0 b (text ++ drop (length text) a)
    (s.kept ∙ sym (length-append text (drop (length text) a) ∙ ap (λ (k : ℕ). length text + k) (length-drop (length text) a) ∙ omega (arith, len)))
    (λ i l. by i l (dec_lt i (turns * n)))
  where
    by : (i : ℕ) → i < length b → Dec (i < turns * n) → get_or b i 0 ≡ get_or (listed h (turns * n) ++ drop (length (listed h (turns * n))) a) i 0
    by i l (yes q) =
        s.stored i ((div-lt_iff_lt-mul some).1 q)
        ∙ sym (get_or-append (listed h (turns * n)) (drop (length (listed h (turns * n))) a) 0 i (omega (arith, length_listed h (turns * n))) ∙ listed_at h (turns * n) i q)
    by i l (no q) =
        let text = listed h (turns * n) in
        let e : i ≡ length text + (i - length text) = omega (arith, q, length_listed h (turns * n)) in
        s.same i (λ t. q ((div-lt_iff_lt-mul some).0 t))
        ∙ ap (λ (k : ℕ). get_or a k 0) e
        ∙ sym
        (ap (λ (k : ℕ). get_or (text ++ drop (length text) a) k 0) e
        ∙ get_or-append-add text (drop (length text) a) (i - length text) 0
        ∙ get_or-drop (length text) a (i - length text) 0)
