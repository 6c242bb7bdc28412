-- How often a byte stands in a text, or at its front, for the texts that names are made of.
use Prim.Native.Nat.{ℕ, zero, suc, ◌+◌}
use native.Mathlib.Nat.{add_assoc, zero-add}
use native.Mathlib.Numerals.{one-add}
use mathlib.Core.Path.{◌≡◌, refl, sym, ap, ◌∙◌}
use mathlib.Core.Bool.{Bool, true, false}
use mathlib.Core.List.{List, [], ◌∷◌, ◌++◌}
use lib.Dec.{eqb}
use lib.ListN.{replicate}
use Rattle.answer.specs.Choice.{pick}
use Rattle.notes.specs.Reading.{leading, count}

pick_same : (k : Bool) (n : ℕ) → pick k n n ≡ n
pick_same true n = refl
pick_same false n = refl

-- ---- in the text

pub count_append : (b : ℕ) (s t : List ℕ) → count b (s ++ t) ≡ count b s + count b t
unfolding count
count_append b [] t = sym (zero-add (count b t))
count_append b (x ∷ s) t =
    ap (λ (n : ℕ). pick (eqb x b) 1 0 + n) (count_append b s t) ∙ sym (add_assoc (pick (eqb x b) 1 0) (count b s) (count b t))

pick_more : (k : Bool) (n : ℕ) → pick k 1 0 + pick k n 0 ≡ pick k (suc n) 0
pick_more true n = one-add n
pick_more false n = refl

pub count_run : (b n x : ℕ) → count b (replicate n x) ≡ pick (eqb x b) n 0
unfolding count
count_run b zero x = sym (pick_same (eqb x b) 0)
count_run b (suc n) x = ap (λ (k : ℕ). pick (eqb x b) 1 0 + k) (count_run b n x) ∙ pick_more (eqb x b) n

-- ---- at the front

step : (k : Bool) (n : ℕ) → pick k (suc (pick k n 0)) 0 ≡ pick k (suc n) 0
step true n = refl
step false n = refl

pub leading_run : (b n x : ℕ) (rest : List ℕ) → leading b rest ≡ 0 → leading b (replicate n x ++ rest) ≡ pick (eqb x b) n 0
unfolding leading
leading_run b zero x rest h = h ∙ sym (pick_same (eqb x b) 0)
leading_run b (suc n) x rest h =
    ap (λ (k : ℕ). pick (eqb x b) (suc k) 0) (leading_run b n x rest h) ∙ step (eqb x b) n
