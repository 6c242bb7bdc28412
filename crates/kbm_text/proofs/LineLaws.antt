-- A line is cut off at its line feed.
use Prim.Native.Nat.{ℕ, suc, ◌+◌, ◌-◌, ◌<◌, ◌≤◌}
use native.Mathlib.Numerals.{add-one}
use native.Mathlib.Omega.{arith}
use mathlib.Core.Bool.{Bool, true, false}
use mathlib.Core.Path.{◌≡◌, refl, sym, ap, ◌∙◌}
use mathlib.Core.List.{List, [], ◌∷◌, ◌++◌, append-nil, append_assoc}
use lib.ListN.{length, get_or, take, drop, length-drop}
use lib.Seq.{drop-cons, take-suc, get_or-drop}
use lib.Dec.{eqb}
use borrow.Author.Tests.{eq-eqb, ne_eqb, eqb-true, eqb-false}
use Rattle.kbm_text.specs.Lines.{onto_first, lines}
use Rattle.kbm_text.specs.Parts.{Closed, Cut}

onto_none : (ls : List (List ℕ)) → onto_first [] ls ≡ ls
onto_none [] = refl
onto_none (l ∷ ls) = refl

onto_append : (s t : List ℕ) (ls : List (List ℕ)) → onto_first s (onto_first t ls) ≡ onto_first (s ++ t) ls
onto_append s t [] = refl
onto_append s t (l ∷ ls) = ap (λ (x : List ℕ). x ∷ ls) (sym (append_assoc s t l))

pub lines_feed : (byte : ℕ) (rest : List ℕ) → byte ≡ 10 → lines (byte ∷ rest) ≡ [] ∷ lines rest
unfolding lines
lines_feed byte rest e = ap (λ (test : Bool). elim test [ true ↦ [] ∷ lines rest | false ↦ onto_first (byte ∷ []) (lines rest) ]) (eq-eqb byte 10 e)

pub lines_other : (byte : ℕ) (rest : List ℕ) → (byte ≡ 10 → ⊥) → lines (byte ∷ rest) ≡ onto_first (byte ∷ []) (lines rest)
unfolding lines
lines_other byte rest e = ap (λ (test : Bool). elim test [ true ↦ [] ∷ lines rest | false ↦ onto_first (byte ∷ []) (lines rest) ]) (ne_eqb byte 10 e)

-- the lines from `at` on are those from `end` on, with the bytes between on the first
pub record Going (text : List ℕ) (at end : ℕ) : Type 0 where
  pub from : at ≤ end
  pub inside : end < length text
  pub first : lines (drop at text) ≡ onto_first (take (end - at) (drop at text)) (lines (drop end text))

module _ (text : List ℕ) (at : ℕ) where
  split : (i : ℕ) → i < length text → drop i text ≡ get_or text i 0 ∷ drop (i + 1) text
  split i h = drop-cons text i 0 h ∙ ap (λ (n : ℕ). get_or text i 0 ∷ drop n text) (sym (add-one i))

  pub going_start : at < length text → Going text at at
  going_start h =
      let none : at - at ≡ 0 = omega arith in
      record {
        from = omega arith;
        inside = h;
        first =
            sym
            (ap (λ (n : ℕ). onto_first (take n (drop at text)) (lines (drop at text))) none
            ∙ onto_none (lines (drop at text)));
      }

  -- the last byte is a line feed
  pub not_last : (end : ℕ) → Closed text → end < length text → (get_or text end 0 ≡ 10 → ⊥) → end + 1 < length text
  not_last end c h e = by_eq (eqb (end + 1) (length text)) refl
    where
      by_eq : (test : Bool) → eqb (end + 1) (length text) ≡ test → end + 1 < length text
      by_eq true q = absurd (e (ap (λ (n : ℕ). get_or text n 0) (omega (arith, eqb-true (end + 1) (length text) q)) ∙ c.feed))
      by_eq false q = omega (arith, eqb-false (end + 1) (length text) q)

  module _ (end : ℕ) (g : Going text at end) where
    longer : take (end + 1 - at) (drop at text) ≡ take (end - at) (drop at text) ++ (get_or text end 0 ∷ [])
    longer =
        let one : end + 1 - at ≡ suc (end - at) = omega (arith, g.from) in
        ap (λ (n : ℕ). take n (drop at text)) one
        ∙ take-suc (drop at text) (end - at) 0 (omega (arith, g.from, g.inside, length-drop at text))
        ∙ ap (λ (b : ℕ). take (end - at) (drop at text) ++ (b ∷ []))
        (get_or-drop at text (end - at) 0 ∙ ap (λ (n : ℕ). get_or text n 0) (omega (arith, g.from)))

    pub going_more : Closed text → (get_or text end 0 ≡ 10 → ⊥) → Going text at (end + 1)
    going_more c e =
        record {
          from = omega (arith, g.from);
          inside = not_last end c g.inside e;
          first =
              g.first
              ∙ ap (λ (ls : List (List ℕ)). onto_first (take (end - at) (drop at text)) ls)
              (ap lines (split end g.inside) ∙ lines_other (get_or text end 0) (drop (end + 1) text) e)
              ∙ onto_append (take (end - at) (drop at text)) (get_or text end 0 ∷ []) (lines (drop (end + 1) text))
              ∙ ap (λ (s : List ℕ). onto_first s (lines (drop (end + 1) text))) (sym longer);
        }

    pub going_end : get_or text end 0 ≡ 10 → Cut text at end
    going_end e =
        record {
          from = g.from;
          inside = g.inside;
          first =
              g.first
              ∙ ap (λ (ls : List (List ℕ)). onto_first (take (end - at) (drop at text)) ls)
              (ap lines (split end g.inside) ∙ lines_feed (get_or text end 0) (drop (end + 1) text) e)
              ∙ ap (λ (s : List ℕ). s ∷ lines (drop (end + 1) text)) (append-nil (take (end - at) (drop at text)));
        }
