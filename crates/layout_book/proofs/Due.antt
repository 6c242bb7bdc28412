-- Where a key's name is due: behind the pairs and the names before it, at a place that fits 32 bits; and the pairs that say so.
use Prim.Native.Nat.{ℕ, ◌+◌, ◌*◌, ◌-◌, ◌≤◌, ◌<◌}
use native.Mathlib.Nat.{add-mul, one-mul}
use native.Mathlib.Omega.{arith}
use mathlib.Core.Path.{◌≡◌, sym, ap, ap₂, ◌∙◌}
use mathlib.Core.List.{List, ◌++◌, append-nil}
use lib.ListN.{length, replicate, length-append}
use Rattle.text.specs.Writing.{joined}
use Rattle.text.proofs.Joined.{joined_none, joined_same, joined_add, length_joined_each}
use Rattle.book.specs.Books.{pair_text}
use Rattle.text.specs.LittleEndian.{le32}
use Rattle.text.proofs.FourBytes.{length_le32}
use Rattle.book.proofs.Written.{pair_is}
use Rattle.layout.specs.declared.prepared.Prepared.{Prepared}
use Rattle.layout.specs.Names.{listed_name}
use Rattle.layout.specs.Parts.{layout_in}
use Rattle.notes.specs.Parts.{body_text, starred_text, plan_text}
use Rattle.notes.specs.declared.plans.NamePlan.{NamePlan}
use Rattle.layout_book.specs.Parts.{SpelledPlanned, place_at, bare_at, numbers_text, starred_pair}
use Rattle.layout_book.proofs.ReadyNumbers.{Numbers}
use Rattle.layout_book.proofs.BareNames.{turn_place, name_starred}
use Rattle.layout_book.proofs.BareLengths.{bare_cycle}
use Rattle.layout_book.proofs.NamesLength.{names_short}

pub record Due (p : Prepared) (k offset : ℕ) : Type 0 where
  pub is : offset ≡ 4 + 8 * p.found.octave + length (joined (listed_name (layout_in p)) k)
  pub small : offset ≤ 4 + 8 * p.found.octave + 39325 * k

pub due_none : (p : Prepared) → Due p 0 (4 + 8 * p.found.octave)
due_none p = record { is = omega (arith, ap length (joined_none (listed_name (layout_in p)))); small = omega arith }

-- ---- the names of one degree: with no star, with one, and so on

pub length_numbers : (x y : ℕ) → length (numbers_text x y) ≡ 8
unfolding numbers_text
length_numbers x y = length-append (le32 x) (le32 y) ∙ omega (arith, length_le32 x, length_le32 y)

module _ (plan : NamePlan) (text : ℕ) where
  length_starred_pair : (c : ℕ) → length (starred_pair plan text c) ≡ 8
  unfolding starred_pair
  length_starred_pair c = length_numbers _ _

  pub length_starred_pairs : (c : ℕ) → length (joined (starred_pair plan text) c) ≡ 8 * c
  length_starred_pairs c = length_joined_each (starred_pair plan text) 8 length_starred_pair c

  pub numbers_starred : (c behind next : ℕ) → behind ≡ text + length (joined (starred_text plan) c) → next ≡ behind + length (starred_text plan c)
      → numbers_text behind (next - behind) ≡ starred_pair plan text c
  unfolding starred_pair
  numbers_starred c behind next e q =
      ap₂ numbers_text e (let z : next - behind ≡ length (starred_text plan c) = omega (arith, q) in z)

-- ---- they are the names of a turn's keys, and their pairs those of the book

-- a plan of the name without stars
abbrev pub TurnPlanned : Prepared → ℕ → NamePlan → Type 0
TurnPlanned p t plan = SpelledPlanned p (place_at p (turn_place p t)) plan

module _ (p : Prepared) (h : Numbers p) (t : ℕ) where
  abbrev cycles : ℕ
  cycles = p.solved.num_cycles

  abbrev keys : ℕ
  keys = p.found.octave

  abbrev name : ℕ → List ℕ
  name = listed_name (layout_in p)

  module _ (plan : NamePlan) (planned : TurnPlanned p t plan) where
    starred_name : (c : ℕ) → c < cycles → starred_text plan c ≡ name (t * cycles + c)
    unfolding starred_text plan_text bare_at
    starred_name c l =
        let none : plan.stars ≡ 0 = planned.stars ∙ bare_cycle p (turn_place p t) in
        let body : body_text plan ≡ bare_at p (turn_place p t)
        = sym (append-nil (body_text plan)) ∙ ap (λ (n : ℕ). body_text plan ++ replicate n 42) (sym none) ∙ planned.text in
        ap (λ (x : List ℕ). x ++ replicate c 42) body ∙ sym (name_starred p h t c l)

    pub starred_names : joined (starred_text plan) cycles ≡ joined (λ (c : ℕ). name (t * cycles + c)) cycles
    starred_names = joined_same (starred_text plan) (λ (c : ℕ). name (t * cycles + c)) cycles starred_name

    module _ (text : ℕ) (due : Due p (t * cycles) text) where
      starred_one : (c : ℕ) → c < cycles → starred_pair plan text c ≡ pair_text name keys (t * cycles + c)
      unfolding starred_pair numbers_text
      starred_one c l =
          let before : length (joined (starred_text plan) c) ≡ length (joined (λ (d : ℕ). name (t * cycles + d)) c)
          = ap length (joined_same (starred_text plan) (λ (d : ℕ). name (t * cycles + d)) c (λ d k. starred_name d (omega (arith, l, k)))) in
          let at : text + length (joined (starred_text plan) c) ≡ 4 + 8 * keys + length (joined name (t * cycles + c))
          = omega (
            arith,
            due.is,
            before,
            ap length (joined_add name (t * cycles) c),
            length-append (joined name (t * cycles)) (joined (λ (d : ℕ). name (t * cycles + d)) c),
          ) in
          ap₂ (λ (x y : ℕ). le32 x ++ le32 y) at (ap length (starred_name c l)) ∙ sym (pair_is name keys (t * cycles + c))

      pub starred_pairs : joined (starred_pair plan text) cycles ≡ joined (λ (c : ℕ). pair_text name keys (t * cycles + c)) cycles
      starred_pairs = joined_same (starred_pair plan text) (λ (c : ℕ). pair_text name keys (t * cycles + c)) cycles starred_one

      pub due_turn : (next : ℕ) → next ≡ text + length (joined (starred_text plan) cycles) → Due p ((t + 1) * cycles) next
      due_turn next e =
          let on : (t + 1) * cycles ≡ t * cycles + cycles = omega (arith, add-mul t 1 cycles, one-mul cycles) in
          let all : length (joined name ((t + 1) * cycles)) ≡ length (joined name (t * cycles)) + length (joined (starred_text plan) cycles)
          = ap (λ (k : ℕ). length (joined name k)) on
          ∙ ap length (joined_add name (t * cycles) cycles)
          ∙ length-append (joined name (t * cycles)) (joined (λ (d : ℕ). name (t * cycles + d)) cycles)
          ∙ ap (λ (x : List ℕ). length (joined name (t * cycles)) + length x) (sym starred_names) in
          record {
            is = omega (arith, e, due.is, all);
            small = omega (arith, e, due.is, all, names_short p h ((t + 1) * cycles));
          }
