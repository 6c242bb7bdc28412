-- Key 0 is the letter at the start: its degree is 0, so both coordinates stay among the letters, and both spellings are that letter.
use Rattle.std.specs.Prelude.{Option}
use Prim.Native.Nat.{ℕ, ◌*◌, ◌-◌, ◌/◌, ◌%◌, ◌≤◌, ◌<◌}
use mathlib.Core.Path.{◌≡◌, refl, sym, ap, ap₂, ◌∙◌}
use mathlib.Core.Bool.{Bool}
use mathlib.Core.List.{List, ◌++◌, append-nil}
use native.Mathlib.Nat.{add-zero, mod-eq_of_lt, zero-div, zero-mod, div-eq_of_lt}
use native.Mathlib.Omega.{arith}
use lib.IntN.{pos}
use lib.ListN.{replicate}
use borrow.Author.Tests.{eq-eqb}
use Rattle.answer.specs.Outcome.{given}
use Rattle.genchain.specs.Chains.{chain_of}
use Rattle.notes.specs.Names.{letter_text, letter_at, spelling_text, letter_alone, printed_text, name_text}
use Rattle.notes.proofs.Printing.{printed_alone}
use Rattle.pergen.specs.declared.Accidentals.{Accidentals}
use Rattle.pergen.specs.Pergen.{cycles, reduced, inverse, degree, cycle, key_degree, key_cycle}
use Rattle.pergen.specs.Spelling.{sharp_coordinate, flat_coordinate, by_coordinates, accidentals_of, key_accidentals, stars_of, sharp_spelling}
use Rattle.pergen.proofs.CarriedWalk.{degree_start}
use Rattle.pergen.proofs.DegreePlaces.{stars_are}
use Rattle.pergen.proofs.Indices.{sharp_first_lem, flat_inside, accidentals_high}
use Rattle.pergen.proofs.Keys.{keys_from_zero_on}
use Rattle.layout.specs.Layouts.{reduced_in, accidentals_in, sharp_first}
use Rattle.layout.specs.Names.{name_in, cycle_in}
use Rattle.layout.specs.Theorems.{KeyZeroIsTheStart}
use Rattle.layout.proofs.Finding.{accepted}
use Rattle.layout.proofs.PatternShape.{pattern_shape}
use Rattle.layout.proofs.Calls.{name_given}

-- a letter without signs, from both sides
abbrev bare : Option ℕ → ℕ → Accidentals
bare c s = record { cycle = c; sharp_index = s; sharp_count = 0; flat_index = s; flat_count = 0 }

bare_name : (letters : List ℕ) (sf : Bool) (c : Option ℕ) (s : ℕ) → stars_of c ≡ 0 → name_text letters sf (bare c s) ≡ letter_text (letter_at letters s)
unfolding name_text spelling_text sharp_spelling letter_alone
bare_name letters sf c s e =
    ap (printed_text letters sf c) (printed_alone sf (bare c s) (eq-eqb s s refl))
    ∙ ap (λ (n : ℕ). spelling_text letters sf (sharp_spelling (bare c s)) ++ replicate n 42) e
    ∙ append-nil _
    ∙ append-nil _

-- degree 0 of an origin below N, where R is at least N
bare_degree : (R N o : ℕ) (c : Option ℕ) → o < N → N ≤ R → accidentals_of R N o 0 c ≡ bare c o
unfolding by_coordinates
bare_degree R N o c ho h =
    sym
    (accidentals_high R N o 0 c h o (N - 1 - o)
    (sharp_first_lem R o (omega arith) ∙ ap (sharp_coordinate R) (sym (add-zero o)))
    (flat_inside R N o (omega arith) h (omega arith) ∙ ap (flat_coordinate R N) (sym (add-zero o))))
    ∙ ap₂ (λ (i k : ℕ). record { cycle = c; sharp_index = i; sharp_count = k; flat_index = N - 1 - (N - 1 - o) % N; flat_count = (N - 1 - o) / N })
    (mod-eq_of_lt ho) (div-eq_of_lt ho)
    ∙ ap₂ (λ (i k : ℕ). record { cycle = c; sharp_index = o; sharp_count = 0; flat_index = N - 1 - i; flat_count = k })
    (mod-eq_of_lt (let q : N - 1 - o < N = omega arith in q)) (div-eq_of_lt (let q : N - 1 - o < N = omega arith in q))
    ∙ ap (λ (i : ℕ). record { cycle = c; sharp_index = o; sharp_count = 0; flat_index = i; flat_count = 0 })
    (let q : N - 1 - (N - 1 - o) ≡ o = omega arith in q)

module _ (P G : ℕ) (hP : 0 < P) where
  zero_degree : key_degree P G (pos 0) ≡ 0
  unfolding degree
  zero_degree =
      (keys_from_zero_on P G hP 0).degree_stays
      ∙ ap (λ (k : ℕ). inverse P G * k % reduced P G) (zero-div (cycles P G))
      ∙ sym (degree_start (inverse P G) (reduced P G))

  zero_cycle : key_cycle P G (pos 0) ≡ 0
  unfolding cycle
  zero_cycle = (keys_from_zero_on P G hP 0).cycle_stays ∙ zero-mod (cycles P G)

pub key_zero_is_the_start : KeyZeroIsTheStart
unfolding name_in accidentals_in key_accidentals
key_zero_is_the_start r l e =
    let a = accepted r l e in
    let P = l.octave in
    let G = l.generator in
    let letters = (chain_of l.chain).letters in
    let spelled : accidentals_in l (pos 0) ≡ bare (cycle_in l (pos 0)) l.start
    = ap (λ (d : ℕ). accidentals_of (reduced_in l) l.letters l.start d (cycle_in l (pos 0))) (zero_degree P G a.positive)
    ∙ bare_degree (reduced_in l) l.letters l.start (cycle_in l (pos 0)) a.start_below (pattern_shape l a).enough_keys in
    let none : stars_of (cycle_in l (pos 0)) ≡ 0
    = ap (λ (x : Accidentals). stars_of x.cycle) (sym spelled)
    ∙ stars_are P G l.letters l.start (pos 0) a.positive a.start_below
    ∙ zero_cycle P G a.positive in
    sym (name_given r l (sym e) (pos 0))
    ∙ ap (λ (x : Accidentals). given (name_text letters (sharp_first l) x)) spelled
    ∙ ap given (bare_name letters (sharp_first l) (cycle_in l (pos 0)) l.start none)
