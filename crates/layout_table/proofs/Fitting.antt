-- How long a line, a table and an output can be. A key has at most R / N + 1 signs and fewer stars than n, so at most P / 5 + 1 of both,
-- since N is 5 at least and n × R is P; and the numbers of refusals are small.
use Rattle.std.specs.Prelude.{Option, None, Some}
use Prim.Native.Nat.{ℕ, zero, suc, ◌+◌, ◌*◌, ◌/◌, ◌%◌, ◌≤◌, ◌<◌}
use mathlib.Core.Path.{◌≡◌, refl, sym, ap, subst}
use mathlib.Core.Bool.{Bool, true, false}
use mathlib.Core.List.{List}
use native.Mathlib.Nat.{le_refl, one-mul, mul-one, mul-suc, mul-add, mul_comm, mul_assoc, mul-le-mul, mul-le-mul_left, mod-lt, div-add-mod', le-div_iff_mul-le}
use native.Mathlib.Decide.{dec_lt}
use native.Mathlib.Omega.{arith}
use lib.IntN.{ℤ, pos}
use lib.ListN.{length}
use lib.Dec.{leb, ltb, eqb}
use borrow.Author.Tests.{le-leb}
use Rattle.answer.specs.Outcome.{Outcome, given, refused, ask, and_then}
use Rattle.answer.proofs.Asked.{given_same}
use Rattle.genchain.specs.Chains.{chain_of, minus, divided_by, twice}
use Rattle.genchain.specs.Answers.{generator_outcome}
use Rattle.mos.specs.declared.Mos.{Mos}
use Rattle.notes.proofs.ShortNames.{names_are_short}
use Rattle.pergen.specs.Pergen.{cycles, reduced}
use Rattle.pergen.specs.Spelling.{stars_of}
use Rattle.pergen.proofs.Inverse.{period_is, cycles_positive}
use Rattle.pergen.proofs.Keys.{key_cycle_below}
use Rattle.pergen.proofs.DegreePlaces.{stars_are, few_signs}
use Rattle.layout.specs.declared.IsomorphicLayout.{IsomorphicLayout}
use Rattle.layout.specs.Layouts.{Layout, letters_of, with_pattern, layout_outcome, Accepted, accidentals_in, sharp_first}
use Rattle.layout.specs.Names.{name_in, listed_name}
use Rattle.layout.specs.Parts.{Laid}
use Rattle.layout.proofs.Finding.{Parts, generator_of, walked, accepted, octave_is}
use Rattle.layout.proofs.PatternShape.{PatternShape, pattern_shape}
use Rattle.layout_layers.proofs.Counts.{sum_by_product}
use Rattle.layout_lamps.specs.Lamps.{lamp_in}
use Rattle.layout_lamps.proofs.Theorems.{codes_fit}
use Rattle.layout_book.proofs.Rounds.{short_texts}
use Rattle.text.proofs.Digits.{digits_length}
use Rattle.line.specs.Lines.{is_line, line_outcome}
use Rattle.line.specs.declared.Line.{Line}
use Rattle.layout_table.specs.Tables.{line_in, line_room, table_in, get_table, output}
use Rattle.line.specs.LineLayouts.{layout_on, line_layout}
use Rattle.line.specs.Refusals.{refusal_line}
use Rattle.layout_table.specs.Theorems.{TablesFit}
use Rattle.layout_table.proofs.Lines.{length_line}
use Rattle.line.proofs.RefusalLines.{length_refusal}
use Rattle.layout_table.proofs.Calls.{line_parts, output_refused, output_given}
use Rattle.line.proofs.AskedLayouts.{line_laid}

-- ---- signs and stars

-- a quotient and one more is enough
quotient_most : (N signs R : ℕ) → 0 < N → N * signs < R + N → signs ≤ R / N + 1
quotient_most N signs R h l = by (dec_lt (R / N + 1) signs)
  where
    by : Dec (R / N + 1 < signs) → signs ≤ R / N + 1
    by (no few) = omega arith
    by (yes more) =
        absurd (let z : ⊥ = omega (
          arith,
          mul-le-mul_left N more,
          mul-suc N (R / N + 1),
          mul-add N (R / N) 1,
          mul-one N,
          div-add-mod' R N,
          mul_comm (R / N) N,
          mod-lt R h,
          l,
        ) in z)

module _ (r : IsomorphicLayout) (l : Layout) (ok : Accepted r l) where
  abbrev P : ℕ
  P = l.octave

  abbrev G : ℕ
  G = l.generator

  abbrev N : ℕ
  N = l.letters

  abbrev R : ℕ
  R = reduced P G

  abbrev n : ℕ
  n = cycles P G

  parts : Parts l
  parts = accepted r l ok

  shape : PatternShape l
  shape = pattern_shape l parts

  -- N letters fill q rounds of a cycle, and n cycles the octave
  rounds_fill : 5 * (n * (R / N)) ≤ P
  rounds_fill =
      let q = R / N in
      omega (
        arith,
        mul-le-mul {n₁ = 5} {m₁ = n * q} {n₂ = N} {m₂ = n * q} shape.at_least_five (le_refl (n * q)),
        mul_comm N (n * q),
        mul_assoc n q N,
        mul-le-mul_left n (let e : q * N ≤ R = omega (arith, div-add-mod' R N, mul_comm q N) in e),
        mul_comm n R,
        period_is P G parts.positive,
      )

  some_rounds : 0 < R / N
  some_rounds =
      (le-div_iff_mul-le {k = N} {x = 1} {y = R} (omega (arith, shape.at_least_five))).1 (let e : 1 * N ≤ R = omega (arith, one-mul N, shape.enough_keys) in e)

  signs_most : (key : ℤ) → (accidentals_in l key).sharp_count + (accidentals_in l key).flat_count + stars_of (accidentals_in l key).cycle ≤ P / 5 + 1
  unfolding accidentals_in
  signs_most key =
      fifth _ P (omega (
        arith,
        quotient_most N _ R (omega (arith, shape.at_least_five)) (few_signs P G N l.start key parts.positive shape.start_below shape.enough_keys),
        stars_are P G N l.start key parts.positive shape.start_below,
        key_cycle_below P G parts.positive key,
        sum_by_product n (R / N) (cycles_positive P G parts.positive) some_rounds,
        rounds_fill,
      ))
    where
      fifth : (x P : ℕ) → 5 * x ≤ P + 5 → x ≤ P / 5 + 1
      fifth x P h = omega (arith, h)

  -- ---- a table

  module _ (wide : l.octave ≤ 65535) where
    abbrev name : ℕ → List ℕ
    name = listed_name l

    abbrev lamp : ℕ → ℕ
    lamp = lamp_in l

    name_most : (key : ℕ) → length (name key) ≤ P / 5 + 8
    unfolding name_in
    name_most key =
        omega (arith, names_are_short (chain_of l.chain).letters (sharp_first l) (accidentals_in l (pos key)), signs_most (pos key))

    line_most : (key : ℕ) → key < P → length (line_in l key) ≤ line_room P
    line_most key h =
        omega (
          arith,
          ap length (line_parts l key),
          length_line key (name key) (lamp key),
          (digits_length key (omega (arith, wide, h))).few,
          name_most key,
          (digits_length (lamp key) (omega (arith, codes_fit r l ok wide key))).few,
        )

    table_most : length (table_in l) ≤ P * line_room P
    unfolding table_in
    table_most =
        omega (arith, short_texts (line_room P) (line_in l) P line_most, mul_comm (line_room P) P)

-- ---- a refusal's number is at most 22

abbrev Low : {A : Type 0} → Outcome A → Type 0
Low (given a) = Unit
Low (refused n) = n ≤ 22

ask_low : {A : Type 0} (n : ℕ) (test : Bool) (rest : Outcome A) → n ≤ 22 → Low rest → Low (ask n test rest)
ask_low n true rest h low = low
ask_low n false rest h low = h

then_low : {A B : Type 0} (o : Outcome A) (next : A → Outcome B) → Low o → ((a : A) → Low (next a)) → Low (and_then o next)
then_low (given a) next low all = all a
then_low (refused n) next low all = low

minus_low : (a b : ℕ) → Low (minus a b)
minus_low a b = ask_low 3 (leb b a) _ (omega arith) tt

divided_low : (d a : ℕ) → Low (divided_by d a)
divided_low d a = ask_low 3 (eqb (a % d) 0) _ (omega arith) tt

twice_low : (a : ℕ) → Low (twice a)
twice_low a = ask_low 3 (leb (2 * a) 65535) _ (omega arith) tt

-- the rules of the six chains, and of none
rule_low : (code octave tritave : ℕ) → Low ((chain_of code).generator octave tritave)
unfolding chain_of
rule_low zero octave tritave = minus_low tritave octave
rule_low (suc zero) octave tritave = minus_low tritave octave
rule_low (suc (suc zero)) octave tritave = minus_low tritave octave
rule_low (suc (suc (suc zero))) octave tritave =
    then_low (and_then (twice octave) (λ (d : ℕ). minus d tritave)) (divided_by 3)
    (then_low (twice octave) (λ (d : ℕ). minus d tritave) (twice_low octave) (λ d. minus_low d tritave))
    (divided_low 3)
rule_low (suc (suc (suc (suc zero)))) octave tritave =
    then_low (minus tritave octave) (divided_by 4) (minus_low tritave octave) (divided_low 4)
rule_low (suc (suc (suc (suc (suc zero))))) octave tritave =
    then_low (divided_by 6 tritave) (λ (sixth : ℕ). minus octave sixth) (divided_low 6 tritave) (minus_low octave)
rule_low (suc (suc (suc (suc (suc (suc code)))))) octave tritave = minus_low tritave octave

generator_low : (code octave tritave : ℕ) → Low (generator_outcome code octave tritave)
unfolding generator_outcome
generator_low code octave tritave =
    ask_low 1 (ltb code 6) _ (omega arith) (ask_low 2 (leb 1 octave) _ (omega arith) (rule_low code octave tritave))

pattern_low : (r : IsomorphicLayout) (G : ℕ) (met : Option Mos) → Low (with_pattern r G met)
pattern_low r G None = omega arith
pattern_low r G (Some m) = ask_low 18 (ltb r.start (letters_of r.genchain)) _ (omega arith) tt

layout_low : (r : IsomorphicLayout) → Low (layout_outcome r)
unfolding layout_outcome
layout_low r =
    then_low (generator_of r) (λ (G : ℕ). with_pattern r G (walked r G)) (generator_low r.genchain r.octave r.tritave)
    (λ G. pattern_low r G (walked r G))

line_low : (line : List ℕ) → Low (line_outcome line)
unfolding line_outcome
line_low line = ask_low 14 (is_line line) _ (omega arith) tt

asked_low : (line : List ℕ) → Low (line_layout line)
unfolding line_layout
asked_low line = then_low (line_outcome line) (λ (a : Line). layout_outcome (layout_on a)) (line_low line) (λ a. layout_low (layout_on a))

refusal_most : (n : ℕ) → n ≤ 22 → length (refusal_line n) ≤ 3440640
refusal_most n h = omega (arith, length_refusal n, (digits_length n (omega arith)).few)

-- ---- an output

pub line_room_few : (octave : ℕ) → octave ≤ 4096 → line_room octave ≤ 840
line_room_few octave h = omega (arith, h)

-- a line's table
few_most : (P : ℕ) → P ≤ 4096 → P * line_room P ≤ 3440640
few_most P h = mul-le-mul {n₁ = P} {m₁ = line_room P} {n₂ = 4096} {m₂ = 840} h (line_room_few P h)

output_fits : (line : List ℕ) → length (output line) ≤ 3440640
output_fits line = by (line_layout line) refl (asked_low line)
  where
    by : (o : Outcome Layout) → line_layout line ≡ o → Low (line_layout line) → length (output line) ≤ 3440640
    by (given l) is low =
        let laid = line_laid line l (sym is) in
        let few = laid.few_keys in
        omega (
          arith,
          ap length (output_given line l (sym is)),
          table_most laid.is_laid.caller l laid.is_laid.accepted (omega (arith, few)),
          few_most l.octave few,
        )
    by (refused n) is low =
        omega (arith, ap length (output_refused line n n refl (sym is)), refusal_most n (subst Low is low))

table_fits : (r : IsomorphicLayout) → r.octave ≤ 65535 → (text : List ℕ) → get_table r ≡ given text → length text ≤ r.octave * line_room r.octave
unfolding get_table
table_fits r wide text e = by (layout_outcome r) refl e
  where
    by : (o : Outcome Layout) → layout_outcome r ≡ o → and_then o (λ (l : Layout). given (table_in l)) ≡ given text → length text ≤ r.octave * line_room r.octave
    by (given l) is f =
        let octave = octave_is r l is in
        let most = table_most r l is (omega (arith, octave, wide)) in
        omega (arith, most, ap length (given_same f), ap (λ (k : ℕ). k * line_room k) octave)
    by (refused n) is f = absurd (let z : ◌≡◌ {A = ℕ} 0 1 = cc in let y : ⊥ = omega (arith, z) in y)

pub tables_fit : TablesFit
tables_fit =
    record {
      line = λ r l ok wide key h. line_most r l ok wide key h;
      table = table_fits;
      printed = output_fits;
    }

-- a slice that holds the longest table of so many keys holds this one
pub surely_held : (l : Layout) → Laid l → l.octave ≤ 65535 → (room : ℕ) → line_room l.octave * l.octave ≤ room
    → true ≡ leb (length (table_in l)) room
surely_held l ok wide room h =
    sym (le-leb _ room (omega (arith, table_most ok.caller l ok.accepted wide, mul_comm l.octave (line_room l.octave), h)))
