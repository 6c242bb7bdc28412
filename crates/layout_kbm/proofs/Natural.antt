-- The natural keys: a layer's number and its kind, and what is written is read back.
use Prim.Native.Nat.{ℕ, zero, suc, ◌+◌, ◌-◌, ◌*◌, ◌≤◌}
use native.Mathlib.Nat.{add-zero, zero-add, add-suc, suc-add}
use native.Mathlib.Omega.{arith}
use mathlib.Core.Bool.{Bool, true, false}
use mathlib.Core.Path.{◌≡◌, refl, sym, ap, ◌∙◌}
use mathlib.Core.List.{List, [], ◌∷◌, ◌++◌, append-nil, append_assoc}
use lib.Dec.{eqb, ltb}
use borrow.Author.Tests.{eqb-true}
use Rattle.answer.specs.Choice.{pick}
use Rattle.answer.specs.Outcome.{Outcome, given, refused, and_then}
use Rattle.answer.proofs.Asked.{given_same}
use Rattle.text.specs.Writing.{joined}
use Rattle.layout.specs.Layouts.{Layout, layout_outcome}
use Rattle.layout.proofs.Finding.{octave_is}
use Rattle.layout_layers.specs.KeyLayers.{kind_of, number_in, count_in}
use Rattle.layout_layers.specs.declared.Layer.{Layer}
use Rattle.layout_layers.specs.declared.Layer.TheVariants.{Natural, Sharp, Enharmonic, Flat}
use Rattle.layout_layers.proofs.PlanLaws.{kind_natural}
use Rattle.math.specs.Passing.{passing}
use Rattle.math.proofs.Passing.{passes_iff, passing_rise}
use Rattle.kbm_text.specs.Written.{mapped_keys}
use Rattle.kbm_text.proofs.LineByLine.{mappings_fit}
use Rattle.kbm_text.proofs.ReadBack.{reads_back}
use Rattle.layout_kbm.specs.Mappings.{natural, mapping_in, natural_keys, get_kbm}
use Rattle.layout_kbm.specs.Theorems.{NaturalIsItsLayer, NaturalKeysReadBack, NaturalKeysAreExact, FilesFit}
use Rattle.layout_kbm.proofs.Calls.{keys_given}
use Rattle.layout_kbm.proofs.KeysRead.{pass_one, no_answer}
use lib.ListN.{length}

-- ---- the kind of a layer

is_natural : Layer → Bool
is_natural Natural = true
is_natural (Sharp k) = false
is_natural (Enharmonic k) = false
is_natural (Flat k) = false

kind_test : (T j : ℕ) → is_natural (kind_of T j) ≡ eqb j 0
unfolding kind_of is_natural
kind_test T j = by (eqb j 0) (ltb (2 * j) T) (eqb (2 * j) T) (j - 1) (T - j - 1)
  where
    by : (a b c : Bool) (s f : ℕ) → is_natural (pick a Natural (pick b (Sharp s) (pick c (Enharmonic s) (Flat f)))) ≡ a
    by true b c s f = refl
    by false true c s f = refl
    by false false true s f = refl
    by false false false s f = refl

natural_said : is_natural Natural ≡ true
unfolding is_natural
natural_said = refl

pub natural_is_its_layer : NaturalIsItsLayer
unfolding natural
natural_is_its_layer l key = (
  λ t. sym (kind_natural (count_in l) (number_in l key) (eqb-true (number_in l key) 0 t)),
  λ e. sym (kind_test (count_in l) (number_in l key)) ∙ ap is_natural e ∙ natural_said,
)

-- ---- the numbers that pass, one more at the end

one_more : (test : ℕ → Bool) (count from : ℕ)
    → passing test (suc count) from ≡ passing test count from ++ pick (test (from + count)) ((from + count) ∷ []) []
unfolding passing
one_more test zero from =
    pass_one test zero from (test from) refl
    ∙ append-nil (pick (test from) (from ∷ []) [])
    ∙ ap (λ (n : ℕ). pick (test n) (n ∷ []) []) (sym (add-zero from))
one_more test (suc count) from =
    pass_one test (suc count) from (test from) refl
    ∙ ap (λ (ks : List ℕ). pick (test from) (from ∷ []) [] ++ ks)
    (one_more test count (suc from)
    ∙ ap (λ (n : ℕ). passing test count (suc from) ++ pick (test n) (n ∷ []) []) (suc-add from count ∙ sym (add-suc from count)))
    ∙ sym (append_assoc (pick (test from) (from ∷ []) []) (passing test count (suc from)) (pick (test (from + suc count)) ((from + suc count) ∷ []) []))
    ∙ ap (λ (ks : List ℕ). ks ++ pick (test (from + suc count)) ((from + suc count) ∷ []) []) (sym (pass_one test count from (test from) refl))

chosen : (test : ℕ → Bool) (count : ℕ) → joined (λ key. pick (test key) (key ∷ []) []) count ≡ passing test count 0
unfolding joined passing
chosen test zero = refl
chosen test (suc count) =
    ap (λ (ks : List ℕ). ks ++ pick (test count) (count ∷ []) []) (chosen test count)
    ∙ ap (λ (n : ℕ). passing test count 0 ++ pick (test n) (n ∷ []) []) (sym (zero-add count))
    ∙ sym (one_more test count 0)

mapped_are : (l : Layout) → mapped_keys l.octave (natural l) ≡ natural_keys l
unfolding mapped_keys natural_keys
mapped_are l = chosen (natural l) l.octave

pub natural_keys_read_back : NaturalKeysReadBack
unfolding mapping_in
natural_keys_read_back r l ok small =
    sym (keys_given r l (sym ok) (mapping_in l)) ∙ reads_back l.octave (natural l) small ∙ ap given (mapped_are l)

pub natural_keys_are_exact : NaturalKeysAreExact
unfolding natural_keys
natural_keys_are_exact l = record { rising = passing_rise (natural l) l.octave 0; exactly = λ key. passes_iff (natural l) l.octave key }

-- ---- room

pub files_fit : FilesFit
unfolding get_kbm mapping_in
files_fit r text small e = by (layout_outcome r) refl e
  where
    by : (o : Outcome Layout) → layout_outcome r ≡ o → and_then o (λ (l : Layout). given (mapping_in l)) ≡ given text → length text ≤ 6 * r.octave + 35
    by (given l) is f =
        omega (
          arith,
          octave_is r l is,
          mappings_fit l.octave (natural l) (omega (arith, octave_is r l is)),
          ap length (given_same f),
        )
    by (refused n) is f = absurd (no_answer n f)
