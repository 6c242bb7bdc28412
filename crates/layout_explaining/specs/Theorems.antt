-- What a pupil may rely on, for every accepted layout. Proofs: proofs/.
use Rattle.std.specs.Prelude.{ℕ, suc, ◌+◌, ◌*◌, ◌/◌, ◌%◌, ◌≡◌, ◌↔◌, List, pos, negsuc, nat_abs, ◌-ℤ◌}
use Rattle.answer.specs.Outcome.{given}
use Rattle.math.specs.Division.{Apart}
use Rattle.notes.specs.Names.{signs_in}
use Rattle.pergen.specs.declared.Spelling.{Spelling}
use Rattle.layout.specs.Layouts.{Layout, Accepted, reduced_in}
use Rattle.layout.specs.Names.{IsSpelling, place_in, key_of}
use Rattle.layout.specs.declared.IsomorphicLayout.{IsomorphicLayout}
use Rattle.layout_reading.specs.Answers.{get_spelling}
use Rattle.layout_explaining.specs.Explanations.{standing_of, apart_in, verdict_of}
use Rattle.layout_explaining.specs.Sentences.{explanation_text}
use Rattle.layout_explaining.specs.Answers.{get_explanation, get_explanation_text}
use Rattle.layout_explaining.specs.declared.Verdict.TheVariants.{OneKey, TwoChains}
use Rattle.layout_explaining.specs.declared.Explanation.{Explanation}

-- Of a verdict on two spellings:
pub record VerdictHolds (l : Layout) (x y : Spelling) : Type 0 where
  -- it says one key exactly where both sound one key of the octave,
  pub one_key : (verdict_of l x y ≡ OneKey) ↔ (key_of l x ≡ key_of l y)
  -- and exactly where the stars agree and the places differ by a multiple of the reduced period (`SpellingsSoundOneKey`);
  pub by_counting : (verdict_of l x y ≡ OneKey) ↔ ((x.stars ≡ y.stars) × Apart (reduced_in l) (place_in l x) (place_in l y))
  -- it says two chains exactly where the stars differ.
  pub two_chains : (verdict_of l x y ≡ TwoChains) ↔ (x.stars ≡ y.stars → ⊥)

abbrev pub VerdictsHold : Type 0
VerdictsHold =
    (r : IsomorphicLayout) (l : Layout) → Accepted r l → (x y : Spelling) → IsSpelling l x → IsSpelling l y → VerdictHolds l x y

-- Of two texts and what is answered for them:
pub record Explains (r : IsomorphicLayout) (first second : List ℕ) (e : Explanation) : Type 0 where
  pub layout : Layout
  pub accepted : Accepted r layout
  -- each text is read, by itself, as a spelling of the layout,
  pub one : Spelling
  pub other : Spelling
  pub first_read : get_spelling r first ≡ given one
  pub second_read : get_spelling r second ≡ given other
  pub is_one : IsSpelling layout one
  pub is_other : IsSpelling layout other
  -- the numbers are those of the two spellings, by the definitions that `SpellingsSoundOneKey` speaks of,
  pub first_stands : e.first ≡ standing_of layout one
  pub second_stands : e.second ≡ standing_of layout other
  pub apart_is : e.apart ≡ nat_abs (place_in layout one -ℤ place_in layout other)
  pub round_is : e.reduced_period ≡ reduced_in layout
  -- and the verdict is theirs, of which `VerdictsHold` speaks.
  pub verdict_is : e.verdict ≡ verdict_of layout one other

abbrev pub ExplanationsHold : Type 0
ExplanationsHold =
    (r : IsomorphicLayout) (first second : List ℕ) (e : Explanation) → get_explanation r first second ≡ given e → Explains r first second e

-- Any two texts that are read are explained.
abbrev pub AllSpellingsAreExplained : Type 0
AllSpellingsAreExplained =
    (r : IsomorphicLayout) (first second : List ℕ) (x y : Spelling) → get_spelling r first ≡ given x → get_spelling r second ≡ given y
    → (e : Explanation) × (get_explanation r first second ≡ given e)

-- The text is that of the explanation, and of nothing else.
abbrev pub TextsTellTheExplanation : Type 0
TextsTellTheExplanation =
    (r : IsomorphicLayout) (first second text : List ℕ) → get_explanation_text r first second ≡ given text
    → (l : Layout) × (e : Explanation)
    × Accepted r l × (get_explanation r first second ≡ given e) × (text ≡ explanation_text l first second e)

-- What the sentences say of a spelling is so:
pub record SentenceHolds (l : Layout) (x : Spelling) : Type 0 where
  -- n places up, n × G keys up, and a key up for each star, are the key, round the octave;
  pub up : (n : ℕ) → place_in l x ≡ pos n → key_of l x ≡ (n * l.generator + x.stars) % l.octave
  -- n places down, the key and n × G keys are the stars;
  pub down : (n : ℕ) → place_in l x ≡ negsuc n → (key_of l x + suc n * l.generator) % l.octave ≡ x.stars % l.octave
  -- where counting begins stands the letter of key 0, without signs.
  pub begins : place_in l x ≡ pos 0 → (x.index ≡ l.start) × (signs_in x.signs ≡ 0)

-- And of two: where they are one key, "so many times" is a whole number.
abbrev pub SentencesHold : Type 0
SentencesHold =
    (r : IsomorphicLayout) (l : Layout) → Accepted r l
    → ((x : Spelling) → IsSpelling l x → SentenceHolds l x)
    × ((x y : Spelling) → verdict_of l x y ≡ OneKey → apart_in l x y / reduced_in l * reduced_in l ≡ apart_in l x y)
