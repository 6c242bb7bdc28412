-- Worked examples: the file of 1 12 19, reading it back, with lines that are skipped and with one fault each; one theorem that the
-- definitions give what is said here.
use Rattle.std.specs.Prelude.{ℕ, List, [], ◌∷◌, ◌++◌, map, ◌≡◌}
use Rattle.answer.specs.Outcome.{Outcome, given, refused}
use Rattle.layout.specs.declared.IsomorphicLayout.{IsomorphicLayout}
use Rattle.layout.specs.Layouts.{Layout}
use Rattle.layout.specs.Answers.{of_layout}
use Rattle.layout.specs.Examples.{layout, beginning}
use Rattle.kbm_text.specs.Kinds.{mark}
use Rattle.kbm_text.specs.Written.{line}
use Rattle.layout_kbm.specs.Mappings.{natural_keys, get_kbm, get_mapped_keys}

-- 12, 0, 127, 60, 69, 440.000000, 12
abbrev pub head_of_twelve : List ℕ
head_of_twelve = 49 ∷ 50 ∷ 10 ∷ 48 ∷ 10 ∷ 49 ∷ 50 ∷ 55 ∷ 10 ∷ 54 ∷ 48 ∷ 10 ∷ 54 ∷ 57 ∷ 10
    ∷ 52 ∷ 52 ∷ 48 ∷ 46 ∷ 48 ∷ 48 ∷ 48 ∷ 48 ∷ 48 ∷ 48 ∷ 10 ∷ 49 ∷ 50 ∷ 10 ∷ []

-- 0, x, 2, 3, x, 5, x, 7, x, 9, 10
abbrev pub eleven_entries : List ℕ
eleven_entries = 48 ∷ 10 ∷ 120 ∷ 10 ∷ 50 ∷ 10 ∷ 51 ∷ 10 ∷ 120 ∷ 10 ∷ 53 ∷ 10 ∷ 120 ∷ 10 ∷ 55 ∷ 10 ∷ 120 ∷ 10 ∷ 57 ∷ 10 ∷ 49 ∷ 48 ∷ 10 ∷ []

-- .. and the last: x
abbrev pub twelve : List ℕ
twelve = head_of_twelve ++ eleven_entries ++ line mark

-- D E F G A B C
abbrev pub naturals : List ℕ
naturals = 0 ∷ 2 ∷ 3 ∷ 5 ∷ 7 ∷ 9 ∷ 10 ∷ []

-- "!twelve", "!"
abbrev pub comments : List ℕ
comments = line (33 ∷ 116 ∷ 119 ∷ 101 ∷ 108 ∷ 118 ∷ 101 ∷ []) ++ line (33 ∷ [])

abbrev pub commented : List ℕ
commented = comments ++ head_of_twelve ++ comments ++ eleven_entries ++ line mark ++ comments

pub record ReadExample : Type 0 where
  pub layout : IsomorphicLayout
  pub text : List ℕ
  pub keys : Outcome (List ℕ)

abbrev pub read_examples : List ReadExample
read_examples =
    record { layout = layout 1 12 19; text = twelve; keys = given naturals }
    -- lines that are skipped, before the head, between head and entries, at the end
    ∷ record { layout = layout 1 12 19; text = commented; keys = given naturals }
    -- key 11 mapped as well: "any choice of mapped keys"
    ∷ record { layout = layout 1 12 19; text = head_of_twelve ++ eleven_entries ++ line (49 ∷ 49 ∷ []); keys = given (naturals ++ (11 ∷ [])) }
    -- 1, 2, 3, 4, 18 of the layout come first, whatever the text
    ∷ record { layout = layout 6 12 19; text = []; keys = refused 1 }
    ∷ record { layout = layout 1 0 19; text = []; keys = refused 2 }
    ∷ record { layout = layout 3 12 19; text = []; keys = refused 3 }
    ∷ record { layout = layout 0 12 19; text = []; keys = refused 4 }
    ∷ record { layout = beginning 7 1 12 19; text = []; keys = refused 18 }
    -- 19: the last entry is missing, is one too many, is X, has no line feed
    ∷ record { layout = layout 1 12 19; text = head_of_twelve ++ eleven_entries; keys = refused 19 }
    ∷ record { layout = layout 1 12 19; text = twelve ++ line mark; keys = refused 19 }
    ∷ record { layout = layout 1 12 19; text = head_of_twelve ++ eleven_entries ++ line (88 ∷ []); keys = refused 19 }
    ∷ record { layout = layout 1 12 19; text = head_of_twelve ++ eleven_entries ++ mark; keys = refused 19 }
    -- the mapping of another octave has another number of lines
    ∷ record { layout = layout 1 19 30; text = twelve; keys = refused 19 }
    -- 20: entry 11 says 10
    ∷ record { layout = layout 1 12 19; text = head_of_twelve ++ eleven_entries ++ line (49 ∷ 48 ∷ []); keys = refused 20 }
    ∷ []

pub record NaturalExample : Type 0 where
  pub layout : IsomorphicLayout
  pub keys : Outcome (List ℕ)

-- From C: C D E F G A B. Two cycles: the layers of the starred keys are others. Equalized: the natural keys of the first octave alone.
abbrev pub natural_examples : List NaturalExample
natural_examples =
    record { layout = layout 1 12 19; keys = given naturals }
    ∷ record { layout = beginning 1 1 12 19; keys = given (0 ∷ 2 ∷ 4 ∷ 5 ∷ 7 ∷ 9 ∷ 11 ∷ []) }
    ∷ record { layout = layout 1 24 38; keys = given (0 ∷ 4 ∷ 6 ∷ 10 ∷ 14 ∷ 18 ∷ 20 ∷ []) }
    ∷ record { layout = layout 1 7 11; keys = given (0 ∷ 1 ∷ 6 ∷ []) }
    ∷ []

-- Theorem.
pub record ExamplesHold : Type 0 where
  pub written : get_kbm (layout 1 12 19) ≡ given twelve
  pub read : map (λ (e : ReadExample). get_mapped_keys e.layout e.text) read_examples ≡ map (λ (e : ReadExample). e.keys) read_examples
  pub natural : map (λ (e : NaturalExample). of_layout e.layout (λ (l : Layout). given (natural_keys l))) natural_examples
      ≡ map (λ (e : NaturalExample). e.keys) natural_examples
  pub not_written : map get_kbm (layout 0 12 19 ∷ beginning 7 1 12 19 ∷ []) ≡ refused 4 ∷ refused 18 ∷ []
