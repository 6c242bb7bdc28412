-- The layouts of an octave division (document 02, W-202): "the layouts that `IsomorphicLayout::find_by_edo` lists, in its order of chains".
use Rattle.std.specs.Prelude.{ℕ, zero, suc, Bool, true, false, List, [], ◌∷◌, ◌++◌, Option, Some, None}
use Rattle.answer.specs.Outcome.{Outcome, given, refused, ask, and_then}
use Rattle.answer.specs.Choice.{pick}
use Rattle.layout.specs.declared.IsomorphicLayout.{IsomorphicLayout}
use Rattle.layout.specs.Layouts.{Layout, layout_outcome, default_layout}
use Rattle.mos.specs.declared.Mos.{Mos}
use Rattle.edo_tritaves.specs.declared.Choices.{Choices}
use Rattle.edo_tritaves.specs.Tritaves.{is_division, tritaves_of}
use Rattle.edo_layouts.specs.declared.EdoLayout.{EdoLayout}

-- ---- one chain

-- A layout, whether its tritave is the second choice, and its pattern.
abbrev pub edo_layout : IsomorphicLayout → Bool → Mos → EdoLayout
edo_layout r second pattern = record { layout = r; second = second; pattern = pattern }

-- The layout with so many steps to the tritave, at document 01's start.
unfoldable pub tried : (n code tritave : ℕ) (second : Bool) → Outcome EdoLayout
unfolding layout_outcome
tried n code tritave second =
    and_then (layout_outcome (default_layout code n tritave))
    (λ (l : Layout). given (edo_layout (default_layout code n tritave) second l.pattern))

-- "It serves a chain only where k gives no layout": the second is looked at where the first is refused. Where it is refused too, the
-- first's refusal stays.
abbrev pub or_else : Outcome EdoLayout → Outcome EdoLayout → Outcome EdoLayout
or_else (given c) other = given c
or_else (refused q) (given c) = given c
or_else (refused q) (refused p) = refused q

-- What a chain gets where the first choice gave this: a second choice, if there is one, is looked at too.
unfoldable pub with_second : (n code : ℕ) → Outcome EdoLayout → Option ℕ → Outcome EdoLayout
unfolding tried
with_second n code first None = first
with_second n code first (Some tritave) = or_else first (tried n code tritave true)

-- What a chain gets of both choices.
unfoldable pub chain_served : (n code : ℕ) → Choices → Outcome EdoLayout
unfolding tried with_second
chain_served n code t = with_second n code (tried n code t.first false) t.second

-- "15 when n is outside 1 to 400, before every other question": then 1 to 4 of the layout.
unfoldable pub chain_outcome : (n code : ℕ) → Outcome EdoLayout
unfolding tritaves_of chain_served
chain_outcome n code = and_then (tritaves_of n) (chain_served n code)

-- ---- all chains

-- What is given, as a list of at most one.
abbrev pub given_of : Outcome EdoLayout → List EdoLayout
given_of (given c) = c ∷ []
given_of (refused q) = []

-- The lists of 0 to count − 1, one after the other.
unfoldable pub gathered : (ℕ → List EdoLayout) → ℕ → List EdoLayout
gathered list zero = []
gathered list (suc count) = gathered list count ++ list count

-- "in its order of chains": Mavila[9], Meantone[7], Meantone[5], Porcupine[8], Tetracot[7], Hanson[7], which are the codes 0 to 5, rising.
unfoldable pub layouts_of : ℕ → List EdoLayout
unfolding gathered chain_outcome
layouts_of n = gathered (λ (code : ℕ). given_of (chain_outcome n code)) 6

-- ---- as numbers

-- 1 for a yes.
abbrev pub one : Bool → ℕ
one b = pick b 1 0

-- A layout's three: its chain code, its tritave, and whether it is the second choice.
abbrev pub numbers_of : EdoLayout → List ℕ
numbers_of c = c.layout.genchain ∷ c.layout.tritave ∷ one c.second ∷ []

-- What is said of each layout, one after the other.
unfoldable pub joined_over : (EdoLayout → List ℕ) → List EdoLayout → List ℕ
joined_over said [] = []
joined_over said (c ∷ rest) = said c ++ joined_over said rest

-- Question 15, then the numbers of all layouts; then comes question 10.
unfoldable pub find_by_edo : ℕ → Outcome (List ℕ)
unfolding joined_over layouts_of
find_by_edo n = ask 15 (is_division n) (given (joined_over numbers_of (layouts_of n)))
