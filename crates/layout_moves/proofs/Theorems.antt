-- An accepted layout's pattern is one of the walk from its genesis, so all that holds of the walk's moves holds of the layout's.
use Rattle.std.specs.Prelude.{Option, Some}
use Prim.Native.Nat.{ℕ, ◌≤◌, ◌<◌}
use mathlib.Core.Path.{◌≡◌, refl, sym, ap, ◌∙◌, subst}
use mathlib.Core.List.{List}
use native.Mathlib.Omega.{arith}
use lib.IntN.{ℤ, pos, ◌+ℤ◌, ◌*ℤ◌, *ℤ_comm}
use lib.ListN.{length}
use Rattle.answer.specs.Outcome.{given, refused}
use Rattle.answer.specs.Lent.{in_room, Filled}
use Rattle.answer.proofs.Lent.{filled_refused, filled_short}
use Rattle.text.specs.Writing.{Wrote}
use Rattle.text.proofs.Writing.{filled_whole}
use Rattle.math.specs.Division.{Apart}
use Rattle.math.proofs.Division.{remainder→apart}
use Rattle.math.proofs.Integers.{rep_self, rep_pos, rep_add, rep_mul, rep_agree}
use Rattle.mos_moves.specs.Moves.{Table, pattern_moves, numbers_of}
use Rattle.mos_moves.specs.Answers.{Tabled}
use Rattle.mos_moves.specs.Parts.{OnWalk}
use Rattle.mos_moves.proofs.Walking.{moves_stand_beside_the_pattern}
use Rattle.mos_moves.proofs.Combining.{moves_reach_all}
use Rattle.mos_moves.proofs.Theorems.{moves_reach_their_steps, patterns_tell_their_moves}
use Rattle.mos_moves.proofs.Answering.{tabled_refused, tabled_moves}
use Rattle.pergen.specs.Pergen.{reduced, key_degree, key_cycle}
use Rattle.pergen.specs.Spelling.{sounds}
use Rattle.pergen.proofs.Keys.{degree_sounds_key}
use Rattle.layout.specs.declared.IsomorphicLayout.{IsomorphicLayout}
use Rattle.layout.specs.Layouts.{Layout, layout_outcome}
use Rattle.layout.specs.Answers.{get_mos}
use Rattle.layout.proofs.Calls.{of_refused, of_given, mos_refused, mos_given}
use Rattle.layout.proofs.Finding.{Parts, accepted}
use Rattle.layout_moves.specs.Answers.{moves_in, get_moves, move_numbers, get_move_numbers}
use Rattle.layout_moves.specs.Theorems.{OwnMoves, LayoutsHaveMoves, MovesReachEveryKey}

own_moves : (l : Layout) → Parts l → (t : Table ℤ) × OwnMoves l t
unfolding moves_in
own_moves l p =
    let P = l.octave in
    let G = l.generator in
    let b = moves_stand_beside_the_pattern P G l.letters l.pattern p.pattern in (
      b.1,
      record {
        are = b.3;
        at = (b.0, b.2);
        by_pattern = patterns_tell_their_moves P G b.0 l.pattern b.1 p.positive b.2;
        board = λ lP lG. moves_reach_their_steps P G b.0 l.pattern b.1 p.positive lP lG b.2;
        reach = moves_reach_all P G b.0 l.pattern b.1 p.positive b.2;
      },
    )

pub layouts_have_moves : LayoutsHaveMoves
layouts_have_moves r l e = own_moves l (accepted r l e)

-- ---- every key: G × degree + cycle is whole octaves from it

module _ (P G : ℕ) (h : 0 < P) (key : ℤ) where
  octaves_away : Apart P key (pos G *ℤ pos (key_degree P G key) +ℤ pos (key_cycle P G key))
  unfolding sounds
  octaves_away =
      remainder→apart P h key (pos G *ℤ pos (key_degree P G key) +ℤ pos (key_cycle P G key))
      (sym (degree_sounds_key P G h key (pos (key_degree P G key)) (pos 0, same)))
    where
      same : pos (key_degree P G key) ≡ pos (key_degree P G key) +ℤ pos (reduced P G) *ℤ pos 0
      same =
          rep_agree (rep_pos (key_degree P G key)) (rep_add (rep_pos (key_degree P G key)) (rep_mul (reduced P G) (rep_pos 0)))
          (omega arith)

  -- the same, with the octaves first
  made_of_octaves : (z : ℤ) → key ≡ pos G *ℤ pos (key_degree P G key) +ℤ pos (key_cycle P G key) +ℤ pos P *ℤ z
      → key ≡ z *ℤ pos P +ℤ pos (key_degree P G key) *ℤ pos G +ℤ pos (key_cycle P G key)
  made_of_octaves z e =
      e
      ∙ rep_agree
      (rep_add (rep_add (rep_mul G (rep_pos (key_degree P G key))) (rep_pos (key_cycle P G key))) (rep_mul P (rep_self z)))
      (rep_add (rep_add (rep_mul P (rep_self z)) (rep_mul G (rep_pos (key_degree P G key)))) (rep_pos (key_cycle P G key)))
      (omega arith)
      ∙ ap (λ (y : ℤ). y +ℤ pos G *ℤ pos (key_degree P G key) +ℤ pos (key_cycle P G key)) (*ℤ_comm (pos P) z)
      ∙ ap (λ (y : ℤ). z *ℤ pos P +ℤ y +ℤ pos (key_cycle P G key)) (*ℤ_comm (pos G) (pos (key_degree P G key)))

pub moves_reach_every_key : MovesReachEveryKey
moves_reach_every_key r l e key =
    let P = l.octave in
    let G = l.generator in
    let p = accepted r l e in
    let own = own_moves l p in
    let away = octaves_away P G p.positive key in
    let way = own.1.reach away.0 (pos (key_degree P G key)) in (
      way.primary_moves_lem,
      way.secondary_moves_lem,
      made_of_octaves P G p.positive key away.0 away.1
          ∙ ap (λ (y : ℤ). y +ℤ pos (key_cycle P G key)) (sym way.key),
    )

-- ---- the call

-- the pattern that the questions found is on the walk
pub on_walk : (l : Layout) → Parts l → OnWalk l.octave l.generator l.pattern
on_walk l p = let own = own_moves l p in (own.1.at.0, own.1.at.1.pattern)

module _ (r : IsomorphicLayout) (before : Table ℤ) where
  pub moves_refused : (n : ℕ) → refused n ≡ layout_outcome r → Tabled (refused n) (get_mos r) (get_moves r) before before
  unfolding get_moves
  moves_refused n e = tabled_refused n (mos_refused r n e) (sym (of_refused r (λ (l : Layout). given (moves_in l)) n e))

  pub moves_given : (l : Layout) → given l ≡ layout_outcome r → (t : Table ℤ) → t ≡ pattern_moves l.octave l.generator l.pattern
      → Tabled (given l.pattern) (get_mos r) (get_moves r) before t
  unfolding get_moves
  moves_given l e t is =
      let own = own_moves l (accepted r l (sym e)) in
      tabled_moves t (mos_given r l e)
      (sym (of_given r (λ (k : Layout). given (moves_in k)) l e)
      ∙ ap given (own.1.are ∙ ap Some (own.1.by_pattern ∙ sym is)))

-- ---- the numbers in a slice

module _ (r : IsomorphicLayout) (xs : List ℤ) where
  pub numbers_refused : (n : ℕ) → refused n ≡ layout_outcome r → Filled (in_room (length xs) (get_move_numbers r)) (refused n) xs xs
  unfolding get_move_numbers
  numbers_refused n e =
      filled_refused n xs (ap (in_room (length xs)) (sym (of_refused r (λ (l : Layout). given (move_numbers (moves_in l))) n e))) refl

  module _ (l : Layout) (e : given l ≡ layout_outcome r) where
    abbrev own : Table ℤ
    own = pattern_moves l.octave l.generator l.pattern

    asked : get_move_numbers r ≡ given (numbers_of own)
    unfolding get_move_numbers
    asked =
        let mine = own_moves l (accepted r l (sym e)) in
        sym (of_given r (λ (k : Layout). given (move_numbers (moves_in k))) l e)
        ∙ ap (λ (o : Option (Table ℤ)). given (move_numbers o)) (mine.1.are ∙ ap Some mine.1.by_pattern)

    pub numbers_short : length xs < 4 → Filled (in_room (length xs) (get_move_numbers r)) (refused 10) xs xs
    numbers_short h = filled_short xs (numbers_of own) asked h

    pub numbers_given : 4 ≤ length xs → (t : Table ℤ) → t ≡ own → {ys : List ℤ} {next : ℕ} → Wrote xs 0 (numbers_of t) ys next
        → Filled (in_room (length xs) (get_move_numbers r)) (given next) xs ys
    numbers_given room t is {ys} {next} w =
        filled_whole asked room (subst (λ (u : Table ℤ). Wrote xs 0 (numbers_of u) ys next) is w)
