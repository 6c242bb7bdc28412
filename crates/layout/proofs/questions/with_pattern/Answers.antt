-- The search from the genesis, the pattern that it found, and the start.
use mathlib.Core.Path.{sym, ◌∙◌}
use native.Mathlib.Nat.{mod-lt}
use native.Mathlib.Omega.{arith}
use Rattle.mos.proofs.Theorems.{made_patterns}
use Rattle.layout.proofs.Finding.{generated, ask_given, walk_met, no_start, walk_without}
use borrow.Author.Rules.{rules}
use Rattle.layout.proofs.questions.with_pattern.Goals as goal

pub within_octave-step-requires : goal.within_octave-step-requires
within_octave-step-requires c = (generated _ _ _ _ c.requires.1).positive

pub overflow_sub-rest : goal.overflow_sub-rest
overflow_sub-rest c = omega (arith, c.within_octave-step.ensures, mod-lt c.args.generator (generated _ _ _ _ c.requires.1).positive)

pub first_with-requires : goal.first_with-requires
first_with-requires c = rw c.within_octave-step.ensures (made_patterns.of_genesis _ _ (generated _ _ _ _ c.requires.1).positive (search rules))

pub returns-in_default : goal.returns-in_default
returns-in_default c =
    walk_without c.args.layout _ c.requires.0 _ _ c.within_octave-step.ensures
    (sym c.in_default.is ∙ c.first_with.ensures)

pub returns-then-num_letters-start : goal.returns-then-num_letters-start
returns-then-num_letters-start c =
    no_start c.args.layout _ c.requires.0 _ _ c.within_octave-step.ensures _
    (sym c.in-Some.is ∙ c.first_with.ensures) c.if-num_letters-start.true

pub returns : goal.returns
returns c =
    walk_met c.args.layout _ c.requires.0 _ _ c.within_octave-step.ensures _
    (sym c.in-Some.is ∙ c.first_with.ensures) c.if-num_letters-start.false

pub invariant_of-result : goal.invariant_of-result
invariant_of-result c =
    let met = walk_met c.args.layout _ c.requires.0 _ _ c.within_octave-step.ensures _ (sym c.in-Some.is ∙ c.first_with.ensures) c.if-num_letters-start.false in
    record { laid = sym (ask_given c.args.layout _ _ (sym c.requires.1) met) }
