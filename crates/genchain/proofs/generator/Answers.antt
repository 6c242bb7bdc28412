-- Questions 1 and 2, then the rule of the chain that the code names.
use Prim.Native.Nat.{ℕ}
use mathlib.Core.Path.{sym, ap, ◌∙◌}
use native.Mathlib.Omega.{arith}
use Rattle.answer.proofs.Passing.{refusal_asked}
use Rattle.genchain.specs.Chains.{chain_of}
use Rattle.genchain.proofs.Calls.{generator_no_chain, generator_no_octave, generator_by_chain, chains_of_fifths}
use Rattle.genchain.proofs.generator.Goals as goal

pub returns-in_err-asked : goal.returns-in_err-asked
returns-in_err-asked c =
    refusal_asked _ _ _ c.from_residual.ensures c.in_err-asked.ensures.0 ∙ generator_no_chain _ _ _ c.in_err-asked.ensures.1

pub returns-then-octave-eq0 : goal.returns-then-octave-eq0
returns-then-octave-eq0 c = generator_no_octave _ _ _ c.in_ok-asked.ensures c.if-octave-eq0.true

pub returns-in-3 : goal.returns-in-3
unfolding chain_of
returns-in-3 c =
    let a = c.args in
    c.third_of_fourth.ensures
    ∙ ap (λ (code : ℕ). (chain_of code).generator a.octave a.tritave) (sym c.in-3.is)
    ∙ generator_by_chain _ _ _ c.in_ok-asked.ensures c.if-octave-eq0.false

pub returns-in-4 : goal.returns-in-4
unfolding chain_of
returns-in-4 c =
    let a = c.args in
    c.quarter_of_fifth.ensures
    ∙ ap (λ (code : ℕ). (chain_of code).generator a.octave a.tritave) (sym c.in-4.is)
    ∙ generator_by_chain _ _ _ c.in_ok-asked.ensures c.if-octave-eq0.false

pub returns-in-5 : goal.returns-in-5
unfolding chain_of
returns-in-5 c =
    let a = c.args in
    c.octave_less_sixth.ensures
    ∙ ap (λ (code : ℕ). (chain_of code).generator a.octave a.tritave) (sym c.in-5.is)
    ∙ generator_by_chain _ _ _ c.in_ok-asked.ensures c.if-octave-eq0.false

pub returns-in_default : goal.returns-in_default
returns-in_default c =
    let a = c.args in
    let no3 = c.in_default.in_default-own.rest.0.0.1 in
    let no4 = c.in_default.in_default-own.rest.0.1 in
    let no5 = c.in_default.in_default-own.rest.1 in
    let below = c.in_ok-asked.ensures in
    c.fifth.ensures
    ∙ chains_of_fifths a.code _ _ (omega (arith, below))
    ∙ generator_by_chain _ _ _ below c.if-octave-eq0.false
