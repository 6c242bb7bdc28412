-- The genesis of the generator, or that there is none.
use Rattle.answer.specs.Refusals.{outcome_of}
use mathlib.Core.Path.{sym, ap, ◌∙◌}
use Rattle.passed_patterns.proofs.Outputs.{genesis_is_pattern, from_refused, from_given}
use borrow.Author.Rules.{rules}
use Rattle.passed_patterns.proofs.print_from.Goals as goal

pub print_search-requires : goal.print_search-requires
print_search-requires c =
    genesis_is_pattern _ _ (search rules) _ (sym (ap outcome_of c.in-Ok.is) ∙ c.new_genesis.ensures)

pub returns-in-Err : goal.returns-in-Err
returns-in-Err c =
    from_refused _ _ _ _
    (sym (ap outcome_of c.in-Err.is) ∙ c.new_genesis.ensures) c.print_refusal.ensures

pub returns-in-Ok : goal.returns-in-Ok
returns-in-Ok c =
    from_given _ _ _ _ (sym (ap outcome_of c.in-Ok.is) ∙ c.new_genesis.ensures) _
    (c.from.ensures ∙ c.numbers-chain.ensures.0) c.print_search.ensures
