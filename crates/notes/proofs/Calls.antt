-- From the parts to what the calls answer: one law for each way in which a call ends.
use Prim.Native.Nat.{ℕ, ◌≤◌, ◌<◌}
use mathlib.Core.Path.{◌≡◌, sym, ap, ◌∙◌, subst}
use mathlib.Core.Bool.{Bool}
use mathlib.Core.List.{List}
use lib.ListN.{length}
use Rattle.answer.specs.Outcome.{Outcome, given, refused}
use Rattle.answer.specs.Lent.{held_in, Filled}
use Rattle.genchain.specs.Chains.{chain_of, row_of, letters_in}
use Rattle.genchain.specs.declared.rows.ChainRow.{ChainRow}
use Rattle.genchain.proofs.TableRows.{table_row, row_letters}
use Rattle.genchain.proofs.Calls.{no_chain_lem, some_chain}
use Rattle.pergen.specs.declared.Accidentals.{Accidentals}
use Rattle.notes.specs.Names.{name_text}
use Rattle.notes.specs.Answers.{chain_name, name_length_outcome, name_outcome}
use Rattle.notes.specs.Parts.{plan_text, Planned}
use Rattle.notes.specs.declared.plans.NamePlan.{NamePlan}

module _ (code : ℕ) (sf : Bool) (a : Accidentals) where
  module _ (h : 6 ≤ code) where
    pub length_no_chain : refused 1 ≡ name_length_outcome code sf a
    unfolding name_length_outcome
    length_no_chain = sym (no_chain_lem code _ h)

    pub name_no_chain : (room : ℕ) → name_outcome code sf a room ≡ refused 1
    unfolding name_outcome
    name_no_chain room = no_chain_lem code _ h

  module _ (h : code < 6) where
    -- the text of a plan that is made from the chain's row
    pub planned_name : (row : ChainRow) (p : NamePlan) → row ≡ row_of (chain_of code) → Planned (letters_in row) sf a p → plan_text p ≡ chain_name code sf a
    unfolding chain_name
    planned_name row p e q =
        q.text ∙ ap (λ (l : List ℕ). name_text l sf a) (row_letters row (table_row code row h e))

    pub length_given : (n : ℕ) → n ≡ length (chain_name code sf a) → given n ≡ name_length_outcome code sf a
    unfolding name_length_outcome
    length_given n e = ap given e ∙ sym (some_chain code _ h)

    -- the text of the plan, held or not, is the answer
    pub name_in_room : (p : NamePlan) → plan_text p ≡ chain_name code sf a → {xs ys : List ℕ} {o : Outcome ℕ}
        → Filled (held_in (length xs) (plan_text p)) o xs ys → Filled (name_outcome code sf a (length xs)) o xs ys
    unfolding name_outcome
    name_in_room p is {xs} {ys} {o} f =
        subst (λ (outcome : Outcome (List ℕ)). Filled outcome o xs ys)
        (ap (held_in (length xs)) is ∙ sym (some_chain code (held_in (length xs) (chain_name code sf a)) h)) f
