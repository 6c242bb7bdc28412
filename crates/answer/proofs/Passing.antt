-- What `?` hands on: the refusal of a call within, as it came.
use mathlib.Core.Path.{◌≡◌, ap, ◌∙◌}
use Rattle.std.specs.Prelude.{Result, Ok, Err, IsErr, IsErrAnd}
use Rattle.answer.specs.Outcome.{refused}
use Rattle.answer.specs.Refusals.{number_of, outcome_of}
use Rattle.answer.specs.declared.Refusal.{Refusal}

-- the refusal q, in a result of any type
pub passed_on : {A : Type 0} (q : Refusal) (r : Result A Refusal) → IsErr r × IsErrAnd r (λ (e : Refusal). e ≡ q) → r ≡ Err q
passed_on q (Ok a) h = absurd h.1
passed_on q (Err e) h = ap Err h.1

-- .. and what it means
pub refusal_passed : {A : Type 0} (q : Refusal) (r : Result A Refusal) → IsErr r × IsErrAnd r (λ (e : Refusal). e ≡ q)
    → outcome_of r ≡ refused (number_of q)
refusal_passed q r h = ap outcome_of (passed_on q r h)

-- .. where it is known which refusal it is
pub refusal_asked : {A : Type 0} (q k : Refusal) (r : Result A Refusal) → IsErr r × IsErrAnd r (λ (e : Refusal). e ≡ q) → q ≡ k
    → outcome_of r ≡ refused (number_of k)
refusal_asked q k r h e = refusal_passed q r h ∙ ap (λ (x : Refusal). refused (number_of x)) e
