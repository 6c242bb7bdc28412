-- From the search to what the calls answer: one law for each way in which a call ends.
use Rattle.std.specs.Prelude.{Result}
use Rattle.answer.specs.declared.Refusal.{Refusal}
use Prim.Native.Nat.{ℕ}
use mathlib.Core.Path.{◌≡◌, sym, ap, ◌∙◌, subst}
use mathlib.Core.List.{List}
use lib.IntN.{ℤ, pos}
use lib.ListN.{length}
use Rattle.answer.specs.Outcome.{Outcome, given, refused, and_then}
use Rattle.answer.specs.Lent.{held_in, in_room, counted, Filled}
use Rattle.genchain.specs.declared.rows.ChainRow.{ChainRow}
use Rattle.genchain.specs.Chains.{chain_of, row_of}
use Rattle.math.specs.Division.{remainder}
use Rattle.notes.specs.Names.{name_text}
use Rattle.notes.specs.Parts.{plan_text}
use Rattle.notes.specs.declared.plans.NamePlan.{NamePlan}
use Rattle.pergen.specs.declared.Accidentals.{Accidentals}
use Rattle.pergen.proofs.Keys.{key_round}
use Rattle.layout.specs.Layouts.{Layout, layout_outcome, accidentals_in, sharp_first}
use Rattle.layout.specs.ScaleNames.{scale_name}
use Rattle.layout.specs.Names.{name_in}
use Rattle.layout.specs.Answers.{of_layout, create_outcome, get_genchain, get_pergen, get_mos, get_accidentals, get_scale_name, get_note_name}
use Rattle.layout.specs.Parts.{layout_of, Laid, layout_in, PlannedIn, KeyFound}
use Rattle.layout.specs.declared.IsomorphicLayout.{IsomorphicLayout}
use Rattle.layout.specs.declared.one_key.OneKey.{OneKey}
use Rattle.layout.specs.declared.parts.Found.{Found}
use Rattle.layout.specs.declared.prepared.Prepared.{Prepared}
use Rattle.layout.proofs.Finding.{Parts, accepted, chain_is}

module _ {A : Type 0} (r : IsomorphicLayout) (next : Layout → Outcome A) where
  pub of_refused : (n : ℕ) → refused n ≡ layout_outcome r → refused n ≡ of_layout r next
  of_refused n e = ap (λ (o : Outcome Layout). and_then o next) e

  pub of_given : (l : Layout) → given l ≡ layout_outcome r → next l ≡ of_layout r next
  of_given l e = ap (λ (o : Outcome Layout). and_then o next) e

-- what is known of a layout that was found
module _ (r : IsomorphicLayout) (l : Layout) (e : given l ≡ layout_outcome r) where
  pub parts_of : Parts l
  parts_of = accepted r l (sym e)

  pub laid_of : Laid l
  laid_of = record { caller = r; accepted = sym e }

  -- the row that was read for the search is that of its chain
  pub row_found : (row : ChainRow) → row ≡ row_of (chain_of r.genchain) → row ≡ row_of (chain_of l.chain)
  row_found row is = is ∙ ap (λ (code : ℕ). row_of (chain_of code)) (sym (chain_is r l (sym e)))

-- a planned name is the key's
pub text_planned : (l : Layout) (key : ℤ) (plan : NamePlan) → PlannedIn l key plan → plan_text plan ≡ name_in l key
unfolding name_in
text_planned l key plan q = q.text

-- the layout that was found, made ready
module _ (r : IsomorphicLayout) (f : Found) (e : given (layout_of f) ≡ layout_outcome r) (p : Prepared) where
  pub ready_given : p.found ≡ f → given (layout_in p) ≡ layout_outcome r
  ready_given is = ap (λ (x : Found). given (layout_of x)) is ∙ e

-- one key that was asked for, as the caller has its number
pub asked_back : (r : IsomorphicLayout) (k key : ℤ) → k ≡ key → (x y : Result OneKey Refusal) → x ≡ y → KeyFound r k x → KeyFound r key y
asked_back r k key e x y f h = subst (λ (i : ℤ). KeyFound r i y) e (subst (KeyFound r k) f h)

-- ---- each call

module _ (r : IsomorphicLayout) (n : ℕ) (e : refused n ≡ layout_outcome r) where
  pub create_refused : refused n ≡ create_outcome r
  unfolding create_outcome
  create_refused = of_refused r _ n e

  pub genchain_refused : refused n ≡ get_genchain r
  unfolding get_genchain
  genchain_refused = of_refused r _ n e

  pub pergen_refused : refused n ≡ get_pergen r
  unfolding get_pergen
  pergen_refused = of_refused r _ n e

  pub mos_refused : refused n ≡ get_mos r
  unfolding get_mos
  mos_refused = of_refused r _ n e

  pub accidentals_refused : (key : ℤ) → refused n ≡ get_accidentals r key
  unfolding get_accidentals
  accidentals_refused key = of_refused r _ n e

  pub scale_refused : refused n ≡ get_scale_name r
  unfolding get_scale_name
  scale_refused = of_refused r _ n e

  pub name_refused : (key : ℤ) → refused n ≡ get_note_name r key
  unfolding get_note_name
  name_refused key = of_refused r _ n e

module _ (r : IsomorphicLayout) (l : Layout) (e : given l ≡ layout_outcome r) where
  pub create_given : given r ≡ create_outcome r
  unfolding create_outcome
  create_given = of_given r _ l e

  pub genchain_given : given l.chain ≡ get_genchain r
  unfolding get_genchain
  genchain_given = of_given r _ l e

  pub pergen_given : given (record { period = l.octave; generator = l.generator }) ≡ get_pergen r
  unfolding get_pergen
  pergen_given = of_given r _ l e

  pub mos_given : given l.pattern ≡ get_mos r
  unfolding get_mos
  mos_given = of_given r _ l e

  -- of a key that was brought round the octave
  module _ (key : ℤ) (i : ℕ) (round : i ≡ remainder key l.octave) where
    same_spellings : accidentals_in l (pos i) ≡ accidentals_in l key
    unfolding accidentals_in
    same_spellings = key_round l.octave l.generator (parts_of r l e).positive l.letters l.start key i round

    pub same_name : name_in l (pos i) ≡ name_in l key
    unfolding name_in
    same_name = ap (name_text (chain_of l.chain).letters (sharp_first l)) same_spellings

    pub accidentals_given : (a : Accidentals) → a ≡ accidentals_in l (pos i) → given a ≡ get_accidentals r key
    unfolding get_accidentals
    accidentals_given a q = ap given (q ∙ same_spellings) ∙ of_given r _ l e

  pub scale_given : given (scale_name l.chain l.pattern) ≡ get_scale_name r
  unfolding get_scale_name
  scale_given = of_given r _ l e

  pub name_given : (key : ℤ) → given (name_in l key) ≡ get_note_name r key
  unfolding get_note_name
  name_given key = of_given r _ l e

  module _ (key : ℤ) (i : ℕ) (round : i ≡ remainder key l.octave) where
    pub name_held : (room : ℕ) → held_in room (name_in l (pos i)) ≡ in_room room (get_note_name r key)
    name_held room = ap (held_in room) (same_name key i round) ∙ ap (in_room room) (name_given key)

    pub name_measured : (n : ℕ) → n ≡ length (name_in l (pos i)) → given n ≡ counted (get_note_name r key)
    name_measured n q = ap given (q ∙ ap length (same_name key i round)) ∙ ap counted (name_given key)

-- a text that is held, said otherwise
pub filled_as : {o p : Outcome (List ℕ)} {a : Outcome ℕ} {xs ys : List ℕ} → o ≡ p → Filled o a xs ys → Filled p a xs ys
filled_as {a = a} {xs = xs} {ys = ys} e f = subst (λ (x : Outcome (List ℕ)). Filled x a xs ys) e f

pub refused_in_room : (room n : ℕ) (o : Outcome (List ℕ)) → refused n ≡ o → in_room room o ≡ refused n
refused_in_room room n o e = sym (ap (λ (x : Outcome (List ℕ)). and_then x (held_in room)) e)
