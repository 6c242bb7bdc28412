-- From what was asked to what the calls answer: the parts of a mapping, and one law for each way in which a call ends.
use Prim.Native.Nat.{ℕ, ◌+◌, ◌*◌, ◌≤◌}
use native.Mathlib.Omega.{arith}
use mathlib.Core.Bool.{Bool, true}
use mathlib.Core.Path.{◌≡◌, refl, sym, ap, ◌∙◌}
use mathlib.Core.List.{List, ◌++◌}
use lib.ListN.{length, length-append}
use lib.Dec.{eqb, leb}
use borrow.Author.Tests.{le-leb}
use Rattle.answer.specs.Outcome.{Outcome, given, refused, and_then}
use Rattle.answer.specs.Lent.{held_in, in_room, counted}
use Rattle.text.specs.Writing.{joined}
use Rattle.text.proofs.Joined.{joined_none, joined_same, length_joined_more}
use Rattle.layout.specs.declared.IsomorphicLayout.{IsomorphicLayout}
use Rattle.layout.specs.Layouts.{Layout, layout_outcome}
use Rattle.layout.proofs.Calls.{of_refused, of_given}
use Rattle.layout_layers.specs.KeyLayers.{number_in}
use Rattle.kbm_text.specs.Reading.{read_outcome, read_in}
use Rattle.kbm_text.specs.Written.{head_text, entry_line, kbm_text}
use Rattle.kbm_text.specs.Parts.{LengthUpTo}
use Rattle.kbm_text.proofs.LineByLine.{mappings_fit}
use Rattle.layout_kbm.specs.Mappings.{natural, mapping_in, get_kbm, get_mapped_keys}
use Rattle.layout_kbm.specs.Parts.{entry_in}

-- ---- the file of a mapping

-- two choices that agree on every key have one text
pub same_choice : (octave : ℕ) (f g : ℕ → Bool) → ((key : ℕ) → f key ≡ g key) → kbm_text octave f ≡ kbm_text octave g
unfolding kbm_text
same_choice octave f g e =
    ap (λ (t : List ℕ). head_text octave ++ t)
    (joined_same (λ key. entry_line key (f key)) (λ key. entry_line key (g key)) octave (λ key h. ap (entry_line key) (e key)))

module _ (l : Layout) where
  pub file_parts : mapping_in l ≡ head_text l.octave ++ joined (entry_in l) l.octave
  unfolding mapping_in kbm_text entry_in
  file_parts = refl

  pub file_length : length (mapping_in l) ≡ length (head_text l.octave) + length (joined (entry_in l) l.octave)
  file_length = ap length file_parts ∙ length-append (head_text l.octave) (joined (entry_in l) l.octave)

  pub entry_is : (key : ℕ) (b : Bool) → b ≡ natural l key → entry_line key b ≡ entry_in l key
  unfolding entry_in
  entry_is key b e = ap (entry_line key) e

  pub natural_by : (key number : ℕ) → number ≡ number_in l key → eqb number 0 ≡ natural l key
  unfolding natural
  natural_by key number e = ap (λ (n : ℕ). eqb n 0) e

  pub surely_held : (room : ℕ) → l.octave ≤ 65535 → 6 * l.octave + 35 ≤ room → true ≡ leb (length (mapping_in l)) room
  unfolding mapping_in
  surely_held room few h = sym (le-leb (length (mapping_in l)) room (omega (arith, mappings_fit l.octave (natural l) few, h)))

-- ---- measuring the entries

pub measured_none : (f : ℕ → List ℕ) → LengthUpTo (6 * 0) (joined f 0) 0
measured_none f = record { is = sym (ap length (joined_none f)); few = omega arith }

pub measured_more : (f : ℕ → List ℕ) (k n r : ℕ) {text : List ℕ} → LengthUpTo (6 * k) (joined f k) n → text ≡ f k → LengthUpTo 6 text r
    → LengthUpTo (6 * (k + 1)) (joined f (k + 1)) (n + r)
measured_more f k n r {text} l e m =
    record { is = omega (arith, l.is, m.is, ap length e, length_joined_more f k); few = omega (arith, l.few, m.few) }

-- ---- what is asked of a layout

module _ (r : IsomorphicLayout) (n : ℕ) (e : refused n ≡ layout_outcome r) where
  pub kbm_refused : refused n ≡ get_kbm r
  unfolding get_kbm
  kbm_refused = of_refused r _ n e

  pub keys_refused : (text : List ℕ) → refused n ≡ get_mapped_keys r text
  unfolding get_mapped_keys
  keys_refused text = of_refused r _ n e

module _ (r : IsomorphicLayout) (l : Layout) (e : given l ≡ layout_outcome r) where
  pub kbm_given : given (mapping_in l) ≡ get_kbm r
  unfolding get_kbm
  kbm_given = of_given r _ l e

  pub keys_given : (text : List ℕ) → read_outcome l.octave text ≡ get_mapped_keys r text
  unfolding get_mapped_keys
  keys_given text = of_given r (λ (x : Layout). read_outcome x.octave text) l e

  pub keys_in_room : (text : List ℕ) (room : ℕ) → read_in l.octave text room ≡ in_room room (get_mapped_keys r text)
  keys_in_room text room = ap (λ (o : Outcome (List ℕ)). and_then o (held_in room)) (keys_given text)

  pub kbm_counted : (n : ℕ) → n ≡ length (mapping_in l) → given n ≡ counted (get_kbm r)
  kbm_counted n q = ap given q ∙ ap counted kbm_given

  pub kbm_in_room : (room : ℕ) → held_in room (mapping_in l) ≡ in_room room (get_kbm r)
  kbm_in_room room = ap (λ (o : Outcome (List ℕ)). and_then o (held_in room)) kbm_given
