-- The length of an octave's names by that of the bare names, and its bounds.
use Prim.Native.Nat.{ℕ, ◌+◌, ◌*◌, ◌-◌, ◌/◌, ◌≤◌}
use mathlib.Core.Path.{◌≡◌, sym, ap, ◌∙◌}
use mathlib.Core.List.{List}
use native.Mathlib.Nat.{mul-le-mul}
use native.Mathlib.Omega.{arith}
use lib.IntN.{pos}
use lib.ListN.{length}
use Rattle.text.specs.Writing.{joined}
use Rattle.layout.specs.declared.prepared.Prepared.{Prepared}
use Rattle.layout.specs.Names.{listed_name}
use Rattle.layout.specs.Parts.{layout_in}
use Rattle.layout.proofs.Readiness.{parts_ready}
use Rattle.layout_book.specs.Parts.{bare_at, NamesMeasured}
use Rattle.layout_book.proofs.NameBounds.{name_short}
use Rattle.layout_book.proofs.ReadyNumbers.{Numbers}
use Rattle.layout_book.proofs.BareNames.{names_length}
use Rattle.layout_book.proofs.Rounds.{short_texts}

module _ (p : Prepared) (h : Numbers p) where
  abbrev degrees : ℕ
  degrees = p.solved.reduced_period

  abbrev cycles : ℕ
  cycles = p.solved.num_cycles

  abbrev name : ℕ → List ℕ
  name = listed_name (layout_in p)

  -- the names of the first keys
  pub names_short : (keys : ℕ) → length (joined name keys) ≤ 39325 * keys
  names_short keys =
      short_texts 39325 name keys (λ k l. name_short (layout_in p) (parts_ready p h.ready) h.few_keys (pos k))

  pub few_stars : cycles * (cycles - 1) ≤ 13107 * 13107
  few_stars = mul-le-mul {n₂ = 13107} {m₂ = 13107} h.few_cycles (omega (arith, h.few_cycles))

  module _ (bare : ℕ) (is : bare ≡ length (joined (bare_at p) degrees)) where
    whole : cycles * bare + degrees * (cycles * (cycles - 1) / 2) ≡ length (joined name p.found.octave)
    whole =
        ap (λ (x : ℕ). cycles * x + degrees * (cycles * (cycles - 1) / 2)) is
        ∙ sym (names_length p h)
        ∙ ap (λ (k : ℕ). length (joined name k)) (sym h.octave_is)

    pub names_parts : cycles * bare + degrees * (cycles * (cycles - 1) / 2) ≤ 39325 * 65535
    names_parts = omega (arith, whole, names_short p.found.octave, h.few_keys)

    pub names_measured : NamesMeasured p (cycles * bare + degrees * (cycles * (cycles - 1) / 2))
    names_measured = record { length_is = whole; bound = names_parts }
